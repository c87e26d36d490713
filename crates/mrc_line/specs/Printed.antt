-- Rules 12.5 and 12.6: what a displacement that is an operand prints as.
use Rattle.std.specs.Prelude.{ℕ, Bool, cond, ◌==◌}
use Rattle.mrc_instruction.specs.declared.operand.Displacement.{Displacement}
use Rattle.mrc_instruction.specs.declared.operation.Operation.{Operation}
use Rattle.mrc_instruction.specs.declared.operation.Operation.TheVariants.{RET}
use Rattle.mrc_instruction.specs.Operation.{operation_number}
use Rattle.mrc_instruction.specs.Signed.{unsigned_word}
use Rattle.mrc_line.specs.declared.printed.Printed.{Printed}
use Rattle.mrc_line.specs.Target.{target_of}

-- an operation is RET by its number
abbrev pub is_return : Operation → Bool
is_return operation = operation_number operation == operation_number RET

-- rule 12.5: the bytes of the stack that a return counts are the number itself, as a word
abbrev pub stack_bytes : Displacement → ℕ
stack_bytes Displacement.None = 0
stack_bytes (Displacement.Byte d) = unsigned_word d
stack_bytes (Displacement.Word d) = unsigned_word d

-- rule 12.5: the sole operand of an instruction that starts at an offset and takes so many bytes prints as a word
abbrev pub alone : Operation → ℕ → ℕ → Displacement → Printed
alone operation start taken d = Printed.Word (cond (is_return operation) (stack_bytes d) (target_of start taken d))

-- rule 12.6: an operand beside another prints with its sign; no decode has a displacement there
abbrev pub beside : Displacement → Printed
beside d = Printed.Signed d
