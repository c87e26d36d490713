-- Rule 15.8: what the field readers answer as a number: the code, or 65,536 times the refusal's number and its byte.
use Rattle.std.specs.Prelude.{ℕ, ◌+◌, ◌*◌, Result, Ok, Err}
use Rattle.mrc_instruction.specs.declared.errors.Refusal.{Refusal}
use Rattle.mrc_instruction.specs.declared.register.RegisterEncoding.{RegisterEncoding}
use Rattle.mrc_instruction.specs.declared.register.Segment.{Segment}
use Rattle.mrc_instruction.specs.declared.operand.AddressingMode.{AddressingMode}
use Rattle.mrc_instruction.specs.Widths.{words}
use Rattle.mrc_instruction.specs.Values.{Values, refused_with}
use Rattle.mrc_instruction.specs.Register.{register_code, segment_code}
use Rattle.mrc_instruction.specs.Operand.{addressing_code}

abbrev pub refusal_code : Values → ℕ
refusal_code v = words * v.number + v.byte

abbrev pub field_number : {A : Type 0} → (A → ℕ) → Result A Refusal → ℕ
field_number code (Ok a) = code a
field_number code (Err e) = refusal_code (refused_with e 0 0)

abbrev pub register_number : Result RegisterEncoding Refusal → ℕ
register_number = field_number register_code

abbrev pub segment_number : Result Segment Refusal → ℕ
segment_number = field_number segment_code

abbrev pub addressing_number : Result AddressingMode Refusal → ℕ
addressing_number = field_number addressing_code
