-- Internal: what the forms owe the decoder.
-- What a form's function answers: what its row reads from the position behind the opcode on, or, where the form has a ModRM, what is read behind
-- that. It counts its bytes from the front of the slice: they end at the position that it says to have taken.
use Rattle.std.specs.Prelude.{ℕ, ◌-◌, List, Result, Ok, Err, None}
use Rattle.mrc_instruction.specs.declared.reading.Reading.{Reading}
use Rattle.mrc_instruction.specs.declared.reading.Reading.TheVariants.{One}
use Rattle.mrc_instruction.specs.declared.operand.Operand.{Operand}
use Rattle.mrc_instruction.specs.declared.operand.OperandSize.{OperandSize}
use Rattle.mrc_instruction.specs.declared.instruction.Instruction.{Instruction}
use Rattle.mrc_instruction.specs.declared.instruction.Reach.{Reach}
use Rattle.mrc_instruction.specs.Instruction.{reached, wrote}
use Rattle.mrc_instruction.specs.Reader.{Outcome, mapped, after, read_from}
use Rattle.mrc_instruction.specs.Values.{Values, carrying, refused_with}
use Rattle.mrc_instruction.specs.Read.{Read, told, taking}
use Rattle.mrc_instruction.specs.declared.errors.Refusal.{Refusal}
use Rattle.mrc_rules.specs.declared.Answer.{Answer}
use Rattle.mrc_rules.specs.Answer.{answer}
use Rattle.mrc_rules.specs.Forms.{Tail, Row, ModRMForm, rest, behind}
use Rattle.mrc_rules.specs.Prefixes.{made}

-- the instruction of a tail alone
abbrev pub unprefixed : Tail → Instruction
unprefixed i = made i None i.operands

-- read from a position on
abbrev pub form_read : ℕ → Outcome Tail → Read Instruction
form_read at o = told (mapped unprefixed (after at o))

-- behind the opcode
abbrev pub read_in : Reading → ℕ → Row → ℕ → List ℕ → Read Instruction
read_in x opcode row at l = form_read at (read_from (rest x opcode row) l)

-- behind a ModRM, by the operand of a size that its mod and rm name and by its byte
abbrev pub read_behind_in : Reading → ModRMForm → OperandSize → Operand → ℕ → ℕ → List ℕ → Read Instruction
read_behind_in x form size operand byte at l = form_read at (read_from (behind x form size operand byte) l)

-- the same, of a row and of a form that both readings read alike
abbrev pub read_by : ℕ → Row → ℕ → List ℕ → Read Instruction
read_by = read_in One

abbrev pub read_behind : ModRMForm → OperandSize → Operand → ℕ → ℕ → List ℕ → Read Instruction
read_behind = read_behind_in One

-- the same answer, with how far its instruction goes
abbrev pub reached_answer : Reach → Read Instruction → Read Instruction
reached_answer reach (Ok t) = Ok (taking (reached reach t.value) t.taken)
reached_answer reach (Err e) = Err e

-- the same answer, with the displacement bytes that its instruction was written with
abbrev pub wrote_answer : ℕ → Read Instruction → Read Instruction
wrote_answer written (Ok t) = Ok (taking (wrote written t.value) t.taken)
wrote_answer written (Err e) = Err e

abbrev pub reached_result : Reach → Result Instruction Refusal → Result Instruction Refusal
reached_result reach (Ok i) = Ok (reached reach i)
reached_result reach (Err e) = Err e

abbrev pub wrote_result : ℕ → Result Instruction Refusal → Result Instruction Refusal
wrote_result written (Ok i) = Ok (wrote written i)
wrote_result written (Err e) = Err e

-- the two of a whole answer, its counts as they are
abbrev pub reached_whole : Reach → Answer → Answer
reached_whole reach a = answer (reached_result reach a.result) a.taken a.prefixes

abbrev pub wrote_whole : ℕ → Answer → Answer
wrote_whole written a = answer (wrote_result written a.result) a.taken a.prefixes

-- in numbers, by the position that it was read from
abbrev pub form_values : ℕ → Read Instruction → Values
form_values at (Ok t) = carrying 0 0 (t.taken - at) 0
form_values at (Err e) = refused_with e.refusal (e.taken - at) 0
