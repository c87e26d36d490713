-- Internal: what the parts of the decoder owe each other.
-- Answers with no prefix: what a tail came to, and what a form's function answers, counted from its opcode on.
use Rattle.std.specs.Prelude.{ℕ, ◌-◌, Ok, Err}
use Rattle.mrc_instruction.specs.declared.instruction.Instruction.{Instruction}
use Rattle.mrc_instruction.specs.Reader.{Outcome, got, stopped, more}
use Rattle.mrc_instruction.specs.Read.{Read}
use Rattle.mrc_rules.specs.declared.Answer.{Answer}
use Rattle.mrc_rules.specs.Answer.{decodes, refuses}
use Rattle.mrc_rules.specs.Forms.{Tail}
use Rattle.mrc_forms.specs.Answers.{unprefixed}

-- a tail's own answer
abbrev pub alone : Outcome Tail → Answer
alone (got i n) = decodes (unprefixed i) n 0
alone (stopped e n) = refuses e n 0

-- behind the opcode, whose byte is taken too
abbrev pub after_opcode : Outcome Tail → Answer
after_opcode o = alone (more o)

-- where a form's answer ends
abbrev pub end_of : Read Instruction → ℕ
end_of (Ok t) = t.taken
end_of (Err e) = e.taken

-- a form's answer, counted from a position on
abbrev pub answer_from : ℕ → Read Instruction → Answer
answer_from at (Ok t) = decodes t.value (t.taken - at) 0
answer_from at (Err e) = refuses e.refusal (e.taken - at) 0
