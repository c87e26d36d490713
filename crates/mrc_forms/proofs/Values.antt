-- What the answers carry: that of a reader what a reader may say, and that of a form what its outcome says.
-- Assumes nothing.
use mathlib.Core.Path.{◌≡◌, ap}
use Prim.Native.Nat.{ℕ}
use Rattle.mrc_instruction.specs.declared.operand.OperandSize.{OperandSize}
use Rattle.mrc_instruction.specs.declared.operand.OperandSize.TheVariants.{Byte, Word}
use Rattle.mrc_instruction.specs.Reader.{Outcome, got, stopped, a_byte, a_word}
use Rattle.mrc_instruction.specs.Values.{carrying, refused_with, outcome_values}
use Rattle.mrc_instruction.proofs.Ends.{Takes}
use Rattle.mrc_instruction.proofs.Values.{back}
use Rattle.mrc_rules.specs.Forms.{Tail, an_immediate, a_displacement}
use Rattle.mrc_forms.specs.Answers.{form_read, form_values}

pub takes_immediate : (size : OperandSize) → Takes (an_immediate size)
unfolding a_byte a_word
takes_immediate Byte = λ b. tt
takes_immediate Word = λ low high. tt

pub takes_displacement : (size : OperandSize) → Takes (a_displacement size)
unfolding a_byte a_word
takes_displacement Byte = λ b. tt
takes_displacement Word = λ low high. tt

pub form : (at : ℕ) (o : Outcome Tail) → form_values at (form_read at o) ≡ outcome_values o
form at (got i n) = ap (λ k. carrying 0 0 k 0) (back at n)
form at (stopped e n) = ap (λ k. refused_with e k 0) (back at n)
