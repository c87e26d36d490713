-- What the form readers' answers carry, in numbers. Each promise is an equation, so exactly one answer meets it (`an_equation_settles` of
-- mrc_instruction).
-- Assumes nothing.
use Prim.Native.Nat.{ℕ}
use mathlib.Core.Path.{◌≡◌}
use mathlib.Core.List.{List}
use lib.ListN.{length}
use Rattle.mrc_instruction.specs.declared.operand.OperandSize.{OperandSize}
use Rattle.mrc_instruction.specs.Reader.{Outcome, read_from}
use Rattle.mrc_instruction.specs.Values.{outcome_values, OfReader}
use Rattle.mrc_instruction.specs.Read.{told, read_values}
use Rattle.mrc_instruction.proofs.Values.{reader}
use Rattle.mrc_rules.specs.Forms.{Tail, an_immediate, a_displacement}
use Rattle.mrc_forms.specs.Answers.{form_read, form_values}
use Rattle.mrc_forms.proofs.Values as says

-- the readers of immediates and displacements took what they read, or refuse with 2 and took all that was left
pub readers_carry : (size : OperandSize) (l : List ℕ)
    → OfReader (length l) (read_values (told (read_from (an_immediate size) l))) × OfReader (length l) (read_values (told (read_from (a_displacement size) l)))
readers_carry size l = (reader (an_immediate size) l (says.takes_immediate size), reader (a_displacement size) l (says.takes_displacement size))

-- a form's answer behind a ModRM carries what its outcome does
pub behind_carries : (at : ℕ) (o : Outcome Tail) → form_values at (form_read at o) ≡ outcome_values o
behind_carries = says.form
