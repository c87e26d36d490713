-- A reader's answer says in numbers what the outcome says that it was made from; and where a reader refuses nothing by itself, that is what a
-- reader may say.
-- Assumes nothing.
use mathlib.Core.Path.{◌≡◌, refl, ap, ◌∙◌}
use mathlib.Core.Bool.{Bool, true, false, cond}
use mathlib.Core.Logic.{inl, inr}
use mathlib.Core.List.{List}
use Prim.Native.Nat.{ℕ, ◌+◌, ◌-◌, ◌<◌, ◌≤◌}
use native.Mathlib.Omega.{arith}
use borrow.Author.Tests.{le-leb, lt-leb}
use lib.Dec.{ltb}
use lib.ListN.{length, drop, length-drop}
use Rattle.std.specs.Prelude.{Result}
use Rattle.mrc_instruction.specs.declared.errors.Refusal.{Refusal}
use Rattle.mrc_instruction.specs.declared.reading.Reading.{Reading}
use Rattle.mrc_instruction.specs.declared.operand.OperandSize.{OperandSize}
use Rattle.mrc_instruction.specs.declared.mrrm.WrittenModRM.{WrittenModRM}
use Rattle.mrc_instruction.specs.Reader.{Reader, Outcome, got, stopped, taken_by, mapped, read_from, read_at}
use Rattle.mrc_instruction.specs.Values.{Values, carrying, refused_with, outcome_values, OfReader}
use Rattle.mrc_instruction.specs.Field.{field_read, field_values, FieldNamed}
use Rattle.mrc_instruction.specs.Mrrm.{ModRM, a_modrm}
use Rattle.mrc_instruction.specs.Read.{Read, told, read_values, with_written, mrrm_read, MrrmAt, operand_read, operand_values}
use Rattle.mrc_instruction.proofs.Sequence.{taken_le}
use Rattle.mrc_instruction.proofs.Ends.{Takes, Ended, ends, takes_modrm}

module _ {A : Type 0} where
  reader_said : (l : List ℕ) (o : Outcome A) → taken_by o ≤ length l → Ended l o → OfReader (length l) (outcome_values o)
  reader_said l (got a n) h e = inl (h, refl)
  reader_said l (stopped x n) h e = inr (ap (λ y. refused_with y n 0) e.0 ∙ ap (λ k. carrying 2 0 k 0) e.1)

  pub reader_says : (m : Reader A) (l : List ℕ) → Takes m → OfReader (length l) (outcome_values (read_from m l))
  reader_says m l h = reader_said l (read_from m l) (taken_le m l) (ends m l h)

  same_told : (o : Outcome A) → read_values (told o) ≡ outcome_values o
  same_told (got a n) = refl
  same_told (stopped e n) = refl

  pub reader : (m : Reader A) (l : List ℕ) → Takes m → OfReader (length l) (read_values (told (read_from m l)))
  reader m l h = rw (same_told (read_from m l)) (reader_says m l h)

-- what is made of what was got plays no part
module _ {A B : Type 0} (f : A → B) where
  pub same_values : (o : Outcome A) → read_values (told (mapped f o)) ≡ outcome_values o
  same_values (got a n) = refl
  same_values (stopped e n) = refl

  pub answer_says : (m : Reader A) (l : List ℕ) → Takes m → OfReader (length l) (read_values (told (mapped f (read_from m l))))
  answer_says m l h = rw (same_values (read_from m l)) (reader_says m l h)

-- at a position of an input
module _ {A B : Type 0} (f : A → B) (m : Reader A) (s : List ℕ) (at : ℕ) where
  pub outside_says : length s < at → read_values (told (mapped f (read_at m s at))) ≡ carrying 11 0 0 0
  outside_says h = rw (lt-leb at (length s) h) refl

  pub inside_says : at ≤ length s → Takes m → OfReader (length s - at) (read_values (told (mapped f (read_at m s at))))
  inside_says h t = rw (le-leb at (length s) h, ← length-drop at s) (answer_says f m (drop at s) t)

-- a field's reader, by the test that picks its answer
by_test : {R : Type 0} (values : R → Values) (t : Bool) (x y : R) → values (cond t x y) ≡ cond t (values x) (values y)
by_test values true x y = refl
by_test values false x y = refl

pub field_named : {A : Type 0} (count : ℕ) (named : ℕ → A) (refused : ℕ → Refusal) (number : ℕ) (n : ℕ) {r : Result A Refusal} → r ≡ field_read count named refused n
    → refused_with (refused n) 0 0 ≡ carrying number n 0 0 → FieldNamed count named refused number n r
field_named count named refused number n e h = record {
  answer = e;
  values = ap field_values e ∙ by_test field_values (ltb n count) _ _ ∙ ap (cond (ltb n count) (carrying 0 0 0 0)) h;
}

pub mrrm_at : (s : List ℕ) (at : ℕ) {r : Read WrittenModRM} → r ≡ mrrm_read (read_at a_modrm s at) → MrrmAt s at r
mrrm_at s at e = record {
  answer = e;
  outside = λ h. rw e (outside_says with_written a_modrm s at h);
  inside = λ h. rw e (inside_says with_written a_modrm s at h takes_modrm);
}

-- it holds the position behind the bytes taken
pub back : (at n : ℕ) → at + n - at ≡ n
back at n = omega arith

same_operand : (x : Reading) (size : OperandSize) (at : ℕ) (o : Outcome ModRM) → operand_values at (operand_read x size at o) ≡ outcome_values o
same_operand x size at (got m n) = ap (λ k. carrying 0 0 k 0) (back at n)
same_operand x size at (stopped e n) = ap (λ k. refused_with e k 0) (back at n)

pub operand : (x : Reading) (size : OperandSize) (at : ℕ) (l : List ℕ) → OfReader (length l) (operand_values at (operand_read x size at (read_from a_modrm l)))
operand x size at l = rw (same_operand x size at (read_from a_modrm l)) (reader_says a_modrm l takes_modrm)
