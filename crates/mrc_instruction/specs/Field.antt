-- Rule 3.3: a field's reader, and what it promises: the answer, and what it carries. So many fields name something, and each above is refused.
use Rattle.std.specs.Prelude.{◌≡◌, ℕ, cond, ltb, Result, Ok, Err}
use Rattle.mrc_instruction.specs.declared.errors.Refusal.{Refusal}
use Rattle.mrc_instruction.specs.Values.{Values, carrying, refused_with}

abbrev pub field_read : {A : Type 0} → ℕ → (ℕ → A) → (ℕ → Refusal) → ℕ → Result A Refusal
field_read count named refused n = cond (ltb n count) (Ok (named n)) (Err (refused n))

-- a field's reader takes no byte of an input
abbrev pub field_values : {A : Type 0} → Result A Refusal → Values
field_values (Ok a) = carrying 0 0 0 0
field_values (Err e) = refused_with e 0 0

pub record FieldNamed {A : Type 0} (count : ℕ) (named : ℕ → A) (refused : ℕ → Refusal) (number : ℕ) (n : ℕ) (r : Result A Refusal) : Type 0 where
  pub answer : r ≡ field_read count named refused n
  pub values : field_values r ≡ cond (ltb n count) (carrying 0 0 0 0) (carrying number n 0 0)
