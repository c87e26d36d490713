-- Rules 9.1 and 9.2: what an answer says in numbers, whatever its type: the four columns of the table of refusals. What is no refusal has number 0
-- and byte 0.
use Rattle.std.specs.Prelude.{◌≡◌, ◌⊎◌, ℕ, ◌≤◌}
use Rattle.mrc_instruction.specs.declared.errors.Refusal.{Refusal}
use Rattle.mrc_instruction.specs.Errors.{number_of, byte_of}
use Rattle.mrc_instruction.specs.Reader.{Outcome, got, stopped}

pub record Values : Type 0 where
  pub number : ℕ
  pub byte : ℕ
  pub taken : ℕ
  pub prefixes : ℕ

abbrev pub carrying : ℕ → ℕ → ℕ → ℕ → Values
carrying number byte taken prefixes = record { number = number; byte = byte; taken = taken; prefixes = prefixes }

-- a refusal with the bytes taken and the prefixes
abbrev pub refused_with : Refusal → ℕ → ℕ → Values
refused_with e taken prefixes = carrying (number_of e) (byte_of e) taken prefixes

-- a reader takes no prefix
abbrev pub outcome_values : {A : Type 0} → Outcome A → Values
outcome_values (got a n) = carrying 0 0 n 0
outcome_values (stopped e n) = refused_with e n 0

-- the values of a reader for which so many bytes are left: it took some of them, or refuses with 2 and took all
abbrev pub OfReader : ℕ → Values → Type 0
OfReader left v = ((v.taken ≤ left) × (v ≡ carrying 0 0 v.taken 0)) ⊎ (v ≡ carrying 2 0 left 0)
