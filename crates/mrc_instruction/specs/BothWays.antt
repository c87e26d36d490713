-- What it is for numbers to name the cases of a type one for one: a case's number is below their count, each case has its number back, and
-- each number its case.
use Rattle.std.specs.Prelude.{◌≡◌, ℕ, ◌<◌}

pub record BothWays {A : Type 0} (count : ℕ) (named : ℕ → A) (number : A → ℕ) : Type 0 where
  pub below : (a : A) → number a < count
  pub back : (a : A) → named (number a) ≡ a
  pub forth : (n : ℕ) → n < count → number (named n) ≡ n
