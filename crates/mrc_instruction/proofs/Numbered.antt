-- A list whose elements are numbered in order, 0, 1, 2 and so on: where each stands at its number, the list and the numbers name each other, and what
-- is computed over the list holds of each.
-- Assumes nothing.
use mathlib.Core.Path.{◌≡◌, refl, sym, ap, ◌∙◌}
use mathlib.Core.List.{List, [], ◌∷◌, map}
use Prim.Native.Nat.{ℕ, zero, suc, ◌+◌, ◌<◌}
use native.Mathlib.Nat.{le_of_suc-le-suc, not-suc-le-zero}
use native.Mathlib.Omega.{arith}
use lib.ListN.{length, get_or, length-map, get_or-map}
use Rattle.mrc_instruction.specs.BothWays.{BothWays}

-- n numbers from k on
abbrev pub from : ℕ → ℕ → List ℕ
from k zero = []
from k (suc n) = k ∷ from (suc k) n

from_at : (n k i : ℕ) → i < n → get_or (from k n) i 0 ≡ k + i
from_at zero k i h = absurd (not-suc-le-zero h)
from_at (suc n) k zero h = omega arith
from_at (suc n) k (suc i) h = omega (arith, from_at n (suc k) i (le_of_suc-le-suc h))

-- within a list the default plays no part
there : {A : Type 0} (l : List A) (i : ℕ) (d e : A) → i < length l → get_or l i d ≡ get_or l i e
there [] i d e h = absurd (not-suc-le-zero h)
there (x ∷ l) zero d e h = refl
there (x ∷ l) (suc i) d e h = there l i d e (le_of_suc-le-suc h)

mapped : {A B : Type 0} (f : A → B) (l : List A) (i : ℕ) (d : A) (e : B) → i < length l → get_or (map f l) i e ≡ f (get_or l i d)
mapped f l i d e h = there (map f l) i e (f d) (rw (length-map l f) h) ∙ get_or-map f l i d

module _ {A : Type 0} (number : A → ℕ) (l : List A) (d : A) (in_order : map number l ≡ from 0 (length l)) where
  number_at : (n : ℕ) → n < length l → number (get_or l n d) ≡ n
  number_at n h = omega (arith, from_at (length l) 0 n h, ap (λ (m : List ℕ). get_or m n 0) in_order, mapped number l n d 0 h)

  pub both_ways : ((a : A) → (number a < length l) × (get_or l (number a) d ≡ a)) → BothWays (length l) (λ n. get_or l n d) number
  both_ways stands = record { below = λ a. (stands a).0; back = λ a. (stands a).1; forth = number_at }

module _ {A : Type 0} (number : A → ℕ) (l : List A) (d : A) (both : BothWays (length l) (λ n. get_or l n d) number) where
  -- what a list has of all, it has of each at its number
  pub found : {B : Type 0} (f : A → B) (e : B) (a : A) → get_or (map f l) (number a) e ≡ f a
  found f e a = mapped f l (number a) d e (both.below a) ∙ ap f (both.back a)

  -- and what is the same of all is the same of each
  pub each : {B : Type 0} (f g : A → B) → map f l ≡ map g l → (a : A) → f a ≡ g a
  each f g e a = sym (found f (f d) a) ∙ ap (λ (m : List _). get_or m (number a) (f d)) e ∙ found g (f d) a
