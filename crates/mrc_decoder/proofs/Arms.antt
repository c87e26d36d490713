-- An arm of the dispatch: its form says what each of its bytes means, which antt computes over the arm's keys, or over its range less the keys
-- of the other arms.
-- Assumes nothing.
use mathlib.Core.Path.{◌≡◌, refl}
use mathlib.Core.Logic.{⊎_elim}
use mathlib.Core.Bool.{Bool, true, false, cond, ◌||◌}
use mathlib.Core.List.{List, [], ◌∷◌, map}
use Prim.Native.Nat.{ℕ, zero, suc, ◌+◌, ◌<◌, ◌≤◌}
use native.Mathlib.Nat.{eq-or-lt_of_le}
use native.Mathlib.Omega.{arith}
use types.Run.{OneOf, hit}
use mir.Val.{has_key}
use lib.Dec.{T}
use Rattle.mrc_instruction.specs.declared.reading.Reading.{Reading}
use Rattle.mrc_decoder.specs.Form.{Meaning, overrides, meaning_of}

-- the n numbers from lo on
abbrev pub upto : ℕ → ℕ → List ℕ
upto lo zero = []
upto lo (suc n) = lo ∷ upto (suc lo) n

-- two functions that agree along a range agree at each of its numbers
each : (f g : ℕ → Meaning) (n lo k : ℕ) → map f (upto lo n) ≡ map g (upto lo n) → lo ≤ k → k < lo + n → f k ≡ g k
each f g zero lo k e l h = absurd (omega arith)
each f g (suc n) lo k e l h =
    let first : f lo ≡ g lo = cc in
    let others : map f (upto (suc lo) n) ≡ map g (upto (suc lo) n) = cc in
    ⊎_elim (λ q. rw q at first) (λ m. each f g n (suc lo) k others m (omega arith)) (eq-or-lt_of_le l)

-- a key of one of the arms; and what the ranges know: no key of an arm, the last arm first
abbrev pub keyed : List (List ℕ) → ℕ → Bool
keyed [] n = false
keyed (ks ∷ kss) n = has_key ks n || keyed kss n

abbrev pub Rest : List (List ℕ) → ℕ → Type 0
Rest [] n = Unit {0}
Rest (ks ∷ kss) n = Rest kss n × (OneOf ks n → ⊥)

neither : (t u : Bool) → (T t → ⊥) → u ≡ false → t || u ≡ false
neither true u f e = absurd (f tt)
neither false u f e = e

not_keyed : (kss : List (List ℕ)) (n : ℕ) → Rest kss n → keyed kss n ≡ false
not_keyed [] n r = refl
not_keyed (ks ∷ kss) n r = neither (has_key ks n) (keyed kss n) (λ h. r.1 (hit ks n h)) (not_keyed kss n r.0)

-- the meanings by f, but for the keys
abbrev pub unkeyed : List (List ℕ) → (ℕ → Meaning) → ℕ → Meaning
unkeyed kss f n = cond (keyed kss n) overrides (f n)

pub ranged : (x : Reading) (kss : List (List ℕ)) (f : ℕ → Meaning) (lo n byte : ℕ) → map (unkeyed kss f) (upto lo n) ≡ map (unkeyed kss (meaning_of x)) (upto lo n)
    → lo ≤ byte → byte < lo + n → Rest kss byte → f byte ≡ meaning_of x byte
ranged x kss f lo n byte e l h r =
    let out = not_keyed kss byte r in
    let same = each (unkeyed kss f) (unkeyed kss (meaning_of x)) n lo byte e l h in
    rw out at same

-- the meanings by f, at the keys of an arm
pub keys : (x : Reading) (ks : List ℕ) (f : ℕ → Meaning) (byte : ℕ) → map f ks ≡ map (meaning_of x) ks → OneOf ks byte → f byte ≡ meaning_of x byte
keys x [] f byte e o = absurd o
keys x (k ∷ []) f byte e o =
    let first : f k ≡ meaning_of x k = cc in
    rw o first
keys x (k ∷ j ∷ ks) f byte e o =
    let first : f k ≡ meaning_of x k = cc in
    let others : map f (j ∷ ks) ≡ map (meaning_of x) (j ∷ ks) = cc in
    ⊎_elim (λ q. rw q first) (λ m. keys x (j ∷ ks) f byte others m) o
