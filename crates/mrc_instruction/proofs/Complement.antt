-- Signed numbers and back, where a width holds `suc top` numbers: below half of them a number is itself, from there on it is below 0 by what is
-- missing to the whole. One law for the byte and the word.
-- Assumes nothing.
use mathlib.Core.Path.{◌≡◌, refl, ap}
use mathlib.Core.Bool.{Bool, true, false, cond}
use Prim.Native.Nat.{ℕ, suc, ◌+◌, ◌-◌, ◌<◌}
use native.Mathlib.Omega.{arith}
use borrow.Author.Tests.{lt-ltb, le-ltb}
use lib.Dec.{ltb}
use lib.IntN.{ℤ, pos, negsuc, ◌-ℤ◌}
use lib.Signed.{mag}
use Rattle.mrc_instruction.specs.Signed.{signed_in, unsigned_in}

module _ (half top : ℕ) (two : half + half ≡ suc top) where
  pub signed_back : (d : ℤ) → mag d < half → signed_in half (suc top) (unsigned_in (suc top) d) ≡ d
  signed_back (pos n) h = simp (lt-ltb n half h)
  signed_back (negsuc n) h =
      let m = suc top - suc n in
      let e : suc top - suc m ≡ n = omega arith in
      simp (le-ltb m half (omega arith), lt-ltb m (suc top) (omega arith)) (ap negsuc e)

  pub unsigned_back : (n : ℕ) → n < suc top → unsigned_in (suc top) (signed_in half (suc top) n) ≡ n
  unsigned_back n h = go (ltb n half) refl
    where
      go : (t : Bool) → ltb n half ≡ t → unsigned_in (suc top) (cond t (pos n) (pos n -ℤ pos (suc top))) ≡ n
      go true e = refl
      go false e = simp (lt-ltb n (suc top) h) (omega arith)
