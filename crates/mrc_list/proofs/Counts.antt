-- What the count of a read comes to; and that reads, one after the other, come to what the input is.
-- Assumes nothing.
use mathlib.Core.Path.{◌≡◌, refl, sym, ap, ◌∙◌}
use mathlib.Core.Bool.{Bool, true, false, cond}
use Prim.Native.Nat.{ℕ, zero, suc, ◌+◌, ◌≤◌, ◌<◌}
use native.Mathlib.Omega.{arith}
use borrow.Author.Tests.{lt-ltb, le-ltb, ltb-true, ltb-false, eqb-true, eq-eqb, ne_eqb}
use lib.Dec.{ltb, eqb}
use Rattle.std.proofs.Common.{Result, Ok, Err}
use Rattle.std.specs.declared.ops.ControlFlow.TheVariants.{Continue, Break}
use Rattle.mrc_line.specs.Target.{offsets}
use Rattle.mrc_list.specs.declared.input.NotAnImage.{NotAnImage}
use Rattle.mrc_list.specs.declared.input.NotAnImage.TheVariants.{TooLong}
use Rattle.mrc_list.specs.Input.{after_read, input_of, Comes, Reads, last, more}

-- ---- the count

pub too_many : (there k : ℕ) → offsets < there + k → Break (Err TooLong) ≡ after_read there (Ok k)
too_many there k h = simp (lt-ltb offsets (there + k) h)

pub ended : (there k : ℕ) → there + k ≤ offsets → k ≡ 0 → Break (Ok there) ≡ after_read there (Ok k)
ended there k h e = simp (le-ltb offsets (there + k) h, eq-eqb k 0 e)

pub came : (there k : ℕ) → there + k ≤ offsets → ¬ (k ≡ 0) → Continue (there + k) ≡ after_read there (Ok k)
came there k h e = simp (le-ltb offsets (there + k) h, ne_eqb k 0 e)

-- ---- reads, one after the other

-- the cases of a count: whether the bytes are too many, and whether none came
input_by :
    (there k n : ℕ) (r : Result ℕ NotAnImage) (a b : Bool) → Comes n there k → (a ≡ true → offsets < there + k) → (a ≡ false → there + k ≤ offsets) → (b ≡ true → k ≡ 0) →
    Break r ≡ cond a (Break (Err TooLong)) (cond b (Break (Ok there)) (Continue (there + k))) → r ≡ input_of n
input_by there k n r true b h t f g e = let q : r ≡ Err TooLong = cc in q ∙ simp (lt-ltb offsets n (omega (arith, t refl, h.within)))
input_by there k n r false true h t f g e =
    let q : r ≡ Ok there = cc in
    let w : there ≡ n = h.end (g refl) in
    q ∙ ap (λ (m : ℕ). Ok m) w ∙ simp (le-ltb offsets n (omega (arith, f refl)))
input_by there k n r false false h t f g e = let z : ◌≡◌ {A = ℕ} 0 1 = cc in absurd (omega arith)

pub comes_to : {n there : ℕ} {r : Result ℕ NotAnImage} → Reads n there r → r ≡ input_of n
comes_to {n} {there} {r} (last {k = k} h e) =
    input_by there k n r (ltb offsets (there + k)) (eqb k 0) h (λ d. ltb-true offsets (there + k) d) (λ d. ltb-false offsets (there + k) d)
    (λ d. eqb-true k 0 d) (sym e)
comes_to (more h e later) = comes_to later

-- the bytes all at once, and then the end
all_at_once : (n : ℕ) → n ≤ offsets → Reads n 0 (Ok n)
all_at_once zero h = last {there = 0} {k = 0} (record { within = omega arith; asked = omega arith; end = λ e. refl }) (sym (ended 0 0 (omega arith) refl))
all_at_once (suc m) h =
    more {there = 0} {k = suc m} (record { within = omega arith; asked = omega arith; end = λ e. absurd (omega arith) }) (sym (came 0 (suc m) (omega arith) (λ e. omega arith)))
    (last {there = 0 + suc m} {k = 0} (record { within = omega arith; asked = omega arith; end = λ e. omega arith }) (ended_at (omega arith)))
  where
    ended_at : 0 + suc m ≡ suc m → after_read (0 + suc m) (Ok 0) ≡ Break (Ok (suc m))
    ended_at e = sym (ended (0 + suc m) 0 (omega arith) refl) ∙ ap (λ (n : ℕ). Break (Ok n)) e

pub read_somehow : (n : ℕ) → Reads n 0 (input_of n)
read_somehow n = go (ltb offsets n) refl
  where
    go : (b : Bool) → ltb offsets n ≡ b → Reads n 0 (cond b (Err TooLong) (Ok n))
    go true e = let h = ltb-true offsets n e in last {there = 0} {k = offsets + 1} (record { within = omega arith; asked = omega arith; end = λ e. absurd (omega arith) }) (sym (too_many 0 (offsets + 1) (omega arith)))
    go false e = all_at_once n (ltb-false offsets n e)
