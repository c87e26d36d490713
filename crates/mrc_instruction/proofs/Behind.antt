-- Answers whose bytes are counted from a position on: of one reader at the position and then done, and of a second one behind it.
-- Assumes nothing.
use mathlib.Core.Path.{◌≡◌, refl, ap, sym, ◌∙◌}
use mathlib.Core.List.{List}
use Prim.Native.Nat.{ℕ, ◌+◌, ◌-◌, ◌<◌, ◌^◌}
use native.Mathlib.Omega.{arith}
use lib.ListN.{length, drop}
use Rattle.std.specs.Prelude.{Ok, Err}
use Rattle.mrc_instruction.specs.declared.read.Taken.{Taken}
use Rattle.mrc_instruction.specs.declared.read.Stop.{Stop}
use Rattle.mrc_instruction.specs.Reader.{Reader, done, ◌>>=◌, Outcome, got, stopped, taken_by, mapped, after, read_from}
use Rattle.mrc_instruction.specs.Read.{Read, told, taking, stopping, counted_from}
use Rattle.mrc_instruction.proofs.Sequence.{took, one_done, two_done, stop_at}
use Rattle.mrc_instruction.proofs.Outcomes.{out, counted_is}

-- what is made of what was read
module _ {A D : Type 0} (f : A → D) where
  abbrev pub made_of : Read A → Read D
  made_of (Ok t) = Ok (taking (f t.value) t.taken)
  made_of (Err e) = Err e

module _ {A C D : Type 0} (h : C → D) (g : A → C) where
  made_out : (x : Read A) → made_of (λ a. h (g a)) x ≡ told (mapped h (mapped g (out x)))
  made_out (Ok t) = refl
  made_out (Err e) = refl

mapped_after : {A C : Type 0} (g : A → C) (at : ℕ) (o : Outcome A) → mapped g (after at o) ≡ after at (mapped g o)
mapped_after g at (got a n) = refl
mapped_after g at (stopped e n) = refl

-- an outcome whose bytes were counted from a position on, counted from its own start
module _ {A : Type 0} (at : ℕ) where
  abbrev own : Outcome A → Outcome A
  own (got a k) = got a (k - at)
  own (stopped e k) = stopped e (k - at)

  own_again : (o : Outcome A) → own (after at o) ≡ o
  own_again (got a n) = let same : at + n - at ≡ n = omega arith in ap (got a) same
  own_again (stopped e n) = let same : at + n - at ≡ n = omega arith in ap (stopped e) same

  taken_after : (o : Outcome A) → taken_by (after at o) ≡ at + taken_by o
  taken_after (got a n) = refl
  taken_after (stopped e n) = refl

after_after : {A : Type 0} (at n k : ℕ) (o : Outcome A) → at + n ≡ k → after at (after n o) ≡ after k o
after_after at n k (got a i) h = let same : at + (n + i) ≡ k + i = omega (arith, h) in ap (got a) same
after_after at n k (stopped e i) h = let same : at + (n + i) ≡ k + i = omega (arith, h) in ap (stopped e) same

-- one reader at a position, and what h makes of what follows
module _ {A C D : Type 0} (h : C → D) (m : Reader A) (s : List ℕ) (at : ℕ) (a : at < 2 ^ 64) (l : length s < 2 ^ 64) {r : Read A} (e : r ≡ told (read_from m (drop at s))) where
  -- it stopped, whatever would follow it
  pub stopped_at : (f : A → Reader C) {x : Stop} → Err x ≡ counted_from at r → Err x ≡ told (mapped h (after at (read_from (m >>= f) (drop at s))))
  stopped_at f {x} c =
      let o = read_from m (drop at s) in
      let there : stopped x.refusal x.taken ≡ after at o = counted_is at o c e (omega (arith, took m s at {o = o} refl)) in
      let behind : at + (x.taken - at) ≡ x.taken = omega (arith, ap taken_by there ∙ taken_after at o) in
      ap (λ k. Err (stopping x.refusal k)) (sym behind)
      ∙ ap (λ o. told (mapped h (after at o))) (stop_at m f s at (ap (own at) there ∙ own_again at o))

  -- and then it is done
  pub done_behind : (g : A → C) {x : Read A} → x ≡ counted_from at r
      → made_of (λ a. h (g a)) x ≡ told (mapped h (after at (read_from (m >>= λ a. done (g a)) (drop at s))))
  done_behind g {x} c =
      let o = read_from m (drop at s) in
      made_out h g x
      ∙ ap (λ q. told (mapped h (mapped g q))) (counted_is at o c e (omega (arith, took m s at {o = o} refl)))
      ∙ ap (λ q. told (mapped h q)) (mapped_after g at o)
      ∙ ap (λ q. told (mapped h (after at q))) (one_done m g s at refl)

  -- and then another, which k says, at the position behind it
  module _ {B : Type 0} (k : A → Reader B) (g : A → B → C) {t : Taken A} (c : Ok t ≡ counted_from at r) where
    abbrev Rest : Reader C
    Rest = m >>= λ a. k a >>= λ b. done (g a b)

    first : out (Ok t) ≡ after at (read_from m (drop at s))
    first = let o = read_from m (drop at s) in counted_is at o c e (omega (arith, took m s at {o = o} refl))

    there : t.taken ≡ at + taken_by (read_from m (drop at s))
    there = ap taken_by first ∙ taken_after at (read_from m (drop at s))

    -- by what that came to, counted from the position on already
    behind_is : {q : Outcome B} → q ≡ after t.taken (read_from (k t.value) (drop t.taken s)) → told (mapped h (mapped (g t.value) q)) ≡ told (mapped h (after at (read_from Rest (drop at s))))
    behind_is {q} w =
        let n = t.taken - at in
        let p = read_from (k t.value) (drop t.taken s) in
        let behind : at + n ≡ t.taken = omega (arith, there) in
        ap (λ y. told (mapped h (mapped (g t.value) y))) (w ∙ sym (after_after at n t.taken p behind))
        ∙ ap (λ y. told (mapped h y)) (mapped_after (g t.value) at (after n p))
        ∙ ap (λ y. told (mapped h (after at y)))
        (two_done m k g s at (ap (own at) first ∙ own_again at (read_from m (drop at s))) (ap (λ i. after n (read_from (k t.value) (drop i s))) (sym behind)))

    pub another_behind : {q x : Read B} → q ≡ told (read_from (k t.value) (drop t.taken s)) → x ≡ counted_from t.taken q
        → made_of (λ b. h (g t.value b)) x ≡ told (mapped h (after at (read_from Rest (drop at s))))
    another_behind {x = x} w d =
        let p = read_from (k t.value) (drop t.taken s) in
        made_out h (g t.value) x
        ∙ behind_is (counted_is t.taken p d w (omega (arith, there, took m s at {o = read_from m (drop at s)} refl, took (k t.value) s t.taken {o = p} refl)))
