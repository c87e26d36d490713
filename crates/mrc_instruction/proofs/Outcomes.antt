-- A reader's answer stands for the outcome that it was made from, and so does the answer whose bytes are counted from before on.
-- Assumes nothing.
use mathlib.Core.Path.{◌≡◌, refl, ap, ◌∙◌}
use mathlib.Core.List.{List}
use lib.ListN.{length, drop}
use Prim.Native.Nat.{ℕ, ◌+◌, ◌<◌, ◌^◌, ◌%◌}
use native.Mathlib.Omega.{arith}
use Rattle.std.specs.Prelude.{Ok, Err, IsErrAnd}
use Rattle.mrc_instruction.specs.declared.read.Stop.{Stop}
use Rattle.mrc_instruction.specs.Reader.{Reader, done, Outcome, got, stopped, taken_by, after, mapped, read_from, ◌>>=◌}
use Rattle.mrc_instruction.specs.declared.read.Taken.{Taken}
use Rattle.mrc_instruction.specs.Read.{Read, told, counted_from}
use Rattle.mrc_instruction.proofs.Sequence.{took, two_done}

pub small : (n k : ℕ) → n + k < 2 ^ 64 → (n + k) % 2 ^ 64 ≡ n + k
small n k h = omega arith

module _ {A : Type 0} where
  abbrev pub out : Read A → Outcome A
  out (Ok t) = got t.value t.taken
  out (Err e) = stopped e.refusal e.taken

  out_told : (o : Outcome A) → out (told o) ≡ o
  out_told (got a n) = refl
  out_told (stopped e n) = refl

  pub read_is : {r : Read A} {o : Outcome A} → r ≡ told o → out r ≡ o
  read_is {o = o} e = ap out e ∙ out_told o

  out_counted : (n : ℕ) (o : Outcome A) → n + taken_by o < 2 ^ 64 → out (counted_from n (told o)) ≡ after n o
  out_counted n (got a k) h = ap (got a) (small n k h)
  out_counted n (stopped e k) h = ap (stopped e) (small n k h)

  pub counted_is : (n : ℕ) (o : Outcome A) {r x : Read A} → x ≡ counted_from n r → r ≡ told o → n + taken_by o < 2 ^ 64 → out x ≡ after n o
  counted_is n o e h b = ap out (e ∙ ap (counted_from n) h) ∙ out_counted n o b

  -- what `?` passes on
  pub passed : {e : Stop} (r : Read A) → IsErrAnd r (λ y. y ≡ e) → r ≡ Err e
  passed (Ok t) h = absurd h
  passed (Err y) h = ap Err h

-- m at a position, and then what k says by what was read, at the position behind, counted from the first on
module _ {A B C : Type 0} (m : Reader A) (k : A → Reader B) (g : A → B → C) (s : List ℕ) (at : ℕ) where
  pub one_and_another : {t : Taken A} {r x : Read B} → length s < 2 ^ 64 → Ok t ≡ told (read_from m (drop at s)) → r ≡ told (read_from (k t.value) (drop (at + t.taken) s))
      → x ≡ counted_from t.taken r → mapped (g t.value) (out x) ≡ read_from (m >>= λ a. k a >>= λ b. done (g a b)) (drop at s)
  one_and_another {t} b e h q =
      let o = read_from (k t.value) (drop (at + t.taken) s) in
      let first = read_is e in
      two_done m k g s at first (counted_is t.taken o q h (omega (arith, took m s at first, took (k t.value) s (at + t.taken) {o = o} refl)))
