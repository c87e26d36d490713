-- One reader after another, for every Reader. What `m >>= f` comes to, by what m came to: where m got an a and took n, it is f a on the
-- bytes behind those, n more being taken; where m stopped, it stopped the same. The laws `..-at` have it at a position of an input.
-- Assumes nothing.
use mathlib.Core.Path.{◌≡◌, refl, sym, ap, ◌∙◌}
use mathlib.Core.List.{List, [], ◌∷◌}
use Prim.Native.Nat.{ℕ, suc, ◌+◌, ◌-◌, ◌≤◌}
use native.Mathlib.Nat.{add-zero, zero-add, suc-add}
use native.Mathlib.Omega.{arith}
use lib.ListN.{length, drop, length-drop}
use lib.Seq.{drop-drop}
use Rattle.mrc_instruction.specs.declared.errors.Refusal.{Refusal}
use Rattle.mrc_instruction.specs.Reader.{Reader, done, refuse, next, Outcome, got, stopped, taken_by, more, after, mapped, read_from, ◌>>=◌}

module _ {A : Type 0} where
  after_zero : (o : Outcome A) → o ≡ after 0 o
  after_zero (got a k) = ap (got a) (sym (zero-add k))
  after_zero (stopped e k) = ap (stopped e) (sym (zero-add k))

  more_after : (n : ℕ) (o : Outcome A) → more (after n o) ≡ after (suc n) o
  more_after n (got a k) = ap (got a) (sym (suc-add n k))
  more_after n (stopped e k) = ap (stopped e) (sym (suc-add n k))

  pub taken_more : (o : Outcome A) → taken_by (more o) ≡ suc (taken_by o)
  taken_more (got a n) = refl
  taken_more (stopped e n) = refl

  -- no more is taken than is there
  pub taken_le : (m : Reader A) (l : List ℕ) → taken_by (read_from m l) ≤ length l
  taken_le (done a) l = omega arith
  taken_le (refuse e) l = omega arith
  taken_le (next k) [] = omega arith
  taken_le (next k) (b ∷ l) = omega (arith, taken_more (read_from (k b) l), taken_le (k b) l)

  pub took : (m : Reader A) (s : List ℕ) (at : ℕ) {o : Outcome A} → o ≡ read_from m (drop at s) → taken_by o ≤ length s - at
  took m s at {o = o} e = omega (arith, ap taken_by e, taken_le m (drop at s), length-drop at s)

module _ {A B : Type 0} where
  -- what an outcome is followed by: g, by what was got and how much was taken
  abbrev pub through : (A → ℕ → Outcome B) → Outcome A → Outcome B
  through g (got a n) = after n (g a n)
  through g (stopped e n) = stopped e n

  through_more : (f : A → Reader B) (b : ℕ) (l : List ℕ) (o : Outcome A)
      → more (through (λ a n. read_from (f a) (drop n l)) o) ≡ through (λ a n. read_from (f a) (drop n (b ∷ l))) (more o)
  through_more f b l (got a n) = more_after n (read_from (f a) (drop n l))
  through_more f b l (stopped e n) = refl

  pub then : (m : Reader A) (f : A → Reader B) (l : List ℕ) → read_from (m >>= f) l ≡ through (λ a n. read_from (f a) (drop n l)) (read_from m l)
  then (done a) f l = after_zero (read_from (f a) l)
  then (refuse e) f l = refl
  then (next k) f [] = refl
  then (next k) f (b ∷ l) = ap more (then (k b) f l) ∙ through_more f b l (read_from (k b) l)

  module _ (m : Reader A) (f : A → Reader B) (s : List ℕ) (at : ℕ) where
    -- m got an a: then whatever f a comes to behind it
    pub then_at : {a : A} {n : ℕ} {o : Outcome B} → got a n ≡ read_from m (drop at s) → o ≡ read_from (f a) (drop (at + n) s)
        → after n o ≡ read_from (m >>= f) (drop at s)
    then_at {a = a} {n = n} e h =
        ap (after n) (h ∙ ap (read_from (f a)) (sym (drop-drop n at s))) ∙ ap (through (λ a n. read_from (f a) (drop n (drop at s)))) e ∙ sym (then m f (drop at s))

    -- m got an a, and f a reads nothing more: it is done
    pub done_at : {a : A} {n : ℕ} {b : B} → got a n ≡ read_from m (drop at s) → f a ≡ done b → got b n ≡ read_from (m >>= f) (drop at s)
    done_at {n = n} {b = b} e h = ap (got b) (sym (add-zero n)) ∙ then_at e (ap (λ r. read_from r (drop (at + n) s)) (sym h))

    -- m stopped
    pub stop_at : {x : Refusal} {n : ℕ} → stopped x n ≡ read_from m (drop at s) → stopped x n ≡ read_from (m >>= f) (drop at s)
    stop_at e = ap (through (λ a n. read_from (f a) (drop n (drop at s)))) e ∙ sym (then m f (drop at s))

-- m, and then it is done with what g makes of it
module _ {A B : Type 0} (m : Reader A) (g : A → B) where
  pub one_done : (s : List ℕ) (at : ℕ) {o : Outcome A} → o ≡ read_from m (drop at s) → mapped g o ≡ read_from (m >>= λ a. done (g a)) (drop at s)
  one_done s at {o = o} e = go o e
    where
      go : (o : Outcome A) → o ≡ read_from m (drop at s) → mapped g o ≡ read_from (m >>= λ a. done (g a)) (drop at s)
      go (got a n) e = done_at m (λ a. done (g a)) s at e refl
      go (stopped x n) e = stop_at m (λ a. done (g a)) s at e

-- m, then what k says by what was got, and then it is done with what g makes of both
module _ {A B C : Type 0} (m : Reader A) (k : A → Reader B) (g : A → B → C) where
  mapped_after : (a : A) (n : ℕ) (o : Outcome B) → mapped (g a) (after n o) ≡ after n (mapped (g a) o)
  mapped_after a n (got b i) = refl
  mapped_after a n (stopped x i) = refl

  pub two_done : (s : List ℕ) (at : ℕ) {a : A} {n : ℕ} {o : Outcome B} → got a n ≡ read_from m (drop at s) → o ≡ after n (read_from (k a) (drop (at + n) s))
      → mapped (g a) o ≡ read_from (m >>= λ a. k a >>= λ b. done (g a b)) (drop at s)
  two_done s at {a} {n} {o} e h =
      ap (mapped (g a)) h ∙ mapped_after a n (read_from (k a) (drop (at + n) s))
      ∙ then_at m (λ a. k a >>= λ b. done (g a b)) s at e (one_done (k a) (g a) s (at + n) refl)
