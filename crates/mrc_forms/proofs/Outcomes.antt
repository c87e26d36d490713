-- What a form's function answers by its readers, each reader's bytes being counted from the front of the slice.
-- Assumes nothing.
use mathlib.Core.Path.{◌≡◌}
use mathlib.Core.List.{List}
use Prim.Native.Nat.{ℕ, ◌<◌, ◌^◌}
use lib.ListN.{length, drop}
use Rattle.std.specs.Prelude.{Ok, Err}
use Rattle.mrc_instruction.specs.declared.read.Taken.{Taken}
use Rattle.mrc_instruction.specs.declared.read.Stop.{Stop}
use Rattle.mrc_instruction.specs.Reader.{Reader, done, ◌>>=◌, read_from}
use Rattle.mrc_instruction.specs.Read.{Read, told, counted_from}
use Rattle.mrc_instruction.proofs.Behind.{made_of, stopped_at, done_behind, another_behind}
use Rattle.mrc_rules.specs.Forms.{Tail}
use Rattle.mrc_forms.specs.Answers.{unprefixed, form_read}

module _ {A : Type 0} (m : Reader A) (s : List ℕ) (at : ℕ) {r : Read A} (a : at < 2 ^ 64) (l : length s < 2 ^ 64) (e : r ≡ told (read_from m (drop at s))) where
  -- its reader stopped, whatever follows
  pub form_stop : (f : A → Reader Tail) {x : Stop} → Err x ≡ counted_from at r → Err x ≡ form_read at (read_from (m >>= f) (drop at s))
  form_stop = stopped_at unprefixed m s at a l e

  -- one reader, and then done
  pub form_one : (g : A → Tail) {x : Read A} → x ≡ counted_from at r → made_of (λ b. unprefixed (g b)) x ≡ form_read at (read_from (m >>= λ b. done (g b)) (drop at s))
  form_one = done_behind unprefixed m s at a l e

  -- two readers, the second at the position behind the first
  pub form_two : {B : Type 0} (k : A → Reader B) (g : A → B → Tail) {t : Taken A} → Ok t ≡ counted_from at r → {q x : Read B} → q ≡ told (read_from (k t.value) (drop t.taken s))
      → x ≡ counted_from t.taken q → made_of (λ b. unprefixed (g t.value b)) x ≡ form_read at (read_from (m >>= λ b. k b >>= λ c. done (g b c)) (drop at s))
  form_two k g c = another_behind unprefixed m s at a l e k g c
