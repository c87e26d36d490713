-- The counts of a decode are below 65,536 under any budget of a byte, and so are a ModRM's, a line's length and the bytes that it takes: nothing of
-- them is lost in two bytes. The text of a page is below 4,294,967,296 bytes long.
-- Assumes nothing.
use Rattle.std.specs.Prelude.{Result, Ok, Err}
use mathlib.Core.Path.{◌≡◌, refl, ap}
use mathlib.Core.Bool.{Bool, true, false, cond}
use mathlib.Core.List.{List, [], ◌∷◌}
use Prim.Native.Nat.{ℕ, zero, suc, ◌+◌, ◌*◌, ◌/◌, ◌%◌, ◌<◌, ◌≤◌}
use native.Mathlib.Nat.{mod-eq_of_lt}
use native.Mathlib.Omega.{arith}
use lib.Dec.{eqb, leb}
use lib.ListN.{length, drop}
use Rattle.mrc_instruction.specs.declared.errors.Refusal.{Refusal}
use Rattle.mrc_instruction.specs.declared.reading.Reading.{Reading}
use Rattle.mrc_instruction.specs.declared.mrrm.RegisterOrMemory.{RegisterOrMemory}
use Rattle.mrc_instruction.specs.Widths.{words, double_words}
use Rattle.mrc_instruction.specs.Operand.{addressing_of}
use Rattle.mrc_instruction.specs.Reader.{Outcome, got, stopped, taken_by, read_from, read_at, done, a_byte, a_word, ◌>>=◌}
use Rattle.mrc_instruction.specs.Mrrm.{ModRM, a_register_or_memory, modrm, a_modrm}
use Rattle.mrc_instruction.specs.Read.{mrrm_read, read_values}
use Rattle.mrc_instruction.proofs.Sequence.{taken_more}
use Rattle.mrc_rules.specs.declared.Answer.{Answer}
use Rattle.mrc_rules.specs.Answer.{number, taken, prefixes}
use Rattle.mrc_rules.specs.Decode.{decode_at}
use Rattle.mrc_rules.proofs.Lengths.{at_most_six}
use Rattle.mrc_rules.proofs.Counting.{prefix_count}
use Rattle.mrc_line.specs.declared.line.Written.{Written}
use Rattle.mrc_line.specs.Line.{a_line, answer_of, line_values}
use Rattle.mrc_line.specs.Page.{text_of, taken_of, page_of}
use Rattle.mrc_line.proofs.Takes.{line_takes}
use Rattle.mrc_line.proofs.Lengths.{line_longest}
use Rattle.mrc_line.proofs.Answers.{told}
use Rattle.mrc_line.proofs.Pages.{page_short}
use Rattle.mrc_c.specs.Step.{step_code}
use Rattle.mrc_c.specs.Line.{length_of, line_code}

module _ (x : Reading) (s : List ℕ) (at b : ℕ) (h : b < 256) where
  pub prefixes_small : prefixes (decode_at x s at b) < words
  prefixes_small = omega (arith, prefix_count x s at b)

  pub taken_small : taken (decode_at x s at b) < words
  taken_small = omega (arith, prefix_count x s at b, at_most_six x s at b)

  pub step_whole : (d : Answer) → d ≡ decode_at x s at b → taken d % words + words * (prefixes d % words) + double_words * number d ≡ step_code (decode_at x s at b)
  step_whole d e = rw (e, mod-eq_of_lt taken_small, mod-eq_of_lt prefixes_small) refl

module _ (x : Reading) (s : List ℕ) (at room : ℕ) where
  line_small : (r : Result Written Refusal) → r ≡ answer_of x s at room → (length_of r < words) × ((line_values x s at r).taken < words)
  line_small (Ok line) e =
      let t = told x s at room line.len line.taken e in
      (omega (arith, t.len_is, line_longest x s at), omega (arith, t.taken_is, (line_takes x s at t.inside).few))
  line_small (Err e) h = (omega arith, omega arith)

  pub lengths_small : (length_of (answer_of x s at room) < words) × ((line_values x s at (answer_of x s at room)).taken < words)
  lengths_small = line_small (answer_of x s at room) refl

  pub line_whole : (len taken : ℕ) → a_line len taken ≡ answer_of x s at room → len % words + words * (taken % words) ≡ line_code x s at (answer_of x s at room)
  line_whole len taken e =
      let k = line_small (a_line len taken) e in
      rw (mod-eq_of_lt k.0, mod-eq_of_lt k.1) (omega (arith, ap (line_code x s at) e))

  pub page_small : (length (text_of x s (page_of x s at room)) < double_words) × (taken_of x s (page_of x s at room) ≤ words)
  page_small =
      let k = page_short x s at room in
      (omega (arith, k.text, k.taken), omega (arith, k.taken))

-- a ModRM's displacement is at most two bytes
displacement_few : (top low b : ℕ) (l : List ℕ) → taken_by (read_from (a_register_or_memory top low >>= λ x. done (modrm b x)) l) ≤ 2
unfolding a_byte a_word
displacement_few zero low b l = go (eqb low 6) l
  where
    go : (t : Bool) (l : List ℕ)
        → taken_by (read_from (cond t (a_word >>= λ w. done (RegisterOrMemory.Direct w)) (done (RegisterOrMemory.Indirect (addressing_of low))) >>= λ x. done (modrm b x)) l) ≤ 2
    go true [] = omega arith
    go true (x ∷ []) = omega arith
    go true (x ∷ y ∷ l) = omega arith
    go false l = omega arith
displacement_few (suc zero) low b [] = omega arith
displacement_few (suc zero) low b (x ∷ l) = omega arith
displacement_few (suc (suc zero)) low b [] = omega arith
displacement_few (suc (suc zero)) low b (x ∷ []) = omega arith
displacement_few (suc (suc zero)) low b (x ∷ y ∷ l) = omega arith
displacement_few (suc (suc (suc n))) low b l = omega arith

modrm_few : (l : List ℕ) → taken_by (read_from a_modrm l) ≤ 3
unfolding a_byte
modrm_few [] = omega arith
modrm_few (b ∷ l) =
    omega (arith, taken_more (read_from (a_register_or_memory (b / 64) (b % 8) >>= λ x. done (modrm b x)) l), displacement_few (b / 64) (b % 8) b l)

taken_of_lem : (o : Outcome ModRM) → (read_values (mrrm_read o)).taken ≡ taken_by o
taken_of_lem (got m n) = refl
taken_of_lem (stopped e n) = refl

pub modrm_small : (s : List ℕ) (at : ℕ) → (read_values (mrrm_read (read_at a_modrm s at))).taken < words
modrm_small s at = go (leb at (length s))
  where
    go : (t : Bool) → (read_values (mrrm_read (cond t (read_from a_modrm (drop at s)) (stopped Refusal.OutsideInput 0)))).taken < words
    go true = omega (arith, taken_of_lem (read_from a_modrm (drop at s)), modrm_few (drop at s))
    go false = omega arith
