-- A line takes a byte at least, and none beyond the image: a decode takes no more than is left, and a success by the length rule at most six
-- bytes after its prefixes, of which the budget allows fifteen.
-- Assumes nothing.
use Rattle.std.proofs.Common.{◌≡◌, ℕ, ◌+◌, ◌<◌, ◌≤◌, List, length, refl, ap, arith}
use Rattle.std.specs.Prelude.{Result, Ok, Err}
use Rattle.mrc_instruction.specs.declared.errors.Refusal.{Refusal}
use Rattle.mrc_instruction.specs.declared.instruction.Instruction.{Instruction}
use Rattle.mrc_instruction.specs.declared.reading.Reading.{Reading}
use Rattle.mrc_rules.specs.declared.Answer.{Answer}
use Rattle.mrc_rules.specs.Answer.{answer, taken}
use Rattle.mrc_rules.specs.Decode.{rules, decode_at}
use Rattle.mrc_rules.proofs.Order.{taken_left}
use Rattle.mrc_rules.proofs.Counting.{budget_kept}
use Rattle.mrc_rules.proofs.Lengths.{length_rule}
use Rattle.mrc_line.specs.Line.{budget, step_text, step_taken, line_text, line_taken}

-- what an answer at a position accounts for
pub record Takes (s : List ℕ) (at : ℕ) (n : ℕ) : Type 0 where
  pub some : 1 ≤ n
  pub few : n ≤ 21
  pub inside : at + n ≤ length s

module _ (x : Reading) where
  by_result : (s : List ℕ) (at : ℕ) → at < length s → (r : Result Instruction Refusal) (n p : ℕ) → decode_at x s at budget ≡ answer r n p
      → Takes s at (step_taken (answer r n p))
  by_result s at h (Ok i) n p e =
      let l = length_rule x s at budget i n p e in
      let b = budget_kept x s at budget i n p e in
      let t : taken (decode_at x s at budget) ≡ n = ap taken e in
      record { some = omega arith; few = omega arith; inside = omega (arith, taken_left (rules x) s at budget) }
  by_result s at h (Err r) n p e = record { some = omega arith; few = omega arith; inside = omega arith }

  pub step_takes : (s : List ℕ) (at : ℕ) → at < length s → Takes s at (step_taken (decode_at x s at budget))
  step_takes s at h = let d = decode_at x s at budget in by_result s at h d.result d.taken d.prefixes refl

  pub line_takes : (s : List ℕ) (at : ℕ) → at < length s → Takes s at (line_taken x s at)
  unfolding line_taken
  line_takes s at h = step_takes s at h

  -- what was decoded at a position makes the line there
  module _ (s : List ℕ) (at : ℕ) {a : Answer} (e : a ≡ decode_at x s at budget) where
    pub text_is : step_text x s at a ≡ line_text x s at
    unfolding line_text
    text_is = ap (step_text x s at) e

    pub taken_is : step_taken a ≡ line_taken x s at
    unfolding line_taken
    taken_is = ap step_taken e

    pub takes : at < length s → Takes s at (step_taken a)
    takes h = rw e (step_takes s at h)
