-- A decode at a position, one byte at a time: what the proof of the code cites.
-- Assumes nothing.
use mathlib.Core.Path.{◌≡◌, refl, sym, ◌∙◌, ap, ap₂, subst}
use mathlib.Core.Bool.{Bool, true, false, cond, ◌||◌}
use mathlib.Core.List.{List, [], ◌∷◌}
use Prim.Native.Nat.{ℕ, suc, ◌+◌, ◌-◌, ◌^◌, ◌≤◌, ◌<◌}
use native.Mathlib.Omega.{arith}
use lib.ListN.{length, get_or, drop, length-drop}
use borrow.Author.Tests.{le-leb}
use Rattle.std.specs.Prelude.{Some}
use Rattle.mrc_instruction.specs.declared.reading.Reading.{Reading}
use Rattle.mrc_instruction.specs.declared.instruction.Reach.TheVariants.{Neither, Near, Far}
use Rattle.mrc_rules.specs.declared.Answer.{Answer}
use Rattle.mrc_decoder.specs.declared.form.OpcodeAlone.{OpcodeAlone}
use Rattle.mrc_decoder.specs.Form.{Meaning, overrides, repeats, reads, meaning_of, alone_row}
use Rattle.mrc_instruction.specs.Reader.{Outcome, got, stopped, read_from}
use Rattle.mrc_instruction.proofs.Rest.{here}
use Rattle.mrc_instruction.specs.declared.instruction.Instruction.{Instruction}
use Rattle.mrc_instruction.specs.Read.{Read}
use Rattle.mrc_instruction.specs.Operand.{size_by}
use Rattle.mrc_rules.specs.Forms.{Tail, Row, acc_direct, direct_acc, rest}
use Rattle.mrc_rules.specs.Table.{row_of}
use Rattle.mrc_rules.specs.Prefixes.{is_override, is_repeat, is_prefix, repeat_of}
use Rattle.mrc_rules.specs.Decode.{decode_by, decode_at, rules}
use Rattle.mrc_forms.specs.Answers.{form_read, read_by, read_in}
use Rattle.mrc_forms.specs.Traits.{d_bit}
use Rattle.mrc_directed.specs.Moves.{accumulator_and_direct}
use Rattle.mrc_decoder.specs.Prefixes.{Small, under_override, with_repeat, behind_prefix}
use Rattle.mrc_decoder.specs.Decode.{after_opcode, end_of, answer_from}
use Rattle.mrc_decoder.proofs.Steps.{step_tail}
use Rattle.mrc_decoder.proofs.Wrapping.{override_wraps, repeat_wraps, below, above}
use Rattle.mrc_rules.proofs.Counting.{taken_there, prefixes_there}

-- what the meaning of a byte says of it
abbrev Says : Reading → ℕ → Meaning → Type 0
Says x b overrides = is_override b ≡ true
Says x b repeats = is_repeat b ≡ true
Says x b (reads row) = (is_prefix b ≡ false) × (row ≡ row_of x b)

meaning_says : (x : Reading) (b : ℕ) → Says x b (meaning_of x b)
meaning_says x b = go (is_override b) (is_repeat b) refl refl
  where
    go : (t u : Bool) → is_override b ≡ t → is_repeat b ≡ u → Says x b (cond t overrides (cond u repeats (reads (row_of x b))))
    go true u e h = e
    go false true e h = h
    go false false e h = (ap₂ (λ (t u : Bool). t || u) e h, refl)

says : (x : Reading) (b : ℕ) (m : Meaning) → m ≡ meaning_of x b → Says x b m
says x b m e = subst (Says x b) (sym e) (meaning_says x b)

-- within the input, a decode is that of the list from the position on
pub inside : (x : Reading) (s : List ℕ) (at n : ℕ) → at ≤ length s → decode_at x s at n ≡ decode_by (rules x) n (drop at s)
inside x s at n h = rw (le-leb at (length s) h)

-- a form that is its opcode alone reads nothing, wherever that stands
pub alone_anywhere : (x : Reading) (form : OpcodeAlone) (byte at : ℕ) (l : List ℕ) → read_by byte (alone_row form byte) at [] ≡ read_in x byte (alone_row form byte) at l
alone_anywhere x (OpcodeAlone.Bare op) byte at l = refl
alone_anywhere x (OpcodeAlone.Return Neither) byte at l = refl
alone_anywhere x (OpcodeAlone.Return Near) byte at l = refl
alone_anywhere x (OpcodeAlone.Return Far) byte at l = refl
alone_anywhere x (OpcodeAlone.OnSegment op) byte at l = refl
alone_anywhere x OpcodeAlone.Exchange byte at l = refl
alone_anywhere x OpcodeAlone.InDx byte at l = refl
alone_anywhere x OpcodeAlone.OutDx byte at l = refl

-- both readings read A0 to A3 alike
pub direct_alike : (x : Reading) (byte at : ℕ) (l : List ℕ) → read_by byte (accumulator_and_direct byte) at l ≡ read_in x byte (accumulator_and_direct byte) at l
direct_alike x byte at l = go (d_bit byte)
  where
    go : (t : Bool)
        → read_by byte (cond t (direct_acc (size_by byte)) (acc_direct (size_by byte))) at l
        ≡ read_in x byte (cond t (direct_acc (size_by byte)) (acc_direct (size_by byte))) at l
    go true = refl
    go false = refl

-- what is read behind the opcode at a position, as the decoder answers it; and the position behind that
taken_at : (at n : ℕ) → at + 1 + n - at ≡ suc n
taken_at at n = omega arith

answered_at : (at : ℕ) (o : Outcome Tail) → answer_from at (form_read (at + 1) o) ≡ after_opcode o
answered_at at (got i n) = rw (taken_at at n)
answered_at at (stopped e n) = rw (taken_at at n)

ended_at : (at : ℕ) (o : Outcome Tail) → at ≤ end_of (form_read (at + 1) o)
ended_at at (got i n) = omega arith
ended_at at (stopped e n) = omega arith

module _ (x : Reading) (s : List ℕ) (at n : ℕ) (h : at < length s) where
  start : decode_at x s at n ≡ decode_by (rules x) n (get_or s at 0 ∷ drop (at + 1) s)
  start = inside x s at n (omega arith) ∙ ap (decode_by (rules x) n) (here s at h)

  -- what a byte that reads by a row is read as: the position behind it is past the byte, and it is the answer
  pub ends_behind : {row : Row} {r : Read Instruction} → reads row ≡ meaning_of x (get_or s at 0) → r ≡ read_in x (get_or s at 0) row (at + 1) (drop (at + 1) s) → at ≤ end_of r
  ends_behind {row} e f = rw f (ended_at at (read_from (rest x (get_or s at 0) row) (drop (at + 1) s)))

  pub no_prefix : {row : Row} {r : Read Instruction} {d : Answer} → reads row ≡ meaning_of x (get_or s at 0) → r ≡ read_in x (get_or s at 0) row (at + 1) (drop (at + 1) s)
      → d ≡ answer_from at r → d ≡ decode_at x s at n
  no_prefix {row} e f g =
      let said = says x (get_or s at 0) (reads row) e in
      g
      ∙ ap (answer_from at) f
      ∙ answered_at at (read_from (rest x (get_or s at 0) row) (drop (at + 1) s))
      ∙ ap (λ (y : Row). after_opcode (read_from (rest x (get_or s at 0) y) (drop (at + 1) s))) said.1
      ∙ sym (start ∙ step_tail (rules x) n (get_or s at 0) (drop (at + 1) s) said.0)

  -- the budget is not 0, so it is one more than the inner one
  lower : (n ≡ 0 → ⊥) → decode_at x s at n ≡ decode_by (rules x) (suc (n - 1)) (get_or s at 0 ∷ drop (at + 1) s)
  lower z =
      let one_less : n ≡ suc (n - 1) = omega arith in
      start ∙ ap (λ (k : ℕ). decode_by (rules x) k (get_or s at 0 ∷ drop (at + 1) s)) one_less

  pub override : {i d : Answer} → overrides ≡ meaning_of x (get_or s at 0) → (n ≡ 0 → ⊥) → i ≡ decode_at x s (at + 1) (n - 1)
      → d ≡ behind_prefix x (get_or s at 0) i → d ≡ decode_at x s at n
  override {i} e z f q =
      q
      ∙ ap (λ (t : Bool). cond t (under_override x (get_or s at 0) i) (with_repeat (repeat_of (Some (get_or s at 0))) i))
      (below (get_or s at 0) (says x (get_or s at 0) overrides e))
      ∙ ap (under_override x (get_or s at 0)) (f ∙ inside x s (at + 1) (n - 1) (omega arith))
      ∙ sym (lower z ∙ override_wraps x (n - 1) (get_or s at 0) (drop (at + 1) s) (says x (get_or s at 0) overrides e))

  pub repeat : {i d : Answer} → repeats ≡ meaning_of x (get_or s at 0) → (n ≡ 0 → ⊥) → i ≡ decode_at x s (at + 1) (n - 1)
      → d ≡ behind_prefix x (get_or s at 0) i → d ≡ decode_at x s at n
  repeat {i} e z f q =
      q
      ∙ ap (λ (t : Bool). cond t (under_override x (get_or s at 0) i) (with_repeat (repeat_of (Some (get_or s at 0))) i))
      (above (get_or s at 0) (says x (get_or s at 0) repeats e))
      ∙ ap (with_repeat (repeat_of (Some (get_or s at 0)))) (f ∙ inside x s (at + 1) (n - 1) (omega arith))
      ∙ sym (lower z ∙ repeat_wraps x (n - 1) (get_or s at 0) (drop (at + 1) s) (says x (get_or s at 0) repeats e))

-- the counts of an answer within the input can grow by one
pub small : (x : Reading) (s : List ℕ) (at n : ℕ) {d : Answer} → at ≤ length s → length s < 2 ^ 63 → d ≡ decode_at x s at n → Small d
small x s at n h b e =
    rw (e, inside x s at n h)
    (omega (arith, taken_there (rules x) n (drop at s), length-drop at s), omega (arith, prefixes_there (rules x) n (drop at s), length-drop at s))
