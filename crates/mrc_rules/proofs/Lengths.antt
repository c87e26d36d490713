-- The length rule: an answer takes at most six bytes after its prefixes, and a success at least one.
-- Assumes nothing.
use mathlib.Core.Path.{◌≡◌, refl, subst}
use mathlib.Core.Logic.{⊎_elim}
use mathlib.Core.Bool.{Bool, true, false, cond, ◌&&◌, false≢true}
use mathlib.Core.List.{List, [], ◌∷◌}
use Prim.Native.Nat.{ℕ, zero, suc, ◌+◌, ◌/◌, ◌%◌, ◌≤◌}
use native.Mathlib.Omega.{arith}
use lib.ListN.{length, get_or}
use lib.Dec.{eqb, leb}
use borrow.Author.Tests.{leb-true}
use Rattle.mrc_instruction.specs.declared.reading.Reading.{Reading}
use Rattle.mrc_instruction.specs.declared.reading.Reading.TheVariants.{One, Two}
use Rattle.mrc_instruction.specs.declared.instruction.Instruction.{Instruction}
use Rattle.mrc_instruction.specs.declared.errors.Refusal.{Refusal}
use Rattle.mrc_instruction.specs.Reader.{Outcome, got, stopped, taken_by, read_from}
use Rattle.mrc_instruction.proofs.Sequence.{taken_more}
use Rattle.mrc_rules.specs.declared.Answer.{Answer}
use Rattle.mrc_rules.specs.Answer.{decodes, refuses, taken, prefixes}
use Rattle.mrc_rules.specs.Forms.{Tail}
use Rattle.mrc_rules.specs.Prefixes.{run_of, tail_of}
use Rattle.mrc_rules.specs.Decode.{Rules, tail, together, decode_by, decode_at_by, decode_at, rules}
use Rattle.mrc_rules.specs.Operands.{byte_at, reg_at}
use Rattle.mrc_rules.specs.Lengths.{Extra, fixed, modrm, tested, displacement_by, displacement_bytes, extras, no, length_by, whole_length}
use Rattle.mrc_rules.proofs.Answers.{Got, Success, taken_together, prefixes_together, got_together, success_is, at_position}
use Rattle.mrc_rules.proofs.Tails.{Comes, tail_comes}

-- no length of the table is more than six
displacement_short : (top low : ℕ) → displacement_by top low ≤ 2
displacement_short zero low = go (eqb low 6)
  where
    go : (t : Bool) → cond t 2 0 ≤ 2
    go true = omega arith
    go false = omega arith
displacement_short (suc zero) low = omega arith
displacement_short (suc (suc zero)) low = omega arith
displacement_short (suc (suc (suc n))) low = omega arith

abbrev is_short : Extra → Bool
is_short (fixed n) = leb n 5
is_short (modrm n) = leb n 2
is_short (tested n) = leb n 2

All : List Extra → Bool
All [] = true
All (e ∷ l) = is_short e && All l

all_short : (x : Reading) → All (extras x) ≡ true
unfolding All extras
all_short One = refl
all_short Two = refl

and_first : (a b : Bool) → a && b ≡ true → a ≡ true
and_first true b e = refl
and_first false b e = e

and_second : (a b : Bool) → a && b ≡ true → b ≡ true
and_second true b e = e
and_second false b e = absurd (false≢true e)

one_short : (l : List Extra) (n : ℕ) → All l ≡ true → is_short (get_or l n no) ≡ true
unfolding All
one_short [] n h = refl
one_short (e ∷ l) zero h = and_first (is_short e) (All l) h
one_short (e ∷ l) (suc n) h = one_short l n (and_second (is_short e) (All l) h)

short_length : (e : Extra) (l : List ℕ) → is_short e ≡ true → length_by e l ≤ 6
unfolding displacement_bytes
short_length (fixed n) l h = omega (arith, leb-true n 5 h)
short_length (modrm n) l h = omega (arith, leb-true n 2 h, displacement_short (byte_at l 1 / 64) (byte_at l 1 % 8))
short_length (tested n) l h = go (eqb (reg_at l) 0)
  where
    go : (t : Bool) → 2 + displacement_by (byte_at l 1 / 64) (byte_at l 1 % 8) + cond t n 0 ≤ 6
    go true = omega (arith, leb-true n 2 h, displacement_short (byte_at l 1 / 64) (byte_at l 1 % 8))
    go false = omega (arith, displacement_short (byte_at l 1 / 64) (byte_at l 1 % 8))

whole_short : (x : Reading) (l : List ℕ) → whole_length x l ≤ 6
whole_short x l = short_length (get_or (extras x) (byte_at l 0) no) l (one_short (extras x) (byte_at l 0) (all_short x))

tail_six : (x : Reading) (l : List ℕ) → taken_by (tail (rules x) l) ≤ 6
tail_six x [] = omega arith
tail_six x (opcode ∷ l) = go (tail (rules x) (opcode ∷ l)) (tail_comes x opcode l)
  where
    go : (o : Outcome Tail) → Comes x (opcode ∷ l) o → taken_by o ≤ 6
    go (got i n) h = omega (arith, h.whole, whole_short x (opcode ∷ l))
    go (stopped e n) h =
        ⊎_elim (λ w. omega (arith, w.whole, whole_short x (opcode ∷ l))) (λ w. omega (arith, w.all, w.short, whole_short x (opcode ∷ l))) h

-- one to six bytes, under any rules by which no tail takes more than six
module _ (R : Rules) (tail-short : (l : List ℕ) → taken_by (tail R l) ≤ 6) where
  tail_length : (l : List ℕ) → Got (tail R l) → (1 ≤ taken_by (tail R l)) × (taken_by (tail R l) ≤ 6)
  tail_length [] h = absurd h
  tail_length (op ∷ l) h = (omega (arith, taken_more (read_from (R.follow op) l)), tail-short (op ∷ l))

  six_by : (b : ℕ) (l : List ℕ) → taken (decode_by R b l) ≤ prefixes (decode_by R b l) + 6
  six_by b l = go (leb (length (run_of l)) b)
    where
      go : (t : Bool)
          → let d = cond t (together R (run_of l) (tail R (tail_of l))) (refuses (Refusal.TooManyPrefixes (get_or (run_of l) b 0)) (b + 1) (b + 1)) in
          taken d ≤ prefixes d + 6
      go true =
          let t = tail R (tail_of l) in
          omega (arith, tail-short (tail_of l), taken_together R (run_of l) t, prefixes_together R (run_of l) t)
      go false = omega arith

  pub at_most_six_by : (s : List ℕ) (at b : ℕ) → taken (decode_at_by R s at b) ≤ prefixes (decode_at_by R s at b) + 6
  at_most_six_by s at b = at_position R (λ d. taken d ≤ prefixes d + 6) s at b (six_by b) (omega arith)

  pub length_by_lem : (b : ℕ) (l : List ℕ) → Success (decode_by R b l)
      → (prefixes (decode_by R b l) + 1 ≤ taken (decode_by R b l)) × (taken (decode_by R b l) ≤ prefixes (decode_by R b l) + 6)
  length_by_lem b l h =
      let run = run_of l in
      let t = tail R (tail_of l) in
      let len = tail_length (tail_of l) (got_together R run t (subst Success (success_is R b l h) h)) in
      rw (success_is R b l h) (omega (arith, len, taken_together R run t, prefixes_together R run t))

  Short : Answer → Type 0
  Short d = Success d → (prefixes d + 1 ≤ taken d) × (taken d ≤ prefixes d + 6)

  pub length_rule_by : (s : List ℕ) (at b : ℕ) (i : Instruction) (n p : ℕ) → decode_at_by R s at b ≡ decodes i n p → (p + 1 ≤ n) × (n ≤ p + 6)
  unfolding Short
  length_rule_by s at b i n p e = subst Short e (at_position R Short s at b (length_by_lem b) absurd) tt

-- under the rules of docs/RULES.md
pub length_rule : (x : Reading) (s : List ℕ) (at b : ℕ) (i : Instruction) (n p : ℕ) → decode_at x s at b ≡ decodes i n p
    → (p + 1 ≤ n) × (n ≤ p + 6)
length_rule x = length_rule_by (rules x) (tail_six x)

pub at_most_six : (x : Reading) (s : List ℕ) (at b : ℕ) → taken (decode_at x s at b) ≤ prefixes (decode_at x s at b) + 6
at_most_six x = at_most_six_by (rules x) (tail_six x)
