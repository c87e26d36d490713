-- A decode's number, byte and counts are those of the table of refusals: of a tail by its bytes, then under the prefixes, the budget and
-- the position.
-- Assumes nothing.
use mathlib.Core.Path.{◌≡◌, refl, ap₂, ◌∙◌}
use mathlib.Core.Bool.{Bool, true, false, cond, not, ◌&&◌}
use mathlib.Core.List.{List, [], ◌∷◌}
use Prim.Native.Nat.{ℕ, ◌+◌, ◌<◌}
use borrow.Author.Tests.{leb-true, leb-false, lt-ltb, le-ltb}
use lib.Dec.{leb, ltb}
use lib.ListN.{length, get_or, drop}
use Rattle.std.specs.Prelude.{Ok, Err, Option, Some, None}
use Rattle.mrc_instruction.specs.declared.errors.Refusal.{Refusal}
use Rattle.mrc_instruction.specs.declared.reading.Reading.{Reading}
use Rattle.mrc_instruction.specs.declared.instruction.OperandSet.{OperandSet}
use Rattle.mrc_instruction.specs.Values.{carrying}
use Rattle.mrc_instruction.specs.Reader.{Bytes, Outcome, got, stopped, taken_by}
use Rattle.mrc_rules.specs.Answer.{answer, refuses, values_of}
use Rattle.mrc_rules.specs.Forms.{Tail}
use Rattle.mrc_rules.specs.Prefixes.{is_override, is_repeat, run_of, tail_of, first, repeat_of, override_segment, keeping, keeps, under}
use Rattle.mrc_rules.specs.Decode.{tail, result_of, together, decode_by, decode_at, rules}
use Rattle.mrc_rules.specs.Operands.{byte_at}
use Rattle.mrc_rules.specs.Refusals.{verdict_of, taken_of, is_bare, under_prefixes, tabled}
use Rattle.mrc_rules.proofs.Runs.{tail_none, bytes_from, tail_byte}
use Rattle.mrc_rules.proofs.Places.{is_none}
use Rattle.mrc_rules.proofs.Tails.{Comes, tail_comes, Told, verdict, tail_told}

-- an instruction under an override reads where it has operands, or keeps it
refuses_override : Reading → Tail → OperandSet → Bool
refuses_override x i ops = is_none ops && not (is_none ops && keeps x i.operation)

under_values : (x : Reading) (o : ℕ) (r : Option ℕ) (i : Tail) (ops : OperandSet) (n p : ℕ)
    → values_of (answer (under x o (repeat_of r) i ops) n p) ≡ cond (refuses_override x i ops) (carrying 9 o n p) (carrying 0 0 n p)
unfolding refuses_override
under_values x o r i OperandSet.None n p = go (keeps x i.operation)
  where
    go : (t : Bool)
        → values_of (answer (cond t (Ok (keeping i (repeat_of r) (override_segment o))) (Err (Refusal.InvalidPrefix o))) n p)
        ≡ cond (not t) (carrying 9 o n p) (carrying 0 0 n p)
    go true = refl
    go false = refl
under_values x o r i (OperandSet.Destination d) n p = refl
under_values x o r i (OperandSet.DestinationAndSource d s) n p = refl

-- a tail's first byte and what it came to
abbrev Bare : Reading → List ℕ → Outcome Tail → Type 0
Bare x l (got i n) = is_bare x (byte_at l 0) ≡ refuses_override x i i.operands
Bare x l (stopped e n) = Unit {0}

tail_bare : (x : Reading) (l : List ℕ) → byte_at l 0 < 256 → Bare x l (tail (rules x) l)
unfolding refuses_override
tail_bare x [] b = tt
tail_bare x (opcode ∷ l) b = go (tail (rules x) (opcode ∷ l)) (tail_comes x opcode l)
  where
    go : (t : Outcome Tail) → Comes x (opcode ∷ l) t → Bare x (opcode ∷ l) t
    go (got i n) h = ap₂ (λ (u v : Bool). u && not v) h.bare (h.keeper b)
    go (stopped e n) h = tt

result_values : (x : Reading) (o r : Option ℕ) (l : List ℕ) (t : Outcome Tail) (p : ℕ) → Told x l t → Bare x l t
    → values_of (answer (result_of (rules x) o r t) (p + taken_by t) p) ≡ under_prefixes o (verdict_of x l) (is_bare x (byte_at l 0)) (taken_of x l) p
result_values x o r l t p told bare = rw (told.verdict_is, told.taken_is) (go o t bare)
  where
    go : (f : Option ℕ) (u : Outcome Tail) → Bare x l u → values_of (answer (result_of (rules x) f r u) (p + taken_by u) p)
        ≡ under_prefixes f (verdict u) (is_bare x (byte_at l 0)) (taken_by u) p
    go None (got i n) h = refl
    go None (stopped e n) h = refl
    go (Some f) (got i n) h = under_values x f r i i.operands (p + n) p ∙ rw h refl
    go (Some f) (stopped e n) h = refl

-- within the budget
list_values : (x : Reading) (b : ℕ) (l : List ℕ) → Bytes l
    → values_of (decode_by (rules x) b l)
    ≡ cond (ltb b (length (run_of l))) (carrying 10 (get_or (run_of l) b 0) (b + 1) (b + 1))
    (under_prefixes (first is_override (run_of l)) (verdict_of x (tail_of l)) (is_bare x (byte_at (tail_of l) 0)) (taken_of x (tail_of l)) (length (run_of l)))
list_values x b l bytes = go (leb (length (run_of l)) b) refl
  where
    go : (t : Bool) → leb (length (run_of l)) b ≡ t
        → values_of (cond t (together (rules x) (run_of l) (tail (rules x) (tail_of l))) (refuses (Refusal.TooManyPrefixes (get_or (run_of l) b 0)) (b + 1) (b + 1)))
        ≡ cond (ltb b (length (run_of l))) (carrying 10 (get_or (run_of l) b 0) (b + 1) (b + 1))
        (under_prefixes (first is_override (run_of l)) (verdict_of x (tail_of l)) (is_bare x (byte_at (tail_of l) 0)) (taken_of x (tail_of l)) (length (run_of l)))
    go true e =
        rw (le-ltb b (length (run_of l)) (leb-true (length (run_of l)) b e))
        (result_values x (first is_override (run_of l)) (first is_repeat (run_of l)) (tail_of l) (tail (rules x) (tail_of l)) (length (run_of l))
        (tail_told x (tail_of l) (tail_none l) (tail_byte l bytes))
        (tail_bare x (tail_of l) (tail_byte l bytes)))
    go false e = rw (lt-ltb b (length (run_of l)) (leb-false (length (run_of l)) b e)) refl

-- at a position
pub refusal_table : (x : Reading) (s : List ℕ) (at b : ℕ) → Bytes s → values_of (decode_at x s at b) ≡ tabled x s at b
refusal_table x s at b bytes = go (leb at (length s)) refl
  where
    go : (t : Bool) → leb at (length s) ≡ t → values_of (cond t (decode_by (rules x) b (drop at s)) (refuses Refusal.OutsideInput 0 0)) ≡ tabled x s at b
    go true e = rw (le-ltb (length s) at (leb-true at (length s) e)) (list_values x b (drop at s) (bytes_from s at bytes))
    go false e = rw (lt-ltb (length s) at (leb-false at (length s) e)) refl
