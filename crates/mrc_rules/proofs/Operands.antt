-- The operands of a decode, and the displacement bytes that it was written with, are those that specs/Operands and specs/Written find by their place; its
-- operation, how far it goes and the override that it keeps are what specs/Operations, specs/Reaches and specs/Kept find by the first byte and reg: of a
-- tail, then under the prefixes of a decode, whose first repeat it has.
-- Assumes nothing.
use mathlib.Core.Path.{◌≡◌, refl, sym, ap, subst, ◌∙◌}
use mathlib.Core.Bool.{Bool, true, false, cond, ◌&&◌}
use mathlib.Core.List.{List, [], ◌∷◌}
use Prim.Native.Nat.{ℕ, ◌+◌, ◌-◌, ◌<◌}
use native.Mathlib.Omega.{arith}
use lib.Dec.{leb}
use lib.ListN.{length, get_or, take, drop}
use Rattle.std.specs.Prelude.{Ok, Err, Option, Some, None, Result}
use Rattle.mrc_instruction.specs.declared.errors.Refusal.{Refusal}
use Rattle.mrc_instruction.specs.declared.reading.Reading.{Reading}
use Rattle.mrc_instruction.specs.declared.instruction.OperandSet.{OperandSet}
use Rattle.mrc_instruction.specs.declared.instruction.Instruction.{Instruction}
use Rattle.mrc_instruction.specs.Reader.{Bytes, Outcome, got, stopped, taken_by}
use Rattle.mrc_rules.specs.Answer.{answer, decodes, refuses}
use Rattle.mrc_rules.specs.declared.Answer.{Answer}
use Rattle.mrc_rules.specs.Forms.{Tail}
use Rattle.mrc_rules.specs.Prefixes.{run_of, tail_of, first, is_override, is_repeat, repeat_of, override_segment, made, keeping, keeps, under}
use Rattle.mrc_rules.specs.Decode.{tail, result_of, together, decode_by, decode_at, rules}
use Rattle.mrc_rules.specs.Operands.{byte_at, operands_of, in_segments, under_first}
use Rattle.mrc_rules.specs.Operations.{operation_of}
use Rattle.mrc_rules.specs.Reaches.{reach_of}
use Rattle.mrc_rules.specs.Written.{written_of}
use Rattle.mrc_rules.specs.Refusals.{keeps_at}
use Rattle.mrc_rules.specs.Kept.{kept_of}
use Rattle.mrc_rules.proofs.Runs.{bytes_from, tail_byte}
use Rattle.mrc_rules.proofs.Places.{is_none}
use Rattle.mrc_rules.proofs.Tails.{Comes, tail_comes}

-- of what a tail came to
pub record InPlace (x : Reading) (l : List ℕ) (i : Tail) (n : ℕ) : Type 0 where
  pub operands : i.operands ≡ operands_of x (take n l)
  pub operation : operation_of l ≡ Some i.operation
  pub reach : reach_of l ≡ i.reach
  pub written : i.written ≡ written_of x (take n l)
  pub keeper : byte_at l 0 < 256 → keeps_at x (byte_at l 0) ≡ is_none i.operands && keeps x i.operation
  pub nothing_kept : i.kept ≡ None

abbrev TailPlaced : Reading → List ℕ → Outcome Tail → Type 0
TailPlaced x l (got i n) = InPlace x l i n
TailPlaced x l (stopped e n) = Unit {0}

tail_placed : (x : Reading) (l : List ℕ) → TailPlaced x l (tail (rules x) l)
tail_placed x [] = tt
tail_placed x (opcode ∷ l) = go (tail (rules x) (opcode ∷ l)) (tail_comes x opcode l)
  where
    go : (o : Outcome Tail) → Comes x (opcode ∷ l) o → TailPlaced x (opcode ∷ l) o
    go (got i n) h =
        record { operands = h.operands; operation = h.operation; reach = h.reach; written = h.written; keeper = h.keeper; nothing_kept = h.nothing_kept }
    go (stopped e n) h = tt

-- of a decode's answer
pub record Placed (x : Reading) (l : List ℕ) (i : Instruction) (n : ℕ) : Type 0 where
  pub operands : i.operands ≡ under_first (first is_override (run_of l)) (operands_of x (take n (tail_of l)))
  pub operation : operation_of (tail_of l) ≡ Some i.operation
  pub reach : i.reach ≡ reach_of (tail_of l)
  pub written : i.written ≡ written_of x (take n (tail_of l))
  pub repeat : i.repeat ≡ repeat_of (first is_repeat (run_of l))
  pub kept : byte_at (tail_of l) 0 < 256 → i.kept ≡ kept_of x (first is_override (run_of l)) (byte_at (tail_of l) 0)

abbrev ResultPlaced : Reading → List ℕ → Result Instruction Refusal → ℕ → Type 0
ResultPlaced x l (Ok i) n = Placed x l i n
ResultPlaced x l (Err e) n = Unit {0}

abbrev AnswerPlaced : Reading → List ℕ → Answer → Type 0
AnswerPlaced x l d = ResultPlaced x l d.result (d.taken - d.prefixes)

-- under an override: where there are operands none is kept
module _ (x : Reading) (l : List ℕ) (o : ℕ) (i : Tail) (k n p : ℕ) (h : InPlace x (tail_of l) i k) (c : n - p ≡ k) (f : first is_override (run_of l) ≡ Some o) where
  abbrev Under : OperandSet → Type 0
  Under ops = AnswerPlaced x l (answer (under x o (repeat_of (first is_repeat (run_of l))) i ops) n p)

  on_operands_lem : (ops : OperandSet) → i.operands ≡ ops → is_none ops ≡ false
      → Placed x l (made i (repeat_of (first is_repeat (run_of l))) (in_segments (override_segment o) ops)) (n - p)
  on_operands_lem ops e there = record {
    operands = rw (f, c) (ap (in_segments (override_segment o)) (sym e ∙ h.operands));
    operation = h.operation;
    reach = sym h.reach;
    written = rw c h.written;
    repeat = refl;
    kept = λ b. rw (f, h.keeper b, e, there) h.nothing_kept;
  }

  kept_there : i.operands ≡ OperandSet.None → (t : Bool) → keeps x i.operation ≡ t
      → AnswerPlaced x l (answer (cond t (Ok (keeping i (repeat_of (first is_repeat (run_of l))) (override_segment o))) (Err (Refusal.InvalidPrefix o))) n p)
  kept_there e true t = record {
    operands = rw (f, c) (e ∙ ap (in_segments (override_segment o)) (sym e ∙ h.operands));
    operation = h.operation;
    reach = sym h.reach;
    written = rw c h.written;
    repeat = refl;
    kept = λ b. rw (f, h.keeper b, e, t) refl;
  }
  kept_there e false t = tt

  under_placed : (ops : OperandSet) → i.operands ≡ ops → Under ops
  under_placed OperandSet.None e = kept_there e (keeps x i.operation) refl
  under_placed (OperandSet.Destination d) e = on_operands_lem (OperandSet.Destination d) e refl
  under_placed (OperandSet.DestinationAndSource d s) e = on_operands_lem (OperandSet.DestinationAndSource d s) e refl

result_placed : (x : Reading) (l : List ℕ) (o : Option ℕ) (t : Outcome Tail) (n p : ℕ) → n - p ≡ taken_by t → first is_override (run_of l) ≡ o
    → TailPlaced x (tail_of l) t → AnswerPlaced x l (answer (result_of (rules x) o (first is_repeat (run_of l)) t) n p)
result_placed x l None (got i k) n p c f h = record {
  operands = rw (f, c) h.operands;
  operation = h.operation;
  reach = sym h.reach;
  written = rw c h.written;
  repeat = refl;
  kept = λ b. rw f h.nothing_kept;
}
result_placed x l None (stopped e k) n p c f h = tt
result_placed x l (Some o) (got i k) n p c f h = under_placed x l o i k n p h c f i.operands refl
result_placed x l (Some o) (stopped e k) n p c f h = tt

decode_placed : (x : Reading) (b : ℕ) (l : List ℕ) → AnswerPlaced x l (decode_by (rules x) b l)
decode_placed x b l = go (leb (length (run_of l)) b)
  where
    go : (t : Bool)
        → AnswerPlaced x l (cond t (together (rules x) (run_of l) (tail (rules x) (tail_of l))) (refuses (Refusal.TooManyPrefixes (get_or (run_of l) b 0)) (b + 1) (b + 1)))
    go true =
        result_placed x l (first is_override (run_of l)) (tail (rules x) (tail_of l)) (length (run_of l) + taken_by (tail (rules x) (tail_of l))) (length (run_of l))
        (omega arith)
        refl
        (tail_placed x (tail_of l))
    go false = tt

at_placed : (x : Reading) (s : List ℕ) (at b : ℕ) → AnswerPlaced x (drop at s) (decode_at x s at b)
at_placed x s at b = go (leb at (length s))
  where
    go : (t : Bool) → AnswerPlaced x (drop at s) (cond t (decode_by (rules x) b (drop at s)) (refuses Refusal.OutsideInput 0 0))
    go true = decode_placed x b (drop at s)
    go false = tt

pub destination_and_source : (x : Reading) (s : List ℕ) (at b : ℕ) (i : Instruction) (n p : ℕ) → decode_at x s at b ≡ decodes i n p
    → i.operands ≡ under_first (first is_override (run_of (drop at s))) (operands_of x (take (n - p) (tail_of (drop at s))))
destination_and_source x s at b i n p e = (subst (AnswerPlaced x (drop at s)) e (at_placed x s at b)).operands

pub operation_named : (x : Reading) (s : List ℕ) (at b : ℕ) (i : Instruction) (n p : ℕ) → decode_at x s at b ≡ decodes i n p
    → operation_of (tail_of (drop at s)) ≡ Some i.operation
operation_named x s at b i n p e = (subst (AnswerPlaced x (drop at s)) e (at_placed x s at b)).operation

pub near_or_far : (x : Reading) (s : List ℕ) (at b : ℕ) (i : Instruction) (n p : ℕ) → decode_at x s at b ≡ decodes i n p → i.reach ≡ reach_of (tail_of (drop at s))
near_or_far x s at b i n p e = (subst (AnswerPlaced x (drop at s)) e (at_placed x s at b)).reach

pub displacement_written : (x : Reading) (s : List ℕ) (at b : ℕ) (i : Instruction) (n p : ℕ) → decode_at x s at b ≡ decodes i n p
    → i.written ≡ written_of x (take (n - p) (tail_of (drop at s)))
displacement_written x s at b i n p e = (subst (AnswerPlaced x (drop at s)) e (at_placed x s at b)).written

pub first_repeat : (x : Reading) (s : List ℕ) (at b : ℕ) (i : Instruction) (n p : ℕ) → decode_at x s at b ≡ decodes i n p
    → i.repeat ≡ repeat_of (first is_repeat (run_of (drop at s)))
first_repeat x s at b i n p e = (subst (AnswerPlaced x (drop at s)) e (at_placed x s at b)).repeat

pub override_kept : (x : Reading) (s : List ℕ) (at b : ℕ) (i : Instruction) (n p : ℕ) → Bytes s → decode_at x s at b ≡ decodes i n p
    → i.kept ≡ kept_of x (first is_override (run_of (drop at s))) (byte_at (tail_of (drop at s)) 0)
override_kept x s at b i n p bytes e =
    (subst (AnswerPlaced x (drop at s)) e (at_placed x s at b)).kept (tail_byte (drop at s) (bytes_from s at bytes))
