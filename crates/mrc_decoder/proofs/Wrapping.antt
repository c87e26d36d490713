-- The rules can be decoded by wrapping: what Steps asks of a set of rules holds of them, whatever the opcode table.
-- Assumes nothing.
use mathlib.Core.Path.{◌≡◌, refl, sym, ap, ap₂}
use mathlib.Core.List.{List, ◌∷◌}
use mathlib.Core.Bool.{Bool, true, false, cond}
use lib.Dec.{ltb}
use Prim.Native.Nat.{ℕ, suc, ◌<◌}
use native.Mathlib.Omega.{arith}
use borrow.Author.Tests.{ne_eqb}
use Rattle.mrc_instruction.specs.declared.instruction.Instruction.{Instruction}
use Rattle.std.specs.Prelude.{Result, Ok, Err, Option, Some}
use Rattle.mrc_instruction.specs.declared.errors.Refusal.{Refusal}
use Rattle.mrc_instruction.specs.declared.reading.Reading.{Reading}
use Rattle.mrc_instruction.specs.declared.register.Segment.{Segment}
use Rattle.mrc_instruction.specs.declared.operand.Operand.{Operand}
use Rattle.mrc_instruction.specs.declared.instruction.OperandSet.{OperandSet}
use Rattle.mrc_instruction.specs.declared.instruction.Repeat.{Repeat}
use Rattle.mrc_instruction.specs.Errors.{number_of}
use Rattle.mrc_instruction.specs.Reader.{Outcome, got, stopped}
use Rattle.mrc_rules.specs.Forms.{Tail}
use Rattle.mrc_rules.specs.Prefixes.{is_override, override_segment, is_repeat, repeat_of, in_segment, made, keeping, keeps, under}
use Rattle.mrc_rules.specs.Decode.{tail, decode_by, rules}
use Rattle.mrc_rules.proofs.Striking.{override_cases, repeat_cases}
use Rattle.mrc_rules.proofs.Tails.{OfTail, tail_number}
use Rattle.mrc_decoder.specs.Prefixes.{result_under, result_repeated, overridden, under_override, with_repeat}
use Rattle.mrc_decoder.proofs.Steps.{Turned, Stops, Wraps, step_override, step_repeat}

-- every refusal with a number below 9 is one that an override turns into its own
turned : (e : Refusal) → number_of e < 9 → Turned e
turned e h =
    let not_ten : (number_of e ≡ 10 → ⊥) = λ q. omega (arith, q) in
    λ o. rw (ne_eqb (number_of e) 10 not_ten) refl

-- every tail is meant
unfoldable Any : Tail → Type 0
Any i = Unit {0}

tail_stops : (x : Reading) (l : List ℕ) → Stops Any (tail (rules x) l)
unfolding Any
tail_stops x l = go (tail (rules x) l) (tail_number x l)
  where
    go : (t : Outcome Tail) → OfTail t → Stops Any t
    go (got i n) h = tt
    go (stopped e n) h = turned e h

-- the outer segment wins
in_segment_again : (g later : Segment) (d : Operand) → in_segment g (in_segment later d) ≡ in_segment g d
in_segment_again g later (Operand.Direct s size w) = refl
in_segment_again g later (Operand.Indirect s size a n) = refl
in_segment_again g later (Operand.Register r) = refl
in_segment_again g later (Operand.Segment r) = refl
in_segment_again g later (Operand.Immediate i) = refl
in_segment_again g later (Operand.Displacement d) = refl
in_segment_again g later (Operand.SegmentAndOffset a) = refl

-- what an override makes of an instruction without operands, which keeps it or not
abbrev Keeping : Bool → ℕ → Option Repeat → Tail → Result Instruction Refusal
Keeping t o r i = cond t (Ok (keeping i r (override_segment o))) (Err (Refusal.InvalidPrefix o))

module _ (x : Reading) where
  under_fresh : (o : ℕ) (r : Option Repeat) (i : Tail) (was ops : OperandSet) → i.operands ≡ was → under x o r (made i r was) ops ≡ under x o r i ops
  under_fresh o r i was OperandSet.None e = ap (λ (q : OperandSet). cond (keeps x i.operation) (Ok (keeping (made i r q) r (override_segment o))) (Err (Refusal.InvalidPrefix o))) (sym e)
  under_fresh o r i was (OperandSet.Destination d) e = refl
  under_fresh o r i was (OperandSet.DestinationAndSource d s) e = refl

  kept_again : (o later : ℕ) (r : Option Repeat) (i : Tail) → i.operands ≡ OperandSet.None → (t : Bool) → keeps x i.operation ≡ t
      → result_under (overridden x) o (Keeping t later r i) ≡ Keeping t o r i
  kept_again o later r i e true k = rw (e, k) refl
  kept_again o later r i e false k = refl

  under_again : (o later : ℕ) (r : Option Repeat) (i : Tail) (ops : OperandSet) → i.operands ≡ ops → result_under (overridden x) o (under x later r i ops) ≡ under x o r i ops
  under_again o later r i OperandSet.None e = kept_again o later r i e (keeps x i.operation) refl
  under_again o later r i (OperandSet.Destination d) e =
      ap (λ (y : Operand). Ok (made i r (OperandSet.Destination y))) (in_segment_again (override_segment o) (override_segment later) d)
  under_again o later r i (OperandSet.DestinationAndSource d s) e =
      ap₂ (λ (y z : Operand). Ok (made i r (OperandSet.DestinationAndSource y z)))
      (in_segment_again (override_segment o) (override_segment later) d)
      (in_segment_again (override_segment o) (override_segment later) s)

  kept_repeated : (r later : Option Repeat) (o : ℕ) (i : Tail) (t : Bool) → result_repeated r (Keeping t o later i) ≡ Keeping t o r i
  kept_repeated r later o i true = refl
  kept_repeated r later o i false = refl

  under_repeated : (r later : Option Repeat) (o : ℕ) (i : Tail) (ops : OperandSet) → result_repeated r (under x o later i ops) ≡ under x o r i ops
  under_repeated r later o i OperandSet.None = kept_repeated r later o i (keeps x i.operation)
  under_repeated r later o i (OperandSet.Destination d) = refl
  under_repeated r later o i (OperandSet.DestinationAndSource d s) = refl

  pub wraps : Wraps (rules x)
  wraps = record {
    Of = Any;
    stops = tail_stops x;
    over = overridden x;
    fresh = λ o r i h. under_fresh o r i i.operands i.operands refl;
    again = λ o later r i h. under_again o later r i i.operands refl;
    repeated = λ r later o i h. under_repeated r later o i i.operands;
  }

-- the two steps, under the rules
pub override_wraps : (x : Reading) (b o : ℕ) (l : List ℕ) → is_override o ≡ true → decode_by (rules x) (suc b) (o ∷ l) ≡ under_override x o (decode_by (rules x) b l)
unfolding wraps
override_wraps x = step_override (rules x) (wraps x)

pub repeat_wraps : (x : Reading) (b r : ℕ) (l : List ℕ) → is_repeat r ≡ true
    → decode_by (rules x) (suc b) (r ∷ l) ≡ with_repeat (repeat_of (Some r)) (decode_by (rules x) b l)
repeat_wraps x = step_repeat (rules x) (wraps x)

-- which kind a prefix is
pub below : (o : ℕ) → is_override o ≡ true → ltb o 0xF0 ≡ true
below o e = override_cases (λ (b : ℕ). ltb b 0xF0 ≡ true) o e refl refl refl refl

pub above : (r : ℕ) → is_repeat r ≡ true → ltb r 0xF0 ≡ false
above r e = repeat_cases (λ (b : ℕ). ltb b 0xF0 ≡ false) r e refl refl
