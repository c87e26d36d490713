-- Section 7: the prefix bytes, the whole run at the front, its first override and first repeat, the tail behind it, and what an override does.
use Rattle.std.specs.Prelude.{ℕ, ◌/◌, ◌%◌, Bool, true, false, cond, ◌||◌, ◌&&◌, List, [], ◌∷◌, eqb, Option, Some, None, Result, Ok, Err}
use Rattle.mrc_instruction.specs.declared.errors.Refusal.{Refusal}
use Rattle.mrc_instruction.specs.declared.reading.Reading.{Reading}
use Rattle.mrc_instruction.specs.declared.reading.Reading.TheVariants.{One, Two}
use Rattle.mrc_instruction.specs.declared.register.Segment.{Segment}
use Rattle.mrc_instruction.specs.declared.operand.Operand.{Operand}
use Rattle.mrc_instruction.specs.declared.instruction.OperandSet.{OperandSet}
use Rattle.mrc_instruction.specs.declared.instruction.Repeat.{Repeat}
use Rattle.mrc_instruction.specs.declared.instruction.Instruction.{Instruction}
use Rattle.mrc_instruction.specs.declared.operation.Operation.{Operation}
use Rattle.mrc_instruction.specs.declared.operation.Operation.TheVariants.{MOVSB, MOVSW, CMPSB, CMPSW, LODSB, LODSW, XLATB}
use Rattle.mrc_instruction.specs.Operation.{operation_number}
use Rattle.mrc_instruction.specs.Register.{segment_of}
use Rattle.mrc_instruction.specs.Instruction.{repeated_by, on_operands, keeping_in}
use Rattle.mrc_rules.specs.Forms.{Tail}

-- rule 7.1: the segment overrides
abbrev pub is_override : ℕ → Bool
is_override b = eqb b 0x26 || eqb b 0x2E || eqb b 0x36 || eqb b 0x3E

abbrev pub override_segment : ℕ → Segment
override_segment b = segment_of (b / 8 % 4)

-- rule 7.2: the repeats
abbrev pub is_repeat : ℕ → Bool
is_repeat b = eqb b 0xF2 || eqb b 0xF3

abbrev pub repeat_of : Option ℕ → Option Repeat
repeat_of None = None
repeat_of (Some b) = cond (eqb b 0xF2) (Some Repeat.NotEqual) (Some Repeat.Equal)

abbrev pub is_prefix : ℕ → Bool
is_prefix b = is_override b || is_repeat b

-- rule 7.4: the run of prefixes at the front, and the tail behind it
abbrev pub run_of : List ℕ → List ℕ
run_of [] = []
run_of (b ∷ l) = cond (is_prefix b) (b ∷ run_of l) []

abbrev pub tail_of : List ℕ → List ℕ
tail_of [] = []
tail_of (b ∷ l) = cond (is_prefix b) (tail_of l) (b ∷ l)

-- rule 7.5: the first of a kind
abbrev pub first : (ℕ → Bool) → List ℕ → Option ℕ
first kind [] = None
first kind (b ∷ l) = cond (kind b) (Some b) (first kind l)

-- rule 7.6: memory is in the override's segment, and nothing else changes
abbrev pub in_segment : Segment → Operand → Operand
in_segment s (Operand.Direct was size offset) = Operand.Direct s size offset
in_segment s (Operand.Indirect was size mode displacement) = Operand.Indirect s size mode displacement
in_segment s (Operand.Register r) = Operand.Register r
in_segment s (Operand.Segment r) = Operand.Segment r
in_segment s (Operand.Immediate i) = Operand.Immediate i
in_segment s (Operand.Displacement d) = Operand.Displacement d
in_segment s (Operand.SegmentAndOffset a) = Operand.SegmentAndOffset a

-- the tail's instruction with a repeat and operands
abbrev pub made : Tail → Option Repeat → OperandSet → Instruction
made i repeat operands = repeated_by repeat (on_operands operands i)

-- the same with a repeat and an override that it keeps
abbrev pub keeping : Tail → Option Repeat → Segment → Instruction
keeping i repeat s = repeated_by repeat (keeping_in s i)

-- rule 7.11: the operations that read memory which no operand names
abbrev pub keepers : List Operation
keepers = MOVSB ∷ MOVSW ∷ CMPSB ∷ CMPSW ∷ LODSB ∷ LODSW ∷ XLATB ∷ []

abbrev pub among : List Operation → Operation → Bool
among [] op = false
among (o ∷ l) op = eqb (operation_number o) (operation_number op) || among l op

-- rule 7.11: in reading 2 they keep an override
abbrev pub manual : Reading → Bool
manual One = false
manual Two = true

abbrev pub keeps : Reading → Operation → Bool
keeps x op = among keepers op && manual x

-- the tail's instruction, which has these operands, under the override o: rules 7.6, 7.7 and 7.11
abbrev pub under : Reading → ℕ → Option Repeat → Tail → OperandSet → Result Instruction Refusal
under x o r i OperandSet.None = cond (keeps x i.operation) (Ok (keeping i r (override_segment o))) (Err (Refusal.InvalidPrefix o))
under x o r i (OperandSet.Destination d) = Ok (made i r (OperandSet.Destination (in_segment (override_segment o) d)))
under x o r i (OperandSet.DestinationAndSource d s) =
    Ok (made i r (OperandSet.DestinationAndSource (in_segment (override_segment o) d) (in_segment (override_segment o) s)))
