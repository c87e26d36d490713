-- Rule 15.1: the record of an answer as C and Rust get it: its fields, and the five machine words that they are packed in. The third operand has its
-- place, and is 0.
use Rattle.std.specs.Prelude.{ℕ, ◌+◌, ◌<◌, ◌≡◌, List, [], ◌∷◌, get_or, Option, Some, None, Result, Ok, Err}
use Rattle.mrc_instruction.specs.declared.instruction.Instruction.{Instruction}
use Rattle.mrc_instruction.specs.declared.errors.Refusal.{Refusal}
use Rattle.mrc_instruction.specs.declared.instruction.Repeat.{Repeat}
use Rattle.mrc_instruction.specs.declared.instruction.Reach.{Reach}
use Rattle.mrc_instruction.specs.declared.register.Segment.{Segment}
use Rattle.mrc_instruction.specs.declared.instruction.OperandSet.{OperandSet}
use Rattle.mrc_instruction.specs.Widths.{words}
use Rattle.mrc_instruction.specs.Register.{segment_code}
use Rattle.mrc_instruction.specs.Operation.{operation_number}
use Rattle.mrc_rules.specs.declared.Answer.{Answer}
use Rattle.mrc_rules.specs.Answer.{number, byte, taken, prefixes}
use Rattle.mrc_c.specs.Words.{from, byte_at, word_at, Holds}
use Rattle.mrc_c.specs.Operands.{Fields, fields_word, fields_in, FieldsFit, no_operand, operand_fields}

-- the first word: what every answer carries
pub record Head : Type 0 where
  pub refusal : ℕ
  pub byte : ℕ
  pub taken : ℕ
  pub prefixes : ℕ
  pub reserved : ℕ

abbrev pub head_word : Head → ℕ
head_word h = from 0 h.refusal + from 1 h.byte + from 2 h.taken + from 4 h.prefixes + from 6 h.reserved

abbrev pub head_in : ℕ → Head
head_in w = record { refusal = byte_at 0 w; byte = byte_at 1 w; taken = word_at 2 w; prefixes = word_at 4 w; reserved = word_at 6 w }

abbrev pub HeadHeld : Head → ℕ → Type 0
HeadHeld = Holds head_word head_in

pub record HeadFits (h : Head) : Type 0 where
  pub refusal : h.refusal < 256
  pub byte : h.byte < 256
  pub taken : h.taken < words
  pub prefixes : h.prefixes < words
  pub reserved : h.reserved < words

-- the second word: what an instruction has besides its operands
pub record Body : Type 0 where
  pub operation : ℕ
  pub repeat : ℕ
  pub reach : ℕ
  pub kept : ℕ
  pub written : ℕ
  pub operands : ℕ
  pub reserved : ℕ

abbrev pub body_word : Body → ℕ
body_word b =
    from 0 b.operation + from 1 b.repeat + from 2 b.reach + from 3 b.kept + from 4 b.written + from 5 b.operands + from 6 b.reserved

abbrev pub body_in : ℕ → Body
body_in w = record {
  operation = byte_at 0 w;
  repeat = byte_at 1 w;
  reach = byte_at 2 w;
  kept = byte_at 3 w;
  written = byte_at 4 w;
  operands = byte_at 5 w;
  reserved = word_at 6 w;
}

abbrev pub BodyHeld : Body → ℕ → Type 0
BodyHeld = Holds body_word body_in

pub record BodyFits (b : Body) : Type 0 where
  pub operation : b.operation < 256
  pub repeat : b.repeat < 256
  pub reach : b.reach < 256
  pub kept : b.kept < 256
  pub written : b.written < 256
  pub operands : b.operands < 256
  pub reserved : b.reserved < words

-- the other three: the operands, the destination first
pub record Record : Type 0 where
  pub head : Head
  pub body : Body
  pub destination : Fields
  pub source : Fields
  pub third : Fields

pub record Fits (r : Record) : Type 0 where
  pub head : HeadFits r.head
  pub body : BodyFits r.body
  pub destination : FieldsFit r.destination
  pub source : FieldsFit r.source
  pub third : FieldsFit r.third

abbrev pub words_of : Record → List ℕ
words_of r =
    head_word r.head ∷ body_word r.body ∷ fields_word r.destination ∷ fields_word r.source ∷ fields_word r.third ∷ []

abbrev pub record_in : List ℕ → Record
record_in w = record {
  head = head_in (get_or w 0 0);
  body = body_in (get_or w 1 0);
  destination = fields_in (get_or w 2 0);
  source = fields_in (get_or w 3 0);
  third = fields_in (get_or w 4 0);
}

-- the words are what the record is packed to, and the record is what is read from them
pub record Written (r : Record) (w : List ℕ) : Type 0 where
  pub packed : w ≡ words_of r
  pub kept : record_in w ≡ r

abbrev pub head_by : ℕ → ℕ → ℕ → ℕ → Head
head_by refusal byte taken prefixes = record { refusal = refusal; byte = byte; taken = taken; prefixes = prefixes; reserved = 0 }

abbrev pub head_of : Answer → Head
head_of a = head_by (number a) (byte a) (taken a) (prefixes a)

abbrev pub repeat_code : Option Repeat → ℕ
repeat_code None = 0
repeat_code (Some Repeat.Equal) = 1
repeat_code (Some Repeat.NotEqual) = 2

abbrev pub reach_code : Reach → ℕ
reach_code Reach.Neither = 0
reach_code Reach.Near = 1
reach_code Reach.Far = 2

-- the segment of the override that is kept, counted from 1
abbrev pub kept_code : Option Segment → ℕ
kept_code None = 0
kept_code (Some segment) = 1 + segment_code segment

abbrev pub body_by : ℕ → ℕ → ℕ → ℕ → ℕ → ℕ → Body
body_by operation repeat reach kept written operands =
    record { operation = operation; repeat = repeat; reach = reach; kept = kept; written = written; operands = operands; reserved = 0 }

abbrev pub count_of : OperandSet → ℕ
count_of OperandSet.None = 0
count_of (OperandSet.Destination d) = 1
count_of (OperandSet.DestinationAndSource d s) = 2

abbrev pub destination_of : OperandSet → Fields
destination_of OperandSet.None = no_operand
destination_of (OperandSet.Destination d) = operand_fields d
destination_of (OperandSet.DestinationAndSource d s) = operand_fields d

abbrev pub source_of : OperandSet → Fields
source_of OperandSet.None = no_operand
source_of (OperandSet.Destination d) = no_operand
source_of (OperandSet.DestinationAndSource d s) = operand_fields s

-- of a refusal all but the head is 0
abbrev pub record_with : Head → Result Instruction Refusal → Record
record_with head (Ok i) = record {
  head = head;
  body = body_by (operation_number i.operation) (repeat_code i.repeat) (reach_code i.reach) (kept_code i.kept) i.written (count_of i.operands);
  destination = destination_of i.operands;
  source = source_of i.operands;
  third = no_operand;
}
record_with head (Err e) = record { head = head; body = body_by 0 0 0 0 0 0; destination = no_operand; source = no_operand; third = no_operand }

abbrev pub record_of : Answer → Record
record_of a = record_with (head_of a) a.result
