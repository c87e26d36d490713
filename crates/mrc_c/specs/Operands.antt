-- Rules 15.2 and 15.3: an operand as C and Rust get it: its fields, and the machine word that they are packed in.
use Rattle.std.specs.Prelude.{ℕ, ◌+◌, ◌<◌}
use Rattle.mrc_instruction.specs.declared.register.Segment.{Segment}
use Rattle.mrc_instruction.specs.declared.operand.OperandSize.{OperandSize}
use Rattle.mrc_instruction.specs.declared.operand.AddressingMode.{AddressingMode}
use Rattle.mrc_instruction.specs.declared.operand.Displacement.{Displacement}
use Rattle.mrc_instruction.specs.declared.operand.Immediate.{Immediate}
use Rattle.mrc_instruction.specs.declared.operand.Operand.{Operand}
use Rattle.mrc_instruction.specs.Widths.{words}
use Rattle.mrc_instruction.specs.Register.{register_code, segment_code}
use Rattle.mrc_instruction.specs.Operand.{addressing_code, size_code}
use Rattle.mrc_instruction.specs.Signed.{unsigned_byte, unsigned_word}
use Rattle.mrc_c.specs.Words.{from, byte_at, word_at, Holds}

-- what the operand is; the segment or register that it names; its addressing mode; its size; its offset, displacement or immediate; the segment of a
-- far address. What a kind has no use for is 0
pub record Fields : Type 0 where
  pub kind : ℕ
  pub named : ℕ
  pub mode : ℕ
  pub size : ℕ
  pub value : ℕ
  pub far_segment : ℕ

abbrev pub fields_word : Fields → ℕ
fields_word f = from 0 f.kind + from 1 f.named + from 2 f.mode + from 3 f.size + from 4 f.value + from 6 f.far_segment

abbrev pub fields_in : ℕ → Fields
fields_in w = record {
  kind = byte_at 0 w;
  named = byte_at 1 w;
  mode = byte_at 2 w;
  size = byte_at 3 w;
  value = word_at 4 w;
  far_segment = word_at 6 w;
}

abbrev pub OperandHeld : Fields → ℕ → Type 0
OperandHeld = Holds fields_word fields_in

pub record FieldsFit (f : Fields) : Type 0 where
  pub kind : f.kind < 256
  pub named : f.named < 256
  pub mode : f.mode < 256
  pub size : f.size < 256
  pub value : f.value < words
  pub far_segment : f.far_segment < words

abbrev pub fields_of : ℕ → ℕ → ℕ → ℕ → ℕ → ℕ → Fields
fields_of kind named mode size value far =
    record { kind = kind; named = named; mode = mode; size = size; value = value; far_segment = far }

abbrev pub no_operand : Fields
no_operand = fields_of 0 0 0 0 0 0

abbrev pub indirect_fields : Segment → AddressingMode → Displacement → OperandSize → Fields
indirect_fields s m Displacement.None size = fields_of 2 (segment_code s) (addressing_code m) (size_code size) 0 0
indirect_fields s m (Displacement.Byte d) size = fields_of 3 (segment_code s) (addressing_code m) (size_code size) (unsigned_byte d) 0
indirect_fields s m (Displacement.Word d) size = fields_of 4 (segment_code s) (addressing_code m) (size_code size) (unsigned_word d) 0

abbrev pub immediate_fields : Immediate → Fields
immediate_fields (Immediate.Byte b) = fields_of 7 0 0 0 b 0
immediate_fields (Immediate.Word w) = fields_of 8 0 0 0 w 0

abbrev pub displacement_fields : Displacement → Fields
displacement_fields Displacement.None = fields_of 9 0 0 0 0 0
displacement_fields (Displacement.Byte d) = fields_of 10 0 0 0 (unsigned_byte d) 0
displacement_fields (Displacement.Word d) = fields_of 11 0 0 0 (unsigned_word d) 0

abbrev pub operand_fields : Operand → Fields
operand_fields (Operand.Direct s size w) = fields_of 1 (segment_code s) 0 (size_code size) w 0
operand_fields (Operand.Indirect s size m d) = indirect_fields s m d size
operand_fields (Operand.Register r) = fields_of 5 (register_code r.0) 0 (size_code r.1) 0 0
operand_fields (Operand.Segment s) = fields_of 6 (segment_code s) 0 0 0 0
operand_fields (Operand.Immediate i) = immediate_fields i
operand_fields (Operand.Displacement d) = displacement_fields d
operand_fields (Operand.SegmentAndOffset a) = fields_of 12 0 0 0 a.offset a.segment
