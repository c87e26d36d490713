-- Rule 15.5: the record of a ModRM as C and Rust get it: its fields, and the two machine words that they are packed in.
use Rattle.std.specs.Prelude.{ℕ, ◌+◌, ◌<◌, ◌≡◌, List, [], ◌∷◌, get_or, Ok, Err}
use Rattle.mrc_instruction.specs.declared.mrrm.RegisterOrMemory.{RegisterOrMemory}
use Rattle.mrc_instruction.specs.declared.mrrm.WrittenModRM.{WrittenModRM}
use Rattle.mrc_instruction.specs.Read.{Read}
use Rattle.mrc_instruction.specs.Widths.{words}
use Rattle.mrc_instruction.specs.Errors.{number_of, byte_of}
use Rattle.mrc_instruction.specs.Register.{register_code}
use Rattle.mrc_instruction.specs.Operand.{addressing_code}
use Rattle.mrc_instruction.specs.Signed.{unsigned_byte, unsigned_word}
use Rattle.mrc_c.specs.Words.{from, byte_at, word_at, Holds}
use Rattle.mrc_c.specs.Operands.{Fields, fields_word, fields_in, fields_of, no_operand}

-- the first word: the refusal's number, or 0; the ModRM byte, or the refusal's; the bytes taken; the register that reg names; the
-- displacement bytes written
pub record ModrmHead : Type 0 where
  pub refusal : ℕ
  pub byte : ℕ
  pub taken : ℕ
  pub register : ℕ
  pub written : ℕ
  pub reserved : ℕ

abbrev pub modrm_word : ModrmHead → ℕ
modrm_word h = from 0 h.refusal + from 1 h.byte + from 2 h.taken + from 4 h.register + from 5 h.written + from 6 h.reserved

abbrev pub modrm_in : ℕ → ModrmHead
modrm_in w = record { refusal = byte_at 0 w; byte = byte_at 1 w; taken = word_at 2 w; register = byte_at 4 w; written = byte_at 5 w; reserved = word_at 6 w }

abbrev pub ModrmHeld : ModrmHead → ℕ → Type 0
ModrmHeld = Holds modrm_word modrm_in

pub record ModrmFits (h : ModrmHead) : Type 0 where
  pub refusal : h.refusal < 256
  pub byte : h.byte < 256
  pub taken : h.taken < words
  pub register : h.register < 256
  pub written : h.written < 256
  pub reserved : h.reserved < words

-- the second word: what mod and rm name
pub record Modrm : Type 0 where
  pub head : ModrmHead
  pub operand : Fields

abbrev pub modrm_words : Modrm → List ℕ
modrm_words r = modrm_word r.head ∷ fields_word r.operand ∷ []

abbrev pub modrm_record_in : List ℕ → Modrm
modrm_record_in w = record { head = modrm_in (get_or w 0 0); operand = fields_in (get_or w 1 0) }

-- the words are what the record is packed to, and the record is what is read from them
pub record ModrmWritten (r : Modrm) (w : List ℕ) : Type 0 where
  pub packed : w ≡ modrm_words r
  pub kept : modrm_record_in w ≡ r

abbrev pub modrm_by : ℕ → ℕ → ℕ → ℕ → ℕ → ModrmHead
modrm_by refusal byte taken register written =
    record { refusal = refusal; byte = byte; taken = taken; register = register; written = written; reserved = 0 }

abbrev pub named_fields : RegisterOrMemory → Fields
named_fields (RegisterOrMemory.Direct w) = fields_of 1 0 0 0 w 0
named_fields (RegisterOrMemory.Indirect m) = fields_of 2 0 (addressing_code m) 0 0 0
named_fields (RegisterOrMemory.DisplacementByte m d) = fields_of 3 0 (addressing_code m) 0 (unsigned_byte d) 0
named_fields (RegisterOrMemory.DisplacementWord m d) = fields_of 4 0 (addressing_code m) 0 (unsigned_word d) 0
named_fields (RegisterOrMemory.Register r) = fields_of 5 (register_code r) 0 0 0 0

abbrev pub modrm_of : Read WrittenModRM → Modrm
modrm_of (Ok t) =
    let m = t.value in record { head = modrm_by 0 m.byte t.taken (register_code m.mrrm.register) m.written; operand = named_fields m.mrrm.register_or_memory }
modrm_of (Err e) = record { head = modrm_by (number_of e.refusal) (byte_of e.refusal) e.taken 0 0; operand = no_operand }
