-- Fields that fit their places are got back from the machine word that they are packed in: each place is a digit of the word, apart from the others.
-- Assumes nothing.
use Prim.Native.Nat.{ℕ}
use mathlib.Core.Path.{◌≡◌, refl}
use mathlib.Core.List.{[], ◌∷◌}
use native.Mathlib.Omega.{arith}
use Rattle.mrc_c.specs.Words.{byte_at, word_at, Holds}
use Rattle.mrc_c.specs.Operands.{Fields, fields_word, FieldsFit, OperandHeld}
use Rattle.mrc_c.specs.Record.{Head, head_word, HeadFits, HeadHeld, Body, body_word, BodyFits, BodyHeld, Record, Written}
use Rattle.mrc_c.specs.Modrm.{ModrmHead, modrm_word, ModrmFits, ModrmHeld, Modrm, ModrmWritten}

-- the word by whatever sum it was made
pub held : {A : Type 0} {pack : A → ℕ} {unpack : ℕ → A} {a : A} {w : ℕ} → w ≡ pack a → Holds pack unpack a (pack a) → Holds pack unpack a w
held e h = rw e h

pub operand_held : (f : Fields) → FieldsFit f → OperandHeld f (fields_word f)
operand_held f h = record { packed = refl; kept = rw (kind, named, mode, size, value, far) refl }
  where
    kind : byte_at 0 (fields_word f) ≡ f.kind
    kind = omega arith

    named : byte_at 1 (fields_word f) ≡ f.named
    named = omega arith

    mode : byte_at 2 (fields_word f) ≡ f.mode
    mode = omega arith

    size : byte_at 3 (fields_word f) ≡ f.size
    size = omega arith

    value : word_at 4 (fields_word f) ≡ f.value
    value = omega arith

    far : word_at 6 (fields_word f) ≡ f.far_segment
    far = omega arith

pub head_held : (h : Head) → HeadFits h → HeadHeld h (head_word h)
head_held h k = record { packed = refl; kept = rw (refusal, byte, taken, prefixes, reserved) refl }
  where
    refusal : byte_at 0 (head_word h) ≡ h.refusal
    refusal = omega arith

    byte : byte_at 1 (head_word h) ≡ h.byte
    byte = omega arith

    taken : word_at 2 (head_word h) ≡ h.taken
    taken = omega arith

    prefixes : word_at 4 (head_word h) ≡ h.prefixes
    prefixes = omega arith

    reserved : word_at 6 (head_word h) ≡ h.reserved
    reserved = omega arith

pub body_held : (b : Body) → BodyFits b → BodyHeld b (body_word b)
body_held b k = record { packed = refl; kept = rw (operation, repeat, reach, kept, written, operands, reserved) refl }
  where
    operation : byte_at 0 (body_word b) ≡ b.operation
    operation = omega arith

    repeat : byte_at 1 (body_word b) ≡ b.repeat
    repeat = omega arith

    reach : byte_at 2 (body_word b) ≡ b.reach
    reach = omega arith

    kept : byte_at 3 (body_word b) ≡ b.kept
    kept = omega arith

    written : byte_at 4 (body_word b) ≡ b.written
    written = omega arith

    operands : byte_at 5 (body_word b) ≡ b.operands
    operands = omega arith

    reserved : word_at 6 (body_word b) ≡ b.reserved
    reserved = omega arith

pub modrm_held : (h : ModrmHead) → ModrmFits h → ModrmHeld h (modrm_word h)
modrm_held h k = record { packed = refl; kept = rw (refusal, byte, taken, register, written, reserved) refl }
  where
    refusal : byte_at 0 (modrm_word h) ≡ h.refusal
    refusal = omega arith

    byte : byte_at 1 (modrm_word h) ≡ h.byte
    byte = omega arith

    taken : word_at 2 (modrm_word h) ≡ h.taken
    taken = omega arith

    register : byte_at 4 (modrm_word h) ≡ h.register
    register = omega arith

    written : byte_at 5 (modrm_word h) ≡ h.written
    written = omega arith

    reserved : word_at 6 (modrm_word h) ≡ h.reserved
    reserved = omega arith

-- words that hold the parts of a record are those of the record
pub written :
    (r : Record) {h b d s t : ℕ}
    → HeadHeld r.head h
    → BodyHeld r.body b
    → OperandHeld r.destination d
    → OperandHeld r.source s
    → OperandHeld r.third t
    → Written r (h ∷ b ∷ d ∷ s ∷ t ∷ [])
written r h b d s t = record { packed = cc; kept = rw (h.kept, b.kept, d.kept, s.kept, t.kept) refl }

pub modrm_written : (r : Modrm) {h p : ℕ} → ModrmHeld r.head h → OperandHeld r.operand p → ModrmWritten r (h ∷ p ∷ [])
modrm_written r h p = record { packed = cc; kept = rw (h.kept, p.kept) refl }
