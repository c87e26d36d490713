-- What stands behind RET is printed as its own word, and every other displacement that stands alone as its target.
-- Assumes nothing.
use Rattle.std.proofs.Common.{◌≡◌, ℕ, ◌+◌, ◌*◌, ◌/◌, ◌%◌, ◌<◌, ◌≤◌, List, [], ◌∷◌, ◌++◌, length, take, drop, sym, refl, ap, ◌∙◌, append_assoc, arith, length-drop, ne_eqb, le-leb}
use Rattle.mrc_instruction.specs.declared.reading.Reading.{Reading}
use Rattle.mrc_instruction.specs.declared.reading.Reading.TheVariants.{One, Two}
use Rattle.mrc_instruction.specs.declared.operand.Displacement.{Displacement}
use Rattle.mrc_instruction.specs.declared.operand.Immediate.{Immediate}
use Rattle.mrc_instruction.specs.declared.operand.Operand.{Operand}
use Rattle.mrc_instruction.specs.declared.instruction.Reach.TheVariants.{Near, Far}
use Rattle.mrc_instruction.specs.declared.instruction.Instruction.{Instruction}
use Rattle.mrc_instruction.specs.declared.operation.Operation.{Operation}
use Rattle.mrc_instruction.specs.declared.operation.Operation.TheVariants.{RET}
use Rattle.mrc_instruction.specs.Instruction.{reached}
use Rattle.mrc_instruction.specs.Operation.{operation_at, operation_number}
use Rattle.mrc_instruction.specs.Signed.{signed_word}
use Rattle.mrc_instruction.specs.Reader.{a_byte, a_word}
use Rattle.mrc_instruction.proofs.Operations.{operations_both_ways}
use Rattle.mrc_instruction.proofs.Complement.{unsigned_back}
use Rattle.mrc_rules.specs.Answer.{decodes}
use Rattle.mrc_rules.specs.Forms.{one}
use Rattle.mrc_rules.specs.Table.{rows, row_of}
use Rattle.mrc_rules.specs.Decode.{decode_at}
use Rattle.mrc_line.specs.declared.printed.Printed.{Printed}
use Rattle.mrc_line.specs.Text.{bytes, hex2, hex4}
use Rattle.mrc_line.specs.Target.{target_of}
use Rattle.mrc_line.specs.Printed.{alone}
use Rattle.mrc_line.specs.Line.{head_text, instruction_text, step_text, line_text, line_end, budget}

-- every other operation has a target, since one with RET's number is RET
pub targets :
    (o : Operation) → (o ≡ RET → ⊥) → (start taken : ℕ) (d : Displacement) → alone o start taken d ≡ Printed.Word (target_of start taken d)
targets o h start taken d =
    rw (ne_eqb (operation_number o) (operation_number RET) (λ e. h (sym (operations_both_ways.back o) ∙ ap operation_at e))) refl

-- a word's digits are those of its bytes, the high one first
digits : (low high : ℕ) → low < 256 → hex4 (low + 256 * high) ≡ hex2 high ++ hex2 low
digits low high h =
    let above : (low + 256 * high) / 256 ≡ high = omega arith in
    let below : (low + 256 * high) % 256 ≡ low = omega arith in
    rw above (rw below refl)

module _ (s : List ℕ) (at low high : ℕ) (l : List ℕ) (low_byte : low < 256) (high_byte : high < 256) where
  -- the bytes from the position on, and the line
  abbrev There : ℕ → Type 0
  There opcode = drop at s ≡ opcode ∷ low ∷ high ∷ l

  abbrev text : List ℕ → ℕ → List ℕ
  text name opcode = head_text at (opcode ∷ low ∷ high ∷ []) ++ (name ++ (hex2 high ++ (hex2 low ++ line_end)))

  -- an instruction of three bytes that prints as a name and its word
  listed :
      (x : Reading) (name : List ℕ) (opcode : ℕ) (i : Instruction) → There opcode → decode_at x s at budget ≡ decodes i 3 0 →
      instruction_text x at 3 i ≡ name ++ hex4 (low + 256 * high) → line_text x s at ≡ text name opcode
  unfolding line_text step_text
  listed x name opcode i there decoded printed =
      ap (step_text x s at) decoded ∙ ap (λ (y : List ℕ). head_text at (take 3 y) ++ (instruction_text x at 3 i ++ line_end)) there
      ∙ ap (λ (y : List ℕ). head_text at (opcode ∷ low ∷ high ∷ []) ++ (y ++ line_end)) (printed ∙ ap (λ (y : List ℕ). name ++ y) (digits low high low_byte))
      ∙ ap (λ (y : List ℕ). head_text at (opcode ∷ low ∷ high ∷ []) ++ y) (append_assoc name (hex2 high ++ hex2 low) line_end)

  within : (opcode : ℕ) → There opcode → at ≤ length s
  within opcode there = omega (arith, length-drop at s, ap length there)

  -- the word of C2 is a displacement, and in reading 2 an immediate; that of CA is an immediate
  pub near : (x : Reading) → There 0xC2 → line_text x s at ≡ text (bytes "RET ") 0xC2
  unfolding instruction_text rows row_of a_byte a_word
  near One there =
      listed One (bytes "RET ") 0xC2 (reached Near (one RET (Operand.Displacement (Displacement.Word (signed_word (low + 256 * high)))))) there
      (rw (le-leb at (length s) (within 0xC2 there)) (rw there refl))
      (ap (λ (w : ℕ). bytes "RET " ++ hex4 w) (unsigned_back 32768 65535 refl (low + 256 * high) (omega arith)))
  near Two there =
      listed Two (bytes "RET ") 0xC2 (reached Near (one RET (Operand.Immediate (Immediate.Word (low + 256 * high))))) there
      (rw (le-leb at (length s) (within 0xC2 there)) (rw there refl)) refl

  pub far : (x : Reading) → There 0xCA → line_text x s at ≡ text (bytes "RET FAR ") 0xCA
  unfolding instruction_text rows row_of a_byte a_word
  far x there =
      listed x (bytes "RET FAR ") 0xCA (reached Far (one RET (Operand.Immediate (Immediate.Word (low + 256 * high))))) there
      (rw (le-leb at (length s) (within 0xCA there)) (rw there refl)) refl
