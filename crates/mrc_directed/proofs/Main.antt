-- The order of destination and source, where a bit turns it, all else alike. Each promise is an equation, so exactly one answer meets it
-- (`an_equation_settles` of mrc_instruction).
-- Assumes nothing.
use Prim.Native.Nat.{ℕ}
use mathlib.Core.Path.{◌≡◌, refl}
use mathlib.Core.List.{List}
use Rattle.mrc_instruction.specs.declared.reading.Reading.{Reading}
use Rattle.mrc_instruction.specs.declared.operand.Operand.{Operand}
use Rattle.mrc_instruction.specs.declared.operand.OperandSize.{OperandSize}
use Rattle.mrc_instruction.specs.declared.operation.Operation.{Operation}
use Rattle.mrc_instruction.specs.Reader.{read_from, a_word}
use Rattle.mrc_rules.specs.Forms.{◌⦂◌, rm_reg, reg_rm, rm_segment, segment_rm, acc_direct, direct_acc, behind, rest}
use Rattle.mrc_directed.specs.declared.common.Direction.TheVariants.{RegFirst, RegMemFirst}
use Rattle.mrc_directed.specs.Common.{register_or_memory_and_register}
use Rattle.mrc_directed.specs.Order.{exchanged_in}
use Rattle.mrc_directed.proofs.Order.{mirrored, mirrored_behind, segment_mirrored}

module _ (x : Reading) where
  -- the register or memory and the register, in either direction
  pub register_order : (opcode : ℕ) (op : Operation) (size : OperandSize) (l : List ℕ)
      → read_from (rest x opcode (reg_rm op ⦂ size)) l ≡ exchanged_in (read_from (rest x opcode (rm_reg op ⦂ size)) l)
  register_order opcode op size = mirrored_behind x (rm_reg op) (reg_rm op) size (λ operand byte l. refl) opcode

  -- the same behind the ModRM
  pub register_turned : (op : Operation) (size : OperandSize) (operand : Operand) (byte : ℕ) (l : List ℕ)
      → read_from (behind x (register_or_memory_and_register RegFirst op) size operand byte) l
      ≡ exchanged_in (read_from (behind x (register_or_memory_and_register RegMemFirst op) size operand byte) l)
  register_turned op size operand byte l = refl

  -- 8E and 8C, and the same behind the ModRM
  pub segment_order : (opcode : ℕ) (size : OperandSize) (l : List ℕ)
      → read_from (rest x opcode (segment_rm ⦂ size)) l ≡ exchanged_in (read_from (rest x opcode (rm_segment ⦂ size)) l)
  segment_order opcode size = mirrored_behind x rm_segment segment_rm size (segment_mirrored x size) opcode

  pub segment_turned : (size : OperandSize) (operand : Operand) (byte : ℕ) (l : List ℕ)
      → read_from (behind x segment_rm size operand byte) l ≡ exchanged_in (read_from (behind x rm_segment size operand byte) l)
  segment_turned = segment_mirrored x

  -- A2 and A3, and A0 and A1
  pub direct_order : (opcode : ℕ) (size : OperandSize) (l : List ℕ)
      → read_from (rest x opcode (direct_acc size)) l ≡ exchanged_in (read_from (rest x opcode (acc_direct size)) l)
  direct_order opcode size = mirrored a_word _ _ (λ w l. refl)
