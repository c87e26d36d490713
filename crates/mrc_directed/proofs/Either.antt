-- Of two rows or two forms that a test or a direction picks from: what is read whichever it is.
-- Assumes nothing.
use mathlib.Core.Path.{◌≡◌, refl}
use mathlib.Core.Bool.{Bool, true, false, cond}
use Prim.Native.Nat.{ℕ}
use Rattle.mrc_instruction.specs.declared.reading.Reading.TheVariants.{One}
use Rattle.mrc_instruction.specs.declared.operand.Operand.{Operand}
use Rattle.mrc_instruction.specs.declared.operand.OperandSize.{OperandSize}
use Rattle.mrc_instruction.specs.declared.operation.Operation.TheVariants.{MOV}
use Rattle.mrc_instruction.specs.Reader.{done, ◌>>=◌, a_word}
use Rattle.mrc_instruction.specs.declared.register.Segment.{Segment}
use Rattle.mrc_instruction.specs.Operand.{size_by}
use Rattle.mrc_instruction.specs.Mrrm.{reg_field}
use Rattle.mrc_rules.specs.Forms.{two, an_immediate, acc, acc_direct, direct_acc, arithmetic, group80, group_c6, behind, rest}

-- A0 to A3 read a word, and only the order of the operands differs
pub direct_either : (opcode : ℕ) (t : Bool)
    → rest One opcode (cond t (direct_acc (size_by opcode)) (acc_direct (size_by opcode)))
    ≡ (a_word >>= λ w.
    done
    (cond t (two MOV (Operand.Direct Segment.DS (size_by opcode) w) (acc (size_by opcode))) (two MOV (acc (size_by opcode)) (Operand.Direct Segment.DS (size_by opcode) w))))
direct_either opcode true = refl
direct_either opcode false = refl

-- an immediate is read behind 80 to 82 and behind C6 and C7, and only the operation differs
pub immediate_either : (t : Bool) (size : OperandSize) (operand : Operand) (byte : ℕ)
    → behind One (cond t group80 group_c6) size operand byte
    ≡ (an_immediate size >>= λ i. done (two (cond t (arithmetic (reg_field byte)) MOV) operand (Operand.Immediate i)))
immediate_either true size operand byte = refl
immediate_either false size operand byte = refl
