-- F6 and F7, by reg.
-- Assumes nothing.
use mathlib.Core.Path.{◌≡◌}
use Prim.Native.Nat.{ℕ, zero, suc, ◌-◌, ◌≤◌}
use native.Mathlib.Omega.{arith}
use Rattle.mrc_instruction.specs.declared.operand.Operand.{Operand}
use Rattle.mrc_instruction.specs.declared.operand.OperandSize.{OperandSize}
use Rattle.mrc_instruction.specs.Reader.{done, ◌>>=◌}
use Rattle.mrc_instruction.specs.declared.operation.Operation.{Operation}
use Rattle.mrc_rules.specs.Forms.{an_immediate, one, two, group_f6_by, group_f6_operation}

pub group_f6_other : (k : ℕ) (d : Operand) (size : OperandSize) → 2 ≤ k → group_f6_by k d size ≡ done (one (group_f6_operation (k - 2)) d)
group_f6_other zero d size h = absurd (omega arith)
group_f6_other (suc zero) d size h = absurd (omega arith)
group_f6_other (suc (suc n)) d size h =
    let less : suc (suc n) - 2 ≡ n = omega arith in
    rw less

pub group_f6_test : (k : ℕ) (d : Operand) (size : OperandSize) → k ≡ 0
    → group_f6_by k d size ≡ (an_immediate size >>= λ i. done (two Operation.TEST d (Operand.Immediate i)))
group_f6_test k d size e = rw e
