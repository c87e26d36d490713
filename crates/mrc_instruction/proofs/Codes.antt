-- Each case of a small type stands among its cases at its code, and the codes are in order.
-- Assumes nothing.
use mathlib.Core.Path.{◌≡◌, refl}
use Prim.Native.Nat.{ℕ, zero, suc, ◌<◌}
use native.Mathlib.Omega.{arith}
use lib.Dec.{lit<}
use Rattle.mrc_instruction.specs.declared.register.RegisterEncoding.{RegisterEncoding}
use Rattle.mrc_instruction.specs.declared.register.RegisterEncoding.TheVariants.{AlAx, ClCx, DlDx, BlBx, AhSp, ChBp, DhSi, BhDi}
use Rattle.mrc_instruction.specs.declared.register.Segment.{Segment}
use Rattle.mrc_instruction.specs.declared.register.Segment.TheVariants.{ES, CS, SS, DS}
use Rattle.mrc_instruction.specs.declared.operand.AddressingMode.{AddressingMode}
use Rattle.mrc_instruction.specs.declared.operand.AddressingMode.TheVariants.{BxSi, BxDi, BpSi, BpDi, Si, Di, Bp, Bx}
use Rattle.mrc_instruction.specs.declared.operand.OperandSize.{OperandSize}
use Rattle.mrc_instruction.specs.declared.operand.OperandSize.TheVariants.{Byte, Word}
use Rattle.mrc_instruction.specs.BothWays.{BothWays}
use Rattle.mrc_instruction.specs.Register.{registers, register_of, register_code, segments, segment_of, segment_code}
use Rattle.mrc_instruction.specs.Operand.{addressing, addressing_of, addressing_code, size_code, size_by}
use Rattle.mrc_instruction.proofs.Numbered.{both_ways}

register_stands : (r : RegisterEncoding) → (register_code r < 8) × (register_of (register_code r) ≡ r)
register_stands AlAx = (lit< tt, refl)
register_stands ClCx = (lit< tt, refl)
register_stands DlDx = (lit< tt, refl)
register_stands BlBx = (lit< tt, refl)
register_stands AhSp = (lit< tt, refl)
register_stands ChBp = (lit< tt, refl)
register_stands DhSi = (lit< tt, refl)
register_stands BhDi = (lit< tt, refl)

pub registers_both_ways : BothWays 8 register_of register_code
registers_both_ways = both_ways register_code registers BhDi refl register_stands

segment_stands : (s : Segment) → (segment_code s < 4) × (segment_of (segment_code s) ≡ s)
segment_stands ES = (lit< tt, refl)
segment_stands CS = (lit< tt, refl)
segment_stands SS = (lit< tt, refl)
segment_stands DS = (lit< tt, refl)

pub segments_both_ways : BothWays 4 segment_of segment_code
segments_both_ways = both_ways segment_code segments DS refl segment_stands

mode_stands : (m : AddressingMode) → (addressing_code m < 8) × (addressing_of (addressing_code m) ≡ m)
mode_stands BxSi = (lit< tt, refl)
mode_stands BxDi = (lit< tt, refl)
mode_stands BpSi = (lit< tt, refl)
mode_stands BpDi = (lit< tt, refl)
mode_stands Si = (lit< tt, refl)
mode_stands Di = (lit< tt, refl)
mode_stands Bp = (lit< tt, refl)
mode_stands Bx = (lit< tt, refl)

pub modes_both_ways : BothWays 8 addressing_of addressing_code
modes_both_ways = both_ways addressing_code addressing Bx refl mode_stands

size_below : (s : OperandSize) → size_code s < 2
size_below Byte = lit< tt
size_below Word = lit< tt

size_back : (s : OperandSize) → size_by (size_code s) ≡ s
size_back Byte = refl
size_back Word = refl

size_forth : (n : ℕ) → n < 2 → size_code (size_by n) ≡ n
size_forth zero h = refl
size_forth (suc zero) h = refl
size_forth (suc (suc n)) h = absurd (omega arith)

pub sizes_both_ways : BothWays 2 size_by size_code
sizes_both_ways = record { below = size_below; back = size_back; forth = size_forth }
