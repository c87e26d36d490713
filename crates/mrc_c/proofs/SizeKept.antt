-- The size by the kind and the size of an operand's fields is the size of the operand, and past the kinds there is none.
-- Assumes nothing.
use mathlib.Core.Path.{◌≡◌, refl}
use mathlib.Core.List.{[], ◌∷◌}
use Prim.Native.Nat.{ℕ, ◌≤◌}
use lib.ListN.{get_or}
use Rattle.mrc_instruction.specs.declared.operand.OperandSize.{OperandSize}
use Rattle.mrc_instruction.specs.declared.operand.OperandSize.TheVariants.{Byte, Word}
use Rattle.mrc_instruction.specs.declared.operand.Displacement.{Displacement}
use Rattle.mrc_instruction.specs.declared.operand.Immediate.{Immediate}
use Rattle.mrc_instruction.specs.declared.operand.Operand.{Operand}
use Rattle.mrc_instruction.specs.Operand.{size_code, size_of}
use Rattle.mrc_instruction.proofs.LastArm.{ends}
use Rattle.mrc_c.specs.Operands.{operand_fields}
use Rattle.mrc_c.specs.Sizes.{sized_code, own_size, sizes_by, size_number}

pub beyond : (own kind : ℕ) → 12 ≤ kind → get_or (sizes_by own) kind 2 ≡ 2
beyond own kind h = ends (2 ∷ own ∷ own ∷ own ∷ own ∷ own ∷ 1 ∷ 0 ∷ 1 ∷ 2 ∷ 0 ∷ 1 ∷ []) 2 kind h

own : (size : OperandSize) → own_size (size_code size) ≡ size_code size
own Byte = refl
own Word = refl

pub size_kept : (o : Operand) → size_number (operand_fields o).kind (operand_fields o).size ≡ sized_code (size_of o)
size_kept (Operand.Direct s size w) = own size
size_kept (Operand.Indirect s size m Displacement.None) = own size
size_kept (Operand.Indirect s size m (Displacement.Byte d)) = own size
size_kept (Operand.Indirect s size m (Displacement.Word d)) = own size
size_kept (Operand.Register r) = own r.1
size_kept (Operand.Segment s) = refl
size_kept (Operand.Immediate (Immediate.Byte b)) = refl
size_kept (Operand.Immediate (Immediate.Word w)) = refl
size_kept (Operand.Displacement Displacement.None) = refl
size_kept (Operand.Displacement (Displacement.Byte d)) = refl
size_kept (Operand.Displacement (Displacement.Word d)) = refl
size_kept (Operand.SegmentAndOffset a) = refl
