-- Rule 15.9: the size of an operand by the kind and the size of its fields: 0 Byte, 1 Word, 2 no size.
use Rattle.std.specs.Prelude.{ℕ, cond, List, [], ◌∷◌, ltb, get_or, Option, Some, None}
use Rattle.mrc_instruction.specs.declared.operand.OperandSize.{OperandSize}
use Rattle.mrc_instruction.specs.Operand.{size_code}

abbrev pub sized_code : Option OperandSize → ℕ
sized_code (Some size) = size_code size
sized_code None = 2

-- the size that memory and registers have of their own; a number that is none is no size
abbrev pub own_size : ℕ → ℕ
own_size size = cond (ltb size 2) size 2

-- by the kinds of a record's operands; one that is absent, or no kind, has no size
abbrev pub sizes_by : ℕ → List ℕ
sizes_by own = 2 ∷ own ∷ own ∷ own ∷ own ∷ own ∷ 1 ∷ 0 ∷ 1 ∷ 2 ∷ 0 ∷ 1 ∷ 2 ∷ []

abbrev pub size_number : ℕ → ℕ → ℕ
size_number kind size = get_or (sizes_by (own_size size)) kind 2
