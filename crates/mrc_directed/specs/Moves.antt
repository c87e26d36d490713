-- Internal: what the forms with a destination and a source owe the decoder.
-- Rule 6.1: A0 to A3: the accumulator is the destination, and by d the source.
use Rattle.std.specs.Prelude.{ℕ, cond}
use Rattle.mrc_rules.specs.Forms.{Row, acc_direct, direct_acc}
use Rattle.mrc_instruction.specs.Operand.{size_by}
use Rattle.mrc_forms.specs.Traits.{d_bit}

abbrev pub accumulator_and_direct : ℕ → Row
accumulator_and_direct opcode = cond (d_bit opcode) (direct_acc (size_by opcode)) (acc_direct (size_by opcode))
