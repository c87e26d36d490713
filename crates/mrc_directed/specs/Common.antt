-- Internal: what the forms with a destination and a source owe the decoder.
-- The forms that a function of several picks from, by what the caller says.
use Rattle.std.specs.Prelude.{ℕ, cond, eqb}
use Rattle.mrc_instruction.specs.declared.operation.Operation.{Operation}
use Rattle.mrc_rules.specs.Forms.{ModRMForm, rm_reg, reg_rm, rm_segment, segment_rm, group80, group_c6}
use Rattle.mrc_directed.specs.declared.common.Direction.{Direction}
use Rattle.mrc_directed.specs.declared.common.Direction.TheVariants.{RegFirst, RegMemFirst}

-- rule 1.3: which of the two is the destination
abbrev pub register_or_memory_and_register : Direction → Operation → ModRMForm
register_or_memory_and_register RegFirst op = reg_rm op
register_or_memory_and_register RegMemFirst op = rm_reg op

-- rule 6.1: 8E has the segment as the destination, and 8C as the source
abbrev pub register_or_memory_and_segment : Direction → ModRMForm
register_or_memory_and_segment RegFirst = segment_rm
register_or_memory_and_segment RegMemFirst = rm_segment

-- 80 to 82, and C6 and C7, by the number that names the group
abbrev pub immediate_to_register_or_memory : ℕ → ModRMForm
immediate_to_register_or_memory group = cond (eqb group 0x80) group80 group_c6
