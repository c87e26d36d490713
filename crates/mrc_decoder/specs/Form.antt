-- Internal: what the parts of the decoder owe each other.
-- The form of a first byte: what the byte means.
use Rattle.std.specs.Prelude.{ℕ, ◌/◌, ◌%◌, cond}
use Rattle.mrc_instruction.specs.declared.reading.Reading.{Reading}
use Rattle.mrc_instruction.specs.declared.instruction.Reach.{Reach}
use Rattle.mrc_instruction.specs.declared.instruction.Reach.TheVariants.{Neither, Near, Far}
use Rattle.mrc_instruction.specs.declared.operation.Operation.TheVariants.{RET}
use Rattle.mrc_instruction.specs.Register.{register_of, segment_of}
use Rattle.mrc_rules.specs.Forms.{Row, ◌⦂◌, ModRMForm, invalid, bare, rm_reg, reg_rm, immediate_to_accumulator, on_segment, on_register, on_displacement, group83, pop, rm_segment, segment_rm, exchange, far, register_and_immediate, shift_by_immediate, shift_by_one, shift_by_cl, on_immediate, escape, in_port, out_port, in_dx, out_dx, group_f6, reaching}
use Rattle.mrc_rules.specs.Table.{row_of}
use Rattle.mrc_rules.specs.Prefixes.{is_override, is_repeat}
use Rattle.mrc_instruction.specs.Operand.{size_by}
use Rattle.mrc_forms.specs.Groups.{on_register_or_memory}
use Rattle.mrc_directed.specs.Common.{immediate_to_register_or_memory}
use Rattle.mrc_directed.specs.Moves.{accumulator_and_direct}
use Rattle.mrc_decoder.specs.declared.form.Form.{Form}
use Rattle.mrc_decoder.specs.declared.form.OpcodeAlone.{OpcodeAlone}
use Rattle.mrc_decoder.specs.declared.form.WithModRM.{WithModRM}

-- a first byte is a prefix of one kind or the other, or it reads by its row
pub data Meaning : Type 0 where
  overrides repeats : Meaning
  reads : Row → Meaning

abbrev pub meaning_of : Reading → ℕ → Meaning
meaning_of x byte = cond (is_override byte) overrides (cond (is_repeat byte) repeats (reads (row_of x byte)))

-- a row with how far it goes; what goes neither near nor far has its row as it is
abbrev pub with_reach : Reach → Row → Row
with_reach Neither row = row
with_reach Near row = reaching Near row
with_reach Far row = reaching Far row

-- the row of a form that is its opcode alone
abbrev pub alone_row : OpcodeAlone → ℕ → Row
alone_row (OpcodeAlone.Bare op) byte = bare op
alone_row (OpcodeAlone.Return reach) byte = with_reach reach (bare RET)
alone_row (OpcodeAlone.OnSegment op) byte = on_segment op (segment_of (byte / 8 % 4))
alone_row OpcodeAlone.Exchange byte = exchange (register_of (byte % 8))
alone_row OpcodeAlone.InDx byte = in_dx (size_by byte)
alone_row OpcodeAlone.OutDx byte = out_dx (size_by byte)

-- the form with a ModRM that the rules have
abbrev pub modrm_form : WithModRM → ModRMForm
modrm_form WithModRM.Pop = pop
modrm_form (WithModRM.OnRegisterOrMemory group) = on_register_or_memory group
modrm_form WithModRM.GroupF6 = group_f6
modrm_form (WithModRM.RmReg op) = rm_reg op
modrm_form (WithModRM.RegRm op) = reg_rm op
modrm_form WithModRM.RmSegment = rm_segment
modrm_form WithModRM.SegmentRm = segment_rm
modrm_form (WithModRM.ImmediateToRegisterOrMemory group) = immediate_to_register_or_memory group
modrm_form WithModRM.Group83 = group83
modrm_form WithModRM.ShiftByImmediate = shift_by_immediate
modrm_form WithModRM.ShiftByOne = shift_by_one
modrm_form WithModRM.ShiftByCl = shift_by_cl

-- what a first byte means, as a form says it
abbrev pub meant : Form → ℕ → Meaning
meant Form.Override byte = overrides
meant Form.Repeat byte = repeats
meant Form.Invalid byte = reads invalid
meant (Form.OnRegister op) byte = reads (on_register op (register_of (byte % 8)))
meant (Form.OnImmediate op size reach) byte = reads (with_reach reach (on_immediate op size))
meant (Form.OnDisplacement op size reach) byte = reads (with_reach reach (on_displacement op size))
meant (Form.Far op) byte = reads (reaching Far (far op))
meant Form.Escape byte = reads escape
meant Form.InPort byte = reads (in_port (size_by byte))
meant Form.OutPort byte = reads (out_port (size_by byte))
meant Form.RegisterAndImmediate byte = reads (register_and_immediate (register_of (byte % 8)) (size_by (byte / 8)))
meant Form.AccumulatorAndDirect byte = reads (accumulator_and_direct byte)
meant (Form.ImmediateToAccumulator op) byte = reads (immediate_to_accumulator op (size_by byte))
meant (Form.OpcodeAlone form) byte = reads (alone_row form byte)
meant (Form.WithModRM form size) byte = reads (modrm_form form ⦂ size)
