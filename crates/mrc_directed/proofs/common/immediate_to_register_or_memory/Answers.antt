-- One reader, and then done.
-- Assumes nothing.
use Rattle.std.proofs.Common.{◌∙◌, arith, nat_eq}
use Rattle.mrc_rules.specs.Forms.{an_immediate}
use Rattle.mrc_directed.proofs.Either.{immediate_either}
use Rattle.mrc_instruction.proofs.Outcomes.{passed}
use Rattle.mrc_forms.proofs.Outcomes.{form_stop, form_one}
use Rattle.mrc_directed.proofs.common.immediate_to_register_or_memory.Goals as goal

pub returns-in_err-immediate : goal.returns-in_err-immediate
returns-in_err-immediate c =
    passed c.from_residual.result c.from_residual.ensures.1
    ∙ rw (immediate_either (nat_eq c.args.group 0x80) c.args.size c.args.destination.operand c.args.destination.byte) (form_stop (an_immediate c.args.size) c.args.s.now c.args.at (omega arith) (omega arith) c.read_immediate.ensures _ c.in_err-immediate.ensures)

pub returns : goal.returns
returns c =
    rw (c.decoded.ensures, c.immediate_operation-operation.ensures, c.reg_field.ensures, immediate_either (nat_eq c.args.group 0x80) c.args.size c.args.destination.operand c.args.destination.byte)
    (form_one (an_immediate c.args.size) c.args.s.now c.args.at (omega arith) (omega arith) c.read_immediate.ensures _ c.in_ok-immediate.ensures)
