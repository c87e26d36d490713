-- One reader, and then done.
-- Assumes nothing.
use Rattle.std.proofs.Common.{◌∙◌, arith}
use Rattle.mrc_instruction.specs.declared.operand.OperandSize.{OperandSize}
use Rattle.mrc_rules.specs.Forms.{an_immediate}
use Rattle.mrc_instruction.proofs.Outcomes.{passed}
use Rattle.mrc_forms.proofs.Outcomes.{form_stop, form_one}
use Rattle.mrc_directed.proofs.shifts.shift_by_immediate.Goals as goal

pub returns-in_err-immediate : goal.returns-in_err-immediate
returns-in_err-immediate c size =
    passed c.from_residual.result c.from_residual.ensures.1
    ∙ form_stop (an_immediate OperandSize.Byte) c.args.s.now c.args.at (omega arith) (omega arith) c.read_immediate.ensures _ c.in_err-immediate.ensures

pub returns : goal.returns
returns c size =
    rw (c.decoded.ensures, c.group2_operation-operation.ensures, c.reg_field.ensures)
    (form_one (an_immediate OperandSize.Byte) c.args.s.now c.args.at (omega arith) (omega arith) c.read_immediate.ensures _ c.in_ok-immediate.ensures)
