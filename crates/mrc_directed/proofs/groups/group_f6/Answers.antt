-- By reg: a reader, a refusal, or done.
-- Assumes nothing.
use Rattle.std.proofs.Common.{◌∙◌, ◌≤◌, add-zero, arith}
use Rattle.mrc_instruction.proofs.Outcomes.{passed}
use Rattle.mrc_rules.specs.Forms.{an_immediate}
use Rattle.mrc_forms.proofs.Outcomes.{form_stop, form_one}
use Rattle.mrc_directed.proofs.GroupF6.{group_f6_test, group_f6_other}
use Rattle.mrc_directed.proofs.groups.group_f6.Goals as goal

pub returns-in_err-immediate-in-0 : goal.returns-in_err-immediate-in-0
returns-in_err-immediate-in-0 c =
    passed c.from_residual.result c.from_residual.ensures.1
    ∙ rw (← c.reg_field.ensures, group_f6_test _ c.args.destination.operand c.args.size c.in-0.is)
    (form_stop (an_immediate c.args.size) c.args.s.now c.args.at (omega arith) (omega arith) c.read_immediate.ensures _ c.in_err-immediate-in-0.ensures)

pub returns-in_ok-immediate-in-0 : goal.returns-in_ok-immediate-in-0
returns-in_ok-immediate-in-0 c =
    rw (c.decoded.ensures, ← c.reg_field.ensures, group_f6_test _ c.args.destination.operand c.args.size c.in-0.is)
    (form_one (an_immediate c.args.size) c.args.s.now c.args.at (omega arith) (omega arith) c.read_immediate.ensures _ c.in_ok-immediate-in-0.ensures)

pub returns-in_default : goal.returns-in_default
returns-in_default c =
    let past : 2 ≤ c.reg_field.result = omega arith in
    rw
    (c.decoded-in_default.ensures, c.group_f6_operation-operation.ensures, ← c.reg_field.ensures, group_f6_other _ c.args.destination.operand c.args.size past, add-zero c.args.at)
