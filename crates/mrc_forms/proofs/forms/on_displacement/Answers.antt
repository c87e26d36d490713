-- One reader, and then done.
-- Assumes nothing.
use Rattle.std.proofs.Common.{◌∙◌, arith}
use Rattle.mrc_instruction.specs.declared.operand.Operand.{Operand}
use Rattle.mrc_rules.specs.Forms.{one, a_displacement}
use Rattle.mrc_instruction.proofs.Outcomes.{passed}
use Rattle.mrc_forms.proofs.Outcomes.{form_one}
use Rattle.mrc_forms.proofs.forms.on_displacement.Goals as goal

pub returns-in_err-displacement : goal.returns-in_err-displacement
returns-in_err-displacement c =
    passed c.from_residual.result c.from_residual.ensures.1
    ∙ form_one (a_displacement c.args.size) c.args.s.now c.args.at (omega arith) (omega arith) c.read_displacement.ensures (λ d. one c.args.operation (Operand.Displacement d)) c.in_err-displacement.ensures

pub returns : goal.returns
returns c =
    rw c.decoded.ensures (form_one (a_displacement c.args.size) c.args.s.now c.args.at (omega arith) (omega arith) c.read_displacement.ensures (λ d. one c.args.operation (Operand.Displacement d)) c.in_ok-displacement.ensures)
