-- One reader, and then done.
-- Assumes nothing.
use Rattle.std.proofs.Common.{◌∙◌, arith}
use Rattle.mrc_instruction.specs.declared.operand.Operand.{Operand}
use Rattle.mrc_rules.specs.Forms.{one, an_immediate}
use Rattle.mrc_instruction.proofs.Outcomes.{passed}
use Rattle.mrc_forms.proofs.Outcomes.{form_one}
use Rattle.mrc_forms.proofs.forms.on_immediate.Goals as goal

pub returns-in_err-immediate : goal.returns-in_err-immediate
returns-in_err-immediate c =
    passed c.from_residual.result c.from_residual.ensures.1
    ∙ form_one (an_immediate c.args.size) c.args.s.now c.args.at (omega arith) (omega arith) c.read_immediate.ensures (λ i. one c.args.operation (Operand.Immediate i)) c.in_err-immediate.ensures

pub returns : goal.returns
returns c =
    rw c.decoded.ensures (form_one (an_immediate c.args.size) c.args.s.now c.args.at (omega arith) (omega arith) c.read_immediate.ensures (λ i. one c.args.operation (Operand.Immediate i)) c.in_ok-immediate.ensures)
