-- One reader, and then done.
-- Assumes nothing.
use Rattle.std.proofs.Common.{◌∙◌, arith}
use Rattle.mrc_rules.specs.Forms.{an_immediate}
use Rattle.mrc_instruction.proofs.Outcomes.{passed}
use Rattle.mrc_forms.proofs.Outcomes.{form_stop, form_one}
use Rattle.mrc_directed.proofs.common.immediate_to_accumulator.Goals as goal

pub returns-in_err-immediate : goal.returns-in_err-immediate
returns-in_err-immediate c =
    passed c.from_residual.result c.from_residual.ensures.1
    ∙ rw (← c.from_low_bit-size.ensures) (form_stop (an_immediate c.from_low_bit-size.result) c.args.s.now c.args.at (omega arith) (omega arith) c.read_immediate.ensures _ c.in_err-immediate.ensures)

pub returns : goal.returns
returns c =
    rw (c.decoded.ensures, ← c.from_low_bit-size.ensures)
    (form_one (an_immediate c.from_low_bit-size.result) c.args.s.now c.args.at (omega arith) (omega arith) c.read_immediate.ensures _ c.in_ok-immediate.ensures)
