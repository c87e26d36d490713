-- Two readers, and then done.
-- Assumes nothing.
use Rattle.std.proofs.Common.{◌∙◌, arith}
use Rattle.mrc_instruction.specs.declared.operand.Operand.{Operand}
use Rattle.mrc_instruction.specs.Reader.{a_word}
use Rattle.mrc_instruction.proofs.Outcomes.{passed}
use Rattle.mrc_rules.specs.Forms.{one}
use Rattle.mrc_forms.proofs.Outcomes.{form_stop, form_two}
use Rattle.mrc_forms.proofs.forms.far.Goals as goal

pub returns-in_err-first : goal.returns-in_err-first
returns-in_err-first c =
    passed c.from_residual.result c.from_residual.ensures.1
    ∙ form_stop a_word c.args.s.now c.args.at (omega arith) (omega arith) c.read_u16.ensures _ c.in_err-first.ensures

pub returns-in_err-second : goal.returns-in_err-second
returns-in_err-second c =
    passed c.from_residual-in_err-second.result c.from_residual-in_err-second.ensures.1
    ∙ form_two a_word c.args.s.now c.args.at (omega arith) (omega arith) c.read_u16.ensures
    (λ offset. a_word) (λ offset segment. one c.args.operation (Operand.SegmentAndOffset (record { segment = segment; offset = offset })))
    c.in_ok-first.ensures c.read_u16-2.ensures c.in_err-second.ensures

pub returns : goal.returns
returns c =
    rw c.decoded.ensures
    (form_two a_word c.args.s.now c.args.at (omega arith) (omega arith) c.read_u16.ensures
    (λ offset. a_word) (λ offset segment. one c.args.operation (Operand.SegmentAndOffset (record { segment = segment; offset = offset })))
    c.in_ok-first.ensures c.read_u16-2.ensures c.in_ok-second.ensures)
