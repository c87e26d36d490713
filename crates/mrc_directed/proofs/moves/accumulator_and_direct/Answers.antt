-- One reader, and then done, with the operands as the bit says.
-- Assumes nothing.
use Rattle.std.proofs.Common.{◌∙◌, sym, arith}
use Rattle.mrc_instruction.specs.Reader.{a_word}
use Rattle.mrc_instruction.proofs.Outcomes.{passed}
use Rattle.mrc_forms.specs.Traits.{d_bit}
use Rattle.mrc_forms.proofs.Outcomes.{form_stop, form_one}
use Rattle.mrc_directed.proofs.Either.{direct_either}
use Rattle.mrc_directed.proofs.moves.accumulator_and_direct.Goals.{then-d_bit, else-d_bit}
use Rattle.mrc_directed.proofs.moves.accumulator_and_direct.Goals as goal

pub returns-in_err-offset : goal.returns-in_err-offset
returns-in_err-offset c =
    passed c.from_residual.result c.from_residual.ensures.1
    ∙ rw (direct_either c.args.opcode (d_bit c.args.opcode))
    (form_stop a_word c.args.s.now c.args.at (omega arith) (omega arith) c.read_u16.ensures _ c.in_err-offset.ensures)

pub returns : goal.returns
returns c =
    elim c.if-d_bit.branch [
      | then-d_bit w ↦
          rw (c.decoded.ensures, w.operands-is, ← c.from_low_bit-size.ensures, sym c.d_bit.ensures ∙ w.if-d_bit.true)
          (form_one a_word c.args.s.now c.args.at (omega arith) (omega arith) c.read_u16.ensures _ c.in_ok-offset.ensures)
      | else-d_bit w ↦
          rw (c.decoded.ensures, w.operands-is, ← c.from_low_bit-size.ensures, sym c.d_bit.ensures ∙ w.if-d_bit.false)
          (form_one a_word c.args.s.now c.args.at (omega arith) (omega arith) c.read_u16.ensures _ c.in_ok-offset.ensures)
    ]
