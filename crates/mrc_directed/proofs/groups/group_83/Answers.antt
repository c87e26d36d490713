-- One reader, and then done.
-- Assumes nothing.
use Rattle.std.proofs.Common.{◌∙◌, arith}
use Rattle.mrc_instruction.specs.Reader.{a_byte}
use Rattle.mrc_instruction.proofs.Outcomes.{passed}
use Rattle.mrc_forms.proofs.Outcomes.{form_stop, form_one}
use Rattle.mrc_directed.proofs.groups.group_83.Goals as goal

pub returns-in_err-byte : goal.returns-in_err-byte
returns-in_err-byte c =
    passed c.from_residual.result c.from_residual.ensures.1
    ∙ form_stop a_byte c.args.s.now c.args.at (omega arith) (omega arith) c.read_u8.ensures _ c.in_err-byte.ensures

pub returns : goal.returns
returns c =
    rw (c.decoded.ensures, c.widened.ensures, c.group80_operation-operation.ensures, c.reg_field.ensures)
    (form_one a_byte c.args.s.now c.args.at (omega arith) (omega arith) c.read_u8.ensures _ c.in_ok-byte.ensures)
