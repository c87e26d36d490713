-- One reader, and then done.
-- Assumes nothing.
use Rattle.std.proofs.Common.{◌∙◌, arith}
use Rattle.mrc_instruction.specs.declared.operation.Operation.TheVariants.{ESC}
use Rattle.mrc_instruction.specs.Reader.{a_byte}
use Rattle.mrc_rules.specs.Forms.{none}
use Rattle.mrc_instruction.proofs.Outcomes.{passed}
use Rattle.mrc_forms.proofs.Outcomes.{form_one}
use Rattle.mrc_forms.proofs.forms.escape.Goals as goal

pub returns-in_err-byte : goal.returns-in_err-byte
returns-in_err-byte c =
    passed c.from_residual.result c.from_residual.ensures.1
    ∙ form_one a_byte c.args.s.now c.args.at (omega arith) (omega arith) c.read_u8.ensures (λ b. none ESC) c.in_err-byte.ensures

pub returns : goal.returns
returns c =
    rw c.decoded.ensures (form_one a_byte c.args.s.now c.args.at (omega arith) (omega arith) c.read_u8.ensures (λ b. none ESC) c.in_ok-byte.ensures)
