-- What `into_operand` makes of the ModRM, its bytes counted from the position on.
-- Assumes nothing.
use Rattle.std.proofs.Common.{refl, ◌∙◌, drop, arith}
use Rattle.mrc_instruction.specs.Reader.{read_from}
use Rattle.mrc_instruction.specs.Mrrm.{a_modrm}
use Rattle.mrc_instruction.proofs.Sequence.{took}
use Rattle.mrc_instruction.proofs.Outcomes.{passed}
use Rattle.mrc_instruction.proofs.Operands.{named_is}
use Rattle.mrc_instruction.proofs.mrrm.read_operand.Goals as goal

pub returns-in_err-modrm : goal.returns-in_err-modrm
returns-in_err-modrm c =
    let o = read_from a_modrm (drop c.args.at c.args.s.now) in
    passed c.from_residual.result c.from_residual.ensures.1
    ∙ named_is c.args.reading c.args.size c.args.at o (omega (arith, took a_modrm c.args.s.now c.args.at {o = o} refl)) c.try_from_bytes.ensures c.in_err-modrm.ensures

pub returns : goal.returns
returns c =
    let o = read_from a_modrm (drop c.args.at c.args.s.now) in
    rw (c.with.ensures, c.into_operand-operand.ensures)
    (named_is c.args.reading c.args.size c.args.at o (omega (arith, took a_modrm c.args.s.now c.args.at {o = o} refl)) c.try_from_bytes.ensures c.in_ok-modrm.ensures)
