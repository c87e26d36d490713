-- The byte, and then what mod and rm call for, behind it.
-- Assumes nothing.
use Rattle.std.proofs.Common.{ap, ◌∙◌, ◌/◌, ◌%◌, arith}
use Rattle.mrc_instruction.specs.Reader.{a_byte}
use Rattle.mrc_instruction.specs.Mrrm.{a_register_or_memory, modrm}
use Rattle.mrc_instruction.specs.Read.{mrrm_read}
use Rattle.mrc_instruction.proofs.Sequence.{took, stop_at}
use Rattle.mrc_instruction.proofs.Outcomes.{read_is, one_and_another, passed}
use Rattle.mrc_instruction.proofs.mrrm.ModRegRM.try_from_bytes.Goals as goal

pub returns-in_err-byte : goal.returns-in_err-byte
returns-in_err-byte c = passed c.from_residual.result c.from_residual.ensures.1 ∙ ap mrrm_read (stop_at a_byte _ c.args.s.now c.args.at (read_is c.in_err-byte.ensures))

pub overflow_add-at : goal.overflow_add-at
overflow_add-at c = omega (arith, took a_byte c.args.s.now c.args.at (read_is c.in_ok-byte.ensures))

pub returns-in_err-named : goal.returns-in_err-named
returns-in_err-named c =
    passed c.from_residual-in_err-named.result c.from_residual-in_err-named.ensures.1
    ∙ ap mrrm_read
    (one_and_another a_byte (λ b. a_register_or_memory (b / 64) (b % 8)) modrm c.args.s.now c.args.at (omega arith) c.in_ok-byte.ensures c.try_from_mrrm-behind.ensures c.in_err-named.ensures)

pub returns : goal.returns
returns c =
    rw (c.with.ensures, c.written.ensures, c.from_low_bits.ensures)
    (ap mrrm_read
    (one_and_another a_byte (λ b. a_register_or_memory (b / 64) (b % 8)) modrm c.args.s.now c.args.at (omega arith) c.in_ok-byte.ensures c.try_from_mrrm-behind.ensures c.in_ok-named.ensures))
