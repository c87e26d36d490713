-- By mod: one reader or none, and then it is done.
-- Assumes nothing.
use Rattle.std.proofs.Common.{ap, ◌∙◌, ◌%◌}
use mir.ValLaws.{to_z-of_z}
use mir.Syntax.{w8, w16}
use Rattle.mrc_instruction.specs.declared.mrrm.RegisterOrMemory.{RegisterOrMemory}
use Rattle.mrc_instruction.specs.Operand.{addressing_of}
use Rattle.mrc_instruction.specs.Signed.{signed_byte, signed_word}
use Rattle.mrc_instruction.specs.Reader.{a_byte, a_word}
use Rattle.mrc_instruction.specs.Read.{told}
use Rattle.mrc_instruction.proofs.Sequence.{one_done}
use Rattle.mrc_instruction.proofs.Outcomes.{read_is, passed}
use Rattle.mrc_instruction.proofs.mrrm.RegisterOrMemory.try_from_mrrm.Goals as goal

pub returns-in_err-offset-in-0 : goal.returns-in_err-offset-in-0
returns-in_err-offset-in-0 c =
    passed c.from_residual.result c.from_residual.ensures.1
    ∙ rw (c.in-0.is, c.if-byte-eq6.true) (ap told (one_done a_word RegisterOrMemory.Direct c.args.s.now c.args.at (read_is c.in_err-offset-in-0.ensures)))

pub returns-then-byte-eq6 : goal.returns-then-byte-eq6
returns-then-byte-eq6 c =
    rw (c.in-0.is, c.if-byte-eq6.true, c.with.ensures) (ap told (one_done a_word RegisterOrMemory.Direct c.args.s.now c.args.at (read_is c.in_ok-offset-in-0.ensures)))

pub returns-in_err-low-in-1 : goal.returns-in_err-low-in-1
returns-in_err-low-in-1 c =
    let rm = c.args.byte % 8 in
    passed c.from_residual-in_err-low-in-1.result c.from_residual-in_err-low-in-1.ensures.1
    ∙ rw c.in-1.is
    (ap told (one_done a_byte (λ b. RegisterOrMemory.DisplacementByte (addressing_of rm) (signed_byte b)) c.args.s.now c.args.at (read_is c.in_err-low-in-1.ensures)))

pub returns-in_ok-low-in-1 : goal.returns-in_ok-low-in-1
returns-in_ok-low-in-1 c =
    let rm = c.args.byte % 8 in
    rw (c.in-1.is, c.with-in-1.ensures, to_z-of_z w8 c.signed_byte.result (record { sfits = c.signed_byte.type_inv }), c.signed_byte.ensures, c.from_low_bits-mode.ensures)
    (ap told (one_done a_byte (λ b. RegisterOrMemory.DisplacementByte (addressing_of rm) (signed_byte b)) c.args.s.now c.args.at (read_is c.in_ok-low-in-1.ensures)))

pub returns-in_err-word-in-2 : goal.returns-in_err-word-in-2
returns-in_err-word-in-2 c =
    let rm = c.args.byte % 8 in
    passed c.from_residual-in_err-word-in-2.result c.from_residual-in_err-word-in-2.ensures.1
    ∙ rw c.in-2.is
    (ap told (one_done a_word (λ w. RegisterOrMemory.DisplacementWord (addressing_of rm) (signed_word w)) c.args.s.now c.args.at (read_is c.in_err-word-in-2.ensures)))

pub returns-in_ok-word-in-2 : goal.returns-in_ok-word-in-2
returns-in_ok-word-in-2 c =
    let rm = c.args.byte % 8 in
    rw (c.in-2.is, c.with-in-2.ensures, to_z-of_z w16 c.signed_word.result (record { sfits = c.signed_word.type_inv }), c.signed_word.ensures, c.from_low_bits-mode.ensures)
    (ap told (one_done a_word (λ w. RegisterOrMemory.DisplacementWord (addressing_of rm) (signed_word w)) c.args.s.now c.args.at (read_is c.in_ok-word-in-2.ensures)))
