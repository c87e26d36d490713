-- One reader, by the size, and then done, the displacement being its signed number.
-- Assumes nothing.
use Rattle.std.proofs.Common.{ap, ◌∙◌}
use mir.ValLaws.{to_z-of_z}
use mir.Syntax.{w8, w16}
use Rattle.mrc_instruction.specs.declared.operand.Displacement.{Displacement}
use Rattle.mrc_instruction.specs.Signed.{signed_byte, signed_word}
use Rattle.mrc_instruction.specs.Reader.{a_byte, a_word}
use Rattle.mrc_instruction.specs.Read.{told}
use Rattle.mrc_instruction.proofs.Sequence.{one_done}
use Rattle.mrc_instruction.proofs.Outcomes.{read_is, passed}
use Rattle.mrc_forms.proofs.traits.read_displacement.Goals as goal

pub returns-in_err-byte-in-Byte : goal.returns-in_err-byte-in-Byte
returns-in_err-byte-in-Byte c =
    passed c.from_residual.result c.from_residual.ensures.1
    ∙ rw c.in-Byte.is (ap told (one_done a_byte (λ b. Displacement.Byte (signed_byte b)) c.args.s.now c.args.at (read_is c.in_err-byte-in-Byte.ensures)))

pub returns-in_ok-byte-in-Byte : goal.returns-in_ok-byte-in-Byte
returns-in_ok-byte-in-Byte c =
    rw (c.with.ensures, to_z-of_z w8 c.signed_byte.result (record { sfits = c.signed_byte.type_inv }), c.signed_byte.ensures, c.in-Byte.is)
    (ap told (one_done a_byte (λ b. Displacement.Byte (signed_byte b)) c.args.s.now c.args.at (read_is c.in_ok-byte-in-Byte.ensures)))

pub returns-in_err-word-in-Word : goal.returns-in_err-word-in-Word
returns-in_err-word-in-Word c =
    passed c.from_residual-in_err-word-in-Word.result c.from_residual-in_err-word-in-Word.ensures.1
    ∙ rw c.in-Word.is (ap told (one_done a_word (λ w. Displacement.Word (signed_word w)) c.args.s.now c.args.at (read_is c.in_err-word-in-Word.ensures)))

pub returns-in_ok-word-in-Word : goal.returns-in_ok-word-in-Word
returns-in_ok-word-in-Word c =
    rw (c.with-in-Word.ensures, to_z-of_z w16 c.signed_word.result (record { sfits = c.signed_word.type_inv }), c.signed_word.ensures, c.in-Word.is)
    (ap told (one_done a_word (λ w. Displacement.Word (signed_word w)) c.args.s.now c.args.at (read_is c.in_ok-word-in-Word.ensures)))
