-- One reader, by the size, and then done.
-- Assumes nothing.
use Rattle.std.proofs.Common.{ap, ◌∙◌}
use Rattle.mrc_instruction.specs.declared.operand.Immediate.{Immediate}
use Rattle.mrc_instruction.specs.Reader.{a_byte, a_word}
use Rattle.mrc_instruction.specs.Read.{told}
use Rattle.mrc_instruction.proofs.Sequence.{one_done}
use Rattle.mrc_instruction.proofs.Outcomes.{read_is, passed}
use Rattle.mrc_forms.proofs.traits.read_immediate.Goals as goal

pub returns-in_err-byte-in-Byte : goal.returns-in_err-byte-in-Byte
returns-in_err-byte-in-Byte c =
    passed c.from_residual.result c.from_residual.ensures.1
    ∙ rw c.in-Byte.is (ap told (one_done a_byte Immediate.Byte c.args.s.now c.args.at (read_is c.in_err-byte-in-Byte.ensures)))

pub returns-in_ok-byte-in-Byte : goal.returns-in_ok-byte-in-Byte
returns-in_ok-byte-in-Byte c =
    rw (c.with.ensures, c.in-Byte.is) (ap told (one_done a_byte Immediate.Byte c.args.s.now c.args.at (read_is c.in_ok-byte-in-Byte.ensures)))

pub returns-in_err-word-in-Word : goal.returns-in_err-word-in-Word
returns-in_err-word-in-Word c =
    passed c.from_residual-in_err-word-in-Word.result c.from_residual-in_err-word-in-Word.ensures.1
    ∙ rw c.in-Word.is (ap told (one_done a_word Immediate.Word c.args.s.now c.args.at (read_is c.in_err-word-in-Word.ensures)))

pub returns-in_ok-word-in-Word : goal.returns-in_ok-word-in-Word
returns-in_ok-word-in-Word c =
    rw (c.with-in-Word.ensures, c.in-Word.is) (ap told (one_done a_word Immediate.Word c.args.s.now c.args.at (read_is c.in_ok-word-in-Word.ensures)))
