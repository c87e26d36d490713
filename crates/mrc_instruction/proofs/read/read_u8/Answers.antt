-- Below the length the list from the position on starts with the byte there; else it is empty.
-- Assumes nothing.
use Rattle.mrc_instruction.specs.Reader.{a_byte}
use Rattle.mrc_instruction.proofs.Rest.{here, none}
use Rattle.mrc_instruction.proofs.read.read_u8.Goals as goal

pub returns-then-at-s : goal.returns-then-at-s
unfolding a_byte
returns-then-at-s c = rw (here _ _ c.if-at-s.true)

pub returns-else-at-s : goal.returns-else-at-s
unfolding a_byte
returns-else-at-s c = rw (none _ _ c.if-at-s.false)
