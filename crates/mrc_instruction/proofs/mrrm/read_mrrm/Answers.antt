-- The position is not beyond the length.
-- Assumes nothing.
use borrow.Author.Tests.{le-leb}
use Rattle.mrc_instruction.proofs.Values.{mrrm_at}
use Rattle.mrc_instruction.proofs.mrrm.read_mrrm.Goals as goal

pub returns : goal.returns
returns c = mrrm_at _ _ (rw (le-leb _ _ c.if-s-at.false) c.try_from_bytes.ensures)
