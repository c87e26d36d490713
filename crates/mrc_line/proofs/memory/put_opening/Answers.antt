-- Three pieces in a row.
-- Assumes nothing.
use Rattle.mrc_line.proofs.Put.{then}
use Rattle.mrc_line.proofs.memory.put_opening.Goals as goal

pub returns : goal.returns
returns c = then c.put_size-s.ensures (then c.put_segment-c.ensures c.put_bytes.ensures)
