-- Three pieces in a row.
-- Assumes nothing.
use Rattle.mrc_line.proofs.Put.{then}
use Rattle.mrc_line.proofs.operands.put_address.Goals as goal

pub returns : goal.returns
returns c = then c.put_hex4-s.ensures (then c.put_byte-c.ensures c.put_hex4.ensures)
