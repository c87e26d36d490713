-- Two pieces in a row.
-- Assumes nothing.
use Rattle.mrc_line.proofs.Put.{then}
use Rattle.mrc_line.proofs.text.put_hex4.Goals as goal

pub returns : goal.returns
returns c = then c.put_hex2-o.ensures c.put_hex2.ensures
