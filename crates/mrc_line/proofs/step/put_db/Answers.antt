-- Two pieces in a row.
-- Assumes nothing.
use Rattle.mrc_line.proofs.Put.{then}
use Rattle.mrc_line.proofs.step.put_db.Goals as goal

pub returns : goal.returns
returns c = then c.put_bytes-a.ensures c.put_hex2.ensures
