-- Four pieces in a row.
-- Assumes nothing.
use Rattle.std.proofs.Common.{append_assoc}
use Rattle.mrc_line.proofs.Put.{then, same}
use Rattle.mrc_line.proofs.memory.put_indirect.Goals as goal

pub returns : goal.returns
returns c = same (simp append_assoc) (then c.put_opening-o.ensures (then c.put_mode-m.ensures (then c.put_offset-c.ensures c.put_byte.ensures)))
