-- The segment and its colon, one after the other.
-- Assumes nothing.
use Rattle.std.proofs.Common.{sym, ap, arith}
use Rattle.mrc_line.specs.Line.{kept_text}
use Rattle.mrc_line.proofs.Put.{then, gives}
use Rattle.mrc_line.proofs.step.put_kept.Goals as goal

pub returns : goal.returns
returns c = gives (omega arith) (sym (ap kept_text c.in-Some.is)) (then c.put_segment-c.ensures c.put_bytes.ensures)
