-- Each arm knows its operands, and puts them in a row.
-- Assumes nothing.
use Rattle.std.proofs.Common.{sym, ap, arith}
use Rattle.mrc_line.specs.Operands.{operands_text}
use Rattle.mrc_line.proofs.Put.{then, gives}
use Rattle.mrc_line.proofs.operands.put_operands.Goals as goal

pub returns-in-Destination : goal.returns-in-Destination
returns-in-Destination c =
    let a = c.args in
    gives (omega arith) (sym (ap (operands_text a.reading a.origin.written a.operation a.origin.start a.origin.taken) c.in-Destination.is)) (then c.put_byte-d.ensures c.put_alone.ensures)

pub returns-in-DestinationAndSource : goal.returns-in-DestinationAndSource
returns-in-DestinationAndSource c =
    let a = c.args in
    gives (omega arith) (sym (ap (operands_text a.reading a.origin.written a.operation a.origin.start a.origin.taken) c.in-DestinationAndSource.is))
    (then c.put_byte-d-in-DestinationAndSource.ensures (then c.put_beside-c.ensures (then c.put_bytes-s.ensures c.put_beside.ensures)))
