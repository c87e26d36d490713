-- The lines so far are `Filling`, and a turn accounts for a byte at least.
-- Assumes nothing.
use Rattle.std.proofs.Common.{◌-◌, length}
use Rattle.mrc_line.proofs.Filling.{Filling}
use Rattle.mrc_line.proofs.roomy.roomy_lines.Given as goal

abbrev pub invariant-loop-next : goal.invariant-loop-next
invariant-loop-next l = Filling l.fn.reading l.image l.fn.at l.fn.out l.out l.len l.next

abbrev pub decreases-loop-next : goal.decreases-loop-next
decreases-loop-next l = length l.image - l.next
