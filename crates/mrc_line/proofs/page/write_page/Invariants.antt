-- Each turn goes on with any page that has come so far.
-- Assumes nothing.
use Rattle.std.proofs.Common.{◌-◌, ℕ, List, length}
use Rattle.mrc_line.specs.Page.{Paging}
use Rattle.mrc_line.proofs.page.write_page.Given as goal

abbrev pub invariant-loop-next : goal.invariant-loop-next
invariant-loop-next l = (b : List ℕ) → Paging l.fn.reading l.image l.fn.at b l.initial.out l.initial.len l.initial.next → Paging l.fn.reading l.image l.fn.at b l.out l.len l.next

abbrev pub decreases-loop-next : goal.decreases-loop-next
decreases-loop-next l = length l.image - l.next
