-- A page moves on and stays within its buffer, which has room for any line; the writer took the pages so far.
use Rattle.std.proofs.Common.{◌≡◌, ◌-◌, length}
use Rattle.mrc_list.proofs.Written.{Writing}
use Rattle.mrc_list.proofs.write_listing.Given as goal

abbrev pub invariant-loop-page : goal.invariant-loop-page
invariant-loop-page g l = record {
  long : length l.out ≡ 8192;
  written : Writing l.image l.initial.out (g.W.Write.contents l.initial.to) (g.W.Write.contents l.to) l.at l.out;
}

abbrev pub decreases-loop-page : goal.decreases-loop-page
decreases-loop-page g l = length l.image - l.at
