-- The bytes that are there stay within the room.
use Rattle.std.proofs.Common.{length, ◌-◌, ◌≤◌}
use Rattle.given_answers.proofs.stored.read_full.Given as goal

abbrev pub invariant-loop-more : goal.invariant-loop-more
invariant-loop-more g l = l.there ≤ length l.initial.room

abbrev pub decreases-loop-more : goal.decreases-loop-more
decreases-loop-more g l = length l.initial.room - l.there
