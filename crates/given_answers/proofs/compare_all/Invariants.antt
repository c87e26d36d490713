-- Each line is counted once, and has a byte at least of what is stored.
use Rattle.std.proofs.Common.{length, ◌+◌, ◌≤◌}
use Rattle.given_answers.proofs.compare_all.Given as goal

abbrev pub invariant-loop-line : goal.invariant-loop-line
invariant-loop-line g l =
    (goal.iterator-loop-line g).can_next l.line-iterator ×
    (goal.iterator-loop-line g).is_finite l.line-iterator ×
    (l.agree + l.differ + length l.line-iterator.0.now ≤ length l.stored)
