-- The loop keeps that i letters of the name are written and the rest of `out` is as it was.
use Rattle.std.proofs.Common.{◌≡◌, ◌-◌, ◌≤◌, ◌++◌, length, take, drop}
use Rattle.mrc_names.proofs.names.write_name.Given as goal

abbrev pub invariant-loop-i : goal.invariant-loop-i
invariant-loop-i l = record {
  within : l.i ≤ length l.name;
  as_long : length l.out ≡ length l.fn.out;
  written : l.out ≡ take l.i l.name ++ drop l.i l.fn.out;
}

abbrev pub decreases-loop-i : goal.decreases-loop-i
decreases-loop-i l = 6 - l.i
