-- A turn writes one letter more.
-- Assumes nothing.
use Rattle.std.proofs.Common.{◌≡◌, ℕ, ◌+◌, ◌<◌, List, ◌++◌, length, take, drop, set, get_or, arith, length-set, add-one, zero-add}
use lib.Seq.{paste-suc}
use Rattle.mrc_names.proofs.names.write_name.Goals as goal

put : (l d : List ℕ) (i : ℕ) → i < length l → i < length d → set (take i l ++ drop i d) i (get_or l i 0) ≡ take (i + 1) l ++ drop (i + 1) d
put l d i h k = rw (add-one i) (simp zero-add at (paste-suc d 0 l i 0 (omega arith) h))

pub loop-i-preserved : goal.loop-i-preserved
loop-i-preserved c = record {
  within = omega arith;
  as_long = simp length-set c.loop-i.invariant.as_long;
  written = rw c.loop-i.invariant.written (put c.name-name.result.now c.args.out.now c.loop-i.i (omega arith) (omega arith));
}
