-- The counts of a decode are small.
-- Assumes nothing.
use Rattle.std.proofs.Common.{arith}
use Rattle.mrc_c.proofs.Counts.{taken_small, prefixes_small}
use Rattle.mrc_c.proofs.decode.mrc_decode.Goals as goal

pub record_of-requires : goal.record_of-requires
record_of-requires c = rw c.decode_instruction.ensures (grind (arith, taken_small), grind (arith, prefixes_small))
