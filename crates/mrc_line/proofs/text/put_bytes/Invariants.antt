-- The bytes passed are put.
-- Assumes nothing.
use Rattle.std.proofs.Common.{◌≡◌, length, take}
use Rattle.mrc_line.specs.Text.{Put}
use Rattle.mrc_line.proofs.text.put_bytes.Given as goal

abbrev pub invariant-loop-b : goal.invariant-loop-b
invariant-loop-b l = record {
  long : length l.buf ≡ length l.initial.buf;
  put : Put l.b-index l.initial.buf l.at (take l.b-index l.src) l.buf l.o;
}
