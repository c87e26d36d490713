-- Whatever the blanks were put over, the pairs of the bytes passed are put over it, padded.
-- Assumes nothing.
use Rattle.std.proofs.Common.{◌≡◌, ℕ, ◌+◌, ◌*◌, ◌≤◌, List, length, take, replicate}
use Rattle.mrc_line.specs.Text.{Put, pairs, padded, field_width}
use Rattle.mrc_line.proofs.text.put_field.Given as goal

abbrev pub invariant-loop-b : goal.invariant-loop-b
invariant-loop-b l = record {
  place : l.o ≡ l.at + 3 * l.b-index;
  long : length l.buf ≡ length l.initial.buf;
  put :
      (s : List ℕ) → l.at ≤ length s → Put field_width s l.at (replicate field_width 32) l.initial.buf l.end →
      Put field_width s l.at (padded field_width (pairs (take l.b-index l.src))) l.buf l.end;
}
