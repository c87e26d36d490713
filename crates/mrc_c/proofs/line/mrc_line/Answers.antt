-- A line's answer, by its number, in which nothing of it is lost; the buffer is the line call's.
-- Assumes nothing.
use Rattle.std.proofs.Common.{length, sym, ◌∙◌}
use Rattle.mrc_c.proofs.Counts.{line_whole}
use Rattle.mrc_c.proofs.line.mrc_line.Goals as goal

pub returns-in-Ok : goal.returns-in-Ok
returns-in-Ok c =
    let a = c.args in
    let l = c.line.ensures in
    rw (← c.reading_of.ensures)
    record { answer = line_whole _ a.image.now a.at (length a.out.now) _ _ (sym c.in-Ok.is ∙ l.answer); buffer = l.bytes }
