-- The part that is filled is written over whole.
-- Assumes nothing.
use Rattle.std.proofs.Common.{◌+◌, ℕ, ap, ◌∙◌, arith, replicate}
use lib.ListN.{length-replicate}
use borrow.Rule.Slice.PartMut.{mid_len}
use Rattle.mrc_line.proofs.Parts.{put_over}
use Rattle.mrc_line.proofs.Put.{within}
use Rattle.mrc_line.proofs.text.put_spaces.Goals as goal

pub returns : goal.returns
returns c =
    let a = c.args in
    let part = mid_len a.at (a.at + a.n) a.buf.now c.requires in
    within (omega arith)
    (put_over (c.fill.ensures.after (λ y h. h) ∙ ap (λ (k : ℕ). replicate k 32) (part ∙ omega arith)) (omega (arith, length-replicate {A = ℕ} a.n 32)) (omega arith) c.requires)
