-- Four pieces in a row, and the bytes that are shown are the first seven.
-- Assumes nothing.
use Rattle.std.proofs.Common.{ℕ, List, ◌++◌, ap, ◌∙◌, take}
use Rattle.std.proofs.lemmas.List.{take_min}
use Rattle.mrc_line.specs.Text.{bytes, hex4, pairs, padded, shown, field_width}
use Rattle.mrc_line.specs.Line.{head_text}
use Rattle.mrc_line.proofs.Put.{then, same}
use Rattle.mrc_line.proofs.step.put_head.Goals as goal

pub returns : goal.returns
unfolding head_text
returns c =
    same
    (ap (λ (l : List ℕ). hex4 c.args.start ++ (bytes "  " ++ (padded field_width (pairs l) ++ bytes "  "))) (ap (λ (n : ℕ). take n c.args.taken.now) c.min-n.ensures ∙ take_min shown c.args.taken.now))
    (then c.put_hex4-b.ensures (then c.put_spaces-c.ensures (then c.put_field-d.ensures c.put_spaces.ensures)))
