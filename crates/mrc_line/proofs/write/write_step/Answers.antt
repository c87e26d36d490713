-- Three pieces in a row: the head, with as many bytes as what was decoded takes, what stands behind it, and LF. They are the line.
-- Assumes nothing.
use Rattle.std.proofs.Common.{◌≡◌, ℕ, ◌+◌, ◌-◌, ◌++◌, get_or, take, drop, refl, ap, ◌∙◌, arith, rules}
use Rattle.mrc_line.specs.Line.{head_text, body_text, step_taken, step_text, line_end}
use Rattle.mrc_line.proofs.Put.{then, same}
use Rattle.mrc_line.proofs.Takes.{takes, text_is, taken_is}
use Rattle.mrc_line.proofs.Lengths.{line_longest}
use Rattle.mrc_line.proofs.Answers.{written}
use Rattle.mrc_line.proofs.write.write_step.Goals as goal

-- what was decoded takes a byte at least, few, and none beyond the image
pub overflow_add-next : goal.overflow_add-next
overflow_add-next c =
    omega (arith, (takes c.args.reading c.args.image.now c.args.at c.decode_instruction-answer.ensures c.requires.2).inside, c.step_taken-taken.ensures)

pub slice_bounds-put_head-end : goal.slice_bounds-put_head-end
slice_bounds-put_head-end c =
    omega (arith, (takes c.args.reading c.args.image.now c.args.at c.decode_instruction-answer.ensures c.requires.2).inside, c.step_taken-taken.ensures)

pub put_body-b-requires : goal.put_body-b-requires
put_body-b-requires c =
    (search rules, omega (arith, (takes c.args.reading c.args.image.now c.args.at c.decode_instruction-answer.ensures c.requires.2).few, c.step_taken-taken.ensures))

pub returns : goal.returns
unfolding step_text
returns c =
    let x = c.args.reading in
    let image = c.args.image.now in
    let at = c.args.at in
    let d = c.decode_instruction-answer in
    let t = c.step_taken-taken in
    let n : at + t.result - at ≡ step_taken d.result = omega (arith, t.ensures) in
    written x image at c.args.out.now c.requires.1 c.requires.2 c.put_byte-len.result c.put_byte-len.result t.result
    (same (ap (λ (m : ℕ). head_text at (take m (drop at image)) ++ (body_text x at (get_or image at 0) d.result ++ line_end)) n ∙ text_is x image at d.ensures)
    (then c.put_head-a.ensures (then c.put_body-b.ensures c.put_byte-len.ensures)))
    (omega (arith, line_longest x image at, c.requires.0)) refl (t.ensures ∙ taken_is x image at d.ensures)
