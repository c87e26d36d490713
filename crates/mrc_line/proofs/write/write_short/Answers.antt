-- The line is put into a buffer first, so that its length is known before all of it or none is copied.
-- Assumes nothing.
use Rattle.std.proofs.Common.{◌-◌, arith, refl, sym, ◌∙◌}
use Rattle.mrc_instruction.specs.declared.errors.Refusal.{Refusal}
use Rattle.mrc_line.proofs.Parts.{put_over}
use Rattle.mrc_line.proofs.Answers.{refused, no_room, told, written, line_held}
use Rattle.mrc_line.proofs.write.write_short.Goals as goal

pub returns-then-out-len : goal.returns-then-out-len
returns-then-out-len c =
    let x = c.args.reading in
    let image = c.args.image.now in
    let at = c.args.at in
    let out = c.args.out.now in
    let t = told x image at _ _ _ (c.roomy_lines-len.ensures.one c.requires.1 (omega arith)).answer in
    refused x image at out Refusal.NoRoom (no_room x image at out c.requires.0 c.requires.1 (omega (arith, t.len_is)))

pub returns : goal.returns
returns c =
    let x = c.args.reading in
    let image = c.args.image.now in
    let at = c.args.at in
    let made = c.roomy_lines-len in
    let m = made.ensures.one c.requires.1 (omega arith) in
    let t = told x image at _ _ _ m.answer in
    written x image at c.args.out.now c.requires.0 c.requires.1 made.result.len made.result.len (made.result.next - at)
    (put_over (c.copy_from_slice.ensures.after ∙ line_held x m) (sym t.len_is) (omega arith) (omega arith)) (omega (arith, t.len_is)) refl t.taken_is
