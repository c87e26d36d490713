-- The refusals in order, and then the line.
-- Assumes nothing.
use Rattle.std.proofs.Common.{arith}
use Rattle.mrc_instruction.specs.declared.errors.Refusal.{Refusal}
use Rattle.mrc_line.proofs.Answers.{refused, too_long, outside, at_end}
use Rattle.mrc_line.proofs.line.line.Goals as goal

pub returns-then-image-gt-OFFSETS : goal.returns-then-image-gt-OFFSETS
returns-then-image-gt-OFFSETS c =
    let a = c.args in
    refused a.reading a.image.now a.at a.out.now Refusal.ImageTooLong (too_long a.reading a.image.now a.at a.out.now (omega arith))

pub returns-then-image-at : goal.returns-then-image-at
returns-then-image-at c =
    let a = c.args in
    refused a.reading a.image.now a.at a.out.now Refusal.OutsideInput
    (outside a.reading a.image.now a.at a.out.now (omega arith) (omega arith))

pub returns-then-image-at-2 : goal.returns-then-image-at-2
returns-then-image-at-2 c =
    let a = c.args in
    refused a.reading a.image.now a.at a.out.now Refusal.EndOfInput
    (at_end a.reading a.image.now a.at a.out.now (omega arith) c.if-image-at-2.true)
