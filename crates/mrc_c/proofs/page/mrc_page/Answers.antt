-- The page's length and the bytes that it accounts for stand apart in one number, both being small.
-- Assumes nothing.
use Rattle.std.proofs.Common.{length, arith}
use Rattle.mrc_c.proofs.Counts.{page_small}
use Rattle.mrc_c.proofs.page.mrc_page.Goals as goal

pub overflow_mul-result : goal.overflow_mul-result
overflow_mul-result c =
    let p = c.write_page-page.ensures in
    let k = page_small c.reading_of.result c.args.image.now c.args.at (length c.args.out.now) in
    omega (arith, p.len, p.next, k.0, k.1)

pub overflow_add-result : goal.overflow_add-result
overflow_add-result c =
    let p = c.write_page-page.ensures in
    let k = page_small c.reading_of.result c.args.image.now c.args.at (length c.args.out.now) in
    omega (arith, p.len, p.next, k.0, k.1)
