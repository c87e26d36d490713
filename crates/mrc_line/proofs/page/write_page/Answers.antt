-- The lines for which there was room begin the page; each turn of the loop goes on with any page that has come so far, by `goes_on`.
-- Assumes nothing.
use Rattle.std.specs.Prelude.{Err}
use Rattle.std.proofs.Common.{refl, arith}
use Rattle.mrc_line.specs.Line.{a_line}
use Rattle.mrc_line.proofs.Takes.{line_takes}
use Rattle.mrc_line.proofs.Paging.{tells, goes_on, ends_past, ends_refused, page_too_long}
use Rattle.mrc_line.proofs.page.write_page.Goals as goal

pub returns-then-image-gt-OFFSETS : goal.returns-then-image-gt-OFFSETS
returns-then-image-gt-OFFSETS c = page_too_long _ _ _ _ c.if-image-gt-OFFSETS.true

pub slice_bounds-write_short-count : goal.slice_bounds-write_short-count
slice_bounds-write_short-count c = (c.loop-next.invariant _ c.roomy_lines-len.ensures.paging).inside

pub slice_bounds-write_short-start : goal.slice_bounds-write_short-start
slice_bounds-write_short-start c = (c.loop-next.invariant _ c.roomy_lines-len.ensures.paging).inside

pub overflow_add-len : goal.overflow_add-len
overflow_add-len c =
    let p = c.loop-next.invariant _ c.roomy_lines-len.ensures.paging in
    let t = tells _ p (a_line c.in-Ok.line.len c.in-Ok.line.taken) c.write_short.new.out c.in-Ok.ensures _ _ refl in
    omega (arith, t.fits, t.len_is, p.long)

pub overflow_add-next : goal.overflow_add-next
overflow_add-next c =
    let p = c.loop-next.invariant _ c.roomy_lines-len.ensures.paging in
    let t = tells _ p (a_line c.in-Ok.line.len c.in-Ok.line.taken) c.write_short.new.out c.in-Ok.ensures _ _ refl in
    let k = line_takes c.args.reading c.args.image.now c.loop-next.next c.loop-next-test.true in
    omega (arith, t.taken_is, k.inside)

pub loop-next-smaller : goal.loop-next-smaller
loop-next-smaller c =
    let p = c.loop-next.invariant _ c.roomy_lines-len.ensures.paging in
    let t = tells _ p (a_line c.in-Ok.line.len c.in-Ok.line.taken) c.write_short.new.out c.in-Ok.ensures _ _ refl in
    let k = line_takes c.args.reading c.args.image.now c.loop-next.next c.loop-next-test.true in
    omega (arith, t.taken_is, k.some)

pub loop-next-preserved : goal.loop-next-preserved
loop-next-preserved c = λ b p.
    goes_on _ (c.loop-next.invariant b p) (a_line c.in-Ok.line.len c.in-Ok.line.taken) c.write_short.new.out c.in-Ok.ensures _ _ refl c.write_short.auto.out
    c.loop-next-test.true

pub returns-in-Err : goal.returns-in-Err
returns-in-Err c =
    ends_refused _ c.if-image-gt-OFFSETS.false (c.loop-next.invariant _ c.roomy_lines-len.ensures.paging) c.loop-next-test.true
    (Err c.in-Err.field-0) c.write_short.new.out c.in-Err.ensures c.in-Err.field-0 refl

pub returns-after-loop-next : goal.returns-after-loop-next
returns-after-loop-next c = ends_past _ c.if-image-gt-OFFSETS.false (c.loop-next.invariant _ c.roomy_lines-len.ensures.paging) c.loop-next-test.false
