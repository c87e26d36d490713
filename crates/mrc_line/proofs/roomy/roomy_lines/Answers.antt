-- A turn is `fills`.
-- Assumes nothing.
use Rattle.std.proofs.Common.{refl, inl, inr, arith}
use Rattle.mrc_line.specs.Line.{a_line}
use Rattle.mrc_line.proofs.Takes.{line_takes}
use Rattle.mrc_line.proofs.Paging.{tells}
use Rattle.mrc_line.proofs.Filling.{starts, fills, filled}
use Rattle.mrc_line.proofs.roomy.roomy_lines.Goals as goal

pub returns-then-out-lt-LONGEST : goal.returns-then-out-lt-LONGEST
returns-then-out-lt-LONGEST c = filled _ (starts _ _ _ _) c.requires (inr (omega arith))

pub loop-next-init : goal.loop-next-init
loop-next-init c = starts _ _ _ _

pub overflow_add-len : goal.overflow_add-len
overflow_add-len c =
    let l = c.loop-next in
    let w = c.write_step-line in
    let t = tells _ l.invariant.paging (a_line w.result.len w.result.taken) w.new.out w.ensures _ _ refl in
    omega (arith, t.fits, t.len_is, l.invariant.paging.long)

pub overflow_add-next : goal.overflow_add-next
overflow_add-next c =
    let l = c.loop-next in
    let w = c.write_step-line in
    let t = tells _ l.invariant.paging (a_line w.result.len w.result.taken) w.new.out w.ensures _ _ refl in
    let k = line_takes c.args.reading c.args.image.now l.next c.loop-next-test.true in
    omega (arith, t.taken_is, k.inside)

pub loop-next-smaller : goal.loop-next-smaller
loop-next-smaller c =
    let l = c.loop-next in
    let w = c.write_step-line in
    let t = tells _ l.invariant.paging (a_line w.result.len w.result.taken) w.new.out w.ensures _ _ refl in
    let k = line_takes c.args.reading c.args.image.now l.next c.loop-next-test.true in
    omega (arith, t.taken_is, k.some)

pub loop-next-preserved : goal.loop-next-preserved
loop-next-preserved c =
    let l = c.loop-next in
    let w = c.write_step-line in
    fills _ l.invariant w.result.len w.result.taken w.new.out w.ensures w.auto.out c.loop-next-test.true
    (omega (arith, c.if-len-last.true, c.if-out-lt-LONGEST.false, l.invariant.paging.long))

pub returns-else-len-last : goal.returns-else-len-last
returns-else-len-last c =
    filled _ c.loop-next.invariant c.requires (inr (omega (arith, c.if-len-last.false, c.if-out-lt-LONGEST.false, c.loop-next.invariant.paging.long)))

pub returns-after-loop-next : goal.returns-after-loop-next
returns-after-loop-next c = filled _ c.loop-next.invariant c.requires (inl c.loop-next-test.false)
