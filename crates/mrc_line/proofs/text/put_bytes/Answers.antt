-- A turn puts one byte more.
-- Assumes nothing.
use Rattle.std.proofs.Common.{◌≡◌, ◌+◌, ◌∷◌, [], ◌++◌, get_or, take, ◌∙◌, add-one, arith, length-set, take-suc}
use lib.Seq.{take_all}
use Rattle.mrc_line.proofs.Put.{then, one, within, same}
use Rattle.mrc_line.proofs.text.put_bytes.Goals as goal

pub loop-b-preserved : goal.loop-b-preserved
loop-b-preserved c =
    let l = c.loop-b in
    let src = c.args.src.now in
    let b = get_or src l.b-index 0 in
    let more : take (l.b-index + 1) src ≡ take l.b-index src ++ (b ∷ []) = rw (add-one l.b-index, take-suc src l.b-index 0 c.loop-b-test.true) in
    record {
      long = length-set l.buf l.o b ∙ l.invariant.long;
      put = rw more (then l.invariant.put (one l.buf l.o b (omega arith)));
    }

pub returns : goal.returns
returns c =
    let l = c.loop-b in
    let src = c.args.src.now in
    same (take_all l.b-index src c.loop-b-test.false) (within (omega arith) l.invariant.put)
