-- A turn puts two digits over the blanks.
-- Assumes nothing.
use Rattle.std.proofs.Common.{◌≡◌, ℕ, ◌+◌, ◌*◌, List, ◌∷◌, [], ◌++◌, length, get_or, take, sym, ap, ◌∙◌, add-one, arith, length-take-le, take-suc}
use lib.Seq.{take_all}
use Rattle.mrc_line.specs.Text.{pairs, padded, field_width}
use Rattle.mrc_line.proofs.Put.{inside, pair_more, pairs_length, same}
use Rattle.mrc_line.proofs.text.put_field.Goals as goal

pub loop-b-preserved : goal.loop-b-preserved
loop-b-preserved c =
    let l = c.loop-b in
    let src = c.args.src.now in
    let b = get_or src l.b-index 0 in
    let w : length (pairs (take l.b-index src)) ≡ 3 * l.b-index = pairs_length (take l.b-index src) ∙ ap (λ (k : ℕ). 3 * k) (length-take-le l.b-index src (omega arith)) in
    let more : take (l.b-index + 1) src ≡ take l.b-index src ++ (b ∷ []) = rw (add-one l.b-index, take-suc src l.b-index 0 c.loop-b-test.true) in
    record {
      place = omega arith;
      long = omega arith;
      put = λ s h p.
          same (pair_more field_width (take l.b-index src) b (omega arith) ∙ ap (λ (t : List ℕ). padded field_width (pairs t)) (sym more))
          (inside (pairs (take l.b-index src)) _ h (omega arith) (omega (arith, p.end, c.put_hex2.ensures.end)) (l.invariant.put s h p) c.put_hex2.ensures);
    }

pub returns : goal.returns
returns c =
    let l = c.loop-b in
    let src = c.args.src.now in
    let all : take l.b-index src ≡ src = take_all l.b-index src c.loop-b-test.false in
    same (ap (λ (t : List ℕ). padded field_width (pairs t)) all) (l.invariant.put c.args.buf.now (omega arith) c.put_spaces-end.ensures)
