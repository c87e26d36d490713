-- What a read does to the bytes that a reader has left and a buffer holds, where those are known.
-- Assumes nothing.
use Rattle.std.proofs.Common.{◌≡◌, ℕ, ◌+◌, ◌≤◌, List, ◌++◌, length, take, Bool, true, false, cond, Result, Ok, Err, Continue, Break, sym, ap, ◌∙◌, subst, arith}
use Rattle.std.proofs.lemmas.List.{take-append-le}
use Rattle.std.proofs.Math.Seq.{take-append-add}
use Rattle.std.proofs.KnownBytes.{Consumes-trans}
use Rattle.std.specs.Io.{ReadsAtMost}
use Rattle.std.specs.Io.KnownBytes.{Consumes, ReadConsumes}
use Rattle.std.specs.declared.io.Error.{Error}
use Rattle.std.specs.declared.option.Option.{Option}
use borrow.Rule.Slice.PartMut.{put_mid, post_of}
use lib.Dec.{ltb, eqb}
use lib.Seq.{length-take-le}
use Rattle.mrc_line.specs.Target.{offsets}
use Rattle.mrc_list.specs.declared.input.NotAnImage.TheVariants.{TooLong}
use Rattle.mrc_list.specs.Input.{after_read}

-- a buffer that is read into from a position on holds what stood before that, and then what came
filled : (image buf : List ℕ) (there w k : ℕ) → there ≤ length image → k ≤ length buf → take (there + k) (put_mid there w image buf) ≡ take there image ++ take k buf
filled image buf there w k h m =
    let e : length (take there image) ≡ there = length-take-le there image h in
    let t = take-append-add (take there image) (buf ++ post_of there w image) k in
    subst (λ (n : ℕ). take (n + k) (put_mid there w image buf) ≡ take there image ++ take k buf) e
    (t ∙ ap (λ (l : List ℕ). take there image ++ l) (take-append-le k buf (post_of there w image) m))

-- where a count is not too much, and not 0, what is there grows by it
grown : (there k n : ℕ) (s t : Bool) → Continue n ≡ cond s (Break (Err TooLong)) (cond t (Break (Ok there)) (Continue (there + k))) → n ≡ there + k
grown there k n true t e = cc
grown there k n false true e = cc
grown there k n false false e = cc

-- a read into what is left of a buffer, where the bytes before that are what the reads before it gave: they are that with what came
pub read_on :
    (a b c : Option (List ℕ)) (image buf : List ℕ) (there w n : ℕ) (r : Result ℕ Error) → Continue n ≡ after_read there r → ReadsAtMost r buf →
    ReadConsumes b c r buf → there ≤ length image → Consumes a b (take there image) → Consumes a c (take n (put_mid there w image buf))
read_on a b c image buf there w n (Ok k) e m q h p =
    let g = grown there k n (ltb offsets (there + k)) (eqb k 0) e in
    subst (λ (i : ℕ). Consumes a c (take i (put_mid there w image buf))) (sym g)
    (subst (Consumes a c) (sym (filled image buf there w k h (omega (arith, m)))) (Consumes-trans a b c (take there image) (take k buf) p q.0))
read_on a b c image buf there w n (Err x) e m q h p = let z : ◌≡◌ {A = ℕ} 0 1 = cc in absurd (omega arith)
