-- Rule 14.1: what the reads of an input come to: an image, where it has at most 65,536 bytes, however many reads they come in.
use Rattle.std.specs.Prelude.{◌≡◌, cond, ℕ, ◌+◌, ◌-◌, ◌≤◌, ltb, eqb, Result, Ok, Err}
use Rattle.std.specs.declared.io.Error.{Error}
use Rattle.std.specs.declared.ops.ControlFlow.{ControlFlow}
use Rattle.std.specs.declared.ops.ControlFlow.TheVariants.{Continue, Break}
use Rattle.mrc_line.specs.Target.{offsets}
use Rattle.mrc_list.specs.declared.input.NotAnImage.{NotAnImage}
use Rattle.mrc_list.specs.declared.input.NotAnImage.TheVariants.{TooLong, Failed}

-- where so many bytes are there and a read gives its answer: it failed; or more bytes than there are offsets are too many; none is the
-- end of the input; any other number is how many came
abbrev pub after_read : ℕ → Result ℕ Error → ControlFlow (Result ℕ NotAnImage) ℕ
after_read there (Err e) = Break (Err Failed)
after_read there (Ok k) = cond (ltb offsets (there + k)) (Break (Err TooLong)) (cond (eqb k 0) (Break (Ok there)) (Continue (there + k)))

-- how many bytes a read asks for: what an image may still have, and one more
abbrev pub wanted_of : ℕ → ℕ
wanted_of there = offsets + 1 - there

-- rules 14.2 and 14.3: what an input of n bytes is
abbrev pub input_of : ℕ → Result ℕ NotAnImage
input_of n = cond (ltb offsets n) (Err TooLong) (Ok n)

-- rule 14.1: of an input of n bytes k come where so many are there: no more than were asked for, and none only where all are there
pub record Comes (n there k : ℕ) : Type 0 where
  pub within : there + k ≤ n
  pub asked : k ≤ wanted_of there
  pub end : k ≡ 0 → there ≡ n

-- reads, one after the other, of an input of n bytes of which so many are there, and what they come to
pub data Reads (n : ℕ) : ℕ → Result ℕ NotAnImage → Type 0 where
  last : {there k : ℕ} {r : Result ℕ NotAnImage} → Comes n there k → after_read there (Ok k) ≡ Break r → Reads n there r
  more : {there k filled : ℕ} {r : Result ℕ NotAnImage} → Comes n there k → after_read there (Ok k) ≡ Continue filled → Reads n filled r → Reads n there r
