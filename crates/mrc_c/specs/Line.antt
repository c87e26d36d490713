-- Rule 15.7: the line call's answer as one number, and its buffer.
use Rattle.std.specs.Prelude.{ℕ, ◌+◌, ◌*◌, ◌≡◌, List, length, Result, Ok, Err}
use Rattle.mrc_instruction.specs.declared.reading.Reading.{Reading}
use Rattle.mrc_instruction.specs.Widths.{words, double_words}
use Rattle.mrc_instruction.specs.declared.errors.Refusal.{Refusal}
use Rattle.mrc_line.specs.declared.line.Written.{Written}
use Rattle.mrc_line.specs.Line.{line_text, answer_of, line_values, after}

-- a refused call has no line
abbrev pub length_of : Result Written Refusal → ℕ
length_of (Ok line) = line.len
length_of (Err e) = 0

-- the line's length, the bytes taken and the refusal's number; the first two are below 65,536
abbrev pub line_code : Reading → List ℕ → ℕ → Result Written Refusal → ℕ
line_code x s at r = length_of r + words * (line_values x s at r).taken + double_words * (line_values x s at r).number

pub record LineWritten (x : Reading) (s : List ℕ) (at : ℕ) (out : List ℕ) (r : ℕ) (done : List ℕ) : Type 0 where
  pub answer : r ≡ line_code x s at (answer_of x s at (length out))
  pub buffer : done ≡ after (answer_of x s at (length out)) (line_text x s at) out
