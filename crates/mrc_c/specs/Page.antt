-- Rule 15.7: the page call's answer as one number, and its buffer.
use Rattle.std.specs.Prelude.{ℕ, ◌+◌, ◌*◌, ◌≡◌, List, ◌++◌, length, drop}
use Rattle.mrc_instruction.specs.declared.reading.Reading.{Reading}
use Rattle.mrc_instruction.specs.Widths.{double_words}
use Rattle.mrc_line.specs.Page.{text_of, taken_of, page_of}

-- the length of the lines' text, which is below 4,294,967,296, and the bytes of the image that they account for
abbrev pub page_code : Reading → List ℕ → List ℕ → ℕ
page_code x s lines = length (text_of x s lines) + double_words * taken_of x s lines

pub record PageWritten (x : Reading) (s : List ℕ) (at : ℕ) (out : List ℕ) (r : ℕ) (done : List ℕ) : Type 0 where
  pub answer : r ≡ page_code x s (page_of x s at (length out))
  pub buffer : done ≡ text_of x s (page_of x s at (length out)) ++ drop (length (text_of x s (page_of x s at (length out)))) out
