-- A listing has a line for every step, the first at position 0; a page is as many whole lines of it as fit, from a position on.
use Rattle.std.specs.Prelude.{◌≡◌, ℕ, zero, suc, ◌+◌, ◌-◌, ◌<◌, ◌≤◌, cond, List, [], ◌∷◌, ◌++◌, length, take, drop, nat_le, nat_lt}
use Rattle.mrc_instruction.specs.declared.reading.Reading.{Reading}
use Rattle.mrc_line.specs.declared.page.Page.{Page}
use Rattle.mrc_line.specs.Text.{Put}
use Rattle.mrc_line.specs.Target.{offsets}
use Rattle.mrc_line.specs.Line.{line_text, line_taken, longest, a_line, Listed}

module _ (x : Reading) where
  -- the lines from a position on, each by its position: one stands behind the bytes that the one before took. There are f of them at most; each takes a
  -- byte or more, so an image has no more lines than bytes
  unfoldable pub lines_from : ℕ → List ℕ → ℕ → List ℕ
  lines_from zero s at = []
  lines_from (suc f) s at = cond (nat_lt at (length s)) (at ∷ lines_from f s (at + line_taken x s at)) []

  -- rules 13.1 and 13.2: the text of lines, one after the other; the bytes of the image that they account for, and their count
  abbrev pub text_of : List ℕ → List ℕ → List ℕ
  text_of s [] = []
  text_of s (at ∷ lines) = line_text x s at ++ text_of s lines

  abbrev pub bytes_of : List ℕ → List ℕ → List ℕ
  bytes_of s [] = []
  bytes_of s (at ∷ lines) = take (line_taken x s at) (drop at s) ++ bytes_of s lines

  abbrev pub taken_of : List ℕ → List ℕ → ℕ
  taken_of s [] = 0
  taken_of s (at ∷ lines) = line_taken x s at + taken_of s lines

  -- rule 13.1: the lines of an image
  abbrev pub lines_of : List ℕ → List ℕ
  lines_of s = lines_from (length s) s 0

  -- rule 13.3: the first lines, as many as fit whole into a room
  abbrev pub fitting : List ℕ → ℕ → List ℕ → List ℕ
  fitting s room [] = []
  fitting s room (at ∷ lines) = cond (nat_le (length (line_text x s at)) room) (at ∷ fitting s (room - length (line_text x s at)) lines) []

  -- rule 13.3: the lines of a page; an image that is too long has none
  unfoldable pub page_of : List ℕ → ℕ → ℕ → List ℕ
  page_of s at room = cond (nat_lt offsets (length s)) [] (fitting s room (lines_from (length s) s at))

  -- rule 13.4: the pages of an image, one after the other, each from where the one before it ended; f of them at most
  unfoldable pub pages_from : ℕ → List ℕ → ℕ → ℕ → List ℕ
  pages_from zero s at room = []
  pages_from (suc f) s at room =
      cond (nat_lt at (length s)) (text_of s (page_of s at room) ++ pages_from f s (at + taken_of s (page_of s at room)) room) []

-- rule 13.3: a page call's answer r, and its buffer before the call and after it
pub record Paged (x : Reading) (s : List ℕ) (at : ℕ) (out : List ℕ) (r : Page) (done : List ℕ) : Type 0 where
  pub len : r.len ≡ length (text_of x s (page_of x s at (length out)))
  pub next : r.next ≡ at + taken_of x s (page_of x s at (length out))
  pub bytes : done ≡ text_of x s (page_of x s at (length out)) ++ drop r.len out
  -- it stays within its room, and where that has room for any line, it moves on
  pub within : r.len ≤ length out
  pub moves : length s ≤ offsets → at < length s → longest ≤ length out → at < r.next

-- Internal: of a page that holds o bytes, the lines so far, from `at` to `next`; what still fits comes behind them, and f lines are enough for that
pub record Paging (x : Reading) (s : List ℕ) (at : ℕ) (out₀ out : List ℕ) (o next : ℕ) : Type 0 where
  pub f : ℕ
  pub lines : List ℕ
  pub left : length s ≤ next + f
  pub inside : o ≤ length out
  pub long : length out ≡ length out₀
  pub put : Put o out₀ 0 (text_of x s lines) out o
  pub page : fitting x s (length out₀) (lines_from x (length s) s at) ≡ lines ++ fitting x s (length out₀ - o) (lines_from x f s next)
  pub goes : next ≡ at + taken_of x s lines

-- Internal: the lines of a page for which there was room whatever they are; a buffer for one line has one
pub record Roomy (x : Reading) (s : List ℕ) (at : ℕ) (out : List ℕ) (r : Page) (done : List ℕ) : Type 0 where
  pub paging : Paging x s at out done r.len r.next
  pub one : at < length s → length out ≡ longest → Listed x s at out (a_line r.len (r.next - at)) done
