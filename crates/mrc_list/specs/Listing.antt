-- Rules 14.2 and 14.3: what is written for an input: the pages of its listing in reading 1, one after the other; or only the line `TOO LONG`.
use Rattle.std.specs.Prelude.{◌≡◌, cond, ltb, List, [], ◌++◌, ℕ, ◌<◌, ◌≤◌, length, take, Option, Some, None}
use Rattle.mrc_instruction.specs.declared.reading.Reading.TheVariants.{One}
use Rattle.mrc_line.specs.declared.page.Page.{Page}
use Rattle.mrc_line.specs.Text.{bytes}
use Rattle.mrc_line.specs.Line.{line_end}
use Rattle.mrc_line.specs.Target.{offsets}
use Rattle.mrc_line.specs.Page.{Paged, lines_of, text_of}

abbrev pub too_long_text : List ℕ
too_long_text = bytes "TOO LONG" ++ line_end

-- what is written for an input of these bytes
abbrev pub text_for : List ℕ → List ℕ
text_for xs = cond (ltb offsets (length xs)) too_long_text (text_of One xs (lines_of One xs))

-- a turn's answer, and its buffer before and after: while the image has a byte at the position, the page that starts there; else none
abbrev pub Turned : List ℕ → ℕ → List ℕ → Option Page → List ℕ → Type 0
Turned s at out (Some p) done = (at < length s) × Paged One s at out p done
Turned s at out None done = (length s ≤ at) × (done ≡ out)

-- turns from a position and a buffer on, each with the position and the buffer that the one before it left, and the text of their pages
pub data Writes (s : List ℕ) : ℕ → List ℕ → List ℕ → Type 0 where
  last : {at : ℕ} {out done : List ℕ} → Turned s at out None done → Writes s at out []
  page :
      {at : ℕ} {out done text : List ℕ} {p : Page} → Turned s at out (Some p) done → Writes s p.next done text →
      Writes s at out (take p.len done ++ text)
