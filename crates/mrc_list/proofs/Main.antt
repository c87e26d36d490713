-- What is shown of the program's decisions.
-- Assumes nothing.
use mathlib.Core.Path.{◌≡◌, refl}
use mathlib.Core.List.{List}
use Prim.Native.Nat.{ℕ, ◌≤◌}
use native.Mathlib.Omega.{arith}
use lib.ListN.{length}
use Rattle.std.proofs.Common.{Option, Result, Ok, Err}
use Rattle.mrc_line.specs.declared.page.Page.{Page}
use Rattle.mrc_instruction.specs.declared.reading.Reading.TheVariants.{One}
use Rattle.mrc_instruction.specs.Promise.{ExactlyOne}
use Rattle.mrc_line.specs.Target.{offsets}
use Rattle.mrc_line.specs.Line.{longest}
use Rattle.mrc_line.specs.Page.{lines_of, text_of}
use Rattle.mrc_list.specs.declared.input.NotAnImage.{NotAnImage}
use Rattle.mrc_list.specs.declared.input.NotAnImage.TheVariants.{TooLong}
use Rattle.mrc_list.specs.Input.{input_of, Reads}
use Rattle.mrc_list.specs.Listing.{Turned, Writes}
use Rattle.mrc_list.proofs.Counts as Counts
use Rattle.mrc_list.proofs.Turns as Turns

-- exactly one answer and one buffer meet the promise of `next_page`; the other promises of `input` and `listing` are equations
pub next_page_settled : (image : List ℕ) (at : ℕ) (out : List ℕ) → ExactlyOne {A = Option Page × List ℕ} (λ p. Turned image at out p.0 p.1)
next_page_settled = Turns.settled

-- 65,536 bytes are an image, and one more is too long
pub most_bytes : input_of 65536 ≡ Ok 65536
most_bytes = refl

pub one_more : input_of 65537 ≡ Err TooLong
one_more = refl

-- an input of n bytes is read as what its count says, in whatever pieces they come
pub input_read : (n : ℕ) → Reads n 0 (input_of n)
input_read = Counts.read_somehow

pub only_input : (n : ℕ) (r : Result ℕ NotAnImage) → Reads n 0 r → r ≡ input_of n
only_input n r h = Counts.comes_to h

-- for an image the listing of all of it is written, and nothing else, whatever the size of the buffer that pages are made in
pub listing_written : (image out : List ℕ) → length image ≤ offsets → longest ≤ length out → Writes image 0 out (text_of One image (lines_of One image))
listing_written image out h k = Turns.listing_written image h (length image) 0 out (omega arith) k

pub only_listing : (image out text : List ℕ) → length image ≤ offsets → longest ≤ length out → Writes image 0 out text → text ≡ text_of One image (lines_of One image)
only_listing image out text h k w = Turns.only_listing image h k w
