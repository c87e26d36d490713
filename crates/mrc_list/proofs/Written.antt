-- Turns whose pages a writer takes: in the end it has the listing more.
-- Assumes nothing.
use Rattle.std.proofs.Common.{ℕ, List, [], ◌++◌, length, ◌≤◌, take, sym, ◌∙◌, subst, append_assoc, append-nil, Option, Some, None}
use Rattle.std.proofs.KnownBytes.{Appends-trans}
use Rattle.std.specs.Io.KnownBytes.{Appends}
use Rattle.mrc_instruction.specs.declared.reading.Reading.TheVariants.{One}
use Rattle.mrc_line.specs.declared.page.Page.{Page}
use Rattle.mrc_line.specs.Target.{offsets}
use Rattle.mrc_line.specs.Line.{longest}
use Rattle.mrc_line.specs.Page.{lines_of, text_of}
use Rattle.mrc_list.specs.Listing.{Turned, Writes, last, page}
use Rattle.mrc_list.proofs.Turns.{only_listing}

-- turns that a writer took the pages of: their text, which is all that it has more, and behind which comes whatever the turns from here on write
pub record Writing (image first : List ℕ) (old new : Option (List ℕ)) (at : ℕ) (out : List ℕ) : Type 0 where
  pub text : List ℕ
  pub took : Appends old new text
  pub rest : (later : List ℕ) → Writes image at out later → Writes image 0 first (text ++ later)

module _ (image first : List ℕ) (old mid : Option (List ℕ)) (at : ℕ) (out done : List ℕ) where
  pub writing_on : (new : Option (List ℕ)) (p : Page) → Writing image first old mid at out → Turned image at out (Some p) done → Appends mid new (take p.len done) → Writing image first old new p.next done
  writing_on new p w t a =
      record {
        text = w.text ++ take p.len done;
        took = Appends-trans old mid new w.text (take p.len done) w.took a;
        rest = λ later h. subst (Writes image 0 first) (sym (append_assoc w.text (take p.len done) later)) (w.rest (take p.len done ++ later) (page t h));
      }

  pub writing_ends : length image ≤ offsets → longest ≤ length first → Writing image first old mid at out → Turned image at out None done → Appends old mid (text_of One image (lines_of One image))
  writing_ends h k w t =
      subst (Appends old mid) (sym (append-nil w.text) ∙ only_listing image h k (w.rest [] (last t))) w.took
