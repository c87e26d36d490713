-- Turns, one after the other, write the listing: a page is what its turn promises, and the lines from its end on are the rest.
-- Assumes nothing.
use mathlib.Core.Path.{◌≡◌, refl, sym, ap, ◌∙◌, subst}
use mathlib.Core.Bool.{Bool, true, false}
use mathlib.Core.List.{List, ◌++◌}
use Prim.Native.Nat.{ℕ, zero, suc, ◌+◌, ◌<◌, ◌≤◌}
use native.Mathlib.Omega.{arith}
use native.Mathlib.Nat.{le_trans}
use borrow.Author.Tests.{lt-ltb, ltb-true, ltb-false}
use lib.Dec.{ltb}
use lib.ListN.{length, take, drop, length-append, length-drop}
use lib.Seq.{take_at}
use Rattle.std.proofs.Common.{Option, Some, None}
use Rattle.mrc_instruction.specs.declared.reading.Reading.TheVariants.{One}
use Rattle.mrc_instruction.specs.Promise.{ExactlyOne}
use Rattle.mrc_line.specs.declared.page.Page.{Page}
use Rattle.mrc_line.specs.Target.{offsets}
use Rattle.mrc_line.specs.Line.{line_text, longest}
use Rattle.mrc_line.specs.Page.{lines_from, text_of, taken_of, page_of, pages_from, Paged}
use Rattle.mrc_line.proofs.Lengths.{line_longest}
use Rattle.mrc_line.proofs.Lines.{lines_past}
use Rattle.mrc_line.proofs.Pages.{pages_from_lem}
use Rattle.mrc_line.proofs.Settled.{page_settled}
use Rattle.mrc_list.specs.Listing.{Turned, Writes, last, page}

-- a page's buffer: its text stands at the start, and its length is what it was
front : (s : List ℕ) (at : ℕ) (out : List ℕ) (p : Page) (done : List ℕ) → Paged One s at out p done → take p.len done ≡ text_of One s (page_of One s at (length out))
front s at out p done g = ap (take p.len) g.bytes ∙ take_at (text_of One s (page_of One s at (length out))) (drop p.len out) p.len (sym g.len)

as_long : (s : List ℕ) (at : ℕ) (out : List ℕ) (p : Page) (done : List ℕ) → Paged One s at out p done → length done ≡ length out
as_long s at out p done g =
    ap length g.bytes ∙ length-append (text_of One s (page_of One s at (length out))) (drop p.len out) ∙ rw (length-drop p.len out) (omega (arith, g.len, g.within))

module _ (s : List ℕ) (short : length s ≤ offsets) where
  -- the lines from a position on are those of the page and those from the page's end on
  split :
      (at room : ℕ) → at < length s → longest ≤ room →
      text_of One s (lines_from One (length s) s at) ≡ text_of One s (page_of One s at room) ++ text_of One s (lines_from One (length s) s (at + taken_of One s (page_of One s at room)))
  unfolding pages_from
  split at room l k =
      let every : (from : ℕ) → from < length s → length (line_text One s from) ≤ room = λ from h. le_trans (line_longest One s from) k in
      let here = pages_from_lem One s room short every (suc (length s)) at (omega arith) in
      let there = pages_from_lem One s room short every (length s) (at + taken_of One s (page_of One s at room)) (omega arith) in
      sym here ∙ simp (lt-ltb at (length s) l) (ap (λ (x : List ℕ). text_of One s (page_of One s at room) ++ x) there)

  -- what stands at the start of a page's buffer, and the lines from its end on
  joined :
      (at : ℕ) (out : List ℕ) (p : Page) (done : List ℕ) → longest ≤ length out → Turned s at out (Some p) done →
      take p.len done ++ text_of One s (lines_from One (length s) s p.next) ≡ text_of One s (lines_from One (length s) s at)
  joined at out p done k t =
      let g = t.1 in
      ap (λ (x : List ℕ). x ++ text_of One s (lines_from One (length s) s p.next)) (front s at out p done g)
      ∙ ap (λ (n : ℕ). text_of One s (page_of One s at (length out)) ++ text_of One s (lines_from One (length s) s n)) g.next ∙ sym (split at (length out) t.0 k)

  pub only_listing : {at : ℕ} {out text : List ℕ} → longest ≤ length out → Writes s at out text → text ≡ text_of One s (lines_from One (length s) s at)
  only_listing {at} k (last t) = sym (ap (text_of One s) (lines_past One (length s) s at t.0))
  only_listing {at} {out} k (page {done = done} {p = p} t later) =
      ap (λ (x : List ℕ). take p.len done ++ x) (only_listing (omega (arith, as_long s at out p done t.1)) later) ∙ joined at out p done k t

  finished : (at : ℕ) (out : List ℕ) → length s ≤ at → Writes s at out (text_of One s (lines_from One (length s) s at))
  finished at out h = subst (Writes s at out) (sym (ap (text_of One s) (lines_past One (length s) s at h))) (last {done = out} (h, refl))

  -- f turns are enough, since each moves on
  pub listing_written : (f at : ℕ) (out : List ℕ) → length s ≤ at + f → longest ≤ length out → Writes s at out (text_of One s (lines_from One (length s) s at))
  listing_written zero at out h k = finished at out (omega arith)
  listing_written (suc f) at out h k = go (ltb at (length s)) refl (λ at out h k. listing_written f at out h k)
    where
      go :
          (b : Bool) → ltb at (length s) ≡ b →
          ((at : ℕ) (out : List ℕ) → length s ≤ at + f → longest ≤ length out → Writes s at out (text_of One s (lines_from One (length s) s at))) →
          Writes s at out (text_of One s (lines_from One (length s) s at))
      go false e again = finished at out (ltb-false at (length s) e)
      go true e again =
          let l = ltb-true at (length s) e in
          let p = (page_settled One s at out).answer.0 in
          let done = (page_settled One s at out).answer.1 in
          let g = (page_settled One s at out).meets in
          let m = g.moves short l k in
          subst (Writes s at out) (joined at out p done k (l, g))
          (page {done = done} {p = p} (l, g) (again p.next done (omega arith) (omega (arith, as_long s at out p done g))))

-- exactly one answer and buffer meet the promise of a turn: by whether the image has a byte at the position
pub settled : (s : List ℕ) (at : ℕ) (out : List ℕ) → ExactlyOne {A = Option Page × List ℕ} (λ p. Turned s at out p.0 p.1)
settled s at out = go (ltb at (length s)) refl
  where
    ended : (r : Option Page) (done : List ℕ) → length s ≤ at → Turned s at out r done → ◌≡◌ {A = Option Page × List ℕ} (r, done) (None, out)
    ended (Some p) done h t = absurd (omega (arith, t.0))
    ended None done h t = ap (λ (x : List ℕ). (None, x)) t.1

    paged_only :
        (r : Option Page) (done : List ℕ) → at < length s → Turned s at out r done →
        ◌≡◌ {A = Option Page × List ℕ} (r, done) (Some (page_settled One s at out).answer.0, (page_settled One s at out).answer.1)
    paged_only (Some p) done h t = ap (λ (x : Page × List ℕ). (Some x.0, x.1)) ((page_settled One s at out).only (p, done) t.1)
    paged_only None done h t = absurd (omega (arith, t.0))

    go : (b : Bool) → ltb at (length s) ≡ b → ExactlyOne {A = Option Page × List ℕ} (λ p. Turned s at out p.0 p.1)
    go true e =
        let l = ltb-true at (length s) e in
        record {
          answer = (Some (page_settled One s at out).answer.0, (page_settled One s at out).answer.1);
          meets = (l, (page_settled One s at out).meets);
          only = λ p t. paged_only p.0 p.1 l t;
        }
    go false e =
        let l = ltb-false at (length s) e in
        record { answer = (None, out); meets = (l, refl); only = λ p t. ended p.0 p.1 l t }
