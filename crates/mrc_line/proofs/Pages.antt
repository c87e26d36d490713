-- Pages joined are the listing: what a page leaves out is what the lines from its end on are. And how much a page has of text and of the image.
-- Assumes nothing.
use Rattle.std.proofs.Common.{◌≡◌, ℕ, zero, suc, ◌+◌, ◌-◌, ◌*◌, ◌<◌, ◌≤◌, Bool, true, false, cond, ltb, leb, List, [], ◌∷◌, ◌++◌, length, sym, refl, ap, ◌∙◌, append_assoc, arith, length-append, ltb-false, ltb-true, le-ltb, lt-ltb, le-leb}
use borrow.Author.Tests.{lt-leb}
use Rattle.mrc_instruction.specs.declared.reading.Reading.{Reading}
use Rattle.mrc_line.specs.Target.{offsets}
use Rattle.mrc_line.specs.Line.{line_text, line_taken, longest}
use Rattle.mrc_line.specs.Page.{lines_from, lines_of, text_of, taken_of, fitting, page_of, pages_from}
use Rattle.mrc_line.proofs.Takes.{Takes, line_takes}
use Rattle.mrc_line.proofs.Lengths.{line_longest}
use Rattle.mrc_line.proofs.Lines.{lines_more, lines_past, along, enough}

-- lines that account for no more than so many bytes, and have at most `longest` bytes of text for each
pub record Short (x : Reading) (s : List ℕ) (most : ℕ) (lines : List ℕ) : Type 0 where
  pub text : length (text_of x s lines) ≤ longest * taken_of x s lines
  pub taken : taken_of x s lines ≤ most

module _ (x : Reading) where
  -- a line that fits, and one that does not
  pub fits : (s : List ℕ) (room at : ℕ) (lines : List ℕ) → length (line_text x s at) ≤ room → fitting x s room (at ∷ lines) ≡ at ∷ fitting x s (room - length (line_text x s at)) lines
  fits s room at lines h = simp (le-leb (length (line_text x s at)) room h)

  pub stops : (s : List ℕ) (room at : ℕ) (lines : List ℕ) → room < length (line_text x s at) → fitting x s room (at ∷ lines) ≡ []
  stops s room at lines h = simp (lt-leb (length (line_text x s at)) room h)

  pub page_is : (s : List ℕ) (at room : ℕ) → length s ≤ offsets → page_of x s at room ≡ fitting x s room (lines_from x (length s) s at)
  unfolding page_of
  page_is s at room h = simp (le-ltb offsets (length s) h)

  pub page_none : (s : List ℕ) (at room : ℕ) → offsets < length s → page_of x s at room ≡ []
  unfolding page_of
  page_none s at room h = simp (lt-ltb offsets (length s) h)

  -- the text from a position on: what fits, and the text from where that ends on
  abbrev Split : List ℕ → ℕ → ℕ → Type 0
  Split s f at =
      (room : ℕ) → text_of x s (lines_from x f s at)
      ≡ text_of x s (fitting x s room (lines_from x f s at)) ++ text_of x s (lines_from x (length s) s (at + taken_of x s (fitting x s room (lines_from x f s at))))

  split : (s : List ℕ) (f at : ℕ) → length s ≤ at + f → Split s f at
  split s f at h = along x s (Split s) past more f at h
    where
      past : (f at : ℕ) → length s ≤ at → Split s f at
      past f at h room = rw (lines_past x f s at h) (sym (ap (text_of x s) (lines_past x (length s) s (at + 0) (omega arith))))

      more : (f at : ℕ) → at < length s → length s ≤ at + suc f → Takes s at (line_taken x s at) → Split s f (at + line_taken x s at) → Split s (suc f) at
      more f at l h t i room = rw (lines_more x f s at l) (go (leb (length (line_text x s at)) room) refl)
        where
          go : (b : Bool) → leb (length (line_text x s at)) room ≡ b
              → line_text x s at ++ text_of x s (lines_from x f s (at + line_taken x s at))
              ≡ text_of x s (cond b (at ∷ fitting x s (room - length (line_text x s at)) (lines_from x f s (at + line_taken x s at))) [])
              ++ text_of x s (lines_from x (length s) s (at + taken_of x s (cond b (at ∷ fitting x s (room - length (line_text x s at)) (lines_from x f s (at + line_taken x s at))) [])))
          go true e =
              let some = fitting x s (room - length (line_text x s at)) (lines_from x f s (at + line_taken x s at)) in
              let assoc : at + line_taken x s at + taken_of x s some ≡ at + (line_taken x s at + taken_of x s some) = omega arith in
              ap (λ (y : List ℕ). line_text x s at ++ y) (i (room - length (line_text x s at))) ∙ sym (append_assoc (line_text x s at) (text_of x s some) _)
              ∙ ap (λ (n : ℕ). (line_text x s at ++ text_of x s some) ++ text_of x s (lines_from x (length s) s n)) assoc
          go false e =
              let here : at ≡ at + 0 = omega arith in
              sym (ap (text_of x s) (lines_more x f s at l)) ∙ ap (text_of x s) (enough x s (suc f) (length s) at h (omega arith))
              ∙ ap (λ (n : ℕ). text_of x s (lines_from x (length s) s n)) here

  -- a page whose first line fits moves on
  pub moves : (s : List ℕ) (f at room : ℕ) → at < length s → length (line_text x s at) ≤ room → 1 ≤ taken_of x s (fitting x s room (lines_from x (suc f) s at))
  moves s f at room l h = rw (lines_more x f s at l, fits s room at _ h) (omega (arith, (line_takes x s at l).some))

  module _ (s : List ℕ) (room : ℕ) (short : length s ≤ offsets) (every : (at : ℕ) → at < length s → length (line_text x s at) ≤ room) where
    pub pages_from_lem : (f at : ℕ) → length s ≤ at + f → pages_from x f s at room ≡ text_of x s (lines_from x (length s) s at)
    unfolding pages_from
    pages_from_lem zero at h = sym (ap (text_of x s) (lines_past x (length s) s at (omega arith)))
    pages_from_lem (suc f) at h = go (ltb at (length s)) refl (λ at k. pages_from_lem f at k)
      where
        go : (b : Bool) → ltb at (length s) ≡ b
            → ((at : ℕ) → length s ≤ at + f → pages_from x f s at room ≡ text_of x s (lines_from x (length s) s at))
            → cond b (text_of x s (page_of x s at room) ++ pages_from x f s (at + taken_of x s (page_of x s at room)) room) [] ≡ text_of x s (lines_from x (length s) s at)
        go true e again =
            let l = ltb-true at (length s) e in
            let page = page_of x s at room in
            let p : page ≡ fitting x s room (lines_from x (length s) s at) = page_is s at room short in
            let m : 1 ≤ taken_of x s page = rw (p, enough x s (length s) (suc (length s)) at (omega arith) (omega arith)) (moves s (length s) at room l (every at l)) in
            ap (λ (y : List ℕ). text_of x s page ++ y) (again (at + taken_of x s page) (omega arith))
            ∙ ap (λ (y : List ℕ). text_of x s y ++ text_of x s (lines_from x (length s) s (at + taken_of x s y))) p ∙ sym (split s (length s) at (omega arith) room)
        go false e again = sym (ap (text_of x s) (lines_past x (length s) s at (ltb-false at (length s) e)))

    pub pages_joined : pages_from x (length s) s 0 room ≡ text_of x s (lines_of x s)
    pages_joined = pages_from_lem (length s) 0 (omega arith)

  abbrev ShortFrom : List ℕ → ℕ → ℕ → Type 0
  ShortFrom s f at = (room : ℕ) → Short x s (length s - at) (fitting x s room (lines_from x f s at))

  none_short : (s : List ℕ) (most : ℕ) → Short x s most []
  none_short s most = record { text = omega arith; taken = omega arith }

  short_from : (s : List ℕ) (f at : ℕ) → length s ≤ at + f → ShortFrom s f at
  short_from s f at h = along x s (ShortFrom s) past more f at h
    where
      past : (f at : ℕ) → length s ≤ at → ShortFrom s f at
      past f at h room = rw (lines_past x f s at h) (none_short s (length s - at))

      more : (f at : ℕ) → at < length s → length s ≤ at + suc f → Takes s at (line_taken x s at) → ShortFrom s f (at + line_taken x s at) → ShortFrom s (suc f) at
      more f at l h t i room = rw (lines_more x f s at l) (go (leb (length (line_text x s at)) room))
        where
          go : (b : Bool) → Short x s (length s - at) (cond b (at ∷ fitting x s (room - length (line_text x s at)) (lines_from x f s (at + line_taken x s at))) [])
          go true =
              let some = fitting x s (room - length (line_text x s at)) (lines_from x f s (at + line_taken x s at)) in
              let k = i (room - length (line_text x s at)) in
              record {
                text = omega (arith, k.text, t.some, line_longest x s at, length-append (line_text x s at) (text_of x s some));
                taken = omega (arith, k.taken, t.inside);
              }
          go false = none_short s (length s - at)

  -- a page, which is empty where the image is too long
  pub page_short : (s : List ℕ) (at room : ℕ) → Short x s offsets (page_of x s at room)
  unfolding page_of
  page_short s at room = go (ltb offsets (length s)) refl
    where
      go : (b : Bool) → ltb offsets (length s) ≡ b → Short x s offsets (cond b [] (fitting x s room (lines_from x (length s) s at)))
      go true e = none_short s offsets
      go false e =
          let k = short_from s (length s) at (omega arith) room in
          record { text = k.text; taken = omega (arith, k.taken, ltb-false offsets (length s) e) }
