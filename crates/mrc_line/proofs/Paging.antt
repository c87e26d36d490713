-- The loop of a page: what stands in the buffer so far are whole lines, and the page is these and what still fits from the next position on.
-- Assumes nothing.
use Rattle.std.specs.Prelude.{Result, Err}
use Rattle.std.proofs.Common.{◌≡◌, ℕ, zero, suc, ◌+◌, ◌-◌, ◌<◌, ◌≤◌, List, [], ◌∷◌, ◌++◌, length, drop, sym, refl, ap, ◌∙◌, subst, append_assoc, append-nil, arith, take-append-drop}
use borrow.Rule.Slice.PartMut.{mid_of, put_mid, put_same, same_len_mid}
use Rattle.mrc_instruction.specs.declared.reading.Reading.{Reading}
use Rattle.mrc_instruction.specs.declared.errors.Refusal.{Refusal}
use Rattle.mrc_line.specs.declared.line.Written.{Written}
use Rattle.mrc_line.specs.Text.{Put}
use Rattle.mrc_line.specs.Target.{offsets}
use Rattle.mrc_line.specs.Line.{a_line, line_text, line_taken, answer_of, after, Listed, longest}
use Rattle.mrc_line.specs.Page.{lines_from, text_of, taken_of, fitting, page_of, Paged, Paging}
use Rattle.mrc_line.proofs.Put.{then, none}
use Rattle.mrc_line.proofs.Parts.{mid_length, put_behind}
use Rattle.mrc_line.proofs.Takes.{line_takes}
use Rattle.mrc_line.proofs.Lines.{lines_more, lines_past, enough}
use Rattle.mrc_line.proofs.Pages.{fits, stops, page_is, page_none, moves}
use Rattle.mrc_line.proofs.Lengths.{line_longest}
use Rattle.mrc_line.proofs.Answers.{Told, told, lacks}

module _ (x : Reading) where
  -- ---- lines that are put one after the other

  text_append : (s : List ℕ) (a b : List ℕ) → text_of x s (a ++ b) ≡ text_of x s a ++ text_of x s b
  text_append s [] b = refl
  text_append s (y ∷ a) b = ap (λ (l : List ℕ). line_text x s y ++ l) (text_append s a b) ∙ sym (append_assoc (line_text x s y) (text_of x s a) (text_of x s b))

  taken_append : (s : List ℕ) (a b : List ℕ) → taken_of x s (a ++ b) ≡ taken_of x s a + taken_of x s b
  taken_append s [] b = omega arith
  taken_append s (y ∷ a) b = omega (arith, taken_append s a b)

  pub begins : (s : List ℕ) (at : ℕ) (out : List ℕ) → Paging x s at out out 0 at
  begins s at out =
      let z : length out ≡ length out - 0 = omega arith in
      record {
        f = length s;
        lines = [];
        left = omega arith;
        inside = omega arith;
        long = refl;
        put = none out 0;
        page = ap (λ (room : ℕ). fitting x s room (lines_from x (length s) s at)) z;
        goes = omega arith;
      }

  -- a turn, in which a line call on the rest of the buffer answered r and left `last` there
  module _
      {s : List ℕ} {at : ℕ} {out₀ out : List ℕ} {o next : ℕ} (p : Paging x s at out₀ out o next) (r : Result Written Refusal) (last : List ℕ)
      (l : Listed x s next (mid_of o (length out - o) out) r last) where
    -- the room that the call was given
    room_is : length (mid_of o (length out - o) out) ≡ length out₀ - o
    room_is = mid_length out o p.inside ∙ ap (λ (n : ℕ). n - o) p.long

    answered : r ≡ answer_of x s next (length out₀ - o)
    answered = l.answer ∙ ap (answer_of x s next) room_is

    -- what was left in the part
    left_in : last ≡ after r (line_text x s next) (mid_of o (length out - o) out)
    left_in = l.bytes ∙ sym (ap (λ a. after a (line_text x s next) (mid_of o (length out - o) out)) l.answer)

    module _ (len taken : ℕ) (e : r ≡ a_line len taken) where
      pub tells : Told x s next (length out₀ - o) len taken
      tells = told x s next (length out₀ - o) len taken (sym e ∙ answered)

      at_line : last ≡ line_text x s next ++ drop (length (line_text x s next)) (mid_of o (length out - o) out)
      at_line =
          left_in ∙ ap (λ a. after a (line_text x s next) (mid_of o (length out - o) out)) e
          ∙ ap (λ (n : ℕ). line_text x s next ++ drop n (mid_of o (length out - o) out)) tells.len_is

      pub grown : Put (length (line_text x s next)) out o (line_text x s next) (put_mid o (length out - o) out last) (o + len)
      grown =
          subst (λ (n : ℕ). Put (length (line_text x s next)) out o (line_text x s next) (put_mid o (length out - o) out last) (o + n)) (sym tells.len_is)
          (put_behind out o (line_text x s next) last p.inside (omega (arith, tells.fits, p.long)) at_line)

      by_count :
          length last ≡ length (mid_of o (length out - o) out) → next < length s → (f : ℕ) → length s ≤ next + f →
          fitting x s (length out₀) (lines_from x (length s) s at) ≡ p.lines ++ fitting x s (length out₀ - o) (lines_from x f s next) →
          Paging x s at out₀ (put_mid o (length out - o) out last) (o + len) (next + taken)
      by_count k h zero g pg = absurd (omega arith)
      by_count k h (suc f) g pg =
          let t = tells in
          let room : length out₀ - o - length (line_text x s next) ≡ length out₀ - (o + len) = omega (arith, t.len_is) in
          let long = same_len_mid o (length out - o) out last k in
          let w = then p.put grown in
          let text = text_append s p.lines (next ∷ []) ∙ ap (λ (y : List ℕ). text_of x s p.lines ++ y) (append-nil (line_text x s next)) in
          let w' = subst (λ (y : List ℕ). Put (o + length (line_text x s next)) out₀ 0 y (put_mid o (length out - o) out last) (o + len)) (sym text) w in
          record {
            f = f;
            lines = p.lines ++ (next ∷ []);
            left = omega (arith, (line_takes x s next h).some, t.taken_is);
            inside = omega (arith, long, p.inside, p.long, t.fits, t.len_is);
            long = long ∙ p.long;
            put = record { end = w'.end; most = omega arith; text = w'.text; rest = w'.rest };
            page =
                pg ∙ ap (λ (y : List ℕ). p.lines ++ fitting x s (length out₀ - o) y) (lines_more x f s next h)
                ∙ ap (λ (y : List ℕ). p.lines ++ y) (fits x s (length out₀ - o) next (lines_from x f s (next + line_taken x s next)) t.fits)
                ∙ ap (λ (n : ℕ). p.lines ++ (next ∷ fitting x s n (lines_from x f s (next + line_taken x s next)))) room
                ∙ ap (λ (n : ℕ). p.lines ++ (next ∷ fitting x s (length out₀ - (o + len)) (lines_from x f s (next + n)))) (sym t.taken_is)
                ∙ sym (append_assoc p.lines (next ∷ []) (fitting x s (length out₀ - (o + len)) (lines_from x f s (next + taken))));
            goes = omega (arith, p.goes, t.taken_is, taken_append s p.lines (next ∷ []));
          }

      pub goes_on :
          length last ≡ length (mid_of o (length out - o) out) → next < length s →
          Paging x s at out₀ (put_mid o (length out - o) out last) (o + len) (next + taken)
      goes_on k h = by_count k h p.f p.left p.page

    -- a turn that was refused leaves the buffer as it was
    pub as_it_was : (e : Refusal) → r ≡ Err e → put_mid o (length out - o) out last ≡ out
    as_it_was e h =
        ap (put_mid o (length out - o) out) (left_in ∙ ap (λ a. after a (line_text x s next) (mid_of o (length out - o) out)) h)
        ∙ put_same o (length out - o) out

  -- ---- the end

  -- where room for any line is, a page moves on
  pub page_moves : (s : List ℕ) (at room : ℕ) → length s ≤ offsets → at < length s → longest ≤ room → at < at + taken_of x s (page_of x s at room)
  page_moves s at room h k r =
      let m : 1 ≤ taken_of x s (page_of x s at room) =
      rw (page_is x s at room h, enough x s (length s) (suc (length s)) at (omega arith) (omega arith))
      (moves x s (length s) at room k (omega (arith, line_longest x s at))) in
      omega arith

  -- the page is done where nothing more fits or is left
  module _ {s : List ℕ} {at : ℕ} {out₀ out : List ℕ} {o next : ℕ} (h : length s ≤ offsets) (p : Paging x s at out₀ out o next) where
    ends : fitting x s (length out₀ - o) (lines_from x p.f s next) ≡ [] → Paged x s at out₀ (record { len = o; next = next }) out
    ends e =
        let whole : page_of x s at (length out₀) ≡ p.lines =
        page_is x s at (length out₀) h ∙ p.page ∙ ap (λ (y : List ℕ). p.lines ++ y) e ∙ append-nil p.lines in
        let n : next ≡ at + taken_of x s (page_of x s at (length out₀)) = p.goes ∙ ap (λ (y : List ℕ). at + taken_of x s y) (sym whole) in
        record {
          len = omega (arith, p.put.end, ap (λ (y : List ℕ). length (text_of x s y)) whole);
          next = n;
          bytes =
              sym (take-append-drop o out) ∙ ap (λ (u : List ℕ). u ++ drop o out) (p.put.text ∙ ap (text_of x s) (sym whole))
              ∙ ap (λ (u : List ℕ). text_of x s (page_of x s at (length out₀)) ++ u) p.put.rest;
          within = omega (arith, p.inside, p.long);
          moves = λ _ k r. rw n (page_moves s at (length out₀) h k r);
        }

    pub ends_past : length s ≤ next → Paged x s at out₀ (record { len = o; next = next }) out
    ends_past k = ends (ap (fitting x s (length out₀ - o)) (lines_past x p.f s next k))

    stopped : (f : ℕ) → length s ≤ next + f → next < length s → length out₀ - o < length (line_text x s next) → fitting x s (length out₀ - o) (lines_from x f s next) ≡ []
    stopped zero g k r = absurd (omega arith)
    stopped (suc f) g k r = ap (fitting x s (length out₀ - o)) (lines_more x f s next k) ∙ stops x s (length out₀ - o) next (lines_from x f s (next + line_taken x s next)) r

    pub ends_refused :
        next < length s → (r : Result Written Refusal) (last : List ℕ) → Listed x s next (mid_of o (length out - o) out) r last → (e : Refusal) → r ≡ Err e →
        Paged x s at out₀ (record { len = o; next = next }) (put_mid o (length out - o) out last)
    ends_refused k r last l e q =
        subst (λ (d : List ℕ). Paged x s at out₀ (record { len = o; next = next }) d) (sym (as_it_was p r last l e q))
        (ends (stopped p.f p.left k (lacks x s next (length out₀ - o) e h k (sym q ∙ answered p r last l))))

  -- an image that is too long has an empty page
  pub page_too_long : (s : List ℕ) (at : ℕ) (out : List ℕ) → offsets < length s → Paged x s at out (record { len = 0; next = at }) out
  page_too_long s at out h =
      let e = page_none x s at (length out) h in
      record {
        len = ap (λ (y : List ℕ). length (text_of x s y)) (sym e);
        next = rw e (omega arith);
        bytes = rw e refl;
        within = omega arith;
        moves = λ k _ _. absurd (omega arith);
      }
