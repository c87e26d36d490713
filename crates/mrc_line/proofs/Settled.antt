-- Exactly one answer and buffer meet the promise of a line call, and of a page call: each promise is an equation for the one and for the other.
-- Assumes nothing.
use Rattle.std.specs.Prelude.{Result, Err}
use Rattle.std.proofs.Common.{◌≡◌, ℕ, ◌+◌, ◌-◌, ◌≤◌, Bool, true, false, cond, ltb, leb, List, [], ◌∷◌, ◌++◌, length, drop, sym, refl, ap, ◌∙◌, arith, length-append, leb-true}
use Rattle.mrc_instruction.specs.declared.reading.Reading.{Reading}
use Rattle.mrc_instruction.specs.declared.errors.Refusal.{Refusal}
use Rattle.mrc_instruction.specs.Promise.{ExactlyOne}
use Rattle.mrc_line.specs.declared.line.Written.{Written}
use Rattle.mrc_line.specs.declared.page.Page.{Page}
use Rattle.mrc_line.specs.Target.{offsets}
use Rattle.mrc_line.specs.Line.{line_text, answer_of, after, Listed}
use Rattle.mrc_line.specs.Page.{lines_from, text_of, taken_of, fitting, page_of, Paged}
use Rattle.mrc_line.proofs.Answers.{line_values_lem}
use Rattle.mrc_line.proofs.Paging.{page_moves}

module _ (x : Reading) where
  pub line_settled : (s : List ℕ) (at : ℕ) (out : List ℕ) → ExactlyOne {A = Result Written Refusal × List ℕ} (λ p. Listed x s at out p.0 p.1)
  line_settled s at out =
      let a = answer_of x s at (length out) in
      let d = after a (line_text x s at) out in
      record {
        answer = (a, d);
        meets = record { answer = refl; values = line_values_lem x s at (length out) refl; bytes = refl };
        only = λ p l. ap (λ y. (y, p.1)) l.answer ∙ ap (λ y. (a, y)) l.bytes;
      }

  -- a refused call changes no byte
  pub unchanged : (s : List ℕ) (at : ℕ) (out : List ℕ) (e : Refusal) (done : List ℕ) → Listed x s at out (Err e) done → done ≡ out
  unchanged s at out e done l = l.bytes ∙ sym (ap (λ a. after a (line_text x s at) out) l.answer)

  -- what fits is no longer than the room
  fits_in : (s : List ℕ) (room : ℕ) (lines : List ℕ) → length (text_of x s (fitting x s room lines)) ≤ room
  fits_in s room [] = omega arith
  fits_in s room (at ∷ lines) = go (leb (length (line_text x s at)) room) refl (fits_in s (room - length (line_text x s at)) lines)
    where
      go :
          (b : Bool) → leb (length (line_text x s at)) room ≡ b → length (text_of x s (fitting x s (room - length (line_text x s at)) lines)) ≤ room - length (line_text x s at) →
          length (text_of x s (cond b (at ∷ fitting x s (room - length (line_text x s at)) lines) [])) ≤ room
      go true e i =
          omega (arith, leb-true (length (line_text x s at)) room e, length-append (line_text x s at) (text_of x s (fitting x s (room - length (line_text x s at)) lines)))
      go false e i = omega arith

  page_within : (s : List ℕ) (at room : ℕ) → length (text_of x s (page_of x s at room)) ≤ room
  unfolding page_of
  page_within s at room = go (ltb offsets (length s))
    where
      go : (b : Bool) → length (text_of x s (cond b [] (fitting x s room (lines_from x (length s) s at)))) ≤ room
      go true = omega arith
      go false = fits_in s room (lines_from x (length s) s at)

  pub page_settled : (s : List ℕ) (at : ℕ) (out : List ℕ) → ExactlyOne {A = Page × List ℕ} (λ p. Paged x s at out p.0 p.1)
  page_settled s at out =
      let lines = page_of x s at (length out) in
      let r : Page = record { len = length (text_of x s lines); next = at + taken_of x s lines } in
      let d = text_of x s lines ++ drop r.len out in
      record {
        answer = (r, d);
        meets = record {
          len = refl;
          next = refl;
          bytes = refl;
          within = page_within s at (length out);
          moves = λ h k l. page_moves x s at (length out) h k l;
        };
        only = λ p l.
            ap (λ (n : ℕ). (record { len = n; next = p.0.next }, p.1)) l.len ∙ ap (λ (n : ℕ). (record { len = r.len; next = n }, p.1)) l.next
            ∙ ap (λ (y : List ℕ). (r, y)) (l.bytes ∙ ap (λ (n : ℕ). text_of x s lines ++ drop n out) l.len);
      }
