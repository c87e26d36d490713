-- The answers of a line call, by the tests that lead to each, with what they carry; and what an answer tells of the line.
-- Assumes nothing.
use Rattle.std.specs.Prelude.{Result, Ok, Err}
use Rattle.std.proofs.Common.{◌≡◌, ℕ, ◌<◌, ◌≤◌, Bool, true, false, cond, eqb, ltb, List, ◌++◌, length, take, drop, sym, refl, ap, ◌∙◌, arith, take-append-drop, take_at, ltb-false, ltb-true, le-ltb, lt-ltb, eq-eqb, ne_eqb}
use lib.Arith.{lt_of_le-ne}
use borrow.Author.Tests.{eqb-false}
use Rattle.mrc_instruction.specs.declared.reading.Reading.{Reading}
use Rattle.mrc_instruction.specs.declared.errors.Refusal.{Refusal}
use Rattle.mrc_instruction.specs.declared.errors.Refusal.TheVariants.{ImageTooLong, OutsideInput, EndOfInput, NoRoom}
use Rattle.mrc_instruction.specs.Values.{carrying}
use Rattle.mrc_line.specs.declared.line.Written.{Written}
use Rattle.mrc_line.specs.Text.{Put}
use Rattle.mrc_line.specs.Target.{offsets}
use Rattle.mrc_line.specs.Line.{line_text, line_taken, line_prefixes, answer_of, line_values, values_at, a_line, after, Listed}

-- what an answer tells of the line
pub record Told (x : Reading) (s : List ℕ) (at room len taken : ℕ) : Type 0 where
  pub inside : at < length s
  pub len_is : len ≡ length (line_text x s at)
  pub taken_is : taken ≡ line_taken x s at
  pub fits : length (line_text x s at) ≤ room

module _ (x : Reading) where
  -- each answer carries what its row of the table has
  values_by :
      (s : List ℕ) (at len taken : ℕ) (a b c d : Bool) →
      line_values x s at (cond a (Err ImageTooLong) (cond b (Err OutsideInput) (cond c (Err EndOfInput) (cond d (Err NoRoom) (a_line len taken)))))
      ≡ cond a (carrying 13 0 0 0) (cond b (carrying 11 0 0 0) (cond c (carrying 1 0 0 0) (cond d (carrying 12 0 0 0) (carrying 0 0 taken (line_prefixes x s at)))))
  values_by s at len taken true b c d = refl
  values_by s at len taken false true c d = refl
  values_by s at len taken false false true d = refl
  values_by s at len taken false false false true = refl
  values_by s at len taken false false false false = refl

  pub line_values_lem : (s : List ℕ) (at room : ℕ) {r : Result Written Refusal} → r ≡ answer_of x s at room → line_values x s at r ≡ values_at x s at room
  unfolding answer_of values_at
  line_values_lem s at room e =
      ap (line_values x s at) e
      ∙ values_by s at (length (line_text x s at)) (line_taken x s at) (ltb offsets (length s)) (ltb (length s) at) (eqb (length s) at) (ltb room (length (line_text x s at)))

  module _ (s : List ℕ) (at : ℕ) (out : List ℕ) where
    -- a refusal, with the buffer as it was
    pub refused : (e : Refusal) → Err e ≡ answer_of x s at (length out) → Listed x s at out (Err e) out
    refused e h = record { answer = h; values = line_values_lem s at (length out) h; bytes = ap (λ a. after a (line_text x s at) out) h }

    pub too_long : offsets < length s → Err ImageTooLong ≡ answer_of x s at (length out)
    unfolding answer_of
    too_long h = simp (lt-ltb offsets (length s) h)

    module _ (h : length s ≤ offsets) where
      pub outside : length s < at → Err OutsideInput ≡ answer_of x s at (length out)
      unfolding answer_of
      outside k = simp (le-ltb offsets (length s) h, lt-ltb (length s) at k)

      pub at_end : length s ≡ at → Err EndOfInput ≡ answer_of x s at (length out)
      unfolding answer_of
      at_end k = simp (le-ltb offsets (length s) h, le-ltb (length s) at (omega arith), eq-eqb (length s) at k)

      module _ (k : at < length s) where
        pub no_room : length out < length (line_text x s at) → Err NoRoom ≡ answer_of x s at (length out)
        unfolding answer_of
        no_room l = simp (le-ltb offsets (length s) h, le-ltb (length s) at (omega arith), ne_eqb (length s) at (λ e. omega arith), lt-ltb (length out) (length (line_text x s at)) l)

        room : length (line_text x s at) ≤ length out → a_line (length (line_text x s at)) (line_taken x s at) ≡ answer_of x s at (length out)
        unfolding answer_of
        room l = simp (le-ltb offsets (length s) h, le-ltb (length s) at (omega arith), ne_eqb (length s) at (λ e. omega arith), le-ltb (length out) (length (line_text x s at)) l)

        -- the line, put at the buffer's start
        pub written :
            {n : ℕ} {done : List ℕ} (r len taken : ℕ) → Put n out 0 (line_text x s at) done r → length (line_text x s at) ≤ length out → len ≡ r →
            taken ≡ line_taken x s at → Listed x s at out (a_line len taken) done
        written {done = done} r len taken p l f g =
            let e : len ≡ length (line_text x s at) = omega (arith, p.end) in
            let a : a_line len taken ≡ answer_of x s at (length out) = ap (λ y. a_line y taken) e ∙ ap (a_line (length (line_text x s at))) g ∙ room l in
            record {
              answer = a;
              values = line_values_lem s at (length out) a;
              bytes =
                  sym (take-append-drop r done) ∙ ap (λ (u : List ℕ). u ++ drop r done) p.text ∙ ap (λ (u : List ℕ). line_text x s at ++ u) p.rest
                  ∙ ap (λ (m : ℕ). line_text x s at ++ drop m out) (sym f) ∙ ap (λ y. after y (line_text x s at) out) a;
            }

  -- what an answer has as its length and its bytes taken
  abbrev len_of : Result Written Refusal → ℕ
  len_of (Ok line) = line.len
  len_of (Err e) = 0

  abbrev taken_in : Result Written Refusal → ℕ
  taken_in (Ok line) = line.taken
  taken_in (Err e) = 0

  told_by :
      (s : List ℕ) (at room len taken : ℕ) (a b c d : Bool) → (b ≡ false → c ≡ false → at < length s) → (d ≡ false → length (line_text x s at) ≤ room) →
      a_line len taken
      ≡ cond a (Err ImageTooLong) (cond b (Err OutsideInput) (cond c (Err EndOfInput) (cond d (Err NoRoom) (a_line (length (line_text x s at)) (line_taken x s at))))) →
      Told x s at room len taken
  told_by s at room len taken true b c d i f e = let z : ◌≡◌ {A = ℕ} 0 1 = cc in absurd (omega arith)
  told_by s at room len taken false true c d i f e = let z : ◌≡◌ {A = ℕ} 0 1 = cc in absurd (omega arith)
  told_by s at room len taken false false true d i f e = let z : ◌≡◌ {A = ℕ} 0 1 = cc in absurd (omega arith)
  told_by s at room len taken false false false true i f e = let z : ◌≡◌ {A = ℕ} 0 1 = cc in absurd (omega arith)
  told_by s at room len taken false false false false i f e = record { inside = i refl refl; len_is = ap len_of e; taken_is = ap taken_in e; fits = f refl }

  pub told : (s : List ℕ) (at room len taken : ℕ) → a_line len taken ≡ answer_of x s at room → Told x s at room len taken
  unfolding answer_of
  told s at room len taken e =
      told_by s at room len taken (ltb offsets (length s)) (ltb (length s) at) (eqb (length s) at) (ltb room (length (line_text x s at)))
      (λ b c. lt_of_le-ne (ltb-false (length s) at b) (λ h. eqb-false (length s) at c (sym h))) (λ d. ltb-false room (length (line_text x s at)) d) e

  -- within an image that is not too long, only room is a reason to refuse
  lacks_by :
      (s : List ℕ) (at room : ℕ) (e : Refusal) (d : Bool) → (d ≡ true → room < length (line_text x s at)) →
      Err e ≡ cond d (Err NoRoom) (a_line (length (line_text x s at)) (line_taken x s at)) → room < length (line_text x s at)
  lacks_by s at room e true f h = f refl
  lacks_by s at room e false f h = let z : ◌≡◌ {A = ℕ} 0 1 = cc in absurd (omega arith)

  pub lacks : (s : List ℕ) (at room : ℕ) (e : Refusal) → length s ≤ offsets → at < length s → Err e ≡ answer_of x s at room → room < length (line_text x s at)
  unfolding answer_of
  lacks s at room e h k p =
      lacks_by s at room e (ltb room (length (line_text x s at))) (λ d. ltb-true room (length (line_text x s at)) d)
      (p ∙ simp (le-ltb offsets (length s) h, le-ltb (length s) at (omega arith), ne_eqb (length s) at (λ e. omega arith)))

  -- of a buffer in which a line stands, so many bytes are the line
  pub line_held : {s : List ℕ} {at : ℕ} {out : List ℕ} {len taken : ℕ} {done : List ℕ} → Listed x s at out (a_line len taken) done → take len done ≡ line_text x s at
  line_held {s} {at} {out} {len} {taken} l =
      ap (take len) (l.bytes ∙ sym (ap (λ a. after a (line_text x s at) out) l.answer))
      ∙ take_at (line_text x s at) (drop len out) len (sym (told s at (length out) len taken l.answer).len_is)
