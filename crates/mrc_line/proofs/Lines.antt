-- The lines of a listing: each starts behind the bytes of the one before it, so that together they account for each byte once.
-- Assumes nothing.
use Rattle.std.proofs.Common.{◌≡◌, ℕ, zero, suc, ◌+◌, ◌-◌, ◌<◌, ◌≤◌, Bool, true, false, ltb, List, [], ◌∷◌, ◌++◌, length, take, drop, sym, refl, ap, ◌∙◌, arith, take-append-drop, drop_of_length-le, drop-drop, ltb-false, ltb-true, le-ltb, lt-ltb}
use Rattle.mrc_instruction.specs.declared.reading.Reading.{Reading}
use Rattle.mrc_line.specs.Line.{line_taken}
use Rattle.mrc_line.specs.Page.{lines_from, bytes_of, taken_of, lines_of}
use Rattle.mrc_line.proofs.Takes.{Takes, line_takes}

module _ (x : Reading) where
  -- within the image there is a line, and past it none
  pub lines_more : (f : ℕ) (s : List ℕ) (at : ℕ) → at < length s → lines_from x (suc f) s at ≡ at ∷ lines_from x f s (at + line_taken x s at)
  unfolding lines_from
  lines_more f s at h = simp (lt-ltb at (length s) h)

  pub lines_past : (f : ℕ) (s : List ℕ) (at : ℕ) → length s ≤ at → lines_from x f s at ≡ []
  unfolding lines_from
  lines_past zero s at h = refl
  lines_past (suc f) s at h = simp (le-ltb at (length s) h)

  -- an induction along the lines from a position on, f of which are enough
  pub along :
      (s : List ℕ) (P : ℕ → ℕ → Type 0) →
      ((f at : ℕ) → length s ≤ at → P f at) →
      ((f at : ℕ) → at < length s → length s ≤ at + suc f → Takes s at (line_taken x s at) → P f (at + line_taken x s at) → P (suc f) at) →
      (f at : ℕ) → length s ≤ at + f → P f at
  along s P past more zero at h = past zero at (omega arith)
  along s P past more (suc f) at h = go (ltb at (length s)) refl (λ at k. along s P past more f at k)
    where
      go : (b : Bool) → ltb at (length s) ≡ b → ((at : ℕ) → length s ≤ at + f → P f at) → P (suc f) at
      go true e again =
          let l = ltb-true at (length s) e in
          let t = line_takes x s at l in
          more f at l h t (again (at + line_taken x s at) (omega (arith, t.some)))
      go false e again = past (suc f) at (ltb-false at (length s) e)

  -- as many as are enough are all
  pub enough : (s : List ℕ) (f g at : ℕ) → length s ≤ at + f → length s ≤ at + g → lines_from x f s at ≡ lines_from x g s at
  enough s f g at h k = along s (λ f at. (g : ℕ) → length s ≤ at + g → lines_from x f s at ≡ lines_from x g s at) past more f at h g k
    where
      past : (f at : ℕ) → length s ≤ at → (g : ℕ) → length s ≤ at + g → lines_from x f s at ≡ lines_from x g s at
      past f at h g k = lines_past f s at h ∙ sym (lines_past g s at h)

      more : (f at : ℕ) → at < length s → length s ≤ at + suc f → Takes s at (line_taken x s at)
          → ((g : ℕ) → length s ≤ at + line_taken x s at + g → lines_from x f s (at + line_taken x s at) ≡ lines_from x g s (at + line_taken x s at))
          → (g : ℕ) → length s ≤ at + g → lines_from x (suc f) s at ≡ lines_from x g s at
      more f at l h t i zero k = absurd (omega arith)
      more f at l h t i (suc g) k =
          lines_more f s at l ∙ ap (λ (y : List ℕ). at ∷ y) (i g (omega (arith, t.some))) ∙ sym (lines_more g s at l)

  -- the bytes that the lines account for, and how many they are
  pub bytes_left : (s : List ℕ) (f at : ℕ) → length s ≤ at + f → bytes_of x s (lines_from x f s at) ≡ drop at s
  bytes_left s f at h = along s (λ f at. bytes_of x s (lines_from x f s at) ≡ drop at s) past more f at h
    where
      past : (f at : ℕ) → length s ≤ at → bytes_of x s (lines_from x f s at) ≡ drop at s
      past f at h = ap (bytes_of x s) (lines_past f s at h) ∙ sym (drop_of_length-le s h)

      more : (f at : ℕ) → at < length s → length s ≤ at + suc f → Takes s at (line_taken x s at)
          → bytes_of x s (lines_from x f s (at + line_taken x s at)) ≡ drop (at + line_taken x s at) s → bytes_of x s (lines_from x (suc f) s at) ≡ drop at s
      more f at l h t i =
          ap (bytes_of x s) (lines_more f s at l) ∙ ap (λ (y : List ℕ). take (line_taken x s at) (drop at s) ++ y) (i ∙ sym (drop-drop (line_taken x s at) at s))
          ∙ take-append-drop (line_taken x s at) (drop at s)

  pub taken_left : (s : List ℕ) (f at : ℕ) → length s ≤ at + f → taken_of x s (lines_from x f s at) ≡ length s - at
  taken_left s f at h = along s (λ f at. taken_of x s (lines_from x f s at) ≡ length s - at) past more f at h
    where
      past : (f at : ℕ) → length s ≤ at → taken_of x s (lines_from x f s at) ≡ length s - at
      past f at h = ap (taken_of x s) (lines_past f s at h) ∙ omega arith

      more : (f at : ℕ) → at < length s → length s ≤ at + suc f → Takes s at (line_taken x s at)
          → taken_of x s (lines_from x f s (at + line_taken x s at)) ≡ length s - (at + line_taken x s at) → taken_of x s (lines_from x (suc f) s at) ≡ length s - at
      more f at l h t i = ap (taken_of x s) (lines_more f s at l) ∙ omega (arith, i, t.inside)

  -- over an image, each byte once
  pub each_once : (s : List ℕ) → bytes_of x s (lines_of x s) ≡ s
  each_once s = bytes_left s (length s) 0 (omega arith)

  pub add_up : (s : List ℕ) → taken_of x s (lines_of x s) ≡ length s
  add_up s = taken_left s (length s) 0 (omega arith) ∙ omega arith
