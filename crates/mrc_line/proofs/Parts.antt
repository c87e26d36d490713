-- A part of a buffer that is lent: from o on, with t put at its start; or written over whole.
-- Assumes nothing.
use Rattle.std.proofs.Common.{◌≡◌, ℕ, ◌+◌, ◌-◌, ◌≤◌, List, ◌++◌, length, take, drop, sym, refl, ap, ◌∙◌, subst, append_assoc, arith, length-append, length-drop, take-append-drop, length-take-le, drop-drop, take_at, drop_at}
use borrow.Rule.Slice.PartMut.{mid_of, post_of, put_mid}
use lib.Seq.{drop-append-le}
use Rattle.mrc_line.specs.Text.{Put}

pub mid_length : (d : List ℕ) (o : ℕ) → o ≤ length d → length (mid_of o (length d - o) d) ≡ length d - o
mid_length d o h = length-take-le (length d - o) (drop o d) (rw (length-drop o d) (omega arith))

pub put_behind :
    (d : List ℕ) (o : ℕ) (t e : List ℕ) → o ≤ length d → length t ≤ length d - o → e ≡ t ++ drop (length t) (mid_of o (length d - o) d) →
    Put (length t) d o t (put_mid o (length d - o) d e) (o + length t)
put_behind d o t e h g q =
    let k = length d - o in
    let m = mid_of o k d in
    let y = drop (length t) m in
    let front : length (take o d ++ t) ≡ o + length t = length-append (take o d) t ∙ ap (λ (n : ℕ). n + length t) (length-take-le o d h) in
    let split : put_mid o k d e ≡ (take o d ++ t) ++ (y ++ post_of o k d) = ap (λ (l : List ℕ). take o d ++ (l ++ post_of o k d)) q ∙ simp append_assoc in
    let after : y ++ post_of o k d ≡ drop (o + length t) d =
    sym (drop-append-le (length t) m (post_of o k d) (rw (mid_length d o h) g)) ∙ ap (drop (length t)) (take-append-drop k (drop o d))
    ∙ drop-drop (length t) o d in
    record {
      end = refl;
      most = omega arith;
      text = ap (take (o + length t)) split ∙ take_at (take o d ++ t) (y ++ post_of o k d) (o + length t) front;
      rest = ap (drop (o + length t)) split ∙ drop_at (take o d ++ t) (y ++ post_of o k d) (o + length t) front ∙ after;
    }

over : (d : List ℕ) (at k e : ℕ) (t : List ℕ) → length t ≡ k → e ≡ at + k → e ≤ length d → Put k d at t (put_mid at k d t) e
over d at k e t l q h =
    let split : put_mid at k d t ≡ (take at d ++ t) ++ post_of at k d = sym (append_assoc (take at d) t (post_of at k d)) in
    let front : length (take at d ++ t) ≡ e = length-append (take at d) t ∙ omega (arith, length-take-le at d (omega arith)) in
    record {
      end = omega arith;
      most = omega arith;
      text = ap (take e) split ∙ take_at (take at d ++ t) (post_of at k d) e front;
      rest = ap (drop e) split ∙ drop_at (take at d ++ t) (post_of at k d) e front ∙ drop-drop k at d ∙ ap (λ (n : ℕ). drop n d) (sym q);
    }

pub put_over :
    {d u : List ℕ} {at k e : ℕ} {t : List ℕ} → u ≡ t → length t ≡ k → e ≡ at + k → e ≤ length d → Put k d at t (put_mid at k d u) e
put_over {d} {u} {at} {k} {e} {t} p l q h = subst (λ (x : List ℕ). Put k d at t (put_mid at k d x) e) (sym p) (over d at k e t l q h)
