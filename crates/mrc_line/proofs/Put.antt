-- Laws of `Put`: what one store puts, and that a piece after a piece is one piece.
-- Assumes nothing.
use Rattle.std.proofs.Common.{◌≡◌, ℕ, zero, suc, ◌+◌, ◌-◌, ◌*◌, ◌<◌, ◌≤◌, List, [], ◌∷◌, ◌++◌, length, take, drop, set, replicate, sym, refl, ap, ◌∙◌, subst, append_assoc, append-nil, add-one, arith, length-append, length-drop, length-set, take-append-drop, length-take-le, drop-drop, take-suc-set, take_at, drop-set-lt, take-add, drop_at}
use lib.Seq.{drop-append-le}
use Rattle.mrc_line.specs.Text.{Put, pairs, padded, hex2}

-- what stands beyond m is the same, so what stands beyond a later r is
beyond : (d s : List ℕ) (m r : ℕ) → m ≤ r → drop m d ≡ drop m s → drop r d ≡ drop r s
beyond d s m r h e =
    let k : r ≡ m + (r - m) = omega arith in
    rw k (sym (drop-drop (r - m) m d) ∙ ap (drop (r - m)) e ∙ drop-drop (r - m) m s)

-- two pieces, one after the other, are one piece
pub then :
    {n : ℕ} {s : List ℕ} {at : ℕ} {t d : List ℕ} {m k : ℕ} {u e : List ℕ} {r : ℕ} →
    Put n s at t d m → Put k d m u e r → Put (n + k) s at (t ++ u) e r
then {s = s} {at = at} {t = t} {d = d} {m = m} {u = u} {r = r} p q = record {
  end = omega (arith, p.end, q.end, length-append t u);
  most = omega (arith, p.most, q.most);
  text = q.text ∙ ap (λ (l : List ℕ). l ++ u) p.text ∙ append_assoc (take at s) t u;
  rest = q.rest ∙ beyond d s m r (omega (arith, q.end)) p.rest;
}

-- a piece that is put over what stands behind the first part of another
pub inside :
    {n : ℕ} {s : List ℕ} {at : ℕ} {d : List ℕ} {r k m : ℕ} {u e : List ℕ} {q : ℕ} (f t : List ℕ) →
    at ≤ length s → m ≡ at + length f → q ≤ r → Put n s at (f ++ t) d r → Put k d m u e q → Put n s at (f ++ (u ++ drop (length u) t)) e r
inside {s = s} {at = at} {d = d} {r = r} {m = m} {u = u} {e = e} {q = q} f t l h b p o =
    let a = take at s ++ f in
    let z = drop r d in
    let v = drop (length u) t in
    let la : length a ≡ m = omega (arith, length-append (take at s) f, length-take-le at s l) in
    let lt : length (f ++ t) ≡ length f + length t = length-append f t in
    let lu : length u ≤ length t = omega (arith, p.end, o.end) in
    let was : d ≡ a ++ (t ++ z) =
    sym (take-append-drop r d) ∙ ap (λ (x : List ℕ). x ++ z) (p.text ∙ sym (append_assoc (take at s) f t)) ∙ append_assoc a t z in
    let front : take m d ≡ a = ap (take m) was ∙ take_at a (t ++ z) m la in
    let back : drop q d ≡ v ++ z =
    ap (λ (x : ℕ). drop x d) o.end ∙ sym (drop-drop (length u) m d) ∙ ap (λ (x : List ℕ). drop (length u) (drop m x)) was
    ∙ ap (drop (length u)) (drop_at a (t ++ z) m la) ∙ drop-append-le (length u) t z lu in
    let left : length v ≡ r - q = length-drop (length u) t ∙ omega (arith, p.end, o.end) in
    let upto : r ≡ q + (r - q) = omega arith in
    record {
      end = omega (arith, p.end, length-append f (u ++ v), length-append u v, length-drop (length u) t);
      most = p.most;
      text =
          ap (λ (x : ℕ). take x e) upto ∙ take-add q (r - q) e
          ∙ ap (λ (x : List ℕ). x ++ take (r - q) (drop q e)) (o.text ∙ ap (λ (x : List ℕ). x ++ u) front)
          ∙ ap (λ (x : List ℕ). (a ++ u) ++ take (r - q) x) (o.rest ∙ back)
          ∙ ap (λ (x : List ℕ). (a ++ u) ++ x) (take_at v z (r - q) left) ∙ append_assoc a u v ∙ append_assoc (take at s) f (u ++ v);
      rest = beyond e d q r b o.rest ∙ p.rest;
    }

-- a byte by a store
pub one : (s : List ℕ) (at b : ℕ) → at < length s → Put 1 s at (b ∷ []) (set s at b) (at + 1)
one s at b h = record {
  end = refl;
  most = omega arith;
  text = rw (add-one, take-suc-set);
  rest = drop-set-lt (at + 1) s at b (omega arith);
}

-- two bytes by two stores
pub two : (s : List ℕ) (at a b : ℕ) → at + 2 ≤ length s → Put 2 s at (a ∷ b ∷ []) (set (set s at a) (at + 1) b) (at + 2)
two s at a b h =
    let e : at + 2 ≡ (at + 1) + 1 = omega arith in
    let l = length-set s at a in
    rw e (then (one s at a (omega arith)) (one (set s at a) (at + 1) b (omega arith)))

-- nothing
pub none : (s : List ℕ) (at : ℕ) → Put 0 s at [] s at
none s at = record { end = omega arith; most = omega arith; text = sym (append-nil (take at s)); rest = refl }

-- an empty piece at the start leaves the buffer as it was
pub kept : {n : ℕ} {s t d : List ℕ} {r : ℕ} → Put n s 0 t d r → length t ≡ 0 → d ≡ s
kept {s = s} {d = d} {r = r} p e = let z : r ≡ 0 = omega (arith, p.end) in subst (λ (m : ℕ). drop m d ≡ drop m s) z p.rest

-- a bound that is larger
pub within : {n m : ℕ} {s : List ℕ} {at : ℕ} {t d : List ℕ} {r : ℕ} → n ≤ m → Put n s at t d r → Put m s at t d r
within h p = record { end = p.end; most = omega (arith, p.most); text = p.text; rest = p.rest }

-- a piece that is the same text, and has a bound that is larger
pub gives : {n m : ℕ} {s : List ℕ} {at : ℕ} {t u d : List ℕ} {r : ℕ} → n ≤ m → t ≡ u → Put n s at t d r → Put m s at u d r
gives {n} {m} {s} {at} {d = d} {r = r} h e p = subst (λ (x : List ℕ). Put m s at x d r) e (within h p)

-- a piece that is the same text
pub same : {n : ℕ} {s : List ℕ} {at : ℕ} {t u d : List ℕ} {r : ℕ} → t ≡ u → Put n s at t d r → Put n s at u d r
same {n} {s} {at} {d = d} {r = r} e p = subst (λ (x : List ℕ). Put n s at x d r) e p

pairs_append : (xs ys : List ℕ) → pairs (xs ++ ys) ≡ pairs xs ++ pairs ys
pairs_append [] ys = refl
pairs_append (x ∷ xs) ys = ap (λ (l : List ℕ). hex2 x ++ 32 ∷ l) (pairs_append xs ys)

pub pairs_length : (l : List ℕ) → length (pairs l) ≡ 3 * length l
pairs_length [] = refl
pairs_length (b ∷ l) = omega (arith, pairs_length l)

blanks : (k n : ℕ) → drop {A = ℕ} k (replicate n 32) ≡ replicate (n - k) 32
blanks zero n = let z : n ≡ n - 0 = omega arith in ap (λ (m : ℕ). replicate m 32) z
blanks (suc k) zero = let z : 0 ≡ 0 - suc k = omega arith in ap (λ (m : ℕ). replicate {A = ℕ} m 32) z
blanks (suc k) (suc n) = let z : n - k ≡ suc n - suc k = omega arith in blanks k n ∙ ap (λ (m : ℕ). replicate m 32) z

-- two digits over the blanks behind pairs are one pair more
pub pair_more :
    (n : ℕ) (l : List ℕ) (b : ℕ) → length (pairs l) + 3 ≤ n →
    pairs l ++ (hex2 b ++ drop {A = ℕ} 2 (replicate (n - length (pairs l)) 32)) ≡ padded n (pairs (l ++ (b ∷ [])))
pair_more n l b h =
    let p = pairs l in
    let w : length (p ++ pairs (b ∷ [])) ≡ length p + 3 = length-append p (pairs (b ∷ [])) in
    let z : (n - length p) - 2 ≡ suc (n - length (p ++ pairs (b ∷ []))) = omega arith in
    ap (λ (x : List ℕ). p ++ (hex2 b ++ x)) (blanks 2 (n - length p) ∙ ap (λ (m : ℕ). replicate {A = ℕ} m 32) z)
    ∙ sym (append_assoc p (pairs (b ∷ [])) (replicate (n - length (p ++ pairs (b ∷ []))) 32))
    ∙ ap (padded n) (sym (pairs_append l (b ∷ [])))
