-- Striking prefixes, rule 10.1: what remains of a run is the first override, if any, and the first repeat, if any, in one order or the other.
-- Assumes nothing.
use mathlib.Core.Path.{◌≡◌, refl, sym, ap, ap₂, subst}
use mathlib.Core.Logic.{◌⊎◌, inl, inr}
use mathlib.Core.Bool.{Bool, true, false, ◌||◌, cond}
use mathlib.Core.List.{List, [], ◌∷◌, ◌++◌}
use Prim.Native.Nat.{ℕ, suc, ◌≤◌}
use native.Mathlib.Omega.{arith}
use lib.ListN.{length}
use lib.Dec.{eqb}
use borrow.Author.Tests.{eqb-true}
use Rattle.std.specs.Prelude.{Option, Some, None}
use Rattle.mrc_rules.specs.Prefixes.{first, is_override, is_repeat, is_prefix}
use Rattle.mrc_rules.specs.Striking.{AllPrefix, struck, first_only, remains}

-- the prefixes one by one
or-true : (x y : Bool) → x || y ≡ true → (x ≡ true) ⊎ (y ≡ true)
or-true true y e = inl refl
or-true false y e = inr e

either : {A B C : Type 0} → A ⊎ B → (A → C) → (B → C) → C
either (inl a) f g = f a
either (inr b) f g = g b

module _ (P : ℕ → Type 0) where
  is : (n b : ℕ) → P n → eqb b n ≡ true → P b
  is n b h e = subst P (sym (eqb-true b n e)) h

  pub override_cases : (b : ℕ) → is_override b ≡ true → P 0x26 → P 0x2E → P 0x36 → P 0x3E → P b
  override_cases b e p q r s =
      either (or-true (eqb b 0x26 || eqb b 0x2E || eqb b 0x36) (eqb b 0x3E) e)
      (λ e₁. either (or-true (eqb b 0x26 || eqb b 0x2E) (eqb b 0x36) e₁)
      (λ e₂. either (or-true (eqb b 0x26) (eqb b 0x2E) e₂) (is 0x26 b p) (is 0x2E b q))
      (is 0x36 b r))
      (is 0x3E b s)

  pub repeat_cases : (b : ℕ) → is_repeat b ≡ true → P 0xF2 → P 0xF3 → P b
  repeat_cases b e p q = either (or-true (eqb b 0xF2) (eqb b 0xF3) e) (is 0xF2 b p) (is 0xF3 b q)

pub override_no_repeat : (b : ℕ) → is_override b ≡ true → is_repeat b ≡ false
override_no_repeat b e = override_cases (λ (x : ℕ). is_repeat x ≡ false) b e refl refl refl refl

pub repeat_no_override : (b : ℕ) → is_repeat b ≡ true → is_override b ≡ false
repeat_no_override b e = repeat_cases (λ (x : ℕ). is_override x ≡ false) b e refl refl

-- each prefix is of one kind
pub kinds : (b : ℕ) → is_prefix b ≡ true → ((is_override b ≡ true) × (is_repeat b ≡ false)) ⊎ ((is_override b ≡ false) × (is_repeat b ≡ true))
kinds b e =
    either (or-true (is_override b) (is_repeat b) e)
    (λ h. inl (h, override_no_repeat b h))
    (λ h. inr (repeat_no_override b h, h))

-- the first of a kind is of the kind
abbrev pub Is : (ℕ → Bool) → Option ℕ → Type 0
Is kind None = Unit {0}
Is kind (Some b) = kind b ≡ true

pub first_is : (kind : ℕ → Bool) (l : List ℕ) → Is kind (first kind l)
first_is kind [] = tt
first_is kind (b ∷ l) = go (kind b) refl (first_is kind l)
  where
    go : (t : Bool) → kind b ≡ t → Is kind (first kind l) → Is kind (cond t (Some b) (first kind l))
    go true e h = e
    go false e h = h

abbrev pub listed : Option ℕ → List ℕ
listed None = []
listed (Some b) = b ∷ []

-- Of bytes each of which is of one of two kinds, the first of each kind remains.
module _ (f g : ℕ → Bool) where
  abbrev pub Each : List ℕ → Type 0
  Each [] = Unit {0}
  Each (b ∷ l) = (((f b ≡ true) × (g b ≡ false)) ⊎ ((f b ≡ false) × (g b ≡ true))) × Each l

  none_left : (l : List ℕ) → Each l → struck g (struck f l) ≡ []
  none_left [] h = refl
  none_left (b ∷ l) h = either h.0 (λ e. simp e.0 (none_left l h.1)) (λ e. simp (e.0, e.1) (none_left l h.1))

  one_left : (l : List ℕ) → Each l → first_only g (struck f l) ≡ listed (first g l)
  one_left [] h = refl
  one_left (b ∷ l) h =
      either h.0
      (λ e. simp (e.0, e.1) (one_left l h.1))
      (λ e. simp (e.0, e.1, none_left l h.1))

  other_left : (l : List ℕ) → Each l → struck g (first_only f l) ≡ listed (first f l)
  other_left [] h = refl
  other_left (b ∷ l) h =
      either h.0
      (λ e. simp (e.0, e.1, none_left l h.1))
      (λ e. simp (e.0, e.1) (other_left l h.1))

  pub firsts_left : (l : List ℕ) → Each l
      → (first_only g (first_only f l) ≡ listed (first f l) ++ listed (first g l)) ⊎ (first_only g (first_only f l) ≡ listed (first g l) ++ listed (first f l))
  firsts_left [] h = inl refl
  firsts_left (b ∷ l) h =
      either h.0
      (λ e. inl (simp (e.0, e.1, one_left l h.1)))
      (λ e. inr (simp (e.0, e.1, other_left l h.1)))

  -- the two firsts, in either order, are found again, and are of the two kinds
  abbrev pub Only : Option ℕ → Option ℕ → Type 0
  Only None None = Unit {0}
  Only None (Some b) = (f b ≡ false) × (g b ≡ true)
  Only (Some a) None = (f a ≡ true) × (g a ≡ false)
  Only (Some a) (Some b) = ((f a ≡ true) × (g a ≡ false)) × ((f b ≡ false) × (g b ≡ true))

  abbrev pub Kept : Option ℕ → Option ℕ → List ℕ → Type 0
  Kept o r l = (first f l ≡ o) × (first g l ≡ r) × Each l

  pub kept : (o r : Option ℕ) → Only o r → Kept o r (listed o ++ listed r)
  kept None None h = (refl, refl, tt)
  kept None (Some b) h = (simp h.0, simp h.1, (inr h, tt))
  kept (Some a) None h = (simp h.0, simp h.1, (inl h, tt))
  kept (Some a) (Some b) h = (simp h.0.0, simp (h.0.1, h.1.1), (inl h.0, (inr h.1, tt)))

  pub kept_turned : (o r : Option ℕ) → Only o r → Kept o r (listed r ++ listed o)
  kept_turned None None h = (refl, refl, tt)
  kept_turned None (Some b) h = (simp h.0, simp h.1, (inr h, tt))
  kept_turned (Some a) None h = (simp h.0, simp h.1, (inl h, tt))
  kept_turned (Some a) (Some b) h = (simp (h.1.0, h.0.0), simp h.1.1, (inr h.1, (inl h.0, tt)))

-- striking leaves no more than there was
length-struck : (kind : ℕ → Bool) (l : List ℕ) → length (struck kind l) ≤ length l
length-struck kind [] = omega arith
length-struck kind (b ∷ l) = go (kind b) (length-struck kind l)
  where
    go : (t : Bool) → length (struck kind l) ≤ length l → length (cond t (struck kind l) (b ∷ struck kind l)) ≤ suc (length l)
    go true h = omega arith
    go false h = omega arith

length-first : (kind : ℕ → Bool) (l : List ℕ) → length (first_only kind l) ≤ length l
length-first kind [] = omega arith
length-first kind (b ∷ l) = go (kind b) (length-first kind l)
  where
    go : (t : Bool) → length (first_only kind l) ≤ length l → suc (length (cond t (struck kind l) (first_only kind l))) ≤ suc (length l)
    go true h = omega (arith, length-struck kind l)
    go false h = omega arith

pub length-remains : (run : List ℕ) → length (remains run) ≤ length run
length-remains run = omega (arith, length-first is_override run, length-first is_repeat (first_only is_override run))

-- of a run of prefixes
pub each : (run : List ℕ) → AllPrefix run → Each is_override is_repeat run
each [] h = tt
each (b ∷ run) h = (kinds b h.0, each run h.1)

pub all : (run : List ℕ) → Each is_override is_repeat run → AllPrefix run
all [] h = tt
all (b ∷ run) h = (either h.0 (λ e. ap (λ (t : Bool). t || is_repeat b) e.0) (λ e. ap₂ (λ (t u : Bool). t || u) e.0 e.1), all run h.1)

pub only : (run : List ℕ) → Only is_override is_repeat (first is_override run) (first is_repeat run)
only run = go (first is_override run) (first is_repeat run) (first_is is_override run) (first_is is_repeat run)
  where
    go : (o r : Option ℕ) → Is is_override o → Is is_repeat r → Only is_override is_repeat o r
    go None None h k = tt
    go None (Some b) h k = (repeat_no_override b k, k)
    go (Some a) None h k = (h, override_no_repeat a h)
    go (Some a) (Some b) h k = ((h, override_no_repeat a h), (repeat_no_override b k, k))
