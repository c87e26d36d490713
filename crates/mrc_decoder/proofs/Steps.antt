-- The decode of a whole run of prefixes, one prefix at a time: a prefix before the rest wraps the answer that the rest has with the budget
-- one lower. So the definition, which names the first override and the first repeat of the run, is met by a decoder that calls itself.
-- Assumes nothing.
use mathlib.Core.Path.{◌≡◌, refl, sym, ◌∙◌, ap, ap₂}
use mathlib.Core.Bool.{Bool, true, false, cond, ◌||◌}
use mathlib.Core.List.{List, [], ◌∷◌}
use Prim.Native.Nat.{ℕ, suc, ◌+◌}
use native.Mathlib.Nat.{zero-add}
use native.Mathlib.Omega.{arith}
use lib.ListN.{length, get_or}
use lib.Dec.{leb, leb-suc-suc, leb-zero}
use Rattle.std.specs.Prelude.{Result, Err, Option, Some, None}
use Rattle.mrc_instruction.specs.declared.instruction.Repeat.{Repeat}
use Rattle.mrc_instruction.specs.declared.instruction.Instruction.{Instruction}
use Rattle.mrc_instruction.specs.declared.errors.Refusal.{Refusal}
use Rattle.mrc_instruction.specs.Reader.{Outcome, got, stopped, taken_by}
use Rattle.mrc_rules.specs.Forms.{Tail}
use Rattle.mrc_rules.specs.Prefixes.{is_override, is_repeat, is_prefix, run_of, tail_of, first, repeat_of, made}
use Rattle.mrc_rules.specs.Answer.{answer, refuses}
use Rattle.mrc_rules.specs.Decode.{Rules, tail, result_of, together, decode_by}
use Rattle.mrc_decoder.specs.Decode.{alone}
use Rattle.mrc_decoder.specs.Prefixes.{refusal_under, result_under, result_repeated, wrapped, under_override_by, with_repeat}
use Rattle.mrc_rules.proofs.Striking.{override_no_repeat, repeat_no_override}

-- a refusal that an override turns into its own: every one but TooManyPrefixes
abbrev pub Turned : Refusal → Type 0
Turned e = (o : ℕ) → refusal_under o e ≡ Refusal.InvalidPrefix o

-- what a tail came to is such, or it stopped with such a refusal
abbrev pub Stops : (Tail → Type 0) → Outcome Tail → Type 0
Stops P (got i n) = P i
Stops P (stopped e n) = Turned e

-- What a decoder that wraps asks of a set of rules.
pub record Wraps (R : Rules) : Type 1 where
  -- the tails that are read by these rules
  pub Of : Tail → Type 0
  -- no tail is refused with TooManyPrefixes
  pub stops : (l : List ℕ) → Stops Of (tail R l)
  -- what the decoder makes of an inner answer's instruction under an override
  pub over : ℕ → Instruction → Result Instruction Refusal
  -- the innermost override: of an instruction with no override before it, whatever its repeat
  pub fresh : (o : ℕ) (r : Option Repeat) (i : Tail) → Of i → over o (made i r i.operands) ≡ R.override o r i
  -- an earlier override wins over a later one, for the segment and for the refusal
  pub again : (o later : ℕ) (r : Option Repeat) (i : Tail) → Of i → result_under over o (R.override later r i) ≡ R.override o r i
  -- a repeat before an override is that of the whole
  pub repeated : (r later : Option Repeat) (o : ℕ) (i : Tail) → Of i → result_repeated r (R.override o later i) ≡ R.override o r i

wrapped_answer : (f : Result Instruction Refusal → Result Instruction Refusal) (x : Result Instruction Refusal) (n p : ℕ) → wrapped f (answer x n p) ≡ answer (f x) (n + 1) (p + 1)
wrapped_answer f x n p = refl

-- a byte of each kind is a prefix
pub override_prefix : (o : ℕ) → is_override o ≡ true → is_prefix o ≡ true
override_prefix o e = ap (λ (t : Bool). t || is_repeat o) e

pub repeat_prefix : (r : ℕ) → is_repeat r ≡ true → is_prefix r ≡ true
repeat_prefix r e = ap₂ (λ (t u : Bool). t || u) (repeat_no_override r e) e

-- no prefix at the front: the tail's own answer
module _ (R : Rules) where
  alone_is : (t : Outcome Tail) → answer (result_of R None None t) (taken_by t) 0 ≡ alone t
  alone_is (got i n) = refl
  alone_is (stopped e n) = refl

  pub step_tail : (b op : ℕ) (l : List ℕ) → is_prefix op ≡ false → decode_by R b (op ∷ l) ≡ alone (tail R (op ∷ l))
  step_tail b op l e = simp (e, leb-zero b, zero-add) (alone_is (tail R (op ∷ l)))

module _ (R : Rules) (W : Wraps R) where
  -- one more override before a run, one more repeat
  result_override : (o : ℕ) (first-o first_r : Option ℕ) (t : Outcome Tail) → Stops W.Of t
      → result_of R (Some o) first_r t ≡ result_under W.over o (result_of R first-o first_r t)
  result_override o None r (got i n) h = sym (W.fresh o (repeat_of r) i h)
  result_override o None r (stopped e n) h = ap Err (sym (h o))
  result_override o (Some p) r (got i n) h = sym (W.again o p (repeat_of r) i h)
  result_override o (Some p) r (stopped e n) h = refl

  result_repeat : (b : ℕ) (first-o first_r : Option ℕ) (t : Outcome Tail) → Stops W.Of t
      → result_of R first-o (Some b) t ≡ result_repeated (repeat_of (Some b)) (result_of R first-o first_r t)
  result_repeat b None r (got i n) h = refl
  result_repeat b None r (stopped e n) h = refl
  result_repeat b (Some p) r (got i n) h = sym (W.repeated (repeat_of (Some b)) (repeat_of r) p i h)
  result_repeat b (Some p) r (stopped e n) h = refl

  -- one more prefix before a run, which f is: within the budget, and over it
  one_more : (f : Result Instruction Refusal → Result Instruction Refusal) (b op : ℕ) (l : List ℕ) → is_prefix op ≡ true
      → ((c : ℕ) → f (Err (Refusal.TooManyPrefixes c)) ≡ Err (Refusal.TooManyPrefixes c))
      → result_of R (first is_override (op ∷ run_of l)) (first is_repeat (op ∷ run_of l)) (tail R (tail_of l))
      ≡ f (result_of R (first is_override (run_of l)) (first is_repeat (run_of l)) (tail R (tail_of l)))
      → decode_by R (suc b) (op ∷ l) ≡ wrapped f (decode_by R b l)
  one_more f b op l e passes same =
      ap₂ (λ (run rest : List ℕ). cond (leb (length run) (suc b)) (together R run (tail R rest)) (refuses (Refusal.TooManyPrefixes (get_or run (suc b) 0)) (suc b + 1) (suc b + 1)))
      (ap (λ (t : Bool). cond t (op ∷ run_of l) []) e)
      (ap (λ (t : Bool). cond t (tail_of l) (op ∷ l)) e)
      ∙ rw (leb-suc-suc (length (run_of l)) b) (go (leb (length (run_of l)) b))
    where
      go : (c : Bool)
          → cond c (together R (op ∷ run_of l) (tail R (tail_of l))) (refuses (Refusal.TooManyPrefixes (get_or (run_of l) b 0)) (suc b + 1) (suc b + 1))
          ≡ wrapped f (cond c (together R (run_of l) (tail R (tail_of l))) (refuses (Refusal.TooManyPrefixes (get_or (run_of l) b 0)) (b + 1) (b + 1)))
      go true =
          let count : suc (length (run_of l)) + taken_by (tail R (tail_of l)) ≡ length (run_of l) + taken_by (tail R (tail_of l)) + 1 = omega arith in
          let prefix : suc (length (run_of l)) ≡ length (run_of l) + 1 = omega arith in
          ap (λ (x : Result Instruction Refusal). answer x (suc (length (run_of l)) + taken_by (tail R (tail_of l))) (suc (length (run_of l)))) same
          ∙ ap₂ (answer (f (result_of R (first is_override (run_of l)) (first is_repeat (run_of l)) (tail R (tail_of l))))) count prefix
          ∙ sym
          (wrapped_answer f (result_of R (first is_override (run_of l)) (first is_repeat (run_of l)) (tail R (tail_of l))) (length (run_of l) + taken_by (tail R (tail_of l))) (length (run_of l)))
      go false =
          let count : suc b + 1 ≡ b + 1 + 1 = omega arith in
          ap₂ (answer (Err (Refusal.TooManyPrefixes (get_or (run_of l) b 0)))) count count
          ∙ ap (λ (x : Result Instruction Refusal). answer x (b + 1 + 1) (b + 1 + 1)) (sym (passes (get_or (run_of l) b 0)))

  pub step_override : (b o : ℕ) (l : List ℕ) → is_override o ≡ true → decode_by R (suc b) (o ∷ l) ≡ under_override_by W.over o (decode_by R b l)
  step_override b o l e =
      one_more (result_under W.over o) b o l (override_prefix o e) (λ c. refl)
      (ap₂ (λ (x y : Bool). result_of R (cond x (Some o) (first is_override (run_of l))) (cond y (Some o) (first is_repeat (run_of l))) (tail R (tail_of l))) e (override_no_repeat o e)
      ∙ result_override o (first is_override (run_of l)) (first is_repeat (run_of l)) (tail R (tail_of l)) (W.stops (tail_of l)))

  pub step_repeat : (b r : ℕ) (l : List ℕ) → is_repeat r ≡ true → decode_by R (suc b) (r ∷ l) ≡ with_repeat (repeat_of (Some r)) (decode_by R b l)
  step_repeat b r l e =
      one_more (result_repeated (repeat_of (Some r))) b r l (repeat_prefix r e) (λ c. refl)
      (ap₂ (λ (x y : Bool). result_of R (cond x (Some r) (first is_override (run_of l))) (cond y (Some r) (first is_repeat (run_of l))) (tail R (tail_of l))) (repeat_no_override r e) e
      ∙ result_repeat r (first is_override (run_of l)) (first is_repeat (run_of l)) (tail R (tail_of l)) (W.stops (tail_of l)))
