-- What the bytes behind the prefixes come to is what the second accounts say: operands, operation, distance, length, displacement bytes, refusal, and
-- whether an override is kept.
-- Assumes nothing.
use mathlib.Core.Path.{◌≡◌, refl, ap, sym, subst, ◌∙◌}
use mathlib.Core.Logic.{◌⊎◌, inl, inr, ⊎_elim}
use mathlib.Core.Bool.{Bool, true, false, cond, ◌&&◌}
use mathlib.Core.List.{List, [], ◌∷◌, ◌++◌}
use Prim.Native.Nat.{ℕ, suc, ◌≤◌, ◌<◌}
use native.Mathlib.Omega.{arith}
use borrow.Author.Tests.{lt-ltb, le-ltb}
use lib.Dec.{eqb, ltb}
use lib.ListN.{length, get_or, take, drop, take-append-drop}
use lib.Seq.{length-take-le}
use Rattle.std.specs.Prelude.{Some, None}
use Rattle.mrc_instruction.specs.declared.errors.Refusal.{Refusal}
use Rattle.mrc_instruction.specs.declared.reading.Reading.{Reading}
use Rattle.mrc_instruction.specs.Errors.{number_of, byte_of}
use Rattle.mrc_instruction.specs.Reader.{Outcome, got, stopped, taken_by, more, read_from}
use Rattle.mrc_instruction.proofs.Sequence.{taken_le}
use Rattle.mrc_rules.specs.Forms.{Tail, rest}
use Rattle.mrc_rules.specs.Table.{row_of}
use Rattle.mrc_rules.specs.Prefixes.{keeps}
use Rattle.mrc_rules.specs.Decode.{tail, rules}
use Rattle.mrc_rules.specs.Striking.{NoPrefix}
use Rattle.mrc_rules.specs.Operands.{nothing, places, byte_at, reg_at, operands_at, operands_of}
use Rattle.mrc_rules.specs.Operations.{name_at, operation_of}
use Rattle.mrc_rules.specs.Reaches.{reach_at, reach_of}
use Rattle.mrc_rules.specs.Lengths.{Extra, length_by, whole_length}
use Rattle.mrc_rules.specs.Written.{between, written_of}
use Rattle.mrc_rules.specs.Refusals.{Verdict, read, refused, by_opcode, verdict_of, taken_of, no_places, keeps_at}
use Rattle.mrc_rules.proofs.Along.{Holds, along}
use Rattle.mrc_rules.proofs.Accounts.{Account, account_of, Bar, free, shut, popped, segment, grouped, verdict_by, row_places, row_name, row_distance, row_extra, row_keeper, row_verdict_lem}
use Rattle.mrc_rules.proofs.Places.{is_none, bare_is, Waits, RefusedBy, ReadBy}
use Rattle.mrc_rules.proofs.Rows.{row_along}
use Rattle.mrc_rules.proofs.Counting.{tail_there}

-- the test of the row that the first byte has
abbrev row_verdict : Reading → List ℕ → Verdict
row_verdict x l = verdict_by (account_of x (row_of x (byte_at l 0))).bar l

-- an instruction, a refusal by its test, or too few bytes
pub record Reads (x : Reading) (l : List ℕ) (i : Tail) (n : ℕ) : Type 0 where
  pub operands : i.operands ≡ operands_of x (take n l)
  pub bare : no_places (get_or (places x) (byte_at l 0) nothing) ≡ is_none i.operands
  pub keeper : byte_at l 0 < 256 → keeps_at x (byte_at l 0) ≡ is_none i.operands && keeps x i.operation
  pub nothing_kept : i.kept ≡ None
  pub operation : operation_of l ≡ Some i.operation
  pub reach : reach_of l ≡ i.reach
  pub written : i.written ≡ written_of x (take n l)
  pub whole : whole_length x l ≡ n
  pub told : row_verdict x l ≡ read

pub record Refuses (x : Reading) (l : List ℕ) (e : Refusal) (n : ℕ) : Type 0 where
  pub whole : whole_length x l ≡ n
  pub told : row_verdict x l ≡ refused (number_of e) (byte_of e)

pub record Short (x : Reading) (l : List ℕ) (e : Refusal) (n : ℕ) : Type 0 where
  pub number : e ≡ Refusal.CouldNotReadExtraBytes
  pub all : n ≡ length l
  pub short : length l < whole_length x l

abbrev pub Comes : Reading → List ℕ → Outcome Tail → Type 0
Comes x l (got i n) = Reads x l i n
Comes x l (stopped e n) = Refuses x l e n ⊎ Short x l e n

pub tail_comes : (x : Reading) (opcode : ℕ) (l : List ℕ) → Comes x (opcode ∷ l) (tail (rules x) (opcode ∷ l))
tail_comes x opcode l =
    go (read_from (rest x opcode (row_of x opcode)) l) (taken_le (rest x opcode (row_of x opcode)) l)
    (along (Waits c) (RefusedBy c) (ReadBy x c) (opcode ∷ []) (rest x opcode (row_of x opcode)) l (row_along x opcode (row_of x opcode)))
  where
    c : Account
    c = account_of x (row_of x opcode)

    again : (n : ℕ) → (opcode ∷ take n l) ++ drop n l ≡ opcode ∷ l
    again n = ap (λ (x : List ℕ). opcode ∷ x) (take-append-drop n l)

    whole_is : (n : ℕ) → n ≤ length l → length_by c.extra ((opcode ∷ take n l) ++ drop n l) ≡ length (opcode ∷ take n l) → whole_length x (opcode ∷ l) ≡ suc n
    whole_is n h e =
        ap (λ (y : Extra). length_by y (opcode ∷ l)) (sym (row_extra x opcode))
        ∙ ap (length_by c.extra) (sym (again n)) ∙ e ∙ ap suc (length-take-le n l h)

    told_is : (v : Verdict) (n : ℕ) → verdict_by c.bar ((opcode ∷ take n l) ++ drop n l) ≡ v → verdict_by c.bar (opcode ∷ l) ≡ v
    told_is v n e = ap (verdict_by c.bar) (sym (again n)) ∙ e

    go : (o : Outcome Tail) → taken_by o ≤ length l → Holds (Waits c) (RefusedBy c) (ReadBy x c) (opcode ∷ []) l o → Comes x (opcode ∷ l) (more o)
    go (got i n) h r = record {
      operands = r.operands ∙ ap (operands_at x (opcode ∷ take n l)) (row_places x opcode);
      bare =
          bare_is x (get_or (places x) opcode nothing) (opcode ∷ take n l)
          ∙ ap is_none (sym (r.operands ∙ ap (operands_at x (opcode ∷ take n l)) (row_places x opcode)));
      keeper = λ b. sym (row_keeper x opcode b) ∙ sym r.keeper;
      nothing_kept = r.nothing_kept;
      operation =
          ap (name_at (opcode ∷ l)) (sym (row_name x opcode)) ∙ ap (λ (y : List ℕ). name_at y c.name) (sym (again n)) ∙ r.operation (drop n l);
      reach = ap (reach_at (opcode ∷ l)) (sym (row_distance x opcode)) ∙ ap (λ (y : List ℕ). reach_at y c.distance) (sym (again n)) ∙ r.reach (drop n l);
      written = r.written ∙ ap (λ (y : Extra). length (between y (opcode ∷ take n l))) (row_extra x opcode);
      whole = whole_is n h (r.whole (drop n l));
      told = told_is read n (r.told (drop n l));
    }
    go (stopped e n) h r =
        ⊎_elim
        (λ w. inl (record { whole = whole_is n h (w.whole (drop n l)); told = told_is (refused (number_of e) (byte_of e)) n (w.told (drop n l)) }))
        (λ w. inr (record {
          number = w.0;
          all = ap suc w.1;
          short = subst (λ (y : Extra). length (opcode ∷ l) < length_by y (opcode ∷ l)) (row_extra x opcode) w.2;
        }))
        r

-- a tail's refusal has a number below 9: those from 9 on are refusals of a decode
abbrev number_in : Verdict → ℕ
number_in read = 0
number_in (refused number byte) = number

either : (t : Bool) (x y : Verdict) → number_in x < 9 → number_in y < 9 → number_in (cond t x y) < 9
either true x y h k = h
either false x y h k = k

below_nine : (t : Bar) (l : List ℕ) → number_in (verdict_by t l) < 9
below_nine free l = omega arith
below_nine shut l = omega arith
below_nine popped l = either (eqb (reg_at l) 0) _ _ (omega arith) (omega arith)
below_nine segment l = either (ltb (reg_at l) 4) _ _ (omega arith) (omega arith)
below_nine grouped l = either (eqb (reg_at l) 1) _ _ (omega arith) (omega arith)

abbrev pub OfTail : Outcome Tail → Type 0
OfTail (got i n) = Unit {0}
OfTail (stopped e n) = number_of e < 9

pub tail_number : (x : Reading) (l : List ℕ) → OfTail (tail (rules x) l)
tail_number x [] = omega arith
tail_number x (opcode ∷ l) = go (tail (rules x) (opcode ∷ l)) (tail_comes x opcode l)
  where
    go : (o : Outcome Tail) → Comes x (opcode ∷ l) o → OfTail o
    go (got i n) h = tt
    go (stopped e n) h =
        ⊎_elim (λ w. rw (ap number_in w.told) at (below_nine (account_of x (row_of x opcode)).bar (opcode ∷ l))) (λ w. rw w.number (omega arith)) h

-- what the table of refusals says of a tail
abbrev pub verdict : Outcome Tail → Verdict
verdict (got i n) = read
verdict (stopped e n) = refused (number_of e) (byte_of e)

pub record Told (x : Reading) (l : List ℕ) (o : Outcome Tail) : Type 0 where
  pub verdict_is : verdict_of x l ≡ verdict o
  pub taken_is : taken_of x l ≡ taken_by o

enough : (x : Reading) (l : List ℕ) (opcode n : ℕ) → whole_length x (opcode ∷ l) ≡ n → n ≤ length (opcode ∷ l) → verdict_of x (opcode ∷ l) ≡ by_opcode (opcode ∷ l)
enough x l opcode n e h = rw (le-ltb (length (opcode ∷ l)) (whole_length x (opcode ∷ l)) (omega arith)) refl

pub tail_told : (x : Reading) (l : List ℕ) → NoPrefix l → byte_at l 0 < 256 → Told x l (tail (rules x) l)
tail_told x [] p b = record { verdict_is = refl; taken_is = omega arith }
tail_told x (opcode ∷ l) p b = go (tail (rules x) (opcode ∷ l)) (tail_there (rules x) (opcode ∷ l)) (tail_comes x opcode l)
  where
    go : (o : Outcome Tail) → taken_by o ≤ length (opcode ∷ l) → Comes x (opcode ∷ l) o → Told x (opcode ∷ l) o
    go (got i n) h r = record {
      verdict_is = enough x l opcode n r.whole h ∙ sym (row_verdict_lem x (opcode ∷ l) b p) ∙ r.told;
      taken_is = omega (arith, r.whole);
    }
    go (stopped e n) h r =
        ⊎_elim
        (λ w. record { verdict_is = enough x l opcode n w.whole h ∙ sym (row_verdict_lem x (opcode ∷ l) b p) ∙ w.told; taken_is = omega (arith, w.whole) })
        (λ w. record {
          verdict_is = rw (lt-ltb (length (opcode ∷ l)) (whole_length x (opcode ∷ l)) w.short) (ap (λ (y : Refusal). refused (number_of y) (byte_of y)) (sym w.number));
          taken_is = omega (arith, w.all, w.short);
        })
        r
