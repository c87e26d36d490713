-- A row with how far it goes reads what the row reads: so its answer is the row's, the reach set behind it. A row that makes a plain instruction
-- is the same with neither.
-- Assumes nothing.
use Prim.Native.Nat.{ℕ}
use mathlib.Core.Path.{◌≡◌, refl, ap, sym, ◌∙◌}
use mathlib.Core.List.{List, [], ◌∷◌}
use Rattle.mrc_instruction.specs.declared.reading.Reading.{Reading}
use Rattle.mrc_instruction.specs.declared.operand.OperandSize.{OperandSize}
use Rattle.mrc_instruction.specs.declared.instruction.OperandSet.{OperandSet}
use Rattle.mrc_instruction.specs.declared.instruction.Reach.{Reach}
use Rattle.mrc_instruction.specs.declared.instruction.Reach.TheVariants.{Neither, Near, Far}
use Rattle.mrc_instruction.specs.declared.operation.Operation.{Operation}
use Rattle.mrc_instruction.specs.Instruction.{plain, reached}
use Rattle.mrc_instruction.specs.Reader.{Reader, done, refuse, next, ◌>>=◌, Outcome, got, stopped, more, read_from}
use Rattle.mrc_rules.specs.Forms.{Tail, Row, rest, reaching, on_immediate, on_displacement, an_immediate, a_displacement}
use Rattle.mrc_forms.specs.Answers.{form_read, read_in, reached_answer}
use Rattle.mrc_decoder.specs.Form.{with_reach}

-- what is got, with how far it goes
abbrev reached_in : Reach → Outcome Tail → Outcome Tail
reached_in reach (got i n) = got (reached reach i) n
reached_in reach (stopped e n) = stopped e n

more_reached : (reach : Reach) (o : Outcome Tail) → more (reached_in reach o) ≡ reached_in reach (more o)
more_reached reach (got i n) = refl
more_reached reach (stopped e n) = refl

answer_reached : (reach : Reach) (at : ℕ) (o : Outcome Tail) → reached_answer reach (form_read at o) ≡ form_read at (reached_in reach o)
answer_reached reach at (got i n) = refl
answer_reached reach at (stopped e n) = refl

read_reached : (reach : Reach) (m : Reader Tail) (l : List ℕ) → read_from (m >>= λ i. done (reached reach i)) l ≡ reached_in reach (read_from m l)
read_reached reach (done i) l = refl
read_reached reach (refuse e) l = refl
read_reached reach (next k) [] = refl
read_reached reach (next k) (b ∷ l) = ap more (read_reached reach (k b) l) ∙ more_reached reach (read_from (k b) l)

pub row_reached : (x : Reading) (reach : Reach) (opcode : ℕ) (row : Row) (at : ℕ) (l : List ℕ)
    → reached_answer reach (read_in x opcode row at l) ≡ read_in x opcode (reaching reach row) at l
row_reached x reach opcode row at l =
    answer_reached reach at (read_from (rest x opcode row) l) ∙ ap (form_read at) (sym (read_reached reach (rest x opcode row) l))

-- a plain instruction is neither near nor far
plain_reached : {A : Type 0} (m : Reader A) (op : Operation) (f : A → OperandSet) (l : List ℕ)
    → reached_in Neither (read_from (m >>= λ a. done (plain op (f a))) l) ≡ read_from (m >>= λ a. done (plain op (f a))) l
plain_reached (done a) op f l = refl
plain_reached (refuse e) op f l = refl
plain_reached (next k) op f [] = refl
plain_reached (next k) op f (b ∷ l) =
    sym (more_reached Neither (read_from (k b >>= λ a. done (plain op (f a))) l)) ∙ ap more (plain_reached (k b) op f l)

-- by the reach of a row, where the row itself has none
by_reach : (x : Reading) (opcode : ℕ) (row : Row) (at : ℕ) (l : List ℕ) → reached_in Neither (read_from (rest x opcode row) l) ≡ read_from (rest x opcode row) l
    → (reach : Reach) → reached_answer reach (read_in x opcode row at l) ≡ read_in x opcode (with_reach reach row) at l
by_reach x opcode row at l h Neither = answer_reached Neither at (read_from (rest x opcode row) l) ∙ ap (form_read at) h
by_reach x opcode row at l h Near = row_reached x Near opcode row at l
by_reach x opcode row at l h Far = row_reached x Far opcode row at l

module _ (x : Reading) (op : Operation) (size : OperandSize) (opcode at : ℕ) (l : List ℕ) where
  pub immediate_reached : (reach : Reach)
      → reached_answer reach (read_in x opcode (on_immediate op size) at l) ≡ read_in x opcode (with_reach reach (on_immediate op size)) at l
  immediate_reached = by_reach x opcode (on_immediate op size) at l (plain_reached (an_immediate size) op _ l)

  pub displacement_reached : (reach : Reach)
      → reached_answer reach (read_in x opcode (on_displacement op size) at l) ≡ read_in x opcode (with_reach reach (on_displacement op size)) at l
  displacement_reached = by_reach x opcode (on_displacement op size) at l (plain_reached (a_displacement size) op _ l)
