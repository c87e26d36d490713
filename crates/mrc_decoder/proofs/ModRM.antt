-- Forms with a ModRM: the ModRM is read, and then what the form reads behind it, by the operand and the byte. The answer has the displacement bytes
-- that the ModRM was written with.
-- Assumes nothing.
use mathlib.Core.Path.{◌≡◌, refl, sym, ◌∙◌, ap, ap₂}
use mathlib.Core.List.{List}
use Prim.Native.Nat.{ℕ, ◌+◌}
use native.Mathlib.Nat.{add-zero}
use native.Mathlib.Omega.{arith}
use lib.ListN.{drop}
use Rattle.std.specs.Prelude.{Ok, Err}
use Rattle.mrc_instruction.specs.declared.reading.Reading.{Reading}
use Rattle.mrc_instruction.specs.declared.operand.OperandSize.{OperandSize}
use Rattle.mrc_instruction.specs.declared.mrrm.NamedOperand.{NamedOperand}
use Rattle.mrc_instruction.specs.declared.instruction.Instruction.{Instruction}
use Rattle.mrc_instruction.specs.declared.read.Taken.{Taken}
use Rattle.mrc_instruction.specs.declared.read.Stop.{Stop}
use Rattle.mrc_instruction.specs.Instruction.{wrote}
use Rattle.mrc_instruction.specs.Reader.{Reader, done, ◌>>=◌, Outcome, got, stopped, after, read_from}
use Rattle.mrc_instruction.specs.Mrrm.{ModRM, a_modrm, written_in}
use Rattle.mrc_instruction.specs.Read.{Read, taking, stopping, named_by, operand_read}
use Rattle.mrc_instruction.proofs.Sequence.{through, then, then_at, stop_at}
use Rattle.mrc_rules.specs.Forms.{Tail, ModRMForm, with_modrm, behind, rm}
use Rattle.mrc_forms.specs.Answers.{form_read, wrote_answer}

-- n bytes more before the position
form_after : (at n : ℕ) (o : Outcome Tail) → form_read (at + n) o ≡ form_read at (after n o)
form_after at n (got i k) =
    let count : at + n + k ≡ at + (n + k) = omega arith in
    rw count
form_after at n (stopped e k) =
    let count : at + n + k ≡ at + (n + k) = omega arith in
    rw count

-- the displacement bytes written, of an answer and of its outcome
answer_wrote : (written at : ℕ) (o : Outcome Tail) → wrote_answer written (form_read at o) ≡ form_read at (through (λ i n. got (wrote written i) 0) o)
answer_wrote written at (got i n) = rw (add-zero n)
answer_wrote written at (stopped e n) = refl

-- the ModRM at a position is read, and then what its form reads behind it; or it is not
module _ (x : Reading) (form : ModRMForm) (size : OperandSize) (s : List ℕ) (at : ℕ) where
  -- what follows a ModRM
  abbrev reader : ModRM → Reader Tail
  reader m = behind x form size (rm x m size) m.byte

  abbrev written_by_lem : ModRM → Reader Tail
  written_by_lem m = reader m >>= λ i. done (wrote (written_in m) i)

  pub then_behind : {t : Taken NamedOperand} {r : Read Instruction} → Ok t ≡ operand_read x size at (read_from a_modrm (drop at s))
      → r ≡ form_read t.taken (read_from (behind x form size t.value.operand t.value.byte) (drop t.taken s))
      → wrote_answer t.value.written r ≡ form_read at (read_from (with_modrm x size (behind x form size)) (drop at s))
  unfolding with_modrm
  then_behind {t} {r} = go (read_from a_modrm (drop at s)) refl
    where
      go : (o : Outcome ModRM) → o ≡ read_from a_modrm (drop at s) → Ok t ≡ operand_read x size at o
          → r ≡ form_read t.taken (read_from (behind x form size t.value.operand t.value.byte) (drop t.taken s))
          → wrote_answer t.value.written r ≡ form_read at (read_from (with_modrm x size (behind x form size)) (drop at s))
      go (got m n) q e f =
          let its : t ≡ taking (named_by x size m) (at + n) = cc in
          ap₂ wrote_answer (ap (λ (u : Taken NamedOperand). u.value.written) its) (rw its at f)
          ∙ answer_wrote (written_in m) (at + n) (read_from (reader m) (drop (at + n) s))
          ∙ ap (form_read (at + n)) (sym (then (reader m) (λ i. done (wrote (written_in m) i)) (drop (at + n) s)))
          ∙ form_after at n (read_from (written_by_lem m) (drop (at + n) s))
          ∙ ap (form_read at) (then_at a_modrm written_by_lem s at q refl)
      go (stopped y n) q e f = cc

  pub stops_before : {e : Stop} → Err e ≡ operand_read x size at (read_from a_modrm (drop at s))
      → Err e ≡ form_read at (read_from (with_modrm x size (behind x form size)) (drop at s))
  unfolding with_modrm
  stops_before {e} = go (read_from a_modrm (drop at s)) refl
    where
      go : (o : Outcome ModRM) → o ≡ read_from a_modrm (drop at s) → Err e ≡ operand_read x size at o
          → Err e ≡ form_read at (read_from (with_modrm x size (behind x form size)) (drop at s))
      go (got m n) q h = cc
      go (stopped y n) q h =
          let its : e ≡ stopping y (at + n) = cc in
          ap Err its ∙ ap (form_read at) (stop_at a_modrm written_by_lem s at q)
