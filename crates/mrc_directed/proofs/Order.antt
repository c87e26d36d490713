-- Two rows that differ only in the order of their operands: where each way through the one is the other's with the operands exchanged, so is
-- all that is read.
-- Assumes nothing.
use Prim.Native.Nat.{ℕ}
use mathlib.Core.Path.{◌≡◌, refl, sym, ap, ◌∙◌}
use mathlib.Core.Bool.{Bool, true, false, cond}
use mathlib.Core.List.{List, [], ◌∷◌}
use lib.Dec.{ltb}
use Rattle.mrc_instruction.specs.declared.errors.Refusal.{Refusal}
use Rattle.mrc_instruction.specs.declared.reading.Reading.{Reading}
use Rattle.mrc_instruction.specs.declared.operand.Operand.{Operand}
use Rattle.mrc_instruction.specs.declared.operand.OperandSize.{OperandSize}
use Rattle.mrc_instruction.specs.Reader.{Reader, done, refuse, next, Outcome, got, stopped, more, read_from, ◌>>=◌}
use Rattle.mrc_instruction.specs.Instruction.{wrote}
use Rattle.mrc_instruction.specs.Mrrm.{reg_field, a_modrm, written_in}
use Rattle.mrc_instruction.proofs.Sequence.{through, then}
use Rattle.mrc_rules.specs.Forms.{Tail, ModRMForm, ◌⦂◌, rm_segment, segment_rm, with_modrm, behind, rest, rm}
use Rattle.mrc_directed.specs.Order.{exchanged, exchanged_in}

more_exchanged : (o : Outcome Tail) → more (exchanged_in o) ≡ exchanged_in (more o)
more_exchanged (got i n) = refl
more_exchanged (stopped e n) = refl

pub mirrored : {A : Type 0} (m : Reader A) (f g : A → Reader Tail) → ((a : A) (l : List ℕ) → read_from (g a) l ≡ exchanged_in (read_from (f a) l))
    → (l : List ℕ) → read_from (m >>= g) l ≡ exchanged_in (read_from (m >>= f) l)
mirrored (done a) f g h l = h a l
mirrored (refuse e) f g h l = refl
mirrored (next k) f g h [] = refl
mirrored (next k) f g h (b ∷ l) = ap more (mirrored (k b) f g h l) ∙ more_exchanged (read_from (k b >>= f) l)

-- the displacement bytes written are no operand
wrote_exchanged : (written : ℕ) (o : Outcome Tail)
    → through (λ i n. got (wrote written i) 0) (exchanged_in o) ≡ exchanged_in (through (λ i n. got (wrote written i) 0) o)
wrote_exchanged written (got i n) = refl
wrote_exchanged written (stopped e n) = refl

mirrored_wrote : (written : ℕ) (f g : Reader Tail) (l : List ℕ) → read_from g l ≡ exchanged_in (read_from f l)
    → read_from (g >>= λ i. done (wrote written i)) l ≡ exchanged_in (read_from (f >>= λ i. done (wrote written i)) l)
mirrored_wrote written f g l h =
    then g (λ i. done (wrote written i)) l
    ∙ ap (through (λ i n. got (wrote written i) 0)) h
    ∙ wrote_exchanged written (read_from f l)
    ∙ ap exchanged_in (sym (then f (λ i. done (wrote written i)) l))

-- the same of two forms with a ModRM, by what is read behind it
pub mirrored_behind : (x : Reading) (f g : ModRMForm) (size : OperandSize)
    → ((operand : Operand) (byte : ℕ) (l : List ℕ) → read_from (behind x g size operand byte) l ≡ exchanged_in (read_from (behind x f size operand byte) l))
    → (opcode : ℕ) (l : List ℕ) → read_from (rest x opcode (g ⦂ size)) l ≡ exchanged_in (read_from (rest x opcode (f ⦂ size)) l)
unfolding with_modrm
mirrored_behind x f g size h opcode = mirrored a_modrm _ _ (λ m l. mirrored_wrote (written_in m) (behind x f size (rm x m size) m.byte) (behind x g size (rm x m size) m.byte) l (h (rm x m size) m.byte l))

-- 8E and 8C: both refuse, or neither
tested : (t : Bool) (i : Tail) (e : Refusal) (l : List ℕ)
    → read_from (cond t (done (exchanged i)) (refuse e)) l ≡ exchanged_in (read_from (cond t (done i) (refuse e)) l)
tested true i e l = refl
tested false i e l = refl

pub segment_mirrored : (x : Reading) (size : OperandSize) (operand : Operand) (byte : ℕ) (l : List ℕ)
    → read_from (behind x segment_rm size operand byte) l ≡ exchanged_in (read_from (behind x rm_segment size operand byte) l)
segment_mirrored x size operand byte = tested (ltb (reg_field byte) 4) _ (Refusal.InvalidSegmentEncoding (reg_field byte))
