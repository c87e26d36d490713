-- No line is longer than `longest`: each text's length is computed case by case, and added up along the line.
-- Assumes nothing.
use Rattle.std.specs.Prelude.{Result, Ok, Err, Option, Some, None}
use Rattle.std.proofs.Common.{◌≡◌, ℕ, zero, suc, ◌-◌, ◌≤◌, List, [], ◌∷◌, ◌++◌, length, get_or, take, drop, replicate, refl, arith, lit≤, length-append, length-take}
use lib.ListN.{length-replicate}
use Rattle.mrc_instruction.specs.declared.instruction.Instruction.{Instruction}
use Rattle.mrc_instruction.specs.declared.errors.Refusal.{Refusal}
use Rattle.mrc_instruction.specs.declared.reading.Reading.{Reading}
use Rattle.mrc_instruction.specs.declared.reading.Reading.TheVariants.{One, Two}
use Rattle.mrc_instruction.specs.declared.register.RegisterEncoding.{RegisterEncoding}
use Rattle.mrc_instruction.specs.declared.register.RegisterEncoding.TheVariants.{AlAx, ClCx, DlDx, BlBx, AhSp, ChBp, DhSi, BhDi}
use Rattle.mrc_instruction.specs.declared.register.Segment.{Segment}
use Rattle.mrc_instruction.specs.declared.register.Segment.TheVariants.{ES, CS, SS, DS}
use Rattle.mrc_instruction.specs.declared.operand.OperandSize.{OperandSize}
use Rattle.mrc_instruction.specs.declared.operand.OperandSize.TheVariants.{Byte, Word}
use Rattle.mrc_instruction.specs.declared.operand.AddressingMode.{AddressingMode}
use Rattle.mrc_instruction.specs.declared.operand.AddressingMode.TheVariants.{BxSi, BxDi, BpSi, BpDi, Si, Di, Bp, Bx}
use Rattle.mrc_instruction.specs.declared.operand.Displacement.{Displacement}
use Rattle.mrc_instruction.specs.declared.operand.Immediate.{Immediate}
use Rattle.mrc_instruction.specs.declared.operand.Operand.{Operand}
use Rattle.mrc_instruction.specs.declared.instruction.OperandSet.{OperandSet}
use Rattle.mrc_instruction.specs.declared.instruction.Repeat.{Repeat}
use Rattle.mrc_instruction.specs.declared.instruction.Reach.{Reach}
use Rattle.mrc_instruction.specs.declared.operation.Operation.{Operation}
use Rattle.mrc_names.specs.Names.{name_of}
use Rattle.mrc_names.proofs.Tiles.{six_at_most}
use Rattle.mrc_rules.specs.declared.Answer.{Answer}
use Rattle.mrc_rules.specs.Decode.{decode_at}
use Rattle.mrc_line.specs.Text.{bytes, hex4, pairs, padded, shown, field_width}
use Rattle.mrc_line.specs.declared.printed.Printed.{Printed}
use Rattle.mrc_line.specs.Printed.{alone, beside}
use Rattle.mrc_line.specs.Operands.{register_text, segment_text, mode_text, size_text, zeros_text, offset_text, immediate_text, memory_text, printed_text, operand_text, operands_text}
use Rattle.mrc_line.specs.Line.{head_text, repeat_text, kept_text, reach_text, instruction_text, result_text, body_text, step_taken, step_text, line_text, longest, budget}
use Rattle.mrc_line.proofs.Put.{pairs_length}

register : (r : RegisterEncoding) (size : OperandSize) → length (register_text r size) ≡ 2
register AlAx Byte = refl
register ClCx Byte = refl
register DlDx Byte = refl
register BlBx Byte = refl
register AhSp Byte = refl
register ChBp Byte = refl
register DhSi Byte = refl
register BhDi Byte = refl
register AlAx Word = refl
register ClCx Word = refl
register DlDx Word = refl
register BlBx Word = refl
register AhSp Word = refl
register ChBp Word = refl
register DhSi Word = refl
register BhDi Word = refl

segment : (s : Segment) → length (segment_text s) ≡ 2
segment ES = refl
segment CS = refl
segment SS = refl
segment DS = refl

mode : (m : AddressingMode) → length (mode_text m) ≤ 5
mode BxSi = lit≤ tt
mode BxDi = lit≤ tt
mode BpSi = lit≤ tt
mode BpDi = lit≤ tt
mode Si = lit≤ tt
mode Di = lit≤ tt
mode Bp = lit≤ tt
mode Bx = lit≤ tt

size : (z : OperandSize) → length (size_text z) ≡ 5
size Byte = refl
size Word = refl

zeros : (x : Reading) (written : ℕ) → length (zeros_text x written) ≤ 5
zeros One written = lit≤ tt
zeros Two zero = lit≤ tt
zeros Two (suc zero) = lit≤ tt
zeros Two (suc (suc zero)) = lit≤ tt
zeros Two (suc (suc (suc written))) = lit≤ tt

offset : (x : Reading) (written : ℕ) (d : Displacement) → length (offset_text x written d) ≤ 5
offset x written Displacement.None = zeros x written
offset x written (Displacement.Byte d) = lit≤ tt
offset x written (Displacement.Word d) = lit≤ tt

immediate : (i : Immediate) → length (immediate_text i) ≤ 4
immediate (Immediate.Byte b) = lit≤ tt
immediate (Immediate.Word w) = lit≤ tt

memory : (z : OperandSize) (s : Segment) (address : List ℕ) → length address ≤ 10 → length (memory_text z s address) ≤ 20
memory z s address h =
    omega (arith, size z, segment s, length-append (size_text z) (segment_text s ++ (bytes ":[" ++ (address ++ bytes "]"))), length-append (segment_text s) (bytes ":[" ++ (address ++ bytes "]")), length-append address (bytes "]"))

printed : (p : Printed) → length (printed_text p) ≤ 5
printed (Printed.Word w) = lit≤ tt
printed (Printed.Signed Displacement.None) = lit≤ tt
printed (Printed.Signed (Displacement.Byte d)) = lit≤ tt
printed (Printed.Signed (Displacement.Word d)) = lit≤ tt

module _ (x : Reading) (written : ℕ) where
  operand : (f : Displacement → Printed) (o : Operand) → length (operand_text x written f o) ≤ 20
  operand f (Operand.Direct s z at) = memory z s (hex4 at) (lit≤ tt)
  operand f (Operand.Indirect s z m d) =
      let t = offset_text x written d in
      memory z s (mode_text m ++ t) (omega (arith, mode m, offset x written d, length-append (mode_text m) t))
  operand f (Operand.Register r) = omega (arith, register r.0 r.1)
  operand f (Operand.Segment s) = omega (arith, segment s)
  operand f (Operand.Immediate i) = omega (arith, immediate i)
  operand f (Operand.Displacement d) = omega (arith, printed (f d))
  operand f (Operand.SegmentAndOffset a) = lit≤ tt

  operands : (operation : Operation) (start taken : ℕ) (o : OperandSet) → length (operands_text x written operation start taken o) ≤ 43
  operands operation start taken OperandSet.None = lit≤ tt
  operands operation start taken (OperandSet.Destination d) = omega (arith, operand (alone operation start taken) d)
  operands operation start taken (OperandSet.DestinationAndSource d s) =
      let t = operand_text x written beside in
      omega (arith, operand beside d, operand beside s, length-append (t d) (bytes ", " ++ t s))

head : (start : ℕ) (taken : List ℕ) → length (head_text start taken) ≡ 29
unfolding head_text
head start taken =
    let p = pairs (take shown taken) in
    omega (arith, pairs_length (take shown taken), length-take shown taken, length-append p (replicate (field_width - length p) 32), length-replicate {A = ℕ} (field_width - length p) 32, length-append (padded field_width p) (bytes "  "))

repeated : (r : Option Repeat) → length (repeat_text r) ≤ 6
repeated None = lit≤ tt
repeated (Some Repeat.Equal) = lit≤ tt
repeated (Some Repeat.NotEqual) = lit≤ tt

kept : (k : Option Segment) → length (kept_text k) ≤ 4
kept None = lit≤ tt
kept (Some s) = omega (arith, segment s, length-append (segment_text s) (bytes ": "))

reach : (r : Reach) → length (reach_text r) ≤ 4
reach Reach.Neither = lit≤ tt
reach Reach.Near = lit≤ tt
reach Reach.Far = lit≤ tt

result : (x : Reading) (start n b : ℕ) (r : Result Instruction Refusal) → length (result_text x start n b r) ≤ 63
unfolding instruction_text
result x start n b (Ok i) =
    let o = operands_text x i.written i.operation start n i.operands in
    let f = reach_text i.reach in
    let m = name_of i.operation in
    let k = kept_text i.kept in
    omega (arith, repeated i.repeat, kept i.kept, six_at_most i.operation, reach i.reach, operands x i.written i.operation start n i.operands, length-append (repeat_text i.repeat) (k ++ (m ++ (f ++ o))), length-append k (m ++ (f ++ o)), length-append m (f ++ o), length-append f o)
result x start n b (Err e) = lit≤ tt

body : (x : Reading) (start b : ℕ) (a : Answer) → length (body_text x start b a) ≤ 63
body x start b a = result x start a.taken b a.result

step : (x : Reading) (s : List ℕ) (at : ℕ) (a : Answer) → length (step_text x s at a) ≤ longest
unfolding step_text
step x s at a =
    let t = take (step_taken a) (drop at s) in
    let b = body_text x at (get_or s at 0) a in
    omega (arith, head at t, body x at (get_or s at 0) a, length-append (head_text at t) (b ++ (10 ∷ [])), length-append b (10 ∷ []))

pub line_longest : (x : Reading) (s : List ℕ) (at : ℕ) → length (line_text x s at) ≤ longest
unfolding line_text
line_longest x s at = step x s at (decode_at x s at budget)
