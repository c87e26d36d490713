-- Section 5: the forms, and how the bytes after an opcode are read in each. A row of the opcode table is a form with its operation, size, register
-- or segment. In a name the destination stands before the source: `rm_reg` has the operand of mod and rm first.
use Rattle.std.specs.Prelude.{ℕ, zero, suc, ◌+◌, cond, [], ◌∷◌, get_or, ltb, eqb}
use Rattle.mrc_instruction.specs.declared.errors.Refusal.{Refusal}
use Rattle.mrc_instruction.specs.declared.reading.Reading.{Reading}
use Rattle.mrc_instruction.specs.declared.reading.Reading.TheVariants.{One, Two}
use Rattle.mrc_instruction.specs.declared.register.RegisterEncoding.{RegisterEncoding}
use Rattle.mrc_instruction.specs.declared.register.Segment.{Segment}
use Rattle.mrc_instruction.specs.declared.operand.OperandSize.{OperandSize}
use Rattle.mrc_instruction.specs.declared.operand.OperandSize.TheVariants.{Byte, Word}
use Rattle.mrc_instruction.specs.declared.operand.Displacement.{Displacement}
use Rattle.mrc_instruction.specs.declared.operand.Immediate.{Immediate}
use Rattle.mrc_instruction.specs.declared.operand.Operand.{Operand}
use Rattle.mrc_instruction.specs.declared.instruction.OperandSet.{OperandSet}
use Rattle.mrc_instruction.specs.declared.instruction.Reach.{Reach}
use Rattle.mrc_instruction.specs.declared.instruction.Reach.TheVariants.{Neither, Near, Far}
use Rattle.mrc_instruction.specs.declared.instruction.Instruction.{Instruction}
use Rattle.mrc_instruction.specs.declared.operation.Operation.{Operation}
use Rattle.mrc_instruction.specs.declared.operation.Operation.TheVariants.{ADC, ADD, AND, CALL, CMP, DEC, DIV, ESC, IDIV, IMUL, IN, INC, JMP, MOV, MUL, NEG, NOT, OR, OUT, POP, PUSH, RCL, RCR, ROL, ROR, SAR, SBB, SHL, SHR, SUB, TEST, XCHG, XOR}
use Rattle.mrc_instruction.specs.Register.{register_of, segment_of}
use Rattle.mrc_instruction.specs.Signed.{signed_byte, signed_word}
use Rattle.mrc_instruction.specs.Reader.{Reader, done, refuse, ◌>>=◌, a_byte, a_word}
use Rattle.mrc_instruction.specs.Mrrm.{ModRM, reg_field, a_modrm, memory, written_in, operand_of}
use Rattle.mrc_instruction.specs.Instruction.{plain, reached, wrote}

-- the forms with a ModRM
pub data ModRMForm : Type 0 where
  rm_reg reg_rm : Operation → ModRMForm
  group80 group83 pop : ModRMForm
  rm_segment segment_rm : ModRMForm
  shift_by_immediate shift_by_one shift_by_cl : ModRMForm
  group_c6 group_f6 group_fe escape_rm : ModRMForm

infix 70 ◌⦂◌
pub data Row : Type 0 where
  bare : Operation → Row
  prefix invalid : Row
  -- the form and its size, which is that of the operand of mod and rm
  ◌⦂◌ : ModRMForm → OperandSize → Row
  immediate_to_accumulator : Operation → OperandSize → Row
  on_segment : Operation → Segment → Row
  on_register : Operation → RegisterEncoding → Row
  on_displacement : Operation → OperandSize → Row
  exchange : RegisterEncoding → Row
  far : Operation → Row
  acc_direct direct_acc : OperandSize → Row
  register_and_immediate : RegisterEncoding → OperandSize → Row
  on_immediate : Operation → OperandSize → Row
  escape : Row
  in_port out_port in_dx out_dx : OperandSize → Row
  -- the row of a call, a jump or a return, with how far it goes
  reaching : Reach → Row → Row

-- what the bytes behind the prefixes come to
abbrev pub Tail : Type 0
Tail = Instruction

abbrev pub none : Operation → Tail
none op = plain op OperandSet.None

abbrev pub one : Operation → Operand → Tail
one op destination = plain op (OperandSet.Destination destination)

abbrev pub two : Operation → Operand → Operand → Tail
two op destination source = plain op (OperandSet.DestinationAndSource destination source)

-- an immediate and a displacement of a size
abbrev pub an_immediate : OperandSize → Reader Immediate
an_immediate Byte = a_byte >>= λ b. done (Immediate.Byte b)
an_immediate Word = a_word >>= λ w. done (Immediate.Word w)

abbrev pub a_displacement : OperandSize → Reader Displacement
a_displacement Byte = a_byte >>= λ b. done (Displacement.Byte (signed_byte b))
a_displacement Word = a_word >>= λ w. done (Displacement.Word (signed_word w))

-- operands: a register of a size, the accumulator, DX as a word; what a ModRM's mod and rm name, and what the reg of its byte names, as a
-- register and as a segment
abbrev pub register : RegisterEncoding → OperandSize → Operand
register r size = Operand.Register (record { 0 = r; 1 = size })

abbrev pub acc : OperandSize → Operand
acc size = register RegisterEncoding.AlAx size

abbrev pub dx : Operand
dx = register RegisterEncoding.DlDx Word

abbrev pub rm : Reading → ModRM → OperandSize → Operand
rm x m size = operand_of x size (memory m)

abbrev pub reg : ℕ → OperandSize → Operand
reg byte size = register (register_of (reg_field byte)) size

abbrev pub segment_reg : ℕ → Operand
segment_reg byte = Operand.Segment (segment_of (reg_field byte))

-- rule 5.3: the operations by reg: of 80 to 83, and of 00 to 3F by the same bits of the opcode; of the shifts; of FE and FF
abbrev pub arithmetic : ℕ → Operation
arithmetic n = get_or (ADD ∷ OR ∷ ADC ∷ SBB ∷ AND ∷ SUB ∷ XOR ∷ CMP ∷ []) n CMP

abbrev pub shift : ℕ → Operation
shift n = get_or (ROL ∷ ROR ∷ RCL ∷ RCR ∷ SHL ∷ SHR ∷ SHL ∷ SAR ∷ []) n SAR

abbrev pub group_fe_operation : ℕ → Operation
group_fe_operation n = get_or (INC ∷ DEC ∷ CALL ∷ CALL ∷ JMP ∷ JMP ∷ PUSH ∷ PUSH ∷ []) n PUSH

-- rule 5.10: how far these go, of FE and of FF
abbrev pub group_fe_reach : OperandSize → ℕ → Reach
group_fe_reach Byte n = get_or (Neither ∷ Neither ∷ Near ∷ Near ∷ Near ∷ Near ∷ Neither ∷ Neither ∷ []) n Neither
group_fe_reach Word n = get_or (Neither ∷ Neither ∷ Near ∷ Far ∷ Near ∷ Far ∷ Neither ∷ Neither ∷ []) n Neither

-- rule 5.3: of F6 and F7 from reg 2 on; at 0 it is TEST with an immediate, and 1 is refused
abbrev pub group_f6_operation : ℕ → Operation
group_f6_operation n = get_or (NOT ∷ NEG ∷ MUL ∷ IMUL ∷ DIV ∷ IDIV ∷ []) n IDIV

abbrev pub group_f6_by : ℕ → Operand → OperandSize → Reader Tail
group_f6_by zero destination size = an_immediate size >>= λ i. done (two TEST destination (Operand.Immediate i))
group_f6_by (suc zero) destination size = refuse (Refusal.InvalidOpCode 1)
group_f6_by (suc (suc n)) destination size = done (one (group_f6_operation n) destination)

-- rule 5.4: 83 widens its byte with zeros, and in reading 2 by its sign
abbrev pub widened : Reading → ℕ → ℕ
widened One b = b
widened Two b = cond (ltb b 0x80) b (b + 0xFF00)

-- rule 5.11: D2 and D3 count in ClCx of the operand's size, and in reading 2 in CL
abbrev pub count_size : Reading → OperandSize → OperandSize
count_size One size = size
count_size Two size = Byte

-- a ModRM, and then what is read by the operand of a size that its mod and rm name and by its byte; rule 4.6: with the displacement bytes written
unfoldable pub with_modrm : Reading → OperandSize → (Operand → ℕ → Reader Tail) → Reader Tail
with_modrm x size f = do
  m ← a_modrm
  i ← f (rm x m size) m.byte
  done (wrote (written_in m) i)

-- rule 5.2: what a form reads behind its ModRM
abbrev pub behind : Reading → ModRMForm → OperandSize → Operand → ℕ → Reader Tail
behind x (rm_reg op) size operand byte = done (two op operand (reg byte size))
behind x (reg_rm op) size operand byte = done (two op (reg byte size) operand)
behind x group80 size operand byte = an_immediate size >>= λ i. done (two (arithmetic (reg_field byte)) operand (Operand.Immediate i))
behind x group83 size operand byte = a_byte >>= λ b. done (two (arithmetic (reg_field byte)) operand (Operand.Immediate (Immediate.Word (widened x b))))
-- rule 5.5: 8F is POP where reg is 0
behind x pop size operand byte = cond (eqb (reg_field byte) 0) (done (one POP operand)) (refuse (Refusal.InvalidModRegRMEncoding byte))
-- rule 5.6: four of the eight regs name a segment
behind x rm_segment size operand byte =
    cond (ltb (reg_field byte) 4) (done (two MOV operand (segment_reg byte))) (refuse (Refusal.InvalidSegmentEncoding (reg_field byte)))
behind x segment_rm size operand byte =
    cond (ltb (reg_field byte) 4) (done (two MOV (segment_reg byte) operand)) (refuse (Refusal.InvalidSegmentEncoding (reg_field byte)))
behind x shift_by_immediate size operand byte = an_immediate Byte >>= λ i. done (two (shift (reg_field byte)) operand (Operand.Immediate i))
behind x shift_by_one size operand byte = done (two (shift (reg_field byte)) operand (Operand.Immediate (Immediate.Byte 1)))
behind x shift_by_cl size operand byte = done (two (shift (reg_field byte)) operand (register RegisterEncoding.ClCx (count_size x size)))
behind x group_c6 size operand byte = an_immediate size >>= λ i. done (two MOV operand (Operand.Immediate i))
behind x group_f6 size operand byte = group_f6_by (reg_field byte) operand size
behind x group_fe size operand byte = done (reached (group_fe_reach size (reg_field byte)) (one (group_fe_operation (reg_field byte)) operand))
-- rule 5.12: ESC of a whole ModRM
behind x escape_rm size operand byte = done (one ESC operand)

-- rule 5.2: what follows an opcode, by its row
abbrev pub rest : Reading → ℕ → Row → Reader Tail
rest x opcode (bare op) = done (none op)
rest x opcode prefix = refuse (Refusal.InvalidOpCode opcode)
rest x opcode invalid = refuse (Refusal.InvalidOpCode opcode)
rest x opcode (form ⦂ size) = with_modrm x size (behind x form size)
rest x opcode (immediate_to_accumulator op size) = an_immediate size >>= λ i. done (two op (acc size) (Operand.Immediate i))
rest x opcode (on_segment op s) = done (one op (Operand.Segment s))
rest x opcode (on_register op r) = done (one op (register r Word))
rest x opcode (on_displacement op size) = a_displacement size >>= λ d. done (one op (Operand.Displacement d))
rest x opcode (exchange r) = done (two XCHG (acc Word) (register r Word))
-- rule 5.2: the offset comes before the segment
rest x opcode (far op) = do
  offset ← a_word
  segment ← a_word
  done (one op (Operand.SegmentAndOffset (record { segment = segment; offset = offset })))
rest x opcode (acc_direct size) = a_word >>= λ w. done (two MOV (acc size) (Operand.Direct Segment.DS size w))
rest x opcode (direct_acc size) = a_word >>= λ w. done (two MOV (Operand.Direct Segment.DS size w) (acc size))
rest x opcode (register_and_immediate r size) = an_immediate size >>= λ i. done (two MOV (register r size) (Operand.Immediate i))
rest x opcode (on_immediate op size) = an_immediate size >>= λ i. done (one op (Operand.Immediate i))
-- rule 5.12: ESC that reads a byte and makes nothing of it
rest x opcode escape = a_byte >>= λ b. done (none ESC)
rest x opcode (in_port size) = an_immediate Byte >>= λ i. done (two IN (acc size) (Operand.Immediate i))
rest x opcode (out_port size) = an_immediate Byte >>= λ i. done (two OUT (Operand.Immediate i) (acc size))
rest x opcode (in_dx size) = done (two IN (acc size) dx)
rest x opcode (out_dx size) = done (two OUT dx (acc size))
-- rule 5.10: what the row reads, with how far it goes
rest x opcode (reaching reach row) = rest x opcode row >>= λ i. done (reached reach i)
