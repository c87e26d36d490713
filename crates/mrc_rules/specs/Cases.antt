-- Rules 16.1 to 16.3: the numbered cases, each an input under its budget with the answer that it has in a reading.
use Rattle.std.specs.Prelude.{ℕ, ◌≡◌, List, [], ◌∷◌, map, pos, negsuc, Option, Some, None}
use Rattle.mrc_instruction.specs.declared.reading.Reading.{Reading}
use Rattle.mrc_instruction.specs.declared.reading.Reading.TheVariants.{One, Two}
use Rattle.mrc_instruction.specs.declared.register.Segment.TheVariants.{ES, CS, SS, DS}
use Rattle.mrc_instruction.specs.declared.register.Segment.{Segment}
use Rattle.mrc_instruction.specs.declared.register.RegisterEncoding.TheVariants.{AlAx, ClCx, BlBx}
use Rattle.mrc_instruction.specs.declared.operand.AddressingMode.{AddressingMode}
use Rattle.mrc_instruction.specs.declared.operand.AddressingMode.TheVariants.{BxSi, BxDi, BpSi, BpDi, Si, Di, Bp, Bx}
use Rattle.mrc_instruction.specs.declared.operand.OperandSize.TheVariants.{Byte, Word}
use Rattle.mrc_instruction.specs.declared.operand.OperandSize.{OperandSize}
use Rattle.mrc_instruction.specs.declared.operand.Displacement.{Displacement}
use Rattle.mrc_instruction.specs.declared.operand.Immediate.{Immediate}
use Rattle.mrc_instruction.specs.declared.operand.Operand.{Operand}
use Rattle.mrc_instruction.specs.declared.instruction.Repeat.{Repeat}
use Rattle.mrc_instruction.specs.declared.instruction.Reach.{Reach}
use Rattle.mrc_instruction.specs.declared.instruction.Reach.TheVariants.{Neither, Near, Far}
use Rattle.mrc_instruction.specs.declared.instruction.Instruction.{Instruction}
use Rattle.mrc_instruction.specs.declared.operation.Operation.{Operation}
use Rattle.mrc_instruction.specs.declared.operation.Operation.TheVariants.{ADC, ADD, AND, CALL, CMP, CMPSB, CMPSW, ESC, IN, IRET, JE, JMP, JNE, LDS, LEA, LES, LODSB, LODSW, MOV, MOVSB, MOVSW, OR, OUT, PUSH, RET, SBB, SHL, SUB, TEST, XCHG, XLATB, XOR}
use Rattle.mrc_instruction.specs.declared.errors.Refusal.TheVariants.{EndOfInput, CouldNotReadExtraBytes, InvalidModRegRMEncoding, InvalidOpCode, InvalidSegmentEncoding, InvalidPrefix, TooManyPrefixes}
use Rattle.mrc_rules.specs.Answer.{decodes, refuses}
use Rattle.mrc_rules.specs.declared.Answer.{Answer}
use Rattle.mrc_instruction.specs.Instruction.{reached, repeated_by, keeping_in, wrote}
use Rattle.mrc_rules.specs.Forms.{none, one, two, register}
use Rattle.mrc_rules.specs.Decode.{decode_at}

-- a reading, an input with its budget, and the answer that it has
pub record Case : Type 0 where
  pub reading : Reading
  pub budget : ℕ
  pub input : List ℕ
  pub answer : Answer

abbrev pub case : ℕ → List ℕ → Answer → Case
case b l a = record { reading = One; budget = b; input = l; answer = a }

abbrev pub second : List ℕ → Answer → Case
second l a = record { reading = Two; budget = 15; input = l; answer = a }

-- every case of a list has its answer
abbrev pub Held : List Case → Type 0
Held l = map (λ (c : Case). decode_at c.reading c.input 0 c.budget) l ≡ map (λ (c : Case). c.answer) l

abbrev pub cases : List Case
cases =
    case 15 [] (refuses EndOfInput 0 0)  -- 1
    ∷ case 15 (0xF3 ∷ []) (refuses EndOfInput 1 1)  -- 2
    ∷ case 15 (0x26 ∷ []) (refuses (InvalidPrefix 0x26) 1 1)  -- 3
    ∷ case 15 (0x83 ∷ 0xC0 ∷ 0xFF ∷ []) (decodes (two ADD (register AlAx Word) (Operand.Immediate (Immediate.Word 0x00FF))) 3 0)  -- 4
    ∷ case 15 (0x26 ∷ 0xA4 ∷ []) (refuses (InvalidPrefix 0x26) 2 1)  -- 5
    ∷ case 15 (0x26 ∷ 0x2E ∷ 0x8B ∷ 0x07 ∷ []) (decodes (two MOV (register AlAx Word) (Operand.Indirect ES Word Bx Displacement.None)) 4 2)  -- 6
    ∷ case 15 (0x8B ∷ 0x47 ∷ 0x00 ∷ []) (decodes (wrote 1 (two MOV (register AlAx Word) (Operand.Indirect DS Word Bx Displacement.None))) 3 0)  -- 7
    ∷ case 15 (0xF6 ∷ 0xC8 ∷ []) (refuses (InvalidOpCode 0x01) 2 0)  -- 8
    ∷ case 15 (0x8F ∷ 0x48 ∷ []) (refuses CouldNotReadExtraBytes 2 0)  -- 9
    ∷ case 15 (0x8F ∷ 0x48 ∷ 0x00 ∷ []) (refuses (InvalidModRegRMEncoding 0x48) 3 0)  -- 9
    ∷ case 15 (0x8E ∷ 0xE0 ∷ []) (refuses (InvalidSegmentEncoding 0x04) 2 0)  -- 10
    ∷ case 15 (0x81 ∷ 0x80 ∷ 0x34 ∷ 0x12 ∷ 0x78 ∷ 0x56 ∷ [])
    (decodes (wrote 2 (two ADD (Operand.Indirect DS Word BxSi (Displacement.Word (pos 0x1234))) (Operand.Immediate (Immediate.Word 0x5678)))) 6 0)  -- 11
    ∷ case 15 (0x81 ∷ 0x80 ∷ 0x34 ∷ 0x12 ∷ 0x78 ∷ []) (refuses CouldNotReadExtraBytes 5 0)  -- 11
    ∷ case 15 (0xF2 ∷ 0xF3 ∷ 0xA4 ∷ [])
    (decodes (repeated_by (Some Repeat.NotEqual) (none MOVSB)) 3 2)  -- 12
    ∷ case 0 (0xF3 ∷ 0x90 ∷ []) (refuses (TooManyPrefixes 0xF3) 1 1)  -- 13
    ∷ []

-- MOV AX from memory; the same with so many displacement bytes written
abbrev pub mov_ax_from : Operand → ℕ → ℕ → Answer
mov_ax_from memory = decodes (two MOV (register AlAx Word) memory)

abbrev pub mov_ax_by : ℕ → Operand → ℕ → ℕ → Answer
mov_ax_by written memory = decodes (wrote written (two MOV (register AlAx Word) memory))

-- REPE MOV AX, ES:[BX]
abbrev pub repeated_mov : Instruction
repeated_mov = repeated_by (Some Repeat.Equal) (two MOV (register AlAx Word) (Operand.Indirect ES Word Bx Displacement.None))

-- a call, a jump or a return on one operand; such an operand: memory through BX, a far address
abbrev pub goes : Reach → Operation → Operand → ℕ → ℕ → Answer
goes reach op destination = decodes (reached reach (one op destination))

abbrev pub at_bx : Segment → OperandSize → Operand
at_bx segment size = Operand.Indirect segment size Bx Displacement.None

abbrev pub far_address : Operand
far_address = Operand.SegmentAndOffset (record { segment = 0x5678; offset = 0x1234 })

-- REPE CALL FAR [BX]
abbrev pub repeated_call : Instruction
repeated_call = repeated_by (Some Repeat.Equal) (reached Far (one CALL (at_bx DS Word)))

-- rule 16.2: inputs that a decoder may get wrong and still look right
abbrev pub easily_mistaken : List Case
easily_mistaken =
    -- 83 widens its byte with zeros, whatever reg is
    case 15 (0x83 ∷ 0xC8 ∷ 0x80 ∷ []) (decodes (two OR (register AlAx Word) (Operand.Immediate (Immediate.Word 0x0080))) 3 0)
    -- the segment is DS where BP is the base, in each mod
    ∷ case 15 (0x8B ∷ 0x02 ∷ []) (mov_ax_from (Operand.Indirect DS Word BpSi Displacement.None) 2 0)
    ∷ case 15 (0x8B ∷ 0x46 ∷ 0x02 ∷ []) (mov_ax_by 1 (Operand.Indirect DS Word Bp (Displacement.Byte (pos 2))) 3 0)
    ∷ case 15 (0x8B ∷ 0x86 ∷ 0x00 ∷ 0x80 ∷ []) (mov_ax_by 2 (Operand.Indirect DS Word Bp (Displacement.Word (negsuc 0x7FFF))) 4 0)
    -- a jump keeps a displacement of 0; JE is 74 and JNE 75
    ∷ case 15 (0x74 ∷ 0x00 ∷ []) (decodes (one JE (Operand.Displacement (Displacement.Byte (pos 0)))) 2 0)
    ∷ case 15 (0x75 ∷ 0x80 ∷ []) (decodes (one JNE (Operand.Displacement (Displacement.Byte (negsuc 0x7F)))) 2 0)
    ∷ case 15 (0xE9 ∷ 0x00 ∷ 0x00 ∷ []) (goes Near JMP (Operand.Displacement (Displacement.Word (pos 0))) 3 0)
    -- 8F reads its displacement before its reg is tested
    ∷ case 15 (0x8F ∷ 0xC8 ∷ []) (refuses (InvalidModRegRMEncoding 0xC8) 2 0)
    ∷ case 15 (0x8F ∷ 0x88 ∷ 0x00 ∷ []) (refuses CouldNotReadExtraBytes 3 0)
    -- the first override wins, and each names its segment
    ∷ case 15 (0x26 ∷ 0x8B ∷ 0x07 ∷ []) (mov_ax_from (Operand.Indirect ES Word Bx Displacement.None) 3 1)
    ∷ case 15 (0x2E ∷ 0x26 ∷ 0x8B ∷ 0x07 ∷ []) (mov_ax_from (Operand.Indirect CS Word Bx Displacement.None) 4 2)
    ∷ case 15 (0x36 ∷ 0x2E ∷ 0x8B ∷ 0x07 ∷ []) (mov_ax_from (Operand.Indirect SS Word Bx Displacement.None) 4 2)
    ∷ case 15 (0x3E ∷ 0x36 ∷ 0x8B ∷ 0x07 ∷ []) (mov_ax_from (Operand.Indirect DS Word Bx Displacement.None) 4 2)
    -- an override replaces the segment of memory, direct or not, as the destination or as the source, and leaves registers alone
    ∷ case 15 (0x26 ∷ 0xA1 ∷ 0x34 ∷ 0x12 ∷ []) (mov_ax_from (Operand.Direct ES Word 0x1234) 4 1)
    ∷ case 15 (0x2E ∷ 0x01 ∷ 0x07 ∷ []) (decodes (two ADD (Operand.Indirect CS Word Bx Displacement.None) (register AlAx Word)) 3 1)
    ∷ case 15 (0x36 ∷ 0x89 ∷ 0xD8 ∷ []) (decodes (two MOV (register AlAx Word) (register BlBx Word)) 3 1)
    -- a repeat stays under an override, before it and behind it
    ∷ case 15 (0xF3 ∷ 0x26 ∷ 0x8B ∷ 0x07 ∷ []) (decodes repeated_mov 4 2)
    ∷ case 15 (0x26 ∷ 0xF3 ∷ 0xF2 ∷ 0x8B ∷ 0x07 ∷ []) (decodes repeated_mov 5 3)
    -- a missing ModRM byte is not the end of the input
    ∷ case 15 (0x8B ∷ []) (refuses CouldNotReadExtraBytes 1 0)
    ∷ case 15 (0xF3 ∷ 0x80 ∷ []) (refuses CouldNotReadExtraBytes 2 1)
    -- 60 and C8 begin nothing
    ∷ case 15 (0x60 ∷ []) (refuses (InvalidOpCode 0x60) 1 0)
    ∷ case 15 (0xC8 ∷ []) (refuses (InvalidOpCode 0xC8) 1 0)
    -- destination before source, in each direction
    ∷ case 15 (0x89 ∷ 0xD8 ∷ []) (decodes (two MOV (register AlAx Word) (register BlBx Word)) 2 0)
    ∷ case 15 (0x8B ∷ 0xD8 ∷ []) (decodes (two MOV (register BlBx Word) (register AlAx Word)) 2 0)
    ∷ case 15 (0x85 ∷ 0xD8 ∷ []) (decodes (two TEST (register AlAx Word) (register BlBx Word)) 2 0)
    ∷ case 15 (0x87 ∷ 0xD8 ∷ []) (decodes (two XCHG (register AlAx Word) (register BlBx Word)) 2 0)
    ∷ case 15 (0x93 ∷ []) (decodes (two XCHG (register AlAx Word) (register BlBx Word)) 1 0)
    ∷ case 15 (0x8C ∷ 0xD8 ∷ []) (decodes (two MOV (register AlAx Word) (Operand.Segment DS)) 2 0)
    ∷ case 15 (0x8E ∷ 0xD8 ∷ []) (decodes (two MOV (Operand.Segment DS) (register AlAx Word)) 2 0)
    ∷ case 15 (0xC4 ∷ 0x07 ∷ []) (decodes (two LES (register AlAx Word) (Operand.Indirect DS Word Bx Displacement.None)) 2 0)
    ∷ case 15 (0xA0 ∷ 0x34 ∷ 0x12 ∷ []) (decodes (two MOV (register AlAx Byte) (Operand.Direct DS Byte 0x1234)) 3 0)
    ∷ case 15 (0xA2 ∷ 0x34 ∷ 0x12 ∷ []) (decodes (two MOV (Operand.Direct DS Byte 0x1234) (register AlAx Byte)) 3 0)
    ∷ case 15 (0xE4 ∷ 0x34 ∷ []) (decodes (two IN (register AlAx Byte) (Operand.Immediate (Immediate.Byte 0x34))) 2 0)
    ∷ case 15 (0xE6 ∷ 0x34 ∷ []) (decodes (two OUT (Operand.Immediate (Immediate.Byte 0x34)) (register AlAx Byte)) 2 0)
    -- near and far: by the first byte; IRET is neither
    ∷ case 15 (0x9A ∷ 0x34 ∷ 0x12 ∷ 0x78 ∷ 0x56 ∷ []) (goes Far CALL far_address 5 0)
    ∷ case 15 (0xEA ∷ 0x34 ∷ 0x12 ∷ 0x78 ∷ 0x56 ∷ []) (goes Far JMP far_address 5 0)
    ∷ case 15 (0xE8 ∷ 0x00 ∷ 0x00 ∷ []) (goes Near CALL (Operand.Displacement (Displacement.Word (pos 0))) 3 0)
    ∷ case 15 (0xEB ∷ 0x80 ∷ []) (goes Near JMP (Operand.Displacement (Displacement.Byte (negsuc 0x7F))) 2 0)
    ∷ case 15 (0xC2 ∷ 0x04 ∷ 0x00 ∷ []) (goes Near RET (Operand.Displacement (Displacement.Word (pos 4))) 3 0)
    ∷ case 15 (0xCA ∷ 0x04 ∷ 0x00 ∷ []) (goes Far RET (Operand.Immediate (Immediate.Word 4)) 3 0)
    ∷ case 15 (0xC3 ∷ []) (decodes (reached Near (none RET)) 1 0)
    ∷ case 15 (0xCB ∷ []) (decodes (reached Far (none RET)) 1 0)
    ∷ case 15 (0xCF ∷ []) (decodes (none IRET) 1 0)
    -- and by reg: FF /3 and /5 are far, FE /3 and /5 near; PUSH is neither
    ∷ case 15 (0xFF ∷ 0x17 ∷ []) (goes Near CALL (at_bx DS Word) 2 0)
    ∷ case 15 (0xFF ∷ 0x1F ∷ []) (goes Far CALL (at_bx DS Word) 2 0)
    ∷ case 15 (0xFF ∷ 0x27 ∷ []) (goes Near JMP (at_bx DS Word) 2 0)
    ∷ case 15 (0xFF ∷ 0x2F ∷ []) (goes Far JMP (at_bx DS Word) 2 0)
    ∷ case 15 (0xFF ∷ 0x37 ∷ []) (goes Neither PUSH (at_bx DS Word) 2 0)
    ∷ case 15 (0xFE ∷ 0x17 ∷ []) (goes Near CALL (at_bx DS Byte) 2 0)
    ∷ case 15 (0xFE ∷ 0x1F ∷ []) (goes Near CALL (at_bx DS Byte) 2 0)
    ∷ case 15 (0xFE ∷ 0x27 ∷ []) (goes Near JMP (at_bx DS Byte) 2 0)
    ∷ case 15 (0xFE ∷ 0x2F ∷ []) (goes Near JMP (at_bx DS Byte) 2 0)
    -- how far it goes stays under an override and under a repeat
    ∷ case 15 (0x26 ∷ 0xFF ∷ 0x1F ∷ []) (goes Far CALL (at_bx ES Word) 3 1)
    ∷ case 15 (0xF3 ∷ 0xFF ∷ 0x1F ∷ []) (decodes repeated_call 3 1)
    -- one memory operand, written with none, one and two displacement bytes; Direct with two, but none without a ModRM
    ∷ case 15 (0x8B ∷ 0x07 ∷ []) (mov_ax_by 0 (at_bx DS Word) 2 0)
    ∷ case 15 (0x8B ∷ 0x47 ∷ 0x00 ∷ []) (mov_ax_by 1 (at_bx DS Word) 3 0)
    ∷ case 15 (0x8B ∷ 0x87 ∷ 0x00 ∷ 0x00 ∷ []) (mov_ax_by 2 (at_bx DS Word) 4 0)
    ∷ case 15 (0x8B ∷ 0x06 ∷ 0x34 ∷ 0x12 ∷ []) (mov_ax_by 2 (Operand.Direct DS Word 0x1234) 4 0)
    ∷ case 15 (0xA1 ∷ 0x34 ∷ 0x12 ∷ []) (mov_ax_by 0 (Operand.Direct DS Word 0x1234) 3 0)
    ∷ case 15 (0x8B ∷ 0xC3 ∷ []) (mov_ax_by 0 (register BlBx Word) 2 0)
    -- the immediate behind them is not counted; they stay under an override and under a repeat
    ∷ case 15 (0xC7 ∷ 0x47 ∷ 0x00 ∷ 0x34 ∷ 0x12 ∷ []) (decodes (wrote 1 (two MOV (at_bx DS Word) (Operand.Immediate (Immediate.Word 0x1234)))) 5 0)
    ∷ case 15 (0x26 ∷ 0x8B ∷ 0x47 ∷ 0x00 ∷ []) (mov_ax_by 1 (at_bx ES Word) 4 1)
    ∷ case 15 (0xF3 ∷ 0xFF ∷ 0x9F ∷ 0x00 ∷ 0x00 ∷ []) (decodes (wrote 2 repeated_call) 5 1)
    ∷ []

-- an arithmetic operation on AX and a word
abbrev pub ax_and : Operation → ℕ → ℕ → ℕ → Answer
ax_and op word = decodes (two op (register AlAx Word) (Operand.Immediate (Immediate.Word word)))

-- a word of memory in a segment, with no displacement
abbrev pub word_in : Segment → AddressingMode → Operand
word_in segment mode = Operand.Indirect segment Word mode Displacement.None

-- ESC of an operand, with so many displacement bytes written; an operation that keeps an override
abbrev pub escapes : ℕ → Operand → ℕ → ℕ → Answer
escapes written operand = decodes (wrote written (one ESC operand))

abbrev pub keeps_in : Segment → Option Repeat → Operation → ℕ → ℕ → Answer
keeps_in segment repeat op =
    decodes (repeated_by repeat (keeping_in segment (none op)))

-- rule 16.3: reading 2
abbrev pub second_reading : List Case
second_reading =
    -- 83 extends the sign, whatever reg is
    second (0x83 ∷ 0xC0 ∷ 0xFF ∷ []) (ax_and ADD 0xFFFF 3 0)
    ∷ second (0x83 ∷ 0xC8 ∷ 0x80 ∷ []) (ax_and OR 0xFF80 3 0)
    ∷ second (0x83 ∷ 0xD0 ∷ 0x7F ∷ []) (ax_and ADC 0x007F 3 0)
    ∷ second (0x83 ∷ 0xD8 ∷ 0xFF ∷ []) (ax_and SBB 0xFFFF 3 0)
    ∷ second (0x83 ∷ 0xE0 ∷ 0xFF ∷ []) (ax_and AND 0xFFFF 3 0)
    ∷ second (0x83 ∷ 0xE8 ∷ 0xFF ∷ []) (ax_and SUB 0xFFFF 3 0)
    ∷ second (0x83 ∷ 0xF0 ∷ 0xFF ∷ []) (ax_and XOR 0xFFFF 3 0)
    ∷ second (0x83 ∷ 0xF8 ∷ 0xFF ∷ []) (ax_and CMP 0xFFFF 3 0)
    -- 80 to 82 as in reading 1
    ∷ second (0x80 ∷ 0xC0 ∷ 0xFF ∷ []) (decodes (two ADD (register AlAx Byte) (Operand.Immediate (Immediate.Byte 0xFF))) 3 0)
    -- the segment is SS where BP is the base, in each mod, and else DS
    ∷ second (0x8B ∷ 0x00 ∷ []) (mov_ax_from (word_in DS BxSi) 2 0)
    ∷ second (0x8B ∷ 0x01 ∷ []) (mov_ax_from (word_in DS BxDi) 2 0)
    ∷ second (0x8B ∷ 0x02 ∷ []) (mov_ax_from (word_in SS BpSi) 2 0)
    ∷ second (0x8B ∷ 0x03 ∷ []) (mov_ax_from (word_in SS BpDi) 2 0)
    ∷ second (0x8B ∷ 0x04 ∷ []) (mov_ax_from (word_in DS Si) 2 0)
    ∷ second (0x8B ∷ 0x05 ∷ []) (mov_ax_from (word_in DS Di) 2 0)
    ∷ second (0x8B ∷ 0x06 ∷ 0x34 ∷ 0x12 ∷ []) (mov_ax_by 2 (Operand.Direct DS Word 0x1234) 4 0)
    ∷ second (0x8B ∷ 0x07 ∷ []) (mov_ax_from (word_in DS Bx) 2 0)
    ∷ second (0x8B ∷ 0x46 ∷ 0x00 ∷ []) (mov_ax_by 1 (word_in SS Bp) 3 0)
    ∷ second (0x8B ∷ 0x86 ∷ 0x00 ∷ 0x80 ∷ []) (mov_ax_by 2 (Operand.Indirect SS Word Bp (Displacement.Word (negsuc 0x7FFF))) 4 0)
    ∷ second (0x8D ∷ 0x46 ∷ 0x00 ∷ []) (decodes (wrote 1 (two LEA (register AlAx Word) (word_in SS Bp))) 3 0)
    ∷ second (0xC4 ∷ 0x46 ∷ 0x00 ∷ []) (decodes (wrote 1 (two LES (register AlAx Word) (word_in SS Bp))) 3 0)
    ∷ second (0xC5 ∷ 0x46 ∷ 0x00 ∷ []) (decodes (wrote 1 (two LDS (register AlAx Word) (word_in SS Bp))) 3 0)
    -- an override names another segment, DS too
    ∷ second (0x26 ∷ 0x8B ∷ 0x46 ∷ 0x00 ∷ []) (mov_ax_by 1 (word_in ES Bp) 4 1)
    ∷ second (0x3E ∷ 0x8B ∷ 0x46 ∷ 0x00 ∷ []) (mov_ax_by 1 (word_in DS Bp) 4 1)
    -- D2 and D3 count in CL, D0 and D1 as in reading 1
    ∷ second (0xD2 ∷ 0xE0 ∷ []) (decodes (two SHL (register AlAx Byte) (register ClCx Byte)) 2 0)
    ∷ second (0xD3 ∷ 0xE0 ∷ []) (decodes (two SHL (register AlAx Word) (register ClCx Byte)) 2 0)
    ∷ second (0xD1 ∷ 0xE0 ∷ []) (decodes (two SHL (register AlAx Word) (Operand.Immediate (Immediate.Byte 1))) 2 0)
    -- C2 carries an immediate
    ∷ second (0xC2 ∷ 0x04 ∷ 0x00 ∷ []) (goes Near RET (Operand.Immediate (Immediate.Word 4)) 3 0)
    ∷ second (0xCA ∷ 0x04 ∷ 0x00 ∷ []) (goes Far RET (Operand.Immediate (Immediate.Word 4)) 3 0)
    -- ESC has the operand of its ModRM, and so an override before it
    ∷ second (0xD8 ∷ 0x06 ∷ 0x34 ∷ 0x12 ∷ []) (escapes 2 (Operand.Direct DS Word 0x1234) 4 0)
    ∷ second (0xDF ∷ 0x7E ∷ 0x02 ∷ []) (escapes 1 (Operand.Indirect SS Word Bp (Displacement.Byte (pos 2))) 3 0)
    ∷ second (0xD9 ∷ 0xC3 ∷ []) (escapes 0 (register BlBx Word) 2 0)
    ∷ second (0x26 ∷ 0xD8 ∷ 0x07 ∷ []) (escapes 0 (word_in ES Bx) 3 1)
    ∷ second (0x26 ∷ 0xD8 ∷ 0xC3 ∷ []) (escapes 0 (register BlBx Word) 3 1)
    ∷ second (0xD8 ∷ 0x06 ∷ 0x34 ∷ []) (refuses CouldNotReadExtraBytes 3 0)
    -- the seven that keep an override, with a repeat and without
    ∷ second (0x26 ∷ 0xA4 ∷ []) (keeps_in ES None MOVSB 2 1)
    ∷ second (0x2E ∷ 0xA5 ∷ []) (keeps_in CS None MOVSW 2 1)
    ∷ second (0x36 ∷ 0xA6 ∷ []) (keeps_in SS None CMPSB 2 1)
    ∷ second (0x3E ∷ 0xA7 ∷ []) (keeps_in DS None CMPSW 2 1)
    ∷ second (0x26 ∷ 0xAC ∷ []) (keeps_in ES None LODSB 2 1)
    ∷ second (0x26 ∷ 0xAD ∷ []) (keeps_in ES None LODSW 2 1)
    ∷ second (0x26 ∷ 0xD7 ∷ []) (keeps_in ES None XLATB 2 1)
    ∷ second (0xF3 ∷ 0x26 ∷ 0xA4 ∷ []) (keeps_in ES (Some Repeat.Equal) MOVSB 3 2)
    ∷ second (0x26 ∷ 0xF2 ∷ 0xA4 ∷ []) (keeps_in ES (Some Repeat.NotEqual) MOVSB 3 2)
    ∷ second (0x3E ∷ 0x26 ∷ 0xA4 ∷ []) (keeps_in DS None MOVSB 3 2)
    ∷ second (0xA4 ∷ []) (decodes (none MOVSB) 1 0)
    -- other tails with no operand refuse one
    ∷ second (0x26 ∷ 0xAA ∷ []) (refuses (InvalidPrefix 0x26) 2 1)
    ∷ second (0x26 ∷ 0xAB ∷ []) (refuses (InvalidPrefix 0x26) 2 1)
    ∷ second (0x26 ∷ 0xAE ∷ []) (refuses (InvalidPrefix 0x26) 2 1)
    ∷ second (0x26 ∷ 0x90 ∷ []) (refuses (InvalidPrefix 0x26) 2 1)
    ∷ []
