-- Rule 6.1: the rows of the 256 first bytes in opcode order, eight to a line, each line with its first opcode.
use Rattle.std.specs.Prelude.{ℕ, List, [], ◌∷◌, ◌++◌, map, get_or}
use Rattle.mrc_instruction.specs.declared.reading.Reading.{Reading}
use Rattle.mrc_instruction.specs.declared.reading.Reading.TheVariants.{One, Two}
use Rattle.mrc_instruction.specs.declared.register.Segment.TheVariants.{ES, CS, SS, DS}
use Rattle.mrc_instruction.specs.declared.register.RegisterEncoding.{RegisterEncoding}
use Rattle.mrc_instruction.specs.declared.register.RegisterEncoding.TheVariants.{ClCx, DlDx, BlBx, AhSp, ChBp, DhSi, BhDi}
use Rattle.mrc_instruction.specs.declared.operand.OperandSize.TheVariants.{Byte, Word}
use Rattle.mrc_instruction.specs.declared.instruction.Reach.TheVariants.{Near, Far}
use Rattle.mrc_instruction.specs.declared.operation.Operation.{Operation}
use Rattle.mrc_instruction.specs.declared.operation.Operation.TheVariants.{AAA, AAD, AAM, AAS, ADC, ADD, AND, CALL, CBW, CLC, CLD, CLI, CMC, CMP, CMPSB, CMPSW, CWD, DAA, DAS, DEC, HLT, INC, INT, INT1, INT3, INTO, IRET, JB, JBE, JCXZ, JE, JL, JLE, JMP, JNB, JNBE, JNE, JNL, JNLE, JNO, JNP, JNS, JO, JP, JS, LAHF, LDS, LEA, LES, LOCK, LODSB, LODSW, LOOP, LOOPNZ, LOOPZ, MOV, MOVSB, MOVSW, NOP, OR, POP, POPF, PUSH, PUSHF, RET, SAHF, SALC, SBB, SCASB, SCASW, STC, STD, STI, STOSB, STOSW, SUB, TEST, WAIT, XCHG, XLATB, XOR}
use Rattle.mrc_instruction.specs.Register.{registers}
use Rattle.mrc_rules.specs.Forms.{Row, ◌⦂◌, bare, prefix, invalid, rm_reg, reg_rm, immediate_to_accumulator, on_segment, on_register, on_displacement, group80, group83, pop, rm_segment, segment_rm, exchange, far, acc_direct, direct_acc, register_and_immediate, shift_by_immediate, shift_by_one, shift_by_cl, on_immediate, group_c6, escape, in_port, out_port, in_dx, out_dx, group_f6, group_fe, escape_rm, reaching}

-- the eight rows of an arithmetic operation: its six forms and two more
abbrev pub six : Operation → Row → Row → List Row
six op x y =
    rm_reg op ⦂ Byte ∷ rm_reg op ⦂ Word ∷ reg_rm op ⦂ Byte ∷ reg_rm op ⦂ Word ∷ immediate_to_accumulator op Byte ∷ immediate_to_accumulator op Word ∷ x ∷ y ∷ []

-- a row for each register
abbrev pub eight : (RegisterEncoding → Row) → List Row
eight f = map f registers

-- rule 5.11: C2 has a displacement, and in reading 2 an immediate
abbrev pub returned : Reading → Row
returned One = on_displacement RET Word
returned Two = on_immediate RET Word

-- rule 5.12: D8 to DF read a byte, and in reading 2 a whole ModRM
abbrev pub escaped : Reading → Row
escaped One = escape
escaped Two = escape_rm ⦂ Word

unfoldable pub rows : Reading → List Row
rows x =
    six ADD (on_segment PUSH ES) (on_segment POP ES)  -- 00
    ++ six OR (on_segment PUSH CS) (on_segment POP CS)  -- 08
    ++ six ADC (on_segment PUSH SS) (on_segment POP SS)  -- 10
    ++ six SBB (on_segment PUSH DS) (on_segment POP DS)  -- 18
    ++ six AND prefix (bare DAA)  -- 20
    ++ six SUB prefix (bare DAS)  -- 28
    ++ six XOR prefix (bare AAA)  -- 30
    ++ six CMP prefix (bare AAS)  -- 38
    ++ eight (on_register INC)  -- 40
    ++ eight (on_register DEC)  -- 48
    ++ eight (on_register PUSH)  -- 50
    ++ eight (on_register POP)  -- 58
    ++ (invalid ∷ invalid ∷ invalid ∷ invalid ∷ invalid ∷ invalid ∷ invalid ∷ invalid ∷ [])  -- 60
    ++ (invalid ∷ invalid ∷ invalid ∷ invalid ∷ invalid ∷ invalid ∷ invalid ∷ invalid ∷ [])  -- 68
    ++ (on_displacement JO Byte ∷ on_displacement JNO Byte ∷ on_displacement JB Byte ∷ on_displacement JNB Byte ∷ on_displacement JE Byte ∷ on_displacement JNE Byte ∷ on_displacement JBE Byte ∷ on_displacement JNBE Byte ∷ [])  -- 70
    ++ (on_displacement JS Byte ∷ on_displacement JNS Byte ∷ on_displacement JP Byte ∷ on_displacement JNP Byte ∷ on_displacement JL Byte ∷ on_displacement JNL Byte ∷ on_displacement JLE Byte ∷ on_displacement JNLE Byte ∷ [])  -- 78
    ++ (group80 ⦂ Byte ∷ group80 ⦂ Word ∷ group80 ⦂ Byte ∷ group83 ⦂ Word ∷ rm_reg TEST ⦂ Byte ∷ rm_reg TEST ⦂ Word ∷ rm_reg XCHG ⦂ Byte ∷ rm_reg XCHG ⦂ Word ∷ [])  -- 80
    ++ (rm_reg MOV ⦂ Byte ∷ rm_reg MOV ⦂ Word ∷ reg_rm MOV ⦂ Byte ∷ reg_rm MOV ⦂ Word ∷ rm_segment ⦂ Word ∷ reg_rm LEA ⦂ Word ∷ segment_rm ⦂ Word ∷ pop ⦂ Word ∷ [])  -- 88
    ++ (bare NOP ∷ exchange ClCx ∷ exchange DlDx ∷ exchange BlBx ∷ exchange AhSp ∷ exchange ChBp ∷ exchange DhSi ∷ exchange BhDi ∷ [])  -- 90
    ++ (bare CBW ∷ bare CWD ∷ reaching Far (far CALL) ∷ bare WAIT ∷ bare PUSHF ∷ bare POPF ∷ bare SAHF ∷ bare LAHF ∷ [])  -- 98
    ++ (acc_direct Byte ∷ acc_direct Word ∷ direct_acc Byte ∷ direct_acc Word ∷ bare MOVSB ∷ bare MOVSW ∷ bare CMPSB ∷ bare CMPSW ∷ [])  -- A0
    ++ (immediate_to_accumulator TEST Byte ∷ immediate_to_accumulator TEST Word ∷ bare STOSB ∷ bare STOSW ∷ bare LODSB ∷ bare LODSW ∷ bare SCASB ∷ bare SCASW ∷ [])  -- A8
    ++ eight (λ r. register_and_immediate r Byte)  -- B0
    ++ eight (λ r. register_and_immediate r Word)  -- B8
    ++ (shift_by_immediate ⦂ Byte ∷ shift_by_immediate ⦂ Word ∷ reaching Near (returned x) ∷ reaching Near (bare RET) ∷ reg_rm LES ⦂ Word ∷ reg_rm LDS ⦂ Word ∷ group_c6 ⦂ Byte ∷ group_c6 ⦂ Word ∷ [])  -- C0
    ++ (invalid ∷ invalid ∷ reaching Far (on_immediate RET Word) ∷ reaching Far (bare RET) ∷ bare INT3 ∷ on_immediate INT Byte ∷ bare INTO ∷ bare IRET ∷ [])  -- C8
    ++ (shift_by_one ⦂ Byte ∷ shift_by_one ⦂ Word ∷ shift_by_cl ⦂ Byte ∷ shift_by_cl ⦂ Word ∷ on_immediate AAM Byte ∷ on_immediate AAD Byte ∷ bare SALC ∷ bare XLATB ∷ [])  -- D0
    ++ (escaped x ∷ escaped x ∷ escaped x ∷ escaped x ∷ escaped x ∷ escaped x ∷ escaped x ∷ escaped x ∷ [])  -- D8
    ++ (on_displacement LOOPNZ Byte ∷ on_displacement LOOPZ Byte ∷ on_displacement LOOP Byte ∷ on_displacement JCXZ Byte ∷ in_port Byte ∷ in_port Word ∷ out_port Byte ∷ out_port Word ∷ [])  -- E0
    ++ (reaching Near (on_displacement CALL Word) ∷ reaching Near (on_displacement JMP Word) ∷ reaching Far (far JMP) ∷ reaching Near (on_displacement JMP Byte) ∷ in_dx Byte ∷ in_dx Word ∷ out_dx Byte ∷ out_dx Word ∷ [])  -- E8
    ++ (bare LOCK ∷ bare INT1 ∷ prefix ∷ prefix ∷ bare HLT ∷ bare CMC ∷ group_f6 ⦂ Byte ∷ group_f6 ⦂ Word ∷ [])  -- F0
    ++ (bare CLC ∷ bare STC ∷ bare CLI ∷ bare STI ∷ bare CLD ∷ bare STD ∷ group_fe ⦂ Byte ∷ group_fe ⦂ Word ∷ [])  -- F8

unfoldable pub row_of : Reading → ℕ → Row
row_of x opcode = get_or (rows x) opcode invalid
