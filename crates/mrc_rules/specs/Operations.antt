-- Rule 6.2: which operation an instruction's bytes name: a second account of operations beside the rows, by the first byte and, in a group, by reg.
use Rattle.std.specs.Prelude.{ℕ, List, [], ◌∷◌, ◌++◌, get_or, Option, Some, None}
use Rattle.mrc_instruction.specs.declared.operation.Operation.{Operation}
use Rattle.mrc_instruction.specs.declared.operation.Operation.TheVariants.{AAA, AAD, AAM, AAS, ADC, ADD, AND, CALL, CBW, CLC, CLD, CLI, CMC, CMP, CMPSB, CMPSW, CWD, DAA, DAS, DEC, DIV, ESC, HLT, IDIV, IMUL, IN, INC, INT, INT1, INT3, INTO, IRET, JB, JBE, JCXZ, JE, JL, JLE, JMP, JNB, JNBE, JNE, JNL, JNLE, JNO, JNP, JNS, JO, JP, JS, LAHF, LDS, LEA, LES, LOCK, LODSB, LODSW, LOOP, LOOPNZ, LOOPZ, MOV, MOVSB, MOVSW, MUL, NEG, NOP, NOT, OR, OUT, POP, POPF, PUSH, PUSHF, RCL, RCR, RET, ROL, ROR, SAHF, SALC, SAR, SBB, SCASB, SCASW, SHL, SHR, STC, STD, STI, STOSB, STOSW, SUB, TEST, WAIT, XCHG, XLATB, XOR}
use Rattle.mrc_rules.specs.Operands.{byte_at, reg_at}

pub data Mnemonic : Type 0 where
  -- a prefix, or a byte that begins no instruction
  nothing : Mnemonic
  the : Operation → Mnemonic
  -- one of eight
  by_reg : List (Option Operation) → Mnemonic

-- the groups: of 80 to 83; of C0, C1 and D0 to D3; of F6 and F7, where reg 1 names none; of FE and FF
abbrev pub arithmetic : List (Option Operation)
arithmetic = Some ADD ∷ Some OR ∷ Some ADC ∷ Some SBB ∷ Some AND ∷ Some SUB ∷ Some XOR ∷ Some CMP ∷ []

abbrev pub shifts : List (Option Operation)
shifts = Some ROL ∷ Some ROR ∷ Some RCL ∷ Some RCR ∷ Some SHL ∷ Some SHR ∷ Some SHL ∷ Some SAR ∷ []

abbrev pub group_f6 : List (Option Operation)
group_f6 = Some TEST ∷ None ∷ Some NOT ∷ Some NEG ∷ Some MUL ∷ Some IMUL ∷ Some DIV ∷ Some IDIV ∷ []

abbrev pub group_fe : List (Option Operation)
group_fe = Some INC ∷ Some DEC ∷ Some CALL ∷ Some CALL ∷ Some JMP ∷ Some JMP ∷ Some PUSH ∷ Some PUSH ∷ []

unfoldable pub mnemonics : List Mnemonic
mnemonics =
    (the ADD ∷ the ADD ∷ the ADD ∷ the ADD ∷ the ADD ∷ the ADD ∷ the PUSH ∷ the POP ∷ [])  -- 00
    ++ (the OR ∷ the OR ∷ the OR ∷ the OR ∷ the OR ∷ the OR ∷ the PUSH ∷ the POP ∷ [])  -- 08
    ++ (the ADC ∷ the ADC ∷ the ADC ∷ the ADC ∷ the ADC ∷ the ADC ∷ the PUSH ∷ the POP ∷ [])  -- 10
    ++ (the SBB ∷ the SBB ∷ the SBB ∷ the SBB ∷ the SBB ∷ the SBB ∷ the PUSH ∷ the POP ∷ [])  -- 18
    ++ (the AND ∷ the AND ∷ the AND ∷ the AND ∷ the AND ∷ the AND ∷ nothing ∷ the DAA ∷ [])  -- 20
    ++ (the SUB ∷ the SUB ∷ the SUB ∷ the SUB ∷ the SUB ∷ the SUB ∷ nothing ∷ the DAS ∷ [])  -- 28
    ++ (the XOR ∷ the XOR ∷ the XOR ∷ the XOR ∷ the XOR ∷ the XOR ∷ nothing ∷ the AAA ∷ [])  -- 30
    ++ (the CMP ∷ the CMP ∷ the CMP ∷ the CMP ∷ the CMP ∷ the CMP ∷ nothing ∷ the AAS ∷ [])  -- 38
    ++ (the INC ∷ the INC ∷ the INC ∷ the INC ∷ the INC ∷ the INC ∷ the INC ∷ the INC ∷ [])  -- 40
    ++ (the DEC ∷ the DEC ∷ the DEC ∷ the DEC ∷ the DEC ∷ the DEC ∷ the DEC ∷ the DEC ∷ [])  -- 48
    ++ (the PUSH ∷ the PUSH ∷ the PUSH ∷ the PUSH ∷ the PUSH ∷ the PUSH ∷ the PUSH ∷ the PUSH ∷ [])  -- 50
    ++ (the POP ∷ the POP ∷ the POP ∷ the POP ∷ the POP ∷ the POP ∷ the POP ∷ the POP ∷ [])  -- 58
    ++ (nothing ∷ nothing ∷ nothing ∷ nothing ∷ nothing ∷ nothing ∷ nothing ∷ nothing ∷ [])  -- 60
    ++ (nothing ∷ nothing ∷ nothing ∷ nothing ∷ nothing ∷ nothing ∷ nothing ∷ nothing ∷ [])  -- 68
    ++ (the JO ∷ the JNO ∷ the JB ∷ the JNB ∷ the JE ∷ the JNE ∷ the JBE ∷ the JNBE ∷ [])  -- 70
    ++ (the JS ∷ the JNS ∷ the JP ∷ the JNP ∷ the JL ∷ the JNL ∷ the JLE ∷ the JNLE ∷ [])  -- 78
    ++ (by_reg arithmetic ∷ by_reg arithmetic ∷ by_reg arithmetic ∷ by_reg arithmetic ∷ the TEST ∷ the TEST ∷ the XCHG ∷ the XCHG ∷ [])  -- 80
    ++ (the MOV ∷ the MOV ∷ the MOV ∷ the MOV ∷ the MOV ∷ the LEA ∷ the MOV ∷ the POP ∷ [])  -- 88
    ++ (the NOP ∷ the XCHG ∷ the XCHG ∷ the XCHG ∷ the XCHG ∷ the XCHG ∷ the XCHG ∷ the XCHG ∷ [])  -- 90
    ++ (the CBW ∷ the CWD ∷ the CALL ∷ the WAIT ∷ the PUSHF ∷ the POPF ∷ the SAHF ∷ the LAHF ∷ [])  -- 98
    ++ (the MOV ∷ the MOV ∷ the MOV ∷ the MOV ∷ the MOVSB ∷ the MOVSW ∷ the CMPSB ∷ the CMPSW ∷ [])  -- A0
    ++ (the TEST ∷ the TEST ∷ the STOSB ∷ the STOSW ∷ the LODSB ∷ the LODSW ∷ the SCASB ∷ the SCASW ∷ [])  -- A8
    ++ (the MOV ∷ the MOV ∷ the MOV ∷ the MOV ∷ the MOV ∷ the MOV ∷ the MOV ∷ the MOV ∷ [])  -- B0
    ++ (the MOV ∷ the MOV ∷ the MOV ∷ the MOV ∷ the MOV ∷ the MOV ∷ the MOV ∷ the MOV ∷ [])  -- B8
    ++ (by_reg shifts ∷ by_reg shifts ∷ the RET ∷ the RET ∷ the LES ∷ the LDS ∷ the MOV ∷ the MOV ∷ [])  -- C0
    ++ (nothing ∷ nothing ∷ the RET ∷ the RET ∷ the INT3 ∷ the INT ∷ the INTO ∷ the IRET ∷ [])  -- C8
    ++ (by_reg shifts ∷ by_reg shifts ∷ by_reg shifts ∷ by_reg shifts ∷ the AAM ∷ the AAD ∷ the SALC ∷ the XLATB ∷ [])  -- D0
    ++ (the ESC ∷ the ESC ∷ the ESC ∷ the ESC ∷ the ESC ∷ the ESC ∷ the ESC ∷ the ESC ∷ [])  -- D8
    ++ (the LOOPNZ ∷ the LOOPZ ∷ the LOOP ∷ the JCXZ ∷ the IN ∷ the IN ∷ the OUT ∷ the OUT ∷ [])  -- E0
    ++ (the CALL ∷ the JMP ∷ the JMP ∷ the JMP ∷ the IN ∷ the IN ∷ the OUT ∷ the OUT ∷ [])  -- E8
    ++ (the LOCK ∷ the INT1 ∷ nothing ∷ nothing ∷ the HLT ∷ the CMC ∷ by_reg group_f6 ∷ by_reg group_f6 ∷ [])  -- F0
    ++ (the CLC ∷ the STC ∷ the CLI ∷ the STI ∷ the CLD ∷ the STD ∷ by_reg group_fe ∷ by_reg group_fe ∷ [])  -- F8

-- the operation that an instruction's bytes name, from the opcode on
abbrev pub name_at : List ℕ → Mnemonic → Option Operation
name_at l nothing = None
name_at l (the op) = Some op
name_at l (by_reg ops) = get_or ops (reg_at l) None

abbrev pub operation_of : List ℕ → Option Operation
operation_of l = name_at l (get_or mnemonics (byte_at l 0) nothing)
