-- The operations in order, their numbers, and the operation of a number.
use Rattle.std.specs.Prelude.{List, [], ◌∷◌, cond, ℕ, ltb, length, get_or, Option, Some, None}
use Rattle.mrc_instruction.specs.declared.operation.Operation.{Operation}
use Rattle.mrc_instruction.specs.declared.operation.Operation.TheVariants.{MOV, PUSH, POP, XCHG, IN, OUT, XLATB, LEA, LDS, LES, LAHF, SAHF, PUSHF, POPF, ADD, ADC, INC, AAA, DAA, SUB, SBB, DEC, NEG, CMP, AAS, DAS, MUL, IMUL, AAM, DIV, IDIV, AAD, CBW, CWD, NOT, SHL, SHR, SAR, ROL, ROR, RCL, RCR, AND, TEST, OR, XOR, MOVSB, MOVSW, CMPSB, CMPSW, SCASB, SCASW, LODSB, LODSW, STOSB, STOSW, CALL, JMP, RET, JE, JL, JLE, JB, JBE, JP, JO, JS, JNE, JNL, JNLE, JNB, JNBE, JNP, JNO, JNS, LOOP, LOOPZ, LOOPNZ, JCXZ, INT, INT1, INT3, INTO, IRET, CLC, CMC, STC, CLD, STD, CLI, STI, HLT, WAIT, ESC, LOCK, NOP, SALC}

-- rule 11.2: the operations in order
abbrev pub operations : List Operation
operations =
    MOV ∷ PUSH ∷ POP ∷ XCHG ∷ IN ∷ OUT ∷ XLATB ∷ LEA ∷ LDS ∷ LES ∷ LAHF ∷ SAHF ∷ PUSHF ∷ POPF ∷ ADD ∷ ADC ∷ INC ∷ AAA
    ∷ DAA ∷ SUB ∷ SBB ∷ DEC ∷ NEG ∷ CMP ∷ AAS ∷ DAS ∷ MUL ∷ IMUL ∷ AAM ∷ DIV ∷ IDIV ∷ AAD ∷ CBW ∷ CWD ∷ NOT ∷ SHL ∷ SHR
    ∷ SAR ∷ ROL ∷ ROR ∷ RCL ∷ RCR ∷ AND ∷ TEST ∷ OR ∷ XOR ∷ MOVSB ∷ MOVSW ∷ CMPSB ∷ CMPSW ∷ SCASB ∷ SCASW ∷ LODSB
    ∷ LODSW ∷ STOSB ∷ STOSW ∷ CALL ∷ JMP ∷ RET ∷ JE ∷ JL ∷ JLE ∷ JB ∷ JBE ∷ JP ∷ JO ∷ JS ∷ JNE ∷ JNL ∷ JNLE ∷ JNB ∷ JNBE
    ∷ JNP ∷ JNO ∷ JNS ∷ LOOP ∷ LOOPZ ∷ LOOPNZ ∷ JCXZ ∷ INT ∷ INT1 ∷ INT3 ∷ INTO ∷ IRET ∷ CLC ∷ CMC ∷ STC ∷ CLD ∷ STD
    ∷ CLI ∷ STI ∷ HLT ∷ WAIT ∷ ESC ∷ LOCK ∷ NOP ∷ SALC ∷ []

-- the operation at a number
abbrev pub operation_at : ℕ → Operation
operation_at n = get_or operations n SALC

-- rule 11.2: an operation's number, by which it stands in the list
abbrev pub operation_number : Operation → ℕ
operation_number MOV = 0
operation_number PUSH = 1
operation_number POP = 2
operation_number XCHG = 3
operation_number IN = 4
operation_number OUT = 5
operation_number XLATB = 6
operation_number LEA = 7
operation_number LDS = 8
operation_number LES = 9
operation_number LAHF = 10
operation_number SAHF = 11
operation_number PUSHF = 12
operation_number POPF = 13
operation_number ADD = 14
operation_number ADC = 15
operation_number INC = 16
operation_number AAA = 17
operation_number DAA = 18
operation_number SUB = 19
operation_number SBB = 20
operation_number DEC = 21
operation_number NEG = 22
operation_number CMP = 23
operation_number AAS = 24
operation_number DAS = 25
operation_number MUL = 26
operation_number IMUL = 27
operation_number AAM = 28
operation_number DIV = 29
operation_number IDIV = 30
operation_number AAD = 31
operation_number CBW = 32
operation_number CWD = 33
operation_number NOT = 34
operation_number SHL = 35
operation_number SHR = 36
operation_number SAR = 37
operation_number ROL = 38
operation_number ROR = 39
operation_number RCL = 40
operation_number RCR = 41
operation_number AND = 42
operation_number TEST = 43
operation_number OR = 44
operation_number XOR = 45
operation_number MOVSB = 46
operation_number MOVSW = 47
operation_number CMPSB = 48
operation_number CMPSW = 49
operation_number SCASB = 50
operation_number SCASW = 51
operation_number LODSB = 52
operation_number LODSW = 53
operation_number STOSB = 54
operation_number STOSW = 55
operation_number CALL = 56
operation_number JMP = 57
operation_number RET = 58
operation_number JE = 59
operation_number JL = 60
operation_number JLE = 61
operation_number JB = 62
operation_number JBE = 63
operation_number JP = 64
operation_number JO = 65
operation_number JS = 66
operation_number JNE = 67
operation_number JNL = 68
operation_number JNLE = 69
operation_number JNB = 70
operation_number JNBE = 71
operation_number JNP = 72
operation_number JNO = 73
operation_number JNS = 74
operation_number LOOP = 75
operation_number LOOPZ = 76
operation_number LOOPNZ = 77
operation_number JCXZ = 78
operation_number INT = 79
operation_number INT1 = 80
operation_number INT3 = 81
operation_number INTO = 82
operation_number IRET = 83
operation_number CLC = 84
operation_number CMC = 85
operation_number STC = 86
operation_number CLD = 87
operation_number STD = 88
operation_number CLI = 89
operation_number STI = 90
operation_number HLT = 91
operation_number WAIT = 92
operation_number ESC = 93
operation_number LOCK = 94
operation_number NOP = 95
operation_number SALC = 96

-- the operation of a number, if there is one
abbrev pub operation_numbered : ℕ → Option Operation
operation_numbered n = cond (ltb n (length operations)) (Some (operation_at n)) None
