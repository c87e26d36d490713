-- Every operation stands in the list at its number, and the numbers are in order; so what is computed over the 97 at once holds of each.
-- Assumes nothing.
use mathlib.Core.Path.{◌≡◌, refl}
use mathlib.Core.List.{map}
use Prim.Native.Nat.{◌<◌}
use lib.Dec.{lit<}
use lib.ListN.{get_or}
use Rattle.mrc_instruction.specs.declared.operation.Operation.{Operation}
use Rattle.mrc_instruction.specs.declared.operation.Operation.TheVariants.{MOV, PUSH, POP, XCHG, IN, OUT, XLATB, LEA, LDS, LES, LAHF, SAHF, PUSHF, POPF, ADD, ADC, INC, AAA, DAA, SUB, SBB, DEC, NEG, CMP, AAS, DAS, MUL, IMUL, AAM, DIV, IDIV, AAD, CBW, CWD, NOT, SHL, SHR, SAR, ROL, ROR, RCL, RCR, AND, TEST, OR, XOR, MOVSB, MOVSW, CMPSB, CMPSW, SCASB, SCASW, LODSB, LODSW, STOSB, STOSW, CALL, JMP, RET, JE, JL, JLE, JB, JBE, JP, JO, JS, JNE, JNL, JNLE, JNB, JNBE, JNP, JNO, JNS, LOOP, LOOPZ, LOOPNZ, JCXZ, INT, INT1, INT3, INTO, IRET, CLC, CMC, STC, CLD, STD, CLI, STI, HLT, WAIT, ESC, LOCK, NOP, SALC}
use Rattle.mrc_instruction.specs.BothWays.{BothWays}
use Rattle.mrc_instruction.specs.Operation.{operations, operation_at, operation_number}
use Rattle.mrc_instruction.proofs.Numbered as Numbered
use Rattle.mrc_instruction.proofs.Numbered.{both_ways}

stands : (o : Operation) → (operation_number o < 97) × (operation_at (operation_number o) ≡ o)
stands MOV = (lit< tt, refl)
stands PUSH = (lit< tt, refl)
stands POP = (lit< tt, refl)
stands XCHG = (lit< tt, refl)
stands IN = (lit< tt, refl)
stands OUT = (lit< tt, refl)
stands XLATB = (lit< tt, refl)
stands LEA = (lit< tt, refl)
stands LDS = (lit< tt, refl)
stands LES = (lit< tt, refl)
stands LAHF = (lit< tt, refl)
stands SAHF = (lit< tt, refl)
stands PUSHF = (lit< tt, refl)
stands POPF = (lit< tt, refl)
stands ADD = (lit< tt, refl)
stands ADC = (lit< tt, refl)
stands INC = (lit< tt, refl)
stands AAA = (lit< tt, refl)
stands DAA = (lit< tt, refl)
stands SUB = (lit< tt, refl)
stands SBB = (lit< tt, refl)
stands DEC = (lit< tt, refl)
stands NEG = (lit< tt, refl)
stands CMP = (lit< tt, refl)
stands AAS = (lit< tt, refl)
stands DAS = (lit< tt, refl)
stands MUL = (lit< tt, refl)
stands IMUL = (lit< tt, refl)
stands AAM = (lit< tt, refl)
stands DIV = (lit< tt, refl)
stands IDIV = (lit< tt, refl)
stands AAD = (lit< tt, refl)
stands CBW = (lit< tt, refl)
stands CWD = (lit< tt, refl)
stands NOT = (lit< tt, refl)
stands SHL = (lit< tt, refl)
stands SHR = (lit< tt, refl)
stands SAR = (lit< tt, refl)
stands ROL = (lit< tt, refl)
stands ROR = (lit< tt, refl)
stands RCL = (lit< tt, refl)
stands RCR = (lit< tt, refl)
stands AND = (lit< tt, refl)
stands TEST = (lit< tt, refl)
stands OR = (lit< tt, refl)
stands XOR = (lit< tt, refl)
stands MOVSB = (lit< tt, refl)
stands MOVSW = (lit< tt, refl)
stands CMPSB = (lit< tt, refl)
stands CMPSW = (lit< tt, refl)
stands SCASB = (lit< tt, refl)
stands SCASW = (lit< tt, refl)
stands LODSB = (lit< tt, refl)
stands LODSW = (lit< tt, refl)
stands STOSB = (lit< tt, refl)
stands STOSW = (lit< tt, refl)
stands CALL = (lit< tt, refl)
stands JMP = (lit< tt, refl)
stands RET = (lit< tt, refl)
stands JE = (lit< tt, refl)
stands JL = (lit< tt, refl)
stands JLE = (lit< tt, refl)
stands JB = (lit< tt, refl)
stands JBE = (lit< tt, refl)
stands JP = (lit< tt, refl)
stands JO = (lit< tt, refl)
stands JS = (lit< tt, refl)
stands JNE = (lit< tt, refl)
stands JNL = (lit< tt, refl)
stands JNLE = (lit< tt, refl)
stands JNB = (lit< tt, refl)
stands JNBE = (lit< tt, refl)
stands JNP = (lit< tt, refl)
stands JNO = (lit< tt, refl)
stands JNS = (lit< tt, refl)
stands LOOP = (lit< tt, refl)
stands LOOPZ = (lit< tt, refl)
stands LOOPNZ = (lit< tt, refl)
stands JCXZ = (lit< tt, refl)
stands INT = (lit< tt, refl)
stands INT1 = (lit< tt, refl)
stands INT3 = (lit< tt, refl)
stands INTO = (lit< tt, refl)
stands IRET = (lit< tt, refl)
stands CLC = (lit< tt, refl)
stands CMC = (lit< tt, refl)
stands STC = (lit< tt, refl)
stands CLD = (lit< tt, refl)
stands STD = (lit< tt, refl)
stands CLI = (lit< tt, refl)
stands STI = (lit< tt, refl)
stands HLT = (lit< tt, refl)
stands WAIT = (lit< tt, refl)
stands ESC = (lit< tt, refl)
stands LOCK = (lit< tt, refl)
stands NOP = (lit< tt, refl)
stands SALC = (lit< tt, refl)

pub operations_both_ways : BothWays 97 operation_at operation_number
operations_both_ways = both_ways operation_number operations SALC refl stands

-- what is computed over all holds of each
pub found : {A : Type 0} (f : Operation → A) (e : A) (o : Operation) → get_or (map f operations) (operation_number o) e ≡ f o
found = Numbered.found operation_number operations SALC operations_both_ways

pub each : {A : Type 0} (f g : Operation → A) → map f operations ≡ map g operations → (o : Operation) → f o ≡ g o
each = Numbered.each operation_number operations SALC operations_both_ways
