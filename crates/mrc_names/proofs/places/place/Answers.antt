-- Each arm knows the operation, at which `place_of` computes.
-- Assumes nothing.
use Rattle.std.proofs.Common.{ap, sym}
use mathlib.Core.List.{flatten}
use Rattle.mrc_names.specs.Places.{place_of}
use Rattle.mrc_names.proofs.places.place.Goals as goal

pub returns-in-MOV : goal.returns-in-MOV
unfolding flatten
returns-in-MOV c = sym (ap place_of c.in-MOV.is)

pub returns-in-PUSH : goal.returns-in-PUSH
unfolding flatten
returns-in-PUSH c = sym (ap place_of c.in-PUSH.is)

pub returns-in-POP : goal.returns-in-POP
unfolding flatten
returns-in-POP c = sym (ap place_of c.in-POP.is)

pub returns-in-XCHG : goal.returns-in-XCHG
unfolding flatten
returns-in-XCHG c = sym (ap place_of c.in-XCHG.is)

pub returns-in-IN : goal.returns-in-IN
unfolding flatten
returns-in-IN c = sym (ap place_of c.in-IN.is)

pub returns-in-OUT : goal.returns-in-OUT
unfolding flatten
returns-in-OUT c = sym (ap place_of c.in-OUT.is)

pub returns-in-XLATB : goal.returns-in-XLATB
unfolding flatten
returns-in-XLATB c = sym (ap place_of c.in-XLATB.is)

pub returns-in-LEA : goal.returns-in-LEA
unfolding flatten
returns-in-LEA c = sym (ap place_of c.in-LEA.is)

pub returns-in-LDS : goal.returns-in-LDS
unfolding flatten
returns-in-LDS c = sym (ap place_of c.in-LDS.is)

pub returns-in-LES : goal.returns-in-LES
unfolding flatten
returns-in-LES c = sym (ap place_of c.in-LES.is)

pub returns-in-LAHF : goal.returns-in-LAHF
unfolding flatten
returns-in-LAHF c = sym (ap place_of c.in-LAHF.is)

pub returns-in-SAHF : goal.returns-in-SAHF
unfolding flatten
returns-in-SAHF c = sym (ap place_of c.in-SAHF.is)

pub returns-in-PUSHF : goal.returns-in-PUSHF
unfolding flatten
returns-in-PUSHF c = sym (ap place_of c.in-PUSHF.is)

pub returns-in-POPF : goal.returns-in-POPF
unfolding flatten
returns-in-POPF c = sym (ap place_of c.in-POPF.is)

pub returns-in-ADD : goal.returns-in-ADD
unfolding flatten
returns-in-ADD c = sym (ap place_of c.in-ADD.is)

pub returns-in-ADC : goal.returns-in-ADC
unfolding flatten
returns-in-ADC c = sym (ap place_of c.in-ADC.is)

pub returns-in-INC : goal.returns-in-INC
unfolding flatten
returns-in-INC c = sym (ap place_of c.in-INC.is)

pub returns-in-AAA : goal.returns-in-AAA
unfolding flatten
returns-in-AAA c = sym (ap place_of c.in-AAA.is)

pub returns-in-DAA : goal.returns-in-DAA
unfolding flatten
returns-in-DAA c = sym (ap place_of c.in-DAA.is)

pub returns-in-SUB : goal.returns-in-SUB
unfolding flatten
returns-in-SUB c = sym (ap place_of c.in-SUB.is)

pub returns-in-SBB : goal.returns-in-SBB
unfolding flatten
returns-in-SBB c = sym (ap place_of c.in-SBB.is)

pub returns-in-DEC : goal.returns-in-DEC
unfolding flatten
returns-in-DEC c = sym (ap place_of c.in-DEC.is)

pub returns-in-NEG : goal.returns-in-NEG
unfolding flatten
returns-in-NEG c = sym (ap place_of c.in-NEG.is)

pub returns-in-CMP : goal.returns-in-CMP
unfolding flatten
returns-in-CMP c = sym (ap place_of c.in-CMP.is)

pub returns-in-AAS : goal.returns-in-AAS
unfolding flatten
returns-in-AAS c = sym (ap place_of c.in-AAS.is)

pub returns-in-DAS : goal.returns-in-DAS
unfolding flatten
returns-in-DAS c = sym (ap place_of c.in-DAS.is)

pub returns-in-MUL : goal.returns-in-MUL
unfolding flatten
returns-in-MUL c = sym (ap place_of c.in-MUL.is)

pub returns-in-IMUL : goal.returns-in-IMUL
unfolding flatten
returns-in-IMUL c = sym (ap place_of c.in-IMUL.is)

pub returns-in-AAM : goal.returns-in-AAM
unfolding flatten
returns-in-AAM c = sym (ap place_of c.in-AAM.is)

pub returns-in-DIV : goal.returns-in-DIV
unfolding flatten
returns-in-DIV c = sym (ap place_of c.in-DIV.is)

pub returns-in-IDIV : goal.returns-in-IDIV
unfolding flatten
returns-in-IDIV c = sym (ap place_of c.in-IDIV.is)

pub returns-in-AAD : goal.returns-in-AAD
unfolding flatten
returns-in-AAD c = sym (ap place_of c.in-AAD.is)

pub returns-in-CBW : goal.returns-in-CBW
unfolding flatten
returns-in-CBW c = sym (ap place_of c.in-CBW.is)

pub returns-in-CWD : goal.returns-in-CWD
unfolding flatten
returns-in-CWD c = sym (ap place_of c.in-CWD.is)

pub returns-in-NOT : goal.returns-in-NOT
unfolding flatten
returns-in-NOT c = sym (ap place_of c.in-NOT.is)

pub returns-in-SHL : goal.returns-in-SHL
unfolding flatten
returns-in-SHL c = sym (ap place_of c.in-SHL.is)

pub returns-in-SHR : goal.returns-in-SHR
unfolding flatten
returns-in-SHR c = sym (ap place_of c.in-SHR.is)

pub returns-in-SAR : goal.returns-in-SAR
unfolding flatten
returns-in-SAR c = sym (ap place_of c.in-SAR.is)

pub returns-in-ROL : goal.returns-in-ROL
unfolding flatten
returns-in-ROL c = sym (ap place_of c.in-ROL.is)

pub returns-in-ROR : goal.returns-in-ROR
unfolding flatten
returns-in-ROR c = sym (ap place_of c.in-ROR.is)

pub returns-in-RCL : goal.returns-in-RCL
unfolding flatten
returns-in-RCL c = sym (ap place_of c.in-RCL.is)

pub returns-in-RCR : goal.returns-in-RCR
unfolding flatten
returns-in-RCR c = sym (ap place_of c.in-RCR.is)

pub returns-in-AND : goal.returns-in-AND
unfolding flatten
returns-in-AND c = sym (ap place_of c.in-AND.is)

pub returns-in-TEST : goal.returns-in-TEST
unfolding flatten
returns-in-TEST c = sym (ap place_of c.in-TEST.is)

pub returns-in-OR : goal.returns-in-OR
unfolding flatten
returns-in-OR c = sym (ap place_of c.in-OR.is)

pub returns-in-XOR : goal.returns-in-XOR
unfolding flatten
returns-in-XOR c = sym (ap place_of c.in-XOR.is)

pub returns-in-MOVSB : goal.returns-in-MOVSB
unfolding flatten
returns-in-MOVSB c = sym (ap place_of c.in-MOVSB.is)

pub returns-in-MOVSW : goal.returns-in-MOVSW
unfolding flatten
returns-in-MOVSW c = sym (ap place_of c.in-MOVSW.is)

pub returns-in-CMPSB : goal.returns-in-CMPSB
unfolding flatten
returns-in-CMPSB c = sym (ap place_of c.in-CMPSB.is)

pub returns-in-CMPSW : goal.returns-in-CMPSW
unfolding flatten
returns-in-CMPSW c = sym (ap place_of c.in-CMPSW.is)

pub returns-in-SCASB : goal.returns-in-SCASB
unfolding flatten
returns-in-SCASB c = sym (ap place_of c.in-SCASB.is)

pub returns-in-SCASW : goal.returns-in-SCASW
unfolding flatten
returns-in-SCASW c = sym (ap place_of c.in-SCASW.is)

pub returns-in-LODSB : goal.returns-in-LODSB
unfolding flatten
returns-in-LODSB c = sym (ap place_of c.in-LODSB.is)

pub returns-in-LODSW : goal.returns-in-LODSW
unfolding flatten
returns-in-LODSW c = sym (ap place_of c.in-LODSW.is)

pub returns-in-STOSB : goal.returns-in-STOSB
unfolding flatten
returns-in-STOSB c = sym (ap place_of c.in-STOSB.is)

pub returns-in-STOSW : goal.returns-in-STOSW
unfolding flatten
returns-in-STOSW c = sym (ap place_of c.in-STOSW.is)

pub returns-in-CALL : goal.returns-in-CALL
unfolding flatten
returns-in-CALL c = sym (ap place_of c.in-CALL.is)

pub returns-in-JMP : goal.returns-in-JMP
unfolding flatten
returns-in-JMP c = sym (ap place_of c.in-JMP.is)

pub returns-in-RET : goal.returns-in-RET
unfolding flatten
returns-in-RET c = sym (ap place_of c.in-RET.is)

pub returns-in-JE : goal.returns-in-JE
unfolding flatten
returns-in-JE c = sym (ap place_of c.in-JE.is)

pub returns-in-JL : goal.returns-in-JL
unfolding flatten
returns-in-JL c = sym (ap place_of c.in-JL.is)

pub returns-in-JLE : goal.returns-in-JLE
unfolding flatten
returns-in-JLE c = sym (ap place_of c.in-JLE.is)

pub returns-in-JB : goal.returns-in-JB
unfolding flatten
returns-in-JB c = sym (ap place_of c.in-JB.is)

pub returns-in-JBE : goal.returns-in-JBE
unfolding flatten
returns-in-JBE c = sym (ap place_of c.in-JBE.is)

pub returns-in-JP : goal.returns-in-JP
unfolding flatten
returns-in-JP c = sym (ap place_of c.in-JP.is)

pub returns-in-JO : goal.returns-in-JO
unfolding flatten
returns-in-JO c = sym (ap place_of c.in-JO.is)

pub returns-in-JS : goal.returns-in-JS
unfolding flatten
returns-in-JS c = sym (ap place_of c.in-JS.is)

pub returns-in-JNE : goal.returns-in-JNE
unfolding flatten
returns-in-JNE c = sym (ap place_of c.in-JNE.is)

pub returns-in-JNL : goal.returns-in-JNL
unfolding flatten
returns-in-JNL c = sym (ap place_of c.in-JNL.is)

pub returns-in-JNLE : goal.returns-in-JNLE
unfolding flatten
returns-in-JNLE c = sym (ap place_of c.in-JNLE.is)

pub returns-in-JNB : goal.returns-in-JNB
unfolding flatten
returns-in-JNB c = sym (ap place_of c.in-JNB.is)

pub returns-in-JNBE : goal.returns-in-JNBE
unfolding flatten
returns-in-JNBE c = sym (ap place_of c.in-JNBE.is)

pub returns-in-JNP : goal.returns-in-JNP
unfolding flatten
returns-in-JNP c = sym (ap place_of c.in-JNP.is)

pub returns-in-JNO : goal.returns-in-JNO
unfolding flatten
returns-in-JNO c = sym (ap place_of c.in-JNO.is)

pub returns-in-JNS : goal.returns-in-JNS
unfolding flatten
returns-in-JNS c = sym (ap place_of c.in-JNS.is)

pub returns-in-LOOP : goal.returns-in-LOOP
unfolding flatten
returns-in-LOOP c = sym (ap place_of c.in-LOOP.is)

pub returns-in-LOOPZ : goal.returns-in-LOOPZ
unfolding flatten
returns-in-LOOPZ c = sym (ap place_of c.in-LOOPZ.is)

pub returns-in-LOOPNZ : goal.returns-in-LOOPNZ
unfolding flatten
returns-in-LOOPNZ c = sym (ap place_of c.in-LOOPNZ.is)

pub returns-in-JCXZ : goal.returns-in-JCXZ
unfolding flatten
returns-in-JCXZ c = sym (ap place_of c.in-JCXZ.is)

pub returns-in-INT : goal.returns-in-INT
unfolding flatten
returns-in-INT c = sym (ap place_of c.in-INT.is)

pub returns-in-INT1 : goal.returns-in-INT1
unfolding flatten
returns-in-INT1 c = sym (ap place_of c.in-INT1.is)

pub returns-in-INT3 : goal.returns-in-INT3
unfolding flatten
returns-in-INT3 c = sym (ap place_of c.in-INT3.is)

pub returns-in-INTO : goal.returns-in-INTO
unfolding flatten
returns-in-INTO c = sym (ap place_of c.in-INTO.is)

pub returns-in-IRET : goal.returns-in-IRET
unfolding flatten
returns-in-IRET c = sym (ap place_of c.in-IRET.is)

pub returns-in-CLC : goal.returns-in-CLC
unfolding flatten
returns-in-CLC c = sym (ap place_of c.in-CLC.is)

pub returns-in-CMC : goal.returns-in-CMC
unfolding flatten
returns-in-CMC c = sym (ap place_of c.in-CMC.is)

pub returns-in-STC : goal.returns-in-STC
unfolding flatten
returns-in-STC c = sym (ap place_of c.in-STC.is)

pub returns-in-CLD : goal.returns-in-CLD
unfolding flatten
returns-in-CLD c = sym (ap place_of c.in-CLD.is)

pub returns-in-STD : goal.returns-in-STD
unfolding flatten
returns-in-STD c = sym (ap place_of c.in-STD.is)

pub returns-in-CLI : goal.returns-in-CLI
unfolding flatten
returns-in-CLI c = sym (ap place_of c.in-CLI.is)

pub returns-in-STI : goal.returns-in-STI
unfolding flatten
returns-in-STI c = sym (ap place_of c.in-STI.is)

pub returns-in-HLT : goal.returns-in-HLT
unfolding flatten
returns-in-HLT c = sym (ap place_of c.in-HLT.is)

pub returns-in-WAIT : goal.returns-in-WAIT
unfolding flatten
returns-in-WAIT c = sym (ap place_of c.in-WAIT.is)

pub returns-in-ESC : goal.returns-in-ESC
unfolding flatten
returns-in-ESC c = sym (ap place_of c.in-ESC.is)

pub returns-in-LOCK : goal.returns-in-LOCK
unfolding flatten
returns-in-LOCK c = sym (ap place_of c.in-LOCK.is)

pub returns-in-NOP : goal.returns-in-NOP
unfolding flatten
returns-in-NOP c = sym (ap place_of c.in-NOP.is)

pub returns-in-SALC : goal.returns-in-SALC
unfolding flatten
returns-in-SALC c = sym (ap place_of c.in-SALC.is)
