-- Rules 16.4 to 16.7: thirteen bytes, and the six lines that they list as; calls, jumps and returns, near and far; what reading 2 has otherwise; and
-- displacements of 0, written and not.
use Rattle.std.specs.Prelude.{ℕ, List, [], ◌∷◌}
use Prim.Native.String.{String}
use Rattle.mrc_instruction.specs.declared.reading.Reading.{Reading}
use Rattle.mrc_instruction.specs.declared.reading.Reading.TheVariants.{One, Two}

abbrev pub image : List ℕ
image = 0x26 ∷ 0x8B ∷ 0x47 ∷ 0xFE ∷ 0xF3 ∷ 0xA4 ∷ 0x75 ∷ 0xF8 ∷ 0x83 ∷ 0xC0 ∷ 0xFF ∷ 0x60 ∷ 0x8B ∷ []

abbrev pub printed : List String
printed =
    "0000  26 8B 47 FE            MOV AX, WORD ES:[BX-02]"
    ∷ "0004  F3 A4                  REPE MOVSB"
    ∷ "0006  75 F8                  JNE 0000"
    ∷ "0008  83 C0 FF               ADD AX, 00FF"
    ∷ "000B  60                     DB 60"
    ∷ "000C  8B                     DB 8B"
    ∷ []

abbrev pub transfers : List ℕ
transfers =
    0x9A ∷ 0x78 ∷ 0x56 ∷ 0x34 ∷ 0x12
    ∷ 0xEA ∷ 0x78 ∷ 0x56 ∷ 0x34 ∷ 0x12
    ∷ 0xCA ∷ 0x04 ∷ 0x00
    ∷ 0xCB
    ∷ 0xC2 ∷ 0x04 ∷ 0x00
    ∷ 0xC3
    ∷ 0xFF ∷ 0x1F
    ∷ 0xFF ∷ 0x17
    ∷ 0xFF ∷ 0x2F
    ∷ 0xFF ∷ 0x27
    ∷ 0xFE ∷ 0x1F
    ∷ 0xE8 ∷ 0x00 ∷ 0x00
    ∷ 0xEB ∷ 0xFE
    ∷ 0xF3 ∷ 0x26 ∷ 0xFF ∷ 0x6E ∷ 0x05
    ∷ 0xCF
    ∷ []

abbrev pub transfers_printed : List String
transfers_printed =
    "0000  9A 78 56 34 12         CALL FAR 1234:5678"
    ∷ "0005  EA 78 56 34 12         JMP FAR 1234:5678"
    ∷ "000A  CA 04 00               RET FAR 0004"
    ∷ "000D  CB                     RET FAR"
    ∷ "000E  C2 04 00               RET 0004"
    ∷ "0011  C3                     RET"
    ∷ "0012  FF 1F                  CALL FAR WORD DS:[BX]"
    ∷ "0014  FF 17                  CALL WORD DS:[BX]"
    ∷ "0016  FF 2F                  JMP FAR WORD DS:[BX]"
    ∷ "0018  FF 27                  JMP WORD DS:[BX]"
    ∷ "001A  FE 1F                  CALL BYTE DS:[BX]"
    ∷ "001C  E8 00 00               CALL 001F"
    ∷ "001F  EB FE                  JMP 001F"
    ∷ "0021  F3 26 FF 6E 05         REPE JMP FAR WORD ES:[BP+05]"
    ∷ "0026  CF                     IRET"
    ∷ []

abbrev pub differences : List ℕ
differences =
    0x83 ∷ 0xC0 ∷ 0xFF
    ∷ 0x8B ∷ 0x46 ∷ 0x02
    ∷ 0x8B ∷ 0x42 ∷ 0xFE
    ∷ 0x8B ∷ 0x03
    ∷ 0x3E ∷ 0x8B ∷ 0x46 ∷ 0x02
    ∷ 0x8D ∷ 0x5E ∷ 0xFC
    ∷ 0xC4 ∷ 0x7E ∷ 0x04
    ∷ 0xC5 ∷ 0x76 ∷ 0x06
    ∷ 0xD2 ∷ 0xE0
    ∷ 0xD3 ∷ 0xE0
    ∷ 0xC2 ∷ 0x04 ∷ 0x00
    ∷ 0xD9 ∷ 0x46 ∷ 0x10
    ∷ 0xD8 ∷ 0xC3
    ∷ 0x26 ∷ 0xD8 ∷ 0x07
    ∷ 0x26 ∷ 0xA4
    ∷ 0xF3 ∷ 0x26 ∷ 0xA4
    ∷ 0x26 ∷ 0xF3 ∷ 0xA4
    ∷ 0xF2 ∷ 0x2E ∷ 0xA6
    ∷ 0x3E ∷ 0xAC
    ∷ 0x36 ∷ 0xD7
    ∷ 0x26
    ∷ 0xAA
    ∷ []

abbrev pub differences_printed : List String
differences_printed =
    "0000  83 C0 FF               ADD AX, FFFF"
    ∷ "0003  8B 46 02               MOV AX, WORD SS:[BP+02]"
    ∷ "0006  8B 42 FE               MOV AX, WORD SS:[BP+SI-02]"
    ∷ "0009  8B 03                  MOV AX, WORD SS:[BP+DI]"
    ∷ "000B  3E 8B 46 02            MOV AX, WORD DS:[BP+02]"
    ∷ "000F  8D 5E FC               LEA BX, WORD SS:[BP-04]"
    ∷ "0012  C4 7E 04               LES DI, WORD SS:[BP+04]"
    ∷ "0015  C5 76 06               LDS SI, WORD SS:[BP+06]"
    ∷ "0018  D2 E0                  SHL AL, CL"
    ∷ "001A  D3 E0                  SHL AX, CL"
    ∷ "001C  C2 04 00               RET 0004"
    ∷ "001F  D9 46 10               ESC WORD SS:[BP+10]"
    ∷ "0022  D8 C3                  ESC BX"
    ∷ "0024  26 D8 07               ESC WORD ES:[BX]"
    ∷ "0027  26 A4                  ES: MOVSB"
    ∷ "0029  F3 26 A4               REPE ES: MOVSB"
    ∷ "002C  26 F3 A4               REPE ES: MOVSB"
    ∷ "002F  F2 2E A6               REPNE CS: CMPSB"
    ∷ "0032  3E AC                  DS: LODSB"
    ∷ "0034  36 D7                  SS: XLATB"
    ∷ "0036  26                     DB 26"
    ∷ "0037  AA                     STOSB"
    ∷ []

abbrev pub zeros : List ℕ
zeros =
    0x8B ∷ 0x07
    ∷ 0x8B ∷ 0x47 ∷ 0x00
    ∷ 0x8B ∷ 0x87 ∷ 0x00 ∷ 0x00
    ∷ 0xC6 ∷ 0x46 ∷ 0x00 ∷ 0x05
    ∷ 0x26 ∷ 0xFF ∷ 0x77 ∷ 0x00
    ∷ 0x8B ∷ 0x47 ∷ 0x01
    ∷ []

abbrev pub zeros_printed : Reading → List String
zeros_printed One =
    "0000  8B 07                  MOV AX, WORD DS:[BX]"
    ∷ "0002  8B 47 00               MOV AX, WORD DS:[BX]"
    ∷ "0005  8B 87 00 00            MOV AX, WORD DS:[BX]"
    ∷ "0009  C6 46 00 05            MOV BYTE DS:[BP], 05"
    ∷ "000D  26 FF 77 00            PUSH WORD ES:[BX]"
    ∷ "0011  8B 47 01               MOV AX, WORD DS:[BX+01]"
    ∷ []
zeros_printed Two =
    "0000  8B 07                  MOV AX, WORD DS:[BX]"
    ∷ "0002  8B 47 00               MOV AX, WORD DS:[BX+00]"
    ∷ "0005  8B 87 00 00            MOV AX, WORD DS:[BX+0000]"
    ∷ "0009  C6 46 00 05            MOV BYTE SS:[BP+00], 05"
    ∷ "000D  26 FF 77 00            PUSH WORD ES:[BX+00]"
    ∷ "0011  8B 47 01               MOV AX, WORD DS:[BX+01]"
    ∷ []
