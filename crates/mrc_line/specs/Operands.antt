-- Rule 12.4: the text of operands.
use Rattle.std.specs.Prelude.{ℕ, List, [], ◌∷◌, ◌++◌, ℤ, pos, negsuc, slice_index_or, unsigned_abs}
use Rattle.mrc_instruction.specs.declared.reading.Reading.{Reading}
use Rattle.mrc_instruction.specs.declared.reading.Reading.TheVariants.{One, Two}
use Rattle.mrc_instruction.specs.declared.register.RegisterEncoding.{RegisterEncoding}
use Rattle.mrc_instruction.specs.declared.register.RegisterEncoding.TheVariants.{AlAx, ClCx, DlDx, BlBx, AhSp, ChBp, DhSi, BhDi}
use Rattle.mrc_instruction.specs.declared.register.Segment.{Segment}
use Rattle.mrc_instruction.specs.declared.register.Segment.TheVariants.{ES, CS, SS, DS}
use Rattle.mrc_instruction.specs.declared.operand.OperandSize.{OperandSize}
use Rattle.mrc_instruction.specs.declared.operand.OperandSize.TheVariants.{Byte, Word}
use Rattle.mrc_instruction.specs.declared.operand.AddressingMode.{AddressingMode}
use Rattle.mrc_instruction.specs.declared.operand.AddressingMode.TheVariants.{BxSi, BxDi, BpSi, BpDi, Si, Di, Bp, Bx}
use Rattle.mrc_instruction.specs.declared.operand.Displacement.{Displacement}
use Rattle.mrc_instruction.specs.declared.operand.Immediate.{Immediate}
use Rattle.mrc_instruction.specs.declared.operand.Operand.{Operand}
use Rattle.mrc_instruction.specs.declared.instruction.OperandSet.{OperandSet}
use Rattle.mrc_instruction.specs.declared.operation.Operation.{Operation}
use Rattle.mrc_line.specs.declared.printed.Printed.{Printed}
use Rattle.mrc_line.specs.Text.{bytes, hex2, hex4}
use Rattle.mrc_line.specs.Printed.{alone, beside}

-- rule 12.4: the names of registers, segments and modes
abbrev pub register_text : RegisterEncoding → OperandSize → List ℕ
register_text AlAx Byte = bytes "AL"
register_text ClCx Byte = bytes "CL"
register_text DlDx Byte = bytes "DL"
register_text BlBx Byte = bytes "BL"
register_text AhSp Byte = bytes "AH"
register_text ChBp Byte = bytes "CH"
register_text DhSi Byte = bytes "DH"
register_text BhDi Byte = bytes "BH"
register_text AlAx Word = bytes "AX"
register_text ClCx Word = bytes "CX"
register_text DlDx Word = bytes "DX"
register_text BlBx Word = bytes "BX"
register_text AhSp Word = bytes "SP"
register_text ChBp Word = bytes "BP"
register_text DhSi Word = bytes "SI"
register_text BhDi Word = bytes "DI"

abbrev pub segment_text : Segment → List ℕ
segment_text ES = bytes "ES"
segment_text CS = bytes "CS"
segment_text SS = bytes "SS"
segment_text DS = bytes "DS"

abbrev pub mode_text : AddressingMode → List ℕ
mode_text BxSi = bytes "BX+SI"
mode_text BxDi = bytes "BX+DI"
mode_text BpSi = bytes "BP+SI"
mode_text BpDi = bytes "BP+DI"
mode_text Si = bytes "SI"
mode_text Di = bytes "DI"
mode_text Bp = bytes "BP"
mode_text Bx = bytes "BX"

abbrev pub size_text : OperandSize → List ℕ
size_text Byte = bytes "BYTE "
size_text Word = bytes "WORD "

-- rule 12.4: a displacement within brackets
abbrev pub sign_of : ℤ → ℕ
sign_of (pos n) = 43
sign_of (negsuc n) = 45

abbrev pub displacement_text : Displacement → List ℕ
displacement_text Displacement.None = []
displacement_text (Displacement.Byte d) = sign_of d ∷ hex2 (unsigned_abs d)
displacement_text (Displacement.Word d) = sign_of d ∷ hex4 (unsigned_abs d)

-- rule 12.4: where it is None: the zero bytes that were written, which reading 1 does not print
abbrev pub zeros_text : Reading → ℕ → List ℕ
zeros_text One written = []
zeros_text Two written = slice_index_or ([] ∷ bytes "+00" ∷ bytes "+0000" ∷ []) written []

-- a displacement within brackets that was written in so many bytes
abbrev pub offset_text : Reading → ℕ → Displacement → List ℕ
offset_text x written Displacement.None = zeros_text x written
offset_text x written (Displacement.Byte d) = displacement_text (Displacement.Byte d)
offset_text x written (Displacement.Word d) = displacement_text (Displacement.Word d)

-- rule 12.4: immediates
abbrev pub immediate_text : Immediate → List ℕ
immediate_text (Immediate.Byte b) = hex2 b
immediate_text (Immediate.Word w) = hex4 w

-- rule 12.4: memory
abbrev pub memory_text : OperandSize → Segment → List ℕ → List ℕ
memory_text size segment address = size_text size ++ (segment_text segment ++ (bytes ":[" ++ (address ++ bytes "]")))

-- rules 12.5 and 12.6: what is printed for a displacement, as text; one with its sign that is none is +00
abbrev pub signed_text : Displacement → List ℕ
signed_text Displacement.None = bytes "+00"
signed_text (Displacement.Byte d) = displacement_text (Displacement.Byte d)
signed_text (Displacement.Word d) = displacement_text (Displacement.Word d)

abbrev pub printed_text : Printed → List ℕ
printed_text (Printed.Word w) = hex4 w
printed_text (Printed.Signed d) = signed_text d

-- rule 12.4: an operand of an instruction that has so many displacement bytes, by what is printed for a displacement
abbrev pub operand_text : Reading → ℕ → (Displacement → Printed) → Operand → List ℕ
operand_text x written printed (Operand.Direct segment size offset) = memory_text size segment (hex4 offset)
operand_text x written printed (Operand.Indirect segment size mode displacement) =
    memory_text size segment (mode_text mode ++ offset_text x written displacement)
operand_text x written printed (Operand.Register register) = register_text register.0 register.1
operand_text x written printed (Operand.Segment segment) = segment_text segment
operand_text x written printed (Operand.Immediate immediate) = immediate_text immediate
operand_text x written printed (Operand.Displacement displacement) = printed_text (printed displacement)
operand_text x written printed (Operand.SegmentAndOffset address) = hex4 address.segment ++ (bytes ":" ++ hex4 address.offset)

-- rule 12.2: the destination before the source
abbrev pub operands_text : Reading → ℕ → Operation → ℕ → ℕ → OperandSet → List ℕ
operands_text x written operation start taken OperandSet.None = []
operands_text x written operation start taken (OperandSet.Destination destination) = bytes " " ++ operand_text x written (alone operation start taken) destination
operands_text x written operation start taken (OperandSet.DestinationAndSource destination source) =
    bytes " " ++ (operand_text x written beside destination ++ (bytes ", " ++ operand_text x written beside source))
