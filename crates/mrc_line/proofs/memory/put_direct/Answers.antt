-- Three pieces in a row.
-- Assumes nothing.
use Rattle.std.proofs.Common.{◌≡◌, List, ℕ, ◌++◌, append_assoc}
use Rattle.mrc_instruction.specs.declared.operand.OperandSize.{OperandSize}
use Rattle.mrc_instruction.specs.declared.register.Segment.{Segment}
use Rattle.mrc_line.specs.Text.{bytes, hex4}
use Rattle.mrc_line.specs.Operands.{size_text, segment_text, memory_text}
use Rattle.mrc_line.proofs.Put.{then, same}
use Rattle.mrc_line.proofs.memory.put_direct.Goals as goal

bracketed :
    (size : OperandSize) (segment : Segment) (address : List ℕ) →
    (size_text size ++ (segment_text segment ++ bytes ":[")) ++ (address ++ bytes "]") ≡ memory_text size segment address
bracketed size segment address = simp append_assoc

pub returns : goal.returns
returns c =
    let a = c.args in
    same (bracketed a.size a.segment (hex4 a.offset)) (then c.put_opening-o.ensures (then c.put_hex4-c.ensures c.put_byte.ensures))
