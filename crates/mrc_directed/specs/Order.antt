-- Rule 1.1, the other way round: an instruction with its two operands exchanged.
use Rattle.mrc_instruction.specs.declared.instruction.OperandSet.{OperandSet}
use Rattle.mrc_instruction.specs.Instruction.{on_operands}
use Rattle.mrc_instruction.specs.Reader.{Outcome, got, stopped}
use Rattle.mrc_rules.specs.Forms.{Tail}

abbrev pub turned : OperandSet → OperandSet
turned OperandSet.None = OperandSet.None
turned (OperandSet.Destination destination) = OperandSet.Destination destination
turned (OperandSet.DestinationAndSource destination source) = OperandSet.DestinationAndSource source destination

abbrev pub exchanged : Tail → Tail
exchanged i = on_operands (turned i.operands) i

abbrev pub exchanged_in : Outcome Tail → Outcome Tail
exchanged_in (got i n) = got (exchanged i) n
exchanged_in (stopped e n) = stopped e n
