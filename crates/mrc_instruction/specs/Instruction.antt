-- Rules 4.6, 5.10, 7.9 and 7.11: what a form makes has no repeat and keeps no override, is neither near nor far unless its row says so, and has no
-- displacement bytes unless a ModRM has them.
use Rattle.std.specs.Prelude.{ℕ, Option, Some, None}
use Rattle.mrc_instruction.specs.declared.operation.Operation.{Operation}
use Rattle.mrc_instruction.specs.declared.register.Segment.{Segment}
use Rattle.mrc_instruction.specs.declared.instruction.OperandSet.{OperandSet}
use Rattle.mrc_instruction.specs.declared.instruction.Repeat.{Repeat}
use Rattle.mrc_instruction.specs.declared.instruction.Reach.{Reach}
use Rattle.mrc_instruction.specs.declared.instruction.Instruction.{Instruction}

abbrev pub plain : Operation → OperandSet → Instruction
plain operation operands =
    record { reach = Reach.Neither; repeat = None; operation = operation; operands = operands; kept = None; written = 0 }

-- the same, near, far or neither; with a repeat; on other operands; keeping an override; with so many displacement bytes written
abbrev pub reached : Reach → Instruction → Instruction
reached reach i = record { reach = reach; repeat = i.repeat; operation = i.operation; operands = i.operands; kept = i.kept; written = i.written }

abbrev pub repeated_by : Option Repeat → Instruction → Instruction
repeated_by repeat i = record { reach = i.reach; repeat = repeat; operation = i.operation; operands = i.operands; kept = i.kept; written = i.written }

abbrev pub on_operands : OperandSet → Instruction → Instruction
on_operands operands i = record { reach = i.reach; repeat = i.repeat; operation = i.operation; operands = operands; kept = i.kept; written = i.written }

abbrev pub keeping_in : Segment → Instruction → Instruction
keeping_in segment i = record { reach = i.reach; repeat = i.repeat; operation = i.operation; operands = i.operands; kept = Some segment; written = i.written }

abbrev pub wrote : ℕ → Instruction → Instruction
wrote written i = record { reach = i.reach; repeat = i.repeat; operation = i.operation; operands = i.operands; kept = i.kept; written = written }
