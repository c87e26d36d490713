-- A shift counts alike at every size of its operand.
-- Assumes nothing.
use Rattle.mrc_decoder.proofs.decode.behind_modrm.Goals as goal

pub returns-in-ShiftByImmediate : goal.returns-in-ShiftByImmediate
returns-in-ShiftByImmediate c = rw c.in-ShiftByImmediate.is (c.shift_by_immediate.ensures c.args.size)

pub returns-in-ShiftByOne : goal.returns-in-ShiftByOne
returns-in-ShiftByOne c = rw c.in-ShiftByOne.is (c.shift_by_one.ensures c.args.size)
