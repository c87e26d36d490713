-- The table's rule, at the opcode.
-- Assumes nothing.
use Rattle.mrc_decoder.proofs.TableRule.{numbers, row_is}
use Rattle.mrc_decoder.proofs.table.table_row.Goals as goal

pub returns : goal.returns
unfolding numbers
returns c = row_is c.args.opcode
