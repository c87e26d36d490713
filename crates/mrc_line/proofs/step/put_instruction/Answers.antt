-- Five pieces in a row.
-- Assumes nothing.
use Rattle.mrc_line.specs.Line.{instruction_text}
use Rattle.mrc_line.proofs.Put.{then}
use Rattle.mrc_line.proofs.step.put_instruction.Goals as goal

pub returns : goal.returns
unfolding instruction_text
returns c = then c.put_repeat-a.ensures (then c.put_kept-b.ensures (then c.put_name-c.ensures (then c.put_reach-d.ensures c.put_operands.ensures)))
