-- The measure is the budget.
use Rattle.mrc_decoder.proofs.decode.+decode_instruction.Given as goal

abbrev pub decreases-decode_instruction : goal.decreases-decode_instruction
decreases-decode_instruction l = l.budget
