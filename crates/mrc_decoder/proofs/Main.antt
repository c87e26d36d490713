-- What is shown of the decoder. `decode_instruction` promises `decode_at`, and `table_row` the code of its opcode's row: each is an equation, so
-- exactly one answer meets it (`an_equation_settles` of mrc_instruction).
-- Assumes nothing.
use Prim.Native.Nat.{ℕ, ◌+◌, min}
use mathlib.Core.Path.{◌≡◌, ap, ◌∙◌}
use mathlib.Core.List.{List}
use lib.ListN.{length, drop}
use Rattle.mrc_instruction.specs.declared.reading.Reading.{Reading}
use Rattle.mrc_rules.specs.declared.Answer.{Answer}
use Rattle.mrc_rules.specs.Answer.{prefixes}
use Rattle.mrc_rules.specs.Prefixes.{run_of}
use Rattle.mrc_rules.specs.Decode.{decode_at}
use Rattle.mrc_rules.proofs.Counting.{prefix_count}

-- the prefixes of every answer are the leading prefix bytes, up to one more than the budget
pub prefixes_settled : (x : Reading) (s : List ℕ) (at budget : ℕ) (r : Answer) → r ≡ decode_at x s at budget
    → prefixes r ≡ min (length (run_of (drop at s))) (budget + 1)
prefixes_settled x s at budget r e = ap prefixes e ∙ prefix_count x s at budget
