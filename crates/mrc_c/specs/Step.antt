-- Rule 15.6: the counts of a decode and its refusal's number, 0 for an instruction, as one number. Each count is below 65,536: the prefixes are at
-- most 256, and at most six bytes follow them.
use Rattle.std.specs.Prelude.{ℕ, ◌+◌, ◌*◌}
use Rattle.mrc_instruction.specs.Widths.{words, double_words}
use Rattle.mrc_rules.specs.declared.Answer.{Answer}
use Rattle.mrc_rules.specs.Answer.{number, taken, prefixes}

abbrev pub step_code : Answer → ℕ
step_code d = taken d + words * prefixes d + double_words * number d
