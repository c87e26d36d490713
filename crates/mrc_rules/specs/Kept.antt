-- Rule 7.11: the override that an instruction keeps, by its first byte: a second account beside the operations.
use Rattle.std.specs.Prelude.{ℕ, cond, Option, Some, None}
use Rattle.mrc_instruction.specs.declared.reading.Reading.{Reading}
use Rattle.mrc_instruction.specs.declared.register.Segment.{Segment}
use Rattle.mrc_rules.specs.Prefixes.{override_segment}
use Rattle.mrc_rules.specs.Refusals.{keeps_at}

-- by the first override, if any, and the opcode
abbrev pub kept_of : Reading → Option ℕ → ℕ → Option Segment
kept_of x None opcode = None
kept_of x (Some o) opcode = cond (keeps_at x opcode) (Some (override_segment o)) None
