-- Internal: what the parts of the decoder owe each other.
-- What a prefix makes of the answer behind it: the decoder calls itself after the prefix, with the budget one lower, and wraps what comes back.
-- Both counts grow by one.
use Rattle.std.specs.Prelude.{ℕ, ◌+◌, ◌<◌, ◌^◌, cond, eqb, ltb, Result, Ok, Err, Option, Some}
use Rattle.mrc_instruction.specs.declared.errors.Refusal.{Refusal}
use Rattle.mrc_instruction.specs.declared.errors.Refusal.TheVariants.{EndOfInput, InvalidPrefix, TooManyPrefixes, OutsideInput}
use Rattle.mrc_instruction.specs.Errors.{number_of}
use Rattle.mrc_instruction.specs.declared.reading.Reading.{Reading}
use Rattle.mrc_instruction.specs.declared.instruction.Repeat.{Repeat}
use Rattle.mrc_instruction.specs.declared.instruction.Instruction.{Instruction}
use Rattle.mrc_rules.specs.declared.Answer.{Answer}
use Rattle.mrc_rules.specs.Answer.{answer, refuses, taken, prefixes}
use Rattle.mrc_rules.specs.Prefixes.{repeat_of, made, under}

-- a refusal under an override: too many prefixes passes through; any other, an inner override's too, becomes InvalidPrefix with this override,
-- which is the earlier one
abbrev pub refusal_under : ℕ → Refusal → Refusal
refusal_under o e = cond (eqb (number_of e) 10) e (InvalidPrefix o)

-- a result under an override, by what the override makes of an instruction; and under a repeat
abbrev pub result_under : (ℕ → Instruction → Result Instruction Refusal) → ℕ → Result Instruction Refusal → Result Instruction Refusal
result_under over o (Ok i) = over o i
result_under over o (Err e) = Err (refusal_under o e)

abbrev pub result_repeated : Option Repeat → Result Instruction Refusal → Result Instruction Refusal
result_repeated r (Ok i) = Ok (made i r i.operands)
result_repeated r (Err e) = Err e

-- an answer behind one prefix more
abbrev pub wrapped : (Result Instruction Refusal → Result Instruction Refusal) → Answer → Answer
wrapped f d = answer (f d.result) (d.taken + 1) (d.prefixes + 1)

abbrev pub under_override_by : (ℕ → Instruction → Result Instruction Refusal) → ℕ → Answer → Answer
under_override_by over o d = wrapped (result_under over o) d

abbrev pub with_repeat : Option Repeat → Answer → Answer
with_repeat r d = wrapped (result_repeated r) d

-- by the rules: the operands' segments are replaced, or the override is kept, and a repeat stays
abbrev pub overridden : Reading → ℕ → Instruction → Result Instruction Refusal
overridden x o i = under x o i.repeat i i.operands

abbrev pub under_override : Reading → ℕ → Answer → Answer
under_override x = under_override_by (overridden x)

-- a prefix of either kind: the repeats are the two greatest
abbrev pub behind_prefix : Reading → ℕ → Answer → Answer
behind_prefix x b d = cond (ltb b 0xF0) (under_override x b d) (with_repeat (repeat_of (Some b)) d)

-- a prefix over the budget
abbrev pub too_many : ℕ → Answer
too_many b = refuses (TooManyPrefixes b) 1 1

-- no byte at a position: rule 8.4 at the end, rule 8.3 past it
abbrev pub past_end : ℕ → ℕ → Answer
past_end len at = cond (eqb len at) (refuses EndOfInput 0 0) (refuses OutsideInput 0 0)

-- both counts can grow by one
abbrev pub Small : Answer → Type 0
Small d = (taken d < 2 ^ 63) × (prefixes d < 2 ^ 63)
