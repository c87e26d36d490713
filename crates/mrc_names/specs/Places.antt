-- Where each name stands among the letters.
use mathlib.Core.List.{map, flatten}
use Rattle.std.specs.Prelude.{ℕ, ◌+◌, ◌-◌, ◌*◌, ◌/◌, length, take}
use Rattle.mrc_instruction.specs.declared.operation.Operation.{Operation}
use Rattle.mrc_instruction.specs.Operation.{operations, operation_number}
use Rattle.mrc_names.specs.Names.{name_of}

-- how many letters stand before a name: those of the names before it
abbrev pub start_of : Operation → ℕ
start_of o = length (flatten (map name_of (take (operation_number o) operations)))

-- and how many up to its end
abbrev pub end_of : Operation → ℕ
end_of o = start_of o + length (name_of o)

-- start and length in one byte: a name has two letters at least, and the starts run along three and a half letters a name, at most 13 behind
abbrev pub place_of : Operation → ℕ
place_of o = 8 * (start_of o + 13 - 7 * operation_number o / 2) + (length (name_of o) - 2)
