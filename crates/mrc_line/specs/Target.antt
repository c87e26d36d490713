-- Rule 12.5: the target of a branch.
use Rattle.std.specs.Prelude.{ℕ, suc, ◌+◌, ◌-◌, ◌%◌, ℤ, pos, negsuc}
use Rattle.mrc_instruction.specs.declared.operand.Displacement.{Displacement}
use Rattle.mrc_instruction.specs.Widths.{words}

-- how many offsets there are: an offset is a word
abbrev pub offsets : ℕ
offsets = words

-- rule 12.5: an offset and a signed number, modulo 65,536
abbrev pub moved_by : ℕ → ℤ → ℕ
moved_by n (pos d) = (n + d) % offsets
moved_by n (negsuc d) = (n + offsets - suc d) % offsets

-- rule 12.5: counted from the end of the line's bytes
abbrev pub target_of : ℕ → ℕ → Displacement → ℕ
target_of start taken Displacement.None = (start + taken) % offsets
target_of start taken (Displacement.Byte d) = moved_by (start + taken) d
target_of start taken (Displacement.Word d) = moved_by (start + taken) d
