-- Internal: what the forms owe the decoder.
-- The bit of an opcode that names the direction.
use Rattle.std.specs.Prelude.{ℕ, ◌/◌, ◌%◌, Bool, eqb}

abbrev pub d_bit : ℕ → Bool
d_bit opcode = eqb (opcode / 2 % 2) 1
