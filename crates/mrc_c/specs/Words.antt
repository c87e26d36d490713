-- Rule 15.10: where a field stands in a machine word of eight bytes: from one of its bytes on, of which the lowest is the first, as x86-64 has them
-- in memory.
use Rattle.std.specs.Prelude.{ℕ, ◌*◌, ◌/◌, ◌%◌, ◌^◌, ◌≡◌}
use Rattle.mrc_instruction.specs.Widths.{words}

-- a number that stands from a byte on
abbrev pub from : ℕ → ℕ → ℕ
from at n = 256 ^ at * n

-- the byte at a byte, and the word from a byte on
abbrev pub byte_at : ℕ → ℕ → ℕ
byte_at at w = w / 256 ^ at % 256

abbrev pub word_at : ℕ → ℕ → ℕ
word_at at w = w / 256 ^ at % words

-- the machine word w holds a: it is what a is packed to, and a is what is read from it
pub record Holds {A : Type 0} (pack : A → ℕ) (unpack : ℕ → A) (a : A) (w : ℕ) : Type 0 where
  pub packed : w ≡ pack a
  pub kept : unpack w ≡ a
