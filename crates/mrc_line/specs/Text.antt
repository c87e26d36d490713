-- The pieces of a line as text, and what it is to put a piece into a buffer.
use Rattle.std.specs.Prelude.{◌≡◌, ℕ, ◌+◌, ◌/◌, ◌%◌, ◌≤◌, List, [], ◌∷◌, ◌++◌, length, take, drop, slice_index}
pub use Rattle.mrc_names.specs.Text.{bytes, padded}

-- rule 12.3: the digit of a number below 16
abbrev pub digit_of : ℕ → ℕ
digit_of n = slice_index (bytes "0123456789ABCDEF") n

-- a byte in two digits and a word in four
abbrev pub hex2 : ℕ → List ℕ
hex2 b = digit_of (b / 16) ∷ digit_of (b % 16) ∷ []

abbrev pub hex4 : ℕ → List ℕ
hex4 w = hex2 (w / 256) ++ hex2 (w % 256)

-- rule 12.2: bytes, with a space behind each
abbrev pub pairs : List ℕ → List ℕ
pairs [] = []
pairs (b ∷ l) = hex2 b ++ 32 ∷ pairs l

-- rule 12.2: how many bytes a line shows, and how wide their field is
abbrev pub shown : ℕ
shown = 7

abbrev pub field_width : ℕ
field_width = 21

-- Internal: a buffer that held s holds d: the text t, of at most n bytes, stands from `at` on and up to r, and all else is as it was.
pub record Put (n : ℕ) (s : List ℕ) (at : ℕ) (t : List ℕ) (d : List ℕ) (r : ℕ) : Type 0 where
  pub end : r ≡ at + length t
  pub most : r ≤ at + n
  pub text : take r d ≡ take at s ++ t
  pub rest : drop r d ≡ drop r s
