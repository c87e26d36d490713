-- How many numbers a width holds.
use Rattle.std.specs.Prelude.{ℕ}

-- rule 2.5: the words, one for each offset
abbrev pub words : ℕ
words = 65536

-- the double words
abbrev pub double_words : ℕ
double_words = 4294967296
