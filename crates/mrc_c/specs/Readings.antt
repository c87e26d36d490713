-- Rule 15.11: the reading that a number asks for.
use Rattle.std.specs.Prelude.{ℕ, cond, eqb}
use Rattle.mrc_instruction.specs.declared.reading.Reading.{Reading}
use Rattle.mrc_instruction.specs.declared.reading.Reading.TheVariants.{One, Two}

-- 2 is the second, and every other number the first
abbrev pub reading_of : ℕ → Reading
reading_of number = cond (eqb number 2) Two One
