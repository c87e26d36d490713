-- Every first byte has its row; the cases are what the rules answer; and each prefix has its meaning: all is computed.
-- Assumes nothing.
use mathlib.Core.Path.{◌≡◌, refl}
use mathlib.Core.List.{[], ◌∷◌, map}
use lib.ListN.{length}
use Rattle.std.specs.Prelude.{Some}
use Rattle.mrc_rules.specs.Forms.{with_modrm}
use Rattle.mrc_rules.specs.Table.{rows, row_of}
use Rattle.mrc_rules.specs.Prefixes.{override_segment, repeat_of}
use Rattle.mrc_rules.specs.Cases.{cases, easily_mistaken, second_reading, Held}
use Rattle.mrc_instruction.specs.declared.reading.Reading.{Reading}
use Rattle.mrc_instruction.specs.declared.register.Segment.TheVariants.{ES, CS, SS, DS}
use Rattle.mrc_instruction.specs.declared.instruction.Repeat.{Repeat}
use Rattle.mrc_instruction.specs.Reader.{a_byte, a_word}

pub table_whole : (x : Reading) → length (rows x) ≡ 256
unfolding rows
table_whole x = refl

pub cases_hold : Held cases
unfolding rows row_of a_byte a_word with_modrm
cases_hold = refl

pub mistaken : Held easily_mistaken
unfolding rows row_of a_byte a_word with_modrm
mistaken = refl

pub second_reading_lem : Held second_reading
unfolding rows row_of a_byte a_word with_modrm
second_reading_lem = refl

pub overrides_named : map override_segment (0x26 ∷ 0x2E ∷ 0x36 ∷ 0x3E ∷ []) ≡ ES ∷ CS ∷ SS ∷ DS ∷ []
overrides_named = refl

pub repeats_named : map (λ b. repeat_of (Some b)) (0xF2 ∷ 0xF3 ∷ []) ≡ Some Repeat.NotEqual ∷ Some Repeat.Equal ∷ []
repeats_named = refl
