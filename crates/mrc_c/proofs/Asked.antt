-- The reading that a number asks for, and an answer in it.
-- Assumes nothing.
use mathlib.Core.Path.{◌≡◌, refl, ap, ◌∙◌}
use mathlib.Core.List.{List}
use Prim.Native.Nat.{ℕ}
use borrow.Author.Tests.{ne_eqb}
use Rattle.mrc_instruction.specs.declared.reading.Reading.{Reading}
use Rattle.mrc_instruction.specs.declared.reading.Reading.TheVariants.{One}
use Rattle.mrc_rules.specs.declared.Answer.{Answer}
use Rattle.mrc_rules.specs.Decode.{decode_at}
use Rattle.mrc_c.specs.Readings.{reading_of}

pub else_the_first : (number : ℕ) → (number ≡ 2 → ⊥) → reading_of number ≡ One
else_the_first number h = rw (ne_eqb number 2 h) refl

pub in_reading : (s : List ℕ) (at b : ℕ) {x y : Reading} {d : Answer} → d ≡ decode_at x s at b → x ≡ y → d ≡ decode_at y s at b
in_reading s at b e h = e ∙ ap (λ x. decode_at x s at b) h
