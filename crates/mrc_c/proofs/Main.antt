-- What C and Rust may rely on. The promise of each call that writes is met by exactly one answer and one content of what is lent; that of every
-- other is an equation, which exactly one answer meets (`an_equation_settles` of mrc_instruction).
-- Assumes nothing.
use mathlib.Core.Path.{◌≡◌, refl}
use mathlib.Core.List.{List}
use Prim.Native.Nat.{ℕ, ◌<◌, ◌≤◌}
use lib.ListN.{length}
use Rattle.mrc_instruction.specs.Promise.{ExactlyOne}
use Rattle.mrc_instruction.specs.Widths.{words, double_words}
use Rattle.mrc_instruction.specs.Reader.{Bytes}
use Rattle.mrc_instruction.specs.Operand.{size_of}
use Rattle.mrc_instruction.specs.declared.reading.Reading.{Reading}
use Rattle.mrc_instruction.specs.declared.reading.Reading.TheVariants.{One, Two}
use Rattle.mrc_instruction.specs.declared.operand.Operand.{Operand}
use Rattle.mrc_rules.specs.Answer.{taken, prefixes}
use Rattle.mrc_rules.specs.Decode.{decode_at}
use Rattle.mrc_line.specs.Line.{answer_of, line_values}
use Rattle.mrc_line.specs.Page.{text_of, taken_of, page_of}
use Rattle.mrc_c.specs.Readings.{reading_of}
use Rattle.mrc_c.specs.Operands.{FieldsFit, operand_fields}
use Rattle.mrc_c.specs.Record.{Record, Fits, words_of, record_in, Written, record_of}
use Rattle.mrc_c.specs.Modrm.{ModrmFits, Modrm, modrm_words, modrm_record_in, ModrmWritten}
use Rattle.mrc_c.specs.Sizes.{sized_code, size_number}
use Rattle.mrc_c.specs.Line.{length_of, LineWritten}
use Rattle.mrc_c.specs.Page.{PageWritten}
use Rattle.mrc_c.proofs.Asked as asked
use Rattle.mrc_c.proofs.Settled as settled
use Rattle.mrc_c.proofs.Counts as counts
use Rattle.mrc_c.proofs.SizeKept as sizes
use Rattle.mrc_c.proofs.Kept as kept

-- the number 2 asks for reading 2, and every other one for reading 1, in which no record has an override that is kept
pub second_asked : reading_of 2 ≡ Two
second_asked = refl

pub else_the_first : (number : ℕ) → (number ≡ 2 → ⊥) → reading_of number ≡ One
else_the_first = asked.else_the_first

pub first_keeps_none : (s : List ℕ) (at budget : ℕ) → Bytes s → (record_of (decode_at One s at budget)).body.kept ≡ 0
first_keeps_none = kept.first_keeps_none

-- every field has its own place in the words: whatever fits is got back, so nothing is lost and no two fields, as destination and source, overlap
pub fields_kept : (r : Record) → Fits r → record_in (words_of r) ≡ r
fields_kept r k = (settled.record_written r k).kept

pub modrm_kept : (r : Modrm) → ModrmFits r.head → FieldsFit r.operand → modrm_record_in (modrm_words r) ≡ r
modrm_kept r k p = (settled.modrm_packed r k p).kept

pub decode : (r : Record) → Fits r → ExactlyOne (Written r)
decode = settled.record_settled

pub mrrm : (r : Modrm) → ModrmFits r.head → FieldsFit r.operand → ExactlyOne (ModrmWritten r)
mrrm = settled.modrm_settled

-- what is got back fits: a record that no words hold whole is never promised
pub decode_fits : (r : Record) (w : List ℕ) → Written r w → Fits r
decode_fits = settled.written_fits

pub line : (x : Reading) (image : List ℕ) (at : ℕ) (out : List ℕ) → ExactlyOne {A = ℕ × List ℕ} (λ p. LineWritten x image at out p.0 p.1)
line = settled.line_settled

pub page : (x : Reading) (image : List ℕ) (at : ℕ) (out : List ℕ) → ExactlyOne {A = ℕ × List ℕ} (λ p. PageWritten x image at out p.0 p.1)
page = settled.page_settled

-- of the kind and the size that a record has of an operand it is the operand's size
pub size_kept : (o : Operand) → size_number (operand_fields o).kind (operand_fields o).size ≡ sized_code (size_of o)
size_kept = sizes.size_kept

-- the places that the counts have in a record and in a number hold all of them
pub counts_whole : (x : Reading) (s : List ℕ) (at budget : ℕ) → budget < 256 → (taken (decode_at x s at budget) < words) × (prefixes (decode_at x s at budget) < words)
counts_whole x s at budget h = (counts.taken_small x s at budget h, counts.prefixes_small x s at budget h)

pub line_whole : (x : Reading) (s : List ℕ) (at room : ℕ) → (length_of (answer_of x s at room) < words) × ((line_values x s at (answer_of x s at room)).taken < words)
line_whole = counts.lengths_small

pub page_whole : (x : Reading) (s : List ℕ) (at room : ℕ) → (length (text_of x s (page_of x s at room)) < double_words) × (taken_of x s (page_of x s at room) ≤ words)
page_whole = counts.page_small
