-- Exactly one answer, and one content of what is lent, meets the promise of a call that writes: each promise has an equation for the one and for
-- the other.
-- Assumes nothing.
use mathlib.Core.Path.{◌≡◌, refl, ap, subst, ◌∙◌}
use mathlib.Core.List.{List, ◌++◌}
use Prim.Native.Nat.{ℕ}
use native.Mathlib.Omega.{arith}
use lib.ListN.{length, drop, get_or}
use Rattle.mrc_instruction.specs.declared.reading.Reading.{Reading}
use Rattle.mrc_instruction.specs.Promise.{ExactlyOne}
use Rattle.mrc_line.specs.Line.{line_text, answer_of, after}
use Rattle.mrc_line.specs.Page.{text_of, page_of}
use Rattle.mrc_c.specs.Operands.{FieldsFit, fields_in}
use Rattle.mrc_c.specs.Record.{Record, Fits, words_of, record_in, Written}
use Rattle.mrc_c.specs.Modrm.{ModrmFits, Modrm, modrm_words, ModrmWritten}
use Rattle.mrc_c.specs.Line.{line_code, LineWritten}
use Rattle.mrc_c.specs.Page.{page_code, PageWritten}
use Rattle.mrc_c.proofs.Packing.{operand_held, head_held, body_held, modrm_held, written, modrm_written}

-- a record that fits is written as its words
pub record_written : (r : Record) → Fits r → Written r (words_of r)
record_written r k =
    written r (head_held _ k.head) (body_held _ k.body) (operand_held _ k.destination) (operand_held _ k.source)
    (operand_held _ k.third)

pub record_settled : (r : Record) → Fits r → ExactlyOne (Written r)
record_settled r k = record { answer = words_of r; meets = record_written r k; only = λ w h. h.packed }

-- a field that is read from a word is a byte or a word
fields_in_fit : (w : ℕ) → FieldsFit (fields_in w)
fields_in_fit w =
    record { kind = omega arith; named = omega arith; mode = omega arith; size = omega arith; value = omega arith; far_segment = omega arith }

record_in_fits : (w : List ℕ) → Fits (record_in w)
record_in_fits w = record {
  head = record { refusal = omega arith; byte = omega arith; taken = omega arith; prefixes = omega arith; reserved = omega arith };
  body = record {
    operation = omega arith;
    repeat = omega arith;
    reach = omega arith;
    kept = omega arith;
    written = omega arith;
    operands = omega arith;
    reserved = omega arith;
  };
  destination = fields_in_fit (get_or w 2 0);
  source = fields_in_fit (get_or w 3 0);
  third = fields_in_fit (get_or w 4 0);
}

pub written_fits : (r : Record) (w : List ℕ) → Written r w → Fits r
written_fits r w h = subst Fits h.kept (record_in_fits w)

pub modrm_packed : (r : Modrm) → ModrmFits r.head → FieldsFit r.operand → ModrmWritten r (modrm_words r)
modrm_packed r k p = modrm_written r (modrm_held _ k) (operand_held _ p)

pub modrm_settled : (r : Modrm) → ModrmFits r.head → FieldsFit r.operand → ExactlyOne (ModrmWritten r)
modrm_settled r k p = record { answer = modrm_words r; meets = modrm_packed r k p; only = λ w h. h.packed }

both : {a b : ℕ} {x y : List ℕ} → a ≡ b → x ≡ y → ◌≡◌ {A = ℕ × List ℕ} (a, x) (b, y)
both {a = a} {y = y} e h = ap (λ z. (a, z)) h ∙ ap (λ n. (n, y)) e

pub line_settled : (x : Reading) (image : List ℕ) (at : ℕ) (out : List ℕ) → ExactlyOne {A = ℕ × List ℕ} (λ p. LineWritten x image at out p.0 p.1)
line_settled x image at out =
    let a = answer_of x image at (length out) in
    record {
      answer = (line_code x image at a, after a (line_text x image at) out);
      meets = record { answer = refl; buffer = refl };
      only = λ p w. both w.answer w.buffer;
    }

pub page_settled : (x : Reading) (image : List ℕ) (at : ℕ) (out : List ℕ) → ExactlyOne {A = ℕ × List ℕ} (λ p. PageWritten x image at out p.0 p.1)
page_settled x image at out =
    let lines = page_of x image at (length out) in
    record {
      answer = (page_code x image lines, text_of x image lines ++ drop (length (text_of x image lines)) out);
      meets = record { answer = refl; buffer = refl };
      only = λ p w. both w.answer w.buffer;
    }
