-- The displacement's bits read back as its number, whose sign and magnitude are put.
-- Assumes nothing.
use Rattle.std.proofs.Common.{ℕ, ◌∷◌, nat_abs, sym, ap, ◌∙◌, arith, to_z-of_z, w8, w16, SFits, rules}
use Rattle.mrc_line.specs.Text.{hex2, hex4}
use Rattle.mrc_line.specs.Operands.{sign_of, displacement_text}
use Rattle.mrc_line.proofs.Put.{then, gives}
use Rattle.mrc_line.proofs.Magnitudes.{wide}
use Rattle.mrc_line.proofs.memory.put_displacement.Goals as goal

pub returns-in-Byte : goal.returns-in-Byte
returns-in-Byte c =
    let d = c.in-Byte.d in
    let s : SFits w8 d = search rules in
    let e = wide w8 w16 tt d s in
    gives (omega arith)
    (ap (λ (x : ℕ). x ∷ hex2 c.unsigned_abs.result) (c.sign.ensures ∙ ap sign_of e) ∙ ap (λ (x : ℕ). sign_of d ∷ hex2 x) (c.unsigned_abs.ensures.value ∙ ap nat_abs (to_z-of_z s))
    ∙ sym (ap displacement_text c.in-Byte.is))
    (then c.put_byte-o.ensures c.put_hex2.ensures)

pub returns-in-Word : goal.returns-in-Word
returns-in-Word c =
    let d = c.in-Word.d in
    let s : SFits w16 d = search rules in
    let e = to_z-of_z s in
    gives (omega arith)
    (ap (λ (x : ℕ). x ∷ hex4 c.unsigned_abs-in-Word.result) (c.sign-in-Word.ensures ∙ ap sign_of e)
    ∙ ap (λ (x : ℕ). sign_of d ∷ hex4 x) (c.unsigned_abs-in-Word.ensures.value ∙ ap nat_abs e) ∙ sym (ap displacement_text c.in-Word.is))
    (then c.put_byte-o-in-Word.ensures c.put_hex4.ensures)
