-- The name stands at the front of the part from `at` on.
-- Assumes nothing.
use Rattle.std.proofs.Common.{◌≡◌, ℕ, ◌+◌, ◌-◌, ◌≤◌, List, ◌++◌, length, drop, sym, ◌∙◌, subst, arith, le-ltb}
use borrow.Rule.Slice.PartMut.{mid_of, put_mid}
use Rattle.mrc_instruction.specs.declared.operation.Operation.{Operation}
use Rattle.mrc_names.specs.Names.{name_of, letters_written, written}
use Rattle.mrc_names.proofs.Tiles.{six_at_most}
use Rattle.mrc_line.specs.Text.{Put}
use Rattle.mrc_line.proofs.Put.{within}
use Rattle.mrc_line.proofs.Parts.{mid_length, put_behind}
use Rattle.mrc_line.proofs.names.put_name.Goals as goal

named :
    (o : Operation) (d : List ℕ) (at r : ℕ) (last : List ℕ) → at + 6 ≤ length d → r ≡ letters_written o (mid_of at (length d - at) d) →
    last ≡ written o (mid_of at (length d - at) d) → Put 6 d at (name_of o) (put_mid at (length d - at) d last) (at + r)
named o d at r last h e q =
    let m = mid_of at (length d - at) d in
    let b = le-ltb (length m) 6 (omega (arith, mid_length d at (omega arith))) in
    let n : r ≡ length (name_of o) = e ∙ simp b in
    let w : last ≡ name_of o ++ drop (length (name_of o)) m = q ∙ simp b in
    subst (λ (k : ℕ). Put 6 d at (name_of o) (put_mid at (length d - at) d last) (at + k)) (sym n)
    (within (six_at_most o) (put_behind d at (name_of o) last (omega arith) (omega (arith, six_at_most o)) w))

pub overflow_add-result : goal.overflow_add-result
overflow_add-result c =
    let a = c.args in
    let w = c.write_name-n in
    omega (arith, (named a.operation a.buf.now a.at w.result w.new.out c.requires w.ensures.0 w.ensures.1).most)

pub returns : goal.returns
returns c =
    let a = c.args in
    let w = c.write_name-n in
    named a.operation a.buf.now a.at w.result w.new.out c.requires w.ensures.0 w.ensures.1
