-- The element at the number, if there is one.
-- Assumes nothing.
use Rattle.std.proofs.Common.{◌≡◌, ◌∙◌, sym, ap, List, ℕ, cond, length, get_or, arith}
use Rattle.std.specs.Prelude.{ltb, Option, Some, None, option_map}
use Rattle.std.specs.List.{ItemBy}
use Rattle.mrc_instruction.specs.declared.operation.Operation.TheVariants.{SALC}
use Rattle.mrc_instruction.specs.Operation.{operations}
use Rattle.mrc_instruction.proofs.operation.Operation.try_from_number.Goals as goal

found_at : {A R : Type 0} (now : R → A) (l : List A) (i : ℕ) (d : A) (r : Option R) → ItemBy now l i i r
    → option_map now r ≡ cond (ltb i (length l)) (Some (get_or l i d)) None
found_at now l i d (Some x) h = rw (sym h.0) (ap Some (h.4 (omega arith) d))
found_at now l i d None h = rw (sym h.0)

pub returns : goal.returns
returns c = c.copied.ensures ∙ found_at (λ x. x.now) operations c.args.number SALC c.get.result c.get.ensures.lookup
