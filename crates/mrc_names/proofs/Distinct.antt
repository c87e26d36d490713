-- No two operations have the same name: where a name stands among the names is its operation's number, which is computed over the 97 at once.
-- Assumes nothing.
use Rattle.std.proofs.Common.{◌≡◌, ℕ, refl, sym, ap, ◌∙◌, List, map}
use Rattle.std.specs.List.{position_or_len}
use Rattle.std.specs.Str.{bytes_eq}
use Rattle.mrc_instruction.specs.declared.operation.Operation.{Operation}
use Rattle.mrc_instruction.specs.Operation.{operations, operation_at, operation_number}
use Rattle.mrc_instruction.proofs.Operations.{operations_both_ways, each}
use Rattle.mrc_names.specs.Names.{name_of}

-- where a text first stands among the names
abbrev place : List ℕ → ℕ
place t = position_or_len (bytes_eq t) (map name_of operations)

named : (o : Operation) → place (name_of o) ≡ operation_number o
named = each (λ o. place (name_of o)) operation_number refl

pub own_name : (o p : Operation) → name_of o ≡ name_of p → o ≡ p
own_name o p e =
    sym (operations_both_ways.back o)
    ∙ ap operation_at (sym (named o) ∙ ap place e ∙ named p)
    ∙ operations_both_ways.back p
