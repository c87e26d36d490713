-- What is shown of the names. Each promise is an equation, so exactly one answer meets it (`an_equation_settles` of mrc_instruction).
-- Assumes nothing.
use mathlib.Core.Path.{◌≡◌}
use mathlib.Core.List.{[], ◌∷◌, ◌++◌, map}
use Prim.Native.Nat.{◌≤◌}
use lib.ListN.{length, take, drop}
use Rattle.mrc_instruction.specs.declared.operation.Operation.{Operation}
use Rattle.mrc_instruction.specs.Operation.{operations}
use Rattle.mrc_names.specs.Names.{name_of, letters}
use Rattle.mrc_names.specs.Places.{start_of, end_of}
use Rattle.mrc_names.proofs.Tiles as Tiles
use Rattle.mrc_names.proofs.Distinct as Distinct

-- no two operations have the same name
pub own_name : (o p : Operation) → name_of o ≡ name_of p → o ≡ p
own_name = Distinct.own_name

-- rule 11.1: every name has two to six letters
pub two_to_six : (o : Operation) → (2 ≤ length (name_of o)) × (length (name_of o) ≤ 6)
two_to_six o = (Tiles.two_at_least o, Tiles.six_at_most o)

-- rule 11.1: as many letters as a name has, from its start on, are the name
pub at_its_start : (o : Operation) → take (length (name_of o)) (drop (start_of o) letters) ≡ name_of o
at_its_start = Tiles.stands

-- rule 11.1: the names fill the 332 letters: the first starts at 0, each other where the one before it ends, and the last ends with the last letter
pub end_to_end : map start_of operations ++ (length letters ∷ []) ≡ 0 ∷ map end_of operations
end_to_end = Tiles.tiled

pub letters_in_all : length letters ≡ 332
letters_in_all = Tiles.counted
