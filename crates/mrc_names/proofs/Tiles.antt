-- The names tile the letters: each fact is computed over the 97 operations at once, and holds of each.
-- Assumes nothing.
use mathlib.Core.Path.{◌≡◌, refl}
use mathlib.Core.Bool.{true}
use mathlib.Core.List.{[], ◌∷◌, ◌++◌, map, flatten}
use Prim.Native.Nat.{◌+◌, ◌*◌, ◌/◌, ◌%◌, ◌≤◌}
use borrow.Author.Tests.{leb-true}
use lib.Dec.{leb}
use lib.ListN.{length, take, drop}
use Rattle.mrc_instruction.specs.declared.operation.Operation.{Operation}
use Rattle.mrc_instruction.specs.Operation.{operations, operation_number}
use Rattle.mrc_instruction.proofs.Operations.{each}
use Rattle.mrc_names.specs.Names.{name_of, letters}
use Rattle.mrc_names.specs.Places.{start_of, end_of, place_of}

-- every name stands where its start and its length say
pub stands : (o : Operation) → take (length (name_of o)) (drop (start_of o) letters) ≡ name_of o
unfolding letters flatten
stands = each (λ o. take (length (name_of o)) (drop (start_of o) letters)) name_of refl

-- each name starts where the one before ends, the first at 0, and the last ends with the last letter
pub tiled : map start_of operations ++ (length letters ∷ []) ≡ 0 ∷ map end_of operations
unfolding letters flatten
tiled = refl

pub counted : length letters ≡ 332
unfolding letters flatten
counted = refl

-- a name has two to six letters
pub two_at_least : (o : Operation) → 2 ≤ length (name_of o)
two_at_least o = leb-true 2 (length (name_of o)) (each (λ o. leb 2 (length (name_of o))) (λ o. true) refl o)

pub six_at_most : (o : Operation) → length (name_of o) ≤ 6
six_at_most o = leb-true (length (name_of o)) 6 (each (λ o. leb (length (name_of o)) 6) (λ o. true) refl o)

-- the byte holds the start and the length
pub byte_start : (o : Operation) → 7 * operation_number o / 2 + place_of o / 8 ≡ start_of o + 13
unfolding flatten
byte_start = each (λ o. 7 * operation_number o / 2 + place_of o / 8) (λ o. start_of o + 13) refl

pub byte-length : (o : Operation) → 2 + place_of o % 8 ≡ length (name_of o)
unfolding flatten
byte-length = each (λ o. 2 + place_of o % 8) (λ o. length (name_of o)) refl

-- no name ends behind the last letter
pub inside : (o : Operation) → end_of o ≤ 332
unfolding flatten
inside o = leb-true (end_of o) 332 (each (λ o. leb (end_of o) 332) (λ o. true) refl o)
