-- A name stands at its place.
-- Assumes nothing.
use Rattle.std.proofs.Common.{◌≡◌, ℕ, ◌+◌, ◌-◌, ◌*◌, ◌/◌, ◌%◌, ◌≤◌, List, length, take, drop, arith}
use Rattle.mrc_instruction.specs.declared.operation.Operation.{Operation}
use Rattle.mrc_instruction.specs.Operation.{operation_number}
use Rattle.mrc_names.specs.Names.{letters, name_of}
use Rattle.mrc_names.specs.Places.{start_of, place_of}
use Rattle.mrc_names.proofs.Tiles.{inside, stands, counted, byte_start, byte-length}
use Rattle.mrc_names.proofs.names.name.Goals as goal

both : (o : Operation) (p k : ℕ) → p ≡ place_of o → k ≡ operation_number o → 7 * k / 2 + p / 8 ≡ start_of o + 13
both o p k q r = rw (q, r) (byte_start o)

long : (o : Operation) (p : ℕ) → p ≡ place_of o → 2 + p % 8 ≡ length (name_of o)
long o p q = rw q (byte-length o)

within : (o : Operation) (l : List ℕ) (p k : ℕ) → l ≡ letters → p ≡ place_of o → k ≡ operation_number o → 7 * k / 2 + p / 8 - 13 + (2 + p % 8) ≤ length l
within o l p k e q r = let b = both o p k q r in let n = long o p q in rw (e, counted) (omega (arith, b, n, inside o))

there :
    (o : Operation) (l : List ℕ) (p k : ℕ) → l ≡ letters → p ≡ place_of o → k ≡ operation_number o →
    take (7 * k / 2 + p / 8 - 13 + (2 + p % 8) - (7 * k / 2 + p / 8 - 13)) (drop (7 * k / 2 + p / 8 - 13) l) ≡ name_of o
there o l p k e q r =
    let b = both o p k q r in
    let s : 7 * k / 2 + p / 8 - 13 ≡ start_of o = omega (arith, b) in
    let n : start_of o + length (name_of o) - start_of o ≡ length (name_of o) = omega arith in
    rw (s, long o p q, n, e) (stands o)

pub overflow_sub-start : goal.overflow_sub-start
overflow_sub-start c = let b = both c.args.operation _ _ c.place-place.ensures c.number.ensures in omega (arith, b)

pub slice_bounds-result-end : goal.slice_bounds-result-end
slice_bounds-result-end c = let w = within c.args.operation _ _ _ c.letters.ensures c.place-place.ensures c.number.ensures in omega (arith, w)

pub returns : goal.returns
returns c = there c.args.operation _ _ _ c.letters.ensures c.place-place.ensures c.number.ensures
