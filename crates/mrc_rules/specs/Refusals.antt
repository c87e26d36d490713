-- Rules 6.2 and 9.1: when a decode refuses and when it answers an instruction, with which number, byte and counts, by the bytes alone: the run of
-- prefixes, the first byte behind it, the reg of the byte behind that, and where the input ends. A second account of refusals beside the forms.
use Rattle.std.specs.Prelude.{ℕ, ◌+◌, min, Bool, true, false, cond, not, ◌||◌, ◌&&◌, List, [], ◌∷◌, eqb, leb, ltb, length, get_or, drop, Option, Some, None}
use Rattle.mrc_instruction.specs.declared.reading.Reading.{Reading}
use Rattle.mrc_instruction.specs.declared.reading.Reading.TheVariants.{One, Two}
use Rattle.mrc_instruction.specs.Values.{Values, carrying}
use Rattle.mrc_rules.specs.Prefixes.{is_override, run_of, tail_of, first}
use Rattle.mrc_rules.specs.Operands.{Places, nothing, only, ◌⟵◌, test, places, byte_at, reg_at}
use Rattle.mrc_rules.specs.Lengths.{whole_length}

-- the first bytes that begin no instruction
abbrev pub is_unread : ℕ → Bool
is_unread b = (leb 0x60 b && leb b 0x6F) || eqb b 0xC8 || eqb b 0xC9

-- POP of a ModRM; MOV with a segment; the group of NOT
abbrev pub is_pop : ℕ → Bool
is_pop b = eqb b 0x8F

abbrev pub is_segment_move : ℕ → Bool
is_segment_move b = eqb b 0x8C || eqb b 0x8E

abbrev pub is_group_f6 : ℕ → Bool
is_group_f6 b = eqb b 0xF6 || eqb b 0xF7

-- read, or refused with a number and a byte
pub data Verdict : Type 0 where
  read : Verdict
  refused : ℕ → ℕ → Verdict

-- of bytes that are all there, from the opcode on
abbrev pub by_opcode : List ℕ → Verdict
by_opcode l =
    cond (is_unread (byte_at l 0)) (refused 6 (byte_at l 0))
    (cond (is_pop (byte_at l 0)) (cond (eqb (reg_at l) 0) read (refused 5 (byte_at l 1)))
    (cond (is_group_f6 (byte_at l 0)) (cond (eqb (reg_at l) 1) (refused 6 0x01) read)
    (cond (is_segment_move (byte_at l 0)) (cond (ltb (reg_at l) 4) read (refused 8 (reg_at l)))
    read)))

-- of what is left behind the prefixes: nothing, too little, or enough
abbrev pub verdict_of : Reading → List ℕ → Verdict
verdict_of x [] = refused 1 0
verdict_of x (opcode ∷ l) = cond (ltb (length (opcode ∷ l)) (whole_length x (opcode ∷ l))) (refused 2 0) (by_opcode (opcode ∷ l))

-- the bytes taken of it: all that the instruction has, or all that is left
abbrev pub taken_of : Reading → List ℕ → ℕ
taken_of x l = min (whole_length x l) (length l)

abbrev pub no_places : Places → Bool
no_places nothing = true
no_places (only destination) = false
no_places (destination ⟵ source) = false
no_places (test destination source) = false

-- the opcode keeps an override: A4 to A7, AC, AD and D7 in reading 2
abbrev pub keeps_at : Reading → ℕ → Bool
keeps_at One opcode = false
keeps_at Two opcode = (leb 0xA4 opcode && leb opcode 0xA7) || eqb opcode 0xAC || eqb opcode 0xAD || eqb opcode 0xD7

-- the opcode has no operands, and keeps no override
abbrev pub is_bare : Reading → ℕ → Bool
is_bare x opcode = no_places (get_or (places x) opcode nothing) && not (keeps_at x opcode)

-- behind p prefixes, under the first override, if any: number 9 with the override where the tail is refused or is bare
abbrev pub under_prefixes : Option ℕ → Verdict → Bool → ℕ → ℕ → Values
under_prefixes None read bare n p = carrying 0 0 (p + n) p
under_prefixes None (refused number byte) bare n p = carrying number byte (p + n) p
under_prefixes (Some o) read bare n p = cond bare (carrying 9 o (p + n) p) (carrying 0 0 (p + n) p)
under_prefixes (Some o) (refused number byte) bare n p = carrying 9 o (p + n) p

-- at a position, under a budget: 11 first, then 10, then as the bytes are read
abbrev pub tabled : Reading → List ℕ → ℕ → ℕ → Values
tabled x s at b =
    let run = run_of (drop at s) in
    let l = tail_of (drop at s) in
    cond (ltb (length s) at) (carrying 11 0 0 0)
    (cond (ltb b (length run)) (carrying 10 (get_or run b 0) (b + 1) (b + 1))
    (under_prefixes (first is_override run) (verdict_of x l) (is_bare x (byte_at l 0)) (taken_of x l) (length run)))
