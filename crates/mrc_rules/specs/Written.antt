-- Rules 4.6 and 6.2: how many displacement bytes were written, by the place of the bytes: a second account beside the forms.
use Rattle.std.specs.Prelude.{ℕ, ◌+◌, ◌-◌, cond, List, [], eqb, length, get_or, take, drop}
use Rattle.mrc_instruction.specs.declared.reading.Reading.{Reading}
use Rattle.mrc_rules.specs.Operands.{byte_at, reg_at}
use Rattle.mrc_rules.specs.Lengths.{Extra, fixed, modrm, tested, extras, no}

-- the bytes of an instruction, from its opcode on, that stand behind its ModRM and before the last n
abbrev pub before : ℕ → List ℕ → List ℕ
before n l = take (length l - (2 + n)) (drop 2 l)

-- those between ModRM and immediate, by what follows the opcode
abbrev pub between : Extra → List ℕ → List ℕ
between (fixed n) l = []
between (modrm n) l = before n l
between (tested n) l = before (cond (eqb (reg_at l) 0) n 0) l

-- how many there are in the bytes of an instruction, from its opcode on
abbrev pub written_of : Reading → List ℕ → ℕ
written_of x l = length (between (get_or (extras x) (byte_at l 0) no) l)
