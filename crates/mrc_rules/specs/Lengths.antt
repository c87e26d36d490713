-- Rules 6.2 and 8.7: how many bytes an instruction has from its opcode on, by its first two bytes: a second account of lengths beside the forms.
use Rattle.std.specs.Prelude.{ℕ, zero, suc, ◌+◌, ◌/◌, ◌%◌, cond, List, [], ◌∷◌, ◌++◌, eqb, get_or}
use Rattle.mrc_instruction.specs.declared.reading.Reading.{Reading}
use Rattle.mrc_instruction.specs.declared.reading.Reading.TheVariants.{One, Two}
use Rattle.mrc_rules.specs.Operands.{byte_at, reg_at}

-- what follows an opcode
pub data Extra : Type 0 where
  -- so many bytes
  fixed : ℕ → Extra
  -- a ModRM byte, the displacement that it calls for, and so many bytes
  modrm : ℕ → Extra
  -- the same, the last bytes only where reg is 0
  tested : ℕ → Extra

-- the bytes of the displacement that mod and rm call for
abbrev pub displacement_by : ℕ → ℕ → ℕ
displacement_by zero rm = cond (eqb rm 6) 2 0
displacement_by (suc zero) rm = 1
displacement_by (suc (suc zero)) rm = 2
displacement_by (suc (suc (suc n))) rm = 0

unfoldable pub displacement_bytes : ℕ → ℕ
displacement_bytes b = displacement_by (b / 64) (b % 8)

abbrev pub no : Extra
no = fixed 0

abbrev pub b1 : Extra
b1 = fixed 1

abbrev pub b2 : Extra
b2 = fixed 2

abbrev pub b4 : Extra
b4 = fixed 4

abbrev pub m : Extra
m = modrm 0

abbrev pub m1 : Extra
m1 = modrm 1

abbrev pub m2 : Extra
m2 = modrm 2

abbrev pub t1 : Extra
t1 = tested 1

abbrev pub t2 : Extra
t2 = tested 2

-- where the readings differ: ESC
abbrev pub e : Reading → Extra
e One = b1
e Two = m

-- by the first byte, eight to a line; a prefix, and a byte that begins no instruction, has nothing behind it
unfoldable pub extras : Reading → List Extra
extras x =
    (m ∷ m ∷ m ∷ m ∷ b1 ∷ b2 ∷ no ∷ no ∷ [])  -- 00
    ++ (m ∷ m ∷ m ∷ m ∷ b1 ∷ b2 ∷ no ∷ no ∷ [])  -- 08
    ++ (m ∷ m ∷ m ∷ m ∷ b1 ∷ b2 ∷ no ∷ no ∷ [])  -- 10
    ++ (m ∷ m ∷ m ∷ m ∷ b1 ∷ b2 ∷ no ∷ no ∷ [])  -- 18
    ++ (m ∷ m ∷ m ∷ m ∷ b1 ∷ b2 ∷ no ∷ no ∷ [])  -- 20
    ++ (m ∷ m ∷ m ∷ m ∷ b1 ∷ b2 ∷ no ∷ no ∷ [])  -- 28
    ++ (m ∷ m ∷ m ∷ m ∷ b1 ∷ b2 ∷ no ∷ no ∷ [])  -- 30
    ++ (m ∷ m ∷ m ∷ m ∷ b1 ∷ b2 ∷ no ∷ no ∷ [])  -- 38
    ++ (no ∷ no ∷ no ∷ no ∷ no ∷ no ∷ no ∷ no ∷ [])  -- 40
    ++ (no ∷ no ∷ no ∷ no ∷ no ∷ no ∷ no ∷ no ∷ [])  -- 48
    ++ (no ∷ no ∷ no ∷ no ∷ no ∷ no ∷ no ∷ no ∷ [])  -- 50
    ++ (no ∷ no ∷ no ∷ no ∷ no ∷ no ∷ no ∷ no ∷ [])  -- 58
    ++ (no ∷ no ∷ no ∷ no ∷ no ∷ no ∷ no ∷ no ∷ [])  -- 60
    ++ (no ∷ no ∷ no ∷ no ∷ no ∷ no ∷ no ∷ no ∷ [])  -- 68
    ++ (b1 ∷ b1 ∷ b1 ∷ b1 ∷ b1 ∷ b1 ∷ b1 ∷ b1 ∷ [])  -- 70
    ++ (b1 ∷ b1 ∷ b1 ∷ b1 ∷ b1 ∷ b1 ∷ b1 ∷ b1 ∷ [])  -- 78
    ++ (m1 ∷ m2 ∷ m1 ∷ m1 ∷ m ∷ m ∷ m ∷ m ∷ [])  -- 80
    ++ (m ∷ m ∷ m ∷ m ∷ m ∷ m ∷ m ∷ m ∷ [])  -- 88
    ++ (no ∷ no ∷ no ∷ no ∷ no ∷ no ∷ no ∷ no ∷ [])  -- 90
    ++ (no ∷ no ∷ b4 ∷ no ∷ no ∷ no ∷ no ∷ no ∷ [])  -- 98
    ++ (b2 ∷ b2 ∷ b2 ∷ b2 ∷ no ∷ no ∷ no ∷ no ∷ [])  -- A0
    ++ (b1 ∷ b2 ∷ no ∷ no ∷ no ∷ no ∷ no ∷ no ∷ [])  -- A8
    ++ (b1 ∷ b1 ∷ b1 ∷ b1 ∷ b1 ∷ b1 ∷ b1 ∷ b1 ∷ [])  -- B0
    ++ (b2 ∷ b2 ∷ b2 ∷ b2 ∷ b2 ∷ b2 ∷ b2 ∷ b2 ∷ [])  -- B8
    ++ (m1 ∷ m1 ∷ b2 ∷ no ∷ m ∷ m ∷ m1 ∷ m2 ∷ [])  -- C0
    ++ (no ∷ no ∷ b2 ∷ no ∷ no ∷ b1 ∷ no ∷ no ∷ [])  -- C8
    ++ (m ∷ m ∷ m ∷ m ∷ b1 ∷ b1 ∷ no ∷ no ∷ [])  -- D0
    ++ (e x ∷ e x ∷ e x ∷ e x ∷ e x ∷ e x ∷ e x ∷ e x ∷ [])  -- D8
    ++ (b1 ∷ b1 ∷ b1 ∷ b1 ∷ b1 ∷ b1 ∷ b1 ∷ b1 ∷ [])  -- E0
    ++ (b2 ∷ b2 ∷ b4 ∷ b1 ∷ no ∷ no ∷ no ∷ no ∷ [])  -- E8
    ++ (no ∷ no ∷ no ∷ no ∷ no ∷ no ∷ t1 ∷ t2 ∷ [])  -- F0
    ++ (no ∷ no ∷ no ∷ no ∷ no ∷ no ∷ m ∷ m ∷ [])  -- F8

-- how many bytes an instruction has from its opcode on; where the ModRM byte is missing, more than are there
abbrev pub length_by : Extra → List ℕ → ℕ
length_by (fixed n) l = 1 + n
length_by (modrm n) l = 2 + displacement_bytes (byte_at l 1) + n
length_by (tested n) l = 2 + displacement_bytes (byte_at l 1) + cond (eqb (reg_at l) 0) n 0

abbrev pub whole_length : Reading → List ℕ → ℕ
whole_length x l = length_by (get_or (extras x) (byte_at l 0) no) l
