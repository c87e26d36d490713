-- ModRM: the byte, the displacement that it calls for, and the operand that it names.
use Rattle.std.specs.Prelude.{ℕ, zero, suc, ◌/◌, ◌%◌, cond, eqb, ℤ, pos, negsuc}
use Rattle.mrc_instruction.specs.declared.reading.Reading.{Reading}
use Rattle.mrc_instruction.specs.declared.register.Segment.{Segment}
use Rattle.mrc_instruction.specs.declared.operand.OperandSize.{OperandSize}
use Rattle.mrc_instruction.specs.declared.operand.Displacement.{Displacement}
use Rattle.mrc_instruction.specs.declared.operand.Operand.{Operand}
use Rattle.mrc_instruction.specs.declared.mrrm.RegisterOrMemory.{RegisterOrMemory}
use Rattle.mrc_instruction.specs.declared.mrrm.ModRegRM.{ModRegRM}
use Rattle.mrc_instruction.specs.Register.{register_of}
use Rattle.mrc_instruction.specs.Operand.{addressing_of, segment_for}
use Rattle.mrc_instruction.specs.Signed.{signed_byte, signed_word}
use Rattle.mrc_instruction.specs.Reader.{Reader, done, ◌>>=◌, a_byte, a_word}

-- rule 4.2: what mod and rm name, and what is read for it
abbrev pub a_register_or_memory : ℕ → ℕ → Reader RegisterOrMemory
a_register_or_memory zero rm =
    cond (eqb rm 6) (a_word >>= λ w. done (RegisterOrMemory.Direct w)) (done (RegisterOrMemory.Indirect (addressing_of rm)))
a_register_or_memory (suc zero) rm = a_byte >>= λ b. done (RegisterOrMemory.DisplacementByte (addressing_of rm) (signed_byte b))
a_register_or_memory (suc (suc zero)) rm = a_word >>= λ w. done (RegisterOrMemory.DisplacementWord (addressing_of rm) (signed_word w))
a_register_or_memory (suc (suc (suc n))) rm = done (RegisterOrMemory.Register (register_of rm))

-- reg is the three bits below mod and above rm
abbrev pub reg_field : ℕ → ℕ
reg_field byte = byte / 8 % 8

-- a ModRM byte with what its reg, and its mod and rm, name
pub record ModRM : Type 0 where
  pub byte : ℕ
  pub mrrm : ModRegRM

abbrev pub modrm : ℕ → RegisterOrMemory → ModRM
modrm b x = record { byte = b; mrrm = record { register = register_of (reg_field b); register_or_memory = x } }

abbrev pub a_modrm : Reader ModRM
a_modrm = do
  b ← a_byte
  x ← a_register_or_memory (b / 64) (b % 8)
  done (modrm b x)

-- rule 4.6: how many displacement bytes were written
abbrev pub written_by : RegisterOrMemory → ℕ
written_by (RegisterOrMemory.Direct w) = 2
written_by (RegisterOrMemory.Indirect mode) = 0
written_by (RegisterOrMemory.DisplacementByte mode d) = 1
written_by (RegisterOrMemory.DisplacementWord mode d) = 2
written_by (RegisterOrMemory.Register r) = 0

-- what mod and rm of a ModRM name, and how many displacement bytes it was written with
abbrev pub memory : ModRM → RegisterOrMemory
memory m = m.mrrm.register_or_memory

abbrev pub written_in : ModRM → ℕ
written_in m = written_by (memory m)

-- rule 4.3: a displacement of 0 is none
abbrev pub or_none : (ℤ → Displacement) → ℤ → Displacement
or_none written (pos zero) = Displacement.None
or_none written (pos (suc n)) = written (pos (suc n))
or_none written (negsuc n) = written (negsuc n)

abbrev pub zero_as_none : Displacement → Displacement
zero_as_none Displacement.None = Displacement.None
zero_as_none (Displacement.Byte d) = or_none Displacement.Byte d
zero_as_none (Displacement.Word d) = or_none Displacement.Word d

-- the operand of a size; rule 4.4: Direct is in DS, Indirect in the segment of its mode
abbrev pub operand_of : Reading → OperandSize → RegisterOrMemory → Operand
operand_of x size (RegisterOrMemory.Direct w) = Operand.Direct Segment.DS size w
operand_of x size (RegisterOrMemory.Indirect mode) = Operand.Indirect (segment_for x mode) size mode Displacement.None
operand_of x size (RegisterOrMemory.DisplacementByte mode d) = Operand.Indirect (segment_for x mode) size mode (or_none Displacement.Byte d)
operand_of x size (RegisterOrMemory.DisplacementWord mode d) = Operand.Indirect (segment_for x mode) size mode (or_none Displacement.Word d)
operand_of x size (RegisterOrMemory.Register r) = Operand.Register (record { 0 = r; 1 = size })
