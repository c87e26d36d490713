-- The pieces of an instruction's bytes, and what they make by their places: ModRM, immediates and displacements. A row is walked along with
-- what its account says of operands, operation, length, distance, displacement bytes and refusal.
-- Assumes nothing.
use borrow.Author.Tests.{ne_eqb}
use mathlib.Core.Path.{◌≡◌, refl, ap, sym, subst, ◌∙◌}
use mathlib.Core.Bool.{Bool, true, false, cond, ◌&&◌}
use mathlib.Core.List.{List, [], ◌∷◌, ◌++◌, append_assoc, append-nil}
use Prim.Native.Nat.{ℕ, zero, suc, ◌+◌, ◌/◌, ◌%◌, ◌<◌}
use native.Mathlib.Omega.{arith}
use lib.Dec.{eqb}
use lib.ListN.{length, length-append}
use Rattle.std.specs.Prelude.{Some, None}
use Rattle.mrc_instruction.specs.declared.errors.Refusal.{Refusal}
use Rattle.mrc_instruction.specs.declared.reading.Reading.{Reading}
use Rattle.mrc_instruction.specs.declared.reading.Reading.TheVariants.{One, Two}
use Rattle.mrc_instruction.specs.declared.operand.OperandSize.{OperandSize}
use Rattle.mrc_instruction.specs.declared.operand.OperandSize.TheVariants.{Byte, Word}
use Rattle.mrc_instruction.specs.declared.operand.Immediate.{Immediate}
use Rattle.mrc_instruction.specs.declared.operand.Displacement.{Displacement}
use Rattle.mrc_instruction.specs.declared.operand.Operand.{Operand}
use Rattle.mrc_instruction.specs.declared.instruction.OperandSet.{OperandSet}
use Rattle.mrc_instruction.specs.declared.mrrm.RegisterOrMemory.{RegisterOrMemory}
use Rattle.mrc_instruction.specs.Errors.{number_of, byte_of}
use Rattle.mrc_instruction.specs.Reader.{Reader, done, ◌>>=◌, a_byte, a_word}
use Rattle.mrc_instruction.specs.Signed.{signed_byte, signed_word}
use Rattle.mrc_instruction.specs.Register.{register_of, segment_of}
use Rattle.mrc_instruction.specs.Operand.{addressing_of, segment_for}
use Rattle.mrc_instruction.specs.Mrrm.{a_register_or_memory, modrm, a_modrm, reg_field, written_by, written_in, operand_of}
use Rattle.mrc_rules.specs.Forms.{Tail, an_immediate, a_displacement, register, rm, reg, segment_reg}
use Rattle.mrc_rules.specs.Operands.{Place, Places, nothing, only, ◌⟵◌, test, rm_place, reg_place, segreg, immed, rel, byte_at, last_byte, last_word, reg_at, segment_by, named, operand_at, operands_at}
use Rattle.mrc_rules.specs.Operations.{name_at}
use Rattle.mrc_rules.specs.Prefixes.{keeps}
use Rattle.mrc_rules.specs.Reaches.{reach_at}
use Rattle.mrc_rules.specs.Lengths.{displacement_by, displacement_bytes, length_by}
use Rattle.mrc_rules.specs.Written.{between}
use Rattle.mrc_rules.specs.Refusals.{read, refused, no_places}
use Rattle.mrc_rules.proofs.Along.{Along, along_bind, last_byte_lem, last_word_lem}
use Rattle.mrc_rules.proofs.Accounts.{Account, bytes_in, verdict_by}

-- no operands
abbrev pub is_none : OperandSet → Bool
is_none OperandSet.None = true
is_none (OperandSet.Destination destination) = false
is_none (OperandSet.DestinationAndSource destination source) = false

pub bare_is : (reading : Reading) (q : Places) (l : List ℕ) → no_places q ≡ is_none (operands_at reading l q)
bare_is reading nothing l = refl
bare_is reading (only destination) l = refl
bare_is reading (destination ⟵ source) l = refl
bare_is reading (test destination source) l = go (eqb (reg_at l) 0)
  where
    go : (t : Bool)
        → false
        ≡ is_none (cond t (OperandSet.DestinationAndSource (operand_at reading l destination) (operand_at reading l source))
        (OperandSet.Destination (operand_at reading l destination)))
    go true = refl
    go false = refl

-- what has places for operands keeps no override
pub no_keeper : (reading : Reading) (q : Places) (l : List ℕ) (i : Tail) → no_places q ≡ false → i.operands ≡ operands_at reading l q
    → is_none i.operands && keeps reading i.operation ≡ false
no_keeper reading q l i there e =
    ap (λ (b : Bool). b && keeps reading i.operation) (ap is_none e ∙ sym (bare_is reading q l) ∙ there)

-- whatever follows
abbrev pub Followed : (List ℕ → Type 0) → List ℕ → Type 0
Followed S l = (x : List ℕ) → S (l ++ x)

pub at_end : (S : List ℕ → Type 0) (l : List ℕ) → Followed S l → S l
at_end S l h = subst S (append-nil l) (h [])

pub followed_by : (S : List ℕ → Type 0) (l y : List ℕ) → Followed S l → Followed S (l ++ y)
followed_by S l y h x = subst S (sym (append_assoc l y x)) (h (y ++ x))

-- what a ModRM's operand of a size and its byte say of the bytes that they were read from
pub record Says (reading : Reading) (size : OperandSize) (operand : Operand) (byte : ℕ) (l : List ℕ) : Type 0 where
  pub by_rm : operand ≡ operand_at reading l (rm_place size)
  pub second : byte_at l 1 ≡ byte

-- what reg names
module _ {reading : Reading} {size : OperandSize} {operand : Operand} {byte : ℕ} {l : List ℕ} (s : Says reading size operand byte l) where
  pub field : reg_field byte ≡ reg_at l
  field = ap reg_field (sym s.second)

  pub by_reg_lem : reg byte size ≡ operand_at reading l (reg_place size)
  by_reg_lem = ap (λ (n : ℕ). register (register_of n) size) field

  pub by_segment : segment_reg byte ≡ operand_at reading l segreg
  by_segment = ap (λ (n : ℕ). Operand.Segment (segment_of n)) field

-- the segment of an addressing mode is that of the rm which names it
segment_by_lem : (reading : Reading) (field : ℕ) → segment_for reading (addressing_of field) ≡ segment_by reading field
segment_by_lem One field = refl
segment_by_lem Two zero = refl
segment_by_lem Two (suc zero) = refl
segment_by_lem Two (suc (suc zero)) = refl
segment_by_lem Two (suc (suc (suc zero))) = refl
segment_by_lem Two (suc (suc (suc (suc zero)))) = refl
segment_by_lem Two (suc (suc (suc (suc (suc zero))))) = refl
segment_by_lem Two (suc (suc (suc (suc (suc (suc zero)))))) = refl
segment_by_lem Two (suc (suc (suc (suc (suc (suc (suc zero))))))) = refl
segment_by_lem Two (suc (suc (suc (suc (suc (suc (suc (suc n)))))))) =
    let field = suc (suc (suc (suc (suc (suc (suc (suc n))))))) in
    rw (ne_eqb field 2 (omega arith), ne_eqb field 3 (omega arith), ne_eqb field 6 (omega arith)) refl

pub record Names (reading : Reading) (b mode field : ℕ) (x : RegisterOrMemory) (l : List ℕ) : Type 0 where
  pub is : (size : OperandSize) → operand_of reading size x ≡ named reading mode field size l
  pub behind : byte_at l 1 ≡ b
  pub count : written_by x ≡ displacement_by mode field

-- what an account says where a byte is asked for, of a refusal, and of what was read
module _ (c : Account) where
  abbrev pub Waits : List ℕ → Type 0
  Waits l = length l < length_by c.extra l

  pub record RefusedBy (e : Refusal) (l : List ℕ) : Type 0 where
    pub whole : (x : List ℕ) → length_by c.extra (l ++ x) ≡ length l
    pub told : (x : List ℕ) → verdict_by c.bar (l ++ x) ≡ refused (number_of e) (byte_of e)

module _ (reading : Reading) (c : Account) (bytes : List ℕ → ℕ) where
  pub record ReadWith (i : Tail) (l : List ℕ) : Type 0 where
    pub operands : i.operands ≡ operands_at reading l c.places
    pub operation : (x : List ℕ) → name_at (l ++ x) c.name ≡ Some i.operation
    pub reach : (x : List ℕ) → reach_at (l ++ x) c.distance ≡ i.reach
    pub whole : (x : List ℕ) → length_by c.extra (l ++ x) ≡ length l
    pub told : (x : List ℕ) → verdict_by c.bar (l ++ x) ≡ read
    pub keeper : is_none i.operands && keeps reading i.operation ≡ c.keeper
    pub nothing_kept : i.kept ≡ None
    pub written : i.written ≡ bytes l

-- with the displacement bytes between ModRM and immediate; and behind the ModRM, where they are not yet counted
module _ (reading : Reading) (c : Account) where
  abbrev pub ReadBy : Tail → List ℕ → Type 0
  ReadBy = ReadWith reading c (λ l. length (between c.extra l))

  abbrev pub ReadBehind : Tail → List ℕ → Type 0
  ReadBehind = ReadWith reading c (λ l. 0)

  abbrev pub Walk : List ℕ → Reader Tail → Type 0
  Walk = Along (Waits c) (RefusedBy c) ReadBy

  abbrev pub WalkBehind : List ℕ → Reader Tail → Type 0
  WalkBehind = Along (Waits c) (RefusedBy c) ReadBehind

-- a ModRM and its displacement, under any claims that hold where fewer bytes are read than they have
abbrev pub Modrm : Reading → OperandSize → Operand → ℕ → List ℕ → Type 0
Modrm reading size operand byte l = Followed (Says reading size operand byte) l × (length l ≡ 2 + displacement_bytes byte)

module _ (reading : Reading) (W : List ℕ → Type 0) (P : Refusal → List ℕ → Type 0) where
  rm_along : (opcode b mode field : ℕ) → ((l : List ℕ) → byte_at l 1 ≡ b → length l < 2 + displacement_by mode field → W l)
      → Along W P (λ x l. Followed (Names reading b mode field x) l × (length l ≡ 2 + displacement_by mode field)) (opcode ∷ b ∷ []) (a_register_or_memory mode field)
  unfolding a_byte a_word
  rm_along opcode b zero field asks = go (eqb field 6) refl
    where
      go : (t : Bool) → eqb field 6 ≡ t
          → Along W P (λ x l. Followed (Names reading b zero field x) l × (length l ≡ 2 + displacement_by zero field)) (opcode ∷ b ∷ [])
          (cond t (a_word >>= λ w. done (RegisterOrMemory.Direct w)) (done (RegisterOrMemory.Indirect (addressing_of field))))
      go true e = (
        asks (opcode ∷ b ∷ []) refl (rw e (omega arith)),
        λ low. (
          asks (opcode ∷ b ∷ low ∷ []) refl (rw e (omega arith)),
          λ high.
              (λ x. record { is = λ size. rw e refl; behind = refl; count = rw e refl }, rw e refl),
        ),
      )
      go false e = (λ x. record { is = λ size. rw (e, segment_by_lem reading field) refl; behind = refl; count = rw e refl }, rw e refl)
  rm_along opcode b (suc zero) field asks =
      (asks (opcode ∷ b ∷ []) refl (omega arith), λ d. (λ x. record { is = λ size. rw (segment_by_lem reading field) refl; behind = refl; count = refl }, refl))
  rm_along opcode b (suc (suc zero)) field asks = (
    asks (opcode ∷ b ∷ []) refl (omega arith),
    λ low.
        (asks (opcode ∷ b ∷ low ∷ []) refl (omega arith), λ high. (λ x. record { is = λ size. rw (segment_by_lem reading field) refl; behind = refl; count = refl }, refl)),
  )
  rm_along opcode b (suc (suc (suc n))) field asks = (λ x. record { is = λ size. refl; behind = refl; count = refl }, refl)

  pub modrm_along : (opcode : ℕ) (size : OperandSize) → ((l : List ℕ) → length l < 2 + displacement_bytes (byte_at l 1) → W l)
      → Along W P (λ m l. Modrm reading size (rm reading m size) m.byte l × (written_in m ≡ displacement_bytes m.byte)) (opcode ∷ []) a_modrm
  unfolding a_byte displacement_bytes
  modrm_along opcode size asks = (
    asks (opcode ∷ []) (omega arith),
    λ b.
        along_bind W P _ _ (opcode ∷ b ∷ []) (a_register_or_memory (b / 64) (b % 8)) (λ x. done (modrm b x))
        (rm_along opcode b (b / 64) (b % 8) (λ l e h. asks l (rw e h)))
        (λ r l h. ((λ x. record { by_rm = rw (h.0 x).behind ((h.0 x).is size); second = (h.0 x).behind }, h.1), (h.0 []).count)),
  )

  -- an immediate and a displacement, read after l: the operand is in the last bytes, and what holds of l followed by anything still holds
  module _ (K : List ℕ → Type 0) (l : List ℕ) (k : Followed K l) where
    abbrev pub Last : {A : Type 0} → ℕ → (A → Operand) → Place → A → List ℕ → Type 0
    Last n f place a z = (f a ≡ operand_at reading z place) × Followed K z × (length z ≡ length l + n)

    pub byte_along : (f : ℕ → Operand) (place : Place) → ((z : List ℕ) → f (last_byte z) ≡ operand_at reading z place)
        → ((x : List ℕ) → length x < 1 → W (l ++ x)) → Along W P (Last 1 f place) l a_byte
    unfolding a_byte
    byte_along f place e w = (
      subst W (append-nil l) (w [] (omega arith)),
      λ b.
          (ap f (sym (last_byte_lem l b)) ∙ e (l ++ (b ∷ [])), followed_by K l (b ∷ []) k, length-append l (b ∷ [])),
    )

    pub word_along : (f : ℕ → Operand) (place : Place) → ((z : List ℕ) → f (last_word z) ≡ operand_at reading z place)
        → ((x : List ℕ) → length x < 2 → W (l ++ x)) → Along W P (Last 2 f place) l a_word
    unfolding a_byte a_word
    word_along f place e w = (
      subst W (append-nil l) (w [] (omega arith)),
      λ low. (
        w (low ∷ []) (omega arith),
        λ high. (
          ap f (sym (last_word_lem l low high)) ∙ e ((l ++ (low ∷ [])) ++ (high ∷ [])),
          rw (append_assoc l (low ∷ []) (high ∷ [])) (followed_by K l (low ∷ high ∷ []) k),
          rw (append_assoc l (low ∷ []) (high ∷ [])) (length-append l (low ∷ high ∷ [])),
        ),
      ),
    )

    pub immediate_along : (size : OperandSize) → ((x : List ℕ) → length x < bytes_in size → W (l ++ x))
        → Along W P (Last (bytes_in size) Operand.Immediate (immed size)) l (an_immediate size)
    immediate_along Byte w = along_bind W P _ _ l a_byte _ (byte_along (λ b. Operand.Immediate (Immediate.Byte b)) (immed Byte) (λ z. refl) w) (λ b z h. h)
    immediate_along Word w = along_bind W P _ _ l a_word _ (word_along (λ w. Operand.Immediate (Immediate.Word w)) (immed Word) (λ z. refl) w) (λ w z h. h)

    pub displacement_along : (size : OperandSize) → ((x : List ℕ) → length x < bytes_in size → W (l ++ x))
        → Along W P (Last (bytes_in size) Operand.Displacement (rel size)) l (a_displacement size)
    displacement_along Byte w =
        along_bind W P _ _ l a_byte _ (byte_along (λ b. Operand.Displacement (Displacement.Byte (signed_byte b))) (rel Byte) (λ z. refl) w) (λ b z h. h)
    displacement_along Word w =
        along_bind W P _ _ l a_word _ (word_along (λ w. Operand.Displacement (Displacement.Word (signed_word w))) (rel Word) (λ z. refl) w) (λ w z h. h)
