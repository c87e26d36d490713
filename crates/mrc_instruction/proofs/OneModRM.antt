-- A ModRM from what it names: the operand and the number of displacement bytes say what mod and rm name, and that says mod, rm and those bytes.
-- Assumes nothing.
use mathlib.Core.Path.{◌≡◌, refl, ap, ap₂, sym, subst, ◌∙◌}
use mathlib.Core.Bool.{Bool, true, false, cond}
use mathlib.Core.List.{List, [], ◌∷◌}
use Prim.Native.Nat.{ℕ, zero, suc, ◌+◌, ◌*◌, ◌/◌, ◌%◌, ◌<◌}
use native.Mathlib.Omega.{arith}
use borrow.Author.Tests.{eqb-true}
use lib.Dec.{eqb}
use lib.IntN.{pos, negsuc}
use lib.ListN.{take}
use Rattle.mrc_instruction.specs.declared.reading.Reading.{Reading}
use Rattle.mrc_instruction.specs.declared.register.RegisterEncoding.{RegisterEncoding}
use Rattle.mrc_instruction.specs.declared.operand.OperandSize.{OperandSize}
use Rattle.mrc_instruction.specs.declared.operand.Displacement.{Displacement}
use Rattle.mrc_instruction.specs.declared.operand.Operand.{Operand}
use Rattle.mrc_instruction.specs.declared.mrrm.RegisterOrMemory.{RegisterOrMemory}
use Rattle.mrc_instruction.specs.Register.{register_code}
use Rattle.mrc_instruction.specs.Operand.{addressing_of, addressing_code}
use Rattle.mrc_instruction.specs.Signed.{signed_word, unsigned_byte, unsigned_word}
use Rattle.mrc_instruction.specs.Reader.{Reader, done, refuse, next, ◌>>=◌, Outcome, got, stopped, more, read_from, Bytes, a_byte, a_word}
use Rattle.mrc_instruction.specs.Mrrm.{ModRM, a_register_or_memory, modrm, a_modrm, memory, written_by, written_in, operand_of}
use Rattle.mrc_instruction.proofs.Codes.{registers_both_ways, modes_both_ways}
use Rattle.mrc_instruction.proofs.Complement.{unsigned_back}

-- what mod and rm name, by the operand and the number; what no ModRM names is any register
abbrev named_by : Operand → ℕ → RegisterOrMemory
named_by (Operand.Direct segment size offset) n = RegisterOrMemory.Direct offset
named_by (Operand.Indirect segment size mode Displacement.None) zero = RegisterOrMemory.Indirect mode
named_by (Operand.Indirect segment size mode Displacement.None) (suc zero) = RegisterOrMemory.DisplacementByte mode (pos 0)
named_by (Operand.Indirect segment size mode Displacement.None) (suc (suc n)) = RegisterOrMemory.DisplacementWord mode (pos 0)
named_by (Operand.Indirect segment size mode (Displacement.Byte d)) n = RegisterOrMemory.DisplacementByte mode d
named_by (Operand.Indirect segment size mode (Displacement.Word d)) n = RegisterOrMemory.DisplacementWord mode d
named_by (Operand.Register register) n = RegisterOrMemory.Register register.0
named_by (Operand.Segment segment) n = RegisterOrMemory.Register RegisterEncoding.AlAx
named_by (Operand.Immediate immediate) n = RegisterOrMemory.Register RegisterEncoding.AlAx
named_by (Operand.Displacement displacement) n = RegisterOrMemory.Register RegisterEncoding.AlAx
named_by (Operand.SegmentAndOffset address) n = RegisterOrMemory.Register RegisterEncoding.AlAx

named_again : (x : Reading) (size : OperandSize) (y : RegisterOrMemory) → named_by (operand_of x size y) (written_by y) ≡ y
named_again x size (RegisterOrMemory.Direct w) = refl
named_again x size (RegisterOrMemory.Indirect mode) = refl
named_again x size (RegisterOrMemory.DisplacementByte mode (pos zero)) = refl
named_again x size (RegisterOrMemory.DisplacementByte mode (pos (suc n))) = refl
named_again x size (RegisterOrMemory.DisplacementByte mode (negsuc n)) = refl
named_again x size (RegisterOrMemory.DisplacementWord mode (pos zero)) = refl
named_again x size (RegisterOrMemory.DisplacementWord mode (pos (suc n))) = refl
named_again x size (RegisterOrMemory.DisplacementWord mode (negsuc n)) = refl
named_again x size (RegisterOrMemory.Register r) = refl

-- mod, rm and the displacement bytes, by what they name
abbrev mod_of : RegisterOrMemory → ℕ
mod_of (RegisterOrMemory.Direct w) = 0
mod_of (RegisterOrMemory.Indirect mode) = 0
mod_of (RegisterOrMemory.DisplacementByte mode d) = 1
mod_of (RegisterOrMemory.DisplacementWord mode d) = 2
mod_of (RegisterOrMemory.Register r) = 3

abbrev rm_of : RegisterOrMemory → ℕ
rm_of (RegisterOrMemory.Direct w) = 6
rm_of (RegisterOrMemory.Indirect mode) = addressing_code mode
rm_of (RegisterOrMemory.DisplacementByte mode d) = addressing_code mode
rm_of (RegisterOrMemory.DisplacementWord mode d) = addressing_code mode
rm_of (RegisterOrMemory.Register r) = register_code r

abbrev word_bytes : ℕ → List ℕ
word_bytes w = w % 256 ∷ w / 256 ∷ []

abbrev bytes_of : RegisterOrMemory → List ℕ
bytes_of (RegisterOrMemory.Direct w) = word_bytes w
bytes_of (RegisterOrMemory.Indirect mode) = []
bytes_of (RegisterOrMemory.DisplacementByte mode d) = unsigned_byte d ∷ []
bytes_of (RegisterOrMemory.DisplacementWord mode d) = word_bytes (unsigned_word d)
bytes_of (RegisterOrMemory.Register r) = []

word_back : (low high : ℕ) → low < 256 → word_bytes (low + 256 * high) ≡ low ∷ high ∷ []
word_back low high h =
    let a : (low + 256 * high) % 256 ≡ low = omega arith in
    let b : (low + 256 * high) / 256 ≡ high = omega arith in
    ap₂ (λ (x y : ℕ). x ∷ y ∷ []) a b

signed_word_back : (low high : ℕ) → low < 256 → high < 256 → word_bytes (unsigned_word (signed_word (low + 256 * high))) ≡ low ∷ high ∷ []
signed_word_back low high h k = ap word_bytes (unsigned_back 32768 65535 refl (low + 256 * high) (omega arith)) ∙ word_back low high h

-- what was read for mod and rm says which they were, and the displacement bytes at the front
pub record Spelt (mode rm : ℕ) (l : List ℕ) (y : RegisterOrMemory) : Type 0 where
  pub mode_is : mod_of y ≡ mode
  pub rm_is : rm_of y ≡ rm
  pub bytes_are : bytes_of y ≡ take (written_by y) l

abbrev Whenever : {A : Type 0} → (A → Type 0) → Outcome A → Type 0
Whenever P (got a n) = P a
Whenever P (stopped e n) = Unit {0}

spelt : (mode rm : ℕ) (l : List ℕ) → mode < 4 → rm < 8 → Bytes l → Whenever (Spelt mode rm l) (read_from (a_register_or_memory mode rm) l)
unfolding a_byte a_word
spelt zero rm l h k b = go (eqb rm 6) refl l b
  where
    go : (t : Bool) → eqb rm 6 ≡ t → (l : List ℕ) → Bytes l
        → Whenever (Spelt zero rm l) (read_from (cond t (a_word >>= λ w. done (RegisterOrMemory.Direct w)) (done (RegisterOrMemory.Indirect (addressing_of rm)))) l)
    go true e [] b = tt
    go true e (low ∷ []) b = tt
    go true e (low ∷ high ∷ l) b = record { mode_is = refl; rm_is = sym (eqb-true rm 6 e); bytes_are = word_back low high (b 0) }
    go false e l b = record { mode_is = refl; rm_is = modes_both_ways.forth rm k; bytes_are = refl }
spelt (suc zero) rm [] h k b = tt
spelt (suc zero) rm (d ∷ l) h k b =
    record { mode_is = refl; rm_is = modes_both_ways.forth rm k; bytes_are = ap (λ (n : ℕ). n ∷ []) (unsigned_back 128 255 refl d (b 0)) }
spelt (suc (suc zero)) rm [] h k b = tt
spelt (suc (suc zero)) rm (low ∷ []) h k b = tt
spelt (suc (suc zero)) rm (low ∷ high ∷ l) h k b =
    record { mode_is = refl; rm_is = modes_both_ways.forth rm k; bytes_are = signed_word_back low high (b 0) (b 1) }
spelt (suc (suc (suc zero))) rm l h k b = record { mode_is = refl; rm_is = registers_both_ways.forth rm k; bytes_are = refl }
spelt (suc (suc (suc (suc n)))) rm l h k b = absurd (omega arith)

-- so of what is then made of it
whenever_more : {A : Type 0} (P : A → Type 0) (o : Outcome A) → Whenever P o → Whenever P (more o)
whenever_more P (got a n) h = h
whenever_more P (stopped e n) h = tt

less : {A : Type 0} (P : A → Type 0) (o : Outcome A) → Whenever P (more o) → Whenever P o
less P (got a n) h = h
less P (stopped e n) h = tt

then_made : {A B : Type 0} (P : A → Type 0) (Q : B → Type 0) (f : A → B) → ((a : A) → P a → Q (f a)) → (m : Reader A) (l : List ℕ)
    → Whenever P (read_from m l) → Whenever Q (read_from (m >>= λ a. done (f a)) l)
then_made P Q f q (done a) l h = q a h
then_made P Q f q (refuse e) l h = tt
then_made P Q f q (next k) [] h = tt
then_made P Q f q (next k) (b ∷ l) h =
    whenever_more Q (read_from (k b >>= λ a. done (f a)) l) (then_made P Q f q (k b) l (less P (read_from (k b) l) h))

modrm_spelt : (b : ℕ) (l : List ℕ) → b < 256 → Bytes l → Whenever (λ m. Spelt (b / 64) (b % 8) l (memory m)) (read_from a_modrm (b ∷ l))
unfolding a_byte
modrm_spelt b l h k =
    whenever_more (λ m. Spelt (b / 64) (b % 8) l (memory m)) (read_from (a_register_or_memory (b / 64) (b % 8) >>= λ y. done (modrm b y)) l)
    (then_made (Spelt (b / 64) (b % 8) l) (λ m. Spelt (b / 64) (b % 8) l (memory m)) (modrm b) (λ y s. s) (a_register_or_memory (b / 64) (b % 8)) l
    (spelt (b / 64) (b % 8) l (omega arith) (omega arith) k))

pub one_modrm : (x : Reading) (size : OperandSize) (b c : ℕ) (l k : List ℕ) (m q : ModRM) (i j : ℕ) → b < 256 → c < 256 → Bytes l → Bytes k
    → read_from a_modrm (b ∷ l) ≡ got m i → read_from a_modrm (c ∷ k) ≡ got q j
    → operand_of x size (memory m) ≡ operand_of x size (memory q) → written_in m ≡ written_in q
    → (b / 64 ≡ c / 64) × (b % 8 ≡ c % 8) × (take (written_in m) l ≡ take (written_in m) k)
one_modrm x size b c l k m q i j hb hc hl hk em eq operand number =
    let s : Spelt (b / 64) (b % 8) l (memory m) = subst (Whenever (λ m. Spelt (b / 64) (b % 8) l (memory m))) em (modrm_spelt b l hb hl) in
    let t : Spelt (c / 64) (c % 8) k (memory q) = subst (Whenever (λ m. Spelt (c / 64) (c % 8) k (memory m))) eq (modrm_spelt c k hc hk) in
    let same : memory m ≡ memory q = sym (named_again x size (memory m)) ∙ ap₂ named_by operand number ∙ named_again x size (memory q) in (
      sym s.mode_is ∙ ap mod_of same ∙ t.mode_is,
      sym s.rm_is ∙ ap rm_of same ∙ t.rm_is,
      sym s.bytes_are ∙ ap bytes_of same ∙ t.bytes_are ∙ ap (λ (n : ℕ). take n k) (sym number),
    )
