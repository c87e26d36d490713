-- What each row of the table comes to: the operands, the operation, the length, the distance, the displacement bytes and the refusals of its account.
-- Assumes nothing.
use borrow.Author.Tests.{ne_eqb}
use mathlib.Core.Path.{◌≡◌, refl, ap, ap₂, sym, ◌∙◌}
use mathlib.Core.Bool.{Bool, false, cond}
use mathlib.Core.List.{List, [], ◌∷◌, ◌++◌, map}
use Prim.Native.Nat.{ℕ, zero, suc, ◌+◌, ◌-◌, ◌<◌}
use native.Mathlib.Omega.{arith}
use lib.Dec.{eqb, ltb}
use lib.ListN.{length, get_or, drop, length-append, length-take, length-drop}
use Rattle.std.specs.Prelude.{Some, None}
use Rattle.mrc_instruction.specs.declared.errors.Refusal.{Refusal}
use Rattle.mrc_instruction.specs.declared.reading.Reading.{Reading}
use Rattle.mrc_instruction.specs.declared.reading.Reading.TheVariants.{One, Two}
use Rattle.mrc_instruction.specs.declared.register.RegisterEncoding.TheVariants.{ClCx}
use Rattle.mrc_instruction.specs.declared.operand.OperandSize.{OperandSize}
use Rattle.mrc_instruction.specs.declared.operand.OperandSize.TheVariants.{Byte, Word}
use Rattle.mrc_instruction.specs.declared.operand.Immediate.{Immediate}
use Rattle.mrc_instruction.specs.declared.operand.Operand.{Operand}
use Rattle.mrc_instruction.specs.declared.instruction.OperandSet.{OperandSet}
use Rattle.mrc_instruction.specs.declared.instruction.Reach.{Reach}
use Rattle.mrc_instruction.specs.declared.operation.Operation.{Operation}
use Rattle.mrc_instruction.specs.declared.operation.Operation.TheVariants.{ADD, OR, ADC, SBB, AND, SUB, XOR, CMP, ROL, ROR, RCL, RCR, SHL, SHR, SAR, NOT, NEG, MUL, IMUL, DIV, IDIV, INC, DEC, CALL, JMP, PUSH, MOV, POP, ESC}
use Rattle.mrc_instruction.specs.Errors.{number_of, byte_of}
use Rattle.mrc_instruction.specs.Reader.{Reader, done, refuse, ◌>>=◌, a_byte, a_word}
use Rattle.mrc_instruction.specs.Mrrm.{a_modrm, reg_field, written_in}
use Rattle.mrc_instruction.specs.Instruction.{plain, reached, wrote}
use Rattle.mrc_rules.specs.Forms.{Tail, Row, ◌⦂◌, rest, with_modrm, one, two, register, acc, an_immediate, a_displacement, rm, arithmetic, shift, group_fe_operation, group_f6_by, bare, prefix, invalid, rm_reg, reg_rm, immediate_to_accumulator, on_segment, on_register, on_displacement, group80, group83, pop, rm_segment, segment_rm, exchange, far, acc_direct, direct_acc, register_and_immediate, shift_by_immediate, shift_by_one, shift_by_cl, on_immediate, group_c6, escape, in_port, out_port, in_dx, out_dx, group_f6, group_fe, escape_rm, reaching, group_fe_reach, widened, count_size}
use Rattle.mrc_rules.specs.Operands.{rm_place, reg_place, segreg, immed, rel, widened_place, the_register, one_place, Places, only, ◌⟵◌, test, byte_at, reg_at, last_byte, operand_at, operands_at}
use Rattle.mrc_rules.specs.Operations.{Mnemonic, the, by_reg, name_at}
use Rattle.mrc_rules.specs.Operations as op
use Rattle.mrc_rules.specs.Reaches.{Distance, always, neither, reach_at}
use Rattle.mrc_rules.specs.Lengths.{Extra, displacement_bytes, fixed, modrm, tested, length_by}
use Rattle.mrc_rules.specs.Written.{before, between}
use Rattle.mrc_rules.specs.Refusals.{read, refused, no_places}
use Rattle.mrc_rules.proofs.Along.{along_bind, along_cond, along_kept, along_made}
use Rattle.mrc_rules.proofs.Accounts.{Account, account, distant, in_group_fe, account_of, Bar, free, popped, segment, grouped, verdict_by, bytes_in}
use Rattle.mrc_rules.proofs.Places.{no_keeper, Followed, followed_by, at_end, Says, field, by_reg_lem, by_segment, Waits, RefusedBy, ReadBy, ReadBehind, Walk, WalkBehind, Modrm, modrm_along, byte_along, immediate_along, displacement_along}

-- a group's operation is the one that reg names in it
abbrev Named : Mnemonic → (ℕ → Operation) → Type 0
Named name f = (byte : ℕ) (l : List ℕ) → byte_at l 1 ≡ byte → name_at l name ≡ Some (f byte)

in_list : (l : List Operation) (n : ℕ) (d : Operation) → n < length l → get_or (map Some l) n None ≡ Some (get_or l n d)
in_list [] n d h = absurd (omega arith)
in_list (x ∷ l) zero d h = refl
in_list (x ∷ l) (suc n) d h = in_list l n d (omega arith)

by_list : (l : List Operation) (d : Operation) → length l ≡ 8 → Named (by_reg (map Some l)) (λ byte. get_or l (reg_field byte) d)
by_list l d e byte x second = rw second (in_list l (reg_field byte) d (omega arith))

the_one : (o : Operation) → Named (the o) (λ byte. o)
the_one o byte l second = refl

arithmetic_named : Named (by_reg op.arithmetic) (λ byte. arithmetic (reg_field byte))
arithmetic_named = by_list (ADD ∷ OR ∷ ADC ∷ SBB ∷ AND ∷ SUB ∷ XOR ∷ CMP ∷ []) CMP refl

shift_named : Named (by_reg op.shifts) (λ byte. shift (reg_field byte))
shift_named = by_list (ROL ∷ ROR ∷ RCL ∷ RCR ∷ SHL ∷ SHR ∷ SHL ∷ SAR ∷ []) SAR refl

group_fe_named : Named (by_reg op.group_fe) (λ byte. group_fe_operation (reg_field byte))
group_fe_named = by_list (INC ∷ DEC ∷ CALL ∷ CALL ∷ JMP ∷ JMP ∷ PUSH ∷ PUSH ∷ []) PUSH refl

-- the length of a ModRM and n bytes behind it, and that more are asked for before they are read
module _ (reading : Reading) (size : OperandSize) (operand : Operand) (byte : ℕ) (l : List ℕ) (s : Modrm reading size operand byte l) (n : ℕ) where
  pub behind_waits : (x : List ℕ) → length x < n → length (l ++ x) < length_by (modrm n) (l ++ x)
  behind_waits x h = rw (s.0 x).second (omega (arith, length-append l x, s.1))

  pub behind_whole : (y : List ℕ) → Followed (Says reading size operand byte) y → length y ≡ length l + n → (x : List ℕ) → length_by (modrm n) (y ++ x) ≡ length y
  behind_whole y k e x = rw (k x).second (omega (arith, s.1))

alone_whole : (reading : Reading) (size : OperandSize) (operand : Operand) (byte : ℕ) (l : List ℕ) → Modrm reading size operand byte l
    → (x : List ℕ) → length_by (modrm 0) (l ++ x) ≡ length l
alone_whole reading size operand byte l s = behind_whole reading size operand byte l s 0 l s.0 (omega arith)

-- what is read where the last byte is: a ModRM with n bytes behind it, and with none
module _ (reading : Reading) (q : Places) (there : no_places q ≡ false) (name : Mnemonic) (bar : Bar) (d : Distance) (size : OperandSize) (operand : Operand) (byte : ℕ)
    (i : Tail) (named : (l : List ℕ) → byte_at l 1 ≡ byte → name_at l name ≡ Some i.operation) (far : (l : List ℕ) → byte_at l 1 ≡ byte → reach_at l d ≡ i.reach)
    (plainly : i.kept ≡ None) (uncounted : i.written ≡ 0) where
  read_behind_lem : (n : ℕ) (l : List ℕ) → Modrm reading size operand byte l → (y : List ℕ) → Followed (Says reading size operand byte) y → length y ≡ length l + n
      → i.operands ≡ operands_at reading y q → ((x : List ℕ) → verdict_by bar (y ++ x) ≡ read) → ReadBehind reading (distant d (account q name (modrm n) bar)) i y
  read_behind_lem n l s y k e h t =
      record {
        operands = h;
        operation = λ x. named (y ++ x) (k x).second;
        reach = λ x. far (y ++ x) (k x).second;
        whole = behind_whole reading size operand byte l s n y k e;
        told = t;
        keeper = no_keeper reading q y i there h;
        nothing_kept = plainly;
        written = uncounted;
      }

  read_alone : (l : List ℕ) → Modrm reading size operand byte l → i.operands ≡ operands_at reading l q → ((x : List ℕ) → verdict_by bar (l ++ x) ≡ read)
      → ReadBehind reading (distant d (account q name (modrm 0) bar)) i l
  read_alone l s h t = read_behind_lem 0 l s l s.0 (omega arith) h t

-- an account that has a ModRM; of a whole instruction the bytes between it and the immediate are those that mod and rm call for
abbrev HasModRM : Extra → Type 0
HasModRM (fixed n) = ⊥
HasModRM (modrm n) = Unit {0}
HasModRM (tested n) = Unit {0}

before_counted : (n : ℕ) (l : List ℕ) → 2 + displacement_bytes (byte_at l 1) + n ≡ length l → length (before n l) ≡ displacement_bytes (byte_at l 1)
before_counted n l e = omega (arith, length-take (length l - (2 + n)) (drop 2 l), length-drop 2 l)

between_counted : (x : Extra) → HasModRM x → (l : List ℕ) → length_by x l ≡ length l → length (between x l) ≡ displacement_bytes (byte_at l 1)
between_counted (fixed n) there l e = absurd there
between_counted (modrm n) there l e = before_counted n l e
between_counted (tested n) there l e = before_counted (cond (eqb (reg_at l) 0) n 0) l e

-- nothing is asked
unfoldable Nowhere : List ℕ → Type 0
Nowhere l = Unit {0}

module _ (reading : Reading) (opcode : ℕ) where
  -- a ModRM, and what is done with it, under an account that has its bytes; its displacement bytes are then counted
  after_modrm : (c : Account) → HasModRM c.extra → (size : OperandSize) (f : Operand → ℕ → Reader Tail)
      → ((l : List ℕ) → length l < 2 + displacement_bytes (byte_at l 1) → Waits c l)
      → ((operand : Operand) (byte : ℕ) (l : List ℕ) → Modrm reading size operand byte l → WalkBehind reading c l (f operand byte))
      → Walk reading c (opcode ∷ []) (with_modrm reading size f)
  unfolding with_modrm
  after_modrm c there size f asks h =
      along_bind (Waits c) (RefusedBy c) _ _ (opcode ∷ []) a_modrm _ (modrm_along reading (Waits c) (RefusedBy c) opcode size asks)
      (λ m l s.
      let K = Followed (Says reading size (rm reading m size) m.byte) in
      along_made (λ i z. ReadBehind reading c i z × K z) (ReadBy reading c) (wrote (written_in m)) (λ z w. w) (λ e z r. r)
      (λ i z r. record {
        operands = r.0.operands;
        operation = r.0.operation;
        reach = r.0.reach;
        whole = r.0.whole;
        told = r.0.told;
        keeper = r.0.keeper;
        nothing_kept = r.0.nothing_kept;
        written =
            s.1
            ∙ ap displacement_bytes (sym (at_end (Says reading size (rm reading m size) m.byte) z r.1).second)
            ∙ sym (between_counted c.extra there z (at_end (λ y. length_by c.extra y ≡ length z) z r.0.whole));
      })
      l (f (rm reading m size) m.byte)
      (along_kept (Waits c) (RefusedBy c) K (λ y b. followed_by (Says reading size (rm reading m size) m.byte) y (b ∷ [])) (ReadBehind reading c) l
      (f (rm reading m size) m.byte) s.0.0 (h (rm reading m size) m.byte l s.0)))

  -- an immediate behind the opcode, and a displacement
  after_immediate : (q : Places) → no_places q ≡ false → (o : Operation) (size : OperandSize) (f : Immediate → OperandSet)
      → ((i : Immediate) (l : List ℕ) → Operand.Immediate i ≡ operand_at reading l (immed size) → f i ≡ operands_at reading l q)
      → Walk reading (account q (the o) (fixed (bytes_in size)) free) (opcode ∷ []) (an_immediate size >>= λ i. done (plain o (f i)))
  unfolding Nowhere
  after_immediate q there o size f h =
      let c = account q (the o) (fixed (bytes_in size)) free in
      along_bind (Waits c) (RefusedBy c) _ _ (opcode ∷ []) (an_immediate size) _
      (immediate_along reading (Waits c) (RefusedBy c) Nowhere (opcode ∷ []) (λ x. tt) size (λ x k. omega arith))
      (λ i l e. record {
        operands = h i l e.0;
        operation = λ x. refl;
        reach = λ x. refl;
        whole = λ x. omega (arith, e.2);
        told = λ x. refl;
        keeper = no_keeper reading q l (plain o (f i)) there (h i l e.0);
        nothing_kept = refl;
        written = refl;
      })

  after_displacement : (o : Operation) (size : OperandSize)
      → Walk reading (account (only (rel size)) (the o) (fixed (bytes_in size)) free) (opcode ∷ []) (a_displacement size >>= λ d. done (one o (Operand.Displacement d)))
  unfolding Nowhere
  after_displacement o size =
      let c = account (only (rel size)) (the o) (fixed (bytes_in size)) free in
      along_bind (Waits c) (RefusedBy c) _ _ (opcode ∷ []) (a_displacement size) _
      (displacement_along reading (Waits c) (RefusedBy c) Nowhere (opcode ∷ []) (λ x. tt) size (λ x k. omega arith))
      (λ d l e. record {
        operands = ap OperandSet.Destination e.0;
        operation = λ x. refl;
        reach = λ x. refl;
        whole = λ x. omega (arith, e.2);
        told = λ x. refl;
        keeper = refl;
        nothing_kept = refl;
        written = refl;
      })

  -- a ModRM alone; and one whose reg a test may refuse
  modrm_alone : (q : Places) → no_places q ≡ false → (name : Mnemonic) (size : OperandSize) (o : ℕ → Operation) (operands : Operand → ℕ → OperandSet) → Named name o
      → ((operand : Operand) (byte : ℕ) (l : List ℕ) → Says reading size operand byte l → operands operand byte ≡ operands_at reading l q)
      → Walk reading (account q name (modrm 0) free) (opcode ∷ []) (with_modrm reading size (λ operand byte. done (plain (o byte) (operands operand byte))))
  modrm_alone q there name size o operands named e =
      after_modrm (account q name (modrm 0) free) tt size _ (λ l k. omega arith)
      (λ operand byte l s. read_alone reading q there name free neither size operand byte _ (named byte) (λ y e. refl) refl refl l s (e operand byte l (at_end (Says reading size operand byte) l s.0)) (λ x. refl))

  modrm_tested : (q : Places) → no_places q ≡ false → (o : Operation) (bar : Bar) (size : OperandSize) (operands : Operand → ℕ → OperandSet) (passes : ℕ → Bool) (refusal : ℕ → Refusal)
      → ((operand : Operand) (byte : ℕ) (l : List ℕ) → Says reading size operand byte l → operands operand byte ≡ operands_at reading l q)
      → ((byte : ℕ) (l : List ℕ) → byte_at l 1 ≡ byte → verdict_by bar l ≡ cond (passes byte) read (refused (number_of (refusal byte)) (byte_of (refusal byte))))
      → Walk reading (account q (the o) (modrm 0) bar) (opcode ∷ [])
      (with_modrm reading size (λ operand byte. cond (passes byte) (done (plain o (operands operand byte))) (refuse (refusal byte))))
  modrm_tested q there o bar size operands passes refusal e v =
      let c = account q (the o) (modrm 0) bar in
      after_modrm c tt size _ (λ l k. omega arith)
      (λ operand byte l s. along_cond (Waits c) (RefusedBy c) _ l (passes byte) _ _
      (λ t. read_alone reading q there (the o) bar neither size operand byte _ (the_one o byte) (λ y e. refl) refl refl l s (e operand byte l (at_end (Says reading size operand byte) l s.0))
      (λ x. v byte (l ++ x) (s.0 x).second ∙ rw t refl))
      (λ t. record { whole = alone_whole reading size operand byte l s; told = λ x. v byte (l ++ x) (s.0 x).second ∙ rw t refl }))

  -- a ModRM and then an immediate: mod and rm name the destination, and the source is the immediate
  modrm_immediate : (size width : OperandSize) (name : Mnemonic) (o : ℕ → Operation) → Named name o
      → Walk reading (account (rm_place size ⟵ immed width) name (modrm (bytes_in width)) free) (opcode ∷ [])
      (with_modrm reading size (λ operand byte. an_immediate width >>= λ i. done (two (o byte) operand (Operand.Immediate i))))
  modrm_immediate size width name o named =
      let q = rm_place size ⟵ immed width in
      let c = account q name (modrm (bytes_in width)) free in
      after_modrm c tt size _ (λ l k. omega arith)
      (λ operand byte l s. along_bind (Waits c) (RefusedBy c) _ _ l (an_immediate width) _
      (immediate_along reading (Waits c) (RefusedBy c) (Says reading size operand byte) l s.0 width (behind_waits reading size operand byte l s (bytes_in width)))
      (λ i y e. read_behind_lem reading q refl name free neither size operand byte _ (named byte) (λ y e. refl) refl refl (bytes_in width) l s y e.1 e.2
      (ap₂ OperandSet.DestinationAndSource (at_end (Says reading size operand byte) y e.1).by_rm e.0) (λ x. refl)))

  -- the same with a byte that is widened
  widened_byte : (l : List ℕ) → Operand.Immediate (Immediate.Word (widened reading (last_byte l))) ≡ operand_at reading l (widened_place reading)
  widened_byte l = go reading
    where
      go : (x : Reading) → Operand.Immediate (Immediate.Word (widened x (last_byte l))) ≡ operand_at x l (widened_place x)
      go One = refl
      go Two = refl

  modrm_widened : (size : OperandSize) (name : Mnemonic) (o : ℕ → Operation) → Named name o
      → Walk reading (account (rm_place size ⟵ widened_place reading) name (modrm 1) free) (opcode ∷ [])
      (with_modrm reading size (λ operand byte. a_byte >>= λ b. done (two (o byte) operand (Operand.Immediate (Immediate.Word (widened reading b))))))
  modrm_widened size name o named =
      let q = rm_place size ⟵ widened_place reading in
      let c = account q name (modrm 1) free in
      after_modrm c tt size _ (λ l k. omega arith)
      (λ operand byte l s. along_bind (Waits c) (RefusedBy c) _ _ l a_byte _
      (byte_along reading (Waits c) (RefusedBy c) (Says reading size operand byte) l s.0 (λ b. Operand.Immediate (Immediate.Word (widened reading b)))
      (widened_place reading)
      widened_byte
      (behind_waits reading size operand byte l s 1))
      (λ b y e. read_behind_lem reading q refl name free neither size operand byte _ (named byte) (λ y e. refl) refl refl 1 l s y e.1 e.2
      (ap₂ OperandSet.DestinationAndSource (at_end (Says reading size operand byte) y e.1).by_rm e.0) (λ x. refl)))

-- reg is 0, 1 or more, at F6 and F7
module _ (reading : Reading) (size : OperandSize) where
  abbrev GroupF6 : Account
  GroupF6 = account (test (rm_place size) (immed size)) (by_reg op.group_f6) (tested (bytes_in size)) grouped

  group_f6_along : (operand : Operand) (byte : ℕ) (l : List ℕ) → Modrm reading size operand byte l → (n : ℕ) → reg_field byte ≡ n → WalkBehind reading GroupF6 l (group_f6_by n operand size)
  group_f6_along operand byte l s zero e =
      along_bind (Waits GroupF6) (RefusedBy GroupF6) _ _ l (an_immediate size) _
      (immediate_along reading (Waits GroupF6) (RefusedBy GroupF6) (Says reading size operand byte) l s.0 size
      (λ x h. rw ((s.0 x).second, e) (omega (arith, length-append l x, s.1))))
      (λ i y k. let here = at_end (Says reading size operand byte) y k.1 in record {
        operands = rw (sym (field here) ∙ e) (ap₂ OperandSet.DestinationAndSource here.by_rm k.0);
        operation = λ x. rw ((k.1 x).second, e) refl;
        reach = λ x. refl;
        whole = λ x. rw ((k.1 x).second, e) (omega (arith, s.1, k.2));
        told = λ x. rw ((k.1 x).second, e) refl;
        keeper = refl;
        nothing_kept = refl;
        written = refl;
      })
  group_f6_along operand byte l s (suc zero) e =
      record { whole = λ x. rw ((s.0 x).second, e) (omega (arith, s.1)); told = λ x. rw ((s.0 x).second, e) refl }
  group_f6_along operand byte l s (suc (suc n)) e =
      let here = at_end (Says reading size operand byte) l s.0 in
      let more : eqb (suc (suc n)) 0 ≡ false = ne_eqb (suc (suc n)) 0 (omega arith) in
      let not_one : eqb (suc (suc n)) 1 ≡ false = ne_eqb (suc (suc n)) 1 (omega arith) in
      record {
        operands = rw (sym (field here) ∙ e, more) (ap OperandSet.Destination here.by_rm);
        operation = λ x. rw ((s.0 x).second, e) (in_list (NOT ∷ NEG ∷ MUL ∷ IMUL ∷ DIV ∷ IDIV ∷ []) n IDIV (omega arith));
        reach = λ x. refl;
        whole = λ x. rw ((s.0 x).second, e, more) (omega (arith, s.1));
        told = λ x. rw ((s.0 x).second, e, not_one) refl;
        keeper = refl;
        nothing_kept = refl;
        written = refl;
      }

-- FE and FF, whose reg says how far they go
fe_reach : (size : OperandSize) (byte : ℕ) (l : List ℕ) → byte_at l 1 ≡ byte → reach_at l (in_group_fe size) ≡ group_fe_reach size (reg_field byte)
fe_reach Byte byte l second = rw second refl
fe_reach Word byte l second = rw second refl

group_fe_along : (reading : Reading) (opcode : ℕ) (size : OperandSize)
    → Walk reading (account_of reading (group_fe ⦂ size)) (opcode ∷ []) (rest reading opcode (group_fe ⦂ size))
group_fe_along reading opcode size =
    after_modrm reading opcode (account_of reading (group_fe ⦂ size)) tt size _ (λ l k. omega arith)
    (λ operand byte l s. read_alone reading (only (rm_place size)) refl (by_reg op.group_fe) free (in_group_fe size) size operand byte _ (group_fe_named byte)
    (fe_reach size byte)
    refl
    refl
    l
    s
    (ap OperandSet.Destination (at_end (Says reading size operand byte) l s.0).by_rm) (λ x. refl))

-- what a row reads, with how far it goes: all but that is as the row has it
reaching_along : (reading : Reading) (reach : Reach) (c : Account) (l : List ℕ) (m : Reader Tail) → Walk reading c l m
    → Walk reading (distant (always reach) c) l (m >>= λ i. done (reached reach i))
reaching_along reading reach c =
    along_made (ReadBy reading c) (ReadBy reading (distant (always reach) c)) (reached reach) (λ l w. w) (λ e l r. record { whole = r.whole; told = r.told })
    (λ i l r. record {
      operands = r.operands;
      operation = r.operation;
      reach = λ x. refl;
      whole = r.whole;
      told = r.told;
      keeper = r.keeper;
      nothing_kept = r.nothing_kept;
      written = r.written;
    })

pub row_along : (reading : Reading) (opcode : ℕ) (row : Row) → Walk reading (account_of reading row) (opcode ∷ []) (rest reading opcode row)
unfolding a_byte a_word
row_along reading opcode (bare o) = record { operands = refl; operation = λ x. refl; reach = λ x. refl; whole = λ x. refl; told = λ x. refl; keeper = refl; nothing_kept = refl; written = refl }
row_along reading opcode prefix = record { whole = λ x. refl; told = λ x. refl }
row_along reading opcode invalid = record { whole = λ x. refl; told = λ x. refl }
row_along reading opcode (rm_reg o ⦂ size) =
    modrm_alone reading opcode (rm_place size ⟵ reg_place size) refl (the o) size _ _ (the_one o) (λ operand byte l s. ap₂ OperandSet.DestinationAndSource s.by_rm (by_reg_lem s))
row_along reading opcode (reg_rm o ⦂ size) =
    modrm_alone reading opcode (reg_place size ⟵ rm_place size) refl (the o) size _ _ (the_one o) (λ operand byte l s. ap₂ OperandSet.DestinationAndSource (by_reg_lem s) s.by_rm)
row_along reading opcode (group80 ⦂ size) = modrm_immediate reading opcode size size (by_reg op.arithmetic) _ arithmetic_named
row_along reading opcode (group83 ⦂ size) = modrm_widened reading opcode size (by_reg op.arithmetic) _ arithmetic_named
row_along reading opcode (pop ⦂ size) =
    modrm_tested reading opcode (only (rm_place size)) refl POP popped size _ (λ byte. eqb (reg_field byte) 0) Refusal.InvalidModRegRMEncoding
    (λ operand byte l s. ap OperandSet.Destination s.by_rm) (λ byte l second. rw second refl)
row_along reading opcode (rm_segment ⦂ size) =
    modrm_tested reading opcode (rm_place size ⟵ segreg) refl MOV segment size _ (λ byte. ltb (reg_field byte) 4) (λ byte. Refusal.InvalidSegmentEncoding (reg_field byte))
    (λ operand byte l s. ap₂ OperandSet.DestinationAndSource s.by_rm (by_segment s)) (λ byte l second. rw second refl)
row_along reading opcode (segment_rm ⦂ size) =
    modrm_tested reading opcode (segreg ⟵ rm_place size) refl MOV segment size _ (λ byte. ltb (reg_field byte) 4) (λ byte. Refusal.InvalidSegmentEncoding (reg_field byte))
    (λ operand byte l s. ap₂ OperandSet.DestinationAndSource (by_segment s) s.by_rm) (λ byte l second. rw second refl)
row_along reading opcode (shift_by_immediate ⦂ size) = modrm_immediate reading opcode size Byte (by_reg op.shifts) _ shift_named
row_along reading opcode (shift_by_one ⦂ size) =
    modrm_alone reading opcode (rm_place size ⟵ one_place) refl (by_reg op.shifts) size _ _ shift_named (λ operand byte l s. ap₂ OperandSet.DestinationAndSource s.by_rm refl)
row_along reading opcode (shift_by_cl ⦂ size) =
    modrm_alone reading opcode (rm_place size ⟵ the_register ClCx (count_size reading size)) refl (by_reg op.shifts) size _ _ shift_named (λ operand byte l s. ap₂ OperandSet.DestinationAndSource s.by_rm refl)
row_along reading opcode (group_c6 ⦂ size) = modrm_immediate reading opcode size size (the MOV) (λ byte. MOV) (the_one MOV)
row_along reading opcode (group_f6 ⦂ size) =
    after_modrm reading opcode (GroupF6 reading size) tt size _ (λ l k. omega arith) (λ operand byte l s. group_f6_along reading size operand byte l s (reg_field byte) refl)
row_along reading opcode (group_fe ⦂ size) = group_fe_along reading opcode size
row_along reading opcode (escape_rm ⦂ size) =
    modrm_alone reading opcode (only (rm_place size)) refl (the ESC) size _ _ (the_one ESC) (λ operand byte l s. ap OperandSet.Destination s.by_rm)
row_along reading opcode (immediate_to_accumulator o size) =
    after_immediate reading opcode (account_of reading (immediate_to_accumulator o size)).places refl o size _ (λ i l e. ap (OperandSet.DestinationAndSource (acc size)) e)
row_along reading opcode (on_segment o s) = record { operands = refl; operation = λ x. refl; reach = λ x. refl; whole = λ x. refl; told = λ x. refl; keeper = refl; nothing_kept = refl; written = refl }
row_along reading opcode (on_register o r) = record { operands = refl; operation = λ x. refl; reach = λ x. refl; whole = λ x. refl; told = λ x. refl; keeper = refl; nothing_kept = refl; written = refl }
row_along reading opcode (on_displacement o size) = after_displacement reading opcode o size
row_along reading opcode (exchange r) = record { operands = refl; operation = λ x. refl; reach = λ x. refl; whole = λ x. refl; told = λ x. refl; keeper = refl; nothing_kept = refl; written = refl }
row_along reading opcode (far o) = (
  omega arith,
  λ a. (
    omega arith,
    λ b. (
      omega arith,
      λ c. (
        omega arith,
        λ d.
            record { operands = refl; operation = λ x. refl; reach = λ x. refl; whole = λ x. refl; told = λ x. refl; keeper = refl; nothing_kept = refl; written = refl },
      ),
    ),
  ),
)
row_along reading opcode (acc_direct size) =
    (omega arith, λ low. (omega arith, λ high. record { operands = refl; operation = λ x. refl; reach = λ x. refl; whole = λ x. refl; told = λ x. refl; keeper = refl; nothing_kept = refl; written = refl }))
row_along reading opcode (direct_acc size) =
    (omega arith, λ low. (omega arith, λ high. record { operands = refl; operation = λ x. refl; reach = λ x. refl; whole = λ x. refl; told = λ x. refl; keeper = refl; nothing_kept = refl; written = refl }))
row_along reading opcode (register_and_immediate r size) =
    after_immediate reading opcode (account_of reading (register_and_immediate r size)).places refl MOV size _ (λ i l e. ap (OperandSet.DestinationAndSource (register r size)) e)
row_along reading opcode (on_immediate o size) = after_immediate reading opcode (account_of reading (on_immediate o size)).places refl o size _ (λ i l e. ap OperandSet.Destination e)
row_along reading opcode escape = (omega arith, λ b. record { operands = refl; operation = λ x. refl; reach = λ x. refl; whole = λ x. refl; told = λ x. refl; keeper = refl; nothing_kept = refl; written = refl })
row_along reading opcode (in_port size) = (omega arith, λ b. record { operands = refl; operation = λ x. refl; reach = λ x. refl; whole = λ x. refl; told = λ x. refl; keeper = refl; nothing_kept = refl; written = refl })
row_along reading opcode (out_port size) = (omega arith, λ b. record { operands = refl; operation = λ x. refl; reach = λ x. refl; whole = λ x. refl; told = λ x. refl; keeper = refl; nothing_kept = refl; written = refl })
row_along reading opcode (in_dx size) = record { operands = refl; operation = λ x. refl; reach = λ x. refl; whole = λ x. refl; told = λ x. refl; keeper = refl; nothing_kept = refl; written = refl }
row_along reading opcode (out_dx size) = record { operands = refl; operation = λ x. refl; reach = λ x. refl; whole = λ x. refl; told = λ x. refl; keeper = refl; nothing_kept = refl; written = refl }
row_along reading opcode (reaching reach row) = reaching_along reading reach (account_of reading row) (opcode ∷ []) (rest reading opcode row) (row_along reading opcode row)
