-- What the second accounts say of a row: the places of its operands, its operation, its length, how far it goes, whether it keeps an override and which
-- test of reg it has. By the
-- first byte that is what their tables say: each is computed over the 256 rows of each reading.
-- Assumes nothing.
use mathlib.Core.Path.{◌≡◌, refl, ap, sym, ◌∙◌}
use mathlib.Core.Bool.{Bool, true, false, cond}
use mathlib.Core.List.{List, [], ◌∷◌, map}
use Prim.Native.Nat.{ℕ, zero, suc, ◌+◌, ◌<◌}
use native.Mathlib.Nat.{zero-add}
use native.Mathlib.Omega.{arith}
use lib.Dec.{eqb, ltb}
use lib.ListN.{length, get_or}
use Rattle.mrc_instruction.specs.declared.reading.Reading.{Reading}
use Rattle.mrc_instruction.specs.declared.reading.Reading.TheVariants.{One, Two}
use Rattle.mrc_instruction.specs.declared.register.RegisterEncoding.TheVariants.{AlAx, ClCx}
use Rattle.mrc_instruction.specs.declared.operand.OperandSize.{OperandSize}
use Rattle.mrc_instruction.specs.declared.operand.OperandSize.TheVariants.{Byte, Word}
use Rattle.mrc_instruction.specs.declared.operation.Operation.TheVariants.{ESC, IN, MOV, OUT, POP, XCHG}
use Rattle.mrc_rules.specs.Forms.{Row, ◌⦂◌, bare, prefix, invalid, rm_reg, reg_rm, immediate_to_accumulator, on_segment, on_register, on_displacement, group80, group83, pop, rm_segment, segment_rm, exchange, far, acc_direct, direct_acc, register_and_immediate, shift_by_immediate, shift_by_one, shift_by_cl, on_immediate, group_c6, escape, in_port, out_port, in_dx, out_dx, group_f6, group_fe, escape_rm, reaching, count_size}
use Rattle.mrc_rules.specs.Table.{rows, row_of}
use Rattle.mrc_rules.specs.Prefixes.{is_prefix, keeps}
use Rattle.mrc_rules.specs.Operands.{rm_place, reg_place, segreg, immed, widened_place, mem, rel, far_place, the_register, the_segment, one_place, ax, dx_place, Places, nothing, only, ◌⟵◌, test, places, byte_at, reg_at}
use Rattle.mrc_rules.specs.Operations.{Mnemonic, the, by_reg, mnemonics}
use Rattle.mrc_rules.specs.Operations as op
use Rattle.mrc_rules.specs.Reaches.{Distance, always, neither, distances}
use Rattle.mrc_rules.specs.Reaches as reaches
use Rattle.mrc_rules.specs.Lengths.{Extra, fixed, modrm, tested, extras}
use Rattle.mrc_rules.specs.Refusals.{Verdict, read, refused, keeps_at, is_unread, is_pop, is_group_f6, is_segment_move, by_opcode}

-- the tests that decide whether a row reads
pub data Bar : Type 0 where
  free shut popped segment grouped : Bar

pub record Account : Type 0 where
  pub places : Places
  pub name : Mnemonic
  pub extra : Extra
  pub bar : Bar
  pub distance : Distance
  pub keeper : Bool

abbrev pub account : Places → Mnemonic → Extra → Bar → Account
account q o e t = record { places = q; name = o; extra = e; bar = t; distance = neither; keeper = false }

-- the same, with how far it goes, and with whether it keeps an override
abbrev pub distant : Distance → Account → Account
distant d c = record { places = c.places; name = c.name; extra = c.extra; bar = c.bar; distance = d; keeper = c.keeper }

abbrev pub keeping : Bool → Account → Account
keeping k c = record { places = c.places; name = c.name; extra = c.extra; bar = c.bar; distance = c.distance; keeper = k }

abbrev pub in_group_fe : OperandSize → Distance
in_group_fe Byte = reaches.group_fe
in_group_fe Word = reaches.group_ff

abbrev pub bytes_in : OperandSize → ℕ
bytes_in Byte = 1
bytes_in Word = 2

abbrev pub account_of : Reading → Row → Account
account_of x (bare o) = keeping (keeps x o) (account nothing (the o) (fixed 0) free)
account_of x prefix = account nothing op.nothing (fixed 0) shut
account_of x invalid = account nothing op.nothing (fixed 0) shut
account_of x (rm_reg o ⦂ size) = account (rm_place size ⟵ reg_place size) (the o) (modrm 0) free
account_of x (reg_rm o ⦂ size) = account (reg_place size ⟵ rm_place size) (the o) (modrm 0) free
account_of x (group80 ⦂ size) = account (rm_place size ⟵ immed size) (by_reg op.arithmetic) (modrm (bytes_in size)) free
account_of x (group83 ⦂ size) = account (rm_place size ⟵ widened_place x) (by_reg op.arithmetic) (modrm 1) free
account_of x (pop ⦂ size) = account (only (rm_place size)) (the POP) (modrm 0) popped
account_of x (rm_segment ⦂ size) = account (rm_place size ⟵ segreg) (the MOV) (modrm 0) segment
account_of x (segment_rm ⦂ size) = account (segreg ⟵ rm_place size) (the MOV) (modrm 0) segment
account_of x (shift_by_immediate ⦂ size) = account (rm_place size ⟵ immed Byte) (by_reg op.shifts) (modrm 1) free
account_of x (shift_by_one ⦂ size) = account (rm_place size ⟵ one_place) (by_reg op.shifts) (modrm 0) free
account_of x (shift_by_cl ⦂ size) = account (rm_place size ⟵ the_register ClCx (count_size x size)) (by_reg op.shifts) (modrm 0) free
account_of x (group_c6 ⦂ size) = account (rm_place size ⟵ immed size) (the MOV) (modrm (bytes_in size)) free
account_of x (group_f6 ⦂ size) = account (test (rm_place size) (immed size)) (by_reg op.group_f6) (tested (bytes_in size)) grouped
account_of x (group_fe ⦂ size) = distant (in_group_fe size) (account (only (rm_place size)) (by_reg op.group_fe) (modrm 0) free)
account_of x (escape_rm ⦂ size) = account (only (rm_place size)) (the ESC) (modrm 0) free
account_of x (immediate_to_accumulator o size) = account (the_register AlAx size ⟵ immed size) (the o) (fixed (bytes_in size)) free
account_of x (on_segment o s) = account (only (the_segment s)) (the o) (fixed 0) free
account_of x (on_register o r) = account (only (the_register r Word)) (the o) (fixed 0) free
account_of x (on_displacement o size) = account (only (rel size)) (the o) (fixed (bytes_in size)) free
account_of x (exchange r) = account (ax ⟵ the_register r Word) (the XCHG) (fixed 0) free
account_of x (far o) = account (only far_place) (the o) (fixed 4) free
account_of x (acc_direct size) = account (the_register AlAx size ⟵ mem size) (the MOV) (fixed 2) free
account_of x (direct_acc size) = account (mem size ⟵ the_register AlAx size) (the MOV) (fixed 2) free
account_of x (register_and_immediate r size) = account (the_register r size ⟵ immed size) (the MOV) (fixed (bytes_in size)) free
account_of x (on_immediate o size) = account (only (immed size)) (the o) (fixed (bytes_in size)) free
account_of x escape = account nothing (the ESC) (fixed 1) free
account_of x (in_port size) = account (the_register AlAx size ⟵ immed Byte) (the IN) (fixed 1) free
account_of x (out_port size) = account (immed Byte ⟵ the_register AlAx size) (the OUT) (fixed 1) free
account_of x (in_dx size) = account (the_register AlAx size ⟵ dx_place) (the IN) (fixed 0) free
account_of x (out_dx size) = account (dx_place ⟵ the_register AlAx size) (the OUT) (fixed 0) free
account_of x (reaching reach row) = distant (always reach) (account_of x row)

-- what a test decides, by the bytes from the opcode on
abbrev pub verdict_by : Bar → List ℕ → Verdict
verdict_by free l = read
verdict_by shut l = refused 6 (byte_at l 0)
verdict_by popped l = cond (eqb (reg_at l) 0) read (refused 5 (byte_at l 1))
verdict_by segment l = cond (ltb (reg_at l) 4) read (refused 8 (reg_at l))
verdict_by grouped l = cond (eqb (reg_at l) 1) (refused 6 1) read

-- the test that a first byte has
abbrev bar_behind : ℕ → Bar
bar_behind b = cond (is_unread b) shut (cond (is_pop b) popped (cond (is_group_f6 b) grouped (cond (is_segment_move b) segment free)))

abbrev bar_at : ℕ → Bar
bar_at b = cond (is_prefix b) shut (bar_behind b)

-- a table that is that of the rows has at each first byte what its row has
get_d_map : {A B : Type 0} (f : A → B) (l : List A) (n : ℕ) (d : A) → get_or (map f l) n (f d) ≡ f (get_or l n d)
get_d_map f [] n d = refl
get_d_map f (x ∷ l) zero d = refl
get_d_map f (x ∷ l) (suc n) d = get_d_map f l n d

module _ (x : Reading) where
  row_at : {A : Type 0} (f : Row → A) (table : List A) → map f (rows x) ≡ table → (opcode : ℕ) → f (row_of x opcode) ≡ get_or table opcode (f invalid)
  unfolding row_of
  row_at {A} f table e opcode = sym (get_d_map f (rows x) opcode invalid) ∙ ap (λ (l : List A). get_or l opcode (f invalid)) e

pub same_places : (x : Reading) → map (λ r. (account_of x r).places) (rows x) ≡ places x
unfolding rows places
same_places One = refl
same_places Two = refl

pub same_names : (x : Reading) → map (λ r. (account_of x r).name) (rows x) ≡ mnemonics
unfolding rows mnemonics
same_names One = refl
same_names Two = refl

pub same_lengths : (x : Reading) → map (λ r. (account_of x r).extra) (rows x) ≡ extras x
unfolding rows extras
same_lengths One = refl
same_lengths Two = refl

pub same_distances : (x : Reading) → map (λ r. (account_of x r).distance) (rows x) ≡ distances
unfolding rows distances
same_distances One = refl
same_distances Two = refl

module _ (x : Reading) (opcode : ℕ) where
  pub row_places : (account_of x (row_of x opcode)).places ≡ get_or (places x) opcode nothing
  row_places = row_at x (λ r. (account_of x r).places) (places x) (same_places x) opcode

  pub row_name : (account_of x (row_of x opcode)).name ≡ get_or mnemonics opcode op.nothing
  row_name = row_at x (λ r. (account_of x r).name) mnemonics (same_names x) opcode

  pub row_extra : (account_of x (row_of x opcode)).extra ≡ get_or (extras x) opcode (fixed 0)
  row_extra = row_at x (λ r. (account_of x r).extra) (extras x) (same_lengths x) opcode

  pub row_distance : (account_of x (row_of x opcode)).distance ≡ get_or distances opcode neither
  row_distance = row_at x (λ r. (account_of x r).distance) distances (same_distances x) opcode

-- the tests and the keepers, by the first byte
count_from : ℕ → ℕ → List ℕ
count_from zero k = []
count_from (suc n) k = k ∷ count_from n (suc k)

counted : (n k i : ℕ) → i < n → get_or (count_from n k) i 0 ≡ k + i
unfolding count_from
counted zero k i h = absurd (omega arith)
counted (suc n) k zero h = omega arith
counted (suc n) k (suc i) h = counted n (suc k) i (omega arith) ∙ omega arith

same_bars : (x : Reading) → map (λ r. (account_of x r).bar) (rows x) ≡ map bar_at (count_from 256 0)
unfolding rows count_from
same_bars One = refl
same_bars Two = refl

same_keepers : (x : Reading) → map (λ r. (account_of x r).keeper) (rows x) ≡ map (keeps_at x) (count_from 256 0)
unfolding rows count_from
same_keepers One = refl
same_keepers Two = refl

inner : {A : Type 0} (f : ℕ → A) (d : A) (l : List ℕ) (n : ℕ) → n < length l → get_or (map f l) n d ≡ f (get_or l n 0)
inner f d [] n k = absurd (omega arith)
inner f d (y ∷ l) zero k = refl
inner f d (y ∷ l) (suc n) k = inner f d l n (omega arith)

longer : (n k i : ℕ) → i < n → i < length (count_from n k)
unfolding count_from
longer zero k i e = absurd (omega arith)
longer (suc n) k zero e = omega arith
longer (suc n) k (suc i) e = let w = longer n (suc k) i (omega arith) in omega arith

-- what is computed of the 256 first bytes holds of each
of_each : {A : Type 0} (f : ℕ → A) (d : A) (opcode : ℕ) → opcode < 256 → get_or (map f (count_from 256 0)) opcode d ≡ f opcode
of_each f d opcode h =
    inner f d (count_from 256 0) opcode (longer 256 0 opcode h) ∙ ap f (counted 256 0 opcode h ∙ zero-add opcode)

row_bar : (x : Reading) (opcode : ℕ) → opcode < 256 → (account_of x (row_of x opcode)).bar ≡ bar_at opcode
row_bar x opcode h = row_at x (λ r. (account_of x r).bar) (map bar_at (count_from 256 0)) (same_bars x) opcode ∙ of_each bar_at shut opcode h

pub row_keeper : (x : Reading) (opcode : ℕ) → opcode < 256 → (account_of x (row_of x opcode)).keeper ≡ keeps_at x opcode
row_keeper x opcode h =
    row_at x (λ r. (account_of x r).keeper) (map (keeps_at x) (count_from 256 0)) (same_keepers x) opcode ∙ of_each (keeps_at x) false opcode h

-- at a first byte that is no prefix the test is that of the table of refusals
pub row_verdict_lem : (x : Reading) (l : List ℕ) → byte_at l 0 < 256 → is_prefix (byte_at l 0) ≡ false
    → verdict_by (account_of x (row_of x (byte_at l 0))).bar l ≡ by_opcode l
row_verdict_lem x l h e =
    ap (λ (t : Bar). verdict_by t l) (row_bar x (byte_at l 0) h ∙ ap (λ (t : Bool). cond t shut (bar_behind (byte_at l 0))) e)
    ∙ go (is_unread (byte_at l 0)) (is_pop (byte_at l 0)) (is_group_f6 (byte_at l 0)) (is_segment_move (byte_at l 0))
  where
    go : (u p g s : Bool)
        → verdict_by (cond u shut (cond p popped (cond g grouped (cond s segment free)))) l
        ≡ cond u (refused 6 (byte_at l 0))
        (cond p (cond (eqb (reg_at l) 0) read (refused 5 (byte_at l 1)))
        (cond g (cond (eqb (reg_at l) 1) (refused 6 1) read)
        (cond s (cond (ltb (reg_at l) 4) read (refused 8 (reg_at l))) read)))
    go true p g s = refl
    go false true g s = refl
    go false false true s = refl
    go false false false true = refl
    go false false false false = refl
