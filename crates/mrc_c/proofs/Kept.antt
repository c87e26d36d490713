-- Reading 1 keeps no override: by the account of the overrides that are kept, no first byte keeps one there.
-- Assumes nothing.
use mathlib.Core.Path.{◌≡◌, refl, ap, ◌∙◌}
use mathlib.Core.List.{List}
use Prim.Native.Nat.{ℕ}
use lib.ListN.{get_or, drop}
use Rattle.std.specs.Prelude.{Option, Some, None, Result, Ok, Err}
use Rattle.mrc_instruction.specs.declared.instruction.Instruction.{Instruction}
use Rattle.mrc_instruction.specs.declared.errors.Refusal.{Refusal}
use Rattle.mrc_instruction.specs.declared.reading.Reading.TheVariants.{One}
use Rattle.mrc_instruction.specs.Reader.{Bytes}
use Rattle.mrc_rules.specs.Answer.{answer}
use Rattle.mrc_rules.specs.Prefixes.{is_override, run_of, tail_of, first}
use Rattle.mrc_rules.specs.Decode.{decode_at}
use Rattle.mrc_rules.specs.Kept.{kept_of}
use Rattle.mrc_rules.proofs.Operands.{override_kept}
use Rattle.mrc_c.specs.Record.{kept_code, record_of}

none_kept : (o : Option ℕ) (opcode : ℕ) → kept_of One o opcode ≡ None
none_kept None opcode = refl
none_kept (Some o) opcode = refl

pub first_keeps_none : (s : List ℕ) (at budget : ℕ) → Bytes s → (record_of (decode_at One s at budget)).body.kept ≡ 0
first_keeps_none s at budget h = let d = decode_at One s at budget in go d.result d.taken d.prefixes refl
  where
    go : (r : Result Instruction Refusal) (n p : ℕ) → decode_at One s at budget ≡ answer r n p → (record_of (answer r n p)).body.kept ≡ 0
    go (Ok i) n p e =
        ap kept_code (override_kept One s at budget i n p h e ∙ none_kept (first is_override (run_of (drop at s))) (get_or (tail_of (drop at s)) 0 0))
    go (Err r) n p e = refl
