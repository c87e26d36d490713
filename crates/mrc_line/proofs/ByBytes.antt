-- A line has a kept override, FAR and written zeros where the bytes say so: the override that an instruction keeps, how far it goes and its displacement
-- bytes are what specs/Kept, specs/Reaches and specs/Written of mrc_rules find by the prefixes and the bytes behind them.
-- Assumes nothing.
use Rattle.std.specs.Prelude.{Option}
use Rattle.std.proofs.Common.{◌≡◌, ℕ, ◌-◌, List, ◌++◌, take, drop, ap, ◌∙◌}
use Rattle.mrc_instruction.specs.declared.reading.Reading.{Reading}
use Rattle.mrc_instruction.specs.declared.register.Segment.{Segment}
use Rattle.mrc_instruction.specs.declared.instruction.Reach.{Reach}
use Rattle.mrc_instruction.specs.declared.instruction.Instruction.{Instruction}
use Rattle.mrc_instruction.specs.Reader.{Bytes}
use Rattle.mrc_names.specs.Names.{name_of}
use Rattle.mrc_rules.specs.Answer.{decodes}
use Rattle.mrc_rules.specs.declared.Answer.{Answer}
use Rattle.mrc_rules.specs.Prefixes.{is_override, run_of, tail_of, first}
use Rattle.mrc_rules.specs.Decode.{decode_at}
use Rattle.mrc_rules.specs.Operands.{byte_at}
use Rattle.mrc_rules.specs.Reaches.{reach_of}
use Rattle.mrc_rules.specs.Kept.{kept_of}
use Rattle.mrc_rules.specs.Written.{written_of}
use Rattle.mrc_rules.proofs.Operands.{near_or_far, override_kept, displacement_written}
use Rattle.mrc_line.specs.Operands.{operands_text}
use Rattle.mrc_line.specs.Line.{head_text, repeat_text, kept_text, reach_text, instruction_text, step_text, line_text, line_end, budget}

-- the line of an instruction, by the override that is kept, by a reach and by the displacement bytes written
abbrev pub text_by : Reading → List ℕ → ℕ → Instruction → ℕ → Option Segment → Reach → ℕ → List ℕ
text_by x s at i n kept reach written =
    head_text at (take n (drop at s))
    ++ ((repeat_text i.repeat ++ (kept_text kept ++ (name_of i.operation ++ (reach_text reach ++ operands_text x written i.operation at n i.operands)))) ++ line_end)

pub by_the_bytes : (x : Reading) (s : List ℕ) (at : ℕ) (i : Instruction) (n p : ℕ) → Bytes s → decode_at x s at budget ≡ decodes i n p
    → line_text x s at
    ≡ text_by x s at i n (kept_of x (first is_override (run_of (drop at s))) (byte_at (tail_of (drop at s)) 0)) (reach_of (tail_of (drop at s)))
    (written_of x (take (n - p) (tail_of (drop at s))))
unfolding line_text step_text instruction_text
by_the_bytes x s at i n p bytes e =
    let kept = kept_of x (first is_override (run_of (drop at s))) (byte_at (tail_of (drop at s)) 0) in
    let reach = reach_of (tail_of (drop at s)) in
    ap (step_text x s at) e ∙ ap (λ r. text_by x s at i n i.kept r i.written) (near_or_far x s at budget i n p e)
    ∙ ap (λ k. text_by x s at i n k reach i.written) (override_kept x s at budget i n p bytes e)
    ∙ ap (text_by x s at i n kept reach) (displacement_written x s at budget i n p e)
