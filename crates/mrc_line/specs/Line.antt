-- Section 12: the fields of a line in order, and what a line call answers, in numbers too.
use Rattle.std.specs.Prelude.{◌≡◌, ℕ, cond, List, [], ◌∷◌, ◌++◌, length, take, drop, ◌==◌, nat_lt, slice_index, is_ok, Result, Ok, Err, Option, Some, None}
use Rattle.mrc_instruction.specs.declared.instruction.Repeat.{Repeat}
use Rattle.mrc_instruction.specs.declared.register.Segment.{Segment}
use Rattle.mrc_instruction.specs.declared.instruction.Reach.{Reach}
use Rattle.mrc_instruction.specs.declared.instruction.Instruction.{Instruction}
use Rattle.mrc_instruction.specs.declared.errors.Refusal.{Refusal}
use Rattle.mrc_instruction.specs.declared.reading.Reading.{Reading}
use Rattle.mrc_instruction.specs.Values.{Values, carrying, refused_with}
use Rattle.mrc_names.specs.Names.{name_of}
use Rattle.mrc_rules.specs.declared.Answer.{Answer}
use Rattle.mrc_rules.specs.Decode.{decode_at}
use Rattle.mrc_line.specs.declared.line.Written.{Written}
use Rattle.mrc_line.specs.Target.{offsets}
use Rattle.mrc_line.specs.Text.{bytes, hex2, hex4, pairs, padded, shown, field_width}
use Rattle.mrc_line.specs.Operands.{segment_text, operands_text}

-- rule 12.2: the offset, the bytes, and a gap behind each
unfoldable pub head_text : ℕ → List ℕ → List ℕ
head_text start taken = hex4 start ++ (bytes "  " ++ (padded field_width (pairs (take shown taken)) ++ bytes "  "))

-- rule 12.2: the repeat
abbrev pub repeat_text : Option Repeat → List ℕ
repeat_text None = []
repeat_text (Some Repeat.Equal) = bytes "REPE "
repeat_text (Some Repeat.NotEqual) = bytes "REPNE "

-- rule 12.2: an override that the instruction keeps
abbrev pub kept_text : Option Segment → List ℕ
kept_text None = []
kept_text (Some segment) = segment_text segment ++ bytes ": "

-- rule 12.2: what is far says so behind its name
abbrev pub reach_text : Reach → List ℕ
reach_text Reach.Neither = []
reach_text Reach.Near = []
reach_text Reach.Far = bytes " FAR"

-- rule 12.2: LF
abbrev pub line_end : List ℕ
line_end = 10 ∷ []

-- rule 12.2: repeat, kept override, name, FAR and operands of an instruction that starts at an offset and takes so many bytes
unfoldable pub instruction_text : Reading → ℕ → ℕ → Instruction → List ℕ
instruction_text x start taken i =
    repeat_text i.repeat
    ++ (kept_text i.kept ++ (name_of i.operation ++ (reach_text i.reach ++ operands_text x i.written i.operation start taken i.operands)))

-- rule 12.7: a byte at which nothing decodes
abbrev pub db_text : ℕ → List ℕ
db_text b = bytes "DB " ++ hex2 b

-- rules 12.2 and 12.7: what stands behind the byte field, by what was decoded, the bytes taken and the first of them
abbrev pub result_text : Reading → ℕ → ℕ → ℕ → Result Instruction Refusal → List ℕ
result_text x start n b (Ok i) = instruction_text x start n i
result_text x start n b (Err e) = db_text b

abbrev pub body_text : Reading → ℕ → ℕ → Answer → List ℕ
body_text x start b a = result_text x start a.taken b a.result

-- rules 12.7 and 12.9: the bytes that a line accounts for
abbrev pub step_taken : Answer → ℕ
step_taken a = cond (is_ok a.result) a.taken 1

-- the prefixes that a line shows: the instruction's, and none with a byte that is not decoded
abbrev pub step_prefixes : Answer → ℕ
step_prefixes a = cond (is_ok a.result) a.prefixes 0

-- the line of what was decoded at a position of an image
unfoldable pub step_text : Reading → List ℕ → ℕ → Answer → List ℕ
step_text x s at a = head_text at (take (step_taken a) (drop at s)) ++ (body_text x at (slice_index s at) a ++ line_end)

-- rule 12.8: the most bytes that a line has, whatever the record
abbrev pub longest : ℕ
longest = 93

-- rule 12.1: the budget of every line
abbrev pub budget : ℕ
budget = 15

-- the answer that a line was written, by its length and the bytes taken
abbrev pub a_line : ℕ → ℕ → Result Written Refusal
a_line len taken = Ok (record { len = len; taken = taken })

-- in each reading
module _ (x : Reading) where
  -- the line at a position of an image, the bytes that it accounts for, and its prefixes
  unfoldable pub line_text : List ℕ → ℕ → List ℕ
  line_text s at = step_text x s at (decode_at x s at budget)

  unfoldable pub line_taken : List ℕ → ℕ → ℕ
  line_taken s at = step_taken (decode_at x s at budget)

  unfoldable pub line_prefixes : List ℕ → ℕ → ℕ
  line_prefixes s at = step_prefixes (decode_at x s at budget)

  -- rule 12.9: the refusals in their order; else the line's length and the bytes taken
  unfoldable pub answer_of : List ℕ → ℕ → ℕ → Result Written Refusal
  answer_of s at room =
      cond (nat_lt offsets (length s)) (Err Refusal.ImageTooLong)
      (cond (nat_lt (length s) at) (Err Refusal.OutsideInput)
      (cond (length s == at) (Err Refusal.EndOfInput)
      (cond (nat_lt room (length (line_text s at))) (Err Refusal.NoRoom)
      (a_line (length (line_text s at)) (line_taken s at)))))

  -- what an answer says in numbers, by the image and the position that were asked for
  abbrev pub line_values : List ℕ → ℕ → Result Written Refusal → Values
  line_values s at (Ok line) = carrying 0 0 line.taken (line_prefixes s at)
  line_values s at (Err e) = refused_with e 0 0

  -- the rows that the table of refusals has for a line call, in the order of their tests, and else a line's
  unfoldable pub values_at : List ℕ → ℕ → ℕ → Values
  values_at s at room =
      cond (nat_lt offsets (length s)) (carrying 13 0 0 0)
      (cond (nat_lt (length s) at) (carrying 11 0 0 0)
      (cond (length s == at) (carrying 1 0 0 0)
      (cond (nat_lt room (length (line_text s at))) (carrying 12 0 0 0)
      (carrying 0 0 (line_taken s at) (line_prefixes s at)))))

-- rule 12.10: what a buffer holds after an answer
abbrev pub after : Result Written Refusal → List ℕ → List ℕ → List ℕ
after (Ok line) text out = text ++ drop line.len out
after (Err e) text out = out

-- rules 12.9 and 12.10: a line call's answer r, and its buffer before the call and after it
pub record Listed (x : Reading) (s : List ℕ) (at : ℕ) (out : List ℕ) (r : Result Written Refusal) (done : List ℕ) : Type 0 where
  pub answer : r ≡ answer_of x s at (length out)
  pub values : line_values x s at r ≡ values_at x s at (length out)
  pub bytes : done ≡ after (answer_of x s at (length out)) (line_text x s at) out
