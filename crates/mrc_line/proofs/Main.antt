-- What is shown of the listing line. `target` promises an equation, which exactly one answer meets (`an_equation_settles` of mrc_instruction).
-- Assumes nothing.
use Rattle.std.specs.Prelude.{Result, Err}
use Rattle.std.proofs.Common.{◌≡◌, ℕ, ◌-◌, ◌*◌, ◌<◌, ◌≤◌, List, [], ◌∷◌, ◌++◌, map, length, take, drop, pos, negsuc, refl, le_trans}
use Rattle.mrc_instruction.specs.declared.errors.Refusal.{Refusal}
use Rattle.mrc_instruction.specs.declared.reading.Reading.{Reading}
use Rattle.mrc_instruction.specs.declared.reading.Reading.TheVariants.{One, Two}
use Rattle.mrc_instruction.specs.declared.operand.Displacement.{Displacement}
use Rattle.mrc_instruction.specs.declared.instruction.Instruction.{Instruction}
use Rattle.mrc_instruction.specs.declared.operation.Operation.{Operation}
use Rattle.mrc_instruction.specs.declared.operation.Operation.TheVariants.{RET}
use Rattle.mrc_instruction.specs.Promise.{ExactlyOne}
use Rattle.mrc_instruction.specs.Reader.{Bytes}
use Rattle.mrc_names.specs.Names.{name_of}
use Rattle.mrc_rules.specs.Answer.{decodes}
use Rattle.mrc_rules.specs.declared.Answer.{Answer}
use Rattle.mrc_rules.specs.Prefixes.{is_override, run_of, tail_of, first}
use Rattle.mrc_rules.specs.Decode.{decode_at}
use Rattle.mrc_rules.specs.Operands.{byte_at}
use Rattle.mrc_rules.specs.Reaches.{reach_of}
use Rattle.mrc_rules.specs.Kept.{kept_of}
use Rattle.mrc_rules.specs.Written.{written_of}
use Rattle.mrc_line.specs.declared.line.Written.{Written}
use Rattle.mrc_line.specs.declared.page.Page.{Page}
use Rattle.mrc_line.specs.declared.printed.Printed.{Printed}
use Rattle.mrc_line.specs.Text.{bytes, hex2}
use Rattle.mrc_line.specs.Target.{offsets, target_of}
use Rattle.mrc_line.specs.Printed.{alone}
use Rattle.mrc_line.specs.Operands.{printed_text, operands_text}
use Rattle.mrc_line.specs.Line.{head_text, repeat_text, kept_text, reach_text, line_text, line_end, longest, budget, Listed}
use Rattle.mrc_line.specs.Page.{lines_of, text_of, bytes_of, taken_of, page_of, pages_from, Paged}
use Rattle.mrc_line.specs.Example.{image, printed, transfers, transfers_printed, differences, differences_printed, zeros, zeros_printed}
use Rattle.mrc_line.proofs.Settled as Settled
use Rattle.mrc_line.proofs.Lengths as Lengths
use Rattle.mrc_line.proofs.Returns as Returns
use Rattle.mrc_line.proofs.ByBytes as ByBytes
use Rattle.mrc_line.proofs.Lines as Lines
use Rattle.mrc_line.proofs.Pages as Pages
use Rattle.mrc_line.proofs.Example as Example

module _ (x : Reading) where
  -- the promise of each call that writes is met by exactly one answer and one buffer, on all inputs
  pub line_settled : (image : List ℕ) (at : ℕ) (out : List ℕ) → ExactlyOne {A = Result Written Refusal × List ℕ} (λ p. Listed x image at out p.0 p.1)
  line_settled = Settled.line_settled x

  pub page_settled : (image : List ℕ) (at : ℕ) (out : List ℕ) → ExactlyOne {A = Page × List ℕ} (λ p. Paged x image at out p.0 p.1)
  page_settled = Settled.page_settled x

  -- a call that is refused leaves the buffer as it was
  pub refused_unchanged : (image : List ℕ) (at : ℕ) (out : List ℕ) (e : Refusal) (done : List ℕ) → Listed x image at out (Err e) done → done ≡ out
  refused_unchanged = Settled.unchanged x

  -- no line is longer than `longest`
  pub line_longest : (image : List ℕ) (at : ℕ) → length (line_text x image at) ≤ longest
  line_longest = Lengths.line_longest x

  -- a page has at most `longest` bytes of text for each byte of the image that it accounts for, and accounts for at most `offsets`
  pub page_short :
      (image : List ℕ) (at room : ℕ) → let page = page_of x image at room in
      (length (text_of x image page) ≤ longest * taken_of x image page) × (taken_of x image page ≤ offsets)
  page_short image at room = let k = Pages.page_short x image at room in (k.text, k.taken)

  -- RET with a word, C2 or CA, lists the word as it stands behind the opcode, the high byte first, wherever it is
  pub returns_listed :
      (image : List ℕ) (at low high : ℕ) (l : List ℕ) → low < 256 → high < 256 →
      let text : List ℕ → ℕ → List ℕ = λ name opcode. head_text at (opcode ∷ low ∷ high ∷ []) ++ (name ++ (hex2 high ++ (hex2 low ++ line_end))) in
      (drop at image ≡ 0xC2 ∷ low ∷ high ∷ l → line_text x image at ≡ text (bytes "RET ") 0xC2)
      × (drop at image ≡ 0xCA ∷ low ∷ high ∷ l → line_text x image at ≡ text (bytes "RET FAR ") 0xCA)
  returns_listed image at low high l h k = (Returns.near image at low high l h k x, Returns.far image at low high l h k x)

  -- a kept override stands between repeat and name, and FAR between name and operands, exactly where the bytes say so: by the first override, the first
  -- byte behind the prefixes, and reg; and an operand in memory is printed by the bytes between ModRM and immediate
  pub printed_by_the_bytes :
      (image : List ℕ) (at : ℕ) (i : Instruction) (n p : ℕ) → Bytes image → decode_at x image at budget ≡ decodes i n p →
      let kept = kept_text (kept_of x (first is_override (run_of (drop at image))) (byte_at (tail_of (drop at image)) 0)) in
      let far = reach_text (reach_of (tail_of (drop at image))) in
      let written = written_of x (take (n - p) (tail_of (drop at image))) in
      line_text x image at
      ≡ head_text at (take n (drop at image))
      ++ ((repeat_text i.repeat ++ (kept ++ (name_of i.operation ++ (far ++ operands_text x written i.operation at n i.operands)))) ++ line_end)
  printed_by_the_bytes = ByBytes.by_the_bytes x

  -- the lines of an image account for all its bytes, for each once
  pub each_byte_once : (image : List ℕ) → bytes_of x image (lines_of x image) ≡ image
  each_byte_once = Lines.each_once x

  pub bytes_add_up : (image : List ℕ) → taken_of x image (lines_of x image) ≡ length image
  bytes_add_up = Lines.add_up x

  -- pages one after the other are the listing, whatever the buffer's size, where every line fits; and where any line does
  pub pages_joined :
      (image : List ℕ) (room : ℕ) → length image ≤ offsets → ((at : ℕ) → at < length image → length (line_text x image at) ≤ room) →
      pages_from x (length image) image 0 room ≡ text_of x image (lines_of x image)
  pages_joined = Pages.pages_joined x

  pub pages_joined_at :
      (image : List ℕ) (room : ℕ) → length image ≤ offsets → longest ≤ room →
      pages_from x (length image) image 0 room ≡ text_of x image (lines_of x image)
  pages_joined_at image room h k = Pages.pages_joined x image room h (λ at l. le_trans (Lengths.line_longest x image at) k)

-- RET's number as a word, whatever the place: none, a byte, and words of either sign
pub returns_counted :
    (start taken : ℕ) →
    map (λ d. printed_text (alone RET start taken d)) (Displacement.None ∷ Displacement.Byte (negsuc 1) ∷ Displacement.Word (negsuc 3) ∷ Displacement.Word (pos 4) ∷ [])
    ≡ map bytes ("0000" ∷ "FFFE" ∷ "FFFC" ∷ "0004" ∷ [])
returns_counted start taken = refl

-- the displacement of every other operation as its target
pub others_have_targets :
    (o : Operation) → (o ≡ RET → ⊥) → (start taken : ℕ) (d : Displacement) → alone o start taken d ≡ Printed.Word (target_of start taken d)
others_have_targets = Returns.targets

-- the examples' lines, the first two in reading 1 and the third in reading 2
pub example : map (line_text One image) (lines_of One image) ≡ map (λ t. bytes t ++ line_end) printed
example = Example.six_lines

pub transfer_example : map (line_text One transfers) (lines_of One transfers) ≡ map (λ t. bytes t ++ line_end) transfers_printed
transfer_example = Example.transfer_lines

pub second_example : map (line_text Two differences) (lines_of Two differences) ≡ map (λ t. bytes t ++ line_end) differences_printed
second_example = Example.second_lines

-- displacements of 0, written in none, one and two bytes, in each reading
pub zeros_example : (x : Reading) → map (line_text x zeros) (lines_of x zeros) ≡ map (λ t. bytes t ++ line_end) (zeros_printed x)
zeros_example = Example.zero_lines
