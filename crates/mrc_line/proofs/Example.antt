-- The examples, computed.
-- Assumes nothing.
use Rattle.std.proofs.Common.{◌≡◌, ◌++◌, map, refl}
use Rattle.mrc_instruction.specs.declared.reading.Reading.{Reading}
use Rattle.mrc_instruction.specs.declared.reading.Reading.TheVariants.{One, Two}
use Rattle.mrc_rules.specs.Forms.{with_modrm}
use Rattle.mrc_rules.specs.Table.{rows, row_of}
use Rattle.mrc_instruction.specs.Reader.{a_byte, a_word}
use Rattle.mrc_line.specs.Text.{bytes}
use Rattle.mrc_line.specs.Line.{head_text, instruction_text, step_text, line_text, line_taken, line_end}
use Rattle.mrc_line.specs.Page.{lines_from, lines_of}
use Rattle.mrc_line.specs.Example.{image, printed, transfers, transfers_printed, differences, differences_printed, zeros, zeros_printed}

pub six_lines : map (line_text One image) (lines_of One image) ≡ map (λ t. bytes t ++ line_end) printed
unfolding lines_from line_text line_taken head_text instruction_text step_text rows row_of a_byte a_word with_modrm
six_lines = refl

pub transfer_lines : map (line_text One transfers) (lines_of One transfers) ≡ map (λ t. bytes t ++ line_end) transfers_printed
unfolding lines_from line_text line_taken head_text instruction_text step_text rows row_of a_byte a_word with_modrm
transfer_lines = refl

pub second_lines : map (line_text Two differences) (lines_of Two differences) ≡ map (λ t. bytes t ++ line_end) differences_printed
unfolding lines_from line_text line_taken head_text instruction_text step_text rows row_of a_byte a_word with_modrm
second_lines = refl

pub zero_lines : (x : Reading) → map (line_text x zeros) (lines_of x zeros) ≡ map (λ t. bytes t ++ line_end) (zeros_printed x)
unfolding lines_from line_text line_taken head_text instruction_text step_text rows row_of a_byte a_word with_modrm
zero_lines One = refl
zero_lines Two = refl
