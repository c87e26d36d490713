-- The low byte and then the high one.
-- Assumes nothing.
use Rattle.std.proofs.Common.{ap, ◌≡◌, ◌∙◌, ◌+◌, ◌*◌, arith}
use Rattle.mrc_instruction.specs.Reader.{a_byte, a_word}
use Rattle.mrc_instruction.specs.Read.{told}
use Rattle.mrc_instruction.proofs.Sequence.{took, stop_at}
use Rattle.mrc_instruction.proofs.Outcomes.{read_is, one_and_another, passed}
use Rattle.mrc_instruction.proofs.read.read_u16.Goals as goal

pub returns-in_err-low : goal.returns-in_err-low
unfolding a_word
returns-in_err-low c =
    passed c.from_residual.result c.from_residual.ensures.1 ∙ ap told (stop_at a_byte _ c.args.s.now c.args.at (read_is c.in_err-low.ensures))

pub overflow_add-at : goal.overflow_add-at
overflow_add-at c = omega (arith, took a_byte c.args.s.now c.args.at (read_is c.in_ok-low.ensures))

pub returns-in_err-high : goal.returns-in_err-high
unfolding a_word
returns-in_err-high c =
    passed c.from_residual-in_err-high.result c.from_residual-in_err-high.ensures.1
    ∙ ap told (one_and_another a_byte (λ low. a_byte) (λ low high. low + 256 * high) c.args.s.now c.args.at (omega arith) c.in_ok-low.ensures c.read_u8-2.ensures c.in_err-high.ensures)

pub returns : goal.returns
unfolding a_word
returns c =
    let word : c.from_le_bytes.result ≡ c.in_ok-low.low.value + 256 * c.in_ok-high.high.value = omega (arith, c.from_le_bytes.ensures) in
    rw word
    (ap told (one_and_another a_byte (λ low. a_byte) (λ low high. low + 256 * high) c.args.s.now c.args.at (omega arith) c.in_ok-low.ensures c.read_u8-2.ensures c.in_ok-high.ensures))
