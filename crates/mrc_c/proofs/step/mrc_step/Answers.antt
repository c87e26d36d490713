-- The number is the refusal's, and 0 for an instruction; nothing of the counts is lost.
-- Assumes nothing.
use Rattle.std.proofs.Common.{◌≡◌, ◌∙◌, sym, ap, arith, rules}
use Rattle.mrc_rules.specs.Answer.{number_in, number}
use Rattle.mrc_c.proofs.Asked.{in_reading}
use Rattle.mrc_c.proofs.Counts.{step_whole}
use Rattle.mrc_c.proofs.step.mrc_step.Goals as goal

pub returns-in-Ok : goal.returns-in-Ok
returns-in-Ok c =
    let a = c.args in
    let d = c.decode_instruction-result.result in
    let no_refusal : number d ≡ 0 = ap number_in c.in-Ok.is in
    omega (arith, no_refusal, step_whole _ a.s.now a.at a.budget (search rules) d (in_reading a.s.now a.at a.budget c.decode_instruction-result.ensures c.reading_of.ensures))

pub returns-in-Err : goal.returns-in-Err
returns-in-Err c =
    let a = c.args in
    let d = c.decode_instruction-result.result in
    let its_number : c.from.result ≡ number d = c.from.ensures ∙ c.number.ensures ∙ sym (ap number_in c.in-Err.is) in
    rw its_number (step_whole _ a.s.now a.at a.budget (search rules) d (in_reading a.s.now a.at a.budget c.decode_instruction-result.ensures c.reading_of.ensures))
