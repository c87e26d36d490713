-- The decoder calls itself on a smaller budget. The laws of a decode at a position say what each way through answers.
-- Assumes nothing.
use Rattle.std.proofs.Common.{◌≡◌, ◌+◌, ◌-◌, ◌∙◌, ap, subst, get_or, drop, arith}
use Rattle.mrc_instruction.specs.declared.instruction.Reach.TheVariants.{Far}
use mathlib.Core.Logic.{⊎_elim}
use Rattle.mrc_rules.specs.Forms.{far}
use Rattle.mrc_forms.specs.Answers.{reached_answer}
use Rattle.mrc_decoder.specs.declared.form.Form.{Form}
use Rattle.mrc_decoder.specs.Form.{meant, meaning_of}
use Rattle.mrc_decoder.proofs.Reaching.{row_reached, immediate_reached, displacement_reached}
use Rattle.mrc_decoder.proofs.Decoding.{alone_anywhere, direct_alike, ends_behind, no_prefix, override, repeat, small}
use Rattle.mrc_decoder.proofs.decode.+decode_instruction.Goals as goal

pub behind_prefix-requires : goal.behind_prefix-requires
behind_prefix-requires t c =
    small c.args.reading c.args.s.now (c.args.at + 1) (c.args.budget - 1) (omega arith) (omega arith) c.decode_instruction-answer.ensures

pub returns-in-Override : goal.returns-in-Override
returns-in-Override t c =
    let s = c.args.s.now in
    let Means = λ (f : Form). meant f (get_or s c.args.at 0) ≡ meaning_of c.args.reading (get_or s c.args.at 0) in
    ⊎_elim
    (λ q. override c.args.reading s c.args.at c.args.budget c.if-s-at.false (subst Means q c.form_of.ensures) c.if-budget-eq0.false c.decode_instruction-answer.ensures c.behind_prefix.ensures)
    (λ q. repeat c.args.reading s c.args.at c.args.budget c.if-s-at.false (subst Means q c.form_of.ensures) c.if-budget-eq0.false c.decode_instruction-answer.ensures c.behind_prefix.ensures)
    c.in-Override.is

pub returns-in-OnImmediate : goal.returns-in-OnImmediate
returns-in-OnImmediate t c =
    no_prefix c.args.reading c.args.s.now c.args.at c.args.budget c.if-s-at.false c.in-OnImmediate.ensures
    (c.reaching.ensures ∙ ap (reached_answer c.in-OnImmediate.reach) c.on_immediate.ensures
    ∙ immediate_reached c.args.reading c.in-OnImmediate.operation c.in-OnImmediate.size (get_or c.args.s.now c.args.at 0) (c.args.at + 1) (drop (c.args.at + 1) c.args.s.now) c.in-OnImmediate.reach)
    c.answered-in-OnImmediate.ensures

pub returns-in-OnDisplacement : goal.returns-in-OnDisplacement
returns-in-OnDisplacement t c =
    no_prefix c.args.reading c.args.s.now c.args.at c.args.budget c.if-s-at.false c.in-OnDisplacement.ensures
    (c.reaching-in-OnDisplacement.ensures ∙ ap (reached_answer c.in-OnDisplacement.reach) c.on_displacement.ensures
    ∙ displacement_reached c.args.reading c.in-OnDisplacement.operation c.in-OnDisplacement.size (get_or c.args.s.now c.args.at 0) (c.args.at + 1) (drop (c.args.at + 1) c.args.s.now) c.in-OnDisplacement.reach)
    c.answered-in-OnDisplacement.ensures

pub returns-in-Far : goal.returns-in-Far
returns-in-Far t c =
    no_prefix c.args.reading c.args.s.now c.args.at c.args.budget c.if-s-at.false c.in-Far.ensures
    (c.reaching-in-Far.ensures ∙ ap (reached_answer Far) c.far.ensures ∙ row_reached c.args.reading Far (get_or c.args.s.now c.args.at 0) (far c.in-Far.operation) (c.args.at + 1) (drop (c.args.at + 1) c.args.s.now))
    c.answered-in-Far.ensures

pub returns-in-AccumulatorAndDirect : goal.returns-in-AccumulatorAndDirect
returns-in-AccumulatorAndDirect t c =
    no_prefix c.args.reading c.args.s.now c.args.at c.args.budget c.if-s-at.false c.in-AccumulatorAndDirect.ensures
    (c.accumulator_and_direct.ensures ∙ direct_alike c.args.reading (get_or c.args.s.now c.args.at 0) (c.args.at + 1) (drop (c.args.at + 1) c.args.s.now))
    c.answered-in-AccumulatorAndDirect.ensures

pub answered-requires-in-OpcodeAlone : goal.answered-requires-in-OpcodeAlone
answered-requires-in-OpcodeAlone t c =
    ends_behind c.args.reading c.args.s.now c.args.at c.args.budget c.if-s-at.false c.in-OpcodeAlone.ensures
    (c.opcode_alone.ensures ∙ alone_anywhere c.args.reading c.in-OpcodeAlone.form (get_or c.args.s.now c.args.at 0) (c.args.at + 1) (drop (c.args.at + 1) c.args.s.now))

pub returns-in-OpcodeAlone : goal.returns-in-OpcodeAlone
returns-in-OpcodeAlone t c =
    no_prefix c.args.reading c.args.s.now c.args.at c.args.budget c.if-s-at.false c.in-OpcodeAlone.ensures
    (c.opcode_alone.ensures ∙ alone_anywhere c.args.reading c.in-OpcodeAlone.form (get_or c.args.s.now c.args.at 0) (c.args.at + 1) (drop (c.args.at + 1) c.args.s.now))
    c.answered-in-OpcodeAlone.ensures
