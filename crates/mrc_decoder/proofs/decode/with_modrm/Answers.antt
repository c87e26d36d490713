-- The ModRM is read, and then what its form reads behind it; the answer gets the displacement bytes that it was written with.
-- Assumes nothing.
use Rattle.std.proofs.Common.{◌∙◌}
use Rattle.mrc_instruction.proofs.Outcomes.{passed}
use Rattle.mrc_decoder.specs.Form.{modrm_form}
use Rattle.mrc_decoder.proofs.ModRM.{then_behind, stops_before}
use Rattle.mrc_decoder.proofs.decode.with_modrm.Goals as goal

pub returns-in_err-modrm : goal.returns-in_err-modrm
returns-in_err-modrm c =
    passed c.from_residual.result c.from_residual.ensures.1
    ∙ stops_before c.args.reading (modrm_form c.args.form) c.args.size c.args.s.now c.args.at c.in_err-modrm.ensures

pub returns : goal.returns
returns c =
    c.writing.ensures ∙ then_behind c.args.reading (modrm_form c.args.form) c.args.size c.args.s.now c.args.at c.in_ok-modrm.ensures c.behind_modrm-read.ensures
