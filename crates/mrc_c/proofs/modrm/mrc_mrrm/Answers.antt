-- A ModRM takes at most three bytes.
-- Assumes nothing.
use Rattle.mrc_c.proofs.Counts.{modrm_small}
use Rattle.mrc_c.proofs.modrm.mrc_mrrm.Goals as goal

pub modrm_record-requires : goal.modrm_record-requires
modrm_record-requires c = rw c.read_mrrm.ensures.answer (modrm_small _ _)
