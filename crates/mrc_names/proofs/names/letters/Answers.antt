-- The letters are a literal.
-- Assumes nothing.
use Rattle.std.proofs.Common.{refl}
use mathlib.Core.List.{flatten}
use Rattle.mrc_names.specs.Names.{letters}
use Rattle.mrc_names.proofs.names.letters.Goals as goal

pub returns : goal.returns
unfolding letters flatten
returns c = refl
