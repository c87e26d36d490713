-- A displacement at a wider width: its bits read back as the number.
-- Assumes nothing.
use Rattle.std.proofs.Common.{◌≡◌, T, leb, ℤ, to_z-of_z, SFits, to_z, of_z}
use mir.Syntax.{Width}
use mir.Val.{hbits}
use mir.Facts.{sfits_widen}

-- the bits at a wider width, as a byte's at 16 bits
pub wide :
    (w wider : Width) → T (leb (hbits w) (hbits wider)) → (d : ℤ) → SFits w d → to_z wider (of_z wider (to_z w (of_z w d))) ≡ d
wide w wider le d s = rw (to_z-of_z s) (to_z-of_z (sfits_widen {w = w} {w' = wider} le s))
