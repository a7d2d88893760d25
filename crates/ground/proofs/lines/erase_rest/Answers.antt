-- `lines::erase_rest` meets its contract: it ends with the screen's last line.
use native.Mathlib.Omega.{arith}
use Rattle.ground.proofs.Regions.{erased_rest}
use Rattle.ground.proofs.lines.erase_rest.Goals as goal

pub erase_through-requires : goal.erase_through-requires
erase_through-requires c =
    record { ready = c.requires.ready; line_le_to = (c.requires.ready.stands.fits.line_high, omega arith) }

pub returns : goal.returns
returns c =
    erased_rest c.erase_through.ensures
