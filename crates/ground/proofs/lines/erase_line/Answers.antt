-- `lines::erase_line` meets its contract: the line where it ends is the first unmarked one, which is one of the screen's.
use native.Mathlib.Omega.{arith}
use Rattle.model.proofs.MarkLaws.{end_high, end_low}
use Rattle.ground.proofs.Regions.{erased_line}
use Rattle.ground.proofs.lines.erase_line.Goals as goal

pub end_of-to-requires : goal.end_of-to-requires
end_of-to-requires c =
    record { le_line = (omega arith, (omega arith, omega arith)); screen_bound = c.requires.ready.stands.screen_low }

pub erase_through-requires : goal.erase_through-requires
erase_through-requires c =
    let fits = c.requires.ready.stands.fits in let e = c.end_of-to.ensures in
    record { ready = c.requires.ready; line_le_to = (rw e (end_low _ _ _ fits.line_low fits.line_high), rw e (end_high _ _ _ fits.line_low fits.line_high)) }

pub returns : goal.returns
returns c =
    erased_line c.end_of-to.ensures c.erase_through.ensures
