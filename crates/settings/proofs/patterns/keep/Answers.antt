-- `settings::patterns::keep` meets its contract: what `copy_in` puts into the patterns is what is stored.
use Rattle.settings.proofs.patterns.keep.Goals as goal

pub returns : goal.returns
returns c =
    rw (c.copy_in.ensures, c.from.ensures)
