-- `paint_code`: a place from 640 on is none.
use mathlib.Core.Path.{ap, sym}
use native.Mathlib.Omega.{arith}
use lib.ListN.{set}
use lib.Seq.{set_out}
use Rattle.short_printing.proofs.paint_code.Goals as goal

pub returns-then-spot-lt-SHOWN : goal.returns-then-spot-lt-SHOWN
returns-then-spot-lt-SHOWN c =
    let a = c.args in ap (set a.shown.now a.spot) c.veiled.ensures

pub returns-else-spot-lt-SHOWN : goal.returns-else-spot-lt-SHOWN
returns-else-spot-lt-SHOWN c =
    let a = c.args in sym (set_out a.shown.now a.spot _ (omega arith))
