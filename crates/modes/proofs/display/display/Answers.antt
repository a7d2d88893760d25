-- `modes::display::display` meets its contract: the value that stands changes nothing, another is `displaying`, and the layer is emptied.
use mathlib.Core.Path.{◌∙◌, ap, refl}
use Prim.Native.Nat.{ℕ}
use lib.ListN.{replicate}
use Rattle.model.specs.Rules.{emptied, with_layer, with_settings}
use Rattle.modes.proofs.Displays.{displayed, fits, line_changes, line_stays}
use Rattle.modes.proofs.Parts.{stands}
use Rattle.modes.proofs.display.display.Goals as goal

pub returns-then-on-settings : goal.returns-then-on-settings
returns-then-on-settings c cells dots =
    line_stays _ _ c.if-on-settings.true

pub hold-first-requires : goal.hold-first-requires
hold-first-requires c =
    let f = fits c.args.settings c.args.on (c.height_of-height.ensures _ refl refl) c.requires.0 c.requires.1 in
    (f.0, f.1)

pub hold-second-requires : goal.hold-second-requires
hold-second-requires c =
    let f = fits c.args.settings c.args.on (c.height_of-height.ensures _ refl refl) c.requires.0 c.requires.1 in
    (f.0, f.2)

pub returns : goal.returns
unfolding emptied with_layer with_settings
returns c cells dots =
    let a = c.args in
    let new = displayed a.settings a.on (c.height_of-height.ensures _ refl refl) c.hold-first.ensures c.hold-second.ensures c.min.ensures in
    stands new refl (c.fill.ensures ∙ ap (λ (n : ℕ). replicate n 0) c.told-layer) refl
    ∙ line_changes a.on _ c.if-on-settings.false
