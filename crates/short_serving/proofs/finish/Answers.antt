-- `finish` meets its contract: the settings with their place back are painted by its top, all places or row 8.
use mathlib.Core.Path.{◌∙◌, ap, refl, sym}
use mathlib.Core.Bool.{Bool, cond}
use mathlib.Core.List.{List}
use Rattle.model.specs.declared.Place.{Place}
use Rattle.model.specs.State.{state, with_places}
use Rattle.model.specs.Picture.{painting, picture}
use Rattle.model.proofs.Keep.{chosen}
use Rattle.views.specs.Painted.{painted}
use Rattle.ground.specs.Acts.{with_place}
use Rattle.short_serving.proofs.Ends.{visible}
use Rattle.short_serving.proofs.finish.Goals as goal

pub placed-places-requires : goal.placed-places-requires
placed-places-requires c =
    chosen _ c.requires.sound

pub paint-requires : goal.paint-requires
paint-requires c = record { visible = visible c.args.settings c.args.place c.requires.sound c.placed-places.ensures; layer_value = c.requires.bare_is }

pub returns-then-wide : goal.returns-then-wide
returns-then-wide c =
    let e = c.placed-places.ensures in
    let a = c.args in (
      ap (with_places a.settings) e,
      (
        refl,
        λ dots.
            c.paint.ensures dots ∙ ap (λ (ps : List Place). painting (state (with_places a.settings ps) a.cells.now a.layer.now dots)) e
            ∙ ap (λ (b : Bool). let st = state (with_place a.settings a.place) a.cells.now a.layer.now dots in cond b (painting st) (painted 560 80 (picture st) a.shown.now)) (sym c.if-wide.true),
      ),
    )

pub paint_row_8-requires : goal.paint_row_8-requires
paint_row_8-requires c = record { visible = visible c.args.settings c.args.place c.requires.sound c.placed-places.ensures }

pub returns : goal.returns
returns c =
    let e = c.placed-places.ensures in
    let a = c.args in (
      ap (with_places a.settings) e,
      (
        refl,
        λ dots.
            c.paint_row_8.ensures dots ∙ ap (λ (ps : List Place). painted 560 80 (picture (state (with_places a.settings ps) a.cells.now a.layer.now dots)) a.shown.now) e
            ∙ ap (λ (b : Bool). let st = state (with_place a.settings a.place) a.cells.now a.layer.now dots in cond b (painting st) (painted 560 80 (picture st) a.shown.now)) (sym c.if-wide.false),
      ),
    )
