-- `finish` meets its contract: the settings with their place back are painted, by its top, if that is asked for.
use mathlib.Core.Path.{◌≡◌, ◌∙◌, ap, refl, subst, sym}
use mathlib.Core.Bool.{Bool, cond}
use mathlib.Core.List.{List}
use native.Mathlib.Omega.{arith}
use lib.ListN.{length-set}
use lib.Seq.{get_or-set_same}
use Rattle.model.specs.declared.Place.{Place}
use Rattle.model.specs.Screens.{place_of}
use Rattle.model.specs.Sound.{array_ranges}
use Rattle.model.specs.State.{nowhere, state, with_places}
use Rattle.model.specs.Picture.{painting}
use Rattle.model.proofs.Keep.{chosen}
use Rattle.model.specs.Sound.{Sound}
use Rattle.ground.specs.Acts.{with_place}
use Rattle.serving.proofs.finish.Goals as goal

pub placed-places-requires : goal.placed-places-requires
placed-places-requires c =
    chosen _ c.requires.sound

pub paint-requires : goal.paint-requires
unfolding place_of array_ranges
paint-requires c =
    let a = c.args in
    let s = a.settings in
    let there = get_or-set_same s.places s.selected a.place nowhere (omega (arith, length-set s.places s.selected a.place, c.requires.sound.arrays.0, chosen _ c.requires.sound)) in
    record { visible = subst (λ (ps : List Place). (Sound (with_places s ps)) × (a.place.top ≡ (place_of (with_places s ps) s.selected).top)) (sym c.placed-places.ensures) (c.requires.sound, ap (λ (p : Place). p.top) (sym there)); layer_value = c.requires.bare_is }

pub returns-then-paints : goal.returns-then-paints
returns-then-paints c =
    let e = c.placed-places.ensures in
    let a = c.args in (
      ap (with_places a.settings) e,
      (
        refl,
        λ dots.
            c.paint.ensures dots ∙ ap (λ (ps : List Place). painting (state (with_places a.settings ps) a.cells.now a.layer.now dots)) e
            ∙ ap (λ (b : Bool). cond b (painting (state (with_place a.settings a.place) a.cells.now a.layer.now dots)) a.shown.now) (sym c.if-paints.true),
      ),
    )

pub returns : goal.returns
returns c =
    let a = c.args in
    (ap (with_places a.settings) c.placed-places.ensures, (refl, λ dots. ap (λ (b : Bool). cond b (painting (state (with_place a.settings a.place) a.cells.now a.layer.now dots)) a.shown.now) (sym c.if-paints.false)))
