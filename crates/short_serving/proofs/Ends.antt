-- What the painting at a short message's end asks: the settings with their place back are sound, and its top is the place's.
use mathlib.Core.Path.{◌≡◌, ap, subst, sym}
use native.Mathlib.Omega.{arith}
use mathlib.Core.List.{List}
use lib.ListN.{length-set, set}
use lib.Seq.{get_or-set_same}
use Rattle.model.specs.declared.Place.{Place}
use Rattle.model.specs.declared.Settings.{Settings}
use Rattle.model.specs.Screens.{place_of}
use Rattle.model.specs.Sound.{Sound, array_ranges}
use Rattle.model.specs.State.{nowhere, with_places}
use Rattle.model.proofs.Keep.{chosen}
use Rattle.ground.specs.Acts.{with_place}

-- the settings with the place back, and its top
pub visible : (s : Settings) (p : Place) {ps : List Place} → Sound (with_place s p) → ps ≡ set s.places s.selected p → (Sound (with_places s ps)) × (p.top ≡ (place_of (with_places s ps) s.selected).top)
unfolding place_of array_ranges
visible s p v e =
    let there = get_or-set_same s.places s.selected p nowhere (omega (arith, length-set s.places s.selected p, v.arrays.0, chosen _ v)) in
    subst (λ (ps : List Place). (Sound (with_places s ps)) × (p.top ≡ (place_of (with_places s ps) s.selected).top)) (sym e) (v, ap (λ (q : Place). q.top) (sym there))
