-- Printed characters on the shown screen (document 02, P12): whether one of them is wide, and each painted at its place.
use Rattle.std.specs.Prelude.{◌≡◌, ℕ, suc, ◌-◌, Bool, false, not, cond, ◌||◌, List, [], ◌∷◌, drop, length, set, take, eqb}
use Rattle.model.specs.declared.Place.{Place}
use Rattle.model.specs.declared.Settings.{Settings}
use Rattle.model.specs.State.{State, state}
use Rattle.model.specs.Screens.{here, place_of}
use Rattle.model.specs.Rules.{printed}
use Rattle.calls.specs.Repaint.{print_lifts?, print_place}
use Rattle.ground.specs.declared.Frame.{Frame}
use Rattle.runs.specs.declared.Run.{Run}
use Rattle.ground.specs.Frame.{Framed}
use Rattle.runs.specs.Run.{Part, Ran}
use Rattle.short_printing.specs.declared.Seen.{Seen}

-- a code as the picture has it: "32 everywhere while secret is on"
abbrev pub veiled : ℕ → ℕ → ℕ
veiled secret c = cond (eqb secret 1) 32 c

-- bytes at places one behind the other; from 640 on there is none
unfoldable pub shown_from : ℕ → ℕ → List ℕ → List ℕ → List ℕ
shown_from secret p [] x = x
shown_from secret p (b ∷ bs) x = shown_from secret (suc p) bs (set x p (veiled secret b))

-- a printed character is wide: it lifts, or the window's top moves
unfoldable pub wide_print : ℕ → State → Bool
wide_print c st = print_lifts? st || not (eqb (here (printed c st)).top (here st).top)

-- one of these is
unfoldable pub wide_all : List ℕ → State → Bool
wide_all [] st = false
wide_all (b ∷ bs) st = wide_print b st || wide_all bs (printed b st)

-- each of them painted at its place
unfoldable pub seen_all : ℕ → List ℕ → State → List ℕ → List ℕ
seen_all secret [] st x = x
seen_all secret (b ∷ bs) st x = seen_all secret bs (printed b st) (set x (print_place st) (veiled secret b))

-- characters printed from a place on, of any settings with that frame and these marks: whether one is wide, and what is then shown
pub record Sees (bs : List ℕ) (f : Frame) (p : Place) (secret : ℕ) (wide : Bool) (cells layer marks shown shown' : List ℕ) : Type 0 where
  pub wide_is : (s : Settings) (dots : List ℕ) → Framed s f → place_of s s.selected ≡ p → s.marks ≡ marks → wide ≡ wide_all bs (state s cells layer dots)
  pub seen_is : (s : Settings) (dots : List ℕ) → Framed s f → place_of s s.selected ≡ p → s.marks ≡ marks → shown' ≡ seen_all secret bs (state s cells layer dots) shown
  pub size : length shown' ≡ 640

-- without what is seen, it is a run
abbrev pub run_of : Seen → Run
run_of r = record { place = r.place; at = r.at }

-- of the bytes of m from an offset up to another the first are printed and seen, at least one
pub record SeenPart (m : List ℕ) (at to : ℕ) (f : Frame) (p : Place) (secret : ℕ) (r : Seen) (cells layer marks shown cells' layer' marks' shown' : List ℕ) : Type 0 where
  pub part : Part m at to f p (run_of r) cells layer marks cells' layer' marks'
  pub sees : Sees (take (r.at - at) (drop at m)) f p secret r.wide cells layer marks shown shown'

-- a whole run is
pub record SeenRun (m : List ℕ) (at : ℕ) (f : Frame) (p : Place) (secret : ℕ) (r : Seen) (cells layer marks shown cells' layer' marks' shown' : List ℕ) : Type 0 where
  pub ran : Ran m at f p (run_of r) cells layer marks cells' layer' marks'
  pub sees : Sees (take (r.at - at) (drop at m)) f p secret r.wide cells layer marks shown shown'
