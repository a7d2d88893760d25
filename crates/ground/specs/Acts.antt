-- The one shape of every contract: what a function does to the place, the cells and the layer is, of any settings with that
-- frame and that place, what a rule of the model does to what stands.
use Rattle.std.specs.Prelude.{◌≡◌, ℕ, ◌+◌, ◌≤◌, List, length, set}
use Rattle.model.specs.declared.Place.{Place}
use Rattle.model.specs.declared.Settings.{Settings}
use Rattle.model.specs.State.{State, state, with_marks, with_places}
use Rattle.model.specs.Screens.{place_of, here}
use Rattle.model.specs.Rules.{with_dots}
use Rattle.ground.specs.declared.Frame.{Frame}
use Rattle.ground.specs.Frame.{Framed, Ready}

-- the settings with another place on the selected screen
abbrev pub with_place : Settings → Place → Settings
with_place s r = with_places s (set s.places s.selected r)

-- from place p, cells and layer to place r, cells' and layer', as the rule does, and ready for the next; the marks stay, and the dots (P11), whatever
-- they are
pub record Acts (rule : State → State) (f : Frame) (p r : Place) (cells layer cells' layer' : List ℕ) : Type 0 where
  pub does : (s : Settings) (dots : List ℕ) → Framed s f → place_of s s.selected ≡ p → rule (state s cells layer dots) ≡ state (with_place s r) cells' layer' dots
  pub ready : Ready f r cells' layer'

-- and other marks (P5)
abbrev pub with_here : Settings → Place → List ℕ → Settings
with_here s r marks = with_marks (with_place s r) marks

-- the same of a function that is lent the marks as well, from marks to marks'
pub record ActsWith (rule : State → State) (f : Frame) (p r : Place) (cells layer marks cells' layer' marks' : List ℕ) : Type 0 where
  pub does : (s : Settings) (dots : List ℕ) → Framed s f → place_of s s.selected ≡ p → s.marks ≡ marks → rule (state s cells layer dots) ≡ state (with_here s r marks') cells' layer' dots
  pub ready : Ready f r cells' layer'
  pub marks_are : length marks' ≡ 2

-- the same of a function that is lent the layer alone: the cells stay, whatever they are
abbrev pub ActsAbove : (State → State) → Frame → Place → Place → List ℕ → List ℕ → Type 0
ActsAbove rule f p r layer layer' = (cells : List ℕ) → length cells ≡ 3840 → Acts rule f p r cells layer cells layer'

-- P11: a rule with the dots set aside. 42 and code 12 clear them in mode 3; who is lent the dots does that
abbrev pub except_dots : (State → State) → State → State
except_dots rule st = with_dots st.dots (rule st)

-- what is read off what stands, of any settings with that frame and that place
abbrev pub Reads : {A : Type 0} → (State → A) → Frame → Place → A → Type 0
Reads value f p r = (st : State) → Framed st.settings f → here st ≡ p → value st ≡ r

-- a window top that is read so, "held in range"
pub record Top (value : State → ℕ) (f : Frame) (p : Place) (t : ℕ) : Type 0 where
  pub is : Reads value f p t
  pub low : 1 ≤ t
  pub high : t + f.height ≤ f.lines + 1
