-- What an item does on the selected screen, by its place and marks alone; and what is known of the layer and of the dots after it.
use Rattle.std.specs.Prelude.{◌≡◌, ℕ, ◌+◌, ◌≤◌, Bool, true, false, cond, ◌||◌, List, [], ◌∷◌, length, replicate, eqb}
use Rattle.model.specs.declared.Item.{Item}
use Rattle.model.specs.declared.Item.TheVariants.{Control, Printed, Refused, Sequence}
use Rattle.model.specs.declared.Limits.{Limits}
use Rattle.model.specs.declared.Place.{Place}
use Rattle.model.specs.Checks.{member}
use Rattle.model.specs.Judging.{legal_item?}
use Rattle.model.specs.Rules.{apply_item}
use Rattle.model.specs.Sequences.{code_of, idle?}
use Rattle.model.specs.OnScreen.{stays_on_screen?}
use Rattle.ground.specs.declared.Frame.{Frame}
use Rattle.runs.specs.declared.Run.{Run}
use Rattle.ground.specs.Acts.{ActsWith, except_dots}
use Rattle.runs.specs.Run.{Ran, prints?}

-- a printed byte
abbrev pub printed? : Item → Bool
printed? (Printed b) = true
printed? (Control c) = false
printed? (Sequence q) = false
printed? (Refused n p) = false

-- an item of the message m, at an offset, of so many bytes: its parameters are in their ranges, and a printed byte prints
pub record Offered (m : List ℕ) (at size : ℕ) (i : Item) (l : Limits) : Type 0 where
  pub inside : at + size ≤ length m
  pub sendable : length m ≤ 4096
  pub legal : legal_item? i l ≡ true
  pub prints : printed? i ≡ true → prints? m at ≡ true

-- what it does on the selected screen
pub record Moves (m : List ℕ) (at size : ℕ) (i : Item) (f : Frame) (p : Place) (r : Run) (cells layer marks cells' layer' marks' : List ℕ) : Type 0 where
  -- a printed byte begins a run, which is printed whole
  pub run : printed? i ≡ true → Ran m at f p r cells layer marks cells' layer' marks'
  -- behind any other item the next begins
  pub next : printed? i ≡ false → r.at ≡ at + size
  -- if it stays it does what its rule says, whatever the message, the dots set aside
  pub acts : printed? i ≡ false → stays_on_screen? i ≡ true → (n : ℕ → ℕ) → ActsWith (except_dots (apply_item n i)) f p r.place cells layer marks cells' layer' marks'
  -- else it leaves all as it was
  pub rests : stays_on_screen? i ≡ false → (r.place ≡ p) × ((cells' ≡ cells) × ((layer' ≡ layer) × (marks' ≡ marks)))

-- P11: "42 in mode 3 .. clear[s] the dots", and code 12 does as 42: the dots after an item of the selected screen
abbrev pub clears? : Item → Bool
clears? (Printed b) = false
clears? (Control c) = eqb c 12
clears? (Sequence q) = eqb (code_of q) 42
clears? (Refused n p) = false

unfoldable pub dots_then : ℕ → Item → List ℕ → List ℕ
dots_then mode i dots = cond (clears? i) (cond (eqb mode 3) (replicate 3840 0) dots) dots

-- the sequences after which the layer is empty, whatever stood, where they are not idle: 42, 208, and "84, 89, 144, 145, 209"
abbrev pub emptying : List ℕ
emptying = 42 ∷ 84 ∷ 89 ∷ 144 ∷ 145 ∷ 208 ∷ 209 ∷ []

-- whether the layer is known to be empty after an item in a mode, by whether it was before: those empty it, code 12 does as 42, 210 "marks the layer",
-- and what is idle leaves it. A lift, a top that moves and another key display empty it too, and nothing is known of that
abbrev pub bare_then : ℕ → Item → Bool → Bool
bare_then mode (Printed b) bare = bare
bare_then mode (Control c) bare = eqb c 12 || bare
bare_then mode (Sequence q) bare = cond (idle? mode (code_of q)) bare (cond (eqb (code_of q) 210) false (member (code_of q) emptying || bare))
bare_then mode (Refused n p) bare = bare
