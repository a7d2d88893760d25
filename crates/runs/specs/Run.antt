-- A run of printed bytes of a message.
use Rattle.std.specs.Prelude.{◌≡◌, ℕ, zero, suc, ◌+◌, ◌-◌, ◌≤◌, ◌<◌, Bool, true, false, ◌&&◌, List, [], ◌∷◌, length, get_or, take, drop, leb}
use Rattle.model.specs.declared.Place.{Place}
use Rattle.model.specs.State.{State}
use Rattle.model.specs.Rules.{late_step, printed, stored}
use Rattle.ground.specs.declared.Frame.{Frame}
use Rattle.runs.specs.declared.Run.{Run}
use Rattle.ground.specs.Acts.{ActsWith, Reads}
use Rattle.ground.specs.Here.{lost}

-- bytes printed one after the other
unfoldable pub printed_all : List ℕ → State → State
printed_all [] st = st
printed_all (b ∷ bs) st = printed_all bs (printed b st)

-- "Bytes 32 to 255 print": the byte of m at an offset does; where there is none, none does
abbrev pub prints? : List ℕ → ℕ → Bool
prints? m at = leb 32 (get_or m at 0)

-- so do as many bytes from an offset on
unfoldable pub all_print? : List ℕ → ℕ → ℕ → Bool
all_print? m at zero = true
all_print? m at (suc n) = all_print? m at n && prints? m (at + n)

-- the bytes of m from an offset up to another print; there is at least one
pub record Printing (m : List ℕ) (at to : ℕ) : Type 0 where
  pub some : at < to
  pub inside : to ≤ length m
  pub print : (j : ℕ) → at ≤ j → j < to → prints? m j ≡ true

-- these are a whole run: what follows does not print
pub record WholeRun (m : List ℕ) (at to : ℕ) : Type 0 where
  pub printing : Printing m at to
  pub ends : prints? m to ≡ false

-- a whole run is printed
pub record Ran (m : List ℕ) (at : ℕ) (f : Frame) (p : Place) (r : Run) (cells layer marks cells' layer' marks' : List ℕ) : Type 0 where
  pub run : WholeRun m at r.at
  pub acts : ActsWith (printed_all (take (r.at - at) (drop at m))) f p r.place cells layer marks cells' layer' marks'

-- of the bytes of m from an offset up to another the first are printed, at least one
pub record Part (m : List ℕ) (at to : ℕ) (f : Frame) (p : Place) (r : Run) (cells layer marks cells' layer' marks' : List ℕ) : Type 0 where
  pub some : at < r.at
  pub most : r.at ≤ to
  pub acts : ActsWith (printed_all (take (r.at - at) (drop at m))) f p r.place cells layer marks cells' layer' marks'

-- all of these bytes but the last are printed, and the last is only stored
unfoldable pub laid_all : List ℕ → State → State
laid_all [] st = st
laid_all (b ∷ []) st = stored b (late_step st)
laid_all (b ∷ d ∷ bs) st = laid_all (d ∷ bs) (printed b st)

-- of n bytes the first r, at least one, have room in the cursor's line; more than one only while the window shows it
pub record Fitting (f : Frame) (p : Place) (n r : ℕ) : Type 0 where
  pub some : 1 ≤ r
  pub most : r ≤ n
  pub room : p.column + r ≤ f.columns + 1
  pub seen : 2 ≤ r → Reads lost f p false
