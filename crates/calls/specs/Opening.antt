-- Document 01, "Stores and calls": the opening call and the printer call, and what they promise.
use Rattle.std.specs.Prelude.{◌≡◌, ℕ, Bool, cond, ◌&&◌, ◌||◌, List, [], length, take, replicate, leb, eqb}
use Rattle.model.specs.declared.Settings.{Settings}
use Rattle.model.specs.State.{opened_settings, opened}
use Rattle.calls.specs.Calls.{Terminal, terminal, sized}

-- what an accepted opening leaves
abbrev pub opened_terminal : ℕ → Terminal
opened_terminal rule = record { state = opened rule; shown = replicate 640 32 }

-- the four stores as they come; the opening is given no settings, so those of the opening, with rule 1, stand in
-- their place
abbrev pub unopened : List ℕ → List ℕ → List ℕ → List ℕ → Terminal
unopened cells layer dots shown = terminal (opened_settings 1) cells layer dots shown

-- P9: the rule numbers
unfoldable pub ruled : ℕ → Bool
ruled rule = eqb rule 1 || eqb rule 2

-- "(opening: 1 only)"; P9: "another rule number is 23, after 1"
unfoldable pub opening_number : ℕ → Terminal → ℕ
opening_number rule d = cond (sized d) (cond (ruled rule) 0 23) 1

-- "a refused opening returns the opening settings", "and every store unaltered"; P9: "a refused opening returns rule 1"
unfoldable pub opened_by : ℕ → Terminal → Terminal
opened_by rule d = cond (sized d && ruled rule) (opened_terminal rule) d

-- what the opening call promises: the rule and the four stores before (P11: the dots), what it returns, the stores after
pub record OpeningPromised (rule : ℕ) (cells layer dots shown : List ℕ) (s : Settings) (number : ℕ) (cells' layer' dots' shown' : List ℕ) : Type 0 where
  pub number_is : number ≡ opening_number rule (unopened cells layer dots shown)
  pub settings_are : s ≡ (opened_by rule (unopened cells layer dots shown)).state.settings
  pub cells_are : cells' ≡ (opened_by rule (unopened cells layer dots shown)).state.cells
  pub layer_is : layer' ≡ (opened_by rule (unopened cells layer dots shown)).state.layer
  pub dots_are : dots' ≡ (opened_by rule (unopened cells layer dots shown)).state.dots
  pub shown_is : shown' ≡ (opened_by rule (unopened cells layer dots shown)).shown

-- "hands back that first part of the buffer itself; a count beyond the buffer gives the empty part. It refuses nothing"
unfoldable pub first_part : ℕ → List ℕ → List ℕ
first_part n xs = cond (leb n (length xs)) (take n xs) []

-- what the printer call promises: the part that it hands back, of the buffer as it came (a shared loan, which nobody writes)
pub record PartPromised (buffer : List ℕ) (count : ℕ) (part : List ℕ) : Type 0 where
  pub part_is : part ≡ first_part count buffer
