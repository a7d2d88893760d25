-- Document 02, P12: "Add a call that is the old one but paints less": which of the 640 places a short message paints. That is worked out from its items and from
-- settings, of no cell and no byte of the layer, so that what is not painted gives nothing away. What it promises of the places is in Claims (`Quick`).
use Rattle.std.specs.Prelude.{ℕ, Bool, true, false, not, cond, ◌&&◌, ◌||◌, List, [], ◌∷◌, get_or, ltb, leb, eqb}
use Rattle.model.specs.declared.Item.{Item}
use Rattle.model.specs.declared.Item.TheVariants.{Printed, Control, Sequence, Refused}
use Rattle.model.specs.Bytes.{list_from}
use Rattle.model.specs.State.{State}
use Rattle.model.specs.Checks.{member}
use Rattle.model.specs.Screens.{here, lines_here, columns_here}
use Rattle.model.specs.Picture.{picture}
use Rattle.model.specs.Sequences.{code_of}
use Rattle.model.specs.Reading.{Read}
use Rattle.model.specs.Rules.{shown_at, late_step}
use Rattle.model.specs.Items.{obeyed_by}

-- the second bytes of the sequences after which the picture may be another anywhere: they blank, move or select, or change the layer, the window, secret or the key line
abbrev pub wide_codes : List ℕ
wide_codes = 42 ∷ 84 ∷ 89 ∷ 123 ∷ 125 ∷ 144 ∷ 145 ∷ 150 ∷ 151 ∷ 208 ∷ 209 ∷ 210 ∷ 211 ∷ 212 ∷ 213 ∷ 215 ∷ []

-- an item that is none of these; code 12 is as 42
unfoldable pub calm? : Item → Bool
calm? (Printed c) = true
calm? (Control c) = not (eqb c 12)
calm? (Sequence q) = not (member (code_of q) wide_codes)
calm? (Refused n p) = true

-- "Going below the last line": a step down lifts the screen
unfoldable pub lowest? : State → Bool
lowest? st = not (ltb (here st).line (lines_here st))

-- a printed character lifts it: by the late step before it (P9), or by the step from the last column behind it
unfoldable pub print_lifts? : State → Bool
print_lifts? st =
    let a = late_step st in
    (eqb (here st).late 1 && lowest? st) || (not (ltb (here a).column (columns_here a)) && (not (eqb a.settings.rule 2) && lowest? a))

-- an item lifts it
unfoldable pub lifts? : Item → State → Bool
lifts? (Printed c) st = print_lifts? st
lifts? (Control c) st = eqb c 10 && lowest? st
lifts? (Sequence q) st = eqb (code_of q) 37 && print_lifts? st
lifts? (Refused n p) st = false

-- an item moves the window's top
unfoldable pub moves_top? : Read → State → Bool
moves_top? r st = not (eqb (here (obeyed_by r st)).top (here st).top)

-- after an item the picture may be another at other places than that of a cell it prints
unfoldable pub wide? : Read → State → Bool
wide? r st = not (calm? r.item) || (lifts? r.item st || moves_top? r st)

-- the place of the cell that a printed character goes to, after its late step (P9); 640 where the window does not show it
unfoldable pub print_place : State → ℕ
print_place st = let a = late_step st in shown_at a.settings (here a).line (here a).column

-- "places of cells it prints": an item's, 640 if it prints none
unfoldable pub place_by : Item → State → ℕ
place_by (Printed c) st = print_place st
place_by (Control c) st = 640
place_by (Sequence q) st = cond (eqb (code_of q) 37) (print_place st) 640
place_by (Refused n p) st = 640

-- one of the items is wide
unfoldable pub wide_in : List Read → State → Bool
wide_in [] st = false
wide_in (r ∷ rs) st = wide? r st || wide_in rs (obeyed_by r st)

-- the places of the cells that they print
unfoldable pub places_in : List Read → State → List ℕ
places_in [] st = []
places_in (r ∷ rs) st = place_by r.item st ∷ places_in rs (obeyed_by r st)

-- the places that are painted: "Row 8 it always paints whole", all if an item is wide, else those of the cells that are printed
unfoldable pub painted? : Bool → List ℕ → ℕ → Bool
painted? wide places p = leb 560 p || (wide || member p places)

-- these painted, the others as they were
unfoldable pub repainted : Bool → List ℕ → State → List ℕ → List ℕ
repainted wide places st shown = list_from (λ p. cond (painted? wide places p) (picture st p) (get_or shown p 0)) 0 640

-- by items from what stood before them, and what stands behind them
abbrev pub shown_behind : List Read → State → State → List ℕ → List ℕ
shown_behind rs given st shown = repainted (wide_in rs given) (places_in rs given) st shown
