-- The painting by rows, by which the tables of examples are computed: each list walked once, where the definition goes to each of 640 places from the start. That it is the painting is proved in PaintLaws.
use Prim.Native.Nat.{ℕ, suc, zero, ◌+◌, ◌-◌, ◌*◌}
use mathlib.Core.Bool.{Bool, true, false, ◌&&◌, ◌||◌}
use mathlib.Core.List.{List, [], ◌∷◌, ◌++◌}
use lib.ListN.{drop, get_or}
use lib.Dec.{eqb, leb}
use Rattle.model.specs.Bytes.{list_from}
use Rattle.model.specs.State.{State}
use Rattle.model.specs.Screens.{cell_at, place_of, text_rows}
use Rattle.model.specs.Picture.{painting, under}

-- a mark of the layer, its code, and the code under it
abbrev pub over : ℕ → ℕ → ℕ → ℕ
over mark code below = elim (eqb mark 0) [ true ↦ below | false ↦ code ]

-- n places of a row
unfoldable pub overlaid : ℕ → List ℕ → List ℕ → List ℕ → List ℕ
overlaid zero marks codes below = []
overlaid (suc n) marks codes below = over (get_or marks 0 0) (get_or codes 0 0) (get_or below 0 0) ∷ overlaid n (drop 1 marks) (drop 1 codes) (drop 1 below)

-- row q, from 0, is text of one screen
abbrev pub one_screen : State → ℕ → Bool
one_screen st q = (eqb st.settings.mode 0 || eqb st.settings.mode 3) && leb (suc q) (text_rows st.settings)

-- its first cell there
abbrev pub first_cell : State → ℕ → ℕ
first_cell st q = let s = st.settings in cell_at s s.selected ((place_of s s.selected).top + suc q - 1) 1

-- the codes of a row without secret and layer
unfoldable pub below : State → ℕ → List ℕ
below st q = elim (one_screen st q) [ true ↦ drop (first_cell st q) st.cells | false ↦ list_from (under st (suc q)) 1 80 ]

-- a row, and n rows from row q on
unfoldable pub row : State → ℕ → List ℕ
row st q = overlaid 80 (drop (80 * q) st.layer) (drop (640 + 80 * q) st.layer) (below st q)

unfoldable pub rows_from : State → ℕ → ℕ → List ℕ
rows_from st q zero = []
rows_from st q (suc n) = row st q ++ rows_from st (suc q) n

-- the painting; under secret the definition costs little
unfoldable pub by_all_rows : State → List ℕ
by_all_rows st = elim (eqb st.settings.secret 1) [ true ↦ painting st | false ↦ rows_from st 0 8 ]
