-- What the rules say of the selected screen in the middle of a sentence, by name.
use Rattle.std.specs.Prelude.{ℕ, ◌+◌, ◌-◌, ◌*◌, Bool, ◌&&◌, eqb}
use Rattle.model.specs.declared.Place.{Place}
use Rattle.model.specs.State.{State}
use Rattle.model.specs.Screens.{here, lines_here, height, cell_at}
use Rattle.model.specs.Rules.{shown_at, held, missed}
use Rattle.ground.specs.declared.Frame.{Frame}

-- the cursor's cell
abbrev pub cell_here : State → ℕ
cell_here st = cell_at st.settings st.settings.selected (here st).line (here st).column

-- the same by the frame
abbrev pub cell_in : Frame → Place → ℕ
cell_in f p = f.base + (p.line - 1) * f.columns + (p.column - 1)

-- the place that shows it, or 640 for none
abbrev pub shown_here : State → ℕ
shown_here st = shown_at st.settings (here st).line (here st).column

-- "While tracking is on, .. a window that misses the cursor's line"
abbrev pub lost : State → Bool
lost st = eqb st.settings.tracking 1 && missed st

-- 150: "top less by step, held in range"
abbrev pub earlier : State → ℕ
earlier st = held ((here st).top - st.settings.step) st

-- 151: "top more by step, held in range"
abbrev pub later : State → ℕ
later st = held ((here st).top + st.settings.step) st

-- 213: "top greatest"
abbrev pub greatest : State → ℕ
greatest st = lines_here st + 1 - height st.settings
