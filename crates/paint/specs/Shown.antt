-- The shown screen: what it is painted from, a place of it without secret and layer, and the layer over it.
use Rattle.std.specs.Prelude.{◌≡◌, ℕ, ◌+◌, ◌/◌, ◌%◌, cond, List, get_or, length, eqb}
use Rattle.model.specs.declared.Settings.{Settings}
use Rattle.model.specs.State.{State}
use Rattle.model.specs.Sound.{Sound}
use Rattle.model.specs.Picture.{under}

-- what the picture is painted from: sound settings, cells and layer of their sizes
pub record Visible (s : Settings) (cells layer : List ℕ) : Type 0 where
  pub sound : Sound s
  pub cells_are : length cells ≡ 3840
  pub layer_are : length layer ≡ 1280

-- a place of the picture without secret and layer
abbrev pub below : State → ℕ → ℕ
below st p = under st (p / 80 + 1) (p % 80 + 1)

-- "0 empty, other values set"
abbrev pub covered_by : ℕ → ℕ → ℕ → ℕ
covered_by mark code x = cond (eqb mark 0) x code

-- "first 640 marks, then 640 codes": f, with the layer over it
unfoldable pub laid : List ℕ → (ℕ → ℕ) → ℕ → ℕ
laid layer f p = covered_by (get_or layer p 0) (get_or layer (640 + p) 0) (f p)
