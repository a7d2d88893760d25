-- A frame: what acting on the selected screen needs of the settings, and whether the layer is known to be empty. It is worked out anew
-- after an item that may change the settings, and not for each byte, so that a printed byte copies no settings. It names no place: the
-- cursor and the window move under one and the same frame.
use Rattle.std.specs.Prelude.{◌≡◌, ℕ, ◌+◌, ◌*◌, ◌≤◌, ◌<◌, cond, ◌&&◌, true, List, length, replicate, eqb}
use Rattle.model.specs.declared.Place.{Place}
use Rattle.model.specs.declared.Settings.{Settings}
use Rattle.model.specs.declared.Limits.{Limits}
use Rattle.model.specs.Screens.{lines_of, columns_of, place_of, text_rows, height, base}
use Rattle.model.specs.Sound.{Fits}
use Rattle.ground.specs.declared.Frame.{Frame}

-- f is the frame of the settings s
pub record Framed (s : Settings) (f : Frame) : Type 0 where
  pub two_places : length s.places ≡ 2
  pub selected_low : s.selected < 2
  pub lines_are : f.lines ≡ lines_of s s.selected
  pub columns_are : f.columns ≡ columns_of s s.selected
  pub base_is : f.base ≡ base s s.selected
  pub screen_is : f.screen ≡ s.selected
  pub rows_are : f.rows ≡ text_rows s
  pub height_is : f.height ≡ height s
  pub shift_is : f.shift ≡ cond (eqb s.mode 2 && eqb s.selected 1) (s.columns1 + 1) 0
  pub step_is : f.step ≡ s.step
  pub tracking_is : f.tracking ≡ s.tracking
  pub rule_is : f.rule ≡ s.rule
  pub mode_is : f.mode ≡ s.mode

-- the screen of f is one of two and lies among the cells, its window is no taller than it and in mode 3 (P11) as tall, and p is a
-- place of it
pub record Stands (f : Frame) (p : Place) : Type 0 where
  pub among : f.base + f.lines * f.columns ≤ 3840
  pub columns_low : 1 ≤ f.columns
  pub screen_low : f.screen < 2
  pub lines_high : f.lines ≤ 48
  pub height_low : 2 ≤ f.height
  pub height_high : f.height ≤ f.lines
  pub whole : f.mode ≡ 3 → f.height ≡ f.lines
  pub step_high : f.step ≤ f.height
  pub fits : Fits f.rule f.lines f.columns f.height p

-- the layer has its size, and is empty where the frame says that it is bare
pub record LayerOf (f : Frame) (layer : List ℕ) : Type 0 where
  pub size : length layer ≡ 1280
  pub empty : f.bare ≡ true → layer ≡ replicate 1280 0

-- p stands, the cells have their size, and the layer is as the frame says: what is asked before each step, and holds after it
pub record Ready (f : Frame) (p : Place) (cells layer : List ℕ) : Type 0 where
  pub stands : Stands f p
  pub cells_are : length cells ≡ 3840
  pub layer_are : LayerOf f layer

-- what frame_of promises of sound settings
pub record FrameOf (s : Settings) (f : Frame) : Type 0 where
  pub framed : Framed s f
  pub stands : Stands f (place_of s s.selected)

-- what parameters are judged by
abbrev pub limits_in : Frame → Limits
limits_in f = record { mode = f.mode; lines = f.lines; columns = f.columns; height = f.height }
