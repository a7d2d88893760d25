-- Documents 01 and 02 by single items: what some bytes are read as, and what they leave. Here are document 01's five "Mistakes to exclude" and sentences of document 02 that no law of the
-- rules says another way. They stand beside the rules, so that a rule written otherwise fails at a row in its own crate; whole messages and lists of calls are in the crate `examples`.
use Rattle.std.specs.Prelude.{◌≡◌, ℕ, List, [], ◌∷◌, get_or, replicate}
use Rattle.model.specs.declared.Item.{Item}
use Rattle.model.specs.declared.Item.TheVariants.{Sequence, Refused}
use Rattle.model.specs.declared.Sequence.TheVariants.{Copy}
use Rattle.model.specs.Bytes.{put}
use Rattle.model.specs.State.{State, opened, opened_settings, with_mode3}
use Rattle.model.specs.Screens.{here}
use Rattle.model.specs.Picture.{picture}
use Rattle.model.specs.Reading.{uncut}
use Rattle.model.specs.Judging.{limits_of}
use Rattle.model.specs.Rules.{with_cells, with_layer, cover, hiding, mode_set}
use Rattle.model.specs.Items.{read, obeyed_by}

-- the item that some bytes are, where this stands, with this printer room
abbrev pub item_at : State → List ℕ → ℕ → Item
item_at st bs room = (read 0 bs (limits_of st.settings) room).item

-- what it leaves
abbrev pub after_item : State → List ℕ → State
after_item st bs = obeyed_by (read 0 bs (limits_of st.settings) 0) st

-- at the opening, an A, a B and a C at the start of lines 1, 2 and 3
abbrev pub lettered : State
lettered = with_cells (put 160 (67 ∷ []) (put 80 (66 ∷ []) (put 0 (65 ∷ []) (opened 1).cells))) (opened 1)

-- the codes at the start of lines 1, 2 and 3
abbrev pub line_starts : State → List ℕ
line_starts st = get_or st.cells 0 0 ∷ get_or st.cells 80 0 ∷ get_or st.cells 160 0 ∷ []

-- secret on, the first place of the layer marked with a Z
abbrev pub secretly : State
secretly = with_layer (cover 0 90 (replicate 1280 0)) (hiding 1 (opened 1))

-- what 27,208,3 leaves at the opening
abbrev pub drawable : State
drawable = mode_set (with_mode3 (opened_settings 1))

-- the rows
pub record SingleItems : Type 0 where
  -- "taking the ESC in a parameter for a new sequence (27,37,27)": one item, which prints 27
  pub escape_in_a_parameter : (uncut (27 ∷ 37 ∷ 27 ∷ []) ≡ (27 ∷ 37 ∷ 27 ∷ []) ∷ []) × (get_or (after_item (opened 1) (27 ∷ 37 ∷ 27 ∷ [])).cells 0 0 ≡ 27)
  -- "a window below the last line after 213": of 24 lines the last eight, from 17
  pub window_at_the_end : (here (after_item (opened 1) (27 ∷ 213 ∷ []))).top ≡ 17
  -- "taking the scrolled region a line too short because the manual says m−1 lines": 144 with 0 and 2 moves B to line 1 and blanks line 2
  pub whole_region : line_starts (after_item lettered (27 ∷ 144 ∷ 0 ∷ 2 ∷ [])) ≡ 66 ∷ 32 ∷ 67 ∷ []
  -- "painting the layer over the secret mode"
  pub secret_over_the_layer : picture secretly 0 ≡ 32
  -- "letting a refused 208 blank the screen": 24 and 25 lines are too many, and all stays
  pub refused_mode : (item_at lettered (27 ∷ 208 ∷ 0 ∷ 24 ∷ 25 ∷ []) 0 ≡ Refused 11 3) × (after_item lettered (27 ∷ 208 ∷ 0 ∷ 24 ∷ 25 ∷ []) ≡ lettered)
  -- P10: "Where only the sum of two fails (.. 144, 145) it is the later one"
  pub sum_by_the_later : (item_at (opened 1) (27 ∷ 144 ∷ 1 ∷ 24 ∷ []) 0 ≡ Refused 11 2) × (item_at (opened 1) (27 ∷ 145 ∷ 1 ∷ 24 ∷ []) 0 ≡ Refused 11 2)
  -- P11: "13 here means under 3,840"
  pub room_for_the_dots : (item_at drawable (27 ∷ 80 ∷ []) 3839 ≡ Refused 13 0) × (item_at drawable (27 ∷ 80 ∷ []) 3840 ≡ Sequence Copy)
  -- P11: "floor((2kd+N)/(2N)) along the other, towards the end": from 0,0 to horizontal 2, vertical 1 the middle dot lies in row 1
  pub half_towards_the_end : let dots = (after_item drawable (27 ∷ 198 ∷ 0 ∷ 0 ∷ 0 ∷ 0 ∷ 0 ∷ 2 ∷ 0 ∷ 1 ∷ 255 ∷ 255 ∷ 2 ∷ [])).dots in (get_or dots 0 0 ≡ 128) × (get_or dots 60 0 ≡ 96)
