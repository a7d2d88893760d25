-- P1: no item looks at the waiting bytes and the count, or moves them: it does the same under another line, and leaves that line.
use mathlib.Core.Path.{◌∙◌, ◌≡◌, ap, refl}
use Prim.Native.Nat.{◌+◌, ◌-◌, max, ℕ}
use mathlib.Core.Bool.{Bool, ◌&&◌, cond, false, true}
use mathlib.Core.List.{List, [], ◌++◌, ◌∷◌}
use lib.ListN.{length}
use lib.Dec.{eqb, ltb}
use Rattle.model.specs.declared.Item.{Item}
use Rattle.model.specs.declared.Item.TheVariants.{Control, Printed, Refused, Sequence}
use Rattle.model.specs.declared.Sequence.{Sequence as Seq}
use Rattle.model.specs.declared.Sequence.TheVariants.{Arrows1, Arrows2, Arrows3, CapsOff, CapsOn, Charset, Clear, Copy, CursorKind, CursorOff, CursorOn, Display, DrawDot, DrawLine, EraseLine, EraseRest, InsOff, InsOn, LinesDown, LinesUp, Cover, Mode0, Mode1, Mode2, Mode3, Nothing, NumOff, NumOn, Pattern, PrintCode, Put, Repeat, RepeatDelay, RepeatInterval, SecretOff, SecretOn, Select, Shift, Step, StringsOff, StringsOn, Tracking, WindowBottom, WindowCursor, WindowDown, WindowTop, WindowUp}
use Rattle.model.specs.State.{State, put_at, top_at, late_at}
use Rattle.model.specs.Screens.{base, cell_at, columns_here, columns_of, height, here, line_at, lines_here, lines_of, place_of, text_rows}
use Rattle.model.specs.Marks.{mark_of}
use Rattle.model.specs.Picture.{copied, covered, halves, picture, picture_at, sides, text_at, under, window_at, dot_copy, picture_copy}
use Rattle.model.specs.Sequences.{code_of, idle?}
use Rattle.model.specs.Reading.{Read, byte_of}
use Rattle.model.specs.Judging.{limits_of}
use Rattle.model.specs.Rules.{apply_item, late_step, blank_from, centred, cleared, control, displaying, down, emptied, erased, flagged, held, key_line, lifted, missed, mode_set, nearest, obeyed, on_lines, onward, placed, printed, remarked, right, runs_on, shifted, shown_at, stored, to_column, topped, tracked, tracked_far, with_cells, with_keys, with_kind_patterns, with_layer, with_settings, dots_cleared, with_dots}
use Rattle.model.specs.Items.{apply_all, copies, copy_of, events_of, happened, lined, obeyed_by, read, reads_of}

module _ (w : List ℕ) (n : ℕ) where
  -- a test that does not look at it
  cond-lined : (b : Bool) (x y : State) → cond b (lined w n x) (lined w n y) ≡ lined w n (cond b x y)
  cond-lined true x y = refl
  cond-lined false x y = refl

  topped-lined : (t : ℕ) (st : State) → topped t (lined w n st) ≡ lined w n (topped t st)
  unfolding lined with_settings topped emptied with_layer placed place_of
  topped-lined t st = cond-lined (eqb t (here st).top) st (emptied (placed (top_at t (here st)) st))

  tracked-lined : (st : State) → tracked (lined w n st) ≡ lined w n (tracked st)
  unfolding tracked nearest missed lined with_settings height text_rows place_of
  tracked-lined st =
      let b : Bool = eqb st.settings.tracking 1 && missed st in
      ap (λ (x : State). cond b x (lined w n st)) (topped-lined (nearest st) st) ∙ cond-lined b (topped (nearest st) st) st

  tracked_far-lined : (st : State) → tracked_far (lined w n st) ≡ lined w n (tracked_far st)
  unfolding tracked_far centred held missed lined with_settings height text_rows place_of lines_of
  tracked_far-lined st =
      let b : Bool = eqb st.settings.tracking 1 && missed st in
      ap (λ (x : State). cond b x (lined w n st)) (topped-lined (centred st) st) ∙ cond-lined b (topped (centred st) st) st

  down_lined : (st : State) → down (lined w n st) ≡ lined w n (down st)
  unfolding down lifted remarked on_lines emptied with_layer with_cells placed lined with_settings place_of lines_of columns_of base mark_of
  down_lined st = cond-lined (ltb (here st).line (lines_here st)) _ _

  runs_on-lined : (st : State) → runs_on (lined w n st) ≡ lined w n (runs_on st)
  unfolding runs_on remarked lined with_settings place_of mark_of
  runs_on-lined st = refl

  onward-lined : (st : State) → onward (lined w n st) ≡ lined w n (onward st)
  unfolding onward to_column placed lined with_settings place_of
  onward-lined st = ap runs_on (down_lined (to_column 1 st)) ∙ runs_on-lined (down (to_column 1 st))

  right_lined : (st : State) → right (lined w n st) ≡ lined w n (right st)
  unfolding right to_column placed lined with_settings place_of columns_of
  right_lined st =
      let b : Bool = ltb (here st).column (columns_here st) in
      let to : State = to_column ((here st).column + 1) st in
      let late : Bool = eqb st.settings.rule 2 in
      let wait : State = placed (late_at (here st)) st in
      ap (λ (x : State). cond b (lined w n to) (cond late (lined w n wait) x)) (onward-lined st)
      ∙ ap (λ (x : State). cond b (lined w n to) x) (cond-lined late wait (onward st)) ∙ cond-lined b to (cond late wait (onward st))

  late_step-lined : (st : State) → late_step (lined w n st) ≡ lined w n (late_step st)
  unfolding late_step lined with_settings place_of
  late_step-lined st = ap (λ (x : State). cond (eqb (here st).late 1) x (lined w n st)) (onward-lined st) ∙ cond-lined (eqb (here st).late 1) (onward st) st

  stored_lined : (c : ℕ) (st : State) → stored c (lined w n st) ≡ lined w n (stored c st)
  unfolding stored shown_at lined with_settings place_of text_rows cell_at line_at base columns_of
  stored_lined c st = refl

  printed_lined : (c : ℕ) (st : State) → printed c (lined w n st) ≡ lined w n (printed c st)
  unfolding printed
  printed_lined c st =
      let x : State = late_step st in
      ap (λ (y : State). tracked (right (stored c y))) (late_step-lined st) ∙ ap (λ (y : State). tracked (right y)) (stored_lined c x)
      ∙ ap tracked (right_lined (stored c x)) ∙ tracked-lined (right (stored c x))

  control-lined : (c : ℕ) (st : State) → control c (lined w n st) ≡ lined w n (control c st)
  unfolding control to_column cleared with_dots dots_cleared remarked on_lines emptied with_layer with_cells placed lined with_settings place_of lines_of columns_of base mark_of
  control-lined c st = go (eqb c 8) (eqb c 10) (eqb c 13) (eqb c 12)
    where
      go : (p q r s : Bool) → let l = lined w n st in
          cond p (tracked (to_column (max 1 ((here l).column - 1)) l)) (cond q (tracked (down l)) (cond r (tracked (to_column 1 l)) (cond s (cleared l) l)))
          ≡ lined w n (cond p (tracked (to_column (max 1 ((here st).column - 1)) st)) (cond q (tracked (down st)) (cond r (tracked (to_column 1 st)) (cond s (cleared st) st))))
      go true q r s = tracked-lined (to_column (max 1 ((here st).column - 1)) st)
      go false true r s = ap tracked (down_lined st) ∙ tracked-lined (down st)
      go false false true s = tracked-lined (to_column 1 st)
      go false false false true = refl
      go false false false false = refl

  key_line-lined : (m : ℕ) (st : State) → key_line m (lined w n st) ≡ lined w n (key_line m st)
  unfolding key_line displaying lined with_settings emptied with_layer place_of lines_of height text_rows
  key_line-lined m st = cond-lined (eqb m st.settings.display) st (emptied (with_settings (displaying m st.settings) st))

  -- every sequence: most name the other settings one by one
  obeyed_lined : (ms : ℕ → ℕ) (q : Seq) (st : State) → obeyed ms q (lined w n st) ≡ lined w n (obeyed ms q st)
  unfolding obeyed cleared with_dots dots_cleared remarked erased shifted on_lines blank_from mode_set flagged with_keys with_kind_patterns emptied with_layer with_cells placed held centred lined with_settings place_of lines_of columns_of height text_rows base cell_at line_at mark_of
  obeyed_lined ms (PrintCode c) st = printed_lined c st
  obeyed_lined ms Clear st = refl
  obeyed_lined ms CursorOff st = refl
  obeyed_lined ms CursorOn st = refl
  obeyed_lined ms (Put l c) st = tracked_far-lined (placed (put_at (l - 31) (c - 31) (here st)) st)
  obeyed_lined ms (Charset n) st = refl
  obeyed_lined ms Copy st = refl
  obeyed_lined ms EraseLine st = refl
  obeyed_lined ms EraseRest st = refl
  obeyed_lined ms SecretOn st = refl
  obeyed_lined ms SecretOff st = refl
  obeyed_lined ms (LinesUp a m) st = refl
  obeyed_lined ms (LinesDown a m) st = refl
  obeyed_lined ms (Step n) st = refl
  obeyed_lined ms (Tracking n) st = refl
  obeyed_lined ms WindowUp st = topped-lined (held ((here st).top - st.settings.step) st) st
  obeyed_lined ms WindowDown st = topped-lined (held ((here st).top + st.settings.step) st) st
  obeyed_lined ms InsOn st = refl
  obeyed_lined ms InsOff st = refl
  obeyed_lined ms CapsOn st = refl
  obeyed_lined ms CapsOff st = refl
  obeyed_lined ms NumOn st = refl
  obeyed_lined ms NumOff st = refl
  obeyed_lined ms StringsOff st = refl
  obeyed_lined ms StringsOn st = refl
  obeyed_lined ms (DrawLine p1 p2 p3 p4 p5 p6 p7 p8 p9 p10 p11) st = refl
  obeyed_lined ms (DrawDot p1 p2 p3 p4) st = refl
  obeyed_lined ms (Mode0 a b) st = refl
  obeyed_lined ms (Mode1 a) st = refl
  obeyed_lined ms (Mode2 a m p) st = refl
  obeyed_lined ms Mode3 st = refl
  obeyed_lined ms (Select n) st = refl
  obeyed_lined ms (Cover r c p) st = refl
  obeyed_lined ms (Display m) st = key_line-lined m st
  obeyed_lined ms WindowTop st = topped-lined 1 st
  obeyed_lined ms WindowBottom st = topped-lined (lines_here st + 1 - height st.settings) st
  obeyed_lined ms (CursorKind n) st = refl
  obeyed_lined ms WindowCursor st = topped-lined (centred st) st
  obeyed_lined ms (Pattern c at) st = refl
  obeyed_lined ms (Repeat n) st = refl
  obeyed_lined ms (RepeatDelay n) st = refl
  obeyed_lined ms (RepeatInterval n) st = refl
  obeyed_lined ms (Arrows1 c1 c2 c3 c4) st = refl
  obeyed_lined ms (Arrows2 c1 c2 c3 c4) st = refl
  obeyed_lined ms (Arrows3 c1 c2 c3 c4) st = refl
  obeyed_lined ms Nothing st = refl
  obeyed_lined ms (Shift n) st = refl

  pub item_lined : (ms : ℕ → ℕ) (i : Item) (st : State) → apply_item ms i (lined w n st) ≡ lined w n (apply_item ms i st)
  unfolding apply_item lined with_settings
  item_lined ms (Printed c) st = printed_lined c st
  item_lined ms (Control c) st = control-lined c st
  item_lined ms (Sequence q) st =
      let b : Bool = idle? st.settings.mode (code_of q) in
      ap (λ (x : State). cond b (lined w n st) x) (obeyed_lined ms q st) ∙ cond-lined b st (obeyed ms q st)
  item_lined ms (Refused k p) st = refl

  -- nor does judging
  pub limits_lined : (st : State) → limits_of (lined w n st).settings ≡ limits_of st.settings
  unfolding lined with_settings lines_of columns_of height text_rows
  limits_lined st = refl

  -- so the same is read
  pub reads_lined : (bss : List (List ℕ)) (at : ℕ) (st : State) (room : ℕ) → reads_of bss at (lined w n st) room ≡ reads_of bss at st room
  unfolding reads_of lined with_settings lines_of columns_of height text_rows
  reads_lined [] at st room = refl
  reads_lined (bs ∷ bss) at st room =
      let r : Read = read at bs (limits_of st.settings) room in
      ap (λ (x : State). r ∷ reads_of bss (at + length bs) x (room - r.prints)) (item_lined (byte_of r) r.item st)
      ∙ ap (λ (l : List Read). r ∷ l) (reads_lined bss (at + length bs) (obeyed_by r st) (room - r.prints))

  -- the same is made of what stands
  pub applied-lined : (rs : List Read) (st : State) → apply_all (events_of rs) (lined w n st) ≡ lined w n (apply_all (events_of rs) st)
  unfolding apply_all happened
  applied-lined [] st = refl
  applied-lined (r ∷ rs) st = ap (apply_all (events_of rs)) (item_lined (byte_of r) r.item st) ∙ applied-lined rs (obeyed_by r st)

  -- and the same is printed
  picture-copied : (st : State) → picture_copy (lined w n st) ≡ picture_copy st
  unfolding picture_copy picture picture_at covered under text_at halves sides window_at cell_at line_at base columns_of place_of text_rows lined with_settings
  picture-copied st = refl

  dots_copied : (st : State) → dot_copy (lined w n st) ≡ dot_copy st
  unfolding dot_copy lined with_settings
  dots_copied st = refl

  copied-lined : (st : State) → copied (lined w n st) ≡ copied st
  unfolding copied lined with_settings
  copied-lined st = λ i. cond (eqb st.settings.mode 3) (dots_copied st i) (picture-copied st i)

  copy-lined : (i : Item) (st : State) → copy_of i (lined w n st) ≡ copy_of i st
  copy-lined (Printed c) st = refl
  copy-lined (Control c) st = refl
  copy-lined (Sequence q) st = ap (λ (l : List ℕ). cond (eqb (code_of q) 80) l []) (copied-lined st)
  copy-lined (Refused k p) st = refl

  pub copies_lined : (rs : List Read) (st : State) → copies (events_of rs) (lined w n st) ≡ copies (events_of rs) st
  unfolding copies happened
  copies_lined [] st = refl
  copies_lined (r ∷ rs) st =
      (λ i. copy-lined r.item st i ++ copies (events_of rs) (item_lined (byte_of r) r.item st i))
      ∙ ap (λ (l : List ℕ). copy_of r.item st ++ l) (copies_lined rs (obeyed_by r st))
