-- P8, of the rules by themselves (specs/Hidden): each step of a rule works out settings and dots from settings and dots alone, so each keeps what two states
-- share; only 125 ends secret, and with secret on every place of the picture is blank.
use mathlib.Core.Path.{◌∙◌, ◌≡◌, ap, refl, sym}
use Prim.Native.Nat.{◌*◌, ◌+◌, ◌-◌, max, min, ℕ}
use native.Mathlib.Omega.{arith}
use mathlib.Core.Bool.{Bool, ◌&&◌, false}
use mathlib.Core.List.{List, [], ◌∷◌}
use lib.ListN.{length, length-append, length-drop, length-replicate, length-take, replicate, set}
use lib.Dec.{eqb, ltb}
use borrow.Author.Tests.{eq-eqb}
use Rattle.model.specs.declared.Place.{Place}
use Rattle.model.specs.declared.Keys.{Keys}
use Rattle.model.specs.declared.Settings.{Settings}
use Rattle.model.specs.declared.Sequence.{Sequence as Seq}
use Rattle.model.specs.declared.Sequence.TheVariants.{Arrows1, Arrows2, Arrows3, CapsOff, CapsOn, Charset, Clear, Copy, CursorKind, CursorOff, CursorOn, Display, DrawDot, DrawLine, EraseLine, EraseRest, InsOff, InsOn, LinesDown, LinesUp, Cover, Mode0, Mode1, Mode2, Mode3, Nothing, NumOff, NumOn, Pattern, PrintCode, Put, Repeat, RepeatDelay, RepeatInterval, SecretOff, SecretOn, Select, Shift, Step, StringsOff, StringsOn, Tracking, WindowBottom, WindowCursor, WindowDown, WindowTop, WindowUp}
use Rattle.model.specs.declared.Item.{Item}
use Rattle.model.specs.declared.Item.TheVariants.{Control, Printed, Refused, Sequence}
use Rattle.model.specs.Bytes.{blanked, list_from, on_part, put}
use Rattle.model.specs.State.{State, home, keys_with, put_at, repeat_with, state, top_at, late_at, with_display, with_texts}
use Rattle.model.specs.Screens.{columns_here, columns_of, height, here, lines_here, lines_of, place_of, screens, text_rows}
use Rattle.model.specs.Marks.{end_of, mark_of, marks_down, marks_up, running_on, unmarked_from}
use Rattle.model.specs.Checks.{in_ranges?, range}
use Rattle.model.specs.Line.{line?}
use Rattle.model.specs.Sound.{array_ranges, inside?, marks?, other_ranges, plain_ranges, second?, shape_ranges, sound?}
use Rattle.model.specs.Picture.{copied, copied_rows, dot_copy, picture, picture_at, picture_copy}
use Rattle.model.specs.Sequences.{code_of, idle?}
use Rattle.model.specs.Dot.{two_bytes, with_dot}
use Rattle.model.specs.Strokes.{lined as stroke}
use Rattle.model.specs.Judging.{limits_of}
use Rattle.model.specs.Rules.{apply_item, late_step, blank_from, centred, cleared, control, displaying, dots_cleared, down, emptied, erased, flagged, held, held_place, key_line, lifted, marks_here, missed, mode_set, nearest, obeyed, on_lines, onward, placed, point, printed, remarked, right, runs_on, shifted, stored, to_column, topped, tracked, tracked_far, with_arrows, with_cells, with_dots, with_keys, with_kind_patterns, with_layer, with_led, with_settings}
use Rattle.model.specs.Items.{lined, texted}
use Rattle.model.specs.Hidden.{Hidden, common, reveals, shared}
use Rattle.model.proofs.Tests.{cond₂, differ, elim_at}

-- what stands without the bytes of cells and layer
abbrev bare : State → State
bare st = state st.settings [] [] st.dots

-- what is worked out from what is shared
pub same_of : {A : Type 0} {a b : State} (f : State → A) → Hidden a b → f (common a) ≡ f (common b)
same_of f h = λ i. f (h.same i)

-- the steps that touch settings or stores
hidden_placed : {a b : State} (p q : Place) → Hidden a b → p ≡ q → Hidden (placed p a) (placed q b)
unfolding placed
hidden_placed p q h e = record { same = λ i. bare (placed (e i) (h.same i)); on = h.on }

hidden_emptied : {a b : State} → Hidden a b → Hidden (emptied a) (emptied b)
unfolding emptied with_layer
hidden_emptied h = record { same = h.same; on = h.on }

hidden_on_lines : {a b : State} (x y u v : ℕ) (f g : List ℕ → List ℕ) → Hidden a b → Hidden (on_lines x y f a) (on_lines u v g b)
unfolding on_lines emptied with_layer with_cells
hidden_on_lines x y u v f g h = record { same = h.same; on = h.on }

hidden_remarked : {a b : State} (f g : (ℕ → ℕ) → ℕ → ℕ) → f ≡ g → Hidden a b → Hidden (remarked f a) (remarked g b)
unfolding remarked with_settings mark_of
hidden_remarked f g e h = record { same = λ i. bare (remarked (e i) (h.same i)); on = h.on }

hidden_stored : {a b : State} (c d : ℕ) → Hidden a b → Hidden (stored c a) (stored d b)
unfolding stored
hidden_stored c d h = record { same = h.same; on = h.on }

hidden_blank_from : {a b : State} (x y : ℕ) → Hidden a b → Hidden (blank_from x a) (blank_from y b)
unfolding blank_from emptied with_layer with_cells
hidden_blank_from x y h = record { same = h.same; on = h.on }

hidden_dots : {a b : State} (ds es : List ℕ) → ds ≡ es → Hidden a b → Hidden (with_dots ds a) (with_dots es b)
unfolding with_dots
hidden_dots ds es e h = record { same = λ i. with_dots (e i) (h.same i); on = h.on }

-- the steps made of these
hidden_lifted : {a b : State} → Hidden a b → Hidden (lifted a) (lifted b)
unfolding lifted columns_of lines_of
hidden_lifted h = hidden_remarked _ _ (same_of (λ (x : State). marks_up 0 (lines_here x)) h) (hidden_on_lines _ _ _ _ _ _ h)

hidden_down : {a b : State} → Hidden a b → Hidden (down a) (down b)
unfolding down lines_of place_of
hidden_down h =
    cond₂ Hidden _ _ _ _ _ _ (same_of (λ (x : State). ltb (here x).line (lines_here x)) h)
    (λ e. hidden_placed _ _ h (same_of (λ (x : State). put_at ((here x).line + 1) (here x).column (here x)) h))
    (λ e. hidden_placed _ _ (hidden_lifted h) (same_of (λ (x : State). put_at (here x).line (here x).column (here x)) h))

hidden_column : {a b : State} (c d : ℕ) → c ≡ d → Hidden a b → Hidden (to_column c a) (to_column d b)
unfolding to_column place_of
hidden_column c d e h = hidden_placed _ _ h (λ i. put_at (here (h.same i)).line (e i) (here (h.same i)))

hidden_onward : {a b : State} → Hidden a b → Hidden (onward a) (onward b)
unfolding onward runs_on place_of
hidden_onward h =
    let z = hidden_down (hidden_column 1 1 refl h) in
    hidden_remarked _ _ (same_of (λ (x : State). running_on ((here x).line - 1)) z) z

hidden_right : {a b : State} → Hidden a b → Hidden (right a) (right b)
unfolding right columns_of place_of
hidden_right h =
    cond₂ Hidden _ _ _ _ _ _ (same_of (λ (x : State). ltb (here x).column (columns_here x)) h) (λ e. hidden_column _ _ (same_of (λ (x : State). (here x).column + 1) h) h)
    (λ e. cond₂ Hidden _ _ _ _ _ _ (same_of (λ (x : State). eqb x.settings.rule 2) h) (λ f. hidden_placed _ _ h (same_of (λ (x : State). late_at (here x)) h)) (λ f. hidden_onward h))

pub hidden_late_step : {a b : State} → Hidden a b → Hidden (late_step a) (late_step b)
unfolding late_step place_of
hidden_late_step h = cond₂ Hidden _ _ _ _ _ _ (same_of (λ (x : State). eqb (here x).late 1) h) (λ e. hidden_onward h) (λ e. h)

hidden_topped : {a b : State} (t u : ℕ) → t ≡ u → Hidden a b → Hidden (topped t a) (topped u b)
unfolding topped place_of
hidden_topped t u e h = cond₂ Hidden _ _ _ _ _ _ (λ i. eqb (e i) (here (h.same i)).top) (λ z. h)
    (λ z. hidden_emptied (hidden_placed _ _ h (λ i. top_at (e i) (here (h.same i)))))

hidden_held : {a b : State} (t u : ℕ) → t ≡ u → Hidden a b → Hidden (topped (held t a) a) (topped (held u b) b)
unfolding held height lines_of text_rows
hidden_held t u e h = hidden_topped _ _ (λ i. held (e i) (h.same i)) h

hidden_tracked : {a b : State} → Hidden a b → Hidden (tracked a) (tracked b)
unfolding tracked nearest missed height place_of text_rows
hidden_tracked h = cond₂ Hidden _ _ _ _ _ _ (same_of (λ (x : State). eqb x.settings.tracking 1 && missed x) h) (λ e. hidden_topped _ _ (same_of nearest h) h) (λ e. h)

hidden_tracked_far : {a b : State} → Hidden a b → Hidden (tracked_far a) (tracked_far b)
unfolding tracked_far centred held missed height lines_of place_of text_rows
hidden_tracked_far h = cond₂ Hidden _ _ _ _ _ _ (same_of (λ (x : State). eqb x.settings.tracking 1 && missed x) h) (λ e. hidden_topped _ _ (same_of centred h) h) (λ e. h)

-- printing, whatever the two bytes
pub hidden_printed : {a b : State} (c d : ℕ) → Hidden a b → Hidden (printed c a) (printed d b)
unfolding printed
hidden_printed c d h = hidden_tracked (hidden_right (hidden_stored c d (hidden_late_step h)))

hidden_cleared : {a b : State} → Hidden a b → Hidden (cleared a) (cleared b)
unfolding cleared dots_cleared lines_of
hidden_cleared h =
    hidden_dots _ _ (same_of dots_cleared h) (hidden_placed home home (hidden_remarked _ _ (same_of (λ (x : State). unmarked_from 1 (lines_here x)) h) (hidden_on_lines _ _ _ _ _ _ h)) refl)

hidden_control : {a b : State} (c : ℕ) → Hidden a b → Hidden (control c a) (control c b)
unfolding control place_of
hidden_control c h =
    cond₂ Hidden (eqb c 8) (eqb c 8) _ _ _ _ refl (λ e. hidden_tracked (hidden_column _ _ (same_of (λ (x : State). max 1 ((here x).column - 1)) h) h))
    (λ e. cond₂ Hidden (eqb c 10) (eqb c 10) _ _ _ _ refl (λ e. hidden_tracked (hidden_down h))
    (λ e. cond₂ Hidden (eqb c 13) (eqb c 13) _ _ _ _ refl (λ e. hidden_tracked (hidden_column 1 1 refl h))
    (λ e. cond₂ Hidden (eqb c 12) (eqb c 12) _ _ _ _ refl (λ e. hidden_cleared h) (λ e. h))))

hidden_erased : {a b : State} (l k : ℕ) → l ≡ k → Hidden a b → Hidden (erased l a) (erased k b)
unfolding erased place_of
hidden_erased l k e h = hidden_remarked _ _ (λ i. unmarked_from (here (h.same i)).line (e i)) (hidden_blank_from _ _ h)

hidden_shifted : {a b : State} (x y : ℕ) (f : List ℕ → List ℕ) (k : List ℕ → List ℕ) (g : (ℕ → ℕ) → ℕ → ℕ) → Hidden a b → Hidden (shifted x y f g a) (shifted x y k g b)
unfolding shifted
hidden_shifted x y f k g h = hidden_remarked _ _ refl (hidden_on_lines _ _ _ _ _ _ h)

-- another key display: H is worked out from it and the mode
hidden_display : {a b : State} {ps qs : List Place} {p q : ℕ} (n : ℕ) → Hidden a b → ps ≡ qs → p ≡ q
    → Hidden (with_settings (with_display a.settings n ps p) a) (with_settings (with_display b.settings n qs q) b)
unfolding with_settings
hidden_display n h e f = record { same = λ i. bare (with_settings (with_display (h.same i).settings n (e i) (f i)) (h.same i)); on = h.on }

abbrev height_under : ℕ → State → ℕ
height_under n x = height (with_display x.settings n x.settings.places x.settings.step)

abbrev held_under : ℕ → ℕ → State → Place
held_under n k x = held_place (lines_of x.settings k) (height_under n x) (place_of x.settings k)

hidden_key_line : {a b : State} (n : ℕ) → Hidden a b → Hidden (key_line n a) (key_line n b)
unfolding key_line displaying height lines_of place_of text_rows
hidden_key_line n h =
    cond₂ Hidden _ _ _ _ _ _ (same_of (λ (x : State). eqb n x.settings.display) h) (λ e. h)
    (λ e. hidden_emptied (hidden_display n h (same_of (λ (x : State). held_under n 0 x ∷ held_under n 1 x ∷ []) h) (same_of (λ (x : State). min x.settings.step (height_under n x)) h)))

-- flags, keys, the cursor's type and the patterns: other values, the same on both sides
same_selected : {a b : State} → Hidden a b → a.settings.selected ≡ b.settings.selected
same_selected h = same_of (λ (x : State). x.settings.selected) h

same_tracking : {a b : State} → Hidden a b → a.settings.tracking ≡ b.settings.tracking
same_tracking h = same_of (λ (x : State). x.settings.tracking) h

same_step : {a b : State} → Hidden a b → a.settings.step ≡ b.settings.step
same_step h = same_of (λ (x : State). x.settings.step) h

same_secret : {a b : State} → Hidden a b → a.settings.secret ≡ b.settings.secret
same_secret h = same_of (λ (x : State). x.settings.secret) h

same_cursor : {a b : State} → Hidden a b → a.settings.cursor ≡ b.settings.cursor
same_cursor h = same_of (λ (x : State). x.settings.cursor) h

hidden_flagged : {a b : State} {s s' t t' p p' e e' c c' : ℕ} → Hidden a b → s ≡ s' → t ≡ t' → p ≡ p' → e ≡ e' → c ≡ c' → e ≡ 1 → Hidden (flagged s t p e c a) (flagged s' t' p' e' c' b)
unfolding flagged with_settings
hidden_flagged h s t p e c on = record { same = λ i. bare (flagged (s i) (t i) (p i) (e i) (c i) (h.same i)); on = on }

hidden_keys : {a b : State} {k l : Keys} → Hidden a b → k ≡ l → Hidden (with_keys k a) (with_keys l b)
unfolding with_keys with_settings
hidden_keys h e = record { same = λ i. bare (with_keys (e i) (h.same i)); on = h.on }

hidden_led : {a b : State} (w n : ℕ) → Hidden a b → Hidden (with_led w n a) (with_led w n b)
hidden_led w n h = hidden_keys h (same_of (λ (x : State). let k = x.settings.keys in keys_with k (set k.leds w n) k.charset k.strings) h)

hidden_arrows : {a b : State} (w : ℕ) (cs : List ℕ) → Hidden a b → Hidden (with_arrows w cs a) (with_arrows w cs b)
hidden_arrows w cs h = hidden_keys h (same_of (λ (x : State). let k = x.settings.keys in repeat_with k k.repeat k.delay k.interval k.shift (put (w * 4) cs k.arrows)) h)

hidden_kind : {a b : State} {n n' : ℕ} {ps ps' : List ℕ} → Hidden a b → n ≡ n' → ps ≡ ps' → Hidden (with_kind_patterns n ps a) (with_kind_patterns n' ps' b)
unfolding with_kind_patterns with_settings
hidden_kind h e f = record { same = λ i. bare (with_kind_patterns (e i) (f i) (h.same i)); on = h.on }

-- a sequence, with the same bytes
hidden_obeyed : (m : ℕ → ℕ) (q : Seq) {a b : State} → reveals (Sequence q) ≡ false → Hidden a b → Hidden (obeyed m q a) (obeyed m q b)
unfolding obeyed mode_set with_layer centred held columns_of height lines_of place_of text_rows mark_of
hidden_obeyed m (PrintCode c) v h = hidden_printed c c h
hidden_obeyed m Clear v h = hidden_cleared h
hidden_obeyed m CursorOff v h = hidden_flagged h (same_selected h) (same_tracking h) (same_step h) (same_secret h) refl h.on
hidden_obeyed m CursorOn v h = hidden_flagged h (same_selected h) (same_tracking h) (same_step h) (same_secret h) refl h.on
hidden_obeyed m (Put l c) v h = hidden_tracked_far (hidden_placed _ _ h (same_of (λ (st : State). put_at (l - 31) (c - 31) (here st)) h))
hidden_obeyed m (Charset n) v h = hidden_keys h (same_of (λ (st : State). let k = st.settings.keys in keys_with k k.leds n k.strings) h)
hidden_obeyed m Copy v h = h
hidden_obeyed m EraseLine v h = hidden_erased _ _ (same_of (λ (st : State). end_of (marks_here st) (lines_here st) (here st).line) h) h
hidden_obeyed m EraseRest v h = hidden_erased _ _ (same_of lines_here h) h
hidden_obeyed m SecretOn v h = hidden_flagged h (same_selected h) (same_tracking h) (same_step h) refl (same_cursor h) refl
hidden_obeyed m SecretOff v h = absurd (differ v)
hidden_obeyed m (LinesUp a n) v h = hidden_shifted a n _ _ (marks_up a n) h
hidden_obeyed m (LinesDown a n) v h = hidden_shifted a n _ _ (marks_down a n) h
hidden_obeyed m (Step n) v h = hidden_flagged h (same_selected h) (same_tracking h) refl (same_secret h) (same_cursor h) h.on
hidden_obeyed m (Tracking n) v h = hidden_flagged h (same_selected h) refl (same_step h) (same_secret h) (same_cursor h) h.on
hidden_obeyed m WindowUp v h = hidden_held _ _ (same_of (λ (st : State). (here st).top - st.settings.step) h) h
hidden_obeyed m WindowDown v h = hidden_held _ _ (same_of (λ (st : State). (here st).top + st.settings.step) h) h
hidden_obeyed m InsOn v h = hidden_led 0 1 h
hidden_obeyed m InsOff v h = hidden_led 0 0 h
hidden_obeyed m CapsOn v h = hidden_led 1 1 h
hidden_obeyed m CapsOff v h = hidden_led 1 0 h
hidden_obeyed m NumOn v h = hidden_led 2 1 h
hidden_obeyed m NumOff v h = hidden_led 2 0 h
hidden_obeyed m StringsOff v h = hidden_keys h (same_of (λ (st : State). let k = st.settings.keys in keys_with k k.leds k.charset 0) h)
hidden_obeyed m StringsOn v h = hidden_keys h (same_of (λ (st : State). let k = st.settings.keys in keys_with k k.leds k.charset 1) h)
hidden_obeyed m (DrawLine p1 p2 p3 p4 p5 p6 p7 p8 p9 p10 p11) v h =
    hidden_dots _ _ (same_of (λ (st : State). stroke p11 (two_bytes p9 p10) (point (two_bytes p3 p4) (two_bytes p1 p2)) (point (two_bytes p7 p8) (two_bytes p5 p6)) st.dots) h) h
hidden_obeyed m (DrawDot p1 p2 p3 p4) v h = hidden_dots _ _ (same_of (λ (st : State). with_dot p1 p2 (two_bytes p3 p4) st.dots) h) h
hidden_obeyed m (Mode0 x y) v h = record { same = same_of (λ (st : State). bare (obeyed m (Mode0 x y) st)) h; on = omega (arith, h.on) }
hidden_obeyed m (Mode1 x) v h = record { same = same_of (λ (st : State). bare (obeyed m (Mode1 x) st)) h; on = omega (arith, h.on) }
hidden_obeyed m (Mode2 x y z) v h = record { same = same_of (λ (st : State). bare (obeyed m (Mode2 x y z) st)) h; on = omega (arith, h.on) }
hidden_obeyed m Mode3 v h = record { same = same_of (λ (st : State). bare (obeyed m Mode3 st)) h; on = omega (arith, h.on) }
hidden_obeyed m (Select n) v h = hidden_emptied (hidden_flagged h refl (same_tracking h) (same_step h) (same_secret h) (same_cursor h) h.on)
hidden_obeyed m (Cover l c p) v h = record { same = h.same; on = h.on }
hidden_obeyed m (Display n) v h = hidden_key_line n h
hidden_obeyed m WindowTop v h = hidden_topped 1 1 refl h
hidden_obeyed m WindowBottom v h = hidden_topped _ _ (same_of (λ (st : State). lines_here st + 1 - height st.settings) h) h
hidden_obeyed m (CursorKind n) v h = hidden_kind h refl (same_of (λ (st : State). st.settings.patterns) h)
hidden_obeyed m WindowCursor v h = hidden_topped _ _ (same_of centred h) h
hidden_obeyed m (Pattern c at) v h = hidden_kind h (same_of (λ (st : State). st.settings.kind) h) (same_of (λ (st : State). put ((c - 224) * 8) (list_from m at 8) st.settings.patterns) h)
hidden_obeyed m (Repeat n) v h = hidden_keys h (same_of (λ (st : State). let k = st.settings.keys in repeat_with k n k.delay k.interval k.shift k.arrows) h)
hidden_obeyed m (RepeatDelay n) v h = hidden_keys h (same_of (λ (st : State). let k = st.settings.keys in repeat_with k k.repeat n k.interval k.shift k.arrows) h)
hidden_obeyed m (RepeatInterval n) v h = hidden_keys h (same_of (λ (st : State). let k = st.settings.keys in repeat_with k k.repeat k.delay n k.shift k.arrows) h)
hidden_obeyed m (Arrows1 c1 c2 c3 c4) v h = hidden_arrows 0 (c1 ∷ c2 ∷ c3 ∷ c4 ∷ []) h
hidden_obeyed m (Arrows2 c1 c2 c3 c4) v h = hidden_arrows 1 (c1 ∷ c2 ∷ c3 ∷ c4 ∷ []) h
hidden_obeyed m (Arrows3 c1 c2 c3 c4) v h = hidden_arrows 2 (c1 ∷ c2 ∷ c3 ∷ c4 ∷ []) h
hidden_obeyed m Nothing v h = h
hidden_obeyed m (Shift n) v h = hidden_keys h (same_of (λ (st : State). let k = st.settings.keys in repeat_with k k.repeat k.delay k.interval n k.arrows) h)

-- an item, with the same bytes; what is idle in a mode is idle on both sides
pub hidden_item : (m : ℕ → ℕ) (i : Item) {a b : State} → reveals i ≡ false → Hidden a b → Hidden (apply_item m i a) (apply_item m i b)
unfolding apply_item
hidden_item m (Printed c) v h = hidden_printed c c h
hidden_item m (Control c) v h = hidden_control c h
hidden_item m (Sequence q) v h = cond₂ Hidden _ _ _ _ _ _ (same_of (λ (x : State). idle? x.settings.mode (code_of q)) h) (λ e. h) (λ e. hidden_obeyed m q v h)
hidden_item m (Refused x p) v h = h

-- a line that is left, and a key's text: as many codes as before, whatever they are
pub hidden_lined : {a b : State} (w : List ℕ) (n : ℕ) → Hidden a b → Hidden (lined w n a) (lined w n b)
unfolding lined with_settings
hidden_lined w n h = record { same = λ i. bare (lined w n (h.same i)); on = h.on }

long_put : (from : ℕ) (ys xs : List ℕ) → length (put from ys xs) ≡ min from (length xs) + (length ys + (length xs - (from + length ys)))
unfolding put on_part
long_put from ys xs = simp (length-append, length-take, length-drop) (omega arith)

long_texts : {a b : State} → Hidden a b → length a.settings.texts ≡ length b.settings.texts
unfolding blanked
long_texts {a} {b} h =
    sym (length-replicate {A = ℕ} (length a.settings.texts) 32) ∙ same_of (λ (x : State). length x.settings.texts) h ∙ length-replicate {A = ℕ} (length b.settings.texts) 32

pub hidden_texted : {a b : State} (k : ℕ) (x y : List ℕ) → length x ≡ length y → Hidden a b → Hidden (texted k x a) (texted k y b)
unfolding texted with_settings blanked
hidden_texted {a} {b} k x y e h =
    let n : ℕ = (k - 1) * 8 in
    let t : length a.settings.texts ≡ length b.settings.texts = long_texts h in
    let l : length (put n x a.settings.texts) ≡ length (put n y b.settings.texts) = long_put n x a.settings.texts ∙ (λ i. min n (t i) + (e i + (t i - (n + e i)))) ∙ sym (long_put n y b.settings.texts) in
    record { same = λ i. state (with_texts (h.same i).settings (replicate (l i) 32)) [] [] (h.same i).dots; on = h.on }

-- soundness asks how many codes there are, and no code
sound_shared : (s : Settings) → sound? (shared s) ≡ sound? s
unfolding sound? array_ranges blanked inside? second? marks? plain_ranges lines_of columns_of place_of screens text_rows height mark_of
sound_shared s =
    let others : ℕ → Bool = λ n. in_ranges? (range 2 (length s.places) 2 ∷ range 3 (length s.keys.leds) 3 ∷ range 12 (length s.keys.arrows) 12 ∷ range 248 (length s.patterns) 248 ∷ range 12 (length s.waiting) 12 ∷ range 80 n 80 ∷ range 2 (length s.marks) 2 ∷ []) in
    ap (λ (n : ℕ). others n && (in_ranges? (shape_ranges s.mode s.lines1 s.lines2 s.columns1 s.columns2)
    && (in_ranges? (other_ranges (screens s) s.selected s.step (height s)) && (in_ranges? (plain_ranges s)
    && (inside? s 0 && (second? s && (line? s.waiting s.held s.count && (marks? s 0 && marks? s 1)))))))) (length-replicate {A = ℕ} (length s.texts) 32)

pub same_sound : {a b : State} → Hidden a b → sound? a.settings ≡ sound? b.settings
same_sound {a} {b} h = sym (sound_shared a.settings) ∙ same_of (λ (x : State). sound? x.settings) h ∙ sound_shared b.settings

-- in secret mode every place shows 32
blank-place : (a : State) → a.settings.secret ≡ 1 → (p : ℕ) → picture a p ≡ 32
unfolding picture picture_at
blank-place a on p = elim_at (λ (x : ℕ). x ≡ 32) (eqb a.settings.secret 1) _ _ (λ e. refl) (λ e. absurd (differ (sym (eq-eqb _ 1 on) ∙ e)))

pub same_picture : {a b : State} → Hidden a b → picture a ≡ picture b
same_picture {a} {b} h = λ i p. (blank-place a h.on p ∙ sym (blank-place b (sym (same_of (λ (x : State). x.settings.secret) h) ∙ h.on) p)) i

-- a copy is of the picture; P11: in mode 3 of the dots
pub same_copied : {a b : State} → Hidden a b → copied a ≡ copied b
unfolding copied picture_copy dot_copy
same_copied h =
    cond₂ ◌≡◌ _ _ _ _ _ _ (same_of (λ (x : State). eqb x.settings.mode 3) h) (λ e. same_of dot_copy h) (λ e. λ i. copied_rows (same_picture h i) 0 8)

-- and what parameters are judged by
pub same_limits : {a b : State} → Hidden a b → limits_of a.settings ≡ limits_of b.settings
unfolding lines_of columns_of place_of height text_rows
same_limits h = same_of (λ (x : State). limits_of x.settings) h
