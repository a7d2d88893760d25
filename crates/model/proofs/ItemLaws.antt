-- Every item keeps the state good; every item but a mode setting leaves the screen that is not selected as it was, a changed 211 all but its window.
use mathlib.Core.Path.{◌∙◌, ◌≡◌, ap, refl, sym}
use Prim.Native.Nat.{◌*◌, ◌-◌, ◌<◌, ◌≤◌, suc, zero, ℕ}
use native.Mathlib.Omega.{arith}
use mathlib.Core.Bool.{Bool, cond, false, true}
use mathlib.Core.List.{List, [], ◌∷◌}
use lib.ListN.{get_or, length, length-replicate, length-set, set}
use borrow.Author.Tests.{eq-eqb}
use Rattle.model.specs.declared.Item.{Item}
use Rattle.model.specs.declared.Item.TheVariants.{Control, Printed, Refused, Sequence}
use Rattle.model.specs.declared.Sequence.{Sequence as Seq}
use Rattle.model.specs.declared.Sequence.TheVariants.{Arrows1, Arrows2, Arrows3, CapsOff, CapsOn, Charset, Clear, Copy, CursorKind, CursorOff, CursorOn, Display, DrawDot, EraseLine, EraseRest, InsOff, InsOn, DrawLine, LinesDown, LinesUp, Cover, Mode0, Mode1, Mode2, Mode3, Nothing, NumOff, NumOn, Pattern, PrintCode, Put, Repeat, RepeatDelay, RepeatInterval, SecretOff, SecretOn, Select, Shift, Step, StringsOff, StringsOn, Tracking, WindowBottom, WindowCursor, WindowDown, WindowTop, WindowUp}
use Rattle.model.specs.declared.Settings.{Settings}
use Rattle.model.specs.Bytes.{list_from, put}
use Rattle.model.specs.State.{State, put_at, with_mode, with_mode3, with_stored}
use Rattle.model.specs.Sequences.{code_of, drawing, idle?, idle_there}
use Rattle.model.specs.Checks.{InRanges, Passes, in_ranges?, member, range}
use Rattle.model.specs.Screens.{columns_here, columns_of, height, here, lines_of, place_of, screens, text_rows}
use Rattle.model.specs.Marks.{mark_of, marks_down, marks_up}
use Rattle.model.specs.Sound.{Good, Inside, Shaped, Sound, array_ranges, key_ranges, mode0, mode1, mode2, plain_ranges, alone_ranges, mode3}
use Rattle.model.specs.Judging.{legal?, legal_item?, limits_of, ranges, judged_ranges}
use Rattle.model.specs.Rules.{apply_item, centred, flagged, mode_set, obeyed, placed, with_arrows, with_keys, with_kind_patterns, with_led}
use Rattle.model.specs.Kept.{StillItem, is_mode}
use Rattle.model.proofs.Frames.{SameScreen}
use Rattle.model.proofs.Tests.{cond_at, differ, ranges-true}
use Rattle.model.proofs.ByteLaws.{length_down, length_list_from, length-put, length_up}
use Rattle.model.proofs.MarkLaws.{end_high, end_low, none_marked, sound_ends_down, sound_ends_up}
use Rattle.model.proofs.Keep.{Kept, height_high, height_low, kept_emptied, kept_flags, kept_layer, kept_refl, kept_stored_only, kept_trans, same_emptied, same_refl, same_trans, shaped_columns, shaped_height, spared, spared_refl, alone_by, both_there, screens_low, screens_most, second_columns, second_height, kept_dots}
pub use Rattle.model.proofs.DisplayLaws.{Obeyed}
use Rattle.model.proofs.DisplayLaws.{obeyed_display}
use Rattle.model.proofs.DotLaws.{length-lined, length-with_dot}
use Rattle.model.proofs.Steps.{fits, height_fits, kept_at, kept_cleared, kept_control, kept_erased, kept_held, kept_printed, kept_shifted, kept_top, kept_tracked_far, length_mark, sound_marks}

-- of what leaves the other screen as it was
pub quiet : {a b : State} {still : Type 0} → Good b → ((k : ℕ) → k < 2 → (k ≡ a.settings.selected → ⊥) → SameScreen k a b) → Obeyed a b false still
quiet g f = record { good = g; other = λ e k l n. spared (f k l n); window = λ e. f }

of_kept : {a b : State} {still : Type 0} → Kept a b → Obeyed a b false still
of_kept k = quiet k.good k.other

-- of a mode setting
anew : {a b : State} {still : Type 0} → Good b → Obeyed a b true ((true ≡ false) × still)
anew g = record { good = g; other = λ n. absurd (differ n); window = λ n. absurd (differ n.0) }

good_mode_set : (s : Settings) → Sound s → Good (mode_set s)
unfolding mode_set
good_mode_set s h = record { sound = h; cells_are = length-replicate {A = ℕ} 3840 32; layer_are = length-replicate {A = ℕ} 1280 0; dots_are = length-replicate {A = ℕ} 3840 0 }

good_flags : {still : Type 0} (a : State) → Good a → (tr st se cu : ℕ) → Passes (range 0 tr 1) → 1 ≤ st → st ≤ height a.settings → Passes (range 0 se 1) → Passes (range 0 cu 1) → Obeyed a (flagged a.settings.selected tr st se cu a) false still
good_flags a g tr st se cu p q r u v = let z = kept_flags a g a.settings.selected tr st se cu g.sound.selected p q r u v in quiet z.0 (λ k l n. z.1 k)

-- settings of a mode just set
sound_mode : (s : Settings) (m l1 l2 c1 c2 b : ℕ) → Sound s → Shaped m l1 l2 c1 c2 → (m ≡ 3 → ⊥) → Sound (with_mode s m l1 l2 c1 c2 b)
unfolding lines_of columns_of place_of plain_ranges array_ranges key_ranges mark_of
sound_mode s m l1 l2 c1 c2 b h z d = record {
  arrays = let z = h.arrays in (omega arith, (z.1.0, (z.1.1.0, (z.1.1.1.0, (z.1.1.1.1.0, (z.1.1.1.1.1.0, (omega arith, tt)))))));
  shaped = z;
  selected = omega (arith, screens_low (with_mode s m l1 l2 c1 c2 b));
  inside = all;
  step_low = omega arith;
  step_high = omega (arith, height_low (with_mode s m l1 l2 c1 c2 b));
  plain = (tracks, (omega (arith, h.plain.1.0), h.plain.1.1));
  line = h.line;
  marked = λ k. none_marked (lines_of (with_mode s m l1 l2 c1 c2 b) k) k;
  alone = alone_by m _ _ _ (λ e. absurd (d e));
}
  where
    tracks : Passes (range 0 1 1)
    tracks = omega arith

    all : (k : ℕ) → k < screens (with_mode s m l1 l2 c1 c2 b) → Inside (with_mode s m l1 l2 c1 c2 b) k
    all zero l = omega (arith, shaped_columns z, shaped_height z, height_high (with_mode s m l1 l2 c1 c2 b))
    all (suc zero) l = omega (arith, second_columns z d, second_height z d, height_high (with_mode s m l1 l2 c1 c2 b))
    all (suc (suc k)) l = absurd (omega (arith, screens_most (with_mode s m l1 l2 c1 c2 b)))

-- P11: of mode 3
sound_mode3 : (s : Settings) → Sound s → Sound (with_mode3 s)
unfolding lines_of columns_of place_of plain_ranges array_ranges key_ranges mark_of screens height text_rows alone_ranges
sound_mode3 s h = record {
  arrays = let z = h.arrays in (omega arith, (z.1.0, (z.1.1.0, (z.1.1.1.0, (z.1.1.1.1.0, (z.1.1.1.1.1.0, (omega arith, tt)))))));
  shaped = mode3 refl refl refl refl refl;
  selected = omega arith;
  inside = all;
  step_low = omega arith;
  step_high = omega arith;
  plain = let z = h.plain.1 in (flag, (omega (arith, z.0), (z.1.0, (flag, (z.1.1.1.0, (type, z.1.1.1.1.1))))));
  line = h.line;
  marked = λ k. none_marked (lines_of (with_mode3 s) k) k;
  alone = omega arith;
}
  where
    flag : Passes (range 0 1 1)
    flag = omega arith

    type : Passes (range 0 3 3)
    type = omega arith

    all : (k : ℕ) → k < 1 → Inside (with_mode3 s) k
    all zero l = omega arith
    all (suc k) l = absurd (omega arith)

keys : {a : State} → Good a → InRanges (key_ranges a.settings.kind a.settings.keys)
unfolding plain_ranges
keys g = g.sound.plain.1.1.1.1.1

-- one of three flags set
set_low : (l : List ℕ) (w i f : ℕ) → get_or l i 0 ≤ 1 → f ≤ 1 → get_or (set l w f) i 0 ≤ 1
set_low [] w i f h e = h
set_low (x ∷ xs) zero zero f h e = e
set_low (x ∷ xs) zero (suc i) f h e = h
set_low (x ∷ xs) (suc w) zero f h e = h
set_low (x ∷ xs) (suc w) (suc i) f h e = set_low xs w i f h e

leds : (w f : ℕ) (l : List ℕ) → Passes (range 0 (get_or l 0 0) 1) → Passes (range 0 (get_or l 1 0) 1) → Passes (range 0 (get_or l 2 0) 1) → f ≤ 1
    → Passes (range 0 (get_or (set l w f) 0 0) 1) × Passes (range 0 (get_or (set l w f) 1 0) 1) × Passes (range 0 (get_or (set l w f) 2 0) 1)
leds w f l a b c x = ((omega arith, set_low l w 0 f a.1 x), (omega arith, set_low l w 1 f b.1 x), (omega arith, set_low l w 2 f c.1 x))

-- an LED on or off
kept_led : (w f : ℕ) (a : State) → Good a → f ≤ 1 → Kept a (with_led w f a)
unfolding with_keys key_ranges plain_ranges array_ranges
kept_led w f a g x =
    let h = keys g in
    let l = leds w f a.settings.keys.leds h.1.0 h.1.1.0 h.1.1.1.0 x in
    kept_stored_only a g _ _ _ (search (l, h) depth 30) (simp length-set g.sound.arrays) (λ m. refl)

-- four arrow codes
kept_arrows : (w : ℕ) (cs : List ℕ) (a : State) → Good a → length cs ≡ 4 → w < 3 → Kept a (with_arrows w cs a)
unfolding with_keys key_ranges plain_ranges array_ranges
kept_arrows w cs a g e h =
    let z = g.sound.arrays in
    let l : length (put (w * 4) cs a.settings.keys.arrows) ≡ length a.settings.keys.arrows = length-put (w * 4) cs a.settings.keys.arrows (omega arith) in
    kept_stored_only a g _ _ _ (keys g) (rw l z) (λ m. refl)

flag_on : Passes (range 0 1 1)
flag_on = omega arith

flag_off : Passes (range 0 0 1)
flag_off = omega arith

-- the rows of a pattern
pattern_kept : (ms : ℕ → ℕ) (c at : ℕ) (a : State) → Good a → Passes (range 224 c 254)
    → InRanges (array_ranges (with_stored a.settings a.settings.kind a.settings.keys (put ((c - 224) * 8) (list_from ms at 8) a.settings.patterns)))
unfolding array_ranges
pattern_kept ms c at a g e =
    let h = g.sound.arrays in
    let l : length (put ((c - 224) * 8) (list_from ms at 8) a.settings.patterns) ≡ length a.settings.patterns =
    length-put ((c - 224) * 8) (list_from ms at 8) a.settings.patterns (omega (arith, length_list_from ms at 8)) in
    rw l h

-- 61: its bytes are m+31 and n+31
pub kept_put : (a : State) → Good a → (l c : ℕ) → InRanges (ranges (Put l c) (limits_of a.settings)) → Kept a (placed (put_at (l - 31) (c - 31) (here a)) a)
kept_put a g l c e = kept_at a g (l - 31) (c - 31) (omega arith) (omega arith) (omega arith) (omega arith)

-- every accepted sequence
-- a sequence that is obeyed is not idle: in mode 3 none of those
awake : (m c : ℕ) → member c idle_there ≡ true → idle? m c ≡ false → m ≡ 3 → ⊥
unfolding idle?
awake m c t e z = differ (sym t ∙ sym (ap (λ (b : Bool). cond b (member c idle_there) (member c drawing)) (eq-eqb m 3 z)) ∙ e)

obeyed_all : (ms : ℕ → ℕ) (q : Seq) (a : State) → Good a → InRanges (ranges q (limits_of a.settings)) → idle? a.settings.mode (code_of q) ≡ false → Obeyed a (obeyed ms q a) (is_mode (Sequence q)) (StillItem (Sequence q) a)
unfolding obeyed centred with_keys with_kind_patterns key_ranges plain_ranges array_ranges member
obeyed_all ms (PrintCode c) a g e d = of_kept (kept_printed a g c)
obeyed_all ms Clear a g e d = of_kept (kept_cleared a g)
obeyed_all ms CursorOff a g e d = good_flags a g _ _ _ _ g.sound.plain.0 g.sound.step_low g.sound.step_high g.sound.plain.1.0 (omega arith)
obeyed_all ms CursorOn a g e d = good_flags a g _ _ _ _ g.sound.plain.0 g.sound.step_low g.sound.step_high g.sound.plain.1.0 (omega arith)
obeyed_all ms (Put l c) a g e d =
    let k : Kept a (placed (put_at (l - 31) (c - 31) (here a)) a) = kept_put a g l c e in
    of_kept (kept_trans k (kept_tracked_far _ k.good))
obeyed_all ms (Charset n) a g e d = of_kept (kept_stored_only a g _ _ _ (search (keys g, e) depth 30) g.sound.arrays (λ m. refl))
obeyed_all ms Copy a g e d = of_kept (kept_refl a g)
obeyed_all ms EraseLine a g e d = of_kept (kept_erased a g _ (end_low _ _ _ (fits a g).line_low (fits a g).line_high) (end_high _ _ _ (fits a g).line_low (fits a g).line_high))
obeyed_all ms EraseRest a g e d = of_kept (kept_erased a g _ (fits a g).line_high (omega arith))
obeyed_all ms SecretOn a g e d = good_flags a g _ _ _ _ g.sound.plain.0 g.sound.step_low g.sound.step_high (omega arith) g.sound.plain.1.1.0
obeyed_all ms SecretOff a g e d = good_flags a g _ _ _ _ g.sound.plain.0 g.sound.step_low g.sound.step_high (omega arith) g.sound.plain.1.1.0
obeyed_all ms (LinesUp x m) a g e d = of_kept (kept_shifted a g x m _ (marks_up x m) (length_up (columns_here a)) (omega arith) (sound_ends_up _ _ (sound_marks a g) x m (omega arith)))
obeyed_all ms (LinesDown x m) a g e d = of_kept (kept_shifted a g x m _ (marks_down x m) (length_down (columns_here a)) (omega arith) (sound_ends_down _ _ (sound_marks a g) x m (omega arith)))
obeyed_all ms (Step n) a g e d = good_flags a g _ _ _ _ g.sound.plain.0 e.0.0 e.0.1 g.sound.plain.1.0 g.sound.plain.1.1.0
obeyed_all ms (Tracking n) a g e d = good_flags a g _ _ _ _ (omega arith) g.sound.step_low g.sound.step_high g.sound.plain.1.0 g.sound.plain.1.1.0
obeyed_all ms WindowUp a g e d = of_kept (kept_held a g _)
obeyed_all ms WindowDown a g e d = of_kept (kept_held a g _)
obeyed_all ms InsOn a g e d = of_kept (kept_led 0 1 a g (omega arith))
obeyed_all ms InsOff a g e d = of_kept (kept_led 0 0 a g (omega arith))
obeyed_all ms CapsOn a g e d = of_kept (kept_led 1 1 a g (omega arith))
obeyed_all ms CapsOff a g e d = of_kept (kept_led 1 0 a g (omega arith))
obeyed_all ms NumOn a g e d = of_kept (kept_led 2 1 a g (omega arith))
obeyed_all ms NumOff a g e d = of_kept (kept_led 2 0 a g (omega arith))
obeyed_all ms StringsOff a g e d = of_kept (kept_stored_only a g _ _ _ (search (keys g, flag_off) depth 30) g.sound.arrays (λ m. refl))
obeyed_all ms StringsOn a g e d = of_kept (kept_stored_only a g _ _ _ (search (keys g, flag_on) depth 30) g.sound.arrays (λ m. refl))
obeyed_all ms (DrawLine p1 p2 p3 p4 p5 p6 p7 p8 p9 p10 p11) a g e d = of_kept (kept_dots a g _ (length-lined p11 _ _ _ a.dots ∙ g.dots_are))
obeyed_all ms (DrawDot p1 p2 p3 p4) a g e d = of_kept (kept_dots a g _ (length-with_dot p1 p2 _ a.dots ∙ g.dots_are))
obeyed_all ms (Mode0 x y) a g e d = anew (good_mode_set _ (sound_mode a.settings 0 x y 80 80 a.settings.boundary g.sound (mode0 refl refl refl e.1.0 e.1.1.0.0 e.1.1.0.1) (λ n. omega (arith, n))))
obeyed_all ms (Mode1 x) a g e d = anew (good_mode_set _ (sound_mode a.settings 1 x x 39 39 a.settings.boundary g.sound (mode1 refl refl refl e.1.0.0 e.1.0.1 refl) (λ n. omega (arith, n))))
obeyed_all ms (Mode2 x m p) a g e d = anew (good_mode_set _ (sound_mode a.settings 2 x x m (79 - m) p g.sound (mode2 refl e.1.1.0.0 e.1.1.0.1 refl e.1.0.0 e.1.0.1 refl) (λ n. omega (arith, n))))
obeyed_all ms Mode3 a g e d = anew (good_mode_set _ (sound_mode3 a.settings g.sound))
obeyed_all ms (Select n) a g e d =
    let z = kept_flags a g n a.settings.tracking a.settings.step a.settings.secret a.settings.cursor (omega (arith, both_there a.settings (awake a.settings.mode 209 refl d))) g.sound.plain.0 g.sound.step_low g.sound.step_high g.sound.plain.1.0 g.sound.plain.1.1.0 in
    quiet (kept_emptied _ z.0).good (λ k l o. same_trans (z.1 k) (same_emptied k _))
obeyed_all ms (Cover r c p) a g e d = of_kept (kept_layer a g _ (length_mark _ p a.layer ∙ g.layer_are))
obeyed_all ms (Display n) a g e d = obeyed_display n a g e.0 (awake a.settings.mode 211 refl d)
obeyed_all ms WindowTop a g e d = of_kept (kept_top a g 1 (omega arith) (omega (arith, height_fits a g)))
obeyed_all ms WindowBottom a g e d = of_kept (kept_top a g _ (omega (arith, height_fits a g)) (omega (arith, height_fits a g)))
obeyed_all ms (CursorKind n) a g e d = of_kept (kept_stored_only a g _ _ _ (e.0, (keys g).1) g.sound.arrays (λ m. absurd (awake a.settings.mode 214 refl d m)))
obeyed_all ms WindowCursor a g e d = of_kept (kept_held a g _)
obeyed_all ms (Pattern c at) a g e d = of_kept (kept_stored_only a g _ _ _ (keys g) (pattern_kept ms c at a g e.0) (λ m. refl))
obeyed_all ms (Repeat n) a g e d = of_kept (kept_stored_only a g _ _ _ (search (keys g, e) depth 30) g.sound.arrays (λ m. refl))
obeyed_all ms (RepeatDelay n) a g e d = of_kept (kept_stored_only a g _ _ _ (search (keys g, e) depth 30) g.sound.arrays (λ m. refl))
obeyed_all ms (RepeatInterval n) a g e d = of_kept (kept_stored_only a g _ _ _ (search (keys g, e) depth 30) g.sound.arrays (λ m. refl))
obeyed_all ms (Arrows1 c1 c2 c3 c4) a g e d = of_kept (kept_arrows 0 _ a g refl (omega arith))
obeyed_all ms (Arrows2 c1 c2 c3 c4) a g e d = of_kept (kept_arrows 1 _ a g refl (omega arith))
obeyed_all ms (Arrows3 c1 c2 c3 c4) a g e d = of_kept (kept_arrows 2 _ a g refl (omega arith))
obeyed_all ms Nothing a g e d = of_kept (kept_refl a g)
obeyed_all ms (Shift n) a g e d = of_kept (kept_stored_only a g _ _ _ (search (keys g, e) depth 30) g.sound.arrays (λ m. refl))

pub obeyed_item : (ms : ℕ → ℕ) (i : Item) (a : State) → Good a → legal_item? i (limits_of a.settings) ≡ true → Obeyed a (apply_item ms i a) (is_mode i) (StillItem i a)
unfolding apply_item legal? judged_ranges
obeyed_item ms (Printed c) a g e = of_kept (kept_printed a g c)
obeyed_item ms (Control c) a g e = of_kept (kept_control a g c)
obeyed_item ms (Sequence q) a g e = cond_at (λ (b : State). Obeyed a b (is_mode (Sequence q)) (StillItem (Sequence q) a)) (idle? a.settings.mode (code_of q)) a (obeyed ms q a)
    (λ d. record { good = g; other = λ n k l o. spared_refl k a; window = λ n k l o. same_refl k a })
    (λ d. obeyed_all ms q a g (ranges-true (ranges q (limits_of a.settings)) (sym (ap (λ (b : Bool). in_ranges? (cond b [] (ranges q (limits_of a.settings)))) d) ∙ e)) d)
obeyed_item ms (Refused n p) a g e = of_kept (kept_refl a g)
