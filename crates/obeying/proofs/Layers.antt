-- What is known of the layer after an item is so.
use mathlib.Core.Path.{◌∙◌, ◌≡◌, ap, refl, subst, sym}
use Prim.Native.Nat.{ℕ}
use mathlib.Core.Bool.{Bool, ◌||◌, cond, false, not, true}
use mathlib.Core.List.{List, [], ◌∷◌}
use lib.ListN.{replicate}
use lib.Dec.{eqb}
use borrow.Author.Tests.{eqb-true}
use denote.Enum.Declared.{tag_of}
use types.Run.{OneOf, miss}
use Rattle.model.specs.declared.Item.{Item}
use Rattle.model.specs.declared.Item.TheVariants.{Control, Printed, Refused, Sequence}
use Rattle.model.specs.declared.Sequence.{Sequence as Seq}
use Rattle.model.specs.declared.Sequence.TheVariants.{PrintCode, Clear, CursorOff, CursorOn, Put, Charset, Copy, EraseLine, EraseRest, SecretOn, SecretOff, LinesUp, LinesDown, Step, Tracking, WindowUp, WindowDown, InsOn, InsOff, CapsOn, CapsOff, NumOn, NumOff, StringsOff, StringsOn, DrawLine, DrawDot, Mode0, Mode1, Mode2, Mode3, Select, Cover, Display, WindowTop, WindowBottom, CursorKind, WindowCursor, Pattern, Repeat, RepeatDelay, RepeatInterval, Arrows1, Arrows2, Arrows3, Nothing, Shift}
use Rattle.model.specs.Checks.{member}
use Rattle.model.specs.Sequences.{code_of, drawing, idle?, idle_there}
use Rattle.model.specs.State.{State}
use Rattle.model.specs.OnScreen.{on_screen?, stays_on_screen?}
use Rattle.model.specs.Rules.{apply_item, blank_from, cleared, control, emptied, erased, flagged, key_line, mode_set, obeyed, on_lines, placed, remarked, shifted, with_dots, with_keys, with_kind_patterns, with_layer, with_settings}
use Rattle.model.specs.contracts.Item.{the_type as item-type}
use Rattle.model.specs.contracts.Sequence.{the_type}
use Rattle.model.proofs.Cases.{none_passes}
use Rattle.model.proofs.Tests.{by_test, cond_at, differ, or_false}
use Rattle.screen.proofs.Sequences.{never_idle}
use Rattle.obeying.specs.Obeying.{bare_then, emptying}

-- the variants, by their position, that `bare_then` leaves to its last arm
abbrev others : List ℕ
others = 0 ∷ 2 ∷ 3 ∷ 4 ∷ 5 ∷ 6 ∷ 9 ∷ 10 ∷ 13 ∷ 14 ∷ 15 ∷ 16 ∷ 17 ∷ 18 ∷ 19 ∷ 20 ∷ 21 ∷ 22 ∷ 23 ∷ 24 ∷ 25 ∷ 26 ∷ 33 ∷ 34 ∷ 35 ∷ 36 ∷ 37 ∷ 38 ∷ 39 ∷ 40 ∷ 41 ∷ 42 ∷ 43 ∷ 44 ∷ 45 ∷ 46 ∷ []

-- they neither mark the layer nor empty it
pub bare_rest : (mode : ℕ) (q : Seq) (b : Bool) → OneOf others (tag_of the_type q) → b ≡ bare_then mode (Sequence q) b
unfolding member
bare_rest mode q b o =
    let k = or_false (eqb (code_of q) 210) (member (code_of q) emptying) (none_passes (λ n. eqb n 210 || member n emptying) others q refl o) in
    cond_at (λ (x : Bool). b ≡ x) (idle? mode (code_of q)) b _ (λ e. refl) (λ e. sym (ap (λ (x : Bool). cond x false (member (code_of q) emptying || b)) k.0 ∙ ap (λ (x : Bool). x || b) k.1))

-- an arm for one that is idle in no mode, and 209's
pub bare_awake : (mode : ℕ) (b x : Bool) (c : ℕ) → member c idle_there ≡ false → member c drawing ≡ false → x ≡ cond (idle? mode c) b x
bare_awake mode b x c h k = sym (ap (λ (t : Bool). cond t b x) (never_idle c h k mode))

pub bare_select : (mode : ℕ) (b : Bool) → (not (eqb mode 3) || b) ≡ cond (idle? mode 209) b true
unfolding idle? member
bare_select mode b = by_test (λ (t : Bool). (not t || b) ≡ cond (cond t true false) b true) (eqb mode 3) refl refl

-- nor does a printed byte that moves no window, nor a refusal
pub bare_other : (mode : ℕ) (i : Item) (b : Bool) → OneOf (0 ∷ 3 ∷ []) (tag_of item-type i) → b ≡ bare_then mode i b
bare_other mode (Printed c) b z = refl
bare_other mode (Control c) b z = absurd (miss (0 ∷ 3 ∷ []) 1 tt z)
bare_other mode (Sequence q) b z = absurd (miss (0 ∷ 3 ∷ []) 2 tt z)
bare_other mode (Refused n p) b z = refl

abbrev empty : List ℕ
empty = replicate 1280 0

-- where a sequence that is not idle is known to leave the layer empty, it does: it empties it; or it leaves it, as one of the settings; or, as one of the
-- selected screen, under a frame that says so
left : (q : Seq) (b : Bool) (m : ℕ → ℕ) (st : State) → cond (eqb (code_of q) 210) false (member (code_of q) emptying || b) ≡ true → (b ≡ true → (on_screen? q ≡ false → st.layer ≡ empty) × (on_screen? q ≡ true → (obeyed m q st).layer ≡ empty))
    → (obeyed m q st).layer ≡ empty
unfolding on_screen? member obeyed cleared with_dots placed remarked erased shifted on_lines blank_from emptied with_layer mode_set flagged key_line with_keys with_kind_patterns with_settings
left (PrintCode a) bare m st z y = (y z).1 refl
left Clear bare m st z y = refl
left CursorOff bare m st z y = (y z).0 refl
left CursorOn bare m st z y = (y z).0 refl
left (Put a b) bare m st z y = (y z).1 refl
left (Charset a) bare m st z y = (y z).0 refl
left Copy bare m st z y = (y z).0 refl
left EraseLine bare m st z y = refl
left EraseRest bare m st z y = refl
left SecretOn bare m st z y = (y z).0 refl
left SecretOff bare m st z y = (y z).0 refl
left (LinesUp a b) bare m st z y = refl
left (LinesDown a b) bare m st z y = refl
left (Step a) bare m st z y = (y z).0 refl
left (Tracking a) bare m st z y = (y z).0 refl
left WindowUp bare m st z y = (y z).1 refl
left WindowDown bare m st z y = (y z).1 refl
left InsOn bare m st z y = (y z).0 refl
left InsOff bare m st z y = (y z).0 refl
left CapsOn bare m st z y = (y z).0 refl
left CapsOff bare m st z y = (y z).0 refl
left NumOn bare m st z y = (y z).0 refl
left NumOff bare m st z y = (y z).0 refl
left StringsOff bare m st z y = (y z).0 refl
left StringsOn bare m st z y = (y z).0 refl
left (DrawLine a b c d e f g h i j k) bare m st z y = (y z).0 refl
left (DrawDot a b c d) bare m st z y = (y z).0 refl
left (Mode0 a b) bare m st z y = refl
left (Mode1 a) bare m st z y = refl
left (Mode2 a b c) bare m st z y = refl
left Mode3 bare m st z y = refl
left (Select a) bare m st z y = refl
left (Cover a b c) bare m st z y = absurd (differ (sym z))
left (Display a) bare m st z y = cond_at (λ (r : State). r.layer ≡ empty) (eqb a st.settings.display) st _ (λ e. (y z).0 refl) (λ e. refl)
left WindowTop bare m st z y = (y z).1 refl
left WindowBottom bare m st z y = (y z).1 refl
left (CursorKind a) bare m st z y = (y z).0 refl
left WindowCursor bare m st z y = (y z).1 refl
left (Pattern a b) bare m st z y = (y z).0 refl
left (Repeat a) bare m st z y = (y z).0 refl
left (RepeatDelay a) bare m st z y = (y z).0 refl
left (RepeatInterval a) bare m st z y = (y z).0 refl
left (Arrows1 a b c d) bare m st z y = (y z).0 refl
left (Arrows2 a b c d) bare m st z y = (y z).0 refl
left (Arrows3 a b c d) bare m st z y = (y z).0 refl
left Nothing bare m st z y = (y z).0 refl
left (Shift a) bare m st z y = (y z).0 refl

-- the same of any item
pub bare_left : (i : Item) (b : Bool) (m : ℕ → ℕ) (st : State) → bare_then st.settings.mode i b ≡ true → (b ≡ true → (stays_on_screen? i ≡ false → st.layer ≡ empty) × (stays_on_screen? i ≡ true → (apply_item m i st).layer ≡ empty))
    → (apply_item m i st).layer ≡ empty
unfolding apply_item control cleared with_dots placed remarked with_settings on_lines emptied with_layer
bare_left (Printed c) b m st e h = (h e).1 refl
bare_left (Control c) b m st e h = go (eqb c 12) refl e
  where
    -- code 12 as 42
    cleared_by : (n : ℕ) → n ≡ 12 → (control n st).layer ≡ empty
    cleared_by n k = subst (λ (n : ℕ). (control n st).layer ≡ empty) (sym k) refl

    go : (t : Bool) → eqb c 12 ≡ t → (t || b) ≡ true → (control c st).layer ≡ empty
    go true k u = cleared_by c (eqb-true c 12 k)
    go false k u = (h u).1 refl
bare_left (Sequence q) b m st e h = go (idle? st.settings.mode (code_of q)) e (λ t. (h t).0) (λ t. (h t).1)
  where
    go : (x : Bool) → cond x b (cond (eqb (code_of q) 210) false (member (code_of q) emptying || b)) ≡ true → (b ≡ true → on_screen? q ≡ false → st.layer ≡ empty) → (b ≡ true → on_screen? q ≡ true → (cond x st (obeyed m q st)).layer ≡ empty) → (cond x st (obeyed m q st)).layer ≡ empty
    go true e f g = by_test (λ (t : Bool). (t ≡ false → st.layer ≡ empty) → (t ≡ true → st.layer ≡ empty) → st.layer ≡ empty) (on_screen? q) (λ off on. on refl) (λ off on. off refl) (f e) (g e)
    go false e f g = left q b m st e (λ t. (f t, g t))
bare_left (Refused n p) b m st e h = (h e).0 refl
