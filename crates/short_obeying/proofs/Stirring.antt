-- Whether an item that prints no character is wide: by its kind, by a lift, or by the window's top. One that stays on the selected screen has moved the top there
-- already; one that does not, and is not wide by its kind, leaves it.
use mathlib.Core.Path.{◌∙◌, ◌≡◌, ap, refl, sym}
use Prim.Native.Nat.{ℕ}
use mathlib.Core.Bool.{Bool, ◌&&◌, ◌||◌, false, not, true}
use mathlib.Core.List.{List}
use lib.ListN.{length}
use lib.Dec.{eqb, ltb}
use borrow.Author.Tests.{not-false, not-true}
use Rattle.model.specs.declared.Item.{Item}
use Rattle.model.specs.declared.Item.TheVariants.{Control, Printed, Refused, Sequence}
use Rattle.model.specs.declared.Place.{Place}
use Rattle.model.specs.declared.Sequence.{Sequence as Seq}
use Rattle.model.specs.declared.Settings.{Settings}
use Rattle.model.specs.State.{State, state}
use Rattle.model.specs.Checks.{member}
use Rattle.model.specs.Screens.{here, place_of}
use Rattle.model.specs.Sequences.{code_of, idle?}
use Rattle.model.specs.Rules.{apply_item, obeyed, with_dots}
use Rattle.model.specs.OnScreen.{stays_on_screen?}
use Rattle.calls.specs.Repaint.{calm?, lifts?, lowest?, print_lifts?, wide_codes}
use Rattle.model.proofs.Tests.{cond_at, differ}
use Rattle.ground.specs.declared.Frame.{Frame}
use Rattle.ground.specs.Frame.{Framed}
use Rattle.ground.specs.Acts.{Reads}
use Rattle.ground.proofs.Acting.{placed-there}
use Rattle.obeying.specs.Obeying.{Moves, printed?}
use Rattle.runs.specs.declared.Run.{Run}
use Rattle.short_obeying.specs.Watches.{SeesItem, none, printing?, wide_item}
use Rattle.short_obeying.proofs.Kept.{calm_top}

not-not : (b : Bool) → not (not b) ≡ b
not-not true = refl
not-not false = refl

module _ {f : Frame} {p : Place} where
  pub control_stirs : (c : ℕ) {low : Bool} → low ≡ not (ltb p.line f.lines) → Reads (λ st. not (calm? (Control c)) || lifts? (Control c) st) f p (eqb c 12 || (eqb c 10 && low))
  unfolding calm? lifts? lowest?
  control_stirs c e st h o = λ i. not-not (eqb c 12) i || (eqb c 10 && ((λ j. not (ltb (o j).line (sym h.lines_are j))) ∙ sym e) i)

  pub sequence_stirs : (q : Seq) {b : Bool} → printing? (Sequence q) ≡ false → b ≡ member (code_of q) wide_codes → Reads (λ st. not (calm? (Sequence q)) || lifts? (Sequence q) st) f p b
  unfolding calm? lifts?
  sequence_stirs q n e st h o = (λ i. not-not (sym e i) i || (n i && print_lifts? st)) ∙ whole _
    where
      whole : (b : Bool) → (b || false) ≡ b
      whole true = refl
      whole false = refl

-- an item that prints no character is no printed byte
pub no_byte : (i : Item) → printing? i ≡ false → printed? i ≡ false
no_byte (Printed c) h = h
no_byte (Control c) h = refl
no_byte (Sequence q) h = refl
no_byte (Refused n p) h = refl

-- one that does not stay, and is not wide by its kind, leaves the window's top
away_top : (n : ℕ → ℕ) (i : Item) (st : State) → stays_on_screen? i ≡ false → calm? i ≡ true → (here (apply_item n i st)).top ≡ (here st).top
unfolding apply_item calm?
away_top n (Printed c) st h k = absurd (differ h)
away_top n (Control c) st h k = absurd (differ h)
away_top n (Sequence q) st h k = cond_at (λ (x : State). (here x).top ≡ (here st).top) (idle? st.settings.mode (code_of q)) st (obeyed n q st) (λ e. refl) (λ e. calm_top n q st (not-true (member (code_of q) wide_codes) k) h)
away_top n (Refused k p) st h _ = refl

joined : (a b z z' : Bool) → (a ≡ false → b ≡ false → z ≡ z') → ((a || b) || z) ≡ (a || (b || z'))
joined true b z z' e = refl
joined false true z z' e = refl
joined false false z z' e = e refl refl

module _ {m : List ℕ} {at size : ℕ} {i : Item} {f : Frame} {p : Place} {r : Run} {cells layer marks cells' layer' marks' : List ℕ} (d : Moves m at size i f p r cells layer marks cells' layer' marks') (plain : printing? i ≡ false) where
  -- the top, by what the item did on the selected screen
  same_top : (n : ℕ → ℕ) (s : Settings) (dots : List ℕ) → Framed s f → place_of s s.selected ≡ p → s.marks ≡ marks → not (calm? i) ≡ false → let st = state s cells layer dots in r.place.top ≡ (here (apply_item n i st)).top
  unfolding with_dots place_of
  same_top n s dots e h k calm = go (stays_on_screen? i) refl
    where
      go : (b : Bool) → stays_on_screen? i ≡ b → r.place.top ≡ (here (apply_item n i (state s cells layer dots))).top
      go true u = sym (ap (λ (x : State). (here x).top) ((d.acts (no_byte i plain) u n).does s dots e h k) ∙ ap (λ (x : Place). x.top) (placed-there r.place e))
      go false u = ap (λ (x : Place). x.top) (d.rests u).0 ∙ sym (ap (λ (x : Place). x.top) h) ∙ sym (away_top n i (state s cells layer dots) u (not-false (calm? i) calm))

  pub sees_other : {b : Bool} → Reads (λ st. not (calm? i) || lifts? i st) f p b → (secret : ℕ) (shown : List ℕ) → length shown ≡ 640 → SeesItem i f p secret (b || not (eqb r.place.top p.top)) cells layer marks shown shown
  unfolding wide_item
  sees_other {b} w secret shown size = record {
    wide_is = λ n s dots e h k.
        let st : State = state s cells layer dots in
        ap (λ (x : Bool). x || not (eqb r.place.top p.top)) (sym (w st e h))
        ∙ joined (not (calm? i)) (lifts? i st) (not (eqb r.place.top p.top)) (not (eqb (here (apply_item n i st)).top (here st).top))
        (λ calm u. λ j. not (eqb (same_top n s dots e h k calm j) (sym (ap (λ (x : Place). x.top) h) j)));
    inks = none plain refl;
    size = size;
  }
