-- Laws of Acts: a function that calls others does what their rules do one after the other.
use mathlib.Core.Path.{◌∙◌, ◌≡◌, ap, refl, sym}
use Prim.Native.Nat.{ℕ}
use native.Mathlib.Omega.{arith}
use mathlib.Core.Bool.{Bool, cond, false, true}
use mathlib.Core.List.{List}
use lib.ListN.{length-set}
use lib.Seq.{get_or-set_same, set-get_or, set-set}
use Rattle.model.specs.declared.Place.{Place}
use Rattle.model.specs.declared.Settings.{Settings}
use Rattle.model.specs.State.{State, nowhere, state, with_places}
use Rattle.model.specs.Screens.{base, columns_of, height, lines_of, place_of, text_rows}
use Rattle.ground.specs.declared.Frame.{Frame}
use Rattle.ground.specs.Frame.{Framed, Ready}
use Rattle.ground.specs.Acts.{Acts, ActsAbove, Reads, with_place}

-- a frame looks at no place
pub framed_placed : {s : Settings} {f : Frame} (q : Place) → Framed s f → Framed (with_place s q) f
unfolding lines_of columns_of text_rows height base
framed_placed {s} q e = record {
  two_places = length-set s.places s.selected q ∙ e.two_places;
  selected_low = e.selected_low;
  lines_are = e.lines_are;
  columns_are = e.columns_are;
  base_is = e.base_is;
  screen_is = e.screen_is;
  rows_are = e.rows_are;
  height_is = e.height_is;
  shift_is = e.shift_is;
  step_is = e.step_is;
  tracking_is = e.tracking_is;
  rule_is = e.rule_is;
  mode_is = e.mode_is;
}

-- the place that was set
pub placed-there : {s : Settings} {f : Frame} (q : Place) → Framed s f → place_of (with_place s q) s.selected ≡ q
unfolding place_of
placed-there {s} q e = get_or-set_same s.places s.selected q nowhere (omega (arith, e.two_places, e.selected_low))

-- settings with the place that they have
pub same_place : (s : Settings) (p : Place) → place_of s s.selected ≡ p → with_place s p ≡ s
unfolding place_of
same_place s p e = ap (with_place s) (sym e) ∙ ap (with_places s) (set-get_or s.places s.selected nowhere)

-- a caller may keep the place beside the settings: what stands is the settings with that place
pub carried : {s : Settings} {rule : State → State} {f : Frame} {p r : Place} {c l c' l' : List ℕ} (ds : List ℕ) → Framed s f → Acts rule f p r c l c' l' → rule (state (with_place s p) c l ds) ≡ state (with_place s r) c' l' ds
carried {s} {p = p} {r = r} {c' = c'} {l' = l'} ds e a =
    a.does (with_place s p) ds (framed_placed p e) (placed-there p e) ∙ ap (λ (ps : List Place). state (with_places s ps) c' l' ds) (set-set s.places s.selected p r)

module _ {f : Frame} {p q : Place} {c l c₁ l₁ : List ℕ} where
  -- one rule after another
  pub then : {r : Place} {c₂ l₂ : List ℕ} {one two : State → State} → Acts one f p q c l c₁ l₁ → Acts two f q r c₁ l₁ c₂ l₂ → Acts (λ (st : State). two (one st)) f p r c l c₂ l₂
  then {two = two} a b = record { does = λ s ds e h. ap two (a.does s ds e h) ∙ carried ds e b; ready = b.ready }

  -- and one that is lent the layer alone
  pub then_above : {r : Place} {l₂ : List ℕ} {one two : State → State} → Acts one f p q c l c₁ l₁ → ActsAbove two f q r l₁ l₂ → Acts (λ (st : State). two (one st)) f p r c l c₁ l₂
  then_above a b = then a (b c₁ a.ready.cells_are)

  -- another rule that does the same there
  pub likewise : {rule other : State → State} → ((s : Settings) (ds : List ℕ) → Framed s f → place_of s s.selected ≡ p → other (state s c l ds) ≡ rule (state s c l ds)) → Acts rule f p q c l c₁ l₁ → Acts other f p q c l c₁ l₁
  likewise h a = record { does = λ s ds e k. h s ds e k ∙ a.does s ds e k; ready = a.ready }

  -- a rule at a value that is read off what stands
  pub at_value : {A : Type 0} {value : State → A} {x : A} (rule : A → State → State) → Reads value f p x → Acts (rule x) f p q c l c₁ l₁ → Acts (λ (st : State). rule (value st) st) f p q c l c₁ l₁
  at_value rule h a = likewise (λ s ds e k. ap (λ x. rule x (state s c l ds)) (h (state s c l ds) e k)) a

  -- a test that is read off what stands
  pub when_true : {test : State → Bool} {one : State → State} (two : State → State) → Reads test f p true → Acts one f p q c l c₁ l₁ → Acts (λ (st : State). cond (test st) (one st) (two st)) f p q c l c₁ l₁
  when_true {one = one} two h a = likewise (λ s ds e k. ap (λ (b : Bool). cond b (one (state s c l ds)) (two (state s c l ds))) (h (state s c l ds) e k)) a

  pub when_false : {test : State → Bool} {two : State → State} (one : State → State) → Reads test f p false → Acts two f p q c l c₁ l₁ → Acts (λ (st : State). cond (test st) (one st) (two st)) f p q c l c₁ l₁
  when_false {two = two} one h a = likewise (λ s ds e k. ap (λ (b : Bool). cond b (one (state s c l ds)) (two (state s c l ds))) (h (state s c l ds) e k)) a

module _ {f : Frame} {p : Place} {c l : List ℕ} where
  -- a rule that leaves the place
  pub stays : {rule : State → State} {c' l' : List ℕ} → Ready f p c' l' → ((s : Settings) (ds : List ℕ) → Framed s f → place_of s s.selected ≡ p → rule (state s c l ds) ≡ state s c' l' ds) → Acts rule f p p c l c' l'
  stays {c' = c'} {l' = l'} h k = record { does = λ s ds e i. k s ds e i ∙ ap (λ (s' : Settings). state s' c' l' ds) (sym (same_place s p i)); ready = h }

  -- nothing is done
  pub still : Ready f p c l → Acts (λ (st : State). st) f p p c l c l
  still h = stays h (λ s ds e k. refl)
