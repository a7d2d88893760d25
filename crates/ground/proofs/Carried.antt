-- Laws of ActsWith, which speaks of the marks as well, from those of Acts.
use mathlib.Core.Path.{◌∙◌, ◌≡◌, ap, refl, subst, sym}
use Prim.Native.Nat.{ℕ}
use mathlib.Core.Bool.{Bool, cond, false, true}
use mathlib.Core.List.{List}
use lib.ListN.{length}
use lib.Seq.{set-set}
use Rattle.model.specs.declared.Place.{Place}
use Rattle.model.specs.declared.Settings.{Settings}
use Rattle.model.specs.State.{State, state, with_marks, with_places}
use Rattle.model.specs.Screens.{base, columns_of, height, lines_of, place_of, text_rows}
use Rattle.model.specs.Marks.{mark_of}
use Rattle.model.specs.Rules.{remarked, with_dots, with_settings}
use Rattle.model.proofs.Marking.{marks_by}
use Rattle.ground.specs.declared.Frame.{Frame}
use Rattle.ground.specs.Frame.{Framed, Ready}
use Rattle.ground.specs.Acts.{Acts, ActsAbove, ActsWith, Reads, except_dots, with_here}
use Rattle.ground.specs.Logical.{Remarks}
use Rattle.ground.proofs.LogicalLaws.{remarks_length}
use Rattle.ground.proofs.Acting.{framed_placed, placed-there, same_place, still}

-- a frame looks at no mark
pub framed_here : {s : Settings} {f : Frame} (p : Place) (m : List ℕ) → Framed s f → Framed (with_here s p m) f
unfolding lines_of columns_of text_rows height base
framed_here p m e = let d = framed_placed p e in record {
  two_places = d.two_places;
  selected_low = d.selected_low;
  lines_are = d.lines_are;
  columns_are = d.columns_are;
  base_is = d.base_is;
  screen_is = d.screen_is;
  rows_are = d.rows_are;
  height_is = d.height_is;
  shift_is = d.shift_is;
  step_is = d.step_is;
  tracking_is = d.tracking_is;
  rule_is = d.rule_is;
  mode_is = d.mode_is;
}

-- settings with the place and the marks that they have
pub same_here : (s : Settings) (p : Place) (m : List ℕ) → place_of s s.selected ≡ p → s.marks ≡ m → with_here s p m ≡ s
same_here s p m e k = ap (λ (x : Settings). with_marks x m) (same_place s p e) ∙ ap (with_marks s) (sym k)

-- a caller may keep the place and the marks beside the settings
pub carried_here : {s : Settings} {rule : State → State} {f : Frame} {p r : Place} {c l m c' l' m' : List ℕ} (ds : List ℕ) → Framed s f → ActsWith rule f p r c l m c' l' m'
    → rule (state (with_here s p m) c l ds) ≡ state (with_here s r m') c' l' ds
unfolding place_of
carried_here {s} {p = p} {r = r} {m = m} {c' = c'} {l' = l'} {m' = m'} ds e a =
    a.does (with_here s p m) ds (framed_here p m e) (placed-there p e) refl ∙ ap (λ (ps : List Place). state (with_marks (with_places s ps) m') c' l' ds) (set-set s.places s.selected p r)

-- what is done to the cells and the layer leaves the marks
pub unmarked_acts : {rule : State → State} {f : Frame} {p r : Place} {c l m c' l' : List ℕ} → length m ≡ 2 → Acts rule f p r c l c' l' → ActsWith rule f p r c l m c' l' m
unmarked_acts {r = r} {c' = c'} {l' = l'} n a = record { does = λ s ds e h k. a.does s ds e h ∙ ap (λ (x : List ℕ). state (with_here s r x) c' l' ds) k; ready = a.ready; marks_are = n }

module _ {f : Frame} {p q : Place} {c l m c₁ l₁ m₁ : List ℕ} where
  -- one rule after another
  pub then_with : {r : Place} {c₂ l₂ m₂ : List ℕ} {one two : State → State} → ActsWith one f p q c l m c₁ l₁ m₁ → ActsWith two f q r c₁ l₁ m₁ c₂ l₂ m₂ → ActsWith (λ (st : State). two (one st)) f p r c l m c₂ l₂ m₂
  then_with {two = two} a b = record { does = λ s ds e h k. ap two (a.does s ds e h k) ∙ carried_here ds e b; ready = b.ready; marks_are = b.marks_are }

  -- and one that is lent the layer alone
  pub then_above_with : {r : Place} {l₂ : List ℕ} {one two : State → State} → ActsWith one f p q c l m c₁ l₁ m₁ → ActsAbove two f q r l₁ l₂ → ActsWith (λ (st : State). two (one st)) f p r c l m c₁ l₂ m₁
  then_above_with a b = then_with a (unmarked_acts a.marks_are (b c₁ a.ready.cells_are))

  -- another rule that does the same there
  pub likewise_with : {rule other : State → State} → ((s : Settings) (ds : List ℕ) → Framed s f → place_of s s.selected ≡ p → s.marks ≡ m → other (state s c l ds) ≡ rule (state s c l ds))
      → ActsWith rule f p q c l m c₁ l₁ m₁ → ActsWith other f p q c l m c₁ l₁ m₁
  likewise_with h a = record { does = λ s ds e i k. h s ds e i k ∙ a.does s ds e i k; ready = a.ready; marks_are = a.marks_are }

  -- a rule at a value, and a test, that are read off what stands
  pub at_value_with : {A : Type 0} {value : State → A} {x : A} (rule : A → State → State) → Reads value f p x → ActsWith (rule x) f p q c l m c₁ l₁ m₁ → ActsWith (λ (st : State). rule (value st) st) f p q c l m c₁ l₁ m₁
  at_value_with rule h a = likewise_with (λ s ds e i k. ap (λ x. rule x (state s c l ds)) (h (state s c l ds) e i)) a

  pub when_true_with : {test : State → Bool} {one : State → State} (two : State → State) → Reads test f p true → ActsWith one f p q c l m c₁ l₁ m₁ → ActsWith (λ (st : State). cond (test st) (one st) (two st)) f p q c l m c₁ l₁ m₁
  when_true_with {one = one} two h a = likewise_with (λ s ds e i k. ap (λ (b : Bool). cond b (one (state s c l ds)) (two (state s c l ds))) (h (state s c l ds) e i)) a

  pub when_false_with : {test : State → Bool} {two : State → State} (one : State → State) → Reads test f p false → ActsWith two f p q c l m c₁ l₁ m₁ → ActsWith (λ (st : State). cond (test st) (one st) (two st)) f p q c l m c₁ l₁ m₁
  when_false_with {two = two} one h a = likewise_with (λ s ds e i k. ap (λ (b : Bool). cond b (one (state s c l ds)) (two (state s c l ds))) (h (state s c l ds) e i)) a

module _ {f : Frame} {p : Place} {c l m : List ℕ} (h : Ready f p c l) where
  pub still_with : length m ≡ 2 → ActsWith (λ (st : State). st) f p p c l m c l m
  still_with n = unmarked_acts n (still h)

  -- other marks of the screen's lines
  pub remarked_acts : {m' : List ℕ} (rule : (ℕ → ℕ) → ℕ → ℕ) → length m ≡ 2 → Remarks f.screen rule m m' → ActsWith (remarked rule) f p p c l m c l m'
  unfolding remarked with_settings mark_of
  remarked_acts {m'} rule n w = record {
    does = λ s ds e i k.
        let v : Remarks s.selected rule s.marks m' = subst (λ (x : List ℕ). Remarks s.selected rule x m') (sym k) (subst (λ (x : ℕ). Remarks x rule m m') e.screen_is w) in
        ap (λ (x : List ℕ). state (with_marks s x) c l ds) (marks_by rule (state s c l ds) (ap length k ∙ n) e.selected_low v.number v.fits v.lines ∙ sym v.stored)
        ∙ ap (λ (x : Settings). state (with_marks x m') c l ds) (sym (same_place s p i));
    ready = h;
    marks_are = remarks_length w ∙ n;
  }

-- what a rule that leaves the dots does, it does with the dots set aside too
pub dots_aside : {rule : State → State} {f : Frame} {p r : Place} {c l m c' l' m' : List ℕ} → ActsWith rule f p r c l m c' l' m' → ActsWith (except_dots rule) f p r c l m c' l' m'
unfolding with_dots
dots_aside a = record { does = λ s ds e h k. ap (with_dots ds) (a.does s ds e h k); ready = a.ready; marks_are = a.marks_are }
