-- P5: other marks of the selected screen. Each is what it is said to be and the other screen's stay, in any settings that have the marks of two screens
-- and one of these selected; and sound marks keep the state good.
use mathlib.Core.Path.{◌∙◌, ◌≡◌, ap, refl}
use Prim.Native.Nat.{◌+◌, ◌-◌, ◌<◌, ◌^◌, ◌≤◌, ℕ}
use native.Mathlib.Omega.{arith}
use native.Mathlib.Decide.{ℕ_discrete}
use mathlib.Core.Bool.{◌&&◌, ◌||◌, cond}
use mathlib.Core.List.{List}
use lib.ListN.{get_or, length, length-set, set}
use lib.Seq.{get_or-set_other, get_or-set_same}
use lib.Dec.{eqb, leb, ltb}
use Rattle.model.specs.State.{State}
use Rattle.model.specs.Screens.{base, columns_of, height, lines_here, lines_of, place_of, size, text_rows, screens}
use Rattle.model.specs.Marks.{Marked, end_unmarked, mark_in, mark_of, marks_down, marks_of, marks_up, numbered, running_on, unmarked_from}
use Rattle.model.specs.Sound.{Good, array_ranges, key_ranges, plain_ranges}
use Rattle.model.specs.Rules.{marks_here, remarked, with_settings}
use Rattle.model.proofs.Tests.{cond_at}
use Rattle.model.proofs.Numbering.{number_known, number_mark}
use Rattle.model.proofs.MarkLaws.{Above, above_marked}
use Rattle.model.proofs.Keep.{Kept, chosen}

pub marks_two : (a : State) → Good a → length a.settings.marks ≡ 2
unfolding array_ranges
marks_two a g = omega (arith, g.sound.arrays.1.1.1.1.1.1.0)

-- what the rules make of marks that are 0 or 1 are such
module _ (m : ℕ → ℕ) (b : (l : ℕ) → m l < 2) where
  pub bits_running : (line l : ℕ) → running_on line m l < 2
  unfolding running_on
  bits_running line l = cond_at (λ (x : ℕ). x < 2) (eqb l line) 1 (m l) (λ e. omega arith) (λ e. b l)

  pub bits_unmarked : (from to l : ℕ) → unmarked_from from to m l < 2
  unfolding unmarked_from
  bits_unmarked from to l = cond_at (λ (x : ℕ). x < 2) (leb from l && leb l to) 0 (m l) (λ e. omega arith) (λ e. b l)

  pub bits_up : (a n l : ℕ) → marks_up a n m l < 2
  unfolding marks_up
  bits_up a n l = cond_at (λ (x : ℕ). x < 2) (ltb a l && leb l (a + n)) _ (m l) (λ e. cond_at (λ (x : ℕ). x < 2) (ltb l (a + n)) (m (l + 1)) 0 (λ f. b (l + 1)) (λ f. omega arith)) (λ e. b l)

  pub bits_down : (a n l : ℕ) → marks_down a n m l < 2
  unfolding marks_down
  bits_down a n l = cond_at (λ (x : ℕ). x < 2) (ltb a l && leb l (a + n)) _ (m l) (λ e. cond_at (λ (x : ℕ). x < 2) (ltb (a + 1) l) (m (l - 1)) 0 (λ f. b (l - 1)) (λ f. omega arith)) (λ e. b l)

  pub bits_ends : (a n l : ℕ) → end_unmarked a n m l < 2
  unfolding end_unmarked
  bits_ends a n l = cond_at (λ (x : ℕ). x < 2) (eqb l a || eqb l (a + n - 1) || eqb l (a + n)) 0 (m l) (λ e. omega arith) (λ e. b l)

pub bits_here : (a : State) (l : ℕ) → marks_here a l < 2
unfolding mark_of
bits_here a l = omega arith

module _ (f : (ℕ → ℕ) → ℕ → ℕ) (a : State) (two : length a.settings.marks ≡ 2) (one_of_two : a.settings.selected < 2) where
  abbrev new : ℕ
  new = numbered (f (marks_here a)) 1 64

  marks_are : (remarked f a).settings.marks ≡ set a.settings.marks a.settings.selected new
  unfolding remarked with_settings
  marks_are = refl

  -- the number of the selected screen, and each of its marks
  pub number_here_lem : marks_of (remarked f a).settings a.settings.selected ≡ new
  number_here_lem = ap (λ (xs : List ℕ). get_or xs a.settings.selected 0) marks_are ∙ get_or-set_same a.settings.marks a.settings.selected new 0 (omega (arith, two, one_of_two))

  pub mark_at : ((l : ℕ) → 1 ≤ l → f (marks_here a) l < 2) → (l : ℕ) → 1 ≤ l → l ≤ 48 → mark_of (remarked f a).settings a.settings.selected l ≡ f (marks_here a) l
  unfolding mark_of
  mark_at b l p q = ap (λ (n : ℕ). mark_in n l) number_here_lem ∙ number_mark (f (marks_here a)) 64 l b p (omega arith)

  -- the marks of the other
  pub marks_other : (k : ℕ) → (k ≡ a.settings.selected → ⊥) → marks_of (remarked f a).settings k ≡ marks_of a.settings k
  marks_other k n = ap (λ (xs : List ℕ). get_or xs k 0) marks_are ∙ get_or-set_other a.settings.marks a.settings.selected k new 0 (λ e. n (omega (arith, e)))

  pub length-remarked : length (remarked f a).settings.marks ≡ length a.settings.marks
  length-remarked = ap length marks_are ∙ length-set a.settings.marks a.settings.selected new

  -- for the code: a number of 64 bits that has f's marks is this one
  pub marks_by : (x : ℕ) → x < 2 ^ 64 → ((l : ℕ) → 1 ≤ l → l ≤ 64 → mark_in x l ≡ f (marks_here a) l) → (remarked f a).settings.marks ≡ set a.settings.marks a.settings.selected x
  marks_by x h b = marks_are ∙ ap (set a.settings.marks a.settings.selected) (number_known (f (marks_here a)) 64 x h b)

module _ (f : (ℕ → ℕ) → ℕ → ℕ) (a : State) (g : Good a) where
  pub mark_here : ((l : ℕ) → f (marks_here a) l < 2) → (l : ℕ) → 1 ≤ l → l ≤ 48 → mark_of (remarked f a).settings a.settings.selected l ≡ f (marks_here a) l
  mark_here b = mark_at f a (marks_two a g) (chosen a.settings g.sound) (λ l p. b l)

  pub kept_remarked : Above (lines_here a) (f (marks_here a)) → Kept a (remarked f a)
  unfolding remarked with_settings plain_ranges key_ranges array_ranges lines_of columns_of height text_rows place_of base size screens
  kept_remarked h = record {
    good = record {
      sound = record {
        arrays = rw (length-remarked f a (marks_two a g) (chosen a.settings g.sound)) g.sound.arrays;
        shaped = g.sound.shaped;
        selected = g.sound.selected;
        inside = g.sound.inside;
        step_low = g.sound.step_low;
        step_high = g.sound.step_high;
        plain = g.sound.plain;
        line = g.sound.line;
        marked = λ k l. all k l (ℕ_discrete k a.settings.selected);
        alone = g.sound.alone;
      };
      cells_are = g.cells_are;
      layer_are = g.layer_are;
      dots_are = g.dots_are;
    };
    same_selected = refl;
    same_shape = λ k. (refl, refl);
    same_tracking = refl;
    other = λ k l n. record { same_base = refl; same_lines = refl; same_columns = refl; same_height = refl; same_place = refl; same_cells = refl; same_marks = marks_other f a (marks_two a g) (chosen a.settings g.sound) k n };
  }
    where
      all : (k : ℕ) → k < 2 → Dec (k ≡ a.settings.selected) → Marked (lines_of (remarked f a).settings k) (marks_of (remarked f a).settings k)
      all k l (yes e) = rw e (rw (number_here_lem f a (marks_two a g) (chosen a.settings g.sound)) (above_marked (lines_here a) 64 (f (marks_here a)) h))
      all k l (no n) = rw (marks_other f a (marks_two a g) (chosen a.settings g.sound) k n) (g.sound.marked k l)
