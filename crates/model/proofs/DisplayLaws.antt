-- What an item keeps, and the key display (211): a change of it may move both windows, and nothing else of a screen.
use mathlib.Core.Path.{◌≡◌, refl}
use Prim.Native.Nat.{◌<◌, suc, zero, ℕ}
use native.Mathlib.Omega.{arith}
use mathlib.Core.Bool.{Bool, false}
use lib.ListN.{length-replicate}
use lib.Dec.{eqb}
use borrow.Author.Tests.{eqb-false}
use Rattle.model.specs.declared.Item.TheVariants.{Sequence}
use Rattle.model.specs.declared.Sequence.TheVariants.{Display}
use Rattle.model.specs.declared.Settings.{Settings}
use Rattle.model.specs.State.{State, with_display}
use Rattle.model.specs.Checks.{Passes, range}
use Rattle.model.specs.Screens.{base, columns_of, height, lines_of, place_of, screens, size, text_rows}
use Rattle.model.specs.Marks.{mark_of}
use Rattle.model.specs.Sound.{Good, Inside, Sound, array_ranges, key_ranges, plain_ranges}
use Rattle.model.specs.Rules.{displaying, emptied, key_line, with_layer, with_settings}
use Rattle.model.specs.Kept.{StillItem}
use Rattle.model.proofs.Frames.{SameScreen, Spared}
use Rattle.model.proofs.Tests.{cond_at}
use Rattle.model.proofs.Keep.{height_high, height_low, same_refl, shaped_height, spared_refl, alone_by, screens_most, second_height}

-- what an item does: the state stays good; all but a mode setting leave each cell and the cursor of the screen that is not selected as they
-- were, and what is still, all but that and a changed 211, its window too
pub record Obeyed (a b : State) (mode : Bool) (still : Type 0) : Type 0 where
  pub good : Good b
  pub other : mode ≡ false → (k : ℕ) → k < 2 → (k ≡ a.settings.selected → ⊥) → Spared k a b
  pub window : still → (k : ℕ) → k < 2 → (k ≡ a.settings.selected → ⊥) → SameScreen k a b

-- settings under another key display: both tops and the step are held
sound_display : (n : ℕ) (s : Settings) → Sound s → Passes (range 0 n 1) → (s.mode ≡ 3 → ⊥) → Sound (displaying n s)
unfolding displaying lines_of columns_of place_of plain_ranges array_ranges key_ranges height text_rows mark_of screens
sound_display n s h e d =
    let t : Settings = with_display s n s.places s.step in
    record {
      arrays = (omega arith, h.arrays.1);
      shaped = h.shaped;
      selected = h.selected;
      inside = all;
      step_low = omega (arith, h.step_low, height_low t);
      step_high = omega arith;
      plain = search (h.plain, e) depth 30;
      line = h.line;
      marked = h.marked;
      alone = alone_by _ _ _ _ (λ m. absurd (d m));
    }
  where
    all : (k : ℕ) → k < screens s → Inside (displaying n s) k
    all zero l = omega (arith, h.inside 0 l, shaped_height h.shaped, height_high (with_display s n s.places s.step))
    all (suc zero) l = omega (arith, h.inside 1 l, second_height h.shaped d, height_high (with_display s n s.places s.step))
    all (suc (suc k)) l = absurd (omega (arith, screens_most s))

-- 211: another display may move both windows, and nothing else of a screen; the one that stands moves nothing
spared_display : (n : ℕ) (a : State) (k : ℕ) → k < 2 → Spared k a (emptied (with_settings (displaying n a.settings) a))
unfolding emptied with_layer with_settings displaying lines_of columns_of place_of base size
spared_display n a zero l = record { same_base = refl; same_lines = refl; same_columns = refl; same_line = refl; same_column = refl; same_late = refl; same_cells = refl; same_marks = refl }
spared_display n a (suc zero) l = record { same_base = refl; same_lines = refl; same_columns = refl; same_line = refl; same_column = refl; same_late = refl; same_cells = refl; same_marks = refl }
spared_display n a (suc (suc k)) l = absurd (omega arith)

pub obeyed_display : (n : ℕ) (a : State) → Good a → Passes (range 0 n 1) → (a.settings.mode ≡ 3 → ⊥) → Obeyed a (key_line n a) false (StillItem (Sequence (Display n)) a)
unfolding key_line emptied with_layer with_settings displaying
obeyed_display n a g e d = cond_at (λ (b : State). Obeyed a b false (StillItem (Sequence (Display n)) a)) (eqb n a.settings.display) _ _
    (λ z. record { good = g; other = λ m k l o. spared_refl k a; window = λ m k l o. same_refl k a })
    (λ z. record {
      good = record { sound = sound_display n a.settings g.sound e d; cells_are = g.cells_are; layer_are = length-replicate {A = ℕ} 1280 0; dots_are = g.dots_are };
      other = λ m k l o. spared_display n a k l;
      window = λ m. absurd (eqb-false n a.settings.display z (m.1 n refl d));
    })
