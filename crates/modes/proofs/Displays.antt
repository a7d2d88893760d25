-- 211: the H that another key display gives fits both screens, the settings that it leaves; and that patterns and key texts stay.
use mathlib.Core.Path.{◌∙◌, ◌≡◌, refl, sym}
use Prim.Native.Nat.{◌≤◌, min, ℕ}
use native.Mathlib.Omega.{arith}
use mathlib.Core.List.{[], ◌∷◌}
use lib.ListN.{get_or}
use lib.Dec.{eqb}
use borrow.Author.Tests.{eq-eqb, eqb-true}
use Rattle.model.specs.declared.Place.{Place}
use Rattle.model.specs.declared.Settings.{Settings}
use Rattle.model.specs.State.{State, nowhere, with_display}
use Rattle.model.specs.Screens.{height, lines_of, place_of}
use Rattle.model.specs.Sound.{Sound}
use Rattle.model.specs.Rules.{displaying, emptied, held_place, key_line, with_layer, with_settings}
use Rattle.model.proofs.Keep.{height_high, height_low, second_height, shaped_height}
use Rattle.model.proofs.Tests.{cond_at, differ}

module _ (s : Settings) (n : ℕ) {h : ℕ} (e : h ≡ height (with_display s n s.places s.step)) where
  pub fits : Sound s → (s.mode ≡ 3 → ⊥) → (1 ≤ h) × (h ≤ s.lines1) × (h ≤ s.lines2)
  fits sound two = let t : Settings = with_display s n s.places s.step in omega (arith, height_low t, height_high t, shaped_height sound.shaped, second_height sound.shaped two)

  pub displayed : {p q : Place} {k : ℕ} → p ≡ held_place s.lines1 h (get_or s.places 0 nowhere) → q ≡ held_place s.lines2 h (get_or s.places 1 nowhere) → k ≡ min s.step h
      → with_display s n (p ∷ q ∷ []) k ≡ displaying n s
  unfolding displaying lines_of place_of
  displayed p q k =
      (λ i. with_display s n (p i ∷ q i ∷ []) (k i))
      ∙ (λ i. with_display s n (held_place s.lines1 (e i) (get_or s.places 0 nowhere) ∷ held_place s.lines2 (e i) (get_or s.places 1 nowhere) ∷ []) (min s.step (e i)))

-- 211 by whether its value stands
module _ (n : ℕ) (st : State) where
  pub line_stays : n ≡ st.settings.display → st ≡ key_line n st
  unfolding key_line
  line_stays e = cond_at (λ (r : State). st ≡ r) (eqb n st.settings.display) st _ (λ t. refl) (λ f. absurd (differ (sym (eq-eqb n st.settings.display e) ∙ f)))

  pub line_changes : (n ≡ st.settings.display → ⊥) → emptied (with_settings (displaying n st.settings) st) ≡ key_line n st
  unfolding key_line
  line_changes d = cond_at (λ (r : State). emptied (with_settings (displaying n st.settings) st) ≡ r) (eqb n st.settings.display) st _ (λ t. absurd (d (eqb-true n st.settings.display t))) (λ f. refl)

  pub display_stays : ((key_line n st).settings.patterns ≡ st.settings.patterns) × ((key_line n st).settings.texts ≡ st.settings.texts)
  unfolding key_line displaying emptied with_layer with_settings
  display_stays =
      cond_at (λ (r : State). (r.settings.patterns ≡ st.settings.patterns) × (r.settings.texts ≡ st.settings.texts)) (eqb n st.settings.display) st _ (λ t. (refl, refl)) (λ f. (refl, refl))
