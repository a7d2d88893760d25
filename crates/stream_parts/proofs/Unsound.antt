-- The numbers that are told before a message call judges the settings whole: one that is not 0 is the call's own, since a line that is not sound
-- makes the settings unsound.
use mathlib.Core.Path.{◌∙◌, ◌≡◌, ap, refl, sym}
use Prim.Native.Nat.{ℕ}
use native.Mathlib.Omega.{arith}
use mathlib.Core.Bool.{Bool, ◌&&◌, and-false, false, true}
use mathlib.Core.List.{List, [], ◌∷◌}
use Rattle.model.specs.declared.Settings.{Settings}
use Rattle.model.specs.Checks.{in_ranges?}
use Rattle.model.specs.Line.{line?}
use Rattle.model.specs.Screens.{height, screens}
use Rattle.model.specs.Sound.{array_ranges, inside?, marks?, other_ranges, plain_ranges, second?, shape_ranges, sound?}
use Rattle.calls.specs.Calls.{Terminal, closing, countable, first_of, piece, reason, reasons, sendable, sized, sound_in}
use Rattle.stream_parts.specs.Parts.{closing_number, line_number}
use Rattle.stream_parts.proofs.Refusals.{closing_numbered, line_numbered}

module _ (t : Terminal) where
  abbrev s : Settings
  s = t.state.settings

  abbrev line : Bool
  line = line? s.waiting s.held s.count

  unsound : line ≡ false → sound_in t ≡ false
  unfolding sound_in sound?
  unsound e =
      ap (λ (b : Bool). in_ranges? (array_ranges s) && (in_ranges? (shape_ranges s.mode s.lines1 s.lines2 s.columns1 s.columns2)
      && (in_ranges? (other_ranges (screens s) s.selected s.step (height s)) && (in_ranges? (plain_ranges s) && (inside? s 0 && (second? s && (b && (marks? s 0 && marks? s 1)))))))) e ∙ simp and-false

  -- a piece
  pub line_refused : (m : List ℕ) → (line_number t m ≡ 0 → ⊥) → line_number t m ≡ first_of (reasons t (piece m))
  unfolding reasons first_of
  line_refused m z = go (sized t) (sendable m) line (countable s m) (sound_in t) refl refl refl refl refl
    where
      go : (a b c d e : Bool) → sized t ≡ a → sendable m ≡ b → line ≡ c → countable s m ≡ d → sound_in t ≡ e → line_number t m ≡ first_of (reasons t (piece m))
      go true true true true e p q r v w = absurd (z (line_numbered t m true true true true e p q r v w))
      go true true true false true p q r v w = line_numbered t m true true true false true p q r v w ∙ (λ i. first_of (reason 1 (sym p i) ∷ reason 2 (sym q i) ∷ reason 3 (sym w i) ∷ reason 15 (sym v i) ∷ []))
      go true true true false false p q r v w = line_numbered t m true true true false false p q r v w ∙ (λ i. first_of (reason 1 (sym p i) ∷ reason 2 (sym q i) ∷ reason 3 (sym w i) ∷ reason 15 (countable s m) ∷ []))
      go true true false d e p q r v w = line_numbered t m true true false d e p q r v w ∙ (λ i. first_of (reason 1 (sym p i) ∷ reason 2 (sym q i) ∷ reason 3 (sym (unsound r) i) ∷ reason 15 (countable s m) ∷ []))
      go true false c d e p q r v w = line_numbered t m true false c d e p q r v w ∙ (λ i. first_of (reason 1 (sym p i) ∷ reason 2 (sym q i) ∷ reason 3 (sound_in t) ∷ reason 15 (countable s m) ∷ []))
      go false b c d e p q r v w = line_numbered t m false b c d e p q r v w ∙ (λ i. first_of (reason 1 (sym p i) ∷ reason 2 (sendable m) ∷ reason 3 (sound_in t) ∷ reason 15 (countable s m) ∷ []))

  -- the closing, and its number 0
  pub closing_refused : (closing_number t ≡ 0 → ⊥) → closing_number t ≡ first_of (reasons t closing)
  unfolding reasons first_of
  closing_refused z = go (sized t) line refl refl
    where
      go : (a b : Bool) → sized t ≡ a → line ≡ b → closing_number t ≡ first_of (reasons t closing)
      go true true p q = absurd (z (closing_numbered t true true p q))
      go true false p q = closing_numbered t true false p q ∙ (λ i. first_of (reason 1 (sym p i) ∷ reason 3 (sym (unsound q) i) ∷ []))
      go false b p q = closing_numbered t false b p q ∙ (λ i. first_of (reason 1 (sym p i) ∷ reason 3 (sound_in t) ∷ []))

  pub closing_line : closing_number t ≡ 0 → line ≡ true
  closing_line e = go (sized t) line refl refl
    where
      go : (a b : Bool) → sized t ≡ a → line ≡ b → line ≡ true
      go true true p q = q
      go true false p q = absurd (omega (arith, closing_numbered t true false p q))
      go false b p q = absurd (omega (arith, closing_numbered t false b p q))
