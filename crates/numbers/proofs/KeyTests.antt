-- A key call's number by its two tests.
use mathlib.Core.Path.{◌≡◌}
use Prim.Native.Nat.{ℕ}
use mathlib.Core.Bool.{Bool}
use mathlib.Core.List.{List, [], ◌∷◌}
use Rattle.model.specs.declared.Settings.{Settings}
use Rattle.model.specs.Sound.{sound?}
use Rattle.calls.specs.Calls.{first_of, key_text, reason, reasons, sound_in, terminal}
use Rattle.model.specs.Keyable.{keyable}

module _ (k : ℕ) (x : List ℕ) (s : Settings) where
  -- its number, which looks at no store
  abbrev number_here : ℕ
  number_here = first_of (reasons (terminal s [] [] [] []) (key_text k x))

  -- by its two tests
  pub keyed_number : (a b : Bool) → sound? s ≡ a → keyable k x ≡ b → number_here ≡ first_of (reason 3 a ∷ reason 17 b ∷ [])
  unfolding reasons sound_in
  keyed_number a b p q = λ i. first_of (reason 3 (p i) ∷ reason 17 (q i) ∷ [])
