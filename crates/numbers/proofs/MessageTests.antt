-- A message's number by its four tests.
use mathlib.Core.Path.{◌∙◌, ◌≡◌, ap, refl, sym}
use Prim.Native.Nat.{ℕ}
use mathlib.Core.Bool.{Bool, ◌&&◌, and-true, false, true}
use mathlib.Core.List.{List, [], ◌∷◌}
use lib.Dec.{eqb}
use Rattle.model.specs.declared.Settings.{Settings}
use Rattle.model.specs.Line.{line?}
use Rattle.model.specs.Sound.{sound?}
use Rattle.calls.specs.Calls.{Terminal, first_of, message, none_waits, reason, reasons, sendable, sized, sound_in, terminal}
use Rattle.model.proofs.Tests.{and_left, and_right}

-- the number by its four tests
abbrev pub number_by : Bool → Bool → Bool → Bool → ℕ
number_by true true true true = 0
number_by true true true false = 16
number_by true true false d = 3
number_by true false c d = 2
number_by false b c d = 1

pub numbered : (t : Terminal) (m : List ℕ) (a b c d : Bool) → sized t ≡ a → sendable m ≡ b → sound_in t ≡ c → none_waits t.state.settings ≡ d → first_of (reasons t (message m)) ≡ number_by a b c d
unfolding first_of reasons
numbered t m a b c d p q r w = (λ i. first_of (reason 1 (p i) ∷ reason 2 (q i) ∷ reason 3 (r i) ∷ reason 16 (w i) ∷ [])) ∙ same a b c d
  where
    same : (a b c d : Bool) → first_of (reason 1 a ∷ reason 2 b ∷ reason 3 c ∷ reason 16 d ∷ []) ≡ number_by a b c d
    same true true true true = refl
    same true true true false = refl
    same true true false d = refl
    same true false c d = refl
    same false b c d = refl

module _ (s : Settings) (m cells layer dots shown : List ℕ) where
  abbrev given : Terminal
  given = terminal s cells layer dots shown

  -- stores of their sizes and a message that is not too long: 3 for settings that are not sound
  module _ (p : sized given ≡ true) (q : sendable m ≡ true) where
    pub not_sound : sound? s ≡ false → 3 ≡ first_of (reasons given (message m))
    unfolding sound_in
    not_sound e = sym (numbered given m true true false _ p q e refl)

    -- where the line decides: 0 if none waits, 16 if bytes do
    module _ (e : sound? s ≡ line? s.waiting s.held s.count) where
      abbrev none : Bool
      none = eqb s.held 0

      abbrev lined : Bool
      lined = line? s.waiting s.held s.count

      pub none_wait : (none && lined) ≡ true → 0 ≡ first_of (reasons given (message m))
      unfolding sound_in none_waits
      none_wait f = sym (numbered given m true true true true p q (e ∙ and_right none lined f) (and_left none lined f))

      pub some_wait : (none && lined) ≡ false → lined ≡ true → 16 ≡ first_of (reasons given (message m))
      unfolding sound_in none_waits
      some_wait f l = sym (numbered given m true true true false p q (e ∙ l) (sym (and-true none) ∙ ap (λ (t : Bool). none && t) (sym l) ∙ f))
