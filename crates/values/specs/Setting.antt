-- What a sequence that only sets something leaves: what the rules make of it, in the settings alone.
use Rattle.std.specs.Prelude.{◌≡◌, true, false, cond, List, [], ◌∷◌, ℕ, get_or}
use Rattle.model.specs.declared.Settings.{Settings}
use Rattle.model.specs.declared.Sequence.{Sequence as Seq}
use Rattle.model.specs.State.{State, state}
use Rattle.model.specs.Checks.{member}
use Rattle.model.specs.Sequences.{code_of}
use Rattle.model.specs.Rules.{obeyed}
use Rattle.model.specs.OnScreen.{on_screen?}

-- what then stands: what stood, if the sequence is crate screen's; else what the rules make of it with the message m
unfoldable pub settled : List ℕ → Seq → State → State
settled m q st = cond (on_screen? q) st (obeyed (λ o. get_or m o 0) q st)

-- the second bytes of those that do more than set something: the patterns are 224's, a store is changed by the others
abbrev pub more : List ℕ
more = 224 ∷ 208 ∷ 209 ∷ 210 ∷ 211 ∷ 198 ∷ 199 ∷ []

-- what `set` leaves of settings s: settings r
pub record Setting (s : Settings) (q : Seq) (r : Settings) : Type 0 where
  -- every other sequence does what the rules say of it, whatever the message, and touches no store
  pub does : member (code_of q) more ≡ false → (m cells layer dots : List ℕ) → state r cells layer dots ≡ settled m q (state s cells layer dots)
  -- these change nothing here
  pub left : member (code_of q) more ≡ true → r ≡ s
  pub keeps : (r.patterns ≡ s.patterns) × (r.texts ≡ s.texts)
