-- An arm of `set` that has one sequence, k: what stands is what the rules make of it, and they leave patterns and key texts.
use mathlib.Core.Path.{◌≡◌, ◌∙◌, ap, sym}
use Prim.Native.Nat.{ℕ}
use mathlib.Core.Bool.{false}
use mathlib.Core.List.{List, []}
use Rattle.model.specs.declared.Settings.{Settings}
use Rattle.model.specs.declared.Sequence.{Sequence as Seq}
use Rattle.model.specs.Checks.{member}
use Rattle.model.specs.State.{State, state}
use Rattle.model.specs.Sequences.{code_of}
use Rattle.model.proofs.Tests.{differ}
use Rattle.values.specs.Setting.{Setting, more, settled}

-- patterns and key texts stay
abbrev pub Stayed : Settings → Settings → Type 0
Stayed s r = (r.patterns ≡ s.patterns) × (r.texts ≡ s.texts)

pub set_arm : {s r : Settings} {q k : Seq} → q ≡ k → ((m cells layer dots : List ℕ) → state r cells layer dots ≡ settled m k (state s cells layer dots)) → Stayed s (settled [] k (state s [] [] [])).settings → member (code_of k) more ≡ false → Setting s q r
set_arm is stands kept other = record { does = λ e m cells layer dots. rw is (stands m cells layer dots); left = λ e. absurd (differ (sym e ∙ ap (λ (j : Seq). member (code_of j) more) is ∙ other)); keeps = (ap (λ (st : State). st.settings.patterns) (stands [] [] [] []) ∙ kept.0, ap (λ (st : State). st.settings.texts) (stands [] [] [] []) ∙ kept.1) }
