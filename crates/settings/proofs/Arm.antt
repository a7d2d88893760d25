-- An arm of `obey` that has one sequence, k, and is not 224: what stands is what the rules make of it, and they leave patterns and key texts.
use mathlib.Core.Path.{◌≡◌, ◌∙◌, ap, sym}
use Prim.Native.Nat.{ℕ}
use mathlib.Core.Bool.{false}
use mathlib.Core.List.{List, []}
use lib.Dec.{eqb}
use Rattle.model.specs.declared.Settings.{Settings}
use Rattle.model.specs.declared.Sequence.{Sequence as Seq}
use Rattle.model.specs.State.{State, state}
use Rattle.model.specs.Sequences.{code_of}
use Rattle.model.proofs.Tests.{differ}
use Rattle.settings.specs.Obey.{Obeyed}
use Rattle.values.specs.Setting.{settled}
use Rattle.values.proofs.Arm.{Stayed}

pub arm : {s r : Settings} {q k : Seq} {cells layer dots cells' layer' dots' : List ℕ} → q ≡ k → ((m : List ℕ) → state r cells' layer' dots' ≡ settled m k (state s cells layer dots)) → Stayed s (settled [] k (state s cells layer dots)).settings → eqb (code_of k) 224 ≡ false → Obeyed s q r cells layer dots cells' layer' dots'
arm is stands kept other = record { does = λ e m. rw is (stands m); left = λ e. absurd (differ (sym e ∙ ap (λ (j : Seq). eqb (code_of j) 224) is ∙ other)); keeps = (ap (λ (st : State). st.settings.patterns) (stands []) ∙ kept.0, ap (λ (st : State). st.settings.texts) (stands []) ∙ kept.1) }
