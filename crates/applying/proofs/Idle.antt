-- P11: an idle sequence changes nothing and prints nothing; one that is not idle does what it settles.
use mathlib.Core.Path.{◌≡◌, ap, refl, sym}
use Prim.Native.Nat.{ℕ}
use mathlib.Core.Bool.{Bool, cond, false, true}
use mathlib.Core.List.{List, []}
use lib.ListN.{get_or}
use Rattle.model.specs.declared.Item.TheVariants.{Sequence}
use Rattle.model.specs.declared.Sequence.{Sequence as Seq}
use Rattle.model.specs.State.{State}
use Rattle.model.specs.Picture.{copied}
use Rattle.model.specs.Sequences.{code_of, idle?}
use Rattle.model.specs.OnScreen.{on_screen?}
use Rattle.model.specs.Rules.{apply_item, obeyed}
use Rattle.model.specs.Items.{copy_of}
use Rattle.model.proofs.Tests.{by_test}
use Rattle.values.specs.Setting.{settled}
use Rattle.judging.proofs.JudgingLaws.{no-copy_idle}
use Rattle.applying.specs.Applying.{applied}

-- an idle sequence leaves what stands, and prints nothing
pub idle_leaves : (m : List ℕ) (q : Seq) (st : State) → idle? st.settings.mode (code_of q) ≡ true → (st ≡ applied m (Sequence q) st) × (copy_of (Sequence q) st ≡ [])
unfolding applied apply_item
idle_leaves m q st h = (rw h (by_test (λ (b : Bool). st ≡ cond b st st) (on_screen? q) refl refl), ap (λ (b : Bool). cond b (copied st) []) (no-copy_idle st.settings.mode (code_of q) h))

-- what a sequence that is not idle settles is what it does
pub awake_settled : (m : List ℕ) (q : Seq) (st : State) → idle? st.settings.mode (code_of q) ≡ false → settled m q st ≡ applied m (Sequence q) st
unfolding settled applied apply_item
awake_settled m q st a = ap (λ (b : Bool). cond (on_screen? q) st (cond b st (obeyed (λ o. get_or m o 0) q st))) (sym a)
