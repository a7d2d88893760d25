-- 198 in `obey`: an accepted one has its parameters in their ranges, whatever is selected, and what is drawn is what then stands.
use mathlib.Core.Path.{◌∙◌, ◌≡◌, ap, refl, subst, sym}
use Prim.Native.Nat.{ℕ}
use mathlib.Core.Bool.{false, true}
use mathlib.Core.List.{List}
use lib.Dec.{eqb}
use lib.ListN.{get_or}
use Rattle.model.specs.declared.Limits.{Limits}
use Rattle.model.specs.declared.Sequence.{Sequence as Seq}
use Rattle.model.specs.declared.Sequence.TheVariants.{DrawLine}
use Rattle.model.specs.declared.Settings.{Settings}
use Rattle.model.specs.Checks.{member}
use Rattle.model.specs.State.{state}
use Rattle.model.specs.OnScreen.{on_screen?}
use Rattle.model.specs.Sequences.{code_of, idle?}
use Rattle.model.specs.Judging.{legal?}
use Rattle.model.specs.Rules.{obeyed, with_dots}
use Rattle.model.proofs.Cases.{ranged}
use Rattle.model.proofs.Tests.{differ}
use Rattle.drawing.specs.Drawing.{Drawable, Stroked}
use Rattle.settings.specs.Obey.{Obeyed}
use Rattle.values.specs.Setting.{settled}
use Rattle.values.proofs.Idle.{awake_as}

module _ {q : Seq} {p1 p2 p3 p4 p5 p6 p7 p8 p9 p10 p11 : ℕ} (is : q ≡ DrawLine p1 p2 p3 p4 p5 p6 p7 p8 p9 p10 p11) where
  pub drawable : (l : Limits) → legal? q l ≡ true → idle? l.mode (code_of q) ≡ false → Drawable q
  drawable l legal awake = subst Drawable (sym is) (λ k. ranged l legal is (awake_as l.mode is awake))

  pub stroked : {s r : Settings} {cells layer dots dots' : List ℕ} → r ≡ s → Stroked q dots dots' → Obeyed s q r cells layer dots cells layer dots'
  unfolding settled on_screen? member with_dots
  stroked {s} {r} {cells} {layer} {dots} {dots'} e d = record {
    does = λ n m. ap (λ (x : Settings). state x cells layer dots') e ∙ d.does (ap (λ (x : Seq). eqb (code_of x) 198) is) (λ o. get_or m o 0) (state s cells layer dots) refl ∙ settles m;
    left = λ n. absurd (differ (sym n ∙ ap (λ (x : Seq). eqb (code_of x) 224) is));
    keeps = (ap (λ (x : Settings). x.patterns) e, ap (λ (x : Settings). x.texts) e);
  }
    where
      settles : (m : List ℕ) → obeyed (λ o. get_or m o 0) q (state s cells layer dots) ≡ settled m q (state s cells layer dots)
      settles m = subst (λ (x : Seq). obeyed (λ o. get_or m o 0) x (state s cells layer dots) ≡ settled m x (state s cells layer dots)) (sym is) refl
