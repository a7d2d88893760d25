-- 198: its ranges look at no limits; what is drawn is what the rules say; and its numbers of two bytes are a place of the store.
use mathlib.Core.Path.{◌∙◌, ◌≡◌, ap, refl, subst, sym}
use Prim.Native.Nat.{ℕ}
use native.Mathlib.Omega.{arith}
use mathlib.Core.Bool.{false}
use mathlib.Core.List.{List, ◌++◌}
use lib.Dec.{eqb}
use Rattle.model.specs.declared.Limits.{Limits}
use Rattle.model.specs.declared.Point.{Point}
use Rattle.model.specs.declared.Sequence.{Sequence as Seq}
use Rattle.model.specs.declared.Sequence.TheVariants.{DrawLine}
use Rattle.model.specs.Checks.{InRanges}
use Rattle.model.specs.Sequences.{code_of}
use Rattle.model.specs.Judging.{ranges}
use Rattle.model.specs.Rules.{obeyed, point, with_dots}
use Rattle.model.specs.Dot.{OnScreen, two_bytes}
use Rattle.model.specs.Strokes.{lined}
use Rattle.model.proofs.Cases.{none_passes}
use Rattle.model.proofs.Tests.{differ}
use Rattle.drawing.specs.Drawing.{Drawable, Stroked}
use denote.Enum.Declared.{tag_of}
use types.Run.{OneOf}
use Rattle.model.specs.Bytes.{list_from}
use Rattle.model.specs.contracts.Sequence.{the_type}

-- limits that no range of 198 looks at
abbrev anywhere : Limits
anywhere = record { mode = 3; lines = 8; columns = 80; height = 8 }

module _ {q : Seq} {p1 p2 p3 p4 p5 p6 p7 p8 p9 p10 p11 : ℕ} (is : q ≡ DrawLine p1 p2 p3 p4 p5 p6 p7 p8 p9 p10 p11) where
  -- a start or an end is a place of the store
  pub ends_on : {from to : Point} → Drawable q → from ≡ point (two_bytes p3 p4) (two_bytes p1 p2) → to ≡ point (two_bytes p7 p8) (two_bytes p5 p6) → (OnScreen from) × (OnScreen to)
  ends_on d e f =
      let r : InRanges (ranges (DrawLine p1 p2 p3 p4 p5 p6 p7 p8 p9 p10 p11) anywhere) = subst Drawable is d anywhere in
      (rw e (record { vertical = omega (arith, r); horizontal = omega (arith, r) }), rw f (record { vertical = omega (arith, r); horizontal = omega (arith, r) }))

  pub stroke_does : {from to : Point} {mask : ℕ} {dots dots' : List ℕ} → from ≡ point (two_bytes p3 p4) (two_bytes p1 p2) → to ≡ point (two_bytes p7 p8) (two_bytes p5 p6) → mask ≡ two_bytes p9 p10
      → dots' ≡ lined p11 mask from to dots → Stroked q dots dots'
  unfolding obeyed
  stroke_does e f k d = record {
    does = λ n m st h. ap (λ (x : List ℕ). with_dots x st) (d ∙ (λ i. lined p11 (k i) (e i) (f i) (sym h i))) ∙ sym (ap (λ (x : Seq). obeyed m x st) is);
    left = λ n. absurd (differ (sym (ap (λ (x : Seq). eqb (code_of x) 198) is) ∙ n));
  }

-- what `stroke` leaves to its other way is not 198
abbrev not_198 : List ℕ
not_198 = list_from (λ n. n) 0 25 ++ list_from (λ n. n) 26 21

pub no-stroke : (q : Seq) → OneOf not_198 (tag_of the_type q) → eqb (code_of q) 198 ≡ false
no-stroke q = none_passes (λ c. eqb c 198) not_198 q refl
