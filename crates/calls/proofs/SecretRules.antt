-- P8, of the rules by themselves (specs/SecretRules): no rule looks at what is hidden (HiddenLaws in the crate `model`), nor does what a short message paints (P12).
use mathlib.Core.Path.{◌≡◌, ap, refl}
use Prim.Native.Nat.{ℕ}
use mathlib.Core.Bool.{Bool, ◌&&◌, ◌||◌, cond, not}
use lib.Dec.{eqb, ltb}
use Rattle.model.specs.declared.Item.{Item}
use Rattle.model.specs.declared.Item.TheVariants.{Control, Printed, Refused, Sequence}
use Rattle.model.specs.State.{State}
use Rattle.model.specs.Screens.{columns_here, columns_of, here, lines_of, place_of, text_rows}
use Rattle.model.specs.Sequences.{code_of}
use Rattle.model.specs.Rules.{shown_at}
use Rattle.calls.specs.Repaint.{lifts?, lowest?, place_by, print_lifts?, print_place}
use Rattle.calls.specs.SecretRules.{Blindness}
use Rattle.model.specs.Hidden.{Hidden}
use Rattle.model.proofs.HiddenLaws.{hidden_late_step, hidden_item, hidden_lined, hidden_printed, hidden_texted, same_of, same_copied, same_limits, same_picture, same_sound}

-- P12: which places are painted
same_lowest : {a b : State} → Hidden a b → lowest? a ≡ lowest? b
unfolding lowest? lines_of place_of
same_lowest h = same_of lowest? h

same_print_lifts : {a b : State} → Hidden a b → print_lifts? a ≡ print_lifts? b
unfolding print_lifts? columns_of place_of
same_print_lifts h =
    let z = hidden_late_step h in
    λ i. (same_of (λ (x : State). eqb (here x).late 1) h i && same_lowest h i)
    || (same_of (λ (x : State). not (ltb (here x).column (columns_here x))) z i && (same_of (λ (x : State). not (eqb x.settings.rule 2)) z i && same_lowest z i))

same_lifts : (i : Item) {a b : State} → Hidden a b → lifts? i a ≡ lifts? i b
unfolding lifts?
same_lifts (Printed c) h = same_print_lifts h
same_lifts (Control c) h = ap (λ (t : Bool). eqb c 10 && t) (same_lowest h)
same_lifts (Sequence q) h = ap (λ (t : Bool). eqb (code_of q) 37 && t) (same_print_lifts h)
same_lifts (Refused n p) h = refl

same_print_place : {a b : State} → Hidden a b → print_place a ≡ print_place b
unfolding print_place shown_at place_of text_rows
same_print_place h = same_of (λ (x : State). shown_at x.settings (here x).line (here x).column) (hidden_late_step h)

same_places : (i : Item) {a b : State} → Hidden a b → place_by i a ≡ place_by i b
unfolding place_by
same_places (Printed c) h = same_print_place h
same_places (Control c) h = refl
same_places (Sequence q) h = ap (λ (p : ℕ). cond (eqb (code_of q) 37) p 640) (same_print_place h)
same_places (Refused n p) h = refl

pub blind : Blindness
unfolding place_of
blind a b h = record {
  items = λ m i v. hidden_item m i v h;
  characters = λ c d. hidden_printed c d h;
  lines = λ w n. hidden_lined w n h;
  texts = λ k x y e. hidden_texted k x y e h;
  limits = same_limits h;
  sound = same_sound h;
  pictures = same_picture h;
  copies = same_copied h;
  lifts = λ i. same_lifts i h;
  places = λ i. same_places i h;
  top = same_of (λ (x : State). (here x).top) h;
}
