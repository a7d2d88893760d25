-- P11: which dots an item of the selected screen leaves, and that any other leaves them to the settings.
use mathlib.Core.Path.{◌∙◌, ◌≡◌, ap, refl, sym}
use Prim.Native.Nat.{ℕ}
use mathlib.Core.Bool.{Bool, ◌&&◌, cond, false, true}
use mathlib.Core.List.{List, [], ◌∷◌}
use lib.Dec.{eqb}
use lib.ListN.{length, replicate}
use borrow.Author.Tests.{ne_eqb}
use denote.Enum.Declared.{tag_of}
use types.Run.{OneOf, miss}
use Rattle.model.specs.declared.Item.{Item}
use Rattle.model.specs.declared.Item.TheVariants.{Control, Printed, Refused, Sequence}
use Rattle.model.specs.declared.Sequence.{Sequence as Seq}
use Rattle.model.specs.Bytes.{list_from}
use Rattle.model.specs.Checks.{member}
use Rattle.model.specs.State.{State}
use Rattle.model.specs.Sequences.{code_of, idle?}
use Rattle.model.specs.OnScreen.{on_screen?, on_screen_codes, stays_on_screen?}
use Rattle.model.specs.Rules.{apply_item, dots_cleared, obeyed}
use Rattle.model.proofs.DotsStay.{control_dots, printed_dots, screen_dots}
use Rattle.model.proofs.Cases.{none_passes}
use Rattle.model.specs.contracts.Item.{the_type as item-type}
use Rattle.model.specs.contracts.Sequence.{the_type}
use Rattle.model.proofs.Tests.{and_left, and_right, cond_at, differ}
use Rattle.screen.proofs.Sequences.{never_idle}
use Rattle.obeying.specs.Obeying.{clears?, dots_then, printed?}

-- an item that stays; an idle one is no 42
pub stays_dots : (m : ℕ → ℕ) (i : Item) (st : State) → stays_on_screen? i ≡ true → dots_then st.settings.mode i st.dots ≡ (apply_item m i st).dots
unfolding dots_then dots_cleared apply_item member
stays_dots m (Printed b) st h = sym (printed_dots b st)
stays_dots m (Control c) st h = sym (control_dots st c)
stays_dots m (Sequence q) st h =
    let mode = st.settings.mode in
    let wiped = dots_then mode (Sequence q) st.dots in
    cond_at (λ (r : State). wiped ≡ r.dots) (idle? mode (code_of q)) st (obeyed m q st)
    (λ e. ap (λ (b : Bool). cond b (cond (eqb mode 3) (replicate 3840 0) st.dots) st.dots) (ne_eqb (code_of q) 42 (λ f. differ (sym e ∙ ap (idle? mode) f ∙ never_idle 42 refl refl mode)))) (λ e. sym (screen_dots m q st h))
stays_dots m (Refused n p) st h = refl

-- one that is printed, and one that does not stay, are wiped after by nothing
pub printed_spares : (mode : ℕ) (i : Item) (dots : List ℕ) → printed? i ≡ true → dots_then mode i dots ≡ dots
unfolding dots_then
printed_spares mode (Printed b) dots h = refl
printed_spares mode (Control c) dots h = absurd (differ (sym h))
printed_spares mode (Sequence q) dots h = absurd (differ (sym h))
printed_spares mode (Refused n p) dots h = refl

pub away_spares : (mode : ℕ) (i : Item) (dots : List ℕ) → stays_on_screen? i ≡ false → dots_then mode i dots ≡ dots
unfolding dots_then on_screen? member
away_spares mode (Printed b) dots h = absurd (differ h)
away_spares mode (Control c) dots h = absurd (differ h)
away_spares mode (Sequence q) dots h = ap (λ (b : Bool). cond b (cond (eqb mode 3) (replicate 3840 0) dots) dots) (ne_eqb (code_of q) 42 (λ e. differ (ap (λ (c : ℕ). member c on_screen_codes) (sym e) ∙ h)))
away_spares mode (Refused n p) dots h = refl

-- what the last arms know of an item or a sequence
pub other_spares : (i : Item) → OneOf (0 ∷ 3 ∷ []) (tag_of item-type i) → false ≡ clears? i
other_spares (Printed b) o = refl
other_spares (Control c) o = absurd (miss (0 ∷ 3 ∷ []) 1 tt o)
other_spares (Sequence q) o = absurd (miss (0 ∷ 3 ∷ []) 2 tt o)
other_spares (Refused n p) o = refl

pub no_clear : (q : Seq) → OneOf (0 ∷ list_from (λ n. n) 2 45) (tag_of the_type q) → eqb (code_of q) 42 ≡ false
no_clear q = none_passes (λ c. eqb c 42) (0 ∷ list_from (λ n. n) 2 45) q refl

-- the test of `wipe_after`, both ways
module _ (mode : ℕ) (i : Item) (dots : List ℕ) {b : Bool} (e : b ≡ clears? i) where
  pub wiped_when : {dots' : List ℕ} → (b && eqb mode 3) ≡ true → length dots ≡ 3840 → dots' ≡ replicate (length dots) 0 → dots' ≡ dots_then mode i dots
  unfolding dots_then
  wiped_when t n w = w ∙ ap (λ (k : ℕ). replicate k 0) n ∙ sym (rw (sym e ∙ and_left b (eqb mode 3) t, and_right b (eqb mode 3) t))

  pub spared_when : (b && eqb mode 3) ≡ false → dots ≡ dots_then mode i dots
  unfolding dots_then
  spared_when f = go (clears? i) (eqb mode 3) (ap (λ (x : Bool). x && eqb mode 3) (sym e) ∙ f)
    where
      go : (x y : Bool) → (x && y) ≡ false → dots ≡ cond x (cond y (replicate 3840 0) dots) dots
      go true true k = absurd (differ k)
      go true false k = refl
      go false y k = refl
