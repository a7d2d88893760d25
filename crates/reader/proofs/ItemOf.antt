-- What some bytes are, once the tests on them are decided.
use mathlib.Core.Path.{◌∙◌, ◌≡◌, ap, refl, sym}
use Prim.Native.Nat.{ℕ, ◌<◌, ◌≤◌}
use mathlib.Core.Bool.{Bool, true, false, cond}
use mathlib.Core.List.{List, [], ◌∷◌}
use lib.ListN.{get_or, length}
use lib.Dec.{eqb}
use borrow.Author.Tests.{eq-eqb, le-ltb, lt-ltb, ne_eqb}
use Rattle.model.specs.declared.Limits.{Limits}
use Rattle.model.specs.declared.Item.{Item}
use Rattle.model.specs.declared.Item.TheVariants.{Printed, Control, Sequence, Refused}
use Rattle.model.specs.declared.Sequence.TheVariants.{Select}
use Rattle.model.specs.Reading.{decoded, ended, item_of, needed, unfinished?}
use Rattle.model.specs.Checks.{in_ranges?, passes, range}
use Rattle.model.specs.Sequences.{idle?}
use Rattle.model.specs.Judging.{allowed, bad_of, fitting, judged, judged_ranges, legal?}
use Rattle.model.proofs.Tests.{by_test, differ, elim_at}
use Rattle.decoding.specs.Decoding.{whole}

-- a test that is decided
if_true : {A : Type 0} {b : Bool} (x y : A) → b ≡ true → elim b [ true ↦ x | false ↦ y ] ≡ x
if_true {b = true} x y e = refl
if_true {b = false} x y e = absurd (differ (sym e))

if_false : {A : Type 0} {b : Bool} (x y : A) → b ≡ false → elim b [ true ↦ x | false ↦ y ] ≡ y
if_false {b = true} x y e = absurd (differ e)
if_false {b = false} x y e = refl

-- bytes that are whole, and bytes that a message cuts short
module _ (at : ℕ) (bs : List ℕ) where
  pub item_whole : needed bs ≤ length bs → item_of at bs ≡ decoded at bs
  unfolding item_of unfinished?
  item_whole h = if_false (ended bs) (decoded at bs) (le-ltb (length bs) (needed bs) h)

  pub item_cut : length bs < needed bs → item_of at bs ≡ ended bs
  unfolding item_of unfinished?
  item_cut h = if_true (ended bs) (decoded at bs) (lt-ltb (length bs) (needed bs) h)

  pub decoded_sequence : get_or bs 0 0 ≡ 27 → decoded at bs ≡ whole at bs
  unfolding decoded whole
  decoded_sequence e = if_true (whole at bs) _ (eq-eqb (get_or bs 0 0) 27 e)

  pub decoded-control : (get_or bs 0 0 ≡ 27 → ⊥) → get_or bs 0 0 < 32 → decoded at bs ≡ Control (get_or bs 0 0)
  unfolding decoded
  decoded-control e l = if_false _ _ (ne_eqb (get_or bs 0 0) 27 e) ∙ if_true (Control (get_or bs 0 0)) (Printed (get_or bs 0 0)) (lt-ltb (get_or bs 0 0) 32 l)

  pub decoded_printed : (get_or bs 0 0 ≡ 27 → ⊥) → 32 ≤ get_or bs 0 0 → decoded at bs ≡ Printed (get_or bs 0 0)
  unfolding decoded
  decoded_printed e l = if_false _ _ (ne_eqb (get_or bs 0 0) 27 e) ∙ if_false (Control (get_or bs 0 0)) (Printed (get_or bs 0 0)) (le-ltb (get_or bs 0 0) 32 l)

-- the latter go by the second byte
pub ended_select : (c : ℕ) → c ≡ 209 → Sequence (Select 0) ≡ ended (27 ∷ c ∷ [])
unfolding ended
ended_select c e = sym (if_true (Sequence (Select 0)) (Refused 12 0) (eq-eqb c 209 e))

pub ended_refused : (c : ℕ) → (c ≡ 209 → ⊥) → Refused 12 0 ≡ ended (27 ∷ c ∷ [])
unfolding ended
ended_refused c e = sym (if_false (Sequence (Select 0)) (Refused 12 0) (ne_eqb c 209 e))

pub ended_by : (bs : List ℕ) (c : ℕ) → get_or bs 1 0 ≡ c → ended bs ≡ ended (27 ∷ c ∷ [])
unfolding ended
ended_by bs c e = ap (λ (k : ℕ). elim (eqb k 209) as (λ b. Item) [ true ↦ Sequence (Select 0) | false ↦ Refused 12 0 ]) e

-- what a message's end makes of a sequence is not refused again
pub judged-ended : (bs : List ℕ) (s : Limits) (room : ℕ) → judged (ended bs) s room ≡ ended bs
unfolding ended allowed fitting legal? judged_ranges in_ranges? passes
judged-ended bs s room =
    elim_at (λ (i : Item). judged i s room ≡ i) (eqb (get_or bs 1 0) 209) (Sequence (Select 0)) (Refused 12 0)
    (λ e. by_test (λ b. fitting s.mode (cond (in_ranges? (cond b [] (range 0 0 1 ∷ []))) (Sequence (Select 0)) (Refused 11 (bad_of (Select 0) s))) room ≡ Sequence (Select 0)) (idle? s.mode 209) refl refl)
    (λ e. refl)
