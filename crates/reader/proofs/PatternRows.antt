-- The eight rows of an accepted pattern are among the bytes of its item: a pattern is only made by 224, which has eleven.
use mathlib.Core.Path.{◌∙◌, ◌≡◌, ap, refl, sym}
use mathlib.Core.Logic.{⊎_elim}
use Prim.Native.Nat.{ℕ, ◌+◌, ◌≤◌}
use native.Mathlib.Omega.{arith}
use mathlib.Core.Bool.{not, ◌&&◌, ◌||◌}
use mathlib.Core.List.{List, [], ◌∷◌}
use lib.ListN.{get_or, length}
use lib.Dec.{eqb, ltb}
use borrow.Author.Tests.{eq-eqb, eqb-true, eqb-false, ltb-false, not-true}
use Rattle.model.specs.declared.Limits.{Limits}
use Rattle.model.specs.declared.Item.{Item}
use Rattle.model.specs.declared.Item.TheVariants.{Printed, Control, Sequence, Refused}
use Rattle.model.specs.declared.Sequence.{Sequence as Seq}
use Rattle.model.specs.declared.Sequence.TheVariants.{Pattern, Select}
use Rattle.model.specs.Sequences.{Row, code_of, find, mode_row_of, mode_rows, refusal, row_of, rows}
use Rattle.model.specs.Reading.{after_escape, decoded, ended, item_of, kind_of, needed, unfinished?}
use Rattle.model.specs.Picture.{copy_size_of}
use Rattle.model.specs.Judging.{allowed, bad_of, fitting, judged, legal?}
use Rattle.model.proofs.Tests.{cond_at, elim_at}
use Rattle.model.proofs.Gathering.{found}
use Rattle.decoding.proofs.Found.{found_code}

-- the second byte of a sequence, of other items 0
abbrev code_in : Item → ℕ
code_in (Printed c) = 0
code_in (Control c) = 0
code_in (Sequence q) = code_of q
code_in (Refused n p) = 0

-- judging makes no sequence
judged_sequence : (i : Item) (s : Limits) (room : ℕ) (q : Seq) → judged i s room ≡ Sequence q → i ≡ Sequence q
unfolding allowed fitting
judged_sequence (Printed c) s room q e = e
judged_sequence (Control c) s room q e = e
judged_sequence (Sequence p) s room q e =
    cond_at (λ (i : Item). fitting s.mode i room ≡ Sequence q → Sequence p ≡ Sequence q) (legal? p s) (Sequence p) (Refused 11 (bad_of p s))
    (λ l. cond_at (λ (i : Item). i ≡ Sequence q → Sequence p ≡ Sequence q) (eqb (code_of p) 80 && ltb room (copy_size_of s.mode)) (Refused 13 0) (Sequence p) (λ f e. cc) (λ f e. e)) (λ l e. cc) e
judged_sequence (Refused n p) s room q e = e

-- what begins 27, 224 needs eleven bytes
needed_pattern : (bs : List ℕ) → get_or bs 0 0 ≡ 27 → get_or bs 1 0 ≡ 224 → needed bs ≡ 11
unfolding needed after_escape find
needed_pattern [] e f = absurd (eqb-false 0 27 refl e)
needed_pattern (b ∷ []) e f = absurd (eqb-false 0 224 refl f)
needed_pattern (b ∷ c ∷ bs) e f = rw (e, f)

module _ (at : ℕ) (bs : List ℕ) (x y : ℕ) where
  -- of an item: if it is that pattern, its rows are among the bytes
  abbrev Claim : Item → Type 0
  Claim i = i ≡ Sequence (Pattern x y) → y + 8 ≤ at + length bs

  other : (i : Item) → (code_in i ≡ 224 → ⊥) → Claim i
  other i n e = absurd (n (ap code_in e))

  -- of a whole sequence
  module _ (p : ℕ → ℕ) (o : ℕ) where
    no_mode : (k : ℕ) → Claim ((mode_row_of k).made p o)
    unfolding mode_row_of
    no_mode k = other _ (eqb-false _ 224 (not-true _ (found (λ r. not (eqb (code_in (r.made p o)) 224)) (refusal 0 3 11 1) mode_rows k refl refl)))

    -- the only row that makes a pattern
    row_pattern : (c : ℕ) → (row_of c).made p o ≡ Sequence (Pattern x y) → c ≡ 224
    unfolding row_of
    row_pattern c e =
        let t = found (λ r. not (eqb (code_in (r.made p o)) 224) || eqb r.code 224) (refusal 0 2 10 0) rows c refl refl in
        let f : (row_of c).code ≡ 224 = eqb-true _ 224 (rw (eq-eqb _ 224 (ap code_in e)) at t) in
        ⊎_elim (λ d. absurd (eqb-false 0 224 refl (ap (λ (r : Row). r.code) (sym d) ∙ f))) (λ s. sym s ∙ f) (found_code (refusal 0 2 10 0) rows c)

  whole_rows : get_or bs 0 0 ≡ 27 → needed bs ≤ length bs → Claim ((row_of (get_or bs 1 0)).made (λ n. get_or bs (n + 1) 0) (at + 2))
  unfolding row_of find
  whole_rows e l h =
      let f : get_or bs 1 0 ≡ 224 = row_pattern (λ n. get_or bs (n + 1) 0) (at + 2) (get_or bs 1 0) h in
      let z : at + 2 + 1 ≡ y = cc (rw f at h) in
      omega (arith, needed_pattern bs e f)

  item_rows : Claim (item_of at bs)
  unfolding item_of unfinished? ended decoded kind_of
  item_rows =
      elim_at Claim (unfinished? bs) (ended bs) (decoded at bs)
      (λ u. elim_at Claim (eqb (get_or bs 1 0) 209) (Sequence (Select 0)) (Refused 12 0) (λ v. other _ (eqb-false 209 224 refl)) (λ v. other _ (eqb-false 0 224 refl)))
      (λ u. elim_at Claim (eqb (get_or bs 0 0) 27) _ _
      (λ t. elim_at (λ (r : Row). Claim (r.made (λ n. get_or bs (n + 1) 0) (at + 2))) (eqb (get_or bs 1 0) 208) _ _
      (λ v. no_mode _ _ _) (λ v. whole_rows (eqb-true _ 27 t) (ltb-false _ _ u)))
      (λ t. elim_at Claim (ltb (get_or bs 0 0) 32) _ _ (λ v. other _ (eqb-false 0 224 refl)) (λ v. other _ (eqb-false 0 224 refl))))

pub pattern_rows : (at : ℕ) (bs : List ℕ) (s : Limits) (room x y : ℕ) → judged (item_of at bs) s room ≡ Sequence (Pattern x y) → y + 8 ≤ at + length bs
pattern_rows at bs s room x y e = item_rows at bs x y (judged_sequence (item_of at bs) s room (Pattern x y) e)
