-- What a whole sequence is: 208 by its mode byte, others by the list. The list is taken apart row after row: a second byte that
-- some rows have not is looked for behind them.
use mathlib.Core.Path.{◌∙◌, ◌≡◌, ap, sym}
use Prim.Native.Nat.{ℕ, ◌+◌}
use mathlib.Core.Bool.{Bool, true, false}
use mathlib.Core.List.{List}
use lib.ListN.{drop, get_or, take, take-append-drop}
use lib.Seq.{drop-drop}
use borrow.Author.Tests.{eq-eqb, ne_eqb}
use Rattle.model.specs.Sequences.{Row, find, mode_row_of, refusal, row_of, rows}
use Rattle.model.specs.Reading.{kind_of}
use Rattle.model.specs.declared.Item.TheVariants.{Refused}
use Rattle.tables.specs.Lengths.{length_of}
use Rattle.decoding.specs.Decoding.{kind_from, sent, whole}
use Rattle.decoding.proofs.Needed.{length_none}
use Rattle.model.proofs.Arms.{NoneOf, arms_of, find_past}

module _ (at : ℕ) (bs : List ℕ) where
  -- the kind, where the test for 208 is decided
  abbrev kind : Bool → Row
  kind b = elim b [ true ↦ mode_row_of (get_or bs 2 0) | false ↦ row_of (get_or bs 1 0) ]

  pub whole_mode : get_or bs 1 0 ≡ 208 → whole at bs ≡ (mode_row_of (get_or bs 2 0)).made (sent bs) (at + 2)
  unfolding whole kind_of
  whole_mode e = ap (λ (b : Bool). (kind b).made (sent bs) (at + 2)) (eq-eqb (get_or bs 1 0) 208 e)

  pub whole_listed : (get_or bs 1 0 ≡ 208 → ⊥) → whole at bs ≡ (kind_from 0 (get_or bs 1 0)).made (sent bs) (at + 2)
  unfolding whole kind_of kind_from row_of
  whole_listed e = ap (λ (b : Bool). (kind b).made (sent bs) (at + 2)) (ne_eqb (get_or bs 1 0) 208 e)

  -- a byte that is not in the list
  pub whole_unlisted : (k : ℕ) → length_of (get_or bs 1 0) k ≡ 0 → whole at bs ≡ Refused 10 0
  unfolding whole kind_of
  whole_unlisted k e =
      let u = length_none (get_or bs 1 0) k e in
      ap (λ (b : Bool). (kind b).made (sent bs) (at + 2)) u.0 ∙ ap (λ (r : Row). r.made (sent bs) (at + 2)) u.1

-- behind k rows from row n on
pub handed_on : (n k c : ℕ) → NoneOf (Unit {0}) (arms_of (take k (drop n rows))) c → kind_from n c ≡ kind_from (n + k) c
unfolding kind_from
handed_on n k c h =
    ap (λ (rs : List Row). find (refusal 0 2 10 0) rs c) (sym (take-append-drop k (drop n rows)))
    ∙ find_past (Unit {0}) (refusal 0 2 10 0) (take k (drop n rows)) (drop k (drop n rows)) c h
    ∙ ap (λ (rs : List Row). find (refusal 0 2 10 0) rs c) (drop-drop k n rows)
