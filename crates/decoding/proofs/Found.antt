-- A row that is found in a table is the default or has the byte that is looked for; and the least lengths.
use mathlib.Core.Path.{◌≡◌, refl, sym}
use mathlib.Core.Logic.{◌⊎◌, inl, inr}
use Prim.Native.Nat.{ℕ, ◌≤◌}
use mathlib.Core.List.{List, [], ◌∷◌}
use lib.Dec.{eqb, leb}
use borrow.Author.Tests.{eqb-true, leb-true}
use Rattle.model.specs.Sequences.{Row, find, mode_row_of, mode_rows, refusal, row_of, rows}
use Rattle.model.proofs.Tests.{cond_at, cond₂}
use Rattle.model.proofs.Gathering.{found}

pub found_code : (other : Row) (rs : List Row) (c : ℕ) → (find other rs c ≡ other) ⊎ ((find other rs c).code ≡ c)
unfolding find
found_code other [] c = inl refl
found_code other (r ∷ rs) c =
    cond_at (λ (x : Row). (x ≡ other) ⊎ (x.code ≡ c)) (eqb c r.code) r (find other rs c) (λ e. inr (sym (eqb-true c r.code e))) (λ e. found_code other rs c)

-- the default matters only where no row is found
pub two_defaults : (o p : Row) (rs : List Row) (c : ℕ) → ((find o rs c ≡ o) × (find p rs c ≡ p)) ⊎ (find o rs c ≡ find p rs c)
unfolding find
two_defaults o p [] c = inl (refl, refl)
two_defaults o p (r ∷ rs) c =
    cond₂ (λ (x y : Row). ((x ≡ o) × (y ≡ p)) ⊎ (x ≡ y)) (eqb c r.code) (eqb c r.code) r (find o rs c) r (find p rs c) refl (λ e. inr refl) (λ e. two_defaults o p rs c)

-- a sequence has at least two bytes, 208 three
pub row-least : (c : ℕ) → 2 ≤ (row_of c).bytes
unfolding row_of
row-least c = leb-true 2 _ (found (λ r. leb 2 r.bytes) (refusal 0 2 10 0) rows c refl refl)

pub mode_least : (k : ℕ) → 3 ≤ (mode_row_of k).bytes
unfolding mode_row_of
mode_least k = leb-true 3 _ (found (λ r. leb 3 r.bytes) (refusal 0 3 11 1) mode_rows k refl refl)
