-- The lengths that the arms of `length_of` give are those of the list, in its order.
use mathlib.Core.Path.{◌∙◌, ◌≡◌, ap, refl, sym}
use Prim.Native.Nat.{ℕ, ◌+◌, ◌≤◌, ◌<◌}
use mathlib.Core.Bool.{Bool, true, cond, not, ◌&&◌, ◌||◌}
use mathlib.Core.List.{List, [], ◌∷◌}
use lib.Dec.{eqb}
use types.Run.{OneOf}
use borrow.Author.Tests.{eqb-true, not-true}
use Rattle.model.specs.Sequences.{Row, find, mode_row_of, mode_rows, refusal, rows}
use Rattle.model.proofs.Arms.{NoneOf, any_key, arms_of, beside, every, find_past, one_of, run}
use Rattle.model.proofs.Gathering.{in_order}
use Rattle.model.proofs.Tests.{and_left, and_right}
use Rattle.tables.specs.Lengths.{length_of}

-- the keys of the arms that no neighbour stands beside
abbrev keys : List (List ℕ)
keys = (42 ∷ 80 ∷ 84 ∷ 89 ∷ 123 ∷ 125 ∷ 215 ∷ 246 ∷ []) ∷ (37 ∷ 67 ∷ 209 ∷ 211 ∷ 214 ∷ 247 ∷ []) ∷ (61 ∷ []) ∷ (210 ∷ []) ∷ (199 ∷ []) ∷ (224 ∷ []) ∷ (198 ∷ []) ∷ (208 ∷ []) ∷ []

-- a second byte but 208 whose row has that length, whatever the third
abbrev has : ℕ → ℕ → Bool
has l c = not (eqb c 208) && eqb (find (refusal 0 0 10 0) rows c).bytes l

by_row : (l c k : ℕ) → has l c ≡ true → l ≡ length_of c k
unfolding length_of
by_row l c k e =
    let found : ℕ = (find (refusal 0 0 10 0) rows c).bytes in
    sym (in_order c (mode_row_of k).bytes 0 ∙ ap (λ (t : Bool). cond t (mode_row_of k).bytes found) (not-true (eqb c 208) (and_left (not (eqb c 208)) (eqb found l) e)) ∙ eqb-true found l (and_right (not (eqb c 208)) (eqb found l) e))

-- an arm of keys
pub by_key : (l : ℕ) (ks : List ℕ) (c k : ℕ) → every (has l) ks ≡ true → OneOf ks c → l ≡ length_of c k
by_key l ks c k e o = by_row l c k (one_of (has l) ks c e o)

-- 208, by its mode byte: one that has a row, and any other
pub by_mode : (l c k m : ℕ) → c ≡ 208 → k ≡ m → l ≡ (mode_row_of m).bytes → l ≡ length_of c k
unfolding length_of find
by_mode l c k m e f s = s ∙ (λ i. length_of (sym e i) (sym f i))

pub by_other : (l c k : ℕ) → c ≡ 208 → NoneOf (Unit {0}) (arms_of mode_rows) k → l ≡ 3 → l ≡ length_of c k
unfolding mode_row_of find
by_other l c k e r s = by_mode l c k k e refl (s ∙ sym (ap (λ (x : Row). x.bytes) (find_past (Unit {0}) (refusal 0 3 11 1) mode_rows [] k r)))

-- an arm of neighbours, or a gap between arms: n bytes from one on, but for the other arms' keys
pub by_run : (l low n c k : ℕ) → run (λ x. any_key keys x || has l x) low n ≡ true → NoneOf (Unit {0}) keys c → (low ≤ c) × (c < low + n) → l ≡ length_of c k
by_run l low n c k e r p = by_row l c k (beside (has l) keys low n c e r p)
