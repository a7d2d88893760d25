-- P7, by a second byte and parameters: what is not refused is a sequence of the list, so that nothing else is written.
use mathlib.Core.Path.{◌∙◌, ◌≡◌, ap, refl, sym}
use Prim.Native.Nat.{ℕ, ◌+◌, ◌≤◌, ◌<◌}
use native.Mathlib.Omega.{arith}
use mathlib.Core.Bool.{Bool, ◌&&◌, cond, false, not, true}
use mathlib.Core.List.{List, [], ◌∷◌}
use lib.ListN.{get_or, length}
use lib.Dec.{eqb, ltb}
use borrow.Author.Tests.{eq-eqb, eqb-true, ltb-false, ltb-true, ne_eqb}
use Rattle.model.specs.declared.Settings.{Settings}
use Rattle.model.specs.declared.Limits.{Limits}
use Rattle.model.specs.declared.Sequence.{Sequence as Seq}
use Rattle.model.specs.declared.Sequence.TheVariants.{Select}
use Rattle.model.specs.declared.Item.{Item}
use Rattle.model.specs.declared.Item.TheVariants.{Printed, Control, Sequence, Refused}
use Rattle.model.specs.Picture.{copy_size_of}
use Rattle.model.specs.Sequences.{Row, find, mode_row_of, mode_rows, refusal, row_of, rows}
use Rattle.model.specs.Reading.{after_escape, decoded, ended, item_of, kind_of, needed, unfinished?}
use Rattle.model.specs.Judging.{allowed, fitting, judged, limits_of}
use Rattle.model.proofs.Gathering.{found}
use Rattle.model.proofs.Tests.{differ, elim_at}
use Rattle.spelling.specs.Spelling.{bytes_of}
use Rattle.spelling.specs.Given.{given_bytes}
use Rattle.spelling.proofs.Claimed.{spelling}
use Rattle.writer.specs.Writing.{number_in, said, said_of_all}

-- a sequence, or a refusal that has a number
abbrev told? : Item → Bool
told? (Printed c) = false
told? (Control c) = false
told? (Sequence q) = true
told? (Refused n p) = not (eqb n 0)

-- an item that is judged: a refusal keeps its number, so that with number 0 it was a sequence
sequence_of : (i : Item) (l : Limits) (room : ℕ) → told? i ≡ true → number_in (judged i l room) ≡ 0 → (q : Seq) × (i ≡ Sequence q)
unfolding allowed fitting number_in
sequence_of (Printed c) l room t z = absurd (differ (sym t))
sequence_of (Control c) l room t z = absurd (differ (sym t))
sequence_of (Sequence q) l room t z = (q, refl)
sequence_of (Refused n p) l room t z = absurd (differ (sym t ∙ ap not (eq-eqb n 0 z)))

-- the bytes of a sequence, led by ESC, of which none is left over and none is lacking
module _ (c : ℕ) (xs : List ℕ) where
  told_decoded : told? (decoded 0 (27 ∷ c ∷ xs)) ≡ true
  unfolding decoded kind_of row_of mode_row_of
  told_decoded =
      let p : ℕ → ℕ = λ n. get_or (27 ∷ c ∷ xs) (n + 1) 0 in
      elim_at (λ (r : Row). told? (r.made p 2) ≡ true) (eqb c 208) (mode_row_of (get_or (27 ∷ c ∷ xs) 2 0)) (row_of c)
      (λ e. found (λ r. told? (r.made p 2)) (refusal 0 3 11 1) mode_rows (get_or (27 ∷ c ∷ xs) 2 0) refl refl)
      (λ e. found (λ r. told? (r.made p 2)) (refusal 0 2 10 0) rows c refl refl)

  -- unfinished bytes are 12, but for a 209, which is not given without its byte
  whole_of : (l : Limits) (room : ℕ) → (length (27 ∷ c ∷ xs) < needed (27 ∷ c ∷ xs) → c ≡ 209 → ⊥) → number_in (judged (item_of 0 (27 ∷ c ∷ xs)) l room) ≡ 0
      → (q : Seq) × ((needed (27 ∷ c ∷ xs) ≤ length (27 ∷ c ∷ xs)) × (item_of 0 (27 ∷ c ∷ xs) ≡ Sequence q))
  unfolding item_of unfinished? ended allowed fitting number_in
  whole_of l room n = go (ltb (length (27 ∷ c ∷ xs)) (needed (27 ∷ c ∷ xs))) refl
    where
      cut : (t : Bool) → eqb c 209 ≡ t → length (27 ∷ c ∷ xs) < needed (27 ∷ c ∷ xs) → number_in (judged (elim t [ true ↦ Sequence (Select 0) | false ↦ Refused 12 0 ]) l room) ≡ 0 → ⊥
      cut true e h z = n h (eqb-true c 209 e)
      cut false e h z = omega (arith, z)

      go : (t : Bool) → ltb (length (27 ∷ c ∷ xs)) (needed (27 ∷ c ∷ xs)) ≡ t → number_in (judged (elim t [ true ↦ ended (27 ∷ c ∷ xs) | false ↦ decoded 0 (27 ∷ c ∷ xs) ]) l room) ≡ 0
          → (q : Seq) × ((needed (27 ∷ c ∷ xs) ≤ length (27 ∷ c ∷ xs)) × (elim t [ true ↦ ended (27 ∷ c ∷ xs) | false ↦ decoded 0 (27 ∷ c ∷ xs) ] ≡ Sequence q))
      go true e z = absurd (cut (eqb c 209) refl (ltb-true (length (27 ∷ c ∷ xs)) (needed (27 ∷ c ∷ xs)) e) z)
      go false e z = let k = sequence_of (decoded 0 (27 ∷ c ∷ xs)) l room told_decoded z in (k.0, (ltb-false (length (27 ∷ c ∷ xs)) (needed (27 ∷ c ∷ xs)) e, k.1))

abbrev Spelt : List ℕ → Type 0
Spelt bs = (q : Seq) × ((rows : List ℕ) × ((length rows ≡ 8) × (bs ≡ bytes_of q rows)))

all_of : (s : Settings) (c : ℕ) (xs : List ℕ) → (length (27 ∷ c ∷ xs) < needed (27 ∷ c ∷ xs) → c ≡ 209 → ⊥) → number_in (said_of_all s (27 ∷ c ∷ xs)) ≡ 0 → Spelt (27 ∷ c ∷ xs)
unfolding said_of_all said number_in
all_of s c xs n = go (ltb (needed (27 ∷ c ∷ xs)) (length (27 ∷ c ∷ xs))) refl
  where
    go : (t : Bool) → ltb (needed (27 ∷ c ∷ xs)) (length (27 ∷ c ∷ xs)) ≡ t → number_in (cond t (Refused 10 0) (judged (item_of 0 (27 ∷ c ∷ xs)) (limits_of s) (copy_size_of s.mode))) ≡ 0 → Spelt (27 ∷ c ∷ xs)
    go true e z = absurd (omega (arith, z))
    go false e z =
        let k = whole_of c xs (limits_of s) (copy_size_of s.mode) n z in
        let f = ltb-false (needed (27 ∷ c ∷ xs)) (length (27 ∷ c ∷ xs)) e in
        (k.0, spelling.only 0 (27 ∷ c ∷ xs) k.0 (omega (arith, f, k.1.0)) k.1.1)

-- a 209 with a byte or more behind it is finished
finished_209 : (c x : ℕ) (xs : List ℕ) → length (27 ∷ c ∷ x ∷ xs) < needed (27 ∷ c ∷ x ∷ xs) → c ≡ 209 → ⊥
unfolding needed after_escape find
finished_209 c x xs h e = let k : needed (27 ∷ c ∷ x ∷ xs) ≡ 3 = ap (λ (b : ℕ). needed (27 ∷ b ∷ x ∷ xs)) e in omega (arith, h, k)

pub only-given : (s : Settings) (second : ℕ) (ps : List ℕ) → number_in (said_of_all s (given_bytes second ps)) ≡ 0 → Spelt (given_bytes second ps)
unfolding given_bytes
only-given s second [] = go (eqb second 209) refl
  where
    go : (t : Bool) → eqb second 209 ≡ t → number_in (said_of_all s (cond (t && eqb 0 0) (27 ∷ 209 ∷ 0 ∷ []) (27 ∷ second ∷ []))) ≡ 0 → Spelt (cond (t && eqb 0 0) (27 ∷ 209 ∷ 0 ∷ []) (27 ∷ second ∷ []))
    go true e = all_of s 209 (0 ∷ []) (finished_209 209 0 [])
    go false e = all_of s second [] (λ h k. differ (sym (eq-eqb second 209 k) ∙ e))
only-given s second (x ∷ xs) = go (eqb second 209) (eqb (length (x ∷ xs)) 0) (ne_eqb (length (x ∷ xs)) 0 (λ z. omega (arith, z)))
  where
    go : (t u : Bool) → u ≡ false → number_in (said_of_all s (cond (t && u) (27 ∷ 209 ∷ 0 ∷ []) (27 ∷ second ∷ x ∷ xs))) ≡ 0 → Spelt (cond (t && u) (27 ∷ 209 ∷ 0 ∷ []) (27 ∷ second ∷ x ∷ xs))
    go t true e = absurd (differ e)
    go true false e = all_of s second (x ∷ xs) (finished_209 second x xs)
    go false false e = all_of s second (x ∷ xs) (finished_209 second x xs)
