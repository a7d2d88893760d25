-- Laws of records: the walk over the bytes goes from record to record. `records_next`, `uncut_next`, `uncut_fits` and `body_length` are for
-- whoever steps over bytes that are not cut; P6: the last module, for whoever walks over a pack by an index.
use mathlib.Core.Path.{◌∙◌, ◌≡◌, ap, refl, sym}
use Prim.Native.Nat.{◌+◌, ◌*◌, ◌-◌, ◌<◌, ◌≤◌, suc, zero, ℕ}
use native.Mathlib.Nat.{add-zero}
use native.Mathlib.Omega.{arith}
use mathlib.Core.Bool.{Bool, ◌&&◌, false, true}
use mathlib.Core.List.{List, [], ◌∷◌, map}
use lib.ListN.{drop, drop_of_length-le, get_or, length, length-drop, length-take, take}
use lib.Seq.{drop-drop, get_or-drop, take_all}
use lib.Dec.{eqb, leb, ltb}
use borrow.Author.Tests.{ltb-false, ltb-true, ne_eqb}
use Rattle.model.proofs.Tests.{differ}
use Rattle.calls.specs.Calls.{sendable}
use Rattle.calls.specs.Packs.{bodies_of, known?}
use Rattle.model.specs.Records.{Record, all?, body_in, kind_in, lacking, length_in, number_in, record_in, records_after, records_of, uncut?}

number_two : (bs : List ℕ) → number_in (take 2 bs) ≡ get_or bs 0 0 + 256 * get_or bs 1 0
unfolding number_in
number_two [] = refl
number_two (a ∷ []) = refl
number_two (a ∷ b ∷ bs) = omega arith

-- two bytes of a part, by their indices in the whole
pub two_at : (bs : List ℕ) (at : ℕ) → number_in (take 2 (drop at bs)) ≡ get_or bs at 0 + 256 * get_or bs (at + 1) 0
two_at bs at =
    let first : get_or (drop at bs) 0 0 ≡ get_or bs at 0 = get_or-drop at bs 0 0 ∙ rw add-zero in
    number_two (drop at bs) ∙ rw (first, get_or-drop at bs 1 0)

pub kind_two : (bs : List ℕ) (at : ℕ) → kind_in (drop at bs) ≡ get_or bs (at + 2) 0 + 256 * get_or bs (at + 3) 0
unfolding kind_in
kind_two bs at =
    let next : at + 2 + 1 ≡ at + 3 = omega arith in
    ap (λ (l : List ℕ). number_in (take 2 l)) (drop-drop 2 at bs) ∙ two_at bs (at + 2) ∙ rw next

-- past the bytes of a record that has begun, the walk begins anew
records_past : (n : ℕ) (bs : List ℕ) → records_after n bs ≡ records_of (drop n bs)
unfolding records_after
records_past zero bs = refl
records_past (suc n) [] = refl
records_past (suc n) (b ∷ bs) = records_past n bs

lacking_past : (n : ℕ) (bs : List ℕ) → n ≤ length bs → lacking n bs ≡ lacking 0 (drop n bs)
unfolding lacking
lacking_past zero bs h = refl
lacking_past (suc n) [] h = absurd (omega arith)
lacking_past (suc n) (b ∷ bs) h = lacking_past n bs (omega arith)

-- and where they are not all there, the rest of them is lacking
lacking_rest : (n : ℕ) (bs : List ℕ) → length bs < n → 1 ≤ lacking n bs
unfolding lacking
lacking_rest n [] h = h
lacking_rest zero (b ∷ bs) h = absurd (omega arith)
lacking_rest (suc n) (b ∷ bs) h = lacking_rest n bs (omega arith)

-- behind a record: as many bytes of the whole, or one less of what follows its first
behind : (n b : ℕ) (bs : List ℕ) → drop (n + 4) (b ∷ bs) ≡ drop (n + 3) bs
behind n b bs = let e : n + 4 ≡ suc (n + 3) = omega arith in rw e

-- the record at the start of some bytes
pub records_next : (bs : List ℕ) → 1 ≤ length bs → records_of bs ≡ record_in bs ∷ records_of (drop (length_in bs + 4) bs)
unfolding records_after
records_next [] h = absurd (omega arith)
records_next (b ∷ bs) h =
    let n : ℕ = length_in (b ∷ bs) in
    ap (λ (rs : List Record). record_in (b ∷ bs) ∷ rs) (records_past (n + 3) bs ∙ ap records_of (sym (behind n b bs)))

pub uncut_next : (bs : List ℕ) → 1 ≤ length bs → length_in bs + 4 ≤ length bs → uncut? bs ≡ uncut? (drop (length_in bs + 4) bs)
unfolding uncut? lacking
uncut_next [] h fits = absurd (omega arith)
uncut_next (b ∷ bs) h fits =
    let n : ℕ = length_in (b ∷ bs) in
    ap (λ (k : ℕ). eqb k 0) (lacking_past (n + 3) bs (omega arith) ∙ ap (lacking 0) (sym (behind n b bs)))

pub uncut_not : (bs : List ℕ) → 1 ≤ length bs → length bs < length_in bs + 4 → uncut? bs ≡ false
unfolding uncut? lacking
uncut_not [] h few = absurd (omega arith)
uncut_not (b ∷ bs) h few =
    let n : ℕ = lacking (length_in (b ∷ bs) + 3) bs in
    let z : 1 ≤ n = lacking_rest (length_in (b ∷ bs) + 3) bs (omega arith) in
    ne_eqb n 0 (λ (e : n ≡ 0). omega arith)

-- so a record that is not cut has all its bytes
pub uncut_fits : (bs : List ℕ) → 1 ≤ length bs → uncut? bs ≡ true → length_in bs + 4 ≤ length bs
uncut_fits bs h t = go (ltb (length bs) (length_in bs + 4)) refl
  where
    go : (b : Bool) → ltb (length bs) (length_in bs + 4) ≡ b → length_in bs + 4 ≤ length bs
    go true e = absurd (differ (sym t ∙ uncut_not bs h (ltb-true _ _ e)))
    go false e = ltb-false _ _ e

pub body_length : (bs : List ℕ) → length_in bs + 4 ≤ length bs → length (body_in bs) ≡ length_in bs
unfolding body_in
body_length bs fits = simp (length-take, length-drop) (omega arith)

-- the walk at an index: a record that is there, one that is not, and the end
module _ (bs : List ℕ) (at : ℕ) (inside : at ≤ length bs) where
  size_at : length (drop at bs) ≡ length bs - at
  size_at = length-drop at bs

  pub uncut_past : {n : ℕ} → n ≡ length_in (drop at bs) → at + (n + 4) ≤ length bs → uncut? (drop at bs) ≡ uncut? (drop (at + (n + 4)) bs)
  uncut_past {n} e fits =
      rw (← e) at (uncut_next (drop at bs) (omega (arith, size_at)) (omega (arith, size_at)) ∙ ap uncut? (drop-drop (length_in (drop at bs) + 4) at bs))

-- bytes that are walked over by what is left of them: behind a record that is there, and at the end
pub uncut_rest : (bs : List ℕ) {n : ℕ} → n ≡ length_in bs → n + 4 ≤ length bs → uncut? bs ≡ uncut? (take (length bs - (n + 4)) (drop (n + 4) bs))
uncut_rest bs {n} e fits =
    let size : length (drop (n + 4) bs) ≡ length bs - (n + 4) = length-drop (n + 4) bs in
    rw (← e) at (uncut_next bs (omega arith) (omega arith)) ∙ ap uncut? (sym (take_all (length bs - (n + 4)) (drop (n + 4) bs) (omega arith)))

pub uncut_end : (bs : List ℕ) → length bs < 4 → eqb (length bs) 0 ≡ uncut? bs
unfolding uncut? lacking
uncut_end [] few = refl
uncut_end (b ∷ bs) few = ne_eqb (length (b ∷ bs)) 0 (λ (e : length (b ∷ bs) ≡ 0). omega arith) ∙ sym (uncut_not (b ∷ bs) (omega arith) (omega arith))

-- P6: a pack at an index where a record begins, n its length: each test of the whole pack, and its bodies, by that record and what is behind it
module _ (bs : List ℕ) (at n : ℕ) (size : n ≡ length_in (drop at bs)) where
  some_at : at < length bs → 1 ≤ length (drop at bs)
  some_at some = omega (arith, length-drop at bs)

  records_at : at < length bs → records_of (drop at bs) ≡ record_in (drop at bs) ∷ records_of (drop (at + (n + 4)) bs)
  records_at some =
      records_next (drop at bs) (some_at some) ∙ ap (λ (l : List ℕ). record_in (drop at bs) ∷ records_of l) (ap (λ (k : ℕ). drop (k + 4) (drop at bs)) (sym size) ∙ drop-drop (n + 4) at bs)

  pub all_at : (test : Record → Bool) → at < length bs → all? test (records_of (drop at bs)) ≡ (test (record_in (drop at bs)) && all? test (records_of (drop (at + (n + 4)) bs)))
  unfolding all?
  all_at test some = ap (all? test) (records_at some)

  pub known_at : known? (record_in (drop at bs)) ≡ eqb (kind_in (drop at bs)) 1
  unfolding known? record_in
  known_at = refl

  pub sendable_at : at < length bs → at + (n + 4) ≤ length bs → sendable (record_in (drop at bs)).body ≡ leb n 4096
  unfolding record_in
  sendable_at some fits =
      let h : length_in (drop at bs) + 4 ≤ length (drop at bs) = omega (arith, length-drop at bs) in
      ap (λ (k : ℕ). leb k 4096) (body_length (drop at bs) h ∙ sym size)

  pub bodies_at : at < length bs → bodies_of (drop at bs) ≡ take n (drop (at + 4) bs) ∷ bodies_of (drop (at + (n + 4)) bs)
  unfolding bodies_of record_in body_in
  bodies_at some =
      let own : body_in (drop at bs) ≡ take n (drop (at + 4) bs) = ap (λ (k : ℕ). take k (drop 4 (drop at bs))) (sym size) ∙ ap (take n) (drop-drop 4 at bs) in
      ap (map (λ (r : Record). r.body)) (records_at some) ∙ ap (λ (m : List ℕ). m ∷ bodies_of (drop (at + (n + 4)) bs)) own

-- and at its end
module _ (bs : List ℕ) (at : ℕ) (over : length bs ≤ at) where
  pub all_over : (test : Record → Bool) → all? test (records_of (drop at bs)) ≡ true
  unfolding all? records_after
  all_over test = ap (λ (l : List ℕ). all? test (records_of l)) (drop_of_length-le bs {i = at} over)

  pub bodies_over : bodies_of (drop at bs) ≡ []
  unfolding bodies_of records_after
  bodies_over = ap bodies_of (drop_of_length-le bs {i = at} over)
