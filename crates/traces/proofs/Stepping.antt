-- Stepping over a trace, nine bytes a stroke: one that is not cut is all strokes exactly if nothing is left behind the nines and the head of
-- each of them says so; then they are its strokes.
use mathlib.Core.Path.{◌∙◌, ◌≡◌, ap, refl, sym}
use Prim.Native.Nat.{◌+◌, ◌*◌, ◌-◌, ◌/◌, ◌%◌, ◌<◌, ◌≤◌, suc, zero, ℕ}
use native.Mathlib.Omega.{arith}
use mathlib.Core.Bool.{Bool, ◌&&◌, ◌||◌, and-false, false, true}
use mathlib.Core.List.{List, [], ◌∷◌}
use lib.ListN.{drop, drop_of_length-le, get_or, length, length-drop, take}
use lib.Seq.{get_or-drop, take-length}
use lib.Dec.{eqb}
use borrow.Author.Tests.{eqb-true, le-leb, lt-leb, ne_eqb}
use Rattle.std.proofs.lemmas.List.{drop_more}
use Rattle.std.specs.Int.{from_le_bytes, w32}
use Rattle.std.specs.List.{list_all}
use Rattle.std.specs.Simd.{first_chunks}
use Rattle.model.proofs.Tests.{and_left, and_right}
use Rattle.model.specs.Records.{all?, body_in, kind_in, length_in, number_in, record_in, records_after, records_of, uncut?}
use Rattle.records.proofs.Laws.{body_length, records_next, uncut_fits, uncut_next}
use Rattle.traces.specs.declared.Stroke.{Stroke}
use Rattle.traces.specs.Strokes.{rising?, stroke?, stroke_of, strokes_in}
use Rattle.traces.specs.Stepping.{AreStrokesOf, stroke_bytes?, stroke_read, strokes_read}

-- what a test of the first nine of some bytes says of all of them
nine_bytes : (bs : List ℕ) → stroke_bytes? (take 9 bs) ≡ stroke_bytes? bs
unfolding stroke_bytes? kind_in length_in
nine_bytes [] = refl
nine_bytes (a ∷ []) = refl
nine_bytes (a ∷ b ∷ []) = refl
nine_bytes (a ∷ b ∷ c ∷ []) = refl
nine_bytes (a ∷ b ∷ c ∷ d ∷ bs) = refl

-- a tick of four bytes
four_bytes : (bs : List ℕ) → number_in (take 4 bs) ≡ from_le_bytes w32 (get_or bs 0 0 ∷ get_or bs 1 0 ∷ get_or bs 2 0 ∷ get_or bs 3 0 ∷ [])
unfolding number_in
four_bytes [] = omega arith
four_bytes (a ∷ []) = omega arith
four_bytes (a ∷ b ∷ []) = omega arith
four_bytes (a ∷ b ∷ c ∷ []) = omega arith
four_bytes (a ∷ b ∷ c ∷ d ∷ bs) = omega arith

pub tick_read : (bs : List ℕ) → number_in (take 4 (drop 4 bs)) ≡ from_le_bytes w32 (get_or bs 4 0 ∷ get_or bs 5 0 ∷ get_or bs 6 0 ∷ get_or bs 7 0 ∷ [])
tick_read bs = four_bytes (drop 4 bs) ∙ rw (get_or-drop 4 bs 0 0, get_or-drop 4 bs 1 0, get_or-drop 4 bs 2 0, get_or-drop 4 bs 3 0)

five_of : (bs : List ℕ) → stroke_bytes? bs ≡ true → length_in bs ≡ 5
unfolding stroke_bytes?
five_of bs h = eqb-true (length_in bs) 5 (and_right (eqb (kind_in bs) 1 || eqb (kind_in bs) 2) (eqb (length_in bs) 5) h)

-- what stands in the nine bytes of a stroke
nine_read : (bs : List ℕ) → length_in bs ≡ 5 → stroke_of (record_in bs) ≡ stroke_read (take 9 bs)
unfolding stroke_of record_in body_in stroke_read kind_in
nine_read [] h = rw h refl
nine_read (a ∷ []) h = rw h refl
nine_read (a ∷ b ∷ []) h = rw h refl
nine_read (a ∷ b ∷ c ∷ []) h = rw h refl
nine_read (a ∷ b ∷ c ∷ d ∷ bs) h = rw h refl

-- the record at the start of bytes that are not cut
module _ (bs : List ℕ) (some : 1 ≤ length bs) (uncut : uncut? bs ≡ true) where
  by_head : stroke? (record_in bs) ≡ stroke_bytes? bs
  unfolding stroke? record_in stroke_bytes?
  by_head = rw (body_length bs (uncut_fits bs some uncut))

  all_next : all? stroke? (records_of bs) ≡ (stroke_bytes? bs && all? stroke? (records_of (drop (length_in bs + 4) bs)))
  unfolding all?
  all_next = rw (records_next bs some, by_head)

  -- it is no stroke, or nine bytes
  none : stroke_bytes? bs ≡ false → all? stroke? (records_of bs) ≡ false
  none f = all_next ∙ rw f

  module _ (t : stroke_bytes? bs ≡ true) where
    nine : length_in bs + 4 ≡ 9
    nine = omega (arith, five_of bs t)

    pub fits : 9 ≤ length bs
    fits = omega (arith, uncut_fits bs some uncut, five_of bs t)

    pub uncut_behind : uncut? (drop 9 bs) ≡ true
    uncut_behind = rw nine at (sym (uncut_next bs some (uncut_fits bs some uncut)) ∙ uncut)

    pub all_behind : all? stroke? (records_of bs) ≡ all? stroke? (records_of (drop 9 bs))
    all_behind = rw (nine, t) at all_next

    pub strokes_behind : strokes_in bs ≡ stroke_read (take 9 bs) ∷ strokes_in (drop 9 bs)
    unfolding strokes_in
    strokes_behind = rw (records_next bs some, nine, nine_read bs (five_of bs t))

-- fewer than nine bytes that are not cut
all_few : (bs : List ℕ) → length bs < 9 → uncut? bs ≡ true → all? stroke? (records_of bs) ≡ (eqb (length bs) 0 && true)
unfolding all? records_after
all_few [] few uncut = refl
all_few (b ∷ bs) few uncut = go (stroke_bytes? (b ∷ bs)) refl
  where
    go : (s : Bool) → stroke_bytes? (b ∷ bs) ≡ s → all? stroke? (records_of (b ∷ bs)) ≡ (eqb (length (b ∷ bs)) 0 && true)
    go true t = absurd (omega (arith, fits (b ∷ bs) (omega arith) uncut t))
    go false f = none (b ∷ bs) (omega arith) uncut f ∙ rw (ne_eqb (length (b ∷ bs)) 0 (λ (e : length (b ∷ bs) ≡ 0). omega arith))

-- bytes that are not cut, k nines and some that are left
pub all_nines : (k r : ℕ) (bs : List ℕ) → length bs ≡ k * 9 + r → r < 9 → uncut? bs ≡ true → all? stroke? (records_of bs) ≡ (eqb r 0 && list_all stroke_bytes? (first_chunks 9 k bs))
all_nines zero r bs e few uncut = let f : length bs ≡ r = omega arith in rw f at (all_few bs (omega arith) uncut)
all_nines (suc k) r bs e few uncut =
    go (stroke_bytes? bs) refl (λ (t : stroke_bytes? bs ≡ true). all_nines k r (drop 9 bs) (omega (arith, length-drop 9 bs)) few (uncut_behind bs (omega arith) uncut t))
  where
    rest : Bool
    rest = list_all stroke_bytes? (first_chunks 9 k (drop 9 bs))

    go : (s : Bool) → stroke_bytes? bs ≡ s → (stroke_bytes? bs ≡ true → all? stroke? (records_of (drop 9 bs)) ≡ (eqb r 0 && rest))
        → all? stroke? (records_of bs) ≡ (eqb r 0 && (stroke_bytes? (take 9 bs) && rest))
    go true t more = all_behind bs (omega arith) uncut t ∙ more t ∙ rw (nine_bytes bs, t)
    go false f more = none bs (omega arith) uncut f ∙ rw (nine_bytes bs, f) (sym (and-false (eqb r 0)))

no_strokes : strokes_in [] ≡ []
unfolding strokes_in records_after
no_strokes = refl

pub strokes_nines : (k : ℕ) (bs : List ℕ) → length bs ≡ k * 9 → uncut? bs ≡ true → list_all stroke_bytes? (first_chunks 9 k bs) ≡ true → strokes_in bs ≡ strokes_read (first_chunks 9 k bs)
strokes_nines zero [] e uncut all = no_strokes
strokes_nines zero (b ∷ bs) e uncut all = absurd (omega arith)
strokes_nines (suc k) bs e uncut all =
    let t : stroke_bytes? bs ≡ true = sym (nine_bytes bs) ∙ and_left (stroke_bytes? (take 9 bs)) _ all in
    strokes_behind bs (omega arith) uncut t
    ∙ ap (λ (ss : List Stroke). stroke_read (take 9 bs) ∷ ss)
    (strokes_nines k (drop 9 bs) (omega (arith, length-drop 9 bs)) (uncut_behind bs (omega arith) uncut t) (and_right (stroke_bytes? (take 9 bs)) _ all))

-- a trace cut into nines
module _ (trace : List ℕ) (uncut : uncut? trace ≡ true) (bytes : List (List ℕ)) (rest : List ℕ)
    (front : bytes ≡ first_chunks 9 (length trace / 9) trace) (back : length rest ≡ length trace % 9) where
  pub by_nines : all? stroke? (records_of trace) ≡ (eqb (length rest) 0 && list_all stroke_bytes? bytes)
  by_nines = rw (front, back) (all_nines (length trace / 9) (length trace % 9) trace (omega arith) (omega arith) uncut)

  pub they_are : length rest ≡ 0 → length bytes ≡ length trace / 9 → list_all stroke_bytes? bytes ≡ true → AreStrokesOf trace bytes
  they_are empty many all = record {
    is = rw front (strokes_nines (length trace / 9) trace (omega (arith, back)) uncut (rw front at all));
    nine_each = omega (arith, many);
  }

-- those that are left from an index on
module _ (bytes : List (List ℕ)) (i : ℕ) where
  pub next_read : i < length bytes → {s : Stroke} → s ≡ stroke_read (get_or bytes i []) → strokes_read (drop i bytes) ≡ s ∷ strokes_read (drop (i + 1) bytes)
  next_read h e = rw (drop_more bytes i [] h, e)

  -- the slice of those behind it has them all
  pub behind_all : take (length bytes - (i + 1)) (drop (i + 1) bytes) ≡ drop (i + 1) bytes
  behind_all = ap (λ (n : ℕ). take n (drop (i + 1) bytes)) (sym (length-drop (i + 1) bytes)) ∙ take-length (drop (i + 1) bytes)

  pub end_read : length bytes ≤ i → strokes_read (drop i bytes) ≡ []
  end_read h = ap strokes_read (drop_of_length-le bytes {i = i} h)

-- ticks that never fall: one that falls, one that does not, and the end
pub rising_not : {ss rest : List Stroke} {last : ℕ} {s : Stroke} → ss ≡ s ∷ rest → s.tick < last → rising? last ss ≡ false
unfolding rising?
rising_not {ss} {rest} {last} {s} e h = rw (e, lt-leb last s.tick h)

pub rising_on : {ss rest : List Stroke} {last : ℕ} {s : Stroke} → ss ≡ s ∷ rest → last ≤ s.tick → rising? last ss ≡ rising? s.tick rest
unfolding rising?
rising_on {ss} {rest} {last} {s} e h = rw (e, le-leb last s.tick h)

pub rising_end : (last : ℕ) {ss : List Stroke} → ss ≡ [] → rising? last ss ≡ true
unfolding rising?
rising_end last e = rw e
