-- The laws of the code: limits by the selected screen, the reader's word from what it read, bytes laid down, and the ways through a call that
-- writes, in the order of the numbers.
use mathlib.Core.Path.{◌∙◌, ◌≡◌, ap, refl, subst, sym}
use Prim.Native.Nat.{ℕ, ◌+◌, ◌<◌, ◌≤◌}
use native.Mathlib.Omega.{arith}
use mathlib.Core.Bool.{Bool, ◌&&◌, and-false, cond, false, true}
use mathlib.Core.List.{List, [], ◌∷◌}
use lib.ListN.{drop, get_or, length, take}
use lib.Seq.{length-take-le, take_all, take-length}
use lib.Dec.{eqb, ltb}
use borrow.Author.Tests.{eq-eqb, le-leb, le-ltb, lt-leb, lt-ltb, ltb-false, ltb-true, ne_eqb}
use Rattle.model.specs.declared.Settings.{Settings}
use Rattle.model.specs.declared.Limits.{Limits}
use Rattle.model.specs.declared.Sequence.{Sequence as Seq}
use Rattle.model.specs.declared.Sequence.TheVariants.{Select}
use Rattle.model.specs.declared.Item.{Item}
use Rattle.model.specs.declared.Item.TheVariants.{Printed, Control, Sequence, Refused}
use Rattle.model.specs.Bytes.{put}
use Rattle.model.specs.Picture.{copy_size_of}
use Rattle.model.specs.Sequences.{code_of, mode_row_of, mode_rows, refusal, row_of, rows}
use Rattle.model.specs.Reading.{decoded, ended, item_of, kind_of, needed, own_bytes, unfinished?}
use Rattle.model.specs.Judging.{allowed, bad_of, fitting, judged, legal?, limits_of}
use Rattle.model.specs.Screens.{columns_of, height, lines_of}
use Rattle.model.specs.Sound.{sound?}
use Rattle.calls.specs.Calls.{first_of, reason}
use Rattle.model.proofs.Gathering.{found, needed_most}
use Rattle.model.proofs.Tests.{cond_at, elim_at}
use Rattle.store.proofs.Laws.{put_front}
use Rattle.reader.specs.Reading.{ReadAt}
use Rattle.reader.specs.declared.Reading.{Reading}
use Rattle.spelling.specs.Spelling.{bytes_of}
use Rattle.spelling.specs.Given.{given_bytes}
use Rattle.spelling.proofs.Told.{needed_alone}
use Rattle.writer.specs.declared.Reached.{Reached}
use Rattle.writer.specs.declared.Refusal.{Refusal}
use Rattle.std.specs.Prelude.{Result, Ok, Err}
use Rattle.writer.specs.Writing.{Wanted, buffer_after, number_in, number_of, parameter_in, parameter_of, place_after, said, said_of_all, space?, wanted, wanted_by}
use Rattle.writer.specs.Promised.{Laid, Told, WritePromised, reached}

-- the limits of the selected screen
module _ (s : Settings) (h : ℕ) (f : h ≡ height s) where
  abbrev Are : ℕ → ℕ → Type 0
  Are l c = ◌≡◌ {A = Limits} (record { mode = s.mode; lines = l; columns = c; height = h }) (limits_of s)

  pub limits_first : s.selected ≡ 0 → Are s.lines1 s.columns1
  unfolding lines_of columns_of
  limits_first e = rw (eq-eqb s.selected 0 e, f)

  pub limits_second : (s.selected ≡ 0 → ⊥) → Are s.lines2 s.columns2
  unfolding lines_of columns_of
  limits_second e = rw (ne_eqb s.selected 0 e, f)

-- no item is refused by 0: not as it is read, nor as it is judged
abbrev some? : Item → Bool
some? (Printed c) = true
some? (Control c) = true
some? (Sequence q) = true
some? (Refused n p) = ltb 0 n

item_some : (at : ℕ) (bs : List ℕ) → some? (item_of at bs) ≡ true
unfolding item_of ended decoded kind_of row_of mode_row_of
item_some at bs =
    let p : ℕ → ℕ = λ n. get_or bs (n + 1) 0 in
    let N : Item → Type 0 = λ i. some? i ≡ true in
    elim_at N (unfinished? bs) (ended bs) (decoded at bs)
    (λ e. elim_at N (eqb (get_or bs 1 0) 209) (Sequence (Select 0)) (Refused 12 0) (λ e. refl) (λ e. refl))
    (λ e. elim_at N (eqb (get_or bs 0 0) 27) ((kind_of bs).made p (at + 2)) _
    (λ e. elim_at (λ r. N (r.made p (at + 2))) (eqb (get_or bs 1 0) 208) (mode_row_of (get_or bs 2 0)) (row_of (get_or bs 1 0))
    (λ e. found (λ r. some? (r.made p (at + 2))) (refusal 0 3 11 1) mode_rows (get_or bs 2 0) refl refl)
    (λ e. found (λ r. some? (r.made p (at + 2))) (refusal 0 2 10 0) rows (get_or bs 1 0) refl refl))
    (λ e. elim_at N (ltb (get_or bs 0 0) 32) (Control (get_or bs 0 0)) (Printed (get_or bs 0 0)) (λ e. refl) (λ e. refl)))

judged_some : (i : Item) (l : Limits) (room : ℕ) → some? i ≡ true → some? (judged i l room) ≡ true
unfolding allowed fitting
judged_some (Printed c) l room h = refl
judged_some (Control c) l room h = refl
judged_some (Sequence q) l room h =
    cond_at (λ (i : Item). some? (fitting l.mode i room) ≡ true) (legal? q l) (Sequence q) (Refused 11 (bad_of q l))
    (λ e. cond_at (λ (i : Item). some? i ≡ true) (eqb (code_of q) 80 && ltb room (copy_size_of l.mode)) (Refused 13 0) (Sequence q) (λ f. refl) (λ f. refl))
    (λ e. refl)
judged_some (Refused n p) l room h = h

pub refused_some : {i : Item} {n p : ℕ} (at : ℕ) (bs : List ℕ) (l : Limits) (room : ℕ) → i ≡ judged (item_of at bs) l room → i ≡ Refused n p → n ≡ 0 → ⊥
refused_some {n = n} at bs l room e f z =
    let h : 0 < n = ltb-true 0 n (ap some? (sym f ∙ e) ∙ judged_some (item_of at bs) l room (item_some at bs)) in omega arith

-- the word of an item
pub told_none : (i : Item) → ((n p : ℕ) → i ≡ Refused n p → ⊥) → Told i (Ok tt)
unfolding number_in parameter_in
told_none (Printed c) o = (refl, refl)
told_none (Control c) o = (refl, refl)
told_none (Sequence q) o = (refl, refl)
told_none (Refused n p) o = absurd (o n p refl)

pub told_as : {i j : Item} (v : Result (Unit {0}) Refusal) → i ≡ j → Told i v → Told j v
told_as v e = subst (λ (i : Item). Told i v) e

pub told_refused : {i : Item} {n p : ℕ} → i ≡ Refused n p → (n ≡ 0 → ⊥) → Told i (Err (record { number = n; parameter = p }))
unfolding number_in parameter_in
told_refused {n = n} {p = p} e z = told_as (Err (record { number = n; parameter = p })) (sym e) (refl, refl, z)

-- what the reader read of all the bytes m, under these limits
module _ (s : Settings) (m : List ℕ) (l : Limits) (room : ℕ) (r : Reading) (at : ReadAt m 0 l room r) where
  own_length : r.length ≡ length (take (needed m) m)
  unfolding own_bytes
  own_length = at.length_is

  -- it ended before them
  pub read_short : r.length < length m → said_of_all s m ≡ Refused 10 0
  unfolding said_of_all
  read_short h =
      cond_at (λ (i : Item). i ≡ Refused 10 0) (ltb (needed m) (length m)) (Refused 10 0) (said s m) (λ e. refl)
      (λ e. let k = ap length (take_all (needed m) m (ltb-false (needed m) (length m) e)) in absurd (omega (arith, own_length, k, h)))

  -- it took them all
  pub read_all : (r.length < length m → ⊥) → l ≡ limits_of s → room ≡ copy_size_of s.mode → r.item ≡ said_of_all s m
  unfolding said_of_all said own_bytes
  read_all h f g =
      cond_at (λ (i : Item). r.item ≡ i) (ltb (needed m) (length m)) (Refused 10 0) (said s m)
      (λ e. let n = ltb-true (needed m) (length m) e in let k = length-take-le (needed m) m (omega (arith, n)) in absurd (h (omega (arith, own_length, k, n))))
      (λ e. let p : take (needed m) m ≡ m = take_all (needed m) m (ltb-false (needed m) (length m) e) in at.item_is ∙ (λ i. judged (item_of 0 (p i)) (f i) (g i)))

-- 22, or all is laid down
pub laid_none : (b : List ℕ) (at : ℕ) (bs : List ℕ) → length b < at + length bs → Laid b at bs b (record { place = at; number = 22; parameter = 0 })
unfolding space?
laid_none b at bs h = let e = lt-leb (at + length bs) (length b) h in record { number_is = rw e; parameter_is = refl; place_is = rw e; buffer_is = rw e }

pub laid_all_lem : (b : List ℕ) (at : ℕ) (bs b' : List ℕ) (n : ℕ) → at + length bs ≤ length b → n ≡ at + length bs → b' ≡ put at bs b → Laid b at bs b' (record { place = n; number = 0; parameter = 0 })
unfolding space?
laid_all_lem b at bs b' n h p q = let e = le-leb (at + length bs) (length b) h in record { number_is = rw e; parameter_is = refl; place_is = rw e p; buffer_is = rw e q }

-- 22 is a refusal, 0 is none
unless : {X : Type 0} (t : Bool) (x y : X) → cond (eqb (cond t 0 22) 0) x y ≡ cond t x y
unless true x y = refl
unless false x y = refl

-- the number by its three tests: sound settings, no refusal of the reader's, whose number is n, and space
abbrev pub by_tests : Bool → Bool → Bool → ℕ → ℕ
by_tests t u v n = first_of (reason 3 t ∷ reason n u ∷ reason 22 v ∷ [])

-- the last of them alone
pub last_test : (v : Bool) (n : ℕ) → by_tests true true v n ≡ cond v 0 22
unfolding first_of
last_test true n = refl
last_test false n = refl

-- the ways through a call, of whatever is wanted
module _ (s : Settings) (x : Wanted) (b : List ℕ) (at : ℕ) where
  -- a refusal: nothing is altered
  refused : (n p : ℕ) → n ≡ number_of s x b at → p ≡ parameter_of s x → (n ≡ 0 → ⊥) → WritePromised s x b at b (record { place = at; number = n; parameter = p })
  unfolding place_after buffer_after
  refused n p e d z =
      let f : eqb (number_of s x b at) 0 ≡ false = ne_eqb (number_of s x b at) 0 (λ y. z (e ∙ y)) in
      record { number_is = e; parameter_is = d; place_is = rw f; buffer_is = rw f }

  -- 3
  pub unsound : sound? s ≡ false → WritePromised s x b at b (record { place = at; number = 3; parameter = 0 })
  unfolding number_of first_of parameter_of
  unsound e = refused 3 0 (ap (λ (t : Bool). by_tests t (eqb (number_in x.word) 0) (space? b at x.bytes) (number_in x.word)) (sym e)) (rw e) (λ z. omega arith)

  module _ (e : sound? s ≡ true) where
    passed_on : {p : ℕ} → p ≡ parameter_in x.word → p ≡ parameter_of s x
    unfolding parameter_of
    passed_on h = h ∙ sym (rw e)

    -- the reader's number
    pub refused_read : (v : Refusal) → Told x.word (Err v) → WritePromised s x b at b (reached at (Err v))
    unfolding number_of first_of
    refused_read v w =
        let f : eqb (number_in x.word) 0 ≡ false = ne_eqb (number_in x.word) 0 (λ y. w.2 (w.0 ∙ y)) in
        refused v.number v.parameter (λ i. by_tests (sym e i) (sym f i) (space? b at x.bytes) (w.0 i)) (passed_on w.1) w.2

    numbered : number_in x.word ≡ 0 → number_of s x b at ≡ cond (space? b at x.bytes) 0 22
    unfolding number_of
    numbered z =
        let f : eqb (number_in x.word) 0 ≡ true = eq-eqb (number_in x.word) 0 z in
        (λ i. by_tests (e i) (f i) (space? b at x.bytes) (number_in x.word)) ∙ last_test (space? b at x.bytes) (number_in x.word)

    -- 22, or written
    pub laid : Told x.word (Ok tt) → (b' : List ℕ) (r : Reached) → Laid b at x.bytes b' r → WritePromised s x b at b' r
    unfolding place_after buffer_after
    laid w b' r h =
        let k = numbered w.0 in
        record {
          number_is = h.number_is ∙ sym k;
          parameter_is = h.parameter_is ∙ passed_on (sym w.1);
          place_is = h.place_is ∙ sym (rw k (unless (space? b at x.bytes) _ _));
          buffer_is = h.buffer_is ∙ sym (rw k (unless (space? b at x.bytes) _ _));
        }

-- what is written of a named sequence: the reader takes all its bytes
pub wanted-named : (s : Settings) (q : Seq) (rows : List ℕ) (bs : List ℕ) → length rows ≡ 8 → bs ≡ bytes_of q rows → ◌≡◌ {A = Wanted} (record { word = said_of_all s bs; bytes = bs }) (wanted s q rows)
unfolding said_of_all
wanted-named s q rows bs e f =
    let w : List ℕ → Wanted = λ l. record { word = said_of_all s l; bytes = l } in
    ap w f ∙ ap (λ (b : Bool). record { word = cond b (Refused 10 0) (said s (bytes_of q rows)); bytes = bytes_of q rows }) (le-ltb (needed (bytes_of q rows)) (length (bytes_of q rows)) (omega (arith, needed_alone q rows e)))

-- and of a second byte with its parameters
pub wanted-given : (s : Settings) (second : ℕ) (ps bs : List ℕ) → bs ≡ given_bytes second ps → ◌≡◌ {A = Wanted} (record { word = said_of_all s bs; bytes = bs }) (wanted_by s second ps)
wanted-given s second ps bs e = ap (λ (l : List ℕ). record { word = said_of_all s l; bytes = l }) e

pub promised_as : {s : Settings} {x y : Wanted} {b : List ℕ} {at : ℕ} {b' : List ℕ} {r : Reached} → x ≡ y → WritePromised s x b at b' r → WritePromised s y b at b' r
promised_as {s} {b = b} {at = at} {b' = b'} {r = r} e = subst (λ (x : Wanted). WritePromised s x b at b' r) e

-- more parameters than any sequence has
module _ (s : Settings) (second : ℕ) (ps : List ℕ) (h : 11 < length ps) where
  ten : said_of_all s (given_bytes second ps) ≡ Refused 10 0
  unfolding said_of_all given_bytes
  ten =
      let e : (eqb second 209 && eqb (length ps) 0) ≡ false = ap (λ (t : Bool). eqb second 209 && t) (ne_eqb (length ps) 0 (λ z. omega (arith, h, z))) ∙ and-false (eqb second 209) in
      let all : List ℕ → Item = λ bs. cond (ltb (needed bs) (length bs)) (Refused 10 0) (said s bs) in
      ap (λ (t : Bool). all (cond t (27 ∷ 209 ∷ 0 ∷ []) (27 ∷ second ∷ ps))) e
      ∙ ap (λ (t : Bool). cond t (Refused 10 0) (said s (27 ∷ second ∷ ps))) (lt-ltb (needed (27 ∷ second ∷ ps)) (length (27 ∷ second ∷ ps)) (omega (arith, needed_most (27 ∷ second ∷ ps), h)))

  pub too_many : (b : List ℕ) (at : ℕ) (r : Reached) → r ≡ record { place = at; number = cond (sound? s) 10 3; parameter = 0 } → WritePromised s (wanted_by s second ps) b at b r
  unfolding number_of first_of parameter_of number_in parameter_in
  too_many b at r e =
      let x : Wanted = wanted_by s second ps in
      subst (λ (r : Reached). WritePromised s x b at b r) (sym e)
      (refused s x b at (cond (sound? s) 10 3) 0
      (number (sound? s) (space? b at x.bytes) ∙ ap (λ (i : Item). by_tests (sound? s) (eqb (number_in i) 0) (space? b at x.bytes) (number_in i)) (sym ten))
      (zero (sound? s) ∙ ap (λ (i : Item). cond (sound? s) (parameter_in i) 0) (sym ten))
      (some (sound? s)))
    where
      number : (t v : Bool) → cond t 10 3 ≡ by_tests t false v 10
      number true v = refl
      number false v = refl

      zero : (t : Bool) → ◌≡◌ {A = ℕ} 0 (cond t 0 0)
      zero true = refl
      zero false = refl

      some : (t : Bool) → ◌≡◌ {A = ℕ} (cond t 10 3) 0 → ⊥
      some true z = omega (arith, z)
      some false z = omega (arith, z)

-- what is gathered
module _ (second : ℕ) (ps : List ℕ) where
  pub given_alone : (eqb second 209 && eqb (length ps) 0) ≡ true → 27 ∷ 209 ∷ 0 ∷ [] ≡ given_bytes second ps
  unfolding given_bytes
  given_alone e = ap (λ (t : Bool). cond t (27 ∷ 209 ∷ 0 ∷ []) (27 ∷ second ∷ ps)) (sym e)

  pub given-more : (eqb second 209 && eqb (length ps) 0) ≡ false → length ps ≤ 11 → (bs : List ℕ) → bs ≡ put 2 (take (length ps) (drop 0 ps)) (27 ∷ second ∷ 0 ∷ 0 ∷ 0 ∷ 0 ∷ 0 ∷ 0 ∷ 0 ∷ 0 ∷ 0 ∷ 0 ∷ 0 ∷ [])
      → take (length ps + 2) bs ≡ given_bytes second ps
  unfolding given_bytes
  given-more e h bs f =
      let z : List ℕ = 27 ∷ second ∷ 0 ∷ 0 ∷ 0 ∷ 0 ∷ 0 ∷ 0 ∷ 0 ∷ 0 ∷ 0 ∷ 0 ∷ 0 ∷ [] in
      let p : bs ≡ put 2 ps z = f ∙ ap (λ (l : List ℕ). put 2 l z) (take-length ps) in
      let n : length ps + 2 ≡ 2 + length ps = omega arith in
      (λ i. take (n i) (p i)) ∙ put_front 2 ps z (omega (arith, h)) ∙ ap (λ (t : Bool). cond t (27 ∷ 209 ∷ 0 ∷ []) (27 ∷ second ∷ ps)) (sym e)
