-- What is left of a short message gives the same shown screen: the invariant of its loop, and a turn of it. An item that is not wide leaves the picture but at
-- the place of a character that it prints (calls' `untouched`), and that place is painted as it comes.
use mathlib.Core.Path.{◌∙◌, ◌≡◌, ap, refl, subst, sym}
use Prim.Native.Nat.{◌+◌, ◌-◌, ◌<◌, ◌≤◌, suc, zero, ℕ}
use native.Mathlib.Nat.{add-zero, zero-add}
use native.Mathlib.Numerals.{add-one}
use native.Mathlib.Omega.{arith}
use mathlib.Core.Bool.{Bool, ◌||◌, cond, false, not, true}
use mathlib.Core.List.{List, [], ◌∷◌}
use lib.ListN.{drop, get_or, length, length-set, set, take}
use lib.Dec.{eqb, leb}
use lib.Seq.{drop-cons, get_or-set_other, get_or-set_same}
use borrow.Author.Tests.{eqb-false, eqb-true, leb-false, leb-true, not-false}
use Rattle.model.specs.declared.Item.{Item}
use Rattle.model.specs.declared.Item.TheVariants.{Printed}
use Rattle.model.specs.Bytes.{list_from, put}
use Rattle.model.specs.State.{State}
use Rattle.model.specs.Checks.{member}
use Rattle.model.specs.Screens.{here}
use Rattle.model.specs.Sound.{Good}
use Rattle.model.specs.Picture.{painting, picture}
use Rattle.model.specs.Reading.{Read, byte_of, own_bytes, uncut}
use Rattle.model.specs.Rules.{apply_item, printed}
use Rattle.model.specs.Items.{apply_all, events_of, obeyed_by, printer_bytes}
use Rattle.calls.specs.Repaint.{calm?, lifts?, moves_top?, painted?, place_by, places_in, print_lifts?, print_place, repainted, shown_behind, wide?, wide_in}
use Rattle.model.proofs.ByteLaws.{get_or_list_from, get_or-put, length_list_from, length-put, put_before, same_list_from}
use Rattle.model.proofs.Events.{AllLegal, legal_reads}
use Rattle.calls.proofs.Loop.{ends, ends_turn, read_at, rest, rest_end, rest_next}
use Rattle.calls.proofs.Repainting.{printed_own, untouched}
use Rattle.model.proofs.Steps.{kept_printed}
use Rattle.model.proofs.Tests.{or_false}
use Rattle.views.specs.Painted.{painted}
use Rattle.views.proofs.Painted.{listed}
use Rattle.runs.specs.Run.{printed_all, prints?}
use Rattle.serving.proofs.Runs.{is_printed, own_one}
use Rattle.short_printing.specs.Seen.{seen_all, veiled, wide_all, wide_print}
use Rattle.short_obeying.proofs.Kept.{printed_hides}
use Rattle.short_printing.proofs.Seeing.{or_none}

-- what an item that is not wide must have painted: its character at its place, and no other
pub record Shows (r : Read) (st : State) (x x' : List ℕ) : Type 0 where
  pub others : (p : ℕ) → p < 640 → eqb p (place_by r.item st) ≡ false → get_or x' p 0 ≡ get_or x p 0
  pub own : place_by r.item st < 640 → get_or x' (place_by r.item st) 0 ≡ picture (obeyed_by r st) (place_by r.item st)

-- a printed character that is not wide: its place is painted, and no other
pub shows-character : (r : Read) (st : State) (b : ℕ) (x : List ℕ) (v : ℕ) → Good st → place_by r.item st ≡ print_place st → obeyed_by r st ≡ printed b st → cond (eqb st.settings.secret 1) 32 b ≡ v → length x ≡ 640
    → wide_print b st ≡ false → Shows r st x (set x (print_place st) v)
unfolding wide_print
shows-character r st b x v g place done hides size narrow =
    let u = or_false (print_lifts? st) (not (eqb (here (printed b st)).top (here st).top)) narrow in
    let top : (here (printed b st)).top ≡ (here st).top = eqb-true _ _ (not-false _ u.1) in
    record {
      others = λ p h o. get_or-set_other x (print_place st) p v 0 (eqb-false p (print_place st) (sym (ap (eqb p) place) ∙ o));
      own = λ h.
          let low : print_place st < 640 = omega (arith, h, place) in
          ap (λ (o : ℕ). get_or (set x (print_place st) v) o 0) place ∙ get_or-set_same x (print_place st) v 0 (omega (arith, low, size)) ∙ sym ((λ i. picture (done i) (place i)) ∙ printed_own st g b u.0 top low ∙ hides);
    }

-- a place: row 8 (u), an item before was wide (w), this one (v), one behind (z); it is printed by this one (e), by one behind (y)
by_place : (u w v z e y : Bool) {P X X' : ℕ} → (w ≡ false → v ≡ false → z ≡ false → e ≡ true → y ≡ false → X' ≡ P) → (w ≡ false → v ≡ false → e ≡ false → X' ≡ X)
    → cond (u || ((w || (v || z)) || (e || y))) P X ≡ cond (u || (((w || v) || z) || y)) P X'
by_place true w v z e y a b = refl
by_place false true v z e y a b = refl
by_place false false true z e y a b = refl
by_place false false false true e y a b = refl
by_place false false false false true true a b = refl
by_place false false false false false true a b = refl
by_place false false false false true false a b = sym (a refl refl refl refl refl)
by_place false false false false false false a b = sym (b refl refl refl)

-- an item, and those behind it
painted_turn : (r : Read) (rs : List Read) (st : State) (w w' : Bool) (x x' : List ℕ) → Good (obeyed_by r st) → AllLegal (events_of rs) (obeyed_by r st) → w' ≡ (w || wide? r st) → (w' ≡ false → Shows r st x x')
    → let end = apply_all (events_of rs) (obeyed_by r st) in repainted (w || wide_in (r ∷ rs) st) (places_in (r ∷ rs) st) end x ≡ repainted (w' || wide_in rs (obeyed_by r st)) (places_in rs (obeyed_by r st)) end x'
unfolding repainted wide_in places_in painted? member
painted_turn r rs st w w' x x' g legal e f =
    let b : State = obeyed_by r st in
    let end : State = apply_all (events_of rs) b in
    let q : ℕ = place_by r.item st in
    let narrow : w ≡ false → wide? r st ≡ false → w' ≡ false = λ s t. e ∙ (λ i. s i || t i) in
    same_list_from (λ p. cond (leb 560 p || ((w || (wide? r st || wide_in rs b)) || (eqb p q || member p (places_in rs b)))) (picture end p) (get_or x p 0))
    (λ p. cond (leb 560 p || ((w' || wide_in rs b) || member p (places_in rs b))) (picture end p) (get_or x' p 0)) 0 640
    (λ p l h.
    by_place (leb 560 p) w (wide? r st) (wide_in rs b) (eqb p q) (member p (places_in rs b))
    (λ s t z a y.
    let same : p ≡ q = eqb-true p q a in
    let low : q < 640 = omega (arith, h, same) in
    ap (λ (o : ℕ). get_or x' o 0) same ∙ (f (narrow s t)).own low ∙ ap (picture b) (sym same) ∙ sym (untouched rs b g legal p (omega (arith, h)) z y))
    (λ s t a. (f (narrow s t)).others p (omega (arith, h)) a)
    ∙ ap (λ (t : Bool). cond (leb 560 p || ((t || wide_in rs b) || member p (places_in rs b))) (picture end p) (get_or x' p 0)) (sym e))

-- the message m, what stood at first, the room for copies, and the shown screen as it came
module _ (m : List ℕ) (first : State) (all : ℕ) (shown₀ : List ℕ) where
  -- what the call must leave of the shown screen
  unfoldable pub target : List ℕ
  target = let rs = rest m 0 first all in shown_behind rs first (ends m 0 first all) shown₀

  -- at an offset: what stands, the room, whether an item was wide, and the shown screen now
  pub record Still (at : ℕ) (st : State) (room : ℕ) (w : Bool) (x : List ℕ) : Type 0 where
    pub size : length x ≡ 640
    pub same : let rs = rest m at st room in repainted (w || wide_in rs st) (places_in rs st) (ends m at st room) x ≡ target

  pub still_first : length shown₀ ≡ 640 → Still 0 first all false shown₀
  unfolding target
  still_first n = record { size = n; same = refl }

  -- an item obeyed
  pub still_turn : (at : ℕ) (st : State) (room : ℕ) {w w' : Bool} {x x' : List ℕ} → at < length m → Still at st room w x → let r = read_at m at st room in Good (obeyed_by r st) → w' ≡ (w || wide? r st) → length x' ≡ 640
      → (w' ≡ false → Shows r st x x') → Still (at + length (own_bytes m at)) (obeyed_by r st) (room - r.prints) w' x'
  unfolding ends rest
  still_turn at st room {w} {w'} {x} {x'} more s g e n f =
      let r : Read = read_at m at st room in
      let rs : List Read = rest m (at + length (own_bytes m at)) (obeyed_by r st) (room - r.prints) in
      let next : rest m at st room ≡ r ∷ rs = rest_next m at st room more in
      record {
        size = n;
        same =
            sym (painted_turn r rs st w w' x x' g (legal_reads (uncut (drop (at + length (own_bytes m at)) m)) _ _ _) e f)
            ∙ (λ i. repainted (w || wide_in (sym next i) st) (places_in (sym next i) st) (sym (ends_turn m at st room more) i) x) ∙ s.same;
      }

  -- a printed byte
  module _ (secret : ℕ) where
    one_byte : (at : ℕ) (st : State) (room : ℕ) {w : Bool} {x : List ℕ} → Good st → st.settings.secret ≡ secret → at < length m → 32 ≤ get_or m at 0 → Still at st room w x
        → let b = get_or m at 0 in Still (at + 1) (printed b st) room (w || wide_print b st) (set x (print_place st) (veiled secret b))
    unfolding read_at apply_item wide? moves_top? calm? lifts? place_by wide_print
    one_byte at st room {w} {x} g hides more prints s =
        let b : ℕ = get_or m at 0 in
        let r : Read = read_at m at st room in
        let is : r.item ≡ Printed b = is_printed m at more prints _ _ in
        let done : obeyed_by r st ≡ printed b st = ap (λ (i : Item). apply_item (byte_of r) i st) is in
        let none : r.prints ≡ 0 = ap (printer_bytes st.settings.mode) is in
        let wide : wide? r st ≡ wide_print b st = λ i. not (calm? (is i)) || (lifts? (is i) st || not (eqb (here (done i)).top (here st).top)) in
        let place : place_by r.item st ≡ print_place st = ap (λ (i : Item). place_by i st) is in
        let shows : (w || wide_print b st) ≡ false → Shows r st x (set x (print_place st) (veiled secret b)) = λ n. shows-character r st b x (veiled secret b) g place done (ap (λ (n : ℕ). cond (eqb n 1) 32 b) hides) s.size (or_false w (wide_print b st) n).1 in
        let t = still_turn at st room more s (subst Good (sym done) (kept_printed st g b).good) (ap (λ (t : Bool). w || t) (sym wide)) (length-set x (print_place st) (veiled secret b) ∙ s.size) shows in
        let size : at + length (own_bytes m at) ≡ at + 1 = ap (λ (bs : List ℕ). at + length bs) (own_one m at more prints) in
        let left : room - r.prints ≡ room = omega (arith, none) in
        subst (λ (k : ℕ). Still (at + 1) (printed b st) k (w || wide_print b st) (set x (print_place st) (veiled secret b))) left
        (subst (λ (k : ℕ). Still k (printed b st) (room - r.prints) (w || wide_print b st) (set x (print_place st) (veiled secret b))) size
        (subst (λ (a : State). Still (at + length (own_bytes m at)) a (room - r.prints) (w || wide_print b st) (set x (print_place st) (veiled secret b))) done t))

    -- and a run of them
    pub still_run : (n at : ℕ) (st : State) (room : ℕ) {w : Bool} {x : List ℕ} → Good st → st.settings.secret ≡ secret → at + n ≤ length m → ((j : ℕ) → at ≤ j → j < at + n → prints? m j ≡ true) → Still at st room w x
        → let bs = take n (drop at m) in Still (at + n) (printed_all bs st) room (w || wide_all bs st) (seen_all secret bs st x)
    unfolding printed_all wide_all seen_all
    still_run zero at st room {w} {x} g hides h p s = subst (λ (t : Bool). Still (at + 0) st room t x) (sym (or_none w)) (subst (λ (k : ℕ). Still k st room w x) (sym (add-zero at)) s)
    still_run (suc n) at st room {w} {x} g hides h p s =
        let b : ℕ = get_or m at 0 in
        let e : at + 1 + n ≡ at + suc n = omega arith in
        let z : take (suc n) (drop at m) ≡ b ∷ take n (drop (at + 1) m) = rw (add-one, drop-cons m at 0 (omega arith)) in
        let t = still_run n (at + 1) (printed b st) room (kept_printed st g b).good (printed_hides b st ∙ hides) (omega arith) (λ j u v. p j (omega arith) (omega arith))
        (one_byte at st room g hides (omega arith) (leb-true 32 b (p at (omega arith) (omega arith))) s) in
        let bs : List ℕ = take n (drop (at + 1) m) in
        subst (λ (cs : List ℕ). Still (at + suc n) (printed_all cs st) room (w || wide_all cs st) (seen_all secret cs st x)) (sym z)
        (subst (λ (o : Bool). Still (at + suc n) (printed_all bs (printed b st)) room o (seen_all secret bs (printed b st) (set x (print_place st) (veiled secret b)))) (assoc w (wide_print b st) (wide_all bs (printed b st)))
        (subst (λ (k : ℕ). Still k (printed_all bs (printed b st)) room ((w || wide_print b st) || wide_all bs (printed b st)) (seen_all secret bs (printed b st) (set x (print_place st) (veiled secret b)))) e t))
      where
        assoc : (a b c : Bool) → ((a || b) || c) ≡ (a || (b || c))
        assoc true b c = refl
        assoc false b c = refl

  -- the end: nothing is left to read
  pub still_last : (at : ℕ) (st : State) (room : ℕ) {w : Bool} {x : List ℕ} → length m ≤ at → Still at st room w x → repainted w [] st x ≡ target
  unfolding ends wide_in places_in apply_all
  still_last at st room {w} {x} h s =
      let none : rest m at st room ≡ [] = rest_end m at st room h in
      sym ((λ i. repainted (w || wide_in (none i) st) (places_in (none i) st) (apply_all (events_of (none i)) st) x) ∙ ap (λ (t : Bool). repainted t [] st x) (or_none w)) ∙ s.same

-- all places painted, or row 8 alone
pub all_painted : (st : State) (x : List ℕ) → painting st ≡ repainted true [] st x
unfolding painting repainted painted?
all_painted st x = same_list_from (picture st) (λ p. cond (leb 560 p || true) (picture st p) (get_or x p 0)) 0 640 (λ p l h. every (leb 560 p) (picture st p) (get_or x p 0))
  where
    every : (u : Bool) (P X : ℕ) → P ≡ cond (u || true) P X
    every true P X = refl
    every false P X = refl

pub row-painted : (st : State) (x : List ℕ) → length x ≡ 640 → painted 560 80 (picture st) x ≡ repainted false [] st x
unfolding painted repainted painted? member
row-painted st x n =
    let ys : List ℕ = list_from (picture st) 560 80 in
    listed (λ p. cond (leb 560 p || false) (picture st p) (get_or x p 0)) 0 640 (put 560 ys x) (length-put 560 ys x (fits n) ∙ n) (λ k l. place k l (leb 560 k) refl ∙ ap (λ (p : ℕ). cond (leb 560 p || false) (picture st p) (get_or x p 0)) (sym (zero-add k)))
  where
    fits : length x ≡ 640 → 560 + length (list_from (picture st) 560 80) ≤ length x
    fits n = omega (arith, n, length_list_from (picture st) 560 80)

    place : (k : ℕ) → k < 640 → (b : Bool) → leb 560 k ≡ b → get_or (put 560 (list_from (picture st) 560 80) x) k 0 ≡ cond (leb 560 k || false) (picture st k) (get_or x k 0)
    place k l true e =
        let at : 560 + (k - 560) ≡ k = omega (arith, leb-true 560 k e) in
        ap (λ (p : ℕ). get_or (put 560 (list_from (picture st) 560 80) x) p 0) (sym at) ∙ get_or-put 560 (list_from (picture st) 560 80) x (fits n) (k - 560) (omega (arith, l, length_list_from (picture st) 560 80))
        ∙ get_or_list_from (picture st) 80 560 (k - 560) (omega (arith, l)) ∙ ap (picture st) at ∙ ap (λ (b : Bool). cond (b || false) (picture st k) (get_or x k 0)) (sym e)
    place k l false e = put_before 560 (list_from (picture st) 560 80) x (fits n) k (omega (arith, leb-false 560 k e)) ∙ ap (λ (b : Bool). cond (b || false) (picture st k) (get_or x k 0)) (sym e)

-- what the end paints
pub last_painted : (w : Bool) (st : State) (x : List ℕ) → length x ≡ 640 → cond w (painting st) (painted 560 80 (picture st) x) ≡ repainted w [] st x
last_painted true st x n = all_painted st x
last_painted false st x n = row-painted st x n
