-- P8: two readings in step, judged by limits alone, keep what two states share (`Hidden`) item by item; so they count, print, leave and paint the same.
use mathlib.Core.Path.{◌∙◌, ◌≡◌, ap, refl, subst, sym}
use Prim.Native.Nat.{◌+◌, ◌-◌, ℕ}
use mathlib.Core.Bool.{Bool, ◌||◌, cond, false, not}
use mathlib.Core.List.{List, [], ◌++◌, ◌∷◌}
use lib.ListN.{length}
use lib.Dec.{eqb, ltb}
use Rattle.model.specs.declared.Answer.{Answer}
use Rattle.model.specs.declared.Limits.{Limits}
use Rattle.model.specs.declared.Sequence.TheVariants.{PrintCode}
use Rattle.model.specs.declared.Item.{Item}
use Rattle.model.specs.declared.Item.TheVariants.{Control, Printed, Refused, Sequence}
use Rattle.model.specs.State.{State}
use Rattle.model.specs.Checks.{member}
use Rattle.model.specs.Screens.{here}
use Rattle.model.specs.Sequences.{code_of, find, idle?, row_of}
use Rattle.model.specs.Reading.{Read, after_escape, byte_of, decoded, item_of, kind_of, needed, unfinished?}
use Rattle.model.specs.Judging.{allowed, fitting, judged, limits_of}
use Rattle.model.specs.Rules.{apply_item, obeyed, printed}
use Rattle.model.specs.Items.{Event, apply_all, copies, copy_of, counted, counted_all, events_of, happened, item_read, key_set, line_left, obeyed_by, printer_bytes, read, reads_of}
use Rattle.calls.specs.Repaint.{calm?, lifts?, moves_top?, place_by, places_in, wide?, wide_in}
use Rattle.model.specs.Hidden.{Hidden, reveals}
use Rattle.secrecy.specs.Secrecy.{revealed}
use Rattle.model.proofs.Tests.{by_test, differ, elim_at, or_false}
use Rattle.calls.proofs.SecretRules.{blind}
use Rattle.secrecy.proofs.Reading.{Twin, Twins, bytes, codes, judged_code, more, none, same}

-- what two items that were read have in common
pub record Matched (r s : Read) : Type 0 where
  pub printer : r.prints ≡ s.prints
  pub long : length r.bytes ≡ length s.bytes
  pub count : (x : Answer) → counted r.item r.at r.prints x ≡ counted s.item s.at s.prints x
  pub calm : calm? r.item ≡ calm? s.item
  pub after : {a b : State} → reveals r.item ≡ false → Hidden a b → Hidden (obeyed_by r a) (obeyed_by s b)
  pub copy : {a b : State} → Hidden a b → copy_of r.item a ≡ copy_of s.item b
  pub lifts : {a b : State} → Hidden a b → lifts? r.item a ≡ lifts? s.item b
  pub place : {a b : State} → Hidden a b → place_by r.item a ≡ place_by s.item b

-- the same item
copy_self : (i : Item) {a b : State} → Hidden a b → copy_of i a ≡ copy_of i b
copy_self (Printed c) h = refl
copy_self (Control c) h = refl
copy_self (Sequence q) {a} {b} h = ap (λ (l : List ℕ). cond (eqb (code_of q) 80) l []) (blind a b h).copies
copy_self (Refused n p) h = refl

matched_self : (r : Read) → Matched r r
matched_self r = record {
  printer = refl;
  long = refl;
  count = λ x. refl;
  calm = refl;
  after = λ {a} {b} v h. (blind a b h).items (byte_of r) r.item v;
  copy = λ h. copy_self r.item h;
  lifts = λ {a} {b} h. (blind a b h).lifts r.item;
  place = λ {a} {b} h. (blind a b h).places r.item;
}

-- two printed characters
data Characters : Item → Item → Type 0 where
  both_bytes : (c d : ℕ) → Characters (Printed c) (Printed d)
  both_codes : (c d : ℕ) → Characters (Sequence (PrintCode c)) (Sequence (PrintCode d))

-- 37 is idle in no mode
obeyed_code : (m : ℕ → ℕ) (c : ℕ) (a : State) → apply_item m (Sequence (PrintCode c)) a ≡ printed c a
unfolding apply_item obeyed idle? member
obeyed_code m c a = by_test (λ b. cond (cond b false false) a (printed c a) ≡ printed c a) (eqb a.settings.mode 3) refl refl

characters_printed : {i j : Item} (m n : ℕ → ℕ) → Characters i j → {a b : State} → Hidden a b → Hidden (apply_item m i a) (apply_item n j b)
unfolding apply_item
characters_printed m n (both_bytes c d) {a} {b} h = (blind a b h).characters c d
characters_printed m n (both_codes c d) {a} {b} h =
    subst (λ (x : State). Hidden x (apply_item n (Sequence (PrintCode d)) b)) (sym (obeyed_code m c a)) (subst (Hidden (printed c a)) (sym (obeyed_code n d b)) ((blind a b h).characters c d))

characters_count : {i j : Item} → Characters i j → (at n : ℕ) (x : Answer) → counted i at n x ≡ counted j at n x
characters_count (both_bytes c d) at n x = refl
characters_count (both_codes c d) at n x = refl

characters_calm : {i j : Item} → Characters i j → calm? i ≡ calm? j
unfolding calm?
characters_calm (both_bytes c d) = refl
characters_calm (both_codes c d) = refl

characters_printer : {i j : Item} → Characters i j → (x y : ℕ) → printer_bytes x i ≡ printer_bytes y j
characters_printer (both_bytes c d) x y = refl
characters_printer (both_codes c d) x y = refl

characters_copy : {i j : Item} → Characters i j → (a b : State) → copy_of i a ≡ copy_of j b
characters_copy (both_bytes c d) a b = refl
characters_copy (both_codes c d) a b = refl

characters_lifts : {i j : Item} → Characters i j → (a b : State) → Hidden a b → lifts? i a ≡ lifts? j b
unfolding lifts?
characters_lifts (both_bytes c d) a b h = (blind a b h).lifts (Printed c)
characters_lifts (both_codes c d) a b h = (blind a b h).lifts (Sequence (PrintCode c))

characters_place : {i j : Item} → Characters i j → (a b : State) → Hidden a b → place_by i a ≡ place_by j b
unfolding place_by
characters_place (both_bytes c d) a b h = (blind a b h).places (Printed c)
characters_place (both_codes c d) a b h = (blind a b h).places (Sequence (PrintCode c))

matched_characters : (r s : Read) {i j : Item} → Characters i j → r.item ≡ i → s.item ≡ j → r.at ≡ s.at → r.prints ≡ s.prints → length r.bytes ≡ length s.bytes → Matched r s
matched_characters r s {i} {j} c e f p n l = record {
  printer = n;
  long = l;
  count = λ x. (λ k. counted (e k) (p k) (n k) x) ∙ characters_count c s.at s.prints x ∙ sym (λ k. counted (f k) s.at s.prints x);
  calm = ap calm? e ∙ characters_calm c ∙ sym (ap calm? f);
  after = λ {a} {b} v h. subst (λ (x : Item). Hidden (apply_item (byte_of r) x a) (obeyed_by s b)) (sym e) (subst (λ (x : Item). Hidden (apply_item (byte_of r) i a) (apply_item (byte_of s) x b)) (sym f) (characters_printed (byte_of r) (byte_of s) c h));
  copy = λ {a} {b} h. ap (λ (x : Item). copy_of x a) e ∙ characters_copy c a b ∙ sym (ap (λ (x : Item). copy_of x b) f);
  lifts = λ {a} {b} h. ap (λ (x : Item). lifts? x a) e ∙ characters_lifts c a b h ∙ sym (ap (λ (x : Item). lifts? x b) f);
  place = λ {a} {b} h. ap (λ (x : Item). place_by x a) e ∙ characters_place c a b h ∙ sym (ap (λ (x : Item). place_by x b) f);
}

-- what their bytes are read as
byte_read : (at c : ℕ) (l : Limits) (room : ℕ) → eqb c 27 ≡ false → ltb c 32 ≡ false → judged (item_of at (c ∷ [])) l room ≡ Printed c
unfolding item_of unfinished? needed after_escape decoded allowed fitting
byte_read at c l room e f =
    elim_at (λ (i : Item). judged i l room ≡ Printed c) (ltb 1 (cond (eqb c 27) 2 1)) _ _
    (λ z. absurd (differ (sym z ∙ ap (λ (b : Bool). ltb 1 (cond b 2 1)) e)))
    (λ z. elim_at (λ (i : Item). judged i l room ≡ Printed c) (eqb c 27) _ _ (λ y. absurd (differ (sym y ∙ e)))
    (λ y. elim_at (λ (i : Item). judged i l room ≡ Printed c) (ltb c 32) _ _ (λ x. absurd (differ (sym x ∙ f))) (λ x. refl)))

code_read : (at c : ℕ) (l : Limits) (room : ℕ) → judged (item_of at (27 ∷ 37 ∷ c ∷ [])) l room ≡ Sequence (PrintCode c)
unfolding item_of unfinished? needed after_escape decoded kind_of row_of find
code_read at c l room = judged_code c l room

-- judged by limits alone: equal offsets, limits and room
module _ {x y : List ℕ} {i j : Item} (c : Characters i j) (p q : ℕ) (l k : Limits) (m n : ℕ) (e : judged (item_of p x) l m ≡ i) (f : judged (item_of q y) k n ≡ j) where
  both_read : p ≡ q → length x ≡ length y → Matched (read p x l m) (read q y k n)
  both_read g h = matched_characters (read p x l m) (read q y k n) c e f g (ap (printer_bytes l.mode) e ∙ characters_printer c l.mode k.mode ∙ sym (ap (printer_bytes k.mode) f)) h

matched : {x y : List ℕ} → Twin x y → {p q : ℕ} {l k : Limits} {m n : ℕ} → p ≡ q → l ≡ k → m ≡ n → Matched (read p x l m) (read q y k n)
matched {x} same {p} {l = l} {m = m} e f g = subst (Matched (read p x l m)) (λ i. read (e i) x (f i) (g i)) (matched_self (read p x l m))
matched (bytes {c} {d} u v w x) {p} {q} {l} {k} {m} {n} e f g = both_read (both_bytes c d) p q l k m n (byte_read p c l m u v) (byte_read q d k n w x) e refl
matched (codes {c} {d}) {p} {q} {l} {k} {m} {n} e f g = both_read (both_codes c d) p q l k m n (code_read p c l m) (code_read q d k n) e refl

-- two lists of items, matched one by one, the relation before and after each
abbrev pub Along : List Read → List Read → State → State → Type 0
Along [] [] a b = Hidden a b
Along [] (s ∷ ss) a b = ⊥
Along (r ∷ rs) [] a b = ⊥
Along (r ∷ rs) (s ∷ ss) a b = Hidden a b × (Matched r s × Along rs ss (obeyed_by r a) (obeyed_by s b))

pub along : {xs ys : List (List ℕ)} → Twins xs ys → (p q : ℕ) (a b : State) (m n : ℕ) → p ≡ q → m ≡ n → Hidden a b
    → revealed (events_of (reads_of xs p a m)) ≡ false → Along (reads_of xs p a m) (reads_of ys q b n) a b
unfolding reads_of revealed
along none p q a b m n e g h v = h
along (more {x = x} {y = y} {xs = xs} t ts) p q a b m n e g h v =
    let r : Read = read p x (limits_of a.settings) m in
    let s : Read = read q y (limits_of b.settings) n in
    let z : Matched r s = matched t e (blind a b h).limits g in
    let u = or_false (reveals r.item) (revealed (events_of (reads_of xs (p + length x) (obeyed_by r a) (m - r.prints)))) v in
    (h, (z, along ts _ _ (obeyed_by r a) (obeyed_by s b) _ _ (λ i. e i + z.long i) (λ i. g i - z.printer i) (z.after u.0 h) u.1))

-- no 125 in a list, none in its parts
pub revealed_append : (es fs : List Event) → revealed (es ++ fs) ≡ false → (revealed es ≡ false) × (revealed fs ≡ false)
unfolding revealed
revealed_append [] fs e = (refl, e)
revealed_append (item_read r ∷ es) fs e =
    let u = or_false (reveals r.item) (revealed (es ++ fs)) e in
    let z = revealed_append es fs u.1 in
    ((λ i. u.0 i || z.0 i), z.1)
revealed_append (line_left w n ∷ es) fs e = revealed_append es fs e
revealed_append (key_set k x ∷ es) fs e = revealed_append es fs e

-- what follows for the end, the counts, the printed copies and the painted places
pub along_end : (rs ss : List Read) (a b : State) → Along rs ss a b → Hidden (apply_all (events_of rs) a) (apply_all (events_of ss) b)
unfolding apply_all happened
along_end [] [] a b h = h
along_end [] (s ∷ ss) a b h = absurd h
along_end (r ∷ rs) [] a b h = absurd h
along_end (r ∷ rs) (s ∷ ss) a b h = along_end rs ss (obeyed_by r a) (obeyed_by s b) h.1.1

pub along_counts : (rs ss : List Read) (a b : State) (x : Answer) → Along rs ss a b → counted_all rs x ≡ counted_all ss x
unfolding counted_all
along_counts [] [] a b x h = refl
along_counts [] (s ∷ ss) a b x h = absurd h
along_counts (r ∷ rs) [] a b x h = absurd h
along_counts (r ∷ rs) (s ∷ ss) a b x h =
    ap (counted_all rs) (h.1.0.count x) ∙ along_counts rs ss (obeyed_by r a) (obeyed_by s b) (counted s.item s.at s.prints x) h.1.1

pub along_copies : (rs ss : List Read) (a b : State) → Along rs ss a b → copies (events_of rs) a ≡ copies (events_of ss) b
unfolding copies happened
along_copies [] [] a b h = refl
along_copies [] (s ∷ ss) a b h = absurd h
along_copies (r ∷ rs) [] a b h = absurd h
along_copies (r ∷ rs) (s ∷ ss) a b h = λ i. h.1.0.copy h.0 i ++ along_copies rs ss (obeyed_by r a) (obeyed_by s b) h.1.1 i

-- the relation before a list of items
first_of_lem : (rs ss : List Read) (a b : State) → Along rs ss a b → Hidden a b
first_of_lem [] [] a b h = h
first_of_lem [] (s ∷ ss) a b h = absurd h
first_of_lem (r ∷ rs) [] a b h = absurd h
first_of_lem (r ∷ rs) (s ∷ ss) a b h = h.0

pub along_wide : (rs ss : List Read) (a b : State) → Along rs ss a b → wide_in rs a ≡ wide_in ss b
unfolding wide_in wide? moves_top?
along_wide [] [] a b h = refl
along_wide [] (s ∷ ss) a b h = absurd h
along_wide (r ∷ rs) [] a b h = absurd h
along_wide (r ∷ rs) (s ∷ ss) a b h =
    let a₂ : State = obeyed_by r a in
    let b₂ : State = obeyed_by s b in
    let now : (here a).top ≡ (here b).top = (blind a b h.0).top in
    let then : (here a₂).top ≡ (here b₂).top = (blind a₂ b₂ (first_of_lem rs ss a₂ b₂ h.1.1)).top in
    λ i. (not (h.1.0.calm i) || (h.1.0.lifts h.0 i || not (eqb (then i) (now i)))) || along_wide rs ss a₂ b₂ h.1.1 i

pub along_places : (rs ss : List Read) (a b : State) → Along rs ss a b → places_in rs a ≡ places_in ss b
unfolding places_in
along_places [] [] a b h = refl
along_places [] (s ∷ ss) a b h = absurd h
along_places (r ∷ rs) [] a b h = absurd h
along_places (r ∷ rs) (s ∷ ss) a b h = λ i. h.1.0.place h.0 i ∷ along_places rs ss (obeyed_by r a) (obeyed_by s b) h.1.1 i

-- items behind items
pub along_append : (rs ss rs' ss' : List Read) (a b : State) → Along rs ss a b → Along rs' ss' (apply_all (events_of rs) a) (apply_all (events_of ss) b) → Along (rs ++ rs') (ss ++ ss') a b
unfolding apply_all happened
along_append [] [] rs' ss' a b h k = k
along_append [] (s ∷ ss) rs' ss' a b h k = absurd h
along_append (r ∷ rs) [] rs' ss' a b h k = absurd h
along_append (r ∷ rs) (s ∷ ss) rs' ss' a b h k = (h.0, (h.1.0, along_append rs ss rs' ss' (obeyed_by r a) (obeyed_by s b) h.1.1 k))
