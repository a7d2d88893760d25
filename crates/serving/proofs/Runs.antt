-- A run of printed bytes is as many turns of the loop; and an item that is printed begins one.
use mathlib.Core.Path.{◌∙◌, ◌≡◌, ap, refl, subst, sym}
use Prim.Native.Nat.{◌+◌, ◌<◌, ◌≤◌, suc, zero, ℕ}
use native.Mathlib.Nat.{add-zero}
use native.Mathlib.Numerals.{add-one}
use native.Mathlib.Omega.{arith}
use mathlib.Core.Bool.{Bool, ◌&&◌, cond, false, not, true}
use mathlib.Core.List.{List, [], ◌∷◌}
use lib.ListN.{drop, get_or, length, length-take, take}
use lib.Seq.{drop-cons, get_or-drop, get_or-take}
use lib.Dec.{eqb, ltb}
use borrow.Author.Tests.{le-ltb, leb-false, leb-true, ltb-false, ne_eqb, not-true}
use Rattle.model.specs.declared.Item.{Item}
use Rattle.model.specs.declared.Item.TheVariants.{Control, Printed, Refused, Sequence}
use Rattle.model.specs.declared.Sequence.TheVariants.{Select}
use Rattle.model.specs.declared.Limits.{Limits}
use Rattle.model.specs.State.{State}
use Rattle.model.specs.Picture.{copy_size_of}
use Rattle.model.specs.Sequences.{Row, code_of, mode_row_of, mode_rows, refusal, row_of, rows}
use Rattle.model.specs.Judging.{allowed, bad_of, fitting, judged, legal?}
use Rattle.model.specs.Reading.{after_escape, decoded, ended, item_of, kind_of, needed, own_bytes, unfinished?}
use Rattle.model.specs.Rules.{apply_item, printed}
use Rattle.calls.proofs.Loop.{own_some}
use Rattle.model.proofs.Tests.{cond_at, differ, elim_at}
use Rattle.model.proofs.Gathering.{found}
use Rattle.runs.specs.Run.{printed_all, prints?}
use Rattle.obeying.specs.Obeying.{printed?}
use Rattle.counting.specs.declared.Counts.{Counts}
use Rattle.store.proofs.Laws.{put-none}
use Rattle.serving.proofs.Going.{Going, turn}

module _ (m : List ℕ) (at : ℕ) (more : at < length m) (prints : 32 ≤ get_or m at 0) where
  -- "Bytes 32 to 255 print": one byte, and what it is
  pub own_one : own_bytes m at ≡ get_or m at 0 ∷ []
  unfolding own_bytes needed
  own_one = ap (λ (l : List ℕ). take (needed l) l) (drop-cons m at 0 more) ∙ rw (ne_eqb (get_or m at 0) 27 (λ e. omega arith))

  lone : item_of at (get_or m at 0 ∷ []) ≡ Printed (get_or m at 0)
  unfolding item_of unfinished? needed after_escape decoded
  lone =
      let b : ℕ = get_or m at 0 in
      ap (λ (t : Bool). elim (ltb 1 (cond t 2 1)) as (λ x. Item) [ true ↦ ended (b ∷ []) | false ↦ elim t as (λ x. Item) [ true ↦ (kind_of (b ∷ [])).made (λ n. get_or (b ∷ []) (n + 1) 0) (at + 2) | false ↦ elim (ltb b 32) as (λ x. Item) [ true ↦ Control b | false ↦ Printed b ] ] ]) (ne_eqb b 27 (λ e. omega arith))
      ∙ ap (λ (t : Bool). elim t as (λ x. Item) [ true ↦ Control b | false ↦ Printed b ]) (le-ltb b 32 prints)

  pub is_printed : (s : Limits) (n : ℕ) → judged (item_of at (own_bytes m at)) s n ≡ Printed (get_or m at 0)
  unfolding allowed fitting
  is_printed s n = ap (λ (l : List ℕ). judged (item_of at l) s n) own_one ∙ ap (λ (i : Item). judged i s n) lone

module _ (m : List ℕ) (from : ℕ) (c₀ : Counts) (first : State) (buffer : List ℕ) where
  one : (at : ℕ) (st : State) (c : Counts) (printer : List ℕ) → Going m from c₀ first buffer at st c printer → at < length m → 32 ≤ get_or m at 0 → Going m from c₀ first buffer (at + 1) (printed (get_or m at 0) st) c printer
  unfolding apply_item
  one at st c printer g more h =
      turn m from c₀ first buffer at st c printer g more (Printed (get_or m at 0)) (sym (is_printed m at more h _ _)) 1 _ printer (sym (ap length (own_one m at more h))) (omega arith) refl (omega arith) (omega arith) refl
      (sym (put-none c.printed printer))

  pub run : (n at : ℕ) (st : State) (c : Counts) (printer : List ℕ) → Going m from c₀ first buffer at st c printer → at + n ≤ length m → ((j : ℕ) → at ≤ j → j < at + n → prints? m j ≡ true)
      → Going m from c₀ first buffer (at + n) (printed_all (take n (drop at m)) st) c printer
  unfolding printed_all
  run zero at st c printer g h p = subst (λ (k : ℕ). Going m from c₀ first buffer k st c printer) (sym (add-zero at)) g
  run (suc n) at st c printer g h p =
      let e : at + 1 + n ≡ at + suc n = omega arith in
      let z : take (suc n) (drop at m) ≡ get_or m at 0 ∷ take n (drop (at + 1) m) = rw (add-one, drop-cons m at 0 (omega arith)) in
      let g₂ = run n (at + 1) (printed (get_or m at 0) st) c printer (one at st c printer g (omega arith) (leb-true 32 (get_or m at 0) (p at (omega arith) (omega arith)))) (omega arith) (λ j u v. p j (omega arith) (omega arith)) in
      subst (λ (bs : List ℕ). Going m from c₀ first buffer (at + suc n) (printed_all bs st) c printer) (sym z) (subst (λ (k : ℕ). Going m from c₀ first buffer k (printed_all (take n (drop (at + 1) m)) (printed (get_or m at 0) st)) c printer) e g₂)

-- no whole sequence is a printed byte
made : (bs : List ℕ) (p : ℕ → ℕ) (o : ℕ) → printed? ((kind_of bs).made p o) ≡ false
unfolding kind_of row_of mode_row_of
made bs p o =
    elim_at (λ (r : Row). printed? (r.made p o) ≡ false) (eqb (get_or bs 1 0) 208) (mode_row_of (get_or bs 2 0)) (row_of (get_or bs 1 0))
    (λ e. not-true _ (found (λ r. not (printed? (r.made p o))) (refusal 0 3 11 1) mode_rows (get_or bs 2 0) refl refl))
    (λ e. not-true _ (found (λ r. not (printed? (r.made p o))) (refusal 0 2 10 0) rows (get_or bs 1 0) refl refl))

-- nor is what judging makes of it
still_none : (i : Item) (s : Limits) (n : ℕ) → printed? i ≡ false → printed? (judged i s n) ≡ false
unfolding allowed fitting
still_none (Printed c) s n h = h
still_none (Control c) s n h = refl
still_none (Sequence q) s n h =
    cond_at (λ (i : Item). printed? (fitting s.mode i n) ≡ false) (legal? q s) (Sequence q) (Refused 11 (bad_of q s))
    (λ e. cond_at (λ (i : Item). printed? i ≡ false) (eqb (code_of q) 80 && ltb n (copy_size_of s.mode)) (Refused 13 0) (Sequence q) (λ f. refl) (λ f. refl)) (λ e. refl)
still_none (Refused k p) s n h = refl

module _ (m : List ℕ) (at : ℕ) (more : at < length m) where
  abbrev bs : List ℕ
  bs = own_bytes m at

  first : get_or bs 0 0 ≡ get_or m at 0
  unfolding own_bytes
  first =
      let k : 0 < needed (drop at m) = omega (arith, rw length-take at (own_some m at more)) in
      get_or-take (needed (drop at m)) (drop at m) 0 0 k ∙ get_or-drop at m 0 0 ∙ ap (λ (n : ℕ). get_or m n 0) (add-zero at)

  -- bytes that begin with one that does not print
  none : get_or m at 0 < 32 → printed? (item_of at bs) ≡ false
  unfolding item_of ended decoded
  none l =
      elim_at None (unfinished? bs) (ended bs) (decoded at bs)
      (λ e. elim_at None (eqb (get_or bs 1 0) 209) (Sequence (Select 0)) (Refused 12 0) (λ e. refl) (λ e. refl))
      (λ e. elim_at None (eqb (get_or bs 0 0) 27) _ _ (λ e. made bs _ _)
      (λ e. elim_at None (ltb (get_or bs 0 0) 32) (Control (get_or bs 0 0)) (Printed (get_or bs 0 0)) (λ e. refl) (λ f. absurd (omega (arith, ltb-false (get_or bs 0 0) 32 f, first, l)))))
    where
      None : Item → Type 0
      None i = printed? i ≡ false

  pub begins : (s : Limits) (n : ℕ) → printed? (judged (item_of at bs) s n) ≡ true → prints? m at ≡ true
  begins s n h = go (prints? m at) refl
    where
      go : (b : Bool) → prints? m at ≡ b → prints? m at ≡ true
      go true e = e
      go false e = absurd (differ (sym h ∙ still_none (item_of at bs) s n (none (leb-false 32 (get_or m at 0) e))))
