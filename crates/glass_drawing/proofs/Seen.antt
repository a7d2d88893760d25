-- What is drawn is seen: place by place, the terminal shows the new screen before the place and the old one from it on, and its cursor is at the
-- place wherever no address is sent for it.
use mathlib.Core.Path.{◌∙◌, ◌≡◌, ap, refl, subst, sym}
use Prim.Native.Nat.{ℕ, zero, suc, ◌+◌, ◌-◌, ◌*◌, ◌/◌, ◌%◌, ◌<◌, ◌≤◌}
use native.Mathlib.Omega.{arith}
use mathlib.Core.Bool.{Bool, ◌&&◌, ◌||◌, cond, false, true}
use mathlib.Core.List.{[], List, ◌++◌, ◌∷◌}
use lib.ListN.{get_or}
use lib.Dec.{eqb, leb}
use borrow.Author.Tests.{eq-eqb, eqb-false, eqb-true, leb-false, leb-true, ne_eqb, not-false}
use Rattle.model.proofs.Tests.{and_both, and_left, and_right, cond_at, differ}
use Rattle.report.specs.Letters.{letter}
use Rattle.glass_drawing.specs.Drawing.{address_of, apart, bytes_of, changed, move, strokes, strokes_at, strokes_from, write}
use Rattle.glass_drawing.specs.Seen.{Redraws, Shows, Terminal, letters, obeyed, placed, within, written}
use Rattle.glass_drawing.proofs.Reading.{addressed, lettered, obeyed_append, within_true}
use Rattle.glass_drawing.proofs.Strokes.{bytes_append}

-- a row and a column are those of a place exactly if their own place is that
same_place : (r c p : ℕ) → c < 80 → (eqb (suc r) (suc (p / 80)) && eqb (suc c) (suc (p % 80))) ≡ eqb (80 * r + c) p
same_place r c p h = go (eqb (suc r) (suc (p / 80))) (eqb (suc c) (suc (p % 80))) refl refl
  where
    go : (x y : Bool) → eqb (suc r) (suc (p / 80)) ≡ x → eqb (suc c) (suc (p % 80)) ≡ y → (x && y) ≡ eqb (80 * r + c) p
    go true true e f = sym (eq-eqb (80 * r + c) p (omega (arith, h, eqb-true (suc r) (suc (p / 80)) e, eqb-true (suc c) (suc (p % 80)) f)))
    go true false e f = sym (ne_eqb (80 * r + c) p (λ z. eqb-false (suc c) (suc (p % 80)) f (omega (arith, h, z))))
    go false y e f = sym (ne_eqb (80 * r + c) p (λ z. eqb-false (suc r) (suc (p / 80)) e (omega (arith, h, z))))

or_right : (b : Bool) → (b || true) ≡ true
or_right true = refl
or_right false = refl

-- a place before the next is this one or before it
last_or_before : {C : Type 0} (q p : ℕ) → q < suc p → (q ≡ p → C) → (q < p → C) → C
last_or_before {C} q p h f g = go (leb p q) refl
  where
    go : (b : Bool) → leb p q ≡ b → C
    go true e = f (omega (arith, h, leb-true p q e))
    go false e = g (leb-false p q e)

-- before place p the new screen stands, from it on the old one, and outside the 640 places what stood at the start
record Half (old new : List ℕ) (start : Terminal) (p : ℕ) (t : Terminal) : Type 0 where
  waits : t.reading ≡ letters
  drawn : (r c : ℕ) → r < 8 → c < 80 → 80 * r + c < p → t.stands (suc r) (suc c) ≡ letter (get_or new (80 * r + c) 0)
  left : (r c : ℕ) → r < 8 → c < 80 → p ≤ 80 * r + c → t.stands (suc r) (suc c) ≡ letter (get_or old (80 * r + c) 0)
  cursor : apart old new p ≡ false → (t.row ≡ suc (p / 80)) × (t.column ≡ suc (p % 80))
  outside : (r c : ℕ) → (within 1 8 r && within 1 80 c) ≡ false → t.stands r c ≡ start.stands r c

module _ (old new : List ℕ) (start : Terminal) where
  -- an address is sent for a row's first place, and behind a place whose letter stays
  row_start : (p : ℕ) → p % 80 ≡ 0 → apart old new p ≡ true
  unfolding apart
  row_start p e = rw (eq-eqb (p % 80) 0 e)

  gap : (p : ℕ) → changed old new p ≡ false → apart old new (suc p) ≡ true
  unfolding apart
  gap p e =
      let last : suc p - 1 ≡ p = omega arith in
      rw (last, e) (or_right (eqb (suc p % 80) 0))

  -- the cursor behind a letter that was drawn
  behind : (p : ℕ) → apart old new (suc p) ≡ false → (suc (p / 80) ≡ suc (suc p / 80)) × (suc (suc (p % 80)) ≡ suc (suc p % 80))
  behind p f = go (suc p % 80) refl
    where
      go : (n : ℕ) → suc p % 80 ≡ n → (suc (p / 80) ≡ suc (suc p / 80)) × (suc (suc (p % 80)) ≡ suc (suc p % 80))
      go zero e = absurd (differ (sym (row_start (suc p) e) ∙ f))
      go (suc n) e = (omega (arith, e), omega (arith, e))

  -- what is not drawn is there already
  same : (p : ℕ) → changed old new p ≡ false → letter (get_or old p 0) ≡ letter (get_or new p 0)
  unfolding changed
  same p e = eqb-true _ _ (not-false _ e)

  -- a place whose letter stays
  stays : (p : ℕ) (t : Terminal) → Half old new start p t → changed old new p ≡ false → Half old new start (suc p) t
  stays p t h e =
      record {
        waits = h.waits;
        drawn = λ r c hr hc l. last_or_before (80 * r + c) p l
            (λ at. h.left r c hr hc (omega (arith, at)) ∙ same (80 * r + c) (ap (changed old new) at ∙ e))
            (h.drawn r c hr hc);
        left = λ r c hr hc l. h.left r c hr hc (omega (arith, l));
        cursor = λ f. absurd (differ (sym (gap p e) ∙ f));
        outside = h.outside;
      }

  -- a letter drawn at its place
  draws : (p : ℕ) (t : Terminal) → p < 640 → t.row ≡ suc (p / 80) → t.column ≡ suc (p % 80) → Half old new start p t → Half old new start (suc p) (written t (letter (get_or new p 0)))
  draws p t small row column h = record {
    waits = refl;
    drawn = λ r c hr hc l. last_or_before (80 * r + c) p l
        (λ at. rw (row, column, same_place r c p hc, eq-eqb (80 * r + c) p at) (ap (λ (q : ℕ). letter (get_or new q 0)) (sym at)))
        (λ b. rw (row, column, same_place r c p hc, ne_eqb (80 * r + c) p (λ z. omega (arith, b, z))) (h.drawn r c hr hc b));
    left = λ r c hr hc l. rw (row, column, same_place r c p hc, ne_eqb (80 * r + c) p (λ z. omega (arith, l, z))) (h.left r c hr hc (omega (arith, l)));
    cursor = λ e. let b = behind p e in (row ∙ b.0, ap suc column ∙ b.1);
    outside = λ r c e. cond_at (λ (z : ℕ). z ≡ start.stands r c) (eqb r t.row && eqb c t.column) _ _
        (λ f.
        let at = eqb-true r t.row (and_left (eqb r t.row) (eqb c t.column) f) ∙ row in
        let on = eqb-true c t.column (and_right (eqb r t.row) (eqb c t.column) f) ∙ column in
        absurd (differ (sym (and_both (within 1 8 r) (within 1 80 c) (within_true 1 8 r (omega (arith, at)) (omega (arith, at, small))) (within_true 1 80 c (omega (arith, on)) (omega (arith, on)))) ∙ e)))
        (λ f. h.outside r c e);
  }

  letter_at : (p : ℕ) (t : Terminal) → p < 640 → t.row ≡ suc (p / 80) → t.column ≡ suc (p % 80) → Half old new start p t
      → Half old new start (suc p) (obeyed t (letter (get_or new p 0) ∷ []))
  letter_at p t small row column h =
      subst (Half old new start (suc p)) (sym (lettered t (get_or new p 0) h.waits (omega (arith, column)) (omega (arith, column)))) (draws p t small row column h)

  -- the cursor put at the place
  moves : (p : ℕ) (t : Terminal) → p < 640 → Half old new start p t → Half old new start p (placed t (suc (p / 80)) (suc (p % 80)))
  moves p t small h = record { waits = refl; drawn = h.drawn; left = h.left; cursor = λ e. (refl, refl); outside = h.outside }

  place : (p : ℕ) (t : Terminal) → p < 640 → Half old new start p t → Half old new start (suc p) (obeyed t (bytes_of (strokes_at old new p)))
  unfolding strokes_at bytes_of obeyed
  place p t small h = go (changed old new p) (apart old new p) refl refl
    where
      code : ℕ
      code = letter (get_or new p 0)

      go : (x y : Bool) → changed old new p ≡ x → apart old new p ≡ y → Half old new start (suc p) (obeyed t (bytes_of (cond x (cond y (move p ∷ []) [] ++ (write code ∷ [])) [])))
      go false y e f = stays p t h e
      go true false e f = letter_at p t small (h.cursor f).0 (h.cursor f).1 h
      go true true e f =
          subst (Half old new start (suc p)) (sym (obeyed_append t (address_of p) (code ∷ []) ∙ ap (λ (u : Terminal). obeyed u (code ∷ [])) (addressed t p small h.waits)))
          (letter_at p (placed t (suc (p / 80)) (suc (p % 80))) small refl refl (moves p t small h))

  places : (n p : ℕ) (t : Terminal) → p + n ≡ 640 → Half old new start p t → Half old new start 640 (obeyed t (bytes_of (strokes_from old new p n)))
  unfolding strokes_from bytes_of obeyed
  places zero p t e h = subst (λ (q : ℕ). Half old new start q t) (omega (arith, e)) h
  places (suc n) p t e h =
      subst (Half old new start 640) (sym (ap (obeyed t) (bytes_append (strokes_at old new p) (strokes_from old new (suc p) n)) ∙ obeyed_append t (bytes_of (strokes_at old new p)) (bytes_of (strokes_from old new (suc p) n))))
      (places n (suc p) _ (omega (arith, e)) (place p t (omega (arith, e)) h))

  all : Shows start old → Half old new start 640 (obeyed start (bytes_of (strokes old new)))
  unfolding strokes apart
  all s = places 640 0 start refl (record {
    waits = s.waits;
    drawn = λ r c hr hc l. absurd (omega (arith, l));
    left = λ r c hr hc l. s.seen r c hr hc;
    cursor = λ e. absurd (differ e);
    outside = λ r c e. refl;
  })

pub redraws : (old new : List ℕ) → Redraws old new (bytes_of (strokes old new))
redraws old new = record {
  shows = λ t s. let h = all old new t s in record { waits = h.waits; seen = λ r c hr hc. h.drawn r c hr hc (omega (arith, hr, hc)) };
  elsewhere = λ t s. (all old new t s).outside;
}
