-- Where the whole items end: one turn of the loop that finds it, and that nothing waits where no ESC is among the last twelve bytes.
use mathlib.Core.Path.{◌∙◌, ◌≡◌, ap, refl, sym}
use Prim.Native.Nat.{ℕ, zero, suc, ◌+◌, ◌-◌, ◌<◌, ◌≤◌}
use native.Mathlib.Omega.{arith}
use mathlib.Core.Bool.{Bool, true, false, cond}
use mathlib.Core.List.{List, [], ◌∷◌}
use lib.ListN.{drop, get_or, length, length-append, length-drop, take}
use lib.Seq.{get_or-drop, length-take-le, take_all}
use lib.Dec.{eqb}
use borrow.Author.Tests.{eqb-true, ltb-false, ltb-true}
use Rattle.model.specs.Bytes.{joined}
use Rattle.model.specs.Reading.{after_escape, gathered, needed, remaining, unfinished?}
use Rattle.model.proofs.Gathering.{needed-least, none_unfinished, remaining_unfinished, waiting_most}
use Rattle.model.proofs.LineLaws.{remaining-length}
use Rattle.calls.proofs.Wholes.{whole_next, whole_rest, whole-stop}
use Rattle.unfinished.specs.Whole.{whole_end, whole_item}

-- the item in front is whole and has n bytes, or it is not
whole_front : (bs : List ℕ) (n : ℕ) → n ≡ whole_item bs → 1 ≤ n → (needed bs ≡ n) × (needed bs ≤ length bs)
unfolding whole_item unfinished?
whole_front bs n e some = go (unfinished? bs) refl e
  where
    go : (b : Bool) → unfinished? bs ≡ b → n ≡ cond b 0 (needed bs) → (needed bs ≡ n) × (needed bs ≤ length bs)
    go true f e = absurd (omega arith)
    go false f e = (sym e, ltb-false (length bs) (needed bs) f)

cut_front : (bs : List ℕ) → whole_item bs ≡ 0 → length bs < needed bs
unfolding whole_item unfinished?
cut_front bs e = go (unfinished? bs) refl e
  where
    go : (b : Bool) → unfinished? bs ≡ b → cond b 0 (needed bs) ≡ 0 → length bs < needed bs
    go true f e = ltb-true (length bs) (needed bs) f
    go false f e = absurd (omega (arith, needed-least bs, e))

module _ (bs : List ℕ) where
  -- behind it, by what is left of the bytes
  pub end_next : (n : ℕ) → n ≡ whole_item bs → 1 ≤ n → whole_end bs ≡ n + whole_end (take (length bs - n) (drop n bs))
  unfolding whole_end joined
  end_next n e some =
      let f = whole_front bs n e some in
      let own : length (take (needed bs) bs) ≡ n = length-take-le (needed bs) bs f.1 ∙ f.0 in
      let all : take (length bs - n) (drop n bs) ≡ drop n bs = take_all (length bs - n) (drop n bs) (omega (arith, length-drop n bs)) in
      let rest : drop (needed bs) bs ≡ take (length bs - n) (drop n bs) = ap (λ (k : ℕ). drop k bs) f.0 ∙ sym all in
      let g : length (joined (gathered [] bs)) ≡ length (take (needed bs) bs) + length (joined (gathered [] (drop (needed bs) bs))) =
      ap (λ (l : List (List ℕ)). length (joined l)) (whole_next bs f.1).0 ∙ length-append (take (needed bs) bs) (joined (gathered [] (drop (needed bs) bs))) in
      let h : length (joined (gathered [] (drop (needed bs) bs))) ≡ length (joined (gathered [] (take (length bs - n) (drop n bs)))) = ap (λ (l : List ℕ). length (joined (gathered [] l))) rest in
      omega (arith, g, own, h)

  pub end_stop : whole_item bs ≡ 0 → whole_end bs ≡ 0
  unfolding whole_end joined
  end_stop e = ap (λ (l : List (List ℕ)). length (joined l)) (whole-stop bs (cut_front bs e)).0

-- unfinished bytes are none, or led by ESC
led : (bs : List ℕ) → unfinished? bs ≡ true → 1 ≤ length bs → get_or bs 0 0 ≡ 27
unfolding unfinished? needed
led [] u l = absurd (omega arith)
led (b ∷ bs) u l = go (eqb b 27) refl (ltb-true (length (b ∷ bs)) (needed (b ∷ bs)) u)
  where
    go : (t : Bool) → eqb b 27 ≡ t → length (b ∷ bs) < cond t (after_escape bs) 1 → b ≡ 27
    go true f h = eqb-true b 27 f
    go false f h = absurd (omega arith)

-- so where none of the last twelve bytes is an ESC, all are whole
pub end_late : (m : List ℕ) → ((i : ℕ) → length m ≤ i + 12 → i < length m → get_or m i 0 ≡ 27 → ⊥) → length m ≡ whole_end m
unfolding whole_end
end_late m h =
    let r : List ℕ = remaining [] m in
    let u : unfinished? r ≡ true = remaining_unfinished [] m none_unfinished in
    let e : length (joined (gathered [] m)) + length r ≡ 0 + length m = remaining-length [] m in
    go (length r) refl e u
  where
    go : (n : ℕ) → length (remaining [] m) ≡ n → length (joined (gathered [] m)) + length (remaining [] m) ≡ 0 + length m → unfinished? (remaining [] m) ≡ true → length m ≡ length (joined (gathered [] m))
    go zero f e u = omega arith
    go (suc n) f e u =
        let w : ℕ = length (joined (gathered [] m)) in
        let b : get_or m w 0 ≡ 27 = ap (λ (i : ℕ). get_or m i 0) (omega arith) ∙ sym (get_or-drop w m 0 0) ∙ ap (λ (l : List ℕ). get_or l 0 0) (whole_rest m) ∙ led (remaining [] m) u (omega arith) in
        absurd (h w (omega (arith, waiting_most (remaining [] m) u)) (omega arith) b)
