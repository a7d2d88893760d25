-- P1, for the reader: the end of a piece's whole items, and that whole items are read as a message is.
use mathlib.Core.Path.{◌∙◌, ◌≡◌, ap, refl, sym}
use Prim.Native.Nat.{◌+◌, ◌<◌, ◌≤◌, ℕ}
use native.Mathlib.Omega.{arith}
use mathlib.Core.Bool.{true}
use mathlib.Core.List.{List, [], ◌++◌, ◌∷◌, append-nil}
use lib.ListN.{drop, length, length-append, take, take-append-drop}
use lib.Seq.{drop-append_seam, length-take-le, take-append_seam}
use borrow.Author.Tests.{ltb-false, ltb-true}
use Rattle.model.specs.Bytes.{joined}
use Rattle.model.specs.Reading.{gathered, lastly, needed, remaining, uncut, unfinished?}
use Rattle.model.proofs.Tests.{elim_at}
use Rattle.model.proofs.Gathering.{all_bytes_lem, cut_off, gathered_none, needed_grows, needed_own, none_unfinished}

-- items that have exactly the bytes that they need
pub data AllWhole : List (List ℕ) → Type 0 where
  none : AllWhole []
  more : {x : List ℕ} {xs : List (List ℕ)} → length x ≡ needed x → AllWhole xs → AllWhole (x ∷ xs)

-- what is gathered is whole
pub whole-gathered : (w bs : List ℕ) → unfinished? w ≡ true → AllWhole (gathered w bs)
unfolding gathered unfinished?
whole-gathered w [] u = none
whole-gathered w (b ∷ bs) u =
    let v : List ℕ = w ++ (b ∷ []) in
    let g : length w < needed v = needed_grows w (b ∷ []) (ltb-true (length w) (needed w) u) in
    elim_at AllWhole (unfinished? v) (gathered v bs) (v ∷ gathered [] bs) (λ e. whole-gathered v bs e)
    (λ e. more (exact (length v) (needed v) (length w) (length-append w (b ∷ [])) g (ltb-false (length v) (needed v) e)) (whole-gathered [] bs none_unfinished))
  where
    exact : (l n k : ℕ) → l ≡ k + 1 → k < n → n ≤ l → l ≡ n
    exact l n k e f g = omega arith

-- whole items, one behind the other, are gathered so again, and nothing waits
pub joined-whole : {xss : List (List ℕ)} → AllWhole xss → (gathered [] (joined xss) ≡ xss) × (remaining [] (joined xss) ≡ [])
unfolding joined gathered remaining
joined-whole none = (refl, refl)
joined-whole (more {x = x} {xs = xs} e h) =
    let z = cut_off x (joined xs) e in
    let k = joined-whole h in
    (z.0 ∙ ap (λ (l : List (List ℕ)). x ∷ l) k.0, z.1 ∙ k.1)

-- so a message of them is read as they are
pub uncut_whole : {xss : List (List ℕ)} → AllWhole xss → uncut (joined xss) ≡ xss
uncut_whole {xss} h = let z = joined-whole h in (λ i. z.0 i ++ lastly (z.1 i)) ∙ append-nil xss

-- the end of the whole items of a piece: `joined (gathered [] m) ≡ take r m`, `remaining [] m ≡ drop r m`
module _ (m : List ℕ) where
  abbrev pub whole_end : ℕ
  whole_end = length (joined (gathered [] m))

  pub whole_front : take whole_end m ≡ joined (gathered [] m)
  whole_front = ap (take whole_end) (sym (all_bytes_lem [] m)) ∙ take-append_seam (joined (gathered [] m)) (remaining [] m)

  pub whole_rest : drop whole_end m ≡ remaining [] m
  whole_rest = ap (drop whole_end) (sym (all_bytes_lem [] m)) ∙ drop-append_seam (joined (gathered [] m)) (remaining [] m)

  -- serving the front as a message reads the items that the piece gathers
  pub whole_read : uncut (take whole_end m) ≡ gathered [] m
  whole_read = ap uncut whole_front ∙ uncut_whole (whole-gathered [] m none_unfinished)

  -- one turn of the loop that finds it: an item more, or the end
  pub whole_next : needed m ≤ length m → (gathered [] m ≡ take (needed m) m ∷ gathered [] (drop (needed m) m)) × (remaining [] m ≡ remaining [] (drop (needed m) m))
  whole_next h =
      let own : List ℕ = take (needed m) m in
      let n : length own ≡ needed own = length-take-le _ _ h ∙ sym (needed_own m) in
      let z = cut_off own (drop (needed m) m) n in
      (ap (gathered []) (sym (take-append-drop (needed m) m)) ∙ z.0, ap (remaining []) (sym (take-append-drop (needed m) m)) ∙ z.1)

  pub whole-stop : length m < needed m → (gathered [] m ≡ []) × (remaining [] m ≡ m)
  whole-stop h = gathered_none [] m h

-- bytes that wait, closed, are read as a message of them is
pub closed_read : (w : List ℕ) → unfinished? w ≡ true → uncut w ≡ lastly w
unfolding unfinished?
closed_read w u = let z = gathered_none [] w (ltb-true (length w) (needed w) u) in λ i. z.0 i ++ lastly (z.1 i)
