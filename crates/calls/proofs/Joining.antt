-- P1, for the calls: bytes that wait and a piece behind them, read as one message; or a part of the piece behind them, and the rest of it as another.
use mathlib.Core.Path.{◌∙◌, ◌≡◌, ap, sym}
use Prim.Native.Nat.{◌+◌, ◌-◌, ◌≤◌, ℕ}
use native.Mathlib.Omega.{arith}
use mathlib.Core.Bool.{true}
use mathlib.Core.List.{List, [], ◌++◌, append_assoc}
use lib.ListN.{drop, length, length-append, take, take-append-drop}
use lib.Seq.{drop-append-add, drop-append-le, length-take-le}
use borrow.Author.Tests.{ltb-true}
use Rattle.model.specs.Reading.{gathered, needed, remaining, uncut, unfinished?}
use Rattle.model.proofs.Gathering.{gathered_append, gathered_none, none_unfinished, remaining_unfinished, waiting_most}
use Rattle.model.proofs.LineLaws.{remaining-length}
use Rattle.calls.proofs.Wholes.{whole_end, whole_read, whole_rest}

-- bytes that wait, with what follows, are gathered as all of them from the start
pub gathered_behind : (w m : List ℕ) → unfinished? w ≡ true → (gathered [] (w ++ m) ≡ gathered w m) × (remaining [] (w ++ m) ≡ remaining w m)
unfolding unfinished?
gathered_behind w m u =
    let a = gathered_append [] w m in
    let z = gathered_none [] w (ltb-true (length w) (needed w) u) in
    (a.0 ∙ (λ i. z.0 i ++ gathered (z.1 i) m), a.1 ∙ ap (λ (r : List ℕ). remaining r m) z.1)

-- the whole items of both are one message
module _ (w m : List ℕ) (u : unfinished? w ≡ true) where
  pub one_cut : gathered w m ≡ uncut (take (whole_end (w ++ m)) (w ++ m))
  one_cut = sym (whole_read (w ++ m) ∙ (gathered_behind w m u).0)

  pub one_rest : remaining w m ≡ drop (whole_end (w ++ m)) (w ++ m)
  one_rest = sym (whole_rest (w ++ m) ∙ (gathered_behind w m u).1)

  -- what waits then has at most 12 bytes
  pub rest_most : length (remaining w m) ≤ 12
  rest_most = waiting_most (remaining w m) (remaining_unfinished w m u)

-- where the whole items end
pub end_within : (xs : List ℕ) → (whole_end xs ≤ length xs) × (length xs ≤ whole_end xs + 12)
end_within xs =
    let k : length (remaining [] xs) ≤ 12 = rest_most [] xs none_unfinished in
    (omega (arith, remaining-length [] xs), omega (arith, remaining-length [] xs, k))

-- the first k bytes of a piece behind what waits, and the rest of the piece from where the whole items of these end
module _ (w m : List ℕ) (u : unfinished? w ≡ true) (k : ℕ) (h : 12 ≤ k) (l : k ≤ length m) where
  abbrev xs : List ℕ
  xs = w ++ take k m

  abbrev from : ℕ
  from = whole_end xs - length w

  pub past : length w ≤ whole_end xs
  past = omega (arith, h, end_within xs, length-append w (take k m), length-take-le k m l)

  -- what the first part leaves and the rest of the piece behind it
  there : remaining w (take k m) ++ drop k m ≡ drop from m
  there =
      let e : length w + from ≡ whole_end xs = omega (arith, past) in
      ap (λ (r : List ℕ). r ++ drop k m) (one_rest w (take k m) u)
      ∙ sym (drop-append-le (whole_end xs) xs (drop k m) (end_within xs).0)
      ∙ (λ i. drop (sym e i) (append_assoc w (take k m) (drop k m) i))
      ∙ ap (λ (ys : List ℕ). drop (length w + from) (w ++ ys)) (take-append-drop k m)
      ∙ drop-append-add w m from

  abbrev more : List ℕ
  more = drop from m

  goes_on : (gathered (remaining w (take k m)) (drop k m) ≡ gathered [] more) × (remaining (remaining w (take k m)) (drop k m) ≡ remaining [] more)
  goes_on =
      let z = gathered_behind (remaining w (take k m)) (drop k m) (remaining_unfinished w (take k m) u) in
      (sym z.0 ∙ ap (gathered []) there, sym z.1 ∙ ap (remaining []) there)

  pub two_cut : gathered w m ≡ uncut (take (whole_end xs) xs) ++ uncut (take (whole_end more) more)
  two_cut =
      ap (gathered w) (sym (take-append-drop k m)) ∙ (gathered_append w (take k m) (drop k m)).0
      ∙ (λ i. one_cut w (take k m) u i ++ (goes_on.0 ∙ sym (whole_read more)) i)

  pub two_rest : remaining w m ≡ drop (whole_end more) more
  two_rest =
      ap (remaining w) (sym (take-append-drop k m)) ∙ (gathered_append w (take k m) (drop k m)).1 ∙ goes_on.1 ∙ sym (whole_rest more)
