-- What number 0 says of a call that writes, and of a named sequence what each number is.
use mathlib.Core.Path.{◌∙◌, ◌≡◌, ap, refl, sym}
use Prim.Native.Nat.{ℕ, ◌+◌, ◌≤◌}
use native.Mathlib.Omega.{arith}
use mathlib.Core.Bool.{Bool, cond, false, true}
use mathlib.Core.List.{List, ◌++◌}
use lib.ListN.{drop, length, take}
use lib.Dec.{eqb, leb}
use borrow.Author.Tests.{eq-eqb, eqb-true, leb-true}
use Rattle.model.specs.declared.Settings.{Settings}
use Rattle.model.specs.declared.Sequence.{Sequence as Seq}
use Rattle.model.specs.declared.Item.{Item}
use Rattle.model.specs.declared.Item.TheVariants.{Sequence, Refused}
use Rattle.model.specs.Bytes.{put}
use Rattle.model.specs.Picture.{copy_size_of}
use Rattle.model.specs.Reading.{item_of}
use Rattle.model.specs.Judging.{bad_of, judged, legal?, limits_of}
use Rattle.model.specs.Sound.{sound?}
use Rattle.calls.specs.Calls.{first_of}
use Rattle.model.proofs.Tests.{differ}
use Rattle.store.proofs.Laws.{put_front, put_rest}
use Rattle.spelling.specs.Spelling.{bytes_of, standing}
use Rattle.spelling.proofs.Claimed.{spelling}
use Rattle.writer.specs.Writing.{Wanted, buffer_after, number_in, number_of, parameter_in, parameter_of, said, space?, wanted}
use Rattle.writer.proofs.Laws.{by_tests, last_test}

-- it is none of the three refusals
pub record Passed (s : Settings) (x : Wanted) (b : List ℕ) (at : ℕ) : Type 0 where
  pub unrefused : number_in x.word ≡ 0
  pub space : at + length x.bytes ≤ length b

passed_all : (t v : Bool) (n : ℕ) → by_tests t (eqb n 0) v n ≡ 0 → (n ≡ 0) × (v ≡ true)
unfolding first_of
passed_all false v n z = absurd (omega (arith, z))
passed_all true v n z = go (eqb n 0) refl z
  where
    free : (v : Bool) → by_tests true true v n ≡ 0 → v ≡ true
    free true z = refl
    free false z = absurd (omega (arith, z))

    go : (u : Bool) → eqb n 0 ≡ u → by_tests true u v n ≡ 0 → (n ≡ 0) × (v ≡ true)
    go false e z = absurd (differ (sym (eq-eqb n 0 z) ∙ e))
    go true e z = (eqb-true n 0 e, free v z)

module _ (s : Settings) (x : Wanted) (b : List ℕ) (at : ℕ) (z : number_of s x b at ≡ 0) where
  pub passed : Passed s x b at
  unfolding number_of space?
  passed =
      let p = passed_all (sound? s) (leb (at + length x.bytes) (length b)) (number_in x.word) z in
      record { unrefused = p.0; space = leb-true (at + length x.bytes) (length b) p.1 }

  -- its bytes stand from the place on, and nothing else is altered
  pub buffer_then : buffer_after s x b at ≡ put at x.bytes b
  unfolding buffer_after
  buffer_then = ap (λ (t : Bool). cond t (put at x.bytes b) b) (eq-eqb (number_of s x b at) 0 z)

  pub bytes_before : take (at + length x.bytes) (buffer_after s x b at) ≡ take at b ++ x.bytes
  bytes_before = ap (take (at + length x.bytes)) buffer_then ∙ put_front at x.bytes b passed.space

  pub bytes_behind : drop (at + length x.bytes) (buffer_after s x b at) ≡ drop (at + length x.bytes) b
  bytes_behind = ap (drop (at + length x.bytes)) buffer_then ∙ put_rest at x.bytes b passed.space

-- a named sequence
module _ (s : Settings) (q : Seq) (rows : List ℕ) (e : length rows ≡ 8) where
  abbrev word : Bool → Item
  word t = cond t (Sequence (standing 0 q)) (Refused 11 (bad_of q (limits_of s)))

  word_is : said s (bytes_of q rows) ≡ word (legal? q (limits_of s))
  unfolding said
  word_is = (spelling.back q rows e).judges 0 (limits_of s) (copy_size_of s.mode) (omega arith)

  pub number_named : (b : List ℕ) (at : ℕ) → sound? s ≡ true → number_of s (wanted s q rows) b at ≡ cond (legal? q (limits_of s)) (cond (space? b at (bytes_of q rows)) 0 22) 11
  unfolding number_of first_of number_in
  number_named b at k = let v : Bool = space? b at (bytes_of q rows) in (λ i. by_tests (k i) (eqb (number_in (word_is i)) 0) v (number_in (word_is i))) ∙ go (legal? q (limits_of s)) v
    where
      go : (t v : Bool) → by_tests true (eqb (number_in (word t)) 0) v (number_in (word t)) ≡ cond t (cond v 0 22) 11
      go true v = last_test v 0
      go false v = refl

  pub parameter_named : sound? s ≡ true → parameter_of s (wanted s q rows) ≡ cond (legal? q (limits_of s)) 0 (bad_of q (limits_of s))
  unfolding parameter_of parameter_in
  parameter_named k = (λ i. cond (k i) (parameter_in (word_is i)) 0) ∙ go (legal? q (limits_of s))
    where
      go : (t : Bool) → parameter_in (word t) ≡ cond t 0 (bad_of q (limits_of s))
      go true = refl
      go false = refl

  -- what is not refused is legal, and so it is read back
  pub back_again : number_in (said s (bytes_of q rows)) ≡ 0 → (o room : ℕ) → copy_size_of s.mode ≤ room → judged (item_of o (bytes_of q rows)) (limits_of s) room ≡ Sequence (standing o q)
  unfolding number_in
  back_again z o room h = (spelling.back q rows e).judges o (limits_of s) room h ∙ go (legal? q (limits_of s)) (sym (ap number_in word_is) ∙ z)
    where
      go : (t : Bool) → number_in (word t) ≡ 0 → cond t (Sequence (standing o q)) (Refused 11 (bad_of q (limits_of s))) ≡ Sequence (standing o q)
      go true y = refl
      go false y = absurd (omega (arith, y))
