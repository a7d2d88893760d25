-- The claims of specs/Claims: what `Told` says case by case, through the reader's tests and the judging.
use mathlib.Core.Path.{◌∙◌, ◌≡◌, ap, refl, sym}
use Prim.Native.Nat.{ℕ, ◌+◌, ◌≤◌}
use native.Mathlib.Omega.{arith}
use mathlib.Core.Bool.{Bool, and-false, cond, false, true}
use mathlib.Core.List.{List, [], ◌∷◌, map}
use lib.ListN.{get_or, length}
use lib.Dec.{eqb}
use lib.Seq.{ext_get_or, get_or-drop}
use borrow.Author.Tests.{le-ltb}
use Rattle.model.specs.declared.Limits.{Limits}
use Rattle.model.specs.declared.Sequence.{Sequence as Seq}
use Rattle.model.specs.declared.Sequence.TheVariants.{Pattern, PrintCode}
use Rattle.model.specs.declared.Item.{Item}
use Rattle.model.specs.declared.Item.TheVariants.{Printed, Control, Sequence, Refused}
use Rattle.model.specs.Bytes.{list_from}
use Rattle.model.specs.Checks.{Check, first_bad, in_ranges?}
use Rattle.model.specs.Picture.{copy_size_of}
use Rattle.model.specs.Sequences.{code_of}
use Rattle.model.specs.Reading.{Read, byte_of, item_of}
use Rattle.model.specs.Judging.{allowed, bad_of, fitting, judged, legal?}
use Rattle.model.proofs.ByteLaws.{get_or_list_from, length_list_from}
use Rattle.calls.proofs.Wholes.{AllWhole, more, none, uncut_whole}
use Rattle.spelling.specs.Spelling.{Named, bytes_of, named, params_of, standing}
use Rattle.spelling.specs.Claims.{ReadBack, Sent, Spelling, sent_bytes}
use Rattle.spelling.proofs.Told.{decoded_so, given_bytes_lem, judged_anywhere, named_bytes, needed_alone, needed-then, rows_sent, rows_told}
use Rattle.spelling.proofs.Only.{item_whole, only-spelt}

module _ (q : Seq) (rows : List ℕ) (e : length rows ≡ 8) where
  pub item_sent : (o : ℕ) → item_of o (bytes_of q rows) ≡ Sequence (standing o q)
  item_sent o = item_whole o (bytes_of q rows) (omega (arith, needed_alone q rows e)) ∙ decoded_so q rows o

  -- with room for a copy, nothing is asked of an item but its parameters
  fits_copy : (m : ℕ) (p : Seq) (room : ℕ) → copy_size_of m ≤ room → fitting m (Sequence p) room ≡ Sequence p
  unfolding fitting
  fits_copy m p room h = rw (le-ltb room (copy_size_of m) h, and-false (eqb (code_of p) 80))

  -- the checks are those of the sequence, wherever it stands
  allowed_sent : (o : ℕ) (l : Limits) → allowed (Sequence (standing o q)) l ≡ cond (legal? q l) (Sequence (standing o q)) (Refused 11 (bad_of q l))
  unfolding allowed legal? bad_of
  allowed_sent o l = ap (λ (cs : List Check). cond (in_ranges? cs) (Sequence (standing o q)) (Refused 11 (first_bad 1 cs))) (judged_anywhere q rows o l)

  judged_sent : (o : ℕ) (l : Limits) (room : ℕ) → copy_size_of l.mode ≤ room → judged (item_of o (bytes_of q rows)) l room ≡ cond (legal? q l) (Sequence (standing o q)) (Refused 11 (bad_of q l))
  unfolding fitting
  judged_sent o l room h = ap (λ (i : Item). judged i l room) (item_sent o) ∙ ap (λ (i : Item). fitting l.mode i room) (allowed_sent o l) ∙ go (legal? q l)
    where
      go : (b : Bool) → fitting l.mode (cond b (Sequence (standing o q)) (Refused 11 (bad_of q l))) room ≡ cond b (Sequence (standing o q)) (Refused 11 (bad_of q l))
      go true = fits_copy l.mode (standing o q) room h
      go false = refl

-- behind ESC, 224 and the code
shaped : (rows : List ℕ) (e : length rows ≡ 8) (q : Seq) (c at : ℕ) → q ≡ Pattern c at → (r : Read) → r.bytes ≡ bytes_of q rows → list_from (byte_of r) (r.at + 3) 8 ≡ rows
unfolding bytes_of params_of byte_of
shaped rows e q c at k r h =
    ext_get_or 0 (list_from (byte_of r) (r.at + 3) 8) rows (length_list_from (byte_of r) (r.at + 3) 8 ∙ sym e)
    (λ i l. get_or_list_from (byte_of r) 8 (r.at + 3) i (omega (arith, length_list_from (byte_of r) (r.at + 3) 8, l)) ∙ ap (λ (n : ℕ). get_or r.bytes n 0) (omega arith) ∙ ap (λ (bs : List ℕ). get_or bs (3 + i) 0) (h ∙ ap (λ (p : Seq). bytes_of p rows) k) ∙ sym (get_or-drop 3 (bytes_of (Pattern c at) rows) i 0))

read_back_lem : (q : Seq) (rows : List ℕ) → length rows ≡ 8 → ReadBack q rows
read_back_lem q rows e = record {
  ends = needed-then q rows e;
  reads = item_sent q rows e;
  judges = judged_sent q rows e;
  shapes = shaped rows e q;
  given = given_bytes_lem q rows;
}

-- what bytes name: the sequence that the reader makes of them, and a pattern's rows
sequence_in : Item → Seq
sequence_in (Printed c) = PrintCode c
sequence_in (Control c) = PrintCode c
sequence_in (Sequence q) = q
sequence_in (Refused n k) = PrintCode n

named_by : (q : Seq) (rows : List ℕ) → length rows ≡ 8 → named q rows ≡ record { sequence = sequence_in (item_of 0 (bytes_of q rows)); rows = rows_told (bytes_of q rows) }
unfolding named sequence_in
named_by q rows e = λ i. record { sequence = ap sequence_in (sym (item_sent q rows e 0)) i; rows = rows_sent q rows i }

-- sequences one behind another, each whole
whole-named : (xs : List Sent) → AllWhole (map sent_bytes xs)
whole-named [] = none
whole-named (x ∷ xs) = more (sym (needed_alone x.sequence x.rows x.eight)) (whole-named xs)

pub spelling : Spelling
unfolding named
spelling = record {
  back = read_back_lem;
  different = λ q p rows rows' e f h. named_by q rows e ∙ ap (λ (bs : List ℕ). record { sequence = sequence_in (item_of 0 bs); rows = rows_told bs }) h ∙ sym (named_by p rows' f);
  same = λ q p rows rows' h. sym (named_bytes q rows) ∙ ap (λ (n : Named). bytes_of n.sequence n.rows) h ∙ named_bytes p rows';
  several = λ xs. uncut_whole (whole-named xs);
  only = only-spelt;
}
