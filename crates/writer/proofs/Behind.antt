-- P7: "Several are written one behind another": up to the place reached stands what stood before the first, then the bytes of those that were
-- accepted, in their order; the reader cuts these into exactly those sequences, and reads them so.
use mathlib.Core.Path.{◌∙◌, ◌≡◌, ap, refl, sym}
use Prim.Native.Nat.{ℕ, ◌+◌, ◌-◌, ◌*◌, ◌≤◌}
use native.Mathlib.Omega.{arith}
use mathlib.Core.Bool.{Bool, cond, false, true}
use mathlib.Core.List.{List, [], ◌∷◌, ◌++◌, append_assoc, append-nil}
use lib.ListN.{drop, length, take}
use lib.Seq.{drop_at, length-take-le}
use lib.Dec.{eqb}
use borrow.Author.Tests.{eqb-true}
use Rattle.model.specs.declared.Limits.{Limits}
use Rattle.model.specs.declared.Item.{Item}
use Rattle.model.specs.declared.Item.TheVariants.{Printed, Control, Sequence, Refused}
use Rattle.model.specs.Bytes.{joined, put}
use Rattle.model.specs.State.{State}
use Rattle.model.specs.Picture.{copy_size_of}
use Rattle.model.specs.Sequences.{code_of}
use Rattle.model.specs.Reading.{Read, item_of, uncut}
use Rattle.model.specs.Judging.{bad_of, judged, legal?, limits_of}
use Rattle.model.specs.Items.{obeyed_by, printer_bytes, reads_of}
use Rattle.store.proofs.Laws.{put_front}
use Rattle.spelling.specs.Spelling.{standing}
use Rattle.spelling.specs.Claims.{Sent, sent_bytes}
use Rattle.spelling.proofs.Claimed.{spelling}
use Rattle.writer.specs.Writing.{buffer_after, place_after}
use Rattle.writer.specs.Several.{Asked, all_bytes, buffer_all, buffer_by, number_at, place_all, place_by, read_back, sent_by, wanted_in}
use Rattle.writer.proofs.Accepted.{passed}

-- one call: its bytes behind what stood before the place, or nothing
module _ (c : Asked) (b : List ℕ) (at : ℕ) where
  step : take (place_by c b at) (buffer_by c b at) ≡ take at b ++ cond (eqb (number_at c b at) 0) (sent_bytes c.sent) []
  unfolding place_after buffer_after
  step = go (eqb (number_at c b at) 0) refl
    where
      bs : List ℕ
      bs = sent_bytes c.sent

      go : (t : Bool) → eqb (number_at c b at) 0 ≡ t → take (cond t (at + length bs) at) (cond t (put at bs b) b) ≡ take at b ++ cond t bs []
      go true e = put_front at bs b (passed c.settings (wanted_in c) b at (eqb-true (number_at c b at) 0 e)).space
      go false e = sym (append-nil (take at b))

joined_if : (t : Bool) (x : Sent) (xs : List Sent) → joined (all_bytes (cond t (x ∷ xs) xs)) ≡ cond t (sent_bytes x) [] ++ joined (all_bytes xs)
unfolding joined
joined_if true x xs = refl
joined_if false x xs = refl

pub front_all : (cs : List Asked) (b : List ℕ) (at : ℕ) → take (place_all cs b at) (buffer_all cs b at) ≡ take at b ++ joined (all_bytes (sent_by cs b at))
unfolding place_all buffer_all sent_by joined
front_all [] b at = sym (append-nil (take at b))
front_all (c ∷ cs) b at =
    let rest : List Sent = sent_by cs (buffer_by c b at) (place_by c b at) in
    let t : Bool = eqb (number_at c b at) 0 in
    front_all cs (buffer_by c b at) (place_by c b at) ∙ ap (λ (l : List ℕ). l ++ joined (all_bytes rest)) (step c b at)
    ∙ append_assoc (take at b) (cond t (sent_bytes c.sent) []) (joined (all_bytes rest)) ∙ ap (λ (l : List ℕ). take at b ++ l) (sym (joined_if t c.sent rest))

pub cut_again : (cs : List Asked) (b : List ℕ) (at : ℕ) → at ≤ length b → uncut (drop at (take (place_all cs b at) (buffer_all cs b at))) ≡ all_bytes (sent_by cs b at)
cut_again cs b at h =
    let xs : List Sent = sent_by cs b at in
    ap (λ (l : List ℕ). uncut (drop at l)) (front_all cs b at) ∙ ap uncut (drop_at (take at b) (joined (all_bytes xs)) at (length-take-le at b h)) ∙ spelling.several xs

-- no item takes more of the printer than the dots are
prints_most : (m : ℕ) (i : Item) → printer_bytes m i ≤ 3840
unfolding copy_size_of
prints_most m (Printed c) = omega arith
prints_most m (Control c) = omega arith
prints_most m (Sequence q) = go (eqb (code_of q) 80) (eqb m 3)
  where
    go : (t u : Bool) → cond t (cond u 3840 656) 0 ≤ 3840
    go true true = omega arith
    go true false = omega arith
    go false u = omega arith
prints_most m (Refused n p) = omega arith

copy_most : (m : ℕ) → copy_size_of m ≤ 3840
unfolding copy_size_of
copy_most m = go (eqb m 3)
  where
    go : (t : Bool) → cond t 3840 656 ≤ 3840
    go true = omega arith
    go false = omega arith

pub reads_again : (xs : List Sent) (o : ℕ) (st : State) (room : ℕ) → 3840 * length xs ≤ room → reads_of (all_bytes xs) o st room ≡ read_back xs o st
unfolding reads_of read_back
reads_again [] o st room h = refl
reads_again (x ∷ xs) o st room h =
    let bs : List ℕ = sent_bytes x in
    let m : ℕ = st.settings.mode in
    let l : Limits = limits_of st.settings in
    let i : Item = cond (legal? x.sequence l) (Sequence (standing o x.sequence)) (Refused 11 (bad_of x.sequence l)) in
    let r : Item → Read = λ j. record { at = o; item = j; bytes = bs; prints = printer_bytes m j } in
    let c = copy_most m in
    let p : judged (item_of o bs) l room ≡ i = (spelling.back x.sequence x.rows x.eight).judges o l room (omega (arith, c, h)) in
    let k = prints_most m i in
    ap (λ (j : Item). r j ∷ reads_of (all_bytes xs) (o + length bs) (obeyed_by (r j) st) (room - printer_bytes m j)) p
    ∙ ap (λ (rs : List Read). r i ∷ rs) (reads_again xs (o + length bs) (obeyed_by (r i) st) (room - printer_bytes m i) (omega (arith, k, h)))
