-- The counts of the answer: the printer bytes are as many as the answer says and fit in the room, and every byte that is sent is taken.
use mathlib.Core.Path.{◌∙◌, ◌≡◌, ap, refl, subst, sym}
use Prim.Native.Nat.{◌*◌, ◌+◌, ◌-◌, ◌≤◌, max, suc, zero, ℕ}
use native.Mathlib.Nat.{add-zero, zero-add}
use native.Mathlib.Omega.{arith}
use mathlib.Core.Bool.{Bool, ◌&&◌, cond, false, true}
use mathlib.Core.List.{List, [], ◌++◌, ◌∷◌, append_assoc, append-nil}
use lib.ListN.{get_or, length, length-append, take}
use lib.Dec.{eqb, ltb}
use borrow.Author.Tests.{ltb-false}
use Rattle.model.specs.declared.Answer.{Answer}
use Rattle.model.specs.declared.Item.{Item}
use Rattle.model.specs.declared.Item.TheVariants.{Control, Printed, Refused, Sequence}
use Rattle.model.specs.declared.Settings.{Settings}
use Rattle.model.specs.Bytes.{joined, list_from, written}
use Rattle.model.specs.Line.{held_in}
use Rattle.model.specs.State.{State}
use Rattle.model.specs.Picture.{copied, copied_rows, copy_size_of, dot_copy, picture_copy}
use Rattle.model.specs.Sequences.{code_of}
use Rattle.model.specs.Reading.{Read, item_of, uncut}
use Rattle.model.specs.Judging.{allowed, fitting, limits_of}
use Rattle.model.specs.Items.{Event, apply_all, blank_answer, bytes_read, copies, copy_of, counted, counted_all, happened, events_of, obeyed_by, printer_bytes, prints_of, read, reads_of}
use Rattle.calls.specs.Packs.{bodies_of, reads_each}
use Rattle.calls.specs.Calls.{Asked, Call, Promised, Request, Terminal, granted, answer_of, closing, events_by, events_in, item_bytes, beside_items, key_text, message, number_of, pack, packed?, packed_by, piece, printed_by, short, reads_by, reads_in, request, request_of, sent_by, start_of, taken_by, taken_in, part_of}
use Rattle.calls.specs.Claims.{InBodies, InOrder, no_body, one_body}
use Rattle.model.proofs.Tests.{cond_at, cond₂}
use Rattle.model.proofs.ByteLaws.{length_list_from, length-written}
use Rattle.model.proofs.Gathering.{AllSome, joined_uncut, none, some, some-gathered, some_last, some_uncut}
use Rattle.model.proofs.Events.{events_append}
use Rattle.model.proofs.AnswerLaws.{counted_append}
use lib.Seq.{take_at}

pub length_rows : (f : ℕ → ℕ) (r n : ℕ) → length (copied_rows f r n) ≡ n * 82
unfolding copied_rows
length_rows f r zero = refl
length_rows f r (suc n) =
    length-append (list_from (λ p. max 32 (f p)) (r * 80) 80) (13 ∷ 10 ∷ copied_rows f (suc r) n)
    ∙ ap (λ (k : ℕ). k + suc (suc (length (copied_rows f (suc r) n)))) (length_list_from (λ p. max 32 (f p)) (r * 80) 80)
    ∙ omega (arith, length_rows f (suc r) n)

-- 8 rows of 80, each followed by 13, 10
length-picture : (st : State) → length (picture_copy st) ≡ 656
unfolding picture_copy
length-picture st = length_rows _ 0 8

-- P11: or the dots
length_dots : (st : State) → length (dot_copy st) ≡ 3840
unfolding dot_copy
length_dots st = length_list_from (λ p. get_or st.dots p 0) 0 3840

pub length-copied : (st : State) → length (copied st) ≡ copy_size_of st.settings.mode
unfolding copied copy_size_of
length-copied st = cond₂ (λ (l : List ℕ) (n : ℕ). length l ≡ n) (eqb st.settings.mode 3) (eqb st.settings.mode 3) (dot_copy st) (picture_copy st) 3840 656 refl (λ e. length_dots st) (λ e. length-picture st)

-- an item prints as many bytes as it takes of the room
pub length-copy : (i : Item) (st : State) → length (copy_of i st) ≡ printer_bytes st.settings.mode i
length-copy (Printed c) st = refl
length-copy (Control c) st = refl
length-copy (Sequence q) st = cond₂ (λ (l : List ℕ) (n : ℕ). length l ≡ n) (eqb (code_of q) 80) (eqb (code_of q) 80) (copied st) [] (copy_size_of st.settings.mode) 0 refl (λ e. length-copied st) (λ e. refl)
length-copy (Refused n p) st = refl

-- 13: a copy that is accepted has its room
pub fits_room : (mode : ℕ) (i : Item) (room : ℕ) → printer_bytes mode (fitting mode i room) ≤ room
unfolding fitting
fits_room mode (Printed c) room = omega arith
fits_room mode (Control c) room = omega arith
fits_room mode (Sequence q) room =
    cond_at (λ (i : Item). printer_bytes mode i ≤ room) (eqb (code_of q) 80 && ltb room (copy_size_of mode)) (Refused 13 0) (Sequence q) (λ e. omega arith)
    (λ e. cond_at (λ (n : ℕ). n ≤ room) (eqb (code_of q) 80) (copy_size_of mode) 0 (λ f. ltb-false room (copy_size_of mode) (sym (ap (λ (b : Bool). b && ltb room (copy_size_of mode)) f) ∙ e)) (λ f. omega arith))
fits_room mode (Refused n p) room = omega arith

copies_fit : (bss : List (List ℕ)) (at : ℕ) (st : State) (room : ℕ) → length (copies (events_of (reads_of bss at st room)) st) ≤ room
unfolding copies reads_of happened
copies_fit [] at st room = omega arith
copies_fit (bs ∷ bss) at st room =
    let r = read at bs (limits_of st.settings) room in
    let rest = copies (events_of (reads_of bss (at + length bs) (obeyed_by r st) (room - r.prints))) (obeyed_by r st) in
    let h : length rest ≤ room - r.prints = copies_fit bss (at + length bs) (obeyed_by r st) (room - r.prints) in
    let k : r.prints ≤ room = fits_room st.settings.mode (allowed (item_of at bs) (limits_of st.settings)) room in
    subst (λ (n : ℕ). n ≤ room) (sym (length-append (copy_of r.item st) rest ∙ ap (λ (n : ℕ). n + length rest) (length-copy r.item st))) (omega (arith, h, k))

-- one item more
counted_printed : (mode : ℕ) (i : Item) (at : ℕ) (a : Answer) → (counted i at (printer_bytes mode i) a).printed ≡ a.printed + printer_bytes mode i
counted_printed mode (Printed c) at a = sym (add-zero a.printed)
counted_printed mode (Control c) at a = sym (add-zero a.printed)
counted_printed mode (Sequence q) at a = refl
counted_printed mode (Refused k p) at a = sym (add-zero a.printed)

all_printed : (bss : List (List ℕ)) (at : ℕ) (st : State) (room : ℕ) (a : Answer) → let rs = reads_of bss at st room in (counted_all rs a).printed ≡ a.printed + length (copies (events_of rs) st)
unfolding counted_all copies happened reads_of
all_printed [] at st room a = sym (add-zero a.printed)
all_printed (bs ∷ bss) at st room a =
    let r = read at bs (limits_of st.settings) room in
    let rest = copies (events_of (reads_of bss (at + length bs) (obeyed_by r st) (room - r.prints))) (obeyed_by r st) in
    all_printed bss (at + length bs) (obeyed_by r st) (room - r.prints) (counted r.item r.at r.prints a)
    ∙ omega (arith, counted_printed st.settings.mode r.item r.at a, length-append (copy_of r.item st) rest, length-copy r.item st)

-- what is printed by events one behind the other
pub copies_append : (es fs : List Event) (a : State) → copies (es ++ fs) a ≡ copies es a ++ copies fs (apply_all es a)
unfolding copies apply_all
copies_append [] fs a = refl
copies_append (e ∷ es) fs a =
    ap (λ (l : List ℕ). prints_of e a ++ l) (copies_append es fs (happened e a)) ∙ sym (append_assoc (prints_of e a) (copies es (happened e a)) (copies fs (apply_all es (happened e a))))

pub prints_append : (xs ys : List Read) (st : State) → copies (events_of (xs ++ ys)) st ≡ copies (events_of xs) st ++ copies (events_of ys) (apply_all (events_of xs) st)
prints_append xs ys st = ap (λ (es : List Event). copies es st) (events_append xs ys) ∙ copies_append (events_of xs) (events_of ys) st

-- P6: what the messages of a pack print, one after the other, each in the room left over
module _ (m : List ℕ) (ms : List (List ℕ)) (st : State) (room : ℕ) where
  abbrev first_ones : List Read
  first_ones = reads_of (uncut m) 0 st room

  abbrev left_over : ℕ
  left_over = room - (counted_all first_ones (blank_answer 0 (length m))).printed

  abbrev others : List Read
  others = reads_each ms (apply_all (events_of first_ones) st) left_over

  both_print : length (copies (events_of (first_ones ++ others)) st) ≡ length (copies (events_of first_ones) st) + length (copies (events_of others) (apply_all (events_of first_ones) st))
  both_print = ap length (prints_append first_ones others st) ∙ length-append (copies (events_of first_ones) st) (copies (events_of others) (apply_all (events_of first_ones) st))

fit_each : (ms : List (List ℕ)) (st : State) (room : ℕ) → length (copies (events_of (reads_each ms st room)) st) ≤ room
unfolding reads_each copies
fit_each [] st room = omega arith
fit_each (m ∷ ms) st room =
    let rs : List Read = reads_of (uncut m) 0 st room in
    omega (arith, both_print m ms st room, copies_fit (uncut m) 0 st room, all_printed (uncut m) 0 st room (blank_answer 0 (length m)), fit_each ms (apply_all (events_of rs) st) (left_over m ms st room))

printed_each : (ms : List (List ℕ)) (st : State) (room : ℕ) (a : Answer) → let rs = reads_each ms st room in (counted_all rs a).printed ≡ a.printed + length (copies (events_of rs) st)
unfolding reads_each copies counted_all
printed_each [] st room a = sym (add-zero a.printed)
printed_each (m ∷ ms) st room a =
    let rs : List Read = reads_of (uncut m) 0 st room in
    ap (λ (b : Answer). b.printed) (counted_append rs (others m ms st room) a)
    ∙ omega (arith, printed_each ms (apply_all (events_of rs) st) (left_over m ms st room) (counted_all rs a), all_printed (uncut m) 0 st room a, both_print m ms st room)

-- what holds of messages one after the other and of items one behind the other holds of what any call reads
pub reads_either : (P : List Read → Type 0) (t : Terminal) (q : Request) → ((ms : List (List ℕ)) → P (reads_each ms t.state q.room)) → ((bss : List (List ℕ)) (at : ℕ) → P (reads_of bss at t.state q.room)) → P (reads_by t q)
unfolding reads_by
reads_either P t q f g = cond_at P (packed? q.asked) _ _ (λ e. f (packed_by q.asked)) (λ e. g _ _)

-- nothing is printed where a line is left, or a text set
moved_prints : (s : Settings) (q : Asked) (a : State) → copies (beside_items s q) a ≡ []
unfolding beside_items copies
moved_prints s (message m) a = refl
moved_prints s (piece m) a = refl
moved_prints s closing a = refl
moved_prints s (key_text k x) a = refl
moved_prints s (pack p) a = refl
moved_prints s (short m) a = refl

-- the items alone print
pub prints_by : (t : Terminal) (q : Request) → copies (events_by t q) t.state ≡ copies (events_of (reads_by t q)) t.state
unfolding events_by
prints_by t q =
    copies_append (events_of (reads_by t q)) (beside_items t.state.settings q.asked) t.state
    ∙ ap (λ (l : List ℕ). copies (events_of (reads_by t q)) t.state ++ l) (moved_prints t.state.settings q.asked _)
    ∙ append-nil (copies (events_of (reads_by t q)) t.state)

pub printed_reads : (t : Terminal) (q : Request) → printed_by t q ≡ copies (events_of (reads_in t q)) t.state
unfolding printed_by events_in reads_in copies
printed_reads t q = cond₂ (λ (es : List Event) (rs : List Read). copies es t.state ≡ copies (events_of rs) t.state) (granted t q) (granted t q) (events_by t q) [] (reads_by t q) [] refl (λ e. prints_by t q) (λ e. refl)

-- the printer bytes of a call fit in its room
pub prints_fit : (d : Terminal) (q : Request) → length (printed_by d q) ≤ q.room
unfolding reads_in copies
prints_fit d q =
    let Fits : List Read → Type 0 = λ rs. length (copies (events_of rs) d.state) ≤ q.room in
    subst (λ (l : List ℕ). length l ≤ q.room) (sym (printed_reads d q))
    (cond_at Fits (granted d q) _ [] (λ e. reads_either Fits d q (λ ms. fit_each ms d.state q.room) (λ bss at. copies_fit bss at d.state q.room)) (λ e. omega arith))

-- so the printer buffer keeps its length
pub buffer_length : (c : Call) → Promised c → length c.printer ≡ length c.buffer
buffer_length c p = ap length p.printer_is ∙ length-written _ c.buffer (prints_fit c.given (request_of c))

counted_taken : (i : Item) (at n : ℕ) (a : Answer) → (counted i at n a).taken ≡ a.taken
counted_taken (Printed c) at n a = refl
counted_taken (Control c) at n a = refl
counted_taken (Sequence q) at n a = refl
counted_taken (Refused k p) at n a = refl

-- "invented counts fall to the items": the count of printer bytes
pub printed_is : (d : Terminal) (q : Request) → (answer_of d q).printed ≡ length (printed_by d q)
unfolding answer_of reads_in counted_all copies
printed_is d q =
    let a : Answer = blank_answer (number_of d q) (taken_in d q) in
    let Prints : List Read → Type 0 = λ rs. (counted_all rs a).printed ≡ 0 + length (copies (events_of rs) d.state) in
    cond_at Prints (granted d q) (reads_by d q) [] (λ e. reads_either Prints d q (λ ms. printed_each ms d.state q.room a) (λ bss at. all_printed bss at d.state q.room a)) (λ e. refl)
    ∙ zero-add _ ∙ ap length (sym (printed_reads d q))

all_taken : (rs : List Read) (a : Answer) → (counted_all rs a).taken ≡ a.taken
unfolding counted_all
all_taken [] a = refl
all_taken (r ∷ rs) a = all_taken rs (counted r.item r.at r.prints a) ∙ counted_taken r.item r.at r.prints a

-- "every byte of the message belongs to exactly one item": the items' bytes are those that were cut
pub bytes_of : (bss : List (List ℕ)) (at : ℕ) (st : State) (room : ℕ) → bytes_read (reads_of bss at st room) ≡ bss
unfolding reads_of
bytes_of [] at st room = refl
bytes_of (bs ∷ bss) at st room = ap (λ (l : List (List ℕ)). bs ∷ l) (bytes_of bss _ _ _)

in_order : {bss : List (List ℕ)} → AllSome bss → (at : ℕ) (st : State) (room : ℕ) → InOrder at (reads_of bss at st room)
unfolding reads_of
in_order none at st room = tt
in_order (some h p) at st room = (refl, (h, in_order p _ _ _))

some_asked : (s : Settings) (a : Asked) → AllSome (item_bytes s a)
unfolding item_bytes
some_asked s (message m) = some_uncut m
some_asked s (piece m) = some-gathered (held_in s) m
some_asked s closing = some_last (held_in s)
some_asked s (key_text k x) = none
some_asked s (pack p) = none
some_asked s (short m) = some_uncut m

taken_asked : (a : Asked) → taken_by a ≡ length (sent_by a)
unfolding taken_by
taken_asked (message m) = refl
taken_asked (piece m) = refl
taken_asked closing = refl
taken_asked (key_text k x) = refl
taken_asked (pack p) = refl
taken_asked (short m) = refl

-- P6: body by body
bodies_each : (ms : List (List ℕ)) (st : State) (room : ℕ) → InBodies ms (reads_each ms st room)
unfolding reads_each
bodies_each [] st room = no_body
bodies_each (m ∷ ms) st room =
    one_body (first_ones m ms st room) (others m ms st room) (ap joined (bytes_of (uncut m) 0 st room) ∙ joined_uncut m) (in_order (some_uncut m) 0 st room) (bodies_each ms _ _)

module _ (t : Terminal) (q : Request) (e : granted t q ≡ true) where
  pub reads_granted : reads_in t q ≡ reads_by t q
  unfolding reads_in
  reads_granted = ap (λ (b : Bool). cond b (reads_by t q) []) e

  -- of a call that is no pack
  pub reads_own : packed? q.asked ≡ false → reads_in t q ≡ reads_of (item_bytes t.state.settings q.asked) (start_of t.state.settings q.asked) t.state q.room
  unfolding reads_by
  reads_own n =
      let s : Settings = t.state.settings in
      reads_granted ∙ ap (λ (b : Bool). cond b (reads_each (packed_by q.asked) t.state q.room) (reads_of (item_bytes s q.asked) (start_of s q.asked) t.state q.room)) n

  pub ordered : packed? q.asked ≡ false → InOrder (start_of t.state.settings q.asked) (reads_in t q)
  ordered n = subst (InOrder (start_of t.state.settings q.asked)) (sym (reads_own n)) (in_order (some_asked t.state.settings q.asked) _ t.state q.room)

  pub bytes_asked : packed? q.asked ≡ false → bytes_read (reads_in t q) ≡ item_bytes t.state.settings q.asked
  bytes_asked n = ap bytes_read (reads_own n) ∙ bytes_of (item_bytes t.state.settings q.asked) _ t.state q.room

  pub taken_is : (answer_of t q).taken ≡ length (sent_by q.asked)
  unfolding answer_of taken_in
  taken_is = all_taken (reads_in t q) (blank_answer (number_of t q) (taken_in t q)) ∙ ap (λ (b : Bool). cond b (taken_by q.asked) 0) e ∙ taken_asked q.asked

  pub in_bodies : (p : List ℕ) → q.asked ≡ pack p → InBodies (bodies_of p) (reads_in t q)
  unfolding reads_by
  in_bodies p f =
      subst (InBodies (bodies_of p)) (sym (reads_granted ∙ ap (λ (a : Asked). reads_by t (request a q.room)) f)) (bodies_each (bodies_of p) t.state q.room)

-- the printer bytes of a call
pub printed_in : (c : Call) → Promised c → (length (printed_by c.given (request_of c)) ≡ c.answer.printed) × (length c.printer ≡ length c.buffer)
printed_in c p = (sym (ap (λ (a : Answer). a.printed) p.answer_is ∙ printed_is c.given (request_of c)), buffer_length c p)

-- the first part of its buffer is what it printed
pub part_is : (c : Call) → Promised c → part_of c ≡ printed_by c.given (request_of c)
unfolding written
part_is c p = ap (take c.answer.printed) p.printer_is ∙ take_at (printed_by c.given (request_of c)) _ c.answer.printed (printed_in c p).0
