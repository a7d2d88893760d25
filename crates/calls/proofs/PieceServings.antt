-- P1, for the calls: a piece is two servings one after the other, each as if of a message; what they make together is what the rules say of the
-- call. With proofs/Promises that is its promise.
use mathlib.Core.Path.{◌∙◌, ◌≡◌, ap, refl, sym}
use Prim.Native.Nat.{◌+◌, ◌-◌, ℕ}
use native.Mathlib.Nat.{add-zero, sub-zero}
use native.Mathlib.Omega.{arith}
use mathlib.Core.Bool.{true}
use mathlib.Core.List.{List, [], ◌++◌, ◌∷◌, append_assoc}
use lib.ListN.{drop, length, length-append}
use lib.Seq.{drop-drop}
use Rattle.model.specs.declared.Answer.{Answer}
use Rattle.model.specs.declared.Item.{Item}
use Rattle.model.specs.declared.Item.TheVariants.{Control, Printed, Refused, Sequence}
use Rattle.model.specs.declared.Settings.{Settings}
use Rattle.model.specs.Bytes.{joined, written}
use Rattle.model.specs.State.{State}
use Rattle.model.specs.Line.{held_in}
use Rattle.model.specs.Reading.{Read, gathered, remaining, uncut}
use Rattle.model.specs.Judging.{limits_of}
use Rattle.model.specs.Items.{apply_all, blank_answer, copies, copy_of, counted, counted_all, events_of, happened, lined, obeyed_by, read, reads_of}
use Rattle.calls.specs.Calls.{Terminal, granted, answer_of, item_bytes, piece, printed_by, reads_by, request, served, start_of, taken_by}
use Rattle.calls.specs.Claims.{count_after, waits_after}
use Rattle.model.specs.Answers.{together}
use Rattle.model.proofs.Gathering.{joined_uncut}
use Rattle.model.proofs.Events.{applied_append}
use Rattle.calls.proofs.Printing.{length-copy, prints_append}
use Rattle.calls.proofs.CallLaws.{granted_answer, granted_prints}
use Rattle.calls.proofs.LineAfter.{leaves_lined}
use Rattle.calls.proofs.Offsets.{further, further_counts, further_effect, further_prints}
use Rattle.model.proofs.AnswerLaws.{joint}

-- reading goes on where it stopped: from the next offset, from what stands then, in the room that is left
pub reads_append : (xs ys : List (List ℕ)) (at : ℕ) (st : State) (room : ℕ) → let rs = reads_of xs at st room in
    reads_of (xs ++ ys) at st room ≡ rs ++ reads_of ys (at + length (joined xs)) (apply_all (events_of rs) st) (room - length (copies (events_of rs) st))
unfolding reads_of apply_all happened copies joined
reads_append [] ys at st room = λ i. reads_of ys (sym (add-zero at) i) st (sym (sub-zero room) i)
reads_append (x ∷ xs) ys at st room =
    let r : Read = read at x (limits_of st.settings) room in
    let st₂ : State = obeyed_by r st in
    let left : ℕ = room - r.prints in
    let rs : List Read = reads_of xs (at + length x) st₂ left in
    let e : (at + length x) + length (joined xs) ≡ at + length (x ++ joined xs) = omega (arith, length-append x (joined xs)) in
    let f : left - length (copies (events_of rs) st₂) ≡ room - length (copy_of r.item st ++ copies (events_of rs) st₂) =
    omega (arith, length-append (copy_of r.item st) (copies (events_of rs) st₂), length-copy r.item st) in
    ap (λ (l : List Read). r ∷ l) (reads_append xs ys (at + length x) st₂ left ∙ (λ i. rs ++ reads_of ys (e i) (apply_all (events_of rs) st₂) (f i)))

-- so many bytes taken
abbrev pub taking : ℕ → Answer → Answer
taking n a = record { number = a.number; taken = n; accepted = a.accepted; refused = a.refused; first = a.first; parameter = a.parameter; offset = a.offset; printed = a.printed }

pub taking_all : (n : ℕ) (rs : List Read) (a : Answer) → taking n (counted_all rs a) ≡ counted_all rs (taking n a)
unfolding counted_all
taking_all n [] a = refl
taking_all n (r ∷ rs) a = taking_all n rs (counted r.item r.at r.prints a) ∙ ap (counted_all rs) (step r.item)
  where
    step : (i : Item) → taking n (counted i r.at r.prints a) ≡ counted i r.at r.prints (taking n a)
    step (Printed c) = refl
    step (Control c) = refl
    step (Sequence q) = refl
    step (Refused k p) = refl

-- the printer buffer, written from its start and then from there on
pub written_twice : (xs ys buffer : List ℕ) → xs ++ written ys (drop (length xs) buffer) ≡ written (xs ++ ys) buffer
unfolding written
written_twice xs ys buffer =
    ap (λ (l : List ℕ). xs ++ (ys ++ l)) (drop-drop (length ys) (length xs) buffer ∙ ap (λ (n : ℕ). drop n buffer) (sym (length-append xs ys)))
    ∙ sym (append_assoc xs ys (drop (length (xs ++ ys)) buffer))

-- what serving some bytes as a message makes (the contract of `serve`): its items, what stands, what it prints, its counts
abbrev pub items_of : List ℕ → State → ℕ → List Read
items_of xs st room = reads_of (uncut xs) 0 st room

abbrev pub state_of : List ℕ → State → ℕ → State
state_of xs st room = apply_all (events_of (items_of xs st room)) st

abbrev pub prints_in : List ℕ → State → ℕ → List ℕ
prints_in xs st room = copies (events_of (items_of xs st room)) st

-- the same bytes from an offset
module _ (k : ℕ) (xs : List ℕ) (st : State) (room : ℕ) where
  abbrev later : List Read
  later = reads_of (uncut xs) k st room

  k_is : k + 0 ≡ k
  k_is = add-zero k

  pub later_state : apply_all (events_of later) st ≡ state_of xs st room
  later_state = ap (λ (n : ℕ). apply_all (events_of (reads_of (uncut xs) n st room)) st) (sym k_is) ∙ further_effect k (uncut xs) 0 st room

  pub later_prints : copies (events_of later) st ≡ prints_in xs st room
  later_prints = ap (λ (n : ℕ). copies (events_of (reads_of (uncut xs) n st room)) st) (sym k_is) ∙ further_prints k (uncut xs) 0 st room

  pub later_counts : (n : ℕ) → counted_all later (blank_answer 0 n) ≡ further k (counted_all (items_of xs st room) (blank_answer 0 n))
  later_counts n = ap (λ (o : ℕ). counted_all (reads_of (uncut xs) o st room) (blank_answer 0 n)) (sym k_is) ∙ further_counts k (uncut xs) 0 st room (blank_answer 0 n)

-- a piece as two servings: of xs, the first item where bytes wait (or of none), and of ys, the whole items behind it, in the room left over
module _ (t : Terminal) (m : List ℕ) (room : ℕ) (xs ys : List ℕ) (cut : gathered (held_in t.state.settings) m ≡ uncut xs ++ uncut ys) (ok : granted t (request (piece m) room) ≡ true) where
  abbrev s : Settings
  s = t.state.settings

  abbrev start : ℕ
  start = s.count - length (held_in s)

  abbrev st₁ : State
  st₁ = state_of xs t.state room

  abbrev p₁ : List ℕ
  p₁ = prints_in xs t.state room

  abbrev room₂ : ℕ
  room₂ = room - length p₁

  -- its items: those of both, each from its own offset
  two_reads : reads_by t (request (piece m) room) ≡ reads_of (uncut xs) start t.state room ++ reads_of (uncut ys) (start + length xs) st₁ room₂
  unfolding reads_by item_bytes start_of
  two_reads =
      let e = later_state start xs t.state room in
      let f = later_prints start xs t.state room in
      let rs : List Read = reads_of (uncut xs) start t.state room in
      ap (λ (l : List (List ℕ)). reads_of l start t.state room) cut ∙ reads_append (uncut xs) (uncut ys) start t.state room
      ∙ (λ i. rs ++ reads_of (uncut ys) (start + length (joined_uncut xs i)) (e i) (room - length (f i)))

  pub piece_state : (served t (request (piece m) room)).state ≡ lined (remaining (held_in s) m) (s.count + length m) (state_of ys st₁ room₂)
  unfolding waits_after count_after
  piece_state =
      let rs : List Read = reads_of (uncut xs) start t.state room in
      leaves_lined t (piece m) room ok refl
      ∙ ap (lined (remaining (held_in s) m) (s.count + length m))
      (ap (λ (l : List Read). apply_all (events_of l) t.state) two_reads
      ∙ applied_append rs (reads_of (uncut ys) (start + length xs) st₁ room₂) t.state
      ∙ ap (apply_all (events_of (reads_of (uncut ys) (start + length xs) st₁ room₂))) (later_state start xs t.state room)
      ∙ later_state (start + length xs) ys st₁ room₂)

  pub piece_prints : printed_by t (request (piece m) room) ≡ p₁ ++ prints_in ys st₁ room₂
  piece_prints =
      let rs : List Read = reads_of (uncut xs) start t.state room in
      let rs₂ : List Read = reads_of (uncut ys) (start + length xs) st₁ room₂ in
      granted_prints t (request (piece m) room) ok
      ∙ ap (λ (l : List Read). copies (events_of l) t.state) two_reads ∙ prints_append rs rs₂ t.state
      ∙ (λ i. later_prints start xs t.state room i ++ (ap (copies (events_of rs₂)) (later_state start xs t.state room) ∙ later_prints (start + length xs) ys st₁ room₂) i)

  -- its answer: the counts of both together, the first refusal's offset from the stream's start, all its bytes taken
  pub piece_answer : (n₁ n₂ : ℕ) → answer_of t (request (piece m) room)
      ≡ taking (length m) (together (further start (counted_all (items_of xs t.state room) (blank_answer 0 n₁))) (further (start + length xs) (counted_all (items_of ys st₁ room₂) (blank_answer 0 n₂))))
  unfolding taken_by
  piece_answer n₁ n₂ =
      let rs : List Read = reads_of (uncut xs) start t.state room in
      let rs₂ : List Read = reads_of (uncut ys) (start + length xs) st₁ room₂ in
      granted_answer t (request (piece m) room) ok ∙ ap (λ (l : List Read). counted_all l (blank_answer 0 (length m))) two_reads
      ∙ sym (taking_all (length m) (rs ++ rs₂) (blank_answer 0 (n₁ + n₂)))
      ∙ ap (taking (length m)) (sym (joint rs rs₂ n₁ n₂) ∙ (λ i. together (later_counts start xs t.state room n₁ i) (later_counts (start + length xs) ys st₁ room₂ n₂ i)))
