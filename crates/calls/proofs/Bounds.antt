-- Bounds of an answer, for the code that adds answers: no more sequences are counted than there are bytes, and the first refusal lies among them.
use mathlib.Core.Path.{◌≡◌, ap, refl, subst, sym}
use Prim.Native.Nat.{◌+◌, ◌-◌, ◌≤◌, ℕ}
use native.Mathlib.Omega.{arith}
use mathlib.Core.Bool.{Bool, false, true}
use mathlib.Core.List.{List, [], ◌∷◌}
use lib.ListN.{length, length-append}
use lib.Dec.{eqb}
use Rattle.model.specs.declared.Answer.{Answer}
use Rattle.model.specs.declared.Item.{Item}
use Rattle.model.specs.declared.Item.TheVariants.{Control, Printed, Refused, Sequence}
use Rattle.model.specs.Bytes.{joined}
use Rattle.model.specs.State.{State}
use Rattle.model.specs.Judging.{limits_of}
use Rattle.model.specs.Reading.{Read, uncut}
use Rattle.model.specs.Items.{blank_answer, counted, counted_all, obeyed_by, read, reads_of}
use Rattle.calls.specs.Calls.{Promised, Request, Terminal, granted, answer_of, called, item_bytes, message, number_of, reads_by, reads_in, request, start_of, taken_in}
use Rattle.model.proofs.Tests.{cond_at}
use Rattle.calls.proofs.CallLaws.{refused_answer}
use Rattle.model.proofs.Gathering.{AllSome, joined_uncut, none, some, some_uncut}
use Rattle.calls.proofs.Printing.{printed_is, prints_fit, taken_is}

-- one item more is one sequence more at most
few_counted : (i : Item) (at n : ℕ) (a : Answer) → (counted i at n a).accepted + (counted i at n a).refused ≤ a.accepted + a.refused + 1
few_counted (Printed c) at n a = omega arith
few_counted (Control c) at n a = omega arith
few_counted (Sequence q) at n a = omega arith
few_counted (Refused k p) at n a = omega arith

-- and every item has a byte
few_all : {bss : List (List ℕ)} → AllSome bss → (at : ℕ) (st : State) (room : ℕ) (a : Answer) → let b = counted_all (reads_of bss at st room) a in
    b.accepted + b.refused ≤ a.accepted + a.refused + length (joined bss)
unfolding reads_of counted_all joined
few_all none at st room a = omega arith
few_all (some {x = x} {xs = xs} h p) at st room a =
    let r : Read = read at x (limits_of st.settings) room in
    let a₂ : Answer = counted r.item at r.prints a in
    omega (arith, few_all p (at + length x) (obeyed_by r st) (room - r.prints) a₂, few_counted r.item at r.prints a, length-append x (joined xs))

-- the first refusal begins at or before the end of the bytes
near_counted : (i : Item) (at p : ℕ) (a : Answer) (n : ℕ) → at ≤ n → a.offset ≤ n → (counted i at p a).offset ≤ n
near_counted (Printed c) at p a n h k = k
near_counted (Control c) at p a n h k = k
near_counted (Sequence q) at p a n h k = k
near_counted (Refused c e) at p a n h k = cond_at (λ (o : ℕ). o ≤ n) (eqb a.refused 0) at a.offset (λ e. h) (λ e. k)

near_all : (bss : List (List ℕ)) (at : ℕ) (st : State) (room : ℕ) (a : Answer) (n : ℕ) → at + length (joined bss) ≤ n → a.offset ≤ n → (counted_all (reads_of bss at st room) a).offset ≤ n
unfolding reads_of counted_all joined
near_all [] at st room a n h k = k
near_all (x ∷ xs) at st room a n h k =
    let r : Read = read at x (limits_of st.settings) room in
    near_all xs (at + length x) (obeyed_by r st) (room - r.prints) (counted r.item at r.prints a) n (omega (arith, h, length-append x (joined xs))) (near_counted r.item at r.prints a n (omega (arith, h)) k)

-- an answer to so many bytes, in so much printer room
pub record Bounded (a : Answer) (n room : ℕ) : Type 0 where
  pub few : a.accepted + a.refused ≤ n
  pub near : a.offset ≤ n
  pub fits : a.printed ≤ room
  pub taken : a.taken ≤ n

-- every message call gives one
module _ (m : List ℕ) (t : Terminal) (room : ℕ) where
  abbrev q : Request
  q = request (message m) room

  abbrev none_yet : Answer
  none_yet = blank_answer (number_of t q) (taken_in t q)

  few_answer : (answer_of t q).accepted + (answer_of t q).refused ≤ length m
  unfolding answer_of reads_in reads_by item_bytes start_of counted_all
  few_answer = cond_at (λ (rs : List Read). (counted_all rs none_yet).accepted + (counted_all rs none_yet).refused ≤ length m) (granted t q) (reads_by t q) []
      (λ e. omega (arith, few_all (some_uncut m) 0 t.state room none_yet, ap length (joined_uncut m))) (λ e. omega arith)

  near_answer : (answer_of t q).offset ≤ length m
  unfolding answer_of reads_in reads_by item_bytes start_of counted_all
  near_answer = cond_at (λ (rs : List Read). (counted_all rs none_yet).offset ≤ length m) (granted t q) (reads_by t q) []
      (λ e. near_all (uncut m) 0 t.state room none_yet (length m) (omega (arith, ap length (joined_uncut m))) (omega arith)) (λ e. omega arith)

  taken_few : (answer_of t q).taken ≤ length m
  taken_few = go (granted t q) refl
    where
      go : (x : Bool) → granted t q ≡ x → (answer_of t q).taken ≤ length m
      go true e = omega (arith, taken_is t q e)
      go false e = omega (arith, ap (λ (x : Answer). x.taken) (refused_answer t q e))

pub bounded : (m : List ℕ) (t : Terminal) (buffer : List ℕ) (a : Answer) (l : Terminal) (p : List ℕ) → Promised (called m t buffer a l p) → Bounded a (length m) (length buffer)
bounded m t buffer a l p w =
    let q' : Request = request (message m) (length buffer) in
    let e : answer_of t q' ≡ a = sym w.answer_is in
    record {
      few = subst (λ (x : Answer). x.accepted + x.refused ≤ length m) e (few_answer m t (length buffer));
      near = subst (λ (x : Answer). x.offset ≤ length m) e (near_answer m t (length buffer));
      taken = subst (λ (x : Answer). x.taken ≤ length m) e (taken_few m t (length buffer));
      fits = subst (λ (x : Answer). x.printed ≤ length buffer) e (omega (arith, printed_is t q', prints_fit t q'));
    }
