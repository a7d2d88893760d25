-- P6, for the code: a pack served by a message call for each body, each on the rest of the printer buffer. What was done and what is left to do are together the
-- whole call (`Going`). It begins so, a body more keeps it, and with none left it is the call's promise.
use mathlib.Core.Path.{◌∙◌, ◌≡◌, ap, refl, subst, sym}
use Prim.Native.Nat.{◌+◌, ◌-◌, ◌≤◌, suc, zero, ℕ}
use native.Mathlib.Nat.{add-zero, sub-zero}
use native.Mathlib.Omega.{arith}
use mathlib.Core.Bool.{Bool, cond, false, true}
use mathlib.Core.List.{List, [], ◌++◌, ◌∷◌, append_assoc, append-nil, map}
use lib.ListN.{drop, length, length-append, length-drop, length-take, take}
use lib.Seq.{drop-append_seam, take-append_seam}
use lib.Dec.{eqb}
use borrow.Author.Tests.{eq-eqb, eqb-false, eqb-true, ne_eqb}
use Rattle.model.specs.declared.Answer.{Answer}
use Rattle.model.specs.Bytes.{joined, written}
use Rattle.model.specs.Reading.{Read}
use Rattle.model.specs.Records.{Record, body_in, length_in, record_in, records_after}
use Rattle.calls.specs.Packs.{bodies_of}
use Rattle.model.specs.Items.{blank_answer, counted_all}
use Rattle.calls.specs.Calls.{Promised, Request, Terminal, granted, answer_of, called, message, pack, pack_called, printed_by, reads_by, record_of, request, served, taken_by}
use Rattle.calls.specs.Lists.{one_by_one, stands}
use Rattle.model.specs.Answers.{together}
use Rattle.model.proofs.Tests.{cond_at}
use Rattle.calls.proofs.Printing.{printed_is, taken_is}
use Rattle.calls.proofs.CallLaws.{granted_answer, answer_number, left_is, number_granted}
use Rattle.model.proofs.AnswerLaws.{joint, joint_refused, together_assoc}
use Rattle.calls.proofs.OverRequests.{answers_over, printed_over}
use Rattle.calls.proofs.Bounds.{Bounded, bounded}
use Rattle.calls.proofs.PieceServings.{written_twice}
use Rattle.calls.proofs.PackRequests.{AllSendable, Quiet, also_sendable, pack_answer, pack_prints, pack_quiet, pack_record, pack_sendable, pack_stands, quiet_granted, quiet_left, refused_from}

-- the bodies are among the bytes of the pack, and no more than these
within_after : (n : ℕ) (bs : List ℕ) → let ms = map (λ (r : Record). r.body) (records_after n bs) in (length (joined ms) ≤ length bs - n) × (length ms ≤ length bs - n)
unfolding records_after joined record_in body_in
within_after n [] = (omega arith, omega arith)
within_after zero (b ∷ bs) =
    let l : ℕ = length_in (b ∷ bs) in
    let z = within_after (l + 3) bs in
    let own : List ℕ = take l (drop 4 (b ∷ bs)) in
    let rest : List (List ℕ) = map (λ (r : Record). r.body) (records_after (l + 3) bs) in
    (omega (arith, z.0, length-append own (joined rest), length-take l (drop 4 (b ∷ bs)), length-drop 4 (b ∷ bs)), omega (arith, z.1))
within_after (suc n) (b ∷ bs) = let z = within_after n bs in (omega (arith, z.0), omega (arith, z.1))

pub bodies_within : (p : List ℕ) → (length (joined (bodies_of p)) ≤ length p) × (length (bodies_of p) ≤ length p)
unfolding bodies_of
bodies_within p = let z = within_after 0 p in (omega (arith, z.0), omega (arith, z.1))

-- the record of the first refusal, when the answer of message k comes to those before
abbrev pub record_then : Answer → Answer → ℕ → ℕ → ℕ
record_then a b k n = cond (eqb a.refused 0) (cond (eqb b.refused 0) n k) n

-- an answer of which no refusal means no first refusal: nothing more leaves it
abbrev Clean : Answer → Type 0
Clean a = together a (blank_answer 0 0) ≡ a

clean_message : (x : Terminal) (m : List ℕ) (room : ℕ) → granted x (request (message m) room) ≡ true → Clean (answer_of x (request (message m) room))
unfolding counted_all taken_by
clean_message x m room e =
    let rs : List Read = reads_by x (request (message m) room) in
    let a : answer_of x (request (message m) room) ≡ counted_all rs (blank_answer 0 (length m)) = granted_answer x (request (message m) room) e in
    ap (λ (b : Answer). together b (blank_answer 0 0)) a ∙ joint rs [] (length m) 0 ∙ (λ i. counted_all (append-nil rs i) (blank_answer 0 (add-zero (length m) i))) ∙ sym a

module _ (t : Terminal) (p buffer : List ℕ) where
  abbrev asked : Request
  asked = request (pack p) (length buffer)

  -- what is still to be sent
  abbrev ahead : List (List ℕ) → Terminal → Answer → List Request
  ahead ms x a = one_by_one x ms (length buffer - a.printed)

  -- bodies ms are left, the next of them number k; x stands; a is the sum of the answers and n the record of the first refusal so far
  pub record Going (ms : List (List ℕ)) (k : ℕ) (x : Terminal) (a : Answer) (n : ℕ) (printer : List ℕ) : Type 0 where
    pub quiet : Quiet x
    pub sendables : AllSendable ms
    pub left_is : stands x (ahead ms x a) ≡ served t asked
    pub answer_is : together a (answers_over x (ahead ms x a)) ≡ answer_of t asked
    pub clean : Clean a
    pub record_is : cond (eqb a.refused 0) (refused_from k x (ahead ms x a)) n ≡ record_of t asked
    pub no_record : a.refused ≡ 0 → n ≡ 0
    -- the bytes printed so far
    pub done : List ℕ
    pub done_are : length done ≡ a.printed
    pub printer_is : printer ≡ written done buffer
    pub printed_are : done ++ printed_over x (ahead ms x a) ≡ printed_by t asked
    -- bounds, for the code that adds
    pub fits : a.printed ≤ length buffer
    pub taken_is : a.taken + length (joined ms) ≡ length (joined (bodies_of p))
    pub few : a.accepted + a.refused ≤ a.taken
    pub near : a.offset ≤ 4096
    pub counted : k + length ms ≡ length (bodies_of p) + 1

  pub begins : granted t asked ≡ true → Going (bodies_of p) 1 t (blank_answer 0 0) 0 buffer
  unfolding written
  begins e = let z = sub-zero (length buffer) in record {
    quiet = pack_quiet t p (length buffer) e;
    sendables = pack_sendable t p (length buffer) e;
    left_is = ap (λ (r : ℕ). stands t (one_by_one t (bodies_of p) r)) z ∙ sym (pack_stands t p (length buffer) e);
    answer_is = joint_refused 0 _ ∙ ap (λ (r : ℕ). answers_over t (one_by_one t (bodies_of p) r)) z ∙ sym (pack_answer t p (length buffer) e);
    clean = joint_refused 0 (blank_answer 0 0);
    record_is = ap (λ (r : ℕ). refused_from 1 t (one_by_one t (bodies_of p) r)) z ∙ sym (pack_record t p (length buffer) e);
    no_record = λ z. refl;
    done = [];
    done_are = refl;
    printer_is = refl;
    printed_are = ap (λ (r : ℕ). printed_over t (one_by_one t (bodies_of p) r)) z ∙ sym (pack_prints t p (length buffer) e);
    fits = omega arith;
    taken_is = omega arith;
    few = omega arith;
    near = omega arith;
    counted = omega arith;
  }

  -- with none left
  pub ends : {k : ℕ} {x : Terminal} {a : Answer} {n : ℕ} {printer : List ℕ} → Going [] k x a n printer → Promised (pack_called p t buffer a n x printer)
  unfolding one_by_one stands answers_over printed_over refused_from
  ends {a = a} {n = n} g = record {
    answer_is = sym g.clean ∙ g.answer_is;
    record_is = last (eqb a.refused 0) refl ∙ g.record_is;
    settings_are = ap (λ (y : Terminal). y.state.settings) g.left_is;
    cells_are = ap (λ (y : Terminal). y.state.cells) g.left_is;
    layer_is = ap (λ (y : Terminal). y.state.layer) g.left_is;
    dots_are = ap (λ (y : Terminal). y.state.dots) g.left_is;
    shown_is = ap (λ (y : Terminal). y.shown) g.left_is;
    printer_is = g.printer_is ∙ ap (λ (ys : List ℕ). written ys buffer) (sym (append-nil g.done) ∙ g.printed_are);
  }
    where
      last : (b : Bool) → eqb a.refused 0 ≡ b → n ≡ cond b 0 n
      last true e = g.no_record (eqb-true _ _ e)
      last false e = refl

  -- one body more: a message call on the rest of the printer buffer
  module _ (m : List ℕ) (ms : List (List ℕ)) (k : ℕ) (x : Terminal) (a : Answer) (n : ℕ) (printer : List ℕ) (g : Going (m ∷ ms) k x a n printer)
      (part : List ℕ) (lent : part ≡ drop a.printed printer) (b : Answer) (y : Terminal) (part' : List ℕ) (w : Promised (called m x part b y part')) where
    abbrev room : ℕ
    room = length buffer - a.printed

    abbrev one : Request
    one = request (message m) room

    sendable_one : AllSendable (m ∷ ms) → (length m ≤ 4096) × AllSendable ms
    sendable_one (also_sendable h hs) = (h, hs)

    pub shorter : length m ≤ 4096
    shorter = (sendable_one g.sendables).0

    -- what it is lent
    part_is : part ≡ drop (length g.done) buffer
    unfolding written
    part_is =
        lent ∙ (λ i. drop (sym g.done_are i) (g.printer_is i)) ∙ drop-append_seam g.done (drop (length g.done) buffer)

    room_is : length part ≡ room
    room_is = ap length part_is ∙ length-drop (length g.done) buffer ∙ ap (λ (j : ℕ). length buffer - j) g.done_are

    asked_is : request (message m) (length part) ≡ one
    asked_is = ap (request (message m)) room_is

    ok : granted x one ≡ true
    ok = quiet_granted g.quiet m shorter room

    -- it is served
    answer_one : b ≡ answer_of x one
    answer_one = w.answer_is ∙ ap (answer_of x) asked_is

    left_one : y ≡ served x one
    left_one = left_is (called m x part b y part') w ∙ ap (served x) asked_is

    room_left : length buffer - (a.printed + b.printed) ≡ room - (answer_of x one).printed
    room_left = omega (arith, ap (λ (z : Answer). z.printed) answer_one)

    bounds : Bounded b (length m) (length part)
    bounds = bounded m x part b y part' w

    taken_one : b.taken ≡ length m
    taken_one = ap (λ (z : Answer). z.taken) answer_one ∙ taken_is x one ok

    -- what is left to send, from there
    ahead_is : one_by_one (served x one) ms (room - (answer_of x one).printed) ≡ ahead ms y (together a b)
    ahead_is = λ i. one_by_one (sym left_one i) ms (sym room_left i)

    wrote : List ℕ
    wrote = printed_by x one

    wrote_is : length wrote ≡ b.printed
    unfolding wrote
    wrote_is = sym (ap (λ (z : Answer). z.printed) answer_one ∙ printed_is x one)

    -- the record, by whether a refusal came before and whether one comes now
    record_on : (r : ℕ) → cond (eqb a.refused 0) (cond (eqb b.refused 0) r k) n ≡ cond (eqb (a.refused + b.refused) 0) r (record_then a b k n)
    record_on r = go (eqb a.refused 0) refl (eqb b.refused 0) refl
      where
        go : (u : Bool) → eqb a.refused 0 ≡ u → (v : Bool) → eqb b.refused 0 ≡ v → cond u (cond v r k) n ≡ cond (eqb (a.refused + b.refused) 0) r (cond u (cond v n k) n)
        go true e true f = let z : eqb (a.refused + b.refused) 0 ≡ true = eq-eqb (a.refused + b.refused) 0 (omega (arith, eqb-true a.refused 0 e, eqb-true b.refused 0 f)) in rw z
        go true e false f = let z : eqb (a.refused + b.refused) 0 ≡ false = ne_eqb (a.refused + b.refused) 0 (λ (h : a.refused + b.refused ≡ 0). eqb-false b.refused 0 f (omega (arith, h))) in rw z
        go false e v f = let z : eqb (a.refused + b.refused) 0 ≡ false = ne_eqb (a.refused + b.refused) 0 (λ (h : a.refused + b.refused ≡ 0). eqb-false a.refused 0 e (omega (arith, h))) in rw z

    none_on : a.refused + b.refused ≡ 0 → record_then a b k n ≡ 0
    none_on h =
        let u : a.refused ≡ 0 = omega (arith, h) in
        let v : b.refused ≡ 0 = omega (arith, h) in
        (λ i. cond (eqb (u i) 0) (cond (eqb (v i) 0) n k) n) ∙ g.no_record u

    clean_one : Clean b
    clean_one = subst Clean (sym answer_one) (clean_message x m room ok)

    written_on : take a.printed printer ++ part' ≡ written (g.done ++ wrote) buffer
    unfolding written wrote
    written_on =
        let front : take a.printed printer ≡ g.done = (λ i. take (sym g.done_are i) (g.printer_is i)) ∙ take-append_seam g.done (drop (length g.done) buffer) in
        let rest : part' ≡ written wrote (drop (length g.done) buffer) = w.printer_is ∙ (λ i. written (printed_by x (asked_is i)) (part_is i)) in
        (λ i. front i ++ rest i) ∙ written_twice g.done wrote buffer

    near_on : (together a b).offset ≤ 4096
    near_on = cond_at (λ (o : ℕ). o ≤ 4096) (eqb a.refused 0) b.offset a.offset (λ e. omega (arith, bounds.near, shorter)) (λ e. g.near)

    pub goes_on : Going ms (k + 1) y (together a b) (record_then a b k n) (take a.printed printer ++ part')
    unfolding one_by_one stands answers_over printed_over refused_from joined wrote
    goes_on = record {
      quiet = subst Quiet (sym left_one) (quiet_left g.quiet m shorter room);
      sendables = (sendable_one g.sendables).1;
      left_is = (λ i. stands (left_one i) (sym ahead_is i)) ∙ g.left_is;
      answer_is = (λ i. together (together a (answer_one i)) (answers_over (left_one i) (sym ahead_is i))) ∙ sym (together_assoc a (answer_of x one) _) ∙ g.answer_is;
      clean = sym (together_assoc a b (blank_answer 0 0)) ∙ ap (together a) clean_one;
      record_is = (λ i. cond (eqb (a.refused + b.refused) 0) (refused_from (k + 1) (left_one i) (sym ahead_is i)) (record_then a b k n)) ∙ sym (record_on _) ∙ (λ i. cond (eqb a.refused 0) (cond (eqb (answer_one i).refused 0) (refused_from (k + 1) (served x one) (one_by_one (served x one) ms (room - (answer_of x one).printed))) k) n) ∙ g.record_is;
      no_record = none_on;
      done = g.done ++ wrote;
      done_are = length-append g.done wrote ∙ (λ i. g.done_are i + wrote_is i);
      printer_is = written_on;
      printed_are = (λ i. (g.done ++ wrote) ++ printed_over (left_one i) (sym ahead_is i)) ∙ append_assoc g.done wrote _ ∙ g.printed_are;
      fits = omega (arith, g.fits, bounds.fits, room_is);
      taken_is = omega (arith, g.taken_is, taken_one, length-append m (joined ms));
      few = omega (arith, g.few, bounds.few, taken_one);
      near = near_on;
      counted = omega (arith, g.counted);
    }

    -- its number is 0
    pub serves : b.number ≡ 0
    serves = ap (λ (z : Answer). z.number) answer_one ∙ answer_number x one ∙ number_granted x one ok
