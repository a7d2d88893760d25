-- The loop over the messages of a pack, for the code: what was sent and what is left are together the whole call (theorems' `Going`), and what is left begins
-- where a record does. A turn is one message more.
use mathlib.Core.Path.{◌∙◌, ◌≡◌, ap, refl, subst, sym}
use Prim.Native.Nat.{◌+◌, ◌-◌, ◌<◌, ◌^◌, ◌≤◌, ℕ}
use native.Mathlib.Omega.{arith}
use mathlib.Core.Bool.{Bool, cond, false, true}
use mathlib.Core.List.{List, [], ◌++◌, ◌∷◌, append-nil}
use lib.ListN.{drop, drop_of_length-le, length, length-drop, take}
use lib.Seq.{take_all}
use Rattle.std.specs.Prelude.{None, Option, Some, is_some, unwrap_or}
use lib.Dec.{eqb}
use borrow.Author.Tests.{eq-eqb, eqb-false, eqb-true, ne_eqb}
use Rattle.model.specs.declared.Answer.{Answer}
use Rattle.model.specs.declared.Outcome.{Outcome}
use Rattle.model.specs.declared.Settings.{Settings}
use Rattle.model.specs.State.{state}
use Rattle.model.specs.Records.{length_in}
use Rattle.model.specs.Picture.{painting}
use Rattle.calls.specs.Packs.{bodies_of}
use Rattle.model.specs.Items.{blank_answer}
use Rattle.calls.specs.Calls.{Promised, Request, Terminal, granted, called, first_of, message, number_of, pack, pack_called, reasons, request, terminal}
use Rattle.model.specs.Answers.{together}
use Rattle.model.proofs.Tests.{cond_at, differ}
use Rattle.model.proofs.ByteLaws.{length-written}
use Rattle.calls.proofs.CallLaws.{granted_number, number_granted}
use Rattle.calls.proofs.Bounds.{bounded}
use Rattle.calls.proofs.PackRequests.{AllSendable, Quiet, also_sendable, pack_quiet, quiet_granted}
use Rattle.calls.proofs.PackLoop.{Going, begins, bodies_within, ends, goes_on, record_then}
use Rattle.records.proofs.Laws.{bodies_at, bodies_over}
use Rattle.stream_parts.specs.Parts.{Addable, both_of}
use Rattle.counting.specs.declared.Counts.{Counts}
use Rattle.counting.specs.Counting.{no_counts}
use Rattle.serving.specs.Serves.{Runs, Servable}
use Rattle.serving.proofs.Going.{all_items}
use Rattle.terminal.proofs.Answers.{served}
use Rattle.packs.proofs.Numbers.{whole-pack}
use Rattle.packs.proofs.Walking.{Whole, behind, fits}

-- an answer no further on
no_further : (a b : Answer) → both_of a b 0 ≡ together a b
no_further a b = ap (together a) (λ i. record { number = b.number; taken = b.taken; accepted = b.accepted; refused = b.refused; first = b.first; parameter = b.parameter; offset = same (eqb b.refused 0) i; printed = b.printed })
  where
    same : (c : Bool) → cond c b.offset (0 + b.offset) ≡ b.offset
    same true = refl
    same false = omega arith

-- the record of the first refusal as the code has it: none while nothing was refused. After x refusals, and y in message k
abbrev Found : ℕ → Option ℕ → Type 0
Found x f = f ≡ cond (eqb x 0) None (Some (unwrap_or f 0))

module _ (x y k : ℕ) where
  abbrev found_then : Option ℕ → Option ℕ
  found_then f = cond (is_some f) f (cond (eqb y 0) None (Some k))

  found_later : (f : Option ℕ) → Found x f → unwrap_or (found_then f) 0 ≡ cond (eqb x 0) (cond (eqb y 0) (unwrap_or f 0) k) (unwrap_or f 0)
  found_later None h = go (eqb x 0) (eqb y 0) h
    where
      go : (a b : Bool) → ◌≡◌ {A = Option ℕ} None (cond a None (Some 0)) → unwrap_or (cond b None (Some k)) 0 ≡ cond a (cond b 0 k) 0
      go true true e = refl
      go true false e = refl
      go false b e = absurd (differ (sym (ap is_some e)))
  found_later (Some m) h = go (eqb x 0) h
    where
      go : (a : Bool) → ◌≡◌ {A = Option ℕ} (Some m) (cond a None (Some m)) → m ≡ cond a (cond (eqb y 0) m k) m
      go true e = absurd (differ (ap is_some e))
      go false e = refl

  found_then_is : (f : Option ℕ) → Found x f → Found (x + y) (found_then f)
  found_then_is None h = go (eqb x 0) (eqb y 0) refl refl h
    where
      go : (a b : Bool) → eqb x 0 ≡ a → eqb y 0 ≡ b → ◌≡◌ {A = Option ℕ} None (cond a None (Some 0)) → cond b None (Some k) ≡ cond (eqb (x + y) 0) None (Some (unwrap_or (cond b None (Some k)) 0))
      go true true p q e = let z : eqb (x + y) 0 ≡ true = eq-eqb (x + y) 0 (omega (arith, eqb-true x 0 p, eqb-true y 0 q)) in rw z
      go true false p q e = let z : eqb (x + y) 0 ≡ false = ne_eqb (x + y) 0 (λ (o : x + y ≡ 0). eqb-false y 0 q (omega (arith, o))) in rw z
      go false b p q e = absurd (differ (sym (ap is_some e)))
  found_then_is (Some m) h = go (eqb x 0) refl h
    where
      go : (a : Bool) → eqb x 0 ≡ a → ◌≡◌ {A = Option ℕ} (Some m) (cond a None (Some m)) → Some m ≡ cond (eqb (x + y) 0) None (Some m)
      go true p e = absurd (differ (ap is_some e))
      go false p e = let z : eqb (x + y) 0 ≡ false = ne_eqb (x + y) 0 (λ (o : x + y ≡ 0). eqb-false x 0 p (omega (arith, o))) in rw z

module _ (s : Settings) (p cells layer dots shown buffer : List ℕ) where
  abbrev given : Terminal
  given = terminal s cells layer dots shown

  -- the printer buffer keeps its length
  pub going_length : {ms : List (List ℕ)} {k : ℕ} {x : Terminal} {a : Answer} {n : ℕ} {printer : List ℕ} → Going given p buffer ms k x a n printer → length printer ≡ length buffer
  going_length g = ap length g.printer_is ∙ length-written g.done buffer (omega (arith, g.done_are, g.fits))

  -- k messages were sent, the first of what is left begins at `at`; a is the sum of the answers and f the record of the first refusal so far
  pub record Loop (cells' layer' shown' dots' printer : List ℕ) (s' : Settings) (a : Answer) (f : Option ℕ) (k at : ℕ) : Type 0 where
    pub whole : Whole p at
    pub few : length p ≤ 60000
    pub began : Quiet given
    -- the shown screen, had every message painted: the last does
    pub seen : List ℕ
    pub sized : length shown' ≡ 640
    pub last : length p ≤ at → shown' ≡ seen
    pub found : Found a.refused f
    pub going : Going given p buffer (bodies_of (drop at p)) (k + 1) (terminal s' cells' layer' dots' seen) a (unwrap_or f 0) printer

  pub begin : {a : Answer} → first_of (reasons given (pack p)) ≡ 0 → a ≡ blank_answer 0 0 → Loop cells layer shown dots buffer s a None 0 0
  unfolding number_of
  begin e f =
      let q : Request = request (pack p) (length buffer) in
      let ok : granted given q ≡ true = granted_number given q e in
      record {
        whole = record { inside = omega arith; uncut = (whole-pack given p e).1 };
        few = (whole-pack given p e).0;
        began = pack_quiet given p (length buffer) ok;
        seen = shown;
        sized = (pack_quiet given p (length buffer) ok).shown_is;
        last = λ over. refl;
        found = λ i. cond (eqb (sym f i).refused 0) None (Some 0);
        going = subst (λ (b : Answer). Going given p buffer (bodies_of p) 1 given b 0 buffer) (sym f) (begins given p buffer ok);
      }

  -- with none left it is the call's promise
  pub end : {cells' layer' shown' dots' printer : List ℕ} {s' : Settings} {a : Answer} {f : Option ℕ} {k at : ℕ} → Loop cells' layer' shown' dots' printer s' a f k at → length p ≤ at
      → Promised (pack_called p given buffer a (unwrap_or f 0) (terminal s' cells' layer' dots' shown') printer)
  end {cells'} {layer'} {shown'} {dots'} {printer} {s'} {a} {f} {k} {at} h over =
      subst (λ (x : List ℕ). Promised (pack_called p given buffer a (unwrap_or f 0) (terminal s' cells' layer' dots' x) printer)) (sym (h.last over))
      (ends given p buffer (subst (λ (ms : List (List ℕ)). Going given p buffer ms (k + 1) (terminal s' cells' layer' dots' h.seen) a (unwrap_or f 0) printer) (bodies_over p at over) h.going))

  -- a record more, its body of so many bytes
  module _ {cells' layer' shown' dots' printer : List ℕ} {s' : Settings} {a : Answer} {f : Option ℕ} {k at : ℕ} (h : Loop cells' layer' shown' dots' printer s' a f k at) (some : at < length p)
      {size : ℕ} (e : size ≡ length_in (drop at p)) where
    abbrev body : List ℕ
    body = take ((at + 4 + size) - (at + 4)) (drop (at + 4) p)

    abbrev rest : List (List ℕ)
    rest = bodies_of (drop (at + (size + 4)) p)

    abbrev n : ℕ
    n = unwrap_or f 0

    abbrev stood : Terminal
    stood = terminal s' cells' layer' dots' h.seen

    pub record_fits : at + 4 + size ≤ length p
    record_fits = omega (arith, fits p at size h.whole some e)

    next : Going given p buffer (body ∷ rest) (k + 1) stood a n printer
    next =
        let z : size ≡ (at + 4 + size) - (at + 4) = omega arith in
        subst (λ (ms : List (List ℕ)). Going given p buffer ms (k + 1) stood a n printer) (bodies_at p at size e some ∙ ap (λ (j : ℕ). take j (drop (at + 4) p) ∷ rest) z) h.going

    first_sendable : {m : List ℕ} {ms : List (List ℕ)} → AllSendable (m ∷ ms) → length m ≤ 4096
    first_sendable (also_sendable l ls) = l

    pub servable : Servable s' body cells' layer' dots' shown'
    servable = let q = next.quiet in record { good = q.good; sendable = first_sendable next.sendables; shown_are = h.sized }

    -- its number is within the pack's bytes
    pub numbers : k + 1 ≤ 60000
    numbers = omega (arith, next.counted, (bodies_within p).1, h.few)

    -- what it is lent of the printer buffer
    abbrev part : List ℕ
    part = take (length printer - a.printed) (drop a.printed printer)

    lent : part ≡ drop a.printed printer
    lent = take_all (length printer - a.printed) (drop a.printed printer) (omega (arith, length-drop a.printed printer))

    -- served from its start, and painted if it is the last
    module _ (r : Outcome) {c : Counts} {cells'' layer'' dots'' shown'' part' : List ℕ} (none : c ≡ no_counts)
        (w : (Runs body 0 c (state s' cells' layer' dots') part r cells'' layer'' dots'' part') × (shown'' ≡ cond (eqb (at + 4 + size) (length p)) (painting (state r.settings cells'' layer'' dots'')) shown')) where
      abbrev painted : List ℕ
      painted = painting (state r.settings cells'' layer'' dots'')

      made : Promised (called body stood part r.answer (terminal r.settings cells'' layer'' dots'' painted) part')
      unfolding number_of
      made =
          let q : Request = request (message body) (length part) in
          let z : number_of stood q ≡ 0 = number_granted stood q (quiet_granted next.quiet body (first_sendable next.sendables) (length part)) in
          served s' body cells' layer' dots' h.seen part r cells'' layer'' dots'' painted part' z (all_items none (w.0, refl))

      after : Going given p buffer rest (k + 1 + 1) (terminal r.settings cells'' layer'' dots'' painted) (together a r.answer) (record_then a r.answer (k + 1) n) (take a.printed printer ++ part')
      after = goes_on given p buffer body rest (k + 1) stood a n printer next part lent r.answer (terminal r.settings cells'' layer'' dots'' painted) part' made

      pub addable : length buffer < 2 ^ 64 → Addable a r.answer 0
      addable l =
          let most = (bodies_within p).0 in
          record {
            taken = omega (arith, after.taken_is, most, h.few);
            accepted = omega (arith, after.few, after.taken_is, most, h.few);
            refused = omega (arith, after.few, after.taken_is, most, h.few);
            printed = omega (arith, after.fits, l);
            offset = omega (arith, (bounded body stood part r.answer (terminal r.settings cells'' layer'' dots'' painted) part' made).near, first_sendable next.sendables);
          }

      pub again : {a' : Answer} {f' : Option ℕ} → a' ≡ both_of a r.answer 0 → f' ≡ found_then a.refused r.answer.refused (k + 1) f
          → Loop cells'' layer'' shown'' dots'' (take a.printed printer ++ (part' ++ drop (length printer - a.printed) (drop a.printed printer))) r.settings a' f' (k + 1) (at + 4 + size)
      again e' g =
          let g' = ap (λ (o : Option ℕ). unwrap_or o 0) g ∙ found_later a.refused r.answer.refused (k + 1) f h.found in
          let to : at + (size + 4) ≡ at + 4 + size = omega arith in
          let nothing : drop (length printer - a.printed) (drop a.printed printer) ≡ [] = drop_of_length-le (drop a.printed printer) {i = length printer - a.printed} (omega (arith, length-drop a.printed printer)) in
          record {
            whole = subst (Whole p) to (behind p at size h.whole some e);
            few = h.few;
            began = h.began;
            seen = painted;
            sized = ap length w.1 ∙ cond_at (λ (x : List ℕ). length x ≡ 640) (eqb (at + 4 + size) (length p)) painted shown' (λ _. after.quiet.shown_is) (λ _. h.sized);
            last = λ over. w.1 ∙ ap (λ (b : Bool). cond b painted shown') (eq-eqb (at + 4 + size) (length p) (omega (arith, over, record_fits)));
            found = subst (λ (x : ℕ × Option ℕ). Found x.0 x.1) (λ i. (sym (ap (λ (b : Answer). b.refused) e') i, sym g i)) (found_then_is a.refused r.answer.refused (k + 1) f h.found);
            going = subst (λ (x : (List (List ℕ)) × (Answer × (ℕ × List ℕ))). Going given p buffer x.0 (k + 1 + 1) (terminal r.settings cells'' layer'' dots'' painted) x.1.0 x.1.1.0 x.1.1.1)
                (λ i. (bodies_of (drop (to i) p), (sym (e' ∙ no_further a r.answer) i, (sym g' i, take a.printed printer ++ sym (ap (λ (l : List ℕ). part' ++ l) nothing ∙ append-nil part') i)))) after;
          }
