-- The loop's invariant, over what stands, and one turn of it: what is left to do gives the same end.
use mathlib.Core.Path.{◌∙◌, ◌≡◌, ap, refl, subst, sym}
use Prim.Native.Nat.{◌+◌, ◌-◌, ◌<◌, ◌≤◌, ℕ}
use native.Mathlib.Omega.{arith}
use mathlib.Core.Bool.{true}
use mathlib.Core.List.{List, [], ◌++◌, append_assoc, append-nil}
use lib.ListN.{drop, get_or, length, take, take-append-drop}
use lib.Seq.{drop-drop, length-take-le}
use Rattle.model.specs.declared.Item.{Item}
use Rattle.model.specs.declared.Outcome.{Outcome}
use Rattle.model.specs.Bytes.{put, written}
use Rattle.model.specs.State.{State, state}
use Rattle.model.specs.Picture.{painting}
use Rattle.model.specs.Sound.{Good}
use Rattle.model.specs.Judging.{judged, legal_item?, limits_of}
use Rattle.model.specs.Reading.{Read, item_of, own_bytes}
use Rattle.model.specs.Rules.{apply_item}
use Rattle.model.specs.Items.{apply_all, copies, copy_of, counted_all, events_of, obeyed_by, printer_bytes}
use Rattle.model.proofs.ByteLaws.{length-put}
use Rattle.model.proofs.ItemLaws.{obeyed_item}
use Rattle.calls.proofs.Loop.{answers, answers_turn, ends, ends_turn, prints, prints_turn, read_at, rest, rest_end}
use Rattle.calls.proofs.Patterns.{obeyed_in_message}
use Rattle.calls.proofs.Printing.{length-copy}
use Rattle.store.proofs.Laws.{put_front, put_rest}
use Rattle.counting.specs.declared.Counts.{Counts}
use Rattle.counting.specs.Counting.{answer_at, counts_with, no_counts}
use Rattle.serving.specs.Serves.{Runs, Serves, items_of}
use Rattle.counting.proofs.CountingLaws.{counted_at, counts_few, printed_with}

-- the message m, the offset and the counts at first, what stood there and the printer buffer as it came
module _ (m : List ℕ) (from : ℕ) (c₀ : Counts) (first : State) (buffer : List ℕ) where
  -- at an offset: what stands, the counts, the printer buffer now
  pub record Going (at : ℕ) (st : State) (c : Counts) (printer : List ℕ) : Type 0 where
    pub reached : at ≤ length m
    pub good : Good st
    pub few : c.accepted + c.refused ≤ at
    pub fits : c.printed ≤ length buffer
    pub same_size : length printer ≡ length buffer
    pub state_left : ends m at st (length buffer - c.printed) ≡ ends m from first (length buffer)
    pub answer_left : answers m at st (length buffer - c.printed) (answer_at (length m) c) ≡ answers m from first (length buffer) (answer_at (length m) c₀)
    pub printed_done : take c.printed printer ++ prints m at st (length buffer - c.printed) ≡ prints m from first (length buffer)
    pub printer_rest : drop c.printed printer ≡ drop c.printed buffer

  pub start : from ≤ length m → c₀.accepted + c₀.refused ≤ from → c₀.printed ≡ 0 → Good first → Going from first c₀ buffer
  start h n e g =
      let z : length buffer - c₀.printed ≡ length buffer = omega (arith, e) in
      record {
        reached = h;
        good = g;
        few = n;
        fits = omega (arith, e);
        same_size = refl;
        state_left = ap (ends m from first) z;
        answer_left = ap (λ (n : ℕ). answers m from first n (answer_at (length m) c₀)) z;
        printed_done = λ i. take (e i) buffer ++ prints m from first (z i);
        printer_rest = refl;
      }

  module _ (at : ℕ) (st : State) (c : Counts) (printer : List ℕ) (g : Going at st c printer) (more : at < length m) where
    abbrev room : ℕ
    room = length buffer - c.printed

    -- the mode that it is read in
    abbrev mode : ℕ
    mode = st.settings.mode

    abbrev item : Item
    item = judged (item_of at (own_bytes m at)) (limits_of st.settings) room

    -- an item obeyed, counted, and its copy printed behind those before
    Turned : Item → Type 0
    Turned i = (size : ℕ) (st' : State) (printer' : List ℕ) → size ≡ length (own_bytes m at) → at + size ≤ length m → legal_item? i (limits_of st.settings) ≡ true → 1 ≤ size → printer_bytes mode i ≤ room
        → st' ≡ apply_item (λ o. get_or m o 0) i st → printer' ≡ put c.printed (copy_of i st) printer → Going (at + size) st' (counts_with mode i at c) printer'

    turned : Turned item
    unfolding read_at Turned
    turned size st' printer' n inside legal some roomy e w =
        let ys : List ℕ = copy_of item st in
        let k : length ys ≡ printer_bytes mode item = length-copy item st in
        let p : (counts_with mode item at c).printed ≡ c.printed + length ys = printed_with mode item at c ∙ ap (λ (x : ℕ). c.printed + x) (sym k) in
        let here : obeyed_by (read_at m at st room) st ≡ st' = obeyed_in_message m at st room ∙ sym e in
        let left : room - printer_bytes mode item ≡ length buffer - (counts_with mode item at c).printed = omega (arith, printed_with mode item at c) in
        let fit : c.printed + length ys ≤ length printer = omega (arith, g.same_size, g.fits) in
        let tail : List ℕ = prints m (at + size) st' (length buffer - (counts_with mode item at c).printed) in
        record {
          reached = inside;
          good = subst Good (sym e) (obeyed_item (λ o. get_or m o 0) item st g.good legal).good;
          few = omega (arith, counts_few mode item at c, g.few);
          fits = omega (arith, printed_with mode item at c, g.fits);
          same_size = ap length w ∙ length-put c.printed ys printer fit ∙ g.same_size;
          state_left = sym (ends_turn m at st room more ∙ (λ i. ends m (at + sym n i) (here i) (left i))) ∙ g.state_left;
          answer_left = sym (answers_turn m at st room (answer_at (length m) c) more ∙ (λ i. answers m (at + sym n i) (here i) (left i) (counted_at mode item (length m) at c i))) ∙ g.answer_left;
          printed_done =
              (λ i. take (p i) (w i) ++ tail) ∙ ap (λ (l : List ℕ). l ++ tail) (put_front c.printed ys printer fit) ∙ append_assoc (take c.printed printer) ys tail
              ∙ ap (λ (l : List ℕ). take c.printed printer ++ l) (sym (prints_turn m at st room more ∙ (λ i. ys ++ prints m (at + sym n i) (here i) (left i)))) ∙ g.printed_done;
          printer_rest =
              (λ i. drop (p i) (w i)) ∙ put_rest c.printed ys printer fit ∙ further c.printed (length ys) printer ∙ ap (drop (length ys)) g.printer_rest ∙ sym (further c.printed (length ys) buffer)
              ∙ ap (λ (x : ℕ). drop x buffer) (sym p);
        }
      where
        further : (p n : ℕ) (xs : List ℕ) → drop (p + n) xs ≡ drop n (drop p xs)
        further p n xs = sym (drop-drop n p xs)

    -- the item that is read at the offset
    pub turn : (i : Item) → i ≡ item → (size : ℕ) (st' : State) (printer' : List ℕ) → size ≡ length (own_bytes m at) → at + size ≤ length m → legal_item? i (limits_of st.settings) ≡ true → 1 ≤ size → printer_bytes mode i ≤ room
        → st' ≡ apply_item (λ o. get_or m o 0) i st → printer' ≡ put c.printed (copy_of i st) printer → Going (at + size) st' (counts_with mode i at c) printer'
    unfolding Turned
    turn i e = subst Turned (sym e) turned

  -- the end
  pub finish : (at : ℕ) (st : State) (c : Counts) (printer : List ℕ) → Going at st c printer → length m ≤ at → (r : Outcome) → state r.settings st.cells st.layer st.dots ≡ st → r.answer ≡ answer_at at c
      → Runs m from c₀ first buffer r st.cells st.layer st.dots printer
  unfolding rest ends answers prints apply_all counted_all copies written
  finish at st c printer g h r e a =
      let end : at ≡ length m = omega (arith, g.reached) in
      let none : rest m at st (length buffer - c.printed) ≡ [] = rest_end m at st (length buffer - c.printed) h in
      let n : length (take c.printed printer) ≡ c.printed = length-take-le c.printed printer (omega (arith, g.fits, g.same_size)) in
      let all : take c.printed printer ≡ prints m from first (length buffer) =
      sym (append-nil (take c.printed printer)) ∙ ap (λ (rs : List Read). take c.printed printer ++ copies (events_of rs) st) (sym none) ∙ g.printed_done in
      record {
        state_is = e ∙ ap (λ (rs : List Read). apply_all (events_of rs) st) (sym none) ∙ g.state_left;
        answer_is = a ∙ ap (λ (n : ℕ). answer_at n c) end ∙ ap (λ (rs : List Read). counted_all rs (answer_at (length m) c)) (sym none) ∙ g.answer_left;
        printer_is =
            sym (take-append-drop c.printed printer) ∙ (λ i. all i ++ g.printer_rest i)
            ∙ ap (λ (x : ℕ). prints m from first (length buffer) ++ drop x buffer) (sym n ∙ ap length all);
      }

-- from the start, with no counts, it is the whole message
pub all_items : {m : List ℕ} {st : State} {buffer : List ℕ} {r : Outcome} {cells layer dots shown printer : List ℕ} {c : Counts} → c ≡ no_counts → (Runs m 0 c st buffer r cells layer dots printer) × (shown ≡ painting (state r.settings cells layer dots)) → Serves m st buffer r cells layer dots shown printer
all_items {m} {st} {buffer} e (w, x) = record { state_is = w.state_is; shown_is = x; answer_is = w.answer_is ∙ ap (λ (c : Counts). counted_all (items_of m st buffer) (answer_at (length m) c)) e; printer_is = w.printer_is }
