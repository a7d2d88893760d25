-- The message call's promise and the short call's (P12), for the code: from what the loop ends with, or from a refusal that leaves all as it came.
use mathlib.Core.Path.{◌∙◌, ◌≡◌, ap, refl, subst, sym}
use Prim.Native.Nat.{ℕ}
use mathlib.Core.Bool.{false, true}
use mathlib.Core.List.{List, append-nil}
use lib.ListN.{length}
use Rattle.model.specs.declared.Answer.{Answer}
use Rattle.model.specs.Bytes.{written}
use Rattle.model.specs.State.{State}
use Rattle.model.specs.Picture.{painting}
use Rattle.model.specs.Reading.{Read}
use Rattle.calls.specs.Repaint.{shown_behind}
use Rattle.model.specs.Items.{Event, apply_all, blank_answer, events_of}
use Rattle.calls.specs.Calls.{Promised, Request, Terminal, granted, beside_items, called, events_by, item_bytes, message, number_of, short, short_called, reads_by, record_of, request, served, start_of, taken_by}
use Rattle.calls.proofs.Loop.{answers, ends, prints, rest}
use Rattle.calls.proofs.CallLaws.{granted_answer, granted_leaves, granted_prints, after}
use Rattle.calls.proofs.Promises.{promised_by, promised_none}

module _ (m : List ℕ) (d : Terminal) (buffer : List ℕ) where
  abbrev asked : Request
  asked = request (message m) (length buffer)

  -- served: the loop's end from offset 0, then the painting; the line stays, since a message has no event for it
  pub promised_served : (answer : Answer) (left : Terminal) (printer : List ℕ) → granted d asked ≡ true
      → left.state ≡ ends m 0 d.state (length buffer) → left.shown ≡ painting left.state
      → answer ≡ answers m 0 d.state (length buffer) (blank_answer 0 (length m)) → printer ≡ written (prints m 0 d.state (length buffer)) buffer
      → Promised (called m d buffer answer left printer)
  unfolding ends answers prints rest after reads_by item_bytes start_of events_by beside_items taken_by record_of
  promised_served answer left printer e s p a w =
      let made : ends m 0 d.state (length buffer) ≡ (after d asked).state = ap (λ (es : List Event). apply_all es d.state) (sym (append-nil (events_of (reads_by d asked)))) in
      promised_by (called m d buffer answer left printer) e refl
      (s ∙ made ∙ sym (ap (λ (x : Terminal). x.state) (granted_leaves d asked e))) p
      (a ∙ sym (granted_answer d asked e)) (w ∙ ap (λ (ys : List ℕ). written ys buffer) (sym (granted_prints d asked e))) refl

  -- refused
  pub promised_refused : (answer : Answer) (left : Terminal) (printer : List ℕ) → granted d asked ≡ false
      → left ≡ d → answer ≡ blank_answer (number_of d asked) 0 → printer ≡ buffer → Promised (called m d buffer answer left printer)
  promised_refused answer left printer e s a w = promised_none (called m d buffer answer left printer) e s a w refl

  -- P12: the same, with these places painted
  pub promised_short : (answer : Answer) (left : Terminal) (printer : List ℕ) → granted d (request (short m) (length buffer)) ≡ true
      → left.state ≡ ends m 0 d.state (length buffer)
      → let rs = rest m 0 d.state (length buffer) in left.shown ≡ shown_behind rs d.state left.state d.shown
      → answer ≡ answers m 0 d.state (length buffer) (blank_answer 0 (length m)) → printer ≡ written (prints m 0 d.state (length buffer)) buffer
      → Promised (short_called m d buffer answer left printer)
  unfolding ends answers prints rest after reads_by item_bytes start_of events_by beside_items taken_by record_of
  promised_short answer left printer e s p a w =
      let q : Request = request (short m) (length buffer) in
      let rs : List Read = reads_by d q in
      let made : ends m 0 d.state (length buffer) ≡ (after d q).state = ap (λ (es : List Event). apply_all es d.state) (sym (append-nil (events_of rs))) in
      let z : left.state ≡ (served d q).state = s ∙ made ∙ sym (ap (λ (x : Terminal). x.state) (granted_leaves d q e)) in
      let shown : (served d q).shown ≡ shown_behind rs d.state (served d q).state d.shown =
      subst (λ (x : Terminal). x.shown ≡ shown_behind rs d.state x.state d.shown) (sym (granted_leaves d q e)) refl in
      record {
        answer_is = a ∙ sym (granted_answer d q e);
        record_is = refl;
        settings_are = ap (λ (x : State). x.settings) z;
        cells_are = ap (λ (x : State). x.cells) z;
        layer_is = ap (λ (x : State). x.layer) z;
        dots_are = ap (λ (x : State). x.dots) z;
        shown_is = p ∙ ap (λ (x : State). shown_behind rs d.state x d.shown) z ∙ sym shown;
        printer_is = w ∙ ap (λ (ys : List ℕ). written ys buffer) (sym (granted_prints d q e));
      }

  pub promised_short_refused : (answer : Answer) (left : Terminal) (printer : List ℕ) → granted d (request (short m) (length buffer)) ≡ false
      → left ≡ d → answer ≡ blank_answer (number_of d (request (short m) (length buffer))) 0 → printer ≡ buffer → Promised (short_called m d buffer answer left printer)
  promised_short_refused answer left printer e s a w = promised_none (short_called m d buffer answer left printer) e s a w refl
