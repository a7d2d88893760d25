-- A call's promise, for the code: from what it leaves by the rules, or from a refusal that leaves all as it came.
use mathlib.Core.Path.{◌∙◌, ◌≡◌, ap, refl, subst, sym}
use Prim.Native.Nat.{ℕ}
use mathlib.Core.Bool.{false, true}
use mathlib.Core.List.{List}
use Rattle.model.specs.Bytes.{written}
use Rattle.model.specs.State.{State}
use Rattle.model.specs.Picture.{painting}
use Rattle.model.specs.Items.{blank_answer}
use Rattle.calls.specs.Calls.{Call, Promised, Terminal, granted, answer_of, number_of, paints?, printed_by, record_of, request_of, served}
use Rattle.calls.proofs.CallLaws.{granted-painted, refused_answer, refused_leaves, refused_prints, refused_record}

-- a call that is accepted, one that paints, and leaves what the rules say, painted, keeps its promise
pub promised_by : (c : Call) → granted c.given (request_of c) ≡ true → paints? c.asked ≡ true
    → c.left.state ≡ (served c.given (request_of c)).state → c.left.shown ≡ painting c.left.state
    → c.answer ≡ answer_of c.given (request_of c) → c.printer ≡ written (printed_by c.given (request_of c)) c.buffer → c.in_record ≡ record_of c.given (request_of c) → Promised c
promised_by c ok f s p a w n =
    let sh : (served c.given (request_of c)).shown ≡ painting (served c.given (request_of c)).state = subst (λ (x : Terminal). x.shown ≡ painting x.state) (sym (granted-painted c.given (request_of c) ok f)) refl in
    record {
      answer_is = a;
      record_is = n;
      settings_are = ap (λ (x : State). x.settings) s;
      cells_are = ap (λ (x : State). x.cells) s;
      layer_is = ap (λ (x : State). x.layer) s;
      dots_are = ap (λ (x : State). x.dots) s;
      shown_is = p ∙ ap painting s ∙ sym sh;
      printer_is = w;
    }

-- refused: "the settings given, zero counts, its number, and every store unaltered"
pub promised_none : (c : Call) → granted c.given (request_of c) ≡ false → c.left ≡ c.given → c.answer ≡ blank_answer (number_of c.given (request_of c)) 0 → c.printer ≡ c.buffer → c.in_record ≡ 0 → Promised c
unfolding written
promised_none c e s a w n =
    let z : c.left ≡ served c.given (request_of c) = s ∙ sym (refused_leaves c.given (request_of c) e) in
    record {
      answer_is = a ∙ sym (refused_answer c.given (request_of c) e);
      record_is = n ∙ sym (refused_record c.given (request_of c) e);
      settings_are = ap (λ (x : Terminal). x.state.settings) z;
      cells_are = ap (λ (x : Terminal). x.state.cells) z;
      layer_is = ap (λ (x : Terminal). x.state.layer) z;
      dots_are = ap (λ (x : Terminal). x.state.dots) z;
      shown_is = ap (λ (x : Terminal). x.shown) z;
      printer_is = w ∙ ap (λ (ys : List ℕ). written ys c.buffer) (sym (refused_prints c.given (request_of c) e));
    }
