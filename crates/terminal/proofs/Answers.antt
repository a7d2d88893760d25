-- The message call's promise: from what serving ensures, or from stores left as they came.
use mathlib.Core.Path.{◌∙◌, ◌≡◌, ap, refl}
use Prim.Native.Nat.{ℕ}
use native.Mathlib.Omega.{arith}
use mathlib.Core.Bool.{Bool, false, true}
use mathlib.Core.List.{List}
use lib.ListN.{length}
use borrow.Author.Tests.{leb-true}
use Rattle.model.specs.declared.Answer.{Answer}
use Rattle.model.specs.declared.Outcome.{Outcome}
use Rattle.model.specs.declared.Settings.{Settings}
use Rattle.model.specs.State.{state}
use Rattle.model.specs.Items.{blank_answer}
use Rattle.calls.specs.Calls.{Promised, Terminal, called, first_of, message, none_waits, number_of, reasons, request, sendable, sized, sound_in, terminal}
use Rattle.calls.proofs.CallLaws.{granted_number, refused_number}
use Rattle.calls.proofs.Loop.{answers, ends, prints, rest}
use Rattle.calls.proofs.Message.{promised_refused, promised_served}
use Rattle.model.proofs.SoundLaws.{sound_true}
use Rattle.serving.specs.Serves.{Servable, Serves}
use Rattle.numbers.proofs.MessageTests.{numbered}
use Rattle.numbers.proofs.Sizes.{sizes}

-- number 0 is the number of a call that can be served
module _ (s : Settings) (m cells layer dots shown : List ℕ) where
  abbrev given : Terminal
  given = terminal s cells layer dots shown

  pub servable : first_of (reasons given (message m)) ≡ 0 → Servable s m cells layer dots shown
  unfolding sound_in
  servable e = go (sized given) (sendable m) (sound_in given) (none_waits s) refl refl refl refl
    where
      go : (a b c d : Bool) → sized given ≡ a → sendable m ≡ b → sound_in given ≡ c → none_waits s ≡ d → Servable s m cells layer dots shown
      go true true true d p q r w = let z = sizes given p in record { good = record { sound = sound_true s r; cells_are = z.0; layer_are = z.1; dots_are = z.2 }; sendable = leb-true (length m) 4096 q; shown_are = z.3 }
      go true true false d p q r w = absurd (omega (arith, e, numbered given m true true false d p q r w))
      go true false c d p q r w = absurd (omega (arith, e, numbered given m true false c d p q r w))
      go false b c d p q r w = absurd (omega (arith, e, numbered given m false b c d p q r w))

  module _ (buffer : List ℕ) where
    pub served : (r : Outcome) (cells' layer' dots' shown' printer' : List ℕ) → first_of (reasons given (message m)) ≡ 0 → Serves m (state s cells layer dots) buffer r cells' layer' dots' shown' printer'
        → Promised (called m given buffer r.answer (terminal r.settings cells' layer' dots' shown') printer')
    unfolding ends answers prints rest number_of
    served r cells' layer' dots' shown' printer' e w =
        promised_served m given buffer r.answer (terminal r.settings cells' layer' dots' shown') printer' (granted_number given (request (message m) (length buffer)) e) w.state_is w.shown_is w.answer_is w.printer_is

    pub refused : (n : ℕ) (a : Answer) → n ≡ first_of (reasons given (message m)) → (n ≡ 0 → ⊥) → a ≡ blank_answer n 0 → Promised (called m given buffer a given buffer)
    unfolding number_of
    refused n a e z w =
        promised_refused m given buffer a given buffer (refused_number given (request (message m) (length buffer)) (λ k. z (e ∙ k))) refl (w ∙ ap (λ (k : ℕ). blank_answer k 0) e) refl
