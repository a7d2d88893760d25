-- Lists of messages alone, from a start where none waits: the numbers are what they were before P1.
use mathlib.Core.Path.{◌∙◌, ◌≡◌, ap, refl}
use Prim.Native.Nat.{suc, zero, ℕ}
use mathlib.Core.Bool.{Bool, cond, false, true}
use mathlib.Core.List.{List, [], ◌∷◌}
use lib.ListN.{length, take}
use borrow.Author.Tests.{eq-eqb}
use Rattle.model.specs.declared.Settings.{Settings}
use Rattle.calls.specs.Calls.{Asked, Call, Terminal, first_of, message, none_waits, own_reasons, reason, request, served, sendable}
use Rattle.theorems.specs.Demand3.{AllMessages, AsBefore, another, no_more}
use Rattle.calls.specs.Lists.{requests, stands, stood}
use Rattle.calls.proofs.LineAfter.{quiet_served}
use Rattle.theorems.proofs.Demand3.{demand3}

quiet_stood : {cs : List Call} → AllMessages cs → (t : Terminal) → t.state.settings.held ≡ 0 → (n : ℕ) → (stood t cs n).state.settings.held ≡ 0
unfolding stands
quiet_stood no_more t e zero = e
quiet_stood no_more t e (suc n) = e
quiet_stood (another m f a) t e zero = e
quiet_stood (another {c = c} {cs = cs} m f a) t e (suc n) =
    ap (λ (x : Asked). (stands (served t (request x (length c.buffer))) (requests (take n cs))).state.settings.held) f
    ∙ quiet_stood a (served t (request (message m) (length c.buffer))) (quiet_served t m (length c.buffer) e) n

number_of : (s : Settings) (m : List ℕ) → s.held ≡ 0 → first_of (own_reasons s (message m)) ≡ cond (sendable m) 0 2
unfolding first_of own_reasons none_waits
number_of s m e = (λ i. first_of (reason 2 (sendable m) ∷ reason 16 (eq-eqb s.held 0 e i) ∷ [])) ∙ go (sendable m)
  where
    go : (b : Bool) → ◌≡◌ {A = ℕ} (elim b [ true ↦ 0 | false ↦ 2 ]) (cond b 0 2)
    go true = refl
    go false = refl

pub as_before : AsBefore
as_before t cs made start e a n c h m f =
    (demand3 t cs made).numbered start n c h ∙ ap (λ (x : Asked). first_of (own_reasons (stood t cs n).state.settings x)) f ∙ number_of (stood t cs n).state.settings m (quiet_stood a t e n)
