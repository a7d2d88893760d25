-- A long piece, by two message calls: of the bytes that waited with its first ones, and of the rest. The second cannot be refused, and their answers
-- are one.
use mathlib.Core.Path.{◌∙◌, ◌≡◌, ap, refl, subst, sym}
use Prim.Native.Nat.{◌+◌, ◌-◌, ◌≤◌, suc, zero, ℕ}
use native.Mathlib.Nat.{add_assoc}
use native.Mathlib.Omega.{arith}
use mathlib.Core.Bool.{cond, false, true}
use mathlib.Core.List.{List, [], ◌++◌, ◌∷◌}
use lib.ListN.{drop, length, length-drop, take}
use lib.Seq.{drop-append_seam, take-append_seam}
use lib.Dec.{eqb}
use borrow.Author.Tests.{eq-eqb, le-leb, ne_eqb}
use Rattle.model.specs.declared.Answer.{Answer}
use Rattle.model.specs.declared.Settings.{Settings}
use Rattle.model.specs.Bytes.{written}
use Rattle.model.specs.State.{State, state, with_line}
use Rattle.model.specs.Line.{held_in, padded}
use Rattle.model.specs.Sound.{Good}
use Rattle.model.specs.Reading.{gathered, remaining, uncut}
use Rattle.model.specs.Rules.{with_settings}
use Rattle.model.specs.Items.{lined}
use Rattle.calls.specs.Calls.{Promised, Request, Terminal, granted, called, events_in, first_of, message, none_waits, number_of, own_reasons, paints?, piece, pieced, reason, request, served, terminal}
use Rattle.model.specs.Answers.{together}
use Rattle.calls.proofs.CallLaws.{granted_number, granted_sized, granted_sound, answer_number, left_is, legal_in, number_good, sized_served, state_served}
use Rattle.model.proofs.Events.{good_all}
use Rattle.calls.proofs.Offsets.{further}
use Rattle.calls.proofs.PieceServings.{prints_in, state_of, taking}
use Rattle.numbers.proofs.Sizes.{sizes}
use Rattle.stream_parts.specs.Parts.{both_of, counted_from}
use Rattle.stream_parts.proofs.Pieces.{Part, part_of, promised_two}
use Rattle.stream_parts.proofs.Numbers.{piece_number}
use Rattle.stream_parts.proofs.Refusals.{Told}
use Rattle.stream_parts.proofs.Quiet.{held_is, quiet, quiet_granted, quiet_state}

-- after an accepted call only a long message, or one while bytes wait, is refused
number_next : (t : Terminal) (q q' : Request) → granted t q ≡ true → paints? q.asked ≡ true → number_of (served t q) q' ≡ first_of (own_reasons (served t q).state.settings q'.asked)
number_next t q q' e f =
    let z = sizes t (granted_sized t q e f) in
    let g : Good t.state = record { sound = granted_sound t q e; cells_are = z.0; layer_are = z.1; dots_are = z.2 } in
    number_good (served t q) q' (subst Good (sym (state_served t q)) (good_all (events_in t q) t.state g (legal_in t q))) (sized_served t q z.3)

-- two answers counted from a start, together or each by itself
both_from : (start n k : ℕ) (a b : Answer) → counted_from start n (both_of a b k) ≡ taking n (together (further start a) (further (start + k) b))
both_from start n k a b =
    λ i. record {
      number = b.number;
      taken = n;
      accepted = a.accepted + b.accepted;
      refused = a.refused + b.refused;
      first = cond (eqb a.refused 0) b.first a.first;
      parameter = cond (eqb a.refused 0) b.parameter a.parameter;
      offset = go a.refused b.refused a.offset b.offset i;
      printed = a.printed + b.printed;
    }
  where
    go : (r u x y : ℕ) → cond (eqb (r + u) 0) (cond (eqb r 0) (cond (eqb u 0) y (k + y)) x) (start + cond (eqb r 0) (cond (eqb u 0) y (k + y)) x)
        ≡ cond (eqb r 0) (cond (eqb u 0) y (start + k + y)) (cond (eqb r 0) x (start + x))
    go zero zero x y = refl
    go zero (suc u) x y =
        let e : eqb (suc u) 0 ≡ false = ne_eqb (suc u) 0 (omega arith) in
        let f : eqb (0 + suc u) 0 ≡ false = ne_eqb (0 + suc u) 0 (omega arith) in
        rw (e, f) (sym (add_assoc start k y))
    go (suc r) u x y =
        let e : eqb (suc r) 0 ≡ false = ne_eqb (suc r) 0 (omega arith) in
        let f : eqb (suc r + u) 0 ≡ false = ne_eqb (suc r + u) 0 (omega arith) in
        rw (e, f)

module _ (s : Settings) (m cells layer dots shown buffer : List ℕ) (size : length s.waiting ≡ 12) (h : Told (terminal s cells layer dots shown) m) where
  abbrev t : Terminal
  t = terminal s cells layer dots shown

  abbrev q : Terminal
  q = quiet s cells layer dots shown

  -- the first call was served
  module _ (xs : List ℕ) (few : length xs ≤ 4096) (b : Answer) (s₁ : Settings) (c₁ l₁ d₁ g₁ p : List ℕ) (w : Promised (called xs q buffer b (terminal s₁ c₁ l₁ d₁ g₁) p)) (z : b.number ≡ 0) where
    abbrev left₁ : Terminal
    left₁ = terminal s₁ c₁ l₁ d₁ g₁

    abbrev asked : Request
    asked = request (message xs) (length buffer)

    one : Part s.count xs t.state buffer b left₁ p
    one = part_of s.count xs t.state buffer b left₁ p q (quiet_state s cells layer dots shown size h.line) w z

    abbrev st₁ : State
    st₁ = state_of xs t.state (length buffer)

    abbrev p₁ : List ℕ
    p₁ = prints_in xs t.state (length buffer)

    first_served : granted q asked ≡ true
    first_served = granted_number q asked (sym (ap (λ (x : Answer). x.number) w.answer_is ∙ answer_number q asked) ∙ z)

    none_held : s₁.held ≡ 0
    unfolding lined with_settings
    none_held = ap (λ (x : State). x.settings.held) one.state_is

    -- what the second call is lent of the printer buffer
    rest_is : drop b.printed p ≡ drop (length p₁) buffer
    unfolding written
    rest_is = (λ i. drop (one.printed_is i) (one.printer_is i)) ∙ drop-append_seam p₁ (drop (length p₁) buffer)

    front_is : take b.printed p ≡ p₁
    unfolding written
    front_is = (λ i. take (one.printed_is i) (one.printer_is i)) ∙ take-append_seam p₁ (drop (length p₁) buffer)

    -- the second call
    module _ (ys : List ℕ) (few₂ : length ys ≤ 4096) (b₂ : Answer) (s₂ : Settings) (c₂ l₂ d₂ g₂ p₂ : List ℕ) (w₂ : Promised (called ys left₁ (drop b.printed p) b₂ (terminal s₂ c₂ l₂ d₂ g₂) p₂)) where
      second_served : b₂.number ≡ 0
      unfolding own_reasons first_of none_waits
      second_served =
          let q₂ : Request = request (message ys) (length (drop b.printed p)) in
          let same : left₁ ≡ served q asked = left_is (called xs q buffer b left₁ p) w in
          ap (λ (x : Answer). x.number) w₂.answer_is ∙ answer_number left₁ q₂ ∙ ap (λ (x : Terminal). number_of x q₂) same ∙ number_next q asked q₂ first_served refl
          ∙ ap (λ (x : Terminal). first_of (own_reasons x.state.settings (message ys))) (sym same)
          ∙ (λ i. first_of (reason 2 (le-leb (length ys) 4096 few₂ i) ∷ reason 16 (eq-eqb s₁.held 0 none_held i) ∷ []))

      two : Part s.count ys st₁ (drop (length p₁) buffer) b₂ (terminal s₂ c₂ l₂ d₂ g₂) p₂
      two =
          part_of s.count ys st₁ (drop (length p₁) buffer) b₂ (terminal s₂ c₂ l₂ d₂ g₂) p₂ left₁ one.state_is
          (subst (λ (x : List ℕ). Promised (called ys left₁ x b₂ (terminal s₂ c₂ l₂ d₂ g₂) p₂)) rest_is w₂) second_served

      pub two_served : gathered (held_in s) m ≡ uncut xs ++ uncut ys → (answer : Answer) (r : Settings) → answer ≡ counted_from (s.count - s.held) (length m) (both_of b b₂ (length xs))
          → (rest : List ℕ) → rest ≡ remaining (held_in s) m → r ≡ with_line s₂ (padded rest) (length rest) (s.count + length m)
          → Promised (pieced m t buffer answer (terminal r c₂ l₂ d₂ g₂) (take b.printed p ++ p₂))
      unfolding lined with_settings
      two_served cut answer r e rest f g =
          let start : ℕ = s.count - length (held_in s) in
          let ok : granted t (request (piece m) (length buffer)) ≡ true =
          quiet_granted s cells layer dots shown size h.line (piece m) (piece_number t m h.few h.counts) xs few buffer b s₁ c₁ l₁ d₁ g₁ p w z in
          let fits : length (drop (length p₁) buffer) ≡ length buffer - length p₁ = length-drop (length p₁) buffer in
          subst (λ (x : List ℕ). Promised (pieced m t buffer answer (terminal r c₂ l₂ d₂ g₂) (x ++ p₂))) (sym front_is)
          (promised_two t m buffer xs ys cut ok s.count b b₂ left₁ (terminal s₂ c₂ l₂ d₂ g₂) p p₂ one two fits answer (terminal r c₂ l₂ d₂ g₂)
          (e ∙ ap (λ (k : ℕ). counted_from (s.count - k) (length m) (both_of b b₂ (length xs))) (sym (held_is s cells layer dots shown size h.line)) ∙ both_from start (length m) (length xs) b b₂)
          (λ i. state ((g ∙ (λ j. with_line s₂ (padded (f j)) (length (f j)) (s.count + length m))) i) c₂ l₂ d₂) refl)
