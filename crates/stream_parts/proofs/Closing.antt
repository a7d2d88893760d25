-- The closing: a message call of the bytes that wait, while none waits, is all of it. It prints nothing, and is lent no buffer.
use mathlib.Core.Path.{◌∙◌, ◌≡◌, ap, refl, subst, sym}
use Prim.Native.Nat.{◌+◌, ◌-◌, ◌^◌, ◌<◌, ◌≤◌, ℕ}
use native.Mathlib.Omega.{arith}
use mathlib.Core.Bool.{true}
use mathlib.Core.List.{List, [], ◌∷◌}
use lib.ListN.{length}
use Rattle.model.specs.declared.Answer.{Answer}
use Rattle.model.specs.declared.Settings.{Settings}
use Rattle.model.specs.State.{with_line}
use Rattle.model.specs.Line.{LineSound, held_in, line?, padded}
use Rattle.model.specs.Items.{blank_answer}
use Rattle.calls.specs.Calls.{Promised, Terminal, called, closed, closing, item_bytes, start_of, taken_by, terminal}
use Rattle.calls.specs.Claims.{count_after, waits_after}
use Rattle.model.proofs.LineLaws.{line_true}
use Rattle.calls.proofs.Printing.{buffer_length}
use Rattle.calls.proofs.Wholes.{closed_read}
use Rattle.stream_parts.specs.Parts.{closing_number, counted_from}
use Rattle.calls.proofs.Bounds.{bounded}
use Rattle.stream_parts.proofs.Numbers.{closing_number_lem}
use Rattle.stream_parts.proofs.Pieces.{call, promised_not}
use Rattle.stream_parts.proofs.Quiet.{held_is, quiet, quiet_refused, quiet_served}
use Rattle.stream_parts.proofs.Unsound.{closing_line, closing_refused}

-- refused by its own line
pub closing-not : (t : Terminal) (n : ℕ) (answer : Answer) → n ≡ closing_number t → (n ≡ 0 → ⊥) → answer ≡ blank_answer n 0 → Promised (closed t answer t)
closing-not t n answer e z w = promised_not closing t [] n answer (e ∙ closing_refused t (λ k. z (e ∙ k))) z w

module _ (s : Settings) (cells layer dots shown : List ℕ) (size : length s.waiting ≡ 12) (zero : closing_number (terminal s cells layer dots shown) ≡ 0) where
  abbrev t : Terminal
  t = terminal s cells layer dots shown

  good : line? s.waiting s.held s.count ≡ true
  good = closing_line t zero

  pub closing_sound : LineSound s.waiting s.held s.count
  closing_sound = line_true s.waiting s.held s.count good

  few : length (held_in s) ≤ 12
  few = omega (arith, held_is s cells layer dots shown size good, closing_sound.fits)

  -- the message call of what waits
  module _ (b : Answer) (s' : Settings) (cells' layer' dots' shown' p : List ℕ) (w : Promised (called (held_in s) (quiet s cells layer dots shown) [] b (terminal s' cells' layer' dots' shown') p)) where
    nothing : p ≡ []
    nothing = go p (buffer_length (called (held_in s) (quiet s cells layer dots shown) [] b (terminal s' cells' layer' dots' shown') p) w)
      where
        go : (l : List ℕ) → length l ≡ 0 → l ≡ []
        go [] e = refl
        go (x ∷ l) e = absurd (omega arith)

    pub closing_near : (s.count - s.held) + b.offset < 2 ^ 32
    closing_near = omega (arith, (bounded (held_in s) (quiet s cells layer dots shown) [] b (terminal s' cells' layer' dots' shown') p w).near, few, closing_sound.in_limit)

    pub closing-by : (b.number ≡ 0 → ⊥) → Promised (closed t b (terminal s cells' layer' dots' shown'))
    closing-by z =
        subst (λ (l : List ℕ). Promised (call closing t [] b (terminal s cells' layer' dots' shown') l)) nothing
        (quiet_refused s cells layer dots shown size good closing (closing_number_lem t) (held_in s) (omega (arith, few)) [] b s' cells' layer' dots' shown' p w z)

    pub closing_served : b.number ≡ 0 → (answer : Answer) (r : Settings) → answer ≡ counted_from (s.count - s.held) 0 b → r ≡ with_line s' (padded []) 0 0
        → Promised (closed t answer (terminal r cells' layer' dots' shown'))
    unfolding item_bytes start_of waits_after count_after taken_by
    closing_served z answer r e f =
        subst (λ (l : List ℕ). Promised (call closing t [] answer (terminal r cells' layer' dots' shown') l)) nothing
        (quiet_served s cells layer dots shown size good closing (closing_number_lem t) (held_in s) (omega (arith, few)) [] b s' cells' layer' dots' shown' p w refl refl z
        (sym (closed_read (held_in s) closing_sound.unfinished)) answer r
        (e ∙ ap (λ (n : ℕ). counted_from (s.count - n) 0 b) (sym (held_is s cells layer dots shown size good))) [] 0 refl refl f)
