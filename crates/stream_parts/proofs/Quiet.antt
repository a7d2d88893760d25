-- A piece or the closing by message calls that read while none waits: the call of number 0 or another, from settings whose line is sound.
use mathlib.Core.Path.{◌∙◌, ◌≡◌, refl, subst}
use Prim.Native.Nat.{◌≤◌, ℕ}
use native.Mathlib.Omega.{arith}
use mathlib.Core.Bool.{false, true}
use mathlib.Core.List.{List, []}
use lib.ListN.{length, replicate}
use borrow.Author.Tests.{le-leb}
use Rattle.model.specs.declared.Answer.{Answer}
use Rattle.model.specs.declared.Settings.{Settings}
use Rattle.model.specs.State.{state, with_line}
use Rattle.model.specs.Line.{LineSound, held_in, line?, padded}
use Rattle.model.specs.Reading.{uncut}
use Rattle.model.specs.Rules.{with_settings}
use Rattle.model.specs.Items.{lined}
use Rattle.calls.specs.Calls.{Asked, Promised, Terminal, granted, called, first_of, item_bytes, none_waits, packed?, paints?, reasons, request, sized, sound_in, start_of, taken_by, terminal}
use Rattle.calls.specs.Claims.{count_after, waits_after}
use Rattle.model.proofs.Gathering.{none_unfinished}
use Rattle.model.proofs.LineLaws.{held_length, line_true, sound_padded, true_line}
use Rattle.stream_parts.specs.Parts.{counted_from}
use Rattle.stream_parts.proofs.Pieces.{call, sound_either}
use Rattle.stream_parts.proofs.Numbers.{granted_with, one_or_three, refused_with_lem, served_with}

-- the same terminal while none waits
abbrev pub quiet : Settings → List ℕ → List ℕ → List ℕ → List ℕ → Terminal
quiet s cells layer dots shown = terminal (with_line s (replicate 12 0) 0 s.count) cells layer dots shown

-- a call of settings that were quieted
pub by_quiet : (s : Settings) {q : Settings} {cells layer dots shown xs buffer : List ℕ} {b : Answer} {l : Terminal} {p : List ℕ} → q ≡ with_line s (replicate 12 0) 0 s.count
    → Promised (called xs (terminal q cells layer dots shown) buffer b l p) → Promised (called xs (quiet s cells layer dots shown) buffer b l p)
by_quiet s {cells = cells} {layer = layer} {dots = dots} {shown = shown} {xs = xs} {buffer = buffer} {b = b} {l = l} {p = p} e w = subst (λ (x : Settings). Promised (called xs (terminal x cells layer dots shown) buffer b l p)) e w

module _ (s : Settings) (cells layer dots shown : List ℕ) (size : length s.waiting ≡ 12) (line : line? s.waiting s.held s.count ≡ true) where
  abbrev t : Terminal
  t = terminal s cells layer dots shown

  abbrev q : Terminal
  q = quiet s cells layer dots shown

  pub held_is : length (held_in s) ≡ s.held
  held_is = held_length s.waiting s.held s.count (line_true s.waiting s.held s.count line) size

  quiet_line : line? (replicate 12 0) 0 s.count ≡ true
  unfolding padded
  quiet_line =
      let l : LineSound s.waiting s.held s.count = line_true s.waiting s.held s.count line in
      true_line (padded []) 0 s.count (sound_padded [] s.count none_unfinished (omega arith) l.in_limit)

  same_sound : sound_in q ≡ sound_in t
  unfolding sound_in
  same_sound = sound_either s (replicate 12 0) 0 s.count s.waiting s.held s.count refl size quiet_line line

  same_sized : sized q ≡ sized t
  unfolding sized
  same_sized = refl

  pub quiet_state : q.state ≡ lined [] s.count t.state
  unfolding lined with_settings padded
  quiet_state = refl

  none : none_waits q.state.settings ≡ true
  unfolding none_waits
  none = refl

  -- what is asked, of which only 1 and 3 can be the number, and a message call of the bytes xs
  module _ (a : Asked) (only : first_of (reasons t a) ≡ one_or_three t) (xs : List ℕ) (few : length xs ≤ 4096)
      (buffer : List ℕ) (b : Answer) (s' : Settings) (cells' layer' dots' shown' p : List ℕ) (w : Promised (called xs q buffer b (terminal s' cells' layer' dots' shown') p)) where
    pub quiet_refused : (b.number ≡ 0 → ⊥) → Promised (call a t buffer b (terminal s cells' layer' dots' shown') p)
    quiet_refused z =
        refused_with_lem t a only q xs same_sized same_sound (le-leb (length xs) 4096 few) none buffer b (terminal s' cells' layer' dots' shown') p w z (terminal s cells' layer' dots' shown')
        (λ e. λ i. terminal s (e i).state.cells (e i).state.layer (e i).state.dots (e i).shown)

    pub quiet_granted : b.number ≡ 0 → granted t (request a (length buffer)) ≡ true
    quiet_granted = granted_with t a only q xs same_sized same_sound (le-leb (length xs) 4096 few) none buffer b (terminal s' cells' layer' dots' shown') p w

    pub quiet_served : paints? a ≡ true → packed? a ≡ false → b.number ≡ 0 → item_bytes s a ≡ uncut xs → (answer : Answer) (r : Settings) → answer ≡ counted_from (start_of s a) (taken_by a) b
        → (rest : List ℕ) (n : ℕ) → rest ≡ waits_after s a → n ≡ count_after s a → r ≡ with_line s' (padded rest) (length rest) n
        → Promised (call a t buffer answer (terminal r cells' layer' dots' shown') p)
    unfolding lined with_settings
    quiet_served paints plain z cut answer r e rest n f g h =
        served_with t a only q xs same_sized same_sound (le-leb (length xs) 4096 few) none buffer b (terminal s' cells' layer' dots' shown') p w paints plain z s.count quiet_state cut answer (terminal r cells' layer' dots' shown') e
        (λ i. state ((h ∙ (λ j. with_line s' (padded (f j)) (length (f j)) (g j))) i) cells' layer' dots') refl
