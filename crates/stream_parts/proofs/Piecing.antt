-- A piece of number 0, as the code makes it: a message call of the whole items of the array, which ends a short piece; a long one goes on with a second.
use mathlib.Core.Path.{◌∙◌, ◌≡◌, ap, refl, subst, sym}
use Prim.Native.Nat.{◌+◌, ◌-◌, ◌<◌, ◌^◌, ◌≤◌, ℕ}
use native.Mathlib.Omega.{arith}
use mathlib.Core.Bool.{cond}
use mathlib.Core.List.{List, [], ◌++◌, append-nil}
use lib.ListN.{drop, drop_of_length-le, length, length-drop, length-take, take}
use lib.Seq.{length-take-le, take_all, take-length}
use lib.Dec.{eqb}
use Rattle.model.specs.declared.Answer.{Answer}
use Rattle.model.specs.declared.Settings.{Settings}
use Rattle.model.specs.State.{with_line}
use Rattle.model.specs.Line.{held_in, padded}
use Rattle.model.specs.Reading.{gathered, remaining, uncut}
use Rattle.calls.specs.Calls.{Promised, Terminal, called, first_of, item_bytes, piece, pieced, reasons, start_of, taken_by, terminal}
use Rattle.calls.specs.Claims.{count_after, waits_after}
use Rattle.model.proofs.Tests.{cond_at}
use Rattle.calls.proofs.Printing.{buffer_length}
use Rattle.calls.proofs.Wholes.{whole_end}
use Rattle.stream_parts.specs.Parts.{Addable, both_of, counted_from}
use Rattle.calls.proofs.Bounds.{Bounded, bounded}
use Rattle.calls.proofs.Joining.{one_cut, one_rest, rest_most, two_cut, two_rest}
use Rattle.stream_parts.proofs.Numbers.{one_or_three, piece_number}
use Rattle.stream_parts.proofs.Quiet.{quiet, quiet_refused, quiet_served}
use Rattle.stream_parts.proofs.Refusals.{Told, told_few}
use Rattle.stream_parts.proofs.Ends.{Ended, Rest}
use Rattle.stream_parts.proofs.Dividing.{two_served}

-- the first call
module _ (s : Settings) (m cells layer dots shown buffer : List ℕ) (size : length s.waiting ≡ 12) (h : Told (terminal s cells layer dots shown) m)
    (bytes : List ℕ) (k n end : ℕ) (x : Ended s m bytes k n end) (small : n ≤ 64)
    (b : Answer) (s' : Settings) (cells' layer' dots' shown' p : List ℕ) (w : Promised (called (take end bytes) (quiet s cells layer dots shown) buffer b (terminal s' cells' layer' dots' shown') p)) where
  abbrev t : Terminal
  t = terminal s cells layer dots shown

  abbrev xs : List ℕ
  xs = take end bytes

  few : length xs ≤ 64
  few = omega (arith, length-take end bytes, x.low)

  only : first_of (reasons t (piece m)) ≡ one_or_three t
  only = piece_number t m h.few h.counts

  pub first_refused : (b.number ≡ 0 → ⊥) → Promised (pieced m t buffer b (terminal s cells' layer' dots' shown') p)
  first_refused = quiet_refused s cells layer dots shown size h.line (piece m) only xs (omega (arith, few)) buffer b s' cells' layer' dots' shown' p w

  bounds : Bounded b (length xs) (length buffer)
  bounds = bounded xs (quiet s cells layer dots shown) buffer b (terminal s' cells' layer' dots' shown') p w

  pub first_near : b.offset ≤ 64
  first_near = omega (arith, few, bounds.near)

  pub first_fits : b.printed ≤ length p
  first_fits = omega (arith, bounds.fits, buffer_length (called xs (quiet s cells layer dots shown) buffer b (terminal s' cells' layer' dots' shown') p) w)

-- a short piece: all of it is in the array
module _ (s : Settings) (m cells layer dots shown buffer : List ℕ) (size : length s.waiting ≡ 12) (h : Told (terminal s cells layer dots shown) m)
    (bytes : List ℕ) (n end : ℕ) (x : Ended s m bytes (length m) n end) where
  abbrev rest : List ℕ
  rest = take (n - end) (drop end bytes)

  rest_is : rest ≡ remaining (held_in s) m
  rest_is = x.rest ∙ ap (λ (l : List ℕ). drop (whole_end (held_in s ++ l)) (held_in s ++ l)) (take-length m) ∙ sym (one_rest (held_in s) m x.line.unfinished)

  pub rest_few : length rest ≤ 12
  rest_few = omega (arith, ap length rest_is, rest_most (held_in s) m x.line.unfinished)

  cut : gathered (held_in s) m ≡ uncut (take end bytes)
  cut =
      one_cut (held_in s) m x.line.unfinished
      ∙ ap uncut (sym (x.front ∙ ap (λ (l : List ℕ). take (whole_end (held_in s ++ l)) (held_in s ++ l)) (take-length m)))

  pub one_served : n ≤ 64 → (b : Answer) (s' : Settings) (cells' layer' dots' shown' p : List ℕ) → Promised (called (take end bytes) (quiet s cells layer dots shown) buffer b (terminal s' cells' layer' dots' shown') p) → b.number ≡ 0
      → (answer : Answer) (r : Settings) → answer ≡ counted_from (s.count - s.held) (length m) b → r ≡ with_line s' (padded rest) (length rest) (s.count + length m)
      → Promised (pieced m (terminal s cells layer dots shown) buffer answer (terminal r cells' layer' dots' shown') p)
  unfolding item_bytes taken_by start_of waits_after count_after
  one_served small b s' cells' layer' dots' shown' p w z answer r e f =
      let t : Terminal = terminal s cells layer dots shown in
      quiet_served s cells layer dots shown size h.line (piece m) (piece_number t m h.few h.counts) (take end bytes) (omega (arith, length-take end bytes, x.low)) buffer b s' cells' layer' dots' shown' p w refl refl z cut answer r
      (e ∙ ap (λ (j : ℕ). counted_from (s.count - j) (length m) b) (sym x.held)) rest (s.count + length m) rest_is refl f

-- a long piece: 52 bytes of it are in the array, and it goes on from where their whole items end
module _ (s : Settings) (m cells layer dots shown buffer : List ℕ) (size : length s.waiting ≡ 12) (h : Told (terminal s cells layer dots shown) m)
    (bytes : List ℕ) (end : ℕ) (x : Ended s m bytes 52 (s.held + 52) end) (big : 52 < length m) (to : ℕ) (y : Rest m (end - s.held) to) where
  abbrev from : ℕ
  from = end - s.held

  abbrev ys : List ℕ
  ys = take (to - from) (drop from m)

  abbrev behind : List ℕ
  behind = take (length m - to) (drop to m)

  from_is : whole_end (held_in s ++ take 52 m) - length (held_in s) ≡ from
  from_is = λ i. sym x.end_is i - x.held i

  two_parts : gathered (held_in s) m ≡ uncut (take end bytes) ++ uncut ys
  two_parts =
      two_cut (held_in s) m x.line.unfinished 52 (omega arith) (omega arith)
      ∙ (λ i. uncut (sym x.front i) ++ uncut (take (whole_end (drop (from_is i) m)) (drop (from_is i) m)))
      ∙ ap (λ (l : List ℕ). uncut (take end bytes) ++ uncut l) (sym y.own)

  behind_is : behind ≡ remaining (held_in s) m
  behind_is =
      y.rest ∙ (λ i. drop (whole_end (drop (sym from_is i) m)) (drop (sym from_is i) m))
      ∙ sym (two_rest (held_in s) m x.line.unfinished 52 (omega arith) (omega arith))

  pub behind_few : length behind ≤ 12
  behind_few = omega (arith, ap length behind_is, rest_most (held_in s) m x.line.unfinished)

  -- both calls
  module _ (b : Answer) (s₁ : Settings) (c₁ l₁ d₁ g₁ p : List ℕ) (w : Promised (called (take end bytes) (quiet s cells layer dots shown) buffer b (terminal s₁ c₁ l₁ d₁ g₁) p)) (z : b.number ≡ 0)
      (b₂ : Answer) (s₂ : Settings) (c₂ l₂ d₂ g₂ p₂ : List ℕ) (w₂ : Promised (called ys (terminal s₁ c₁ l₁ d₁ g₁) (take (length p - b.printed) (drop b.printed p)) b₂ (terminal s₂ c₂ l₂ d₂ g₂) p₂)) where
    lent : take (length p - b.printed) (drop b.printed p) ≡ drop b.printed p
    lent = take_all (length p - b.printed) (drop b.printed p) (omega (arith, length-drop b.printed p))

    second : Promised (called ys (terminal s₁ c₁ l₁ d₁ g₁) (drop b.printed p) b₂ (terminal s₂ c₂ l₂ d₂ g₂) p₂)
    second = subst (λ (l : List ℕ). Promised (called ys (terminal s₁ c₁ l₁ d₁ g₁) l b₂ (terminal s₂ c₂ l₂ d₂ g₂) p₂)) lent w₂

    few₁ : length (take end bytes) ≤ 64
    few₁ = omega (arith, length-take end bytes, x.low, x.line)

    few₂ : length ys ≤ 4096
    few₂ = omega (arith, length-take (to - from) (drop from m), length-drop from m, told_few h)

    bounds₁ : Bounded b (length (take end bytes)) (length buffer)
    bounds₁ = bounded (take end bytes) (quiet s cells layer dots shown) buffer b (terminal s₁ c₁ l₁ d₁ g₁) p w

    bounds₂ : Bounded b₂ (length ys) (length (drop b.printed p))
    bounds₂ = bounded ys (terminal s₁ c₁ l₁ d₁ g₁) (drop b.printed p) b₂ (terminal s₂ c₂ l₂ d₂ g₂) p₂ second

    kept : length p ≡ length buffer
    kept = buffer_length (called (take end bytes) (quiet s cells layer dots shown) buffer b (terminal s₁ c₁ l₁ d₁ g₁) p) w

    pub addable : length buffer < 2 ^ 64 → Addable b b₂ end
    addable room = record {
      taken = omega (arith, bounds₁.taken, bounds₂.taken, few₁, few₂);
      accepted = omega (arith, bounds₁.few, bounds₂.few, few₁, few₂);
      refused = omega (arith, bounds₁.few, bounds₂.few, few₁, few₂);
      printed = omega (arith, bounds₁.fits, bounds₂.fits, length-drop b.printed p, kept);
      offset = omega (arith, bounds₂.near, few₂, x.low, x.line);
    }

    pub both_near : (a : Answer) → a ≡ both_of b b₂ end → a.offset ≤ 4224
    both_near a e =
        subst (λ (y : Answer). y.offset ≤ 4224) (sym e)
        (cond_at (λ (o : ℕ). o ≤ 4224) (eqb b.refused 0) (cond (eqb b₂.refused 0) b₂.offset (end + b₂.offset)) b.offset
        (λ f. cond_at (λ (o : ℕ). o ≤ 4224) (eqb b₂.refused 0) b₂.offset (end + b₂.offset) (λ g. omega (arith, bounds₂.near, few₂)) (λ g. omega (arith, bounds₂.near, few₂, x.low, x.line)))
        (λ f. omega (arith, bounds₁.near, few₁)))

    pub both_served : (one answer : Answer) (r : Settings) → one ≡ both_of b b₂ end → answer ≡ counted_from (s.count - s.held) (length m) one → r ≡ with_line s₂ (padded behind) (length behind) (s.count + length m)
        → Promised (pieced m (terminal s cells layer dots shown) buffer answer (terminal r c₂ l₂ d₂ g₂) (take b.printed p ++ (p₂ ++ drop (length p - b.printed) (drop b.printed p))))
    both_served one answer r d e f =
        let size₁ : length (take end bytes) ≡ end = length-take-le end bytes (omega (arith, x.low, x.long)) in
        let nothing : drop (length p - b.printed) (drop b.printed p) ≡ [] = drop_of_length-le (drop b.printed p) {i = length p - b.printed} (omega (arith, length-drop b.printed p)) in
        subst (λ (l : List ℕ). Promised (pieced m (terminal s cells layer dots shown) buffer answer (terminal r c₂ l₂ d₂ g₂) (take b.printed p ++ l))) (sym (ap (λ (l : List ℕ). p₂ ++ l) nothing ∙ append-nil p₂))
        (two_served s m cells layer dots shown buffer size h (take end bytes) (omega (arith, few₁)) b s₁ c₁ l₁ d₁ g₁ p w z ys few₂ b₂ s₂ c₂ l₂ d₂ g₂ p₂ second two_parts answer r
        (e ∙ ap (counted_from (s.count - s.held) (length m)) (d ∙ ap (both_of b b₂) (sym size₁))) behind behind_is f)
