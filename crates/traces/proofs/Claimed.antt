-- The claims: the count by a division is that of the ticks below the end; codes of a press lie below its end, and those of the next stroke that
-- sends do not. A trace's ticks are read from four bytes, an end is one of them, and repeats are below it: so four bytes hold every tick sent.
use mathlib.Core.Path.{◌≡◌}
use Prim.Native.Nat.{◌+◌, ◌*◌, ◌-◌, ◌/◌, ◌<◌, ◌≤◌, suc, zero, ℕ}
use native.Mathlib.Nat.{le-div_iff_mul-le, suc-mul}
use native.Mathlib.Omega.{arith}
use mathlib.Core.Bool.{Bool, ◌||◌, cond, false, true}
use mathlib.Core.List.{List, [], ◌++◌, ◌∷◌, map}
use lib.ListN.{drop, get_or, take}
use lib.Dec.{eqb, leb, ltb}
use borrow.Author.Tests.{leb-true, ltb-false, ltb-true}
use Rattle.model.specs.declared.Keys.{Keys}
use Rattle.model.proofs.Tests.{and_left, and_right, cond_at}
use Rattle.model.specs.Records.{body_in, length_in, number_in, record_in, records_after}
use Rattle.traces.specs.declared.Stroke.{Stroke}
use Rattle.traces.specs.Strokes.{rising?, stroke_of, strokes_in}
use Rattle.traces.specs.Codes.{Code, Held, count_below, end_of, ends?, every_from, first_repeat, repeat_count, sent, sent_at, sent_by, tick_bytes}
use Rattle.traces.specs.Claims.{Bytes, Claims, FourBytes, NeverFall}
use Rattle.traces.specs.Stepping.{EachHeld}
use Rattle.traces.proofs.Counting.{repeat_on}

module _ (first interval end j : ℕ) (pos : 1 ≤ interval) where
  below : j < count_below first interval end → first + j * interval < end
  unfolding count_below
  below =
      cond_at (λ (n : ℕ). j < n → first + j * interval < end) (ltb first end) ((end - first - 1) / interval + 1) 0
      (λ t l. omega (arith, ltb-true first end t, (le-div_iff_mul-le {k = interval} {x = j} {y = end - first - 1} pos).0 (omega arith)))
      (λ f l. absurd (omega arith))

  counted : first + j * interval < end → j < count_below first interval end
  unfolding count_below
  counted h =
      cond_at (λ (n : ℕ). j < n) (ltb first end) ((end - first - 1) / interval + 1) 0
      (λ t. omega (arith, (le-div_iff_mul-le {k = interval} {x = j} {y = end - first - 1} pos).1 (omega arith)))
      (λ f. absurd (omega (arith, ltb-false first end f)))

-- from a lower tick on
lower : (a b : ℕ) (cs : List Code) → a ≤ b → NeverFall b cs → NeverFall a cs
lower a b [] h n = tt
lower a b (c ∷ cs) h n = (omega (arith, n.0), n.1)

-- ticks an interval apart below a bound, without the first of them
one_on : (tick interval n bound : ℕ) → ((j : ℕ) → j < suc n → tick + j * interval < bound) → (j : ℕ) → j < n → tick + interval + j * interval < bound
one_on tick interval n bound below j l = omega (arith, below (suc j) (omega arith), suc-mul j interval)

-- codes an interval apart, all below an end from which the others go on
every_order : (key interval tick n last end : ℕ) (cs : List Code) → last ≤ tick → last ≤ end → ((j : ℕ) → j < n → tick + j * interval < end) → NeverFall end cs
    → NeverFall last (every_from key interval tick n ++ cs)
unfolding every_from
every_order key interval tick zero last end cs h g below go = lower last end cs g go
every_order key interval tick (suc n) last end cs h g below go =
    let now : tick < end = omega (arith, below 0 (omega arith)) in
    (h, every_order key interval (tick + interval) n tick end cs (omega arith) (omega arith) (one_on tick interval n end below) go)

module _ (k : Keys) (pos : 1 ≤ k.interval) where
  -- the repeats of a press are below its end
  repeats_below : (tick end j : ℕ) → j < repeat_count k tick end → first_repeat k tick + j * k.interval < end
  unfolding repeat_count
  repeats_below tick end j =
      cond_at (λ (n : ℕ). j < n → first_repeat k tick + j * k.interval < end) (eqb k.repeat 1) (count_below (first_repeat k tick) k.interval end) 0
      (λ t l. below (first_repeat k tick) k.interval end j pos l) (λ f l. absurd (omega arith))

  -- the end of a press is not before the last tick that was passed, and what follows is not before the end
  after : (key last : ℕ) (ss : List Stroke) → rising? last ss ≡ true → (last ≤ end_of key last ss) × NeverFall (end_of key last ss) (sent k ss)
  unfolding rising? end_of sent sent_at sent_by ends? first_repeat
  after key last [] r = (omega arith, tt)
  after key last (s ∷ ss) r =
      let up : last ≤ s.tick = leb-true _ _ (and_left (leb last s.tick) (rising? s.tick ss) r) in
      let rest : rising? s.tick ss ≡ true = and_right (leb last s.tick) (rising? s.tick ss) r in
      go s.press (eqb s.key key) up (after key s.tick ss rest) (after s.key s.tick ss rest)
    where
      end : ℕ
      end = end_of s.key s.tick ss

      own : List Code
      own = every_from s.key k.interval (s.tick + 4 * k.delay) (repeat_count k s.tick end)

      go : (press same : Bool) → last ≤ s.tick → (s.tick ≤ end_of key s.tick ss) × NeverFall (end_of key s.tick ss) (sent k ss)
          → (s.tick ≤ end) × NeverFall end (sent k ss)
          → (last ≤ cond (press || same) s.tick (end_of key s.tick ss))
          × NeverFall (cond (press || same) s.tick (end_of key s.tick ss)) (cond press (record { tick = s.tick; key = s.key } ∷ own) [] ++ sent k ss)
      go true same up w z = (up, (omega arith, every_order s.key k.interval _ _ s.tick end (sent k ss) (omega arith) z.0 (λ j l. repeats_below s.tick end j l) z.1))
      go false true up w z = (up, lower s.tick end (sent k ss) z.0 z.1)
      go false false up w z = (omega (arith, w.0), w.1)

-- the bytes of a tick are the tick
whole_tick : (t : ℕ) → number_in (tick_bytes t) ≡ t
unfolding number_in tick_bytes
whole_tick t = omega arith

every_held : (key interval tick n : ℕ) → EachHeld tick interval n → (cs : List Code) → Held cs → Held (every_from key interval tick n ++ cs)
unfolding every_from
every_held key interval tick zero below cs w = w
every_held key interval tick (suc n) below cs w =
    ((omega (arith, below 0 (omega arith)), whole_tick tick), every_held key interval (tick + interval) n (one_on tick interval n 4294967296 below) cs w)

end_held : (key last : ℕ) (ss : List Stroke) → last < 4294967296 → FourBytes ss → end_of key last ss < 4294967296
unfolding end_of
end_held key last [] h f = h
end_held key last (s ∷ ss) h f = cond_at (λ (n : ℕ). n < 4294967296) (ends? key s) s.tick (end_of key s.tick ss) (λ t. f.0) (λ t. end_held key s.tick ss f.0 f.1)

-- ticks of four bytes, without the first of them
pub held_on : (tick interval : ℕ) {n m : ℕ} → n ≡ m + 1 → EachHeld tick interval n → EachHeld (tick + interval) interval m
held_on tick interval is each = λ j l. omega (arith, each (suc j) (omega arith), suc-mul j interval)

-- the repeats of a press that a record of four bytes ends
pub repeats_held : (k : Keys) → 1 ≤ k.interval → (tick end : ℕ) → end < 4294967296 → EachHeld (first_repeat k tick) k.interval (repeat_count k tick end)
repeats_held k pos tick end h = λ j l. omega (arith, repeats_below k pos tick end j l)

-- a tick is the number of four bytes at most
four : (bs : List ℕ) → Bytes bs → number_in (take 4 bs) < 4294967296
unfolding number_in
four [] h = omega arith
four (a ∷ []) h = omega (arith, h.0)
four (a ∷ b ∷ []) h = omega (arith, h.0, h.1.0)
four (a ∷ b ∷ c ∷ []) h = omega (arith, h.0, h.1.0, h.1.1.0)
four (a ∷ b ∷ c ∷ d ∷ bs) h = omega (arith, h.0, h.1.0, h.1.1.0, h.1.1.1.0)

taken : (n : ℕ) (bs : List ℕ) → Bytes bs → Bytes (take n bs)
taken zero bs h = tt
taken (suc n) [] h = tt
taken (suc n) (b ∷ bs) h = (h.0, taken n bs h.1)

dropped : (n : ℕ) (bs : List ℕ) → Bytes bs → Bytes (drop n bs)
dropped zero bs h = h
dropped (suc n) [] h = tt
dropped (suc n) (b ∷ bs) h = dropped n bs h.1

-- the strokes of bytes of which the first n belong to a record that has begun before
from_record : (n : ℕ) (bs : List ℕ) → Bytes bs → FourBytes (map stroke_of (records_after n bs))
unfolding records_after record_in body_in stroke_of
from_record n [] h = tt
from_record zero (b ∷ bs) h =
    (four (body_in (b ∷ bs)) (taken (length_in (b ∷ bs)) (drop 4 (b ∷ bs)) (dropped 4 (b ∷ bs) h)), from_record (length_in (b ∷ bs) + 3) bs h.1)
from_record (suc n) (b ∷ bs) h = from_record n bs h.1

pub strokes_four : (trace : List ℕ) → Bytes trace → FourBytes (strokes_in trace)
unfolding strokes_in
strokes_four trace h = from_record 0 trace h

-- of a lent slice it is known byte by byte
pub each_byte : (bs : List ℕ) → ((i : ℕ) → get_or bs i 0 < 256) → Bytes bs
each_byte [] h = tt
each_byte (b ∷ bs) h = (h 0, each_byte bs (λ i. h (suc i)))

module _ (k : Keys) (pos : 1 ≤ k.interval) where
  pub all_held : (ss : List Stroke) → FourBytes ss → Held (sent k ss)
  unfolding sent sent_at sent_by
  all_held [] f = tt
  all_held (s ∷ ss) f =
      let end : ℕ = end_of s.key s.tick ss in
      let low : end < 4294967296 = end_held s.key s.tick ss f.0 f.1 in
      cond_at (λ (cs : List Code). Held (cs ++ sent k ss)) s.press _ []
      (λ t. ((omega (arith, f.0), whole_tick s.tick), every_held s.key k.interval _ _ (repeats_held k pos s.tick end low) (sent k ss) (all_held ss f.1)))
      (λ t. all_held ss f.1)

  pub claims : Claims k
  unfolding first_repeat
  claims =
      record {
        counted_below = λ tick end j on l. repeats_below k pos tick end j l;
        below_counted = λ tick end j on l. rw (repeat_on k tick end on) (counted (first_repeat k tick) k.interval end j pos l);
        in_order = λ ss r. lower 0 (end_of 0 0 ss) (sent k ss) (omega arith) (after k pos 0 0 ss r).1;
        four_bytes = strokes_four;
        held = all_held;
        uncut = whole_tick;
      }
