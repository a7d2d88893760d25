-- Counting the codes of a trace: the end of a press, the repeats before it, and a stroke at a time.
use mathlib.Core.Path.{◌≡◌, ap, refl}
use Prim.Native.Nat.{◌+◌, ◌-◌, ◌/◌, ◌<◌, ◌≤◌, suc, zero, ℕ}
use native.Mathlib.Nat.{div-le_self}
use native.Mathlib.Omega.{arith}
use mathlib.Core.Bool.{false, true}
use mathlib.Core.List.{List, [], ◌∷◌}
use lib.ListN.{length, length-append}
use borrow.Author.Tests.{eq-eqb, le-ltb, lt-ltb, ne_eqb}
use Rattle.model.specs.declared.Keys.{Keys}
use Rattle.traces.specs.declared.Stroke.{Stroke}
use Rattle.traces.specs.Codes.{count_below, end_of, ends?, every_from, first_repeat, repeat_count, sent, sent_at, sent_by}

-- the end of a press: a stroke that ends it, one that does not, and the trace's end
module _ (key last : ℕ) where
  pub end_here : {ss rest : List Stroke} {s : Stroke} → ss ≡ s ∷ rest → ends? key s ≡ true → end_of key last ss ≡ s.tick
  unfolding end_of
  end_here e t = rw (e, t)

  pub end_on : {ss rest : List Stroke} {s : Stroke} → ss ≡ s ∷ rest → ends? key s ≡ false → end_of key last ss ≡ end_of key s.tick rest
  unfolding end_of
  end_on e f = rw (e, f)

  pub end_last : {ss : List Stroke} → ss ≡ [] → end_of key last ss ≡ last
  unfolding end_of
  end_last e = rw e

-- how many repeats
module _ (first interval end : ℕ) where
  pub some_below : first < end → (end - first - 1) / interval + 1 ≡ count_below first interval end
  unfolding count_below
  some_below h = rw (lt-ltb first end h)

  pub none_below : end ≤ first → 0 ≡ count_below first interval end
  unfolding count_below
  none_below h = rw (le-ltb first end h)

  pub few_below : first < end → (end - first - 1) / interval + 1 ≤ end
  few_below h = omega (arith, div-le_self (end - first - 1) interval)

module _ (k : Keys) (tick end : ℕ) where
  pub repeat_on : k.repeat ≡ 1 → repeat_count k tick end ≡ count_below (first_repeat k tick) k.interval end
  unfolding repeat_count
  repeat_on e = rw (eq-eqb k.repeat 1 e)

  pub repeat_off : (k.repeat ≡ 1 → ⊥) → repeat_count k tick end ≡ 0
  unfolding repeat_count
  repeat_off h = rw (ne_eqb k.repeat 1 h)

-- how many codes
pub every_length : (key interval tick n : ℕ) → length (every_from key interval tick n) ≡ n
unfolding every_from
every_length key interval tick zero = refl
every_length key interval tick (suc n) = ap suc (every_length key interval (tick + interval) n)

pub by_length : (k : Keys) (s : Stroke) (end : ℕ) {n : ℕ} → n ≡ repeat_count k s.tick end → length (sent_by k s end) ≡ n + 1
unfolding sent_by
by_length k s end e = omega (arith, e, every_length s.key k.interval (first_repeat k s.tick) (repeat_count k s.tick end))

module _ (k : Keys) (s : Stroke) (ss : List Stroke) where
  pub at_press : s.press ≡ true → {end : ℕ} → end ≡ end_of s.key s.tick ss → sent_at k s ss ≡ sent_by k s end
  unfolding sent_at
  at_press t e = rw (t, e)

  pub at_release : s.press ≡ false → sent_at k s ss ≡ []
  unfolding sent_at
  at_release f = rw f

-- a stroke of a trace, and none
pub sent_length : (k : Keys) {ss rest : List Stroke} {s : Stroke} → ss ≡ s ∷ rest → length (sent k ss) ≡ length (sent_at k s rest) + length (sent k rest)
unfolding sent
sent_length k {ss} {rest} {s} e = rw e (length-append (sent_at k s rest) (sent k rest))

pub sent_none : (k : Keys) {ss : List Stroke} → ss ≡ [] → length (sent k ss) ≡ 0
unfolding sent
sent_none k e = rw e
