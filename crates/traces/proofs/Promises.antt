-- The call's number by its tests, and its promise: refused by the trace, refused by the output, or served.
use mathlib.Core.Path.{◌∙◌, ◌≡◌, ap, refl, subst, sym}
use Prim.Native.Nat.{◌*◌, ◌/◌, ◌<◌, ◌≤◌, ℕ}
use native.Mathlib.Nat.{zero-add}
use native.Mathlib.Omega.{arith}
use mathlib.Core.Bool.{Bool, ◌&&◌, cond, false, true}
use mathlib.Core.List.{List, [], ◌++◌, ◌∷◌}
use lib.ListN.{length}
use borrow.Author.Tests.{le-leb, leb-true, lt-leb}
use Rattle.model.specs.declared.Settings.{Settings}
use Rattle.model.specs.Bytes.{on_part, put, written}
use Rattle.model.specs.Sound.{key_ranges, plain_ranges, sound?}
use Rattle.calls.specs.Calls.{Reason, all_free, first_of, reason}
use Rattle.model.proofs.SoundLaws.{sound_true}
use Rattle.model.specs.Records.{all?, records_of, uncut?}
use Rattle.traces.specs.Strokes.{rising?, stroke?, strokes_in}
use Rattle.traces.specs.Codes.{Code, Held, codes_bytes, sent}
use Rattle.traces.specs.Call.{RepeatsPromised, answer_of, checks, fits?, listed, number_of, reasons, sent_in, traceable}
use Rattle.std.specs.Prelude.{Result, Err}
use Rattle.traces.specs.declared.Refusal.{Refusal}
use Rattle.traces.specs.declared.Refusal.TheVariants.{Unsound, TooLong, CutRecord, UnknownKind, FallingTick, OutputTooSmall}
use Rattle.traces.specs.Claims.{Bytes}
use Rattle.traces.proofs.Claimed.{all_held, strokes_four}

-- the checks, by their outcomes
abbrev pub by : Bool → Bool → Bool → Bool → Bool → List Reason
by a b c d e = reason 3 a ∷ reason 19 b ∷ reason 20 c ∷ reason 21 d ∷ reason 24 e ∷ []

module _ (s : Settings) (trace : List ℕ) where
  pub checked : {a b c d e : Bool} → sound? s ≡ a → traceable trace ≡ b → uncut? trace ≡ c → all? stroke? (records_of trace) ≡ d → rising? 0 (strokes_in trace) ≡ e → checks s trace ≡ by a b c d e
  unfolding checks
  checked p q r t u = λ i. by (p i) (q i) (r i) (t i) (u i)

-- number 0 is the number of outcomes that are all true, any other of some that are not
free : (a b c d e : Bool) → first_of (by a b c d e) ≡ 0 → (a ≡ true) × (b ≡ true) × (c ≡ true) × (d ≡ true) × (e ≡ true)
unfolding first_of
free true true true true true h = (refl, refl, refl, refl, refl)
free true true true true false h = absurd (omega arith)
free true true true false e h = absurd (omega arith)
free true true false d e h = absurd (omega arith)
free true false c d e h = absurd (omega arith)
free false b c d e h = absurd (omega arith)

-- no refusal's number is 0
numbered : (e : Refusal) → number_of e ≡ 0 → ⊥
numbered Unsound h = omega arith
numbered TooLong h = omega arith
numbered CutRecord h = omega arith
numbered UnknownKind h = omega arith
numbered FallingTick h = omega arith
numbered OutputTooSmall h = omega arith

-- a reason that applies comes before what is checked later
ahead : (rs qs : List Reason) → (first_of rs ≡ 0 → ⊥) → (first_of (rs ++ qs) ≡ first_of rs) × (all_free (rs ++ qs) ≡ false)
unfolding first_of all_free
ahead [] qs h = absurd (h refl)
ahead (r ∷ rs) qs h = go r.free h (ahead rs qs)
  where
    go : (b : Bool) → (◌≡◌ {A = ℕ} (elim b [ true ↦ first_of rs | false ↦ r.number ]) 0 → ⊥)
        → ((first_of rs ≡ 0 → ⊥) → (first_of (rs ++ qs) ≡ first_of rs) × (all_free (rs ++ qs) ≡ false))
        → (◌≡◌ {A = ℕ} (elim b [ true ↦ first_of (rs ++ qs) | false ↦ r.number ]) (elim b [ true ↦ first_of rs | false ↦ r.number ])) × ((b && all_free (rs ++ qs)) ≡ false)
    go true h later = later h
    go false h later = (refl, refl)

module _ (s : Settings) (trace : List ℕ) where
  tests : first_of (checks s trace) ≡ 0 → (sound? s ≡ true) × (traceable trace ≡ true) × (uncut? trace ≡ true) × (all? stroke? (records_of trace) ≡ true) × (rising? 0 (strokes_in trace) ≡ true)
  unfolding checks
  tests h = free (sound? s) (traceable trace) (uncut? trace) (all? stroke? (records_of trace)) (rising? 0 (strokes_in trace)) h

  -- what the code behind the checks asks
  pub at_most : first_of (checks s trace) ≡ 0 → length trace ≤ 60000
  at_most h = leb-true (length trace) 60000 (tests h).1

  pub interval_least : first_of (checks s trace) ≡ 0 → 1 ≤ s.keys.interval
  unfolding plain_ranges key_ranges
  interval_least h = let p = (sound_true s (tests h).0).plain in omega arith

  -- the promise
  module _ (output : List ℕ) where
    abbrev room : ℕ
    room = length output

    pub refused : {r : Result ℕ Refusal} {e : Refusal} → r ≡ Err e → number_of e ≡ first_of (checks s trace) → RepeatsPromised s trace output (answer_of r) output
    unfolding reasons listed written codes_bytes
    refused {r} {e} is h =
        let z = ahead (checks s trace) (reason 25 (fits? (sent_in s trace) room) ∷ []) (λ f. numbered e (h ∙ f)) in
        let none : listed s trace room ≡ [] = ap (λ (b : Bool). cond b (sent_in s trace) []) z.1 in
        rw is (record { number_is = h ∙ sym z.0; count_is = ap length (sym none); output_is = ap (λ (cs : List Code). written (codes_bytes cs) output) (sym none); held = subst Held (sym none) tt })

    -- with the checks passed, the outcome of the last
    last : first_of (checks s trace) ≡ 0 → {b : Bool} → fits? (sent_in s trace) room ≡ b → reasons s trace room ≡ by true true true true true ++ (reason 25 b ∷ [])
    unfolding reasons
    last h f = let t = tests h in λ i. checked s trace t.0 t.1 t.2 t.3 t.4 i ++ (reason 25 (f i) ∷ [])

    pub too_small_lem : first_of (checks s trace) ≡ 0 → fits? (sent_in s trace) room ≡ false → RepeatsPromised s trace output (record { number = 25; count = 0 }) output
    unfolding listed written codes_bytes first_of all_free
    too_small_lem h f =
        let z = last h f in
        let none : listed s trace room ≡ [] = ap (λ (rs : List Reason). cond (all_free rs) (sent_in s trace) []) z in
        record { number_is = ap first_of (sym z); count_is = ap length (sym none); output_is = ap (λ (cs : List Code). written (codes_bytes cs) output) (sym none); held = subst Held (sym none) tt }

    pub served : Bytes trace → first_of (checks s trace) ≡ 0 → {n : ℕ} {output' : List ℕ} → n ≡ length (sent s.keys (strokes_in trace)) → fits? (sent_in s trace) room ≡ true
        → output' ≡ put 0 (codes_bytes (sent s.keys (strokes_in trace))) output → RepeatsPromised s trace output (record { number = 0; count = n }) output'
    unfolding listed sent_in written put on_part first_of all_free
    served bytes h e f g =
        let z = last h f in
        let all : listed s trace room ≡ sent_in s trace = ap (λ (rs : List Reason). cond (all_free rs) (sent_in s trace) []) z in
        record {
          number_is = ap first_of (sym z);
          count_is = e ∙ ap length (sym all);
          output_is = g ∙ rw zero-add (ap (λ (cs : List Code). written (codes_bytes cs) output) (sym all));
          held = subst Held (sym all) (all_held s.keys (interval_least h) (strokes_in trace) (strokes_four trace bytes));
        }

-- the last test by a division
pub room_enough : (cs : List Code) {n : ℕ} (room : ℕ) → n ≡ length cs → n ≤ room / 5 → fits? cs room ≡ true
unfolding fits?
room_enough cs room e h = le-leb (5 * length cs) room (omega arith)

pub room_short : (cs : List Code) {n : ℕ} (room : ℕ) → n ≡ length cs → room / 5 < n → fits? cs room ≡ false
unfolding fits?
room_short cs room e h = lt-leb (5 * length cs) room (omega arith)
