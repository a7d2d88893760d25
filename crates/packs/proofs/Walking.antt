-- The walk over a pack that is not cut: where a record begins there is all of it, and behind it the pack is not cut either. So each test of the whole pack is
-- what was found so far and the same test of what is left.
use mathlib.Core.Path.{◌∙◌, ◌≡◌, ap, sym}
use Prim.Native.Nat.{◌+◌, ◌<◌, ◌≤◌, ℕ}
use native.Mathlib.Omega.{arith}
use mathlib.Core.Bool.{Bool, ◌&&◌, and_assoc, and-true, true}
use mathlib.Core.List.{List}
use lib.ListN.{drop, length, length-drop}
use lib.Dec.{eqb, leb}
use Rattle.model.specs.Records.{Record, all?, kind_in, length_in, record_in, records_of, uncut?}
use Rattle.calls.specs.Packs.{known?}
use Rattle.calls.specs.Calls.{known_in, sendable, sendable_in}
use Rattle.records.proofs.Laws.{all_at, all_over, known_at, sendable_at, uncut_fits, uncut_past}

-- a place in the pack, where a record begins or the pack ends
pub record Whole (p : List ℕ) (at : ℕ) : Type 0 where
  pub inside : at ≤ length p
  pub uncut : uncut? (drop at p) ≡ true

-- where one begins, n the length of its body
module _ (p : List ℕ) (at n : ℕ) (h : Whole p at) (some : at < length p) (size : n ≡ length_in (drop at p)) where
  pub fits : at + (n + 4) ≤ length p
  fits = omega (arith, uncut_fits (drop at p) (omega (arith, length-drop at p)) h.uncut, length-drop at p)

  pub behind : Whole p (at + (n + 4))
  behind = record { inside = fits; uncut = sym (uncut_past p at h.inside size fits) ∙ h.uncut }

  -- a test of its record, and of those behind it
  module _ (test : Record → Bool) (b own : Bool) (told : own ≡ test (record_in (drop at p))) where
    tested : ((b && own) && all? test (records_of (drop (at + (n + 4)) p))) ≡ (b && all? test (records_of (drop at p)))
    tested =
        and_assoc b own (all? test (records_of (drop (at + (n + 4)) p)))
        ∙ ap (λ (c : Bool). b && c) (ap (λ (c : Bool). c && all? test (records_of (drop (at + (n + 4)) p))) told ∙ sym (all_at p at n size test some))

  pub known_on : (b : Bool) (k : ℕ) → k ≡ kind_in (drop at p) → known_in p ≡ (b && all? known? (records_of (drop at p)))
      → known_in p ≡ ((b && eqb k 1) && all? known? (records_of (drop (at + (n + 4)) p)))
  known_on b k e f = f ∙ sym (tested known? b (eqb k 1) (ap (λ (j : ℕ). eqb j 1) e ∙ sym (known_at p at n size)))

  pub sendable_on : (b : Bool) → sendable_in p ≡ (b && all? (λ (r : Record). sendable r.body) (records_of (drop at p)))
      → sendable_in p ≡ ((b && leb n 4096) && all? (λ (r : Record). sendable r.body) (records_of (drop (at + (n + 4)) p)))
  sendable_on b f = f ∙ sym (tested (λ (r : Record). sendable r.body) b (leb n 4096) (sym (sendable_at p at n size some fits)))

-- at the end nothing is left to be tested
pub over : (p : List ℕ) (at : ℕ) (test : Record → Bool) (b : Bool) → length p ≤ at → (b && all? test (records_of (drop at p))) ≡ b
over p at test b e = ap (λ (c : Bool). b && c) (all_over p at e test) ∙ and-true b
