-- The opening's promise: from stores that were filled, or from stores left as they came.
use mathlib.Core.Path.{◌∙◌, ◌≡◌, ap, refl, sym}
use Prim.Native.Nat.{◌<◌, ℕ}
use native.Mathlib.Omega.{arith}
use mathlib.Core.Bool.{Bool, ◌||◌, false, true}
use mathlib.Core.List.{List}
use lib.ListN.{length, replicate}
use lib.Dec.{eqb}
use borrow.Author.Tests.{eqb-true}
use Rattle.model.specs.declared.Settings.{Settings}
use Rattle.model.specs.State.{opened_settings}
use Rattle.calls.specs.Calls.{Terminal}
use Rattle.calls.specs.Opening.{OpeningPromised, opened_by, opening_number, ruled, unopened}
use Rattle.model.proofs.Tests.{differ}
use Rattle.numbers.proofs.OpeningTests.{both, not_both}
use Rattle.numbers.proofs.Sizes.{sizes}

-- a rule's number fits a byte
few : (rule : ℕ) → ruled rule ≡ true → rule < 256
unfolding ruled
few rule = go (eqb rule 1) (eqb rule 2) refl refl
  where
    go : (a b : Bool) → eqb rule 1 ≡ a → eqb rule 2 ≡ b → (a || b) ≡ true → rule < 256
    go true b p q h = omega (arith, eqb-true rule 1 p)
    go false true p q h = omega (arith, eqb-true rule 2 q)
    go false false p q h = absurd (differ (sym h))

module _ (rule : ℕ) (cells layer dots shown : List ℕ) where
  abbrev given : Terminal
  given = unopened cells layer dots shown

  pub byte : opening_number rule given ≡ 0 → rule < 256
  byte e = few rule (both rule cells layer dots shown e).1

  module _ (s : Settings) (number : ℕ) (cells' layer' dots' shown' : List ℕ) (n : number ≡ opening_number rule given) where
    pub filled : number ≡ 0 → s ≡ opened_settings rule → cells' ≡ replicate (length cells) 32 → layer' ≡ replicate (length layer) 0 → dots' ≡ replicate (length dots) 0 → shown' ≡ replicate (length shown) 32
        → OpeningPromised rule cells layer dots shown s number cells' layer' dots' shown'
    unfolding opened_by
    filled o e c l d p =
        let t = both rule cells layer dots shown (sym n ∙ o) in
        let z = sizes given t.0 in
        record {
          number_is = n;
          settings_are = rw (t.0, t.1) e;
          cells_are = rw (t.0, t.1) (c ∙ ap (λ (k : ℕ). replicate k 32) z.0);
          layer_is = rw (t.0, t.1) (l ∙ ap (λ (k : ℕ). replicate k 0) z.1);
          dots_are = rw (t.0, t.1) (d ∙ ap (λ (k : ℕ). replicate k 0) z.2);
          shown_is = rw (t.0, t.1) (p ∙ ap (λ (k : ℕ). replicate k 32) z.3);
        }

    pub kept : (number ≡ 0 → ⊥) → s ≡ opened_settings 1 → cells' ≡ cells → layer' ≡ layer → dots' ≡ dots → shown' ≡ shown → OpeningPromised rule cells layer dots shown s number cells' layer' dots' shown'
    unfolding opened_by
    kept o e c l d p =
        let f = not_both rule cells layer dots shown (λ k. o (n ∙ k)) in
        record { number_is = n; settings_are = rw f e; cells_are = rw f c; layer_is = rw f l; dots_are = rw f d; shown_is = rw f p }
