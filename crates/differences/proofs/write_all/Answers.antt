-- `write_all`: the next find is the list's next record (`finds`), and all that were counted are stored.
use mathlib.Core.Path.{◌≡◌, sym, ap, ◌∙◌}
use mathlib.Core.List.{List}
use Prim.Native.Nat.{ℕ, suc, ◌+◌, ◌-◌, ◌<◌}
use native.Mathlib.Numerals.{add-one}
use native.Mathlib.Omega.{arith}
use lib.ListN.{length, set}
use Rattle.std.specs.Prelude.{Err}
use Rattle.std.proofs.lemmas.Result.{err_from_is_err_and}
use Rattle.differences.specs.declared.Difference.{Difference}
use Rattle.differences.specs.Differences.{differences, record_at, sought}
use Rattle.differences.proofs.Laws.{place_from}
use Rattle.differences.proofs.Reaching.{finds, reach, reached}
use Rattle.differences.proofs.Storing.{all_stored, refused_short, refused_size, stores, stores_next}
use Rattle.differences.proofs.write_all.Goals as goal

-- the place that a search from where k finds left it gives
found : (a b : List ℕ) (k place q : ℕ) → place ≡ reached k a b → q ≡ sought (640 - place) place a b → q ≡ place_from (reached k a b) a b
found a b k place q e h = h ∙ ap (λ (p : ℕ). place_from p a b) e

-- behind the next find: one record more stands in the list
turned : (a b : List ℕ) (k place q : ℕ) (d : Difference) (ys zs : List Difference) → k < length (differences a b) → place ≡ reached k a b → q ≡ sought (640 - place) place a b → d ≡ record_at a b q → zs ≡ stores k (differences a b) ys
    → (q + 1 ≡ reached (k + 1) a b) × (set zs k d ≡ stores (k + 1) (differences a b) ys)
turned a b k place q d ys zs h e s r t =
    let q_is = found a b k place q e s in
    let next : q + 1 ≡ reached (suc k) a b = ap (λ (p : ℕ). p + 1) q_is in
    let one_more : set zs k d ≡ stores (suc k) (differences a b) ys = stores_next k (differences a b) ys zs d t ((finds k a b h).is ∙ ap (record_at a b) (sym q_is) ∙ sym r) in
    (next ∙ ap (λ (j : ℕ). reached j a b) (sym (add-one k)), one_more ∙ ap (λ (j : ℕ). stores j (differences a b) ys) (sym (add-one k)))

pub returns-in_err-screens : goal.returns-in_err-screens
returns-in_err-screens c =
    let p = err_from_is_err_and c.from_residual.result c.from_residual.ensures.1 in
    let known = c.in_err-screens.ensures in
    refused_size c.args.first.now c.args.second.now c.args.list.now known.0 (p.1 ∙ ap Err (p.2 ∙ known.1))

pub returns-then-list-n : goal.returns-then-list-n
returns-then-list-n c =
    let known = c.in_ok-screens.ensures in
    let a = c.in_ok-screens.screens.first.now in
    let b = c.in_ok-screens.screens.second.now in
    rw (sym known.1.0, sym known.1.1) (refused_short a b c.args.list.now (rw (known.1.0, known.1.1) known.0) (omega (arith, c.if-list-n.true, c.count-n.ensures)))

pub seek-place-requires : goal.seek-place-requires
seek-place-requires c =
    let a = c.in_ok-screens.screens.first.now in
    let b = c.in_ok-screens.screens.second.now in
    let r = reach c.loop-k.k a b (omega (arith, c.loop-k-test.true, c.count-n.ensures)) in
    omega (arith, r.on, c.loop-k.invariant.0)

pub record_at-requires : goal.record_at-requires
record_at-requires c =
    let a = c.in_ok-screens.screens.first.now in
    let b = c.in_ok-screens.screens.second.now in
    let q_is = found a b c.loop-k.k _ _ c.loop-k.invariant.0 c.seek-place.ensures in
    let less : c.loop-k.k < length (differences a b) = omega (arith, c.loop-k-test.true, c.count-n.ensures) in
    omega (arith, (finds c.loop-k.k a b less).within, q_is)

pub loop-k-preserved : goal.loop-k-preserved
loop-k-preserved c =
    let a = c.in_ok-screens.screens.first.now in
    let b = c.in_ok-screens.screens.second.now in
    let less : c.loop-k.k < length (differences a b) = omega (arith, c.loop-k-test.true, c.count-n.ensures) in
    turned a b c.loop-k.k _ _ _ c.args.list.now _ less c.loop-k.invariant.0 c.seek-place.ensures c.record_at.ensures c.loop-k.invariant.1

pub returns : goal.returns
returns c =
    let known = c.in_ok-screens.ensures in
    let a = c.in_ok-screens.screens.first.now in
    let b = c.in_ok-screens.screens.second.now in
    let end : c.loop-k.k ≡ c.count-n.result = omega (arith, c.loop-k-test.false, c.loop-k.auto.k-end) in
    let all : c.loop-k.list ≡ stores c.count-n.result (differences a b) c.args.list.now = c.loop-k.invariant.1 ∙ ap (λ (k : ℕ). stores k (differences a b) c.args.list.now) end in
    rw (sym known.1.0, sym known.1.1) (all_stored a b c.args.list.now (rw (known.1.0, known.1.1) known.0) (omega (arith, c.if-list-n.false, c.count-n.ensures)) c.count-n.ensures all)
