-- `all_zero`: no byte that was seen is greater than `any`, so where it is 0, all are; and of zeros it stays 0.
use mathlib.Core.Path.{refl}
use native.Mathlib.Omega.{arith}
use lib.ListN.{get_or}
use borrow.Author.Tests.{eq-eqb, eqb-true}
use Rattle.store.proofs.Held.{either, seen, zero_at, zeros}
use Rattle.store.proofs.all_zero.Goals as goal

pub loop-byte-init : goal.loop-byte-init
loop-byte-init c =
    (λ k l. absurd (omega arith), λ z. refl)

pub loop-byte-preserved : goal.loop-byte-preserved
loop-byte-preserved c =
    let xs = c.args.region.now in
    let l = c.loop-byte in
    let e = either l.any (get_or xs l.byte-index 0) in
    (seen xs l.byte-index l.invariant.0 e.0 e.1.0, λ z. omega (arith, e.1.1, l.invariant.1 z, zero_at xs l.byte-index c.loop-byte-test.true z))

pub returns : goal.returns
returns c =
    (λ t. zeros _ (λ k l. omega (arith, c.loop-byte.invariant.0 k (omega arith), eqb-true c.loop-byte.any 0 t)), λ z. eq-eqb _ 0 (c.loop-byte.invariant.1 z))
