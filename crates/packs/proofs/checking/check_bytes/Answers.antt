-- `check_bytes`: each test of the whole pack is what was found so far and the same test of what is left (proofs/Walking); then by the four tests, in their order.
use mathlib.Core.Path.{◌∙◌, refl, sym}
use native.Mathlib.Omega.{arith}
use lib.ListN.{length}
use borrow.Author.Tests.{le-leb, lt-leb}
use Rattle.model.specs.Records.{Record}
use Rattle.calls.specs.Packs.{known?}
use Rattle.calls.specs.Calls.{known_in, packable, sendable, sendable_in}
use Rattle.packs.proofs.Walking.{behind, fits, known_on, over, sendable_on}
use Rattle.packs.proofs.Numbers.{bytes_numbered}
use Rattle.packs.proofs.checking.check_bytes.Goals as goal

pub returns-then-pack-gt-PACK : goal.returns-then-pack-gt-PACK
unfolding packable
returns-then-pack-gt-PACK c = let p =
    c.args.pack.now in sym (bytes_numbered p (lt-leb (length p) 60000 (omega arith)) refl refl refl)

pub returns-then-not-uncut : goal.returns-then-not-uncut
unfolding packable
returns-then-not-uncut c =
    let p = c.args.pack.now in
    sym (bytes_numbered p (le-leb (length p) 60000 (omega arith)) (sym c.uncut.ensures ∙ c.if-not-uncut.true) refl refl)

pub loop-at-init : goal.loop-at-init
unfolding known_in sendable_in
loop-at-init c =
    (record { inside = omega arith; uncut = sym c.uncut.ensures ∙ c.if-not-uncut.false }, (refl, refl))

pub length_at-size-requires : goal.length_at-size-requires
length_at-size-requires c =
    let p = c.args.pack.now in
    omega (arith, fits p c.loop-at.at _ c.loop-at.invariant.0 c.loop-at-test.true refl)

pub kind_at-requires : goal.kind_at-requires
kind_at-requires c =
    omega (arith, fits c.args.pack.now c.loop-at.at c.length_at-size.result c.loop-at.invariant.0 c.loop-at-test.true c.length_at-size.ensures)

pub overflow_add-at-in-loop-at : goal.overflow_add-at-in-loop-at
overflow_add-at-in-loop-at c =
    omega (arith, fits c.args.pack.now c.loop-at.at c.length_at-size.result c.loop-at.invariant.0 c.loop-at-test.true c.length_at-size.ensures)

pub loop-at-smaller : goal.loop-at-smaller
loop-at-smaller c =
    omega (arith, fits c.args.pack.now c.loop-at.at c.length_at-size.result c.loop-at.invariant.0 c.loop-at-test.true c.length_at-size.ensures)

pub loop-at-preserved : goal.loop-at-preserved
loop-at-preserved c =
    let size = c.length_at-size in
    let p = c.args.pack.now in
    let some = c.loop-at-test.true in
    let h = c.loop-at.invariant in (
      behind p c.loop-at.at size.result h.0 some size.ensures,
      (
        known_on p c.loop-at.at size.result h.0 some size.ensures c.loop-at.known c.kind_at.result c.kind_at.ensures h.1.0,
        sendable_on p c.loop-at.at size.result h.0 some size.ensures c.loop-at.few h.1.1,
      ),
    )

pub returns-then-not-known : goal.returns-then-not-known
unfolding packable
returns-then-not-known c =
    let p = c.args.pack.now in
    let past = c.loop-at-test.false in
    let walked = bytes_numbered p (le-leb (length p) 60000 (omega arith)) (sym c.uncut.ensures ∙ c.if-not-uncut.false)
    (c.loop-at.invariant.1.0 ∙ over p c.loop-at.at known? c.loop-at.known past) (c.loop-at.invariant.1.1 ∙ over p c.loop-at.at (λ (r : Record). sendable r.body) c.loop-at.few past) in
    sym (walked ∙ rw c.if-not-known.true)

pub returns-then-not-few : goal.returns-then-not-few
unfolding packable
returns-then-not-few c =
    let p = c.args.pack.now in
    let past = c.loop-at-test.false in
    let walked = bytes_numbered p (le-leb (length p) 60000 (omega arith)) (sym c.uncut.ensures ∙ c.if-not-uncut.false)
    (c.loop-at.invariant.1.0 ∙ over p c.loop-at.at known? c.loop-at.known past) (c.loop-at.invariant.1.1 ∙ over p c.loop-at.at (λ (r : Record). sendable r.body) c.loop-at.few past) in
    sym (walked ∙ rw (c.if-not-known.false, c.if-not-few.true))

pub returns : goal.returns
unfolding packable
returns c =
    let p = c.args.pack.now in
    let past = c.loop-at-test.false in
    let walked = bytes_numbered p (le-leb (length p) 60000 (omega arith)) (sym c.uncut.ensures ∙ c.if-not-uncut.false)
    (c.loop-at.invariant.1.0 ∙ over p c.loop-at.at known? c.loop-at.known past) (c.loop-at.invariant.1.1 ∙ over p c.loop-at.at (λ (r : Record). sendable r.body) c.loop-at.few past) in
    sym (walked ∙ rw (c.if-not-known.false, c.if-not-few.false))
