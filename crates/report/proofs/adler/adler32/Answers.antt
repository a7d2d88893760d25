-- `adler32`: what is reached, with the bytes that are left, gives the sum of all.
use mathlib.Core.Path.{◌≡◌, ◌∙◌, refl, sym}
use native.Mathlib.Omega.{arith}
use lib.ListN.{length}
use Rattle.report.proofs.Sums.{adler_end, adler_next}
use Rattle.report.proofs.adler.adler32.Goals as goal

pub loop-byte-init : goal.loop-byte-init
loop-byte-init c =
    refl

pub loop-byte-preserved : goal.loop-byte-preserved
loop-byte-preserved c =
    let at = c.loop-byte in
    rw c.with_byte-reached.ensures (adler_next at.reached c.args.bytes.now at.byte-index (omega arith) ∙ at.invariant)

pub returns : goal.returns
returns c =
    let a = c.args in
    let at = c.loop-byte in
    let end : at.byte-index ≡ length a.bytes.now = omega arith in
    sym (adler_end at.reached a.bytes.now) ∙ rw end at at.invariant
