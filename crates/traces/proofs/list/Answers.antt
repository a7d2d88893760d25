-- `list`: refused by the trace or by the output, and nothing written; or every code counted, then written.
use mathlib.Core.Path.{◌∙◌, ap}
use native.Mathlib.Omega.{arith}
use lib.ListN.{length}
use Rattle.std.specs.Prelude.{Err}
use Rattle.std.proofs.lemmas.Result.{err_from_is_err_and}
use Rattle.traces.specs.Call.{sent_in}
use Rattle.traces.specs.Claims.{Bytes}
use Rattle.traces.proofs.Claimed.{each_byte}
use Rattle.traces.proofs.Promises.{at_most, interval_least, refused, room_enough, room_short, served, too_small_lem}
use Rattle.traces.proofs.list.Goals as goal

pub returns-in_err-strokes : goal.returns-in_err-strokes
returns-in_err-strokes c =
    let a = c.args in
    let p = err_from_is_err_and c.from_residual.result c.from_residual.ensures.1 in
    refused a.settings a.trace.now a.output.now (p.1 ∙ ap Err p.2) c.in_err-strokes.ensures

pub invariant_of-repeating : goal.invariant_of-repeating
invariant_of-repeating c =
    record { apart = interval_least c.args.settings c.args.trace.now c.in_ok-strokes.ensures.0 }

pub count_all-count-requires : goal.count_all-count-requires
count_all-count-requires c =
    let passed = c.in_ok-strokes.ensures in
    omega (arith, passed.1.nine_each, at_most c.args.settings c.args.trace.now passed.0)

pub returns-then-count-output : goal.returns-then-count-output
unfolding sent_in
returns-then-count-output c =
    let a = c.args in
    let passed = c.in_ok-strokes.ensures in
    let all = rw (← passed.1.is) at c.count_all-count.ensures in
    too_small_lem a.settings a.trace.now a.output.now passed.0 (room_short (sent_in a.settings a.trace.now) (length a.output.now) all (omega (arith, c.if-count-output.true)))

pub returns : goal.returns
unfolding sent_in
returns c =
    let a = c.args in
    let passed = c.in_ok-strokes.ensures in
    let all = rw (← passed.1.is) at c.count_all-count.ensures in
    let bytes : Bytes a.trace.now = each_byte a.trace.now (λ i. omega (arith, c.type_inv.trace i)) in
    served a.settings a.trace.now a.output.now bytes passed.0 all
    (room_enough (sent_in a.settings a.trace.now) (length a.output.now) all (omega (arith, c.if-count-output.false))) (rw (← passed.1.is) at c.write_all.ensures)
