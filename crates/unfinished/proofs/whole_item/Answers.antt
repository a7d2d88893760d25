-- By the bytes that it looks at, in their order: one law a return.
use mathlib.Core.Path.{◌∙◌, ◌≡◌, sym}
use Prim.Native.Nat.{◌<◌, ◌≤◌}
use lib.ListN.{get_or, length}
use borrow.Author.Rules.{rules}
use Rattle.tables.specs.Lengths.{length_of}
use Rattle.unfinished.proofs.ItemLaws.{alone, cut, listed, nothing, plain, unlisted}
use Rattle.unfinished.proofs.whole_item.Goals as goal

pub returns-in_err-first : goal.returns-in_err-first
returns-in_err-first c =
    let m = c.args.bytes.now in
    let h : length m < 1 = search rules in
    rw c.from_residual.ensures (nothing m h)

pub returns-then-first-ne27 : goal.returns-then-first-ne27
returns-then-first-ne27 c =
    let m = c.args.bytes.now in
    let some : 1 ≤ length m = search rules in
    let first : get_or m 0 0 ≡ c.in_ok-first.field-0.now = search rules in
    plain m some (λ e. c.if-first-ne27.true (sym first ∙ e))

pub returns-in_err-second : goal.returns-in_err-second
returns-in_err-second c =
    let m = c.args.bytes.now in
    let first : get_or m 0 0 ≡ c.in_ok-first.field-0.now = search rules in
    let few : length m < 2 = search rules in
    rw c.from_residual-in_err-second.ensures (alone m (first ∙ c.if-first-ne27.false) few)

pub returns-then-length-eq0 : goal.returns-then-length-eq0
returns-then-length-eq0 c =
    let m = c.args.bytes.now in
    let first : get_or m 0 0 ≡ c.in_ok-first.field-0.now = search rules in
    let second : get_or m 1 0 ≡ c.in_ok-second.field-0.now = search rules in
    let more : 2 ≤ length m = search rules in
    unlisted m (first ∙ c.if-first-ne27.false) more (c.length_of-length.ensures ∙ (λ i. length_of (sym second i) (c.byte.ensures i))) c.if-length-eq0.true

pub returns-then-bytes-length : goal.returns-then-bytes-length
returns-then-bytes-length c =
    let m = c.args.bytes.now in
    let first : get_or m 0 0 ≡ c.in_ok-first.field-0.now = search rules in
    let second : get_or m 1 0 ≡ c.in_ok-second.field-0.now = search rules in
    let more : 2 ≤ length m = search rules in
    cut m (first ∙ c.if-first-ne27.false) more (c.length_of-length.ensures ∙ (λ i. length_of (sym second i) (c.byte.ensures i))) c.if-length-eq0.false c.if-bytes-length.true

pub returns-else-bytes-length : goal.returns-else-bytes-length
returns-else-bytes-length c =
    let m = c.args.bytes.now in
    let first : get_or m 0 0 ≡ c.in_ok-first.field-0.now = search rules in
    let second : get_or m 1 0 ≡ c.in_ok-second.field-0.now = search rules in
    let more : 2 ≤ length m = search rules in
    listed m (first ∙ c.if-first-ne27.false) more (c.length_of-length.ensures ∙ (λ i. length_of (sym second i) (c.byte.ensures i))) c.if-length-eq0.false c.if-bytes-length.false
