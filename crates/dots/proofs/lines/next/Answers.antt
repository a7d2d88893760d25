-- `next`: both axes where the remainder comes to 2N, else the longer one alone.
use mathlib.Core.Path.{refl}
use native.Mathlib.Omega.{arith}
use Rattle.dots.proofs.Walking.{further, further_flat, lower, lower_steep, next_both, next_flat, next_steep, room_column, room_row}
use Rattle.dots.proofs.lines.next.Goals as goal

pub shift-requires : goal.shift-requires
shift-requires c =
    let pre = c.requires in
    let m = pre.measured.0 in
    let at = pre.carried.0 in
    room_row m at pre.measured.1.0 pre.measured.1.1 (omega arith) (lower m at pre.carried.1 (omega (arith, c.if-n-rest.true)))

pub shift-requires-then-n-rest : goal.shift-requires-then-n-rest
shift-requires-then-n-rest c =
    let pre = c.requires in
    let m = pre.measured.0 in
    let at = pre.carried.0 in
    room_column m at pre.measured.1.0 pre.measured.1.1 (omega arith) (further m at pre.carried.1 (omega (arith, c.if-n-rest.true)))

pub returns-then-n-rest : goal.returns-then-n-rest
returns-then-n-rest c =
    let pre = c.requires in
    (refl, next_both pre.measured.0 pre.carried.0 pre.carried.1 (omega (arith, c.if-n-rest.true)) c.shift.ensures c.shift-then-n-rest.ensures)

pub shift-requires-then-flat : goal.shift-requires-then-flat
shift-requires-then-flat c =
    let pre = c.requires in
    let m = pre.measured.0 in
    let at = pre.carried.0 in
    room_column m at pre.measured.1.0 pre.measured.1.1 (omega arith) (further_flat m at pre.carried.1 c.if-flat.true)

pub returns-then-flat : goal.returns-then-flat
returns-then-flat c =
    let pre = c.requires in
    (refl, next_flat pre.measured.0 pre.carried.0 pre.carried.1 (omega (arith, c.if-n-rest.false)) c.if-flat.true c.shift-then-flat.ensures)

pub shift-requires-2 : goal.shift-requires-2
shift-requires-2 c =
    let pre = c.requires in
    let m = pre.measured.0 in
    let at = pre.carried.0 in
    room_row m at pre.measured.1.0 pre.measured.1.1 (omega arith) (lower_steep m at pre.carried.1 c.if-flat.false)

pub returns : goal.returns
returns c =
    let pre = c.requires in
    (refl, next_steep pre.measured.0 pre.carried.0 pre.carried.1 (omega (arith, c.if-n-rest.false)) c.if-flat.false c.shift-2.ensures)
