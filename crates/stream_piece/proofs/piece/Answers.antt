-- None waits and it is small: a message call of its whole items, under the settings as they are, is all of it. Any other piece is `behind`'s.
use mathlib.Core.Path.{sym}
use native.Mathlib.Omega.{arith}
use lib.Seq.{length-take-le}
use Rattle.stream_parts.proofs.PlainPiece.{Plain, plain_end, plain_near, plain_refused, plain_rest, plain_served, plain-whole}
use Rattle.stream_piece.proofs.piece.Goals.{After-whole_end-end}
use Rattle.stream_piece.proofs.piece.Goals as goal

-- once the end of its whole items is found
plain : (c : After-whole_end-end) → let a = c.args in Plain a.settings a.piece.now c.whole_end-end.result
plain c = let p = c.plain.ensures c.if-not-plain.false in record { none = p.0; few = p.1.0; low = p.1.1; ends = c.whole_end-end.ensures }

pub slice_bounds-message-end : goal.slice_bounds-message-end
slice_bounds-message-end c = sym (length-take-le _ _ (omega (arith, plain_end (plain (goal.at.slice_bounds-message-end c).After-whole_end-end))))

pub returns-then-out-ne0 : goal.returns-then-out-ne0
returns-then-out-ne0 c =
    let a = c.args in
    plain_refused (plain (goal.at.returns-then-out-ne0 c).After-whole_end-end) a.cells.now a.layer.now a.dots.now a.shown.now a.printer.now _ _ _ _ _ _ _ c.message-out.ensures (omega arith)

pub counted_from-answer-requires : goal.counted_from-answer-requires
counted_from-answer-requires c =
    let a = c.args in
    plain_near (plain (goal.at.counted_from-answer-requires c).After-whole_end-end) a.cells.now a.layer.now a.dots.now a.shown.now a.printer.now _ _ _ _ _ _ _ c.message-out.ensures

pub lined-requires : goal.lined-requires
lined-requires c = plain_rest (plain (goal.at.lined-requires c).After-whole_end-end)

pub returns-then-end-piece : goal.returns-then-end-piece
returns-then-end-piece c =
    let a = c.args in
    plain_served (plain (goal.at.returns-then-end-piece c).After-whole_end-end) a.cells.now a.layer.now a.dots.now a.shown.now a.printer.now _ _ _ _ _ _ _ c.message-out.ensures (omega arith)
    _ _ c.counted_from-answer.ensures c.lined.ensures

pub returns : goal.returns
returns c =
    let a = c.args in
    plain-whole (plain (goal.at.returns c).After-whole_end-end) a.cells.now a.layer.now a.dots.now a.shown.now a.printer.now _ _ _ _ _ _ _ c.message-out.ensures (omega arith) c.if-end-piece.false
    _ c.counted_from-answer.ensures
