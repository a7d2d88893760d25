-- `strokes_of`: nothing is left behind the nines and each of them is a stroke's, or a record is no stroke.
use mathlib.Core.Path.{◌∙◌, sym}
use mathlib.Core.Bool.{and-false}
use lib.ListN.{length}
use borrow.Author.Tests.{eqb-true}
use Rattle.model.proofs.Tests.{and_both}
use Rattle.traces.proofs.Stepping.{by_nines, they_are}
use Rattle.traces.proofs.strokes.strokes_of.Goals as goal
use Rattle.traces.proofs.strokes.strokes_of.Goals.{else-is_empty-via-then-is_empty+else-all_strokes, else-is_empty-via-else-is_empty}

pub returns-then-all_strokes : goal.returns-then-all_strokes
returns-then-all_strokes c =
    let e = c.as_chunks.ensures in
    let r = c.as_chunks.result in
    let trace = c.args.trace.now in
    let empty = sym c.is_empty.ensures ∙ c.if-is_empty.true in
    let all = sym c.all_strokes.ensures ∙ c.if-all_strokes.true in (
      by_nines trace c.requires r.0.now r.1.now e.front e.back_len ∙ and_both _ _ empty all,
      they_are trace c.requires r.0.now r.1.now e.front e.back_len (eqb-true (length r.1.now) 0 empty) e.front_len all,
    )

pub returns-else-is_empty : goal.returns-else-is_empty
returns-else-is_empty c =
    let e = c.as_chunks.ensures in
    let r = c.as_chunks.result in
    by_nines c.args.trace.now c.requires r.0.now r.1.now e.front e.back_len
    ∙ elim c.else-is_empty.branch [
      | else-is_empty-via-then-is_empty+else-all_strokes w ↦ rw (sym w.all_strokes.ensures ∙ w.if-all_strokes.false) (and-false _)
      | else-is_empty-via-else-is_empty w ↦ rw (sym c.is_empty.ensures ∙ w.if-is_empty.false)
    ]
