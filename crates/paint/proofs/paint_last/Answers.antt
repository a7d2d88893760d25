-- `paint_last`: the key texts under display 0; else the text has eight rows, and row 8 is the last of the view.
use mathlib.Core.Path.{◌∙◌, ap}
use Prim.Native.Nat.{ℕ}
use native.Mathlib.Omega.{arith}
use mathlib.Core.List.{List}
use lib.Seq.{take_all}
use borrow.Author.Rules.{rules}
use Rattle.model.specs.Bytes.{put}
use Rattle.model.proofs.KeyLaws.{rows_plain}
use Rattle.paint.proofs.Pictures.{row_8_keys, row_8_view, texts_size}
use Rattle.views.proofs.Runs.{row_inside, whole_row}
use Rattle.paint.proofs.paint_last.Goals as goal

pub slice_bounds-copy_in-end : goal.slice_bounds-copy_in-end
slice_bounds-copy_in-end c =
    omega (arith, texts_size c.requires.sound.0)

pub copy_in-requires : goal.copy_in-requires
copy_in-requires c =
    (search rules, omega (arith, texts_size c.requires.sound.0))

pub returns-then-settings-eq0 : goal.returns-then-settings-eq0
returns-then-settings-eq0 c layer dots =
    let a = c.args in
    let size = texts_size c.requires.sound.0 in
    row_8_keys a.settings a.cells.now layer dots a.shown.now c.if-settings-eq0.true size (c.copy_in.ensures ∙ ap (λ (ys : List ℕ). put 560 ys a.shown.now) (take_all 80 a.settings.texts (omega arith)))

pub start-requires : goal.start-requires
start-requires c =
    let v = c.view_of-panes in
    let s = c.args.settings in
    row_inside v.result.left 7 v.result.rows (omega (arith, v.ensures.rows_are, rows_plain s c.if-settings-eq0.false)) v.ensures.framed.left_inside

pub returns-then-left-eq-ROW : goal.returns-then-left-eq-ROW
returns-then-left-eq-ROW c layer dots =
    let a = c.args in
    let w = c.view_of-panes.result in
    row_8_view a.settings a.cells.now layer dots a.shown.now w c.view_of-panes.ensures c.if-settings-eq0.false
    (whole_row w c.view_of-panes.ensures.framed a.cells.now c.told-cells 7 a.shown.now (omega arith) c.start.ensures c.copy_in-then-left-eq-ROW.ensures)

pub paint_row-requires : goal.paint_row-requires
paint_row-requires c =
    let v = c.view_of-panes in
    let s = c.args.settings in
    record { framed = (v.ensures.framed, omega (arith, v.ensures.rows_are, rows_plain s c.if-settings-eq0.false)) }

pub returns : goal.returns
returns c layer dots =
    let a = c.args in
    row_8_view a.settings a.cells.now layer dots a.shown.now c.view_of-panes.result c.view_of-panes.ensures c.if-settings-eq0.false c.paint_row.ensures
