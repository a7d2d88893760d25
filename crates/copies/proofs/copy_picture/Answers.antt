-- `copy_picture`: after `row` turns the rows before it are in the buffer.
use mathlib.Core.Path.{◌∙◌, ap, refl, sym}
use Prim.Native.Nat.{ℕ}
use native.Mathlib.Omega.{arith}
use mathlib.Core.List.{List}
use lib.ListN.{length-replicate}
use Rattle.model.specs.Bytes.{put}
use Rattle.model.specs.State.{state}
use Rattle.model.specs.Picture.{copied_rows}
use Rattle.model.proofs.Keep.{chosen}
use Rattle.model.proofs.Tests.{differ}
use Rattle.store.proofs.Laws.{put-none}
use Rattle.paint.proofs.Pictures.{texts_size, whole-picture}
use Rattle.copies.proofs.Copies.{copied_all, copied_more}
use Rattle.copies.proofs.copy_picture.Goals as goal

pub place_of-place-requires : goal.place_of-place-requires
place_of-place-requires c =
    chosen c.args.settings c.requires.0

pub view_of-panes-requires : goal.view_of-panes-requires
view_of-panes-requires c =
    (c.requires.0, λ i. (c.place_of-place.ensures i).top)

pub paint_under-requires : goal.paint_under-requires
paint_under-requires c =
    record { framed = c.view_of-panes.ensures.framed }

pub lay_over-requires : goal.lay_over-requires
lay_over-requires c =
    record { layer_value = λ e. absurd (differ (sym e)) }

pub loop-row-init : goal.loop-row-init
unfolding copied_rows
loop-row-init c =
    sym (put-none _ _)

pub loop-row-preserved : goal.loop-row-preserved
loop-row-preserved c =
    let a = c.args in
    copied_more a.from c.loop-row.row _ a.printer.now c.loop-row.invariant c.copy_row.ensures refl (omega (arith, c.requires.1))

pub returns : goal.returns
returns c dots =
    let loop = c.loop-row in
    let a = c.args in
    let picture = whole-picture a.settings a.cells.now a.layer.now dots c.view_of-panes.result c.view_of-panes.ensures _ (texts_size c.requires.0) (length-replicate {A = ℕ} 640 0)
    c.paint_under.ensures c.paint_keys.ensures c.lay_over.ensures in
    loop.invariant ∙ ap (λ (ys : List ℕ). put a.from ys a.printer.now) (copied_all (state a.settings a.cells.now a.layer.now dots) _ loop.row picture (omega arith))
