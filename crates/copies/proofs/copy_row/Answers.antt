-- `copy_row`: after i turns i codes of the row are put; then the two codes behind them.
use mathlib.Core.Path.{◌∙◌, ◌≡◌, refl, sym}
use native.Mathlib.Omega.{arith}
use lib.ListN.{length, length-set}
use Rattle.model.specs.Bytes.{list_from}
use Rattle.model.proofs.ByteLaws.{length_list_from}
use Rattle.store.proofs.Laws.{put-none, put_two}
use Rattle.copies.specs.Copy.{printed, row_copied}
use Rattle.views.proofs.Painted.{listed_more}
use Rattle.copies.proofs.copy_row.Goals as goal

pub loop-i-init : goal.loop-i-init
loop-i-init c =
    sym (put-none _ _)

pub loop-i-preserved : goal.loop-i-preserved
loop-i-preserved c =
    let at = c.loop-i in
    let a = c.args in
    listed_more a.from a.at at.i (printed a.picture.now) a.printer.now at.invariant refl (omega (arith, c.max.ensures)) (omega arith)

pub bounds-printer-from-3 : goal.bounds-printer-from-3
bounds-printer-from-3 c =
    simp length-set (omega arith)

pub shape_of-printer : goal.shape_of-printer
shape_of-printer c =
    simp length-set (omega arith)

pub returns : goal.returns
unfolding row_copied
returns c =
    let at = c.loop-i in
    let a = c.args in
    let row = list_from (printed a.picture.now) a.at at.i in
    let end : at.i ≡ 80 = omega arith in
    let n : length row ≡ 80 = length_list_from (printed a.picture.now) a.at at.i ∙ end in
    put_two a.from row 13 10 a.printer.now at.invariant (omega arith) (omega arith) (omega arith) ∙ rw end
