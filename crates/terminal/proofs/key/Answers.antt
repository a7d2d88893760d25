-- Nothing refuses it: the text in its place. Refused: nothing altered. What the check says of key and text gives the bounds.
use mathlib.Core.Path.{refl, sym}
use native.Mathlib.Omega.{arith}
use Rattle.model.proofs.RefusalLaws.{not_0}
use Rattle.numbers.proofs.Blanks.{blank}
use Rattle.terminal.proofs.Keys.{among, refused, stored}
use Rattle.terminal.proofs.key.Goals as goal

pub returns-in-Err : goal.returns-in-Err
returns-in-Err c =
    let a = c.args in
    refused a.number a.text.now a.settings _ _ c.in-Err.ensures (not_0 _) c.refused-answer.ensures

pub slice_bounds-copy_in-end : goal.slice_bounds-copy_in-end
slice_bounds-copy_in-end c =
    let placed = among c.args.number c.args.text.now c.args.settings (sym c.in_default.ensures) in
    sym placed.ten

pub overflow_sub-number : goal.overflow_sub-number
overflow_sub-number c = omega (arith, among c.args.number c.args.text.now c.args.settings (sym c.in_default.ensures))

pub overflow_mul-number : goal.overflow_mul-number
overflow_mul-number c = omega (arith, among c.args.number c.args.text.now c.args.settings (sym c.in_default.ensures))

pub copy_in-requires : goal.copy_in-requires
copy_in-requires c = omega (arith, among c.args.number c.args.text.now c.args.settings (sym c.in_default.ensures))

pub returns : goal.returns
returns c =
    let a = c.args in
    stored a.number a.text.now a.settings _ _ _ c.in_default.ensures refl (blank c.default.result c.default.ensures) c.copy_in.ensures
