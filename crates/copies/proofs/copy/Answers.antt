-- `copy`: in mode 3 the dots, else the picture.
use mathlib.Core.Path.{◌∙◌, ap}
use Prim.Native.Nat.{ℕ}
use native.Mathlib.Omega.{arith}
use mathlib.Core.List.{List}
use Rattle.model.specs.Bytes.{put}
use Rattle.model.specs.State.{state}
use Rattle.copies.proofs.Copies.{copied_else, copied-there, size_else, size_there}
use Rattle.copies.proofs.copy.Goals as goal

pub copy_many-requires : goal.copy_many-requires
copy_many-requires c =
    let n = size_there c.args.settings.mode c.if-settings-eq3.true in
    (omega (arith, c.requires.1, n), (omega (arith, c.told-dots), omega arith))

pub returns-then-settings-eq3 : goal.returns-then-settings-eq3
returns-then-settings-eq3 c =
    let a = c.args in
    let st = state a.settings a.cells.now a.layer.now a.dots.now in
    c.copy_many.ensures ∙ ap (λ (ys : List ℕ). put a.from ys a.printer.now) (copied-there st c.if-settings-eq3.true c.told-dots)

pub copy_picture-requires : goal.copy_picture-requires
copy_picture-requires c =
    (c.requires.0, omega (arith, c.requires.1, size_else c.args.settings.mode c.if-settings-eq3.false))

pub returns : goal.returns
returns c =
    let a = c.args in
    let st = state a.settings a.cells.now a.layer.now a.dots.now in
    c.copy_picture.ensures a.dots.now ∙ ap (λ (ys : List ℕ). put a.from ys a.printer.now) (copied_else st c.if-settings-eq3.false)
