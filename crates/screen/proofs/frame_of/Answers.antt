-- `frame_of` meets its contract: the branch says which screen is selected.
use mathlib.Core.Path.{◌∙◌, ◌≡◌, refl}
use native.Mathlib.Omega.{arith}
use Rattle.model.specs.Screens.{base, columns_of, lines_of}
use Rattle.model.proofs.Keep.{chosen}
use Rattle.screen.proofs.Frames.{columns_high, frame, shift_first, shift_second}
use Rattle.screen.proofs.frame_of.Goals as goal

pub shift_of-requires : goal.shift_of-requires
unfolding base columns_of lines_of
shift_of-requires c =
    columns_high c.requires

pub returns-then-settings-eq0 : goal.returns-then-settings-eq0
unfolding base columns_of lines_of
returns-then-settings-eq0 c =
    let k = c.if-settings-eq0.true in let s = c.args.settings in
    (frame c.requires (rw k) (rw k) (rw k) (rw k) (c.height_of.ensures s refl refl) (shift_first s k) (c.text_rows.ensures.0 s refl) refl refl refl refl, refl)

pub returns : goal.returns
unfolding base columns_of lines_of
returns c =
    let s = c.args.settings in
    let k : s.selected ≡ 1 = omega (arith, chosen s c.requires) in
    (frame c.requires (rw k) (rw k) (rw k c.times.ensures.0) (rw k) (c.height_of.ensures s refl refl) (c.shift_of.ensures ∙ shift_second s k) (c.text_rows.ensures.0 s refl) refl refl refl refl, refl)
