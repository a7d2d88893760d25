-- The three parts are the test of a line; the array is as long as its type says.
use mathlib.Core.Path.{◌∙◌, ◌≡◌}
use mathlib.Core.Bool.{◌&&◌}
use lib.ListN.{length}
use Rattle.unfinished.proofs.Arrays.{unmapped}
use Rattle.unfinished.proofs.TestLaws.{line_by}
use Rattle.unfinished.proofs.sound.Goals as goal

pub returns : goal.returns
returns c =
    let w = c.args.waiting in
    let e : length w ≡ 12 = search (unmapped, c.well_formed) in
    (λ i. c.begun-begun.ensures i && c.counted-counted.ensures i && c.clean-clean.ensures i) ∙ line_by w c.args.held c.args.count e
