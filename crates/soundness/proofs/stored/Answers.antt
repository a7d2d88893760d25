-- The comparisons are those of the ranges; the arrays are as long as their types say.
use mathlib.Core.Path.{◌≡◌}
use lib.ListN.{length}
use Rattle.unfinished.proofs.Arrays.{unmapped}
use Rattle.soundness.proofs.Arrays.{arrays}
use Rattle.soundness.proofs.Chains.{plain_of}
use Rattle.soundness.proofs.stored.Goals as goal

pub returns : goal.returns
returns c =
    let s = c.args.settings in
    let g = c.well_formed.0.1.1.1.1.1.1.1.1 in
    let h = g.1.1.1.1.1.1.1.1.1 in
    let p : length s.places ≡ 2 = search (unmapped, g) in
    let r : length s.patterns ≡ 248 = search (unmapped, h) in
    let w : length s.waiting ≡ 12 = search (unmapped, h.1.1) in
    let t : length s.texts ≡ 80 = search (unmapped, h.1.1.1.1.1) in
    let m : length s.marks ≡ 2 = search (unmapped, c.well_formed.0) in
    let of = c.keys_in_range-ranged.ensures in
    (plain_of s _ of.0, arrays s p of.1.0 of.1.1 r w t m)
