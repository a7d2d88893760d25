-- `serve` meets its contract: all items, nothing counted before them, and the painting.
use mathlib.Core.Path.{ap, subst, sym}
use Prim.Native.Nat.{◌+◌, ◌≤◌}
use native.Mathlib.Omega.{arith}
use Rattle.counting.specs.declared.Counts.{Counts}
use Rattle.serving.proofs.Going.{all_items}
use Rattle.std.proofs.lemmas.Option.{MatchOption-at_some}
use Rattle.serving.proofs.serve.Goals as goal

pub serve_items-requires : goal.serve_items-requires
serve_items-requires c =
    let e = c.no_counts-none.ensures in
    let cells = MatchOption-at_some _ _ _ c.unwrap-cells.ensures c.as_mut_array.follows.0 in
    let layer = MatchOption-at_some _ _ _ c.unwrap-layer.ensures c.as_mut_array-2.follows.0 in
    let shown = MatchOption-at_some _ _ _ c.unwrap-shown.ensures c.as_mut_array-3.follows.0 in
    let dots = MatchOption-at_some _ _ _ c.unwrap-dots.ensures c.as_mut_array-4.follows.0 in
    record { servable = rw (cells.same, layer.same, dots.same, shown.same) c.requires; from_in_bounds = (omega arith, (subst (λ (x : Counts). x.accepted + x.refused ≤ 0) (sym e) (omega arith), ap (λ (x : Counts). x.printed) e)) }

pub returns : goal.returns
returns c =
    let cells = MatchOption-at_some _ _ _ c.unwrap-cells.ensures c.as_mut_array.follows.0 in
    let layer = MatchOption-at_some _ _ _ c.unwrap-layer.ensures c.as_mut_array-2.follows.0 in
    let dots = MatchOption-at_some _ _ _ c.unwrap-dots.ensures c.as_mut_array-4.follows.0 in
    rw (← cells.same, ← layer.same, ← dots.same) (all_items c.no_counts-none.ensures c.serve_items.ensures)
