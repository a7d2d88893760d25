-- `serve_from` lends its stores as arrays: each is the slice that came, which is as long.
use Rattle.std.proofs.lemmas.Option.{MatchOption-at_some}
use Rattle.serving.proofs.serve_from.Goals as goal

pub serve_items-requires-clause-servable : goal.serve_items-requires-clause-servable
serve_items-requires-clause-servable c =
    let cells = MatchOption-at_some _ _ _ c.unwrap-cells.ensures c.as_mut_array.follows.0 in
    let layer = MatchOption-at_some _ _ _ c.unwrap-layer.ensures c.as_mut_array-2.follows.0 in
    let shown = MatchOption-at_some _ _ _ c.unwrap-shown.ensures c.as_mut_array-3.follows.0 in
    let dots = MatchOption-at_some _ _ _ c.unwrap-dots.ensures c.as_mut_array-4.follows.0 in
    rw (cells.same, layer.same, dots.same, shown.same) c.requires.servable
