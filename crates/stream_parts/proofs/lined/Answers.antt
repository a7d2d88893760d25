-- Three fields, and the others as they were.
use mathlib.Core.Path.{ap}
use Prim.Native.Nat.{ℕ}
use mathlib.Core.List.{List}
use lib.ListN.{length}
use Rattle.model.specs.State.{with_line}
use Rattle.stream_parts.proofs.lined.Goals as goal

pub returns : goal.returns
returns c = let a =
    c.args in ap (λ (w : List ℕ). with_line a.settings w (length a.rest.now) a.count) c.padded-waiting.ensures
