-- `unmark_ends` meets its contract: three lines, one after the other.
use mathlib.Core.Path.{refl}
use borrow.Author.Rules.{rules}
use Rattle.ground.proofs.LogicalLaws.{ends_made}
use Rattle.ground.proofs.logical.unmark_ends.Goals as goal

pub returns : goal.returns
returns c =
    ends_made _ _ _ (search rules) refl c.unmark_at.ensures c.unmark_at-2.ensures c.unmark_at-3.ensures
