-- Two copies into zeros, one behind the other.
use borrow.Author.Rules.{rules}
use Rattle.unfinished.proofs.JoinLaws.{joins}
use Rattle.unfinished.proofs.join.Goals as goal

pub returns : goal.returns
returns c =
    let a = c.args in
    joins a.waiting a.piece.now _ _ a.held a.count c.copy_from_slice.ensures.after c.copy_from_slice-2.ensures.after (search rules) c.requires.1.1
