-- `paint_under`: the panes, or in secret mode blanks.
use mathlib.Core.Path.{◌∙◌, ap, sym}
use Prim.Native.Nat.{ℕ}
use native.Mathlib.Omega.{arith}
use lib.ListN.{replicate}
use Rattle.paint.proofs.Tested.{is, is_not}
use Rattle.paint.proofs.paint_under.Goals as goal

pub returns-then-secret-ne1 : goal.returns-then-secret-ne1
returns-then-secret-ne1 c =
    c.paint.ensures ∙ sym (is_not c.args.secret 1 _ _ (omega arith))

pub returns : goal.returns
returns c =
    c.fill.ensures ∙ ap (λ (n : ℕ). replicate n 32) c.told-shown ∙ sym (is c.args.secret 1 _ _ (omega arith))
