-- `lay_over`: nothing in secret mode; an empty layer changes nothing, any other is laid.
use mathlib.Core.Path.{◌∙◌, sym}
use Prim.Native.Nat.{ℕ}
use native.Mathlib.Omega.{arith}
use lib.ListN.{get_or}
use borrow.Author.Rules.{rules}
use Rattle.paint.proofs.Laid.{painted_bare}
use Rattle.views.proofs.Painted.{painted_same}
use Rattle.paint.proofs.Tested.{is, is_not}
use Rattle.paint.proofs.lay_over.Goals as goal

pub returns-then-secret-eq1 : goal.returns-then-secret-eq1
returns-then-secret-eq1 c =
    sym (is c.args.secret 1 _ _ (omega arith))

pub returns-then-bare : goal.returns-then-bare
returns-then-bare c =
    let a = c.args in
    painted_same 640 a.shown.now c.told-shown
    ∙ painted_bare 0 640 1280 (λ (p : ℕ). get_or a.shown.now p 0) a.layer.now a.shown.now (c.requires.layer_value (search rules)) (omega arith)
    ∙ sym (is_not a.secret 1 _ _ (omega arith))

pub returns : goal.returns
returns c =
    c.lay.ensures ∙ sym (is_not c.args.secret 1 _ _ (omega arith))
