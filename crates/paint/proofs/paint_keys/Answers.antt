-- `paint_keys`: nothing in secret mode and under display 1; else the texts, all of them, from row 8 on.
use mathlib.Core.Path.{◌∙◌, ap, sym}
use native.Mathlib.Omega.{arith}
use mathlib.Core.List.{List}
use Prim.Native.Nat.{ℕ}
use lib.Seq.{take_all}
use Rattle.model.specs.Bytes.{put}
use Rattle.paint.proofs.Tested.{is, is_not}
use Rattle.paint.proofs.paint_keys.Goals as goal

pub returns-then-settings-eq1 : goal.returns-then-settings-eq1
returns-then-settings-eq1 c = let s =
    c.args.settings in sym (is s.secret 1 _ _ (omega arith))

pub returns-then-settings-ne0 : goal.returns-then-settings-ne0
returns-then-settings-ne0 c = let s =
    c.args.settings in sym (is_not s.secret 1 _ _ (omega arith) ∙ is_not s.display 0 _ _ (omega arith))

pub returns : goal.returns
returns c =
    let s = c.args.settings in
    c.copy_in.ensures ∙ ap (λ (ys : List ℕ). put 560 ys c.args.shown.now) (take_all 80 s.texts (omega arith))
    ∙ sym (is_not s.secret 1 _ _ (omega arith) ∙ is s.display 0 _ _ (omega arith))
