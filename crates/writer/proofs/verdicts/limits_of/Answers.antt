-- `writer::verdicts::limits_of` meets its contract: by the selected screen.
use mathlib.Core.Path.{refl}
use Rattle.writer.proofs.Laws.{limits_first, limits_second}
use Rattle.writer.proofs.verdicts.limits_of.Goals as goal

pub returns-then-settings-eq0 : goal.returns-then-settings-eq0
returns-then-settings-eq0 c =
    limits_first _ _ (c.height_of-height.ensures _ refl refl) c.if-settings-eq0.true

pub returns-else-settings-eq0 : goal.returns-else-settings-eq0
returns-else-settings-eq0 c =
    limits_second _ _ (c.height_of-height.ensures _ refl refl) c.if-settings-eq0.false
