-- `print_copy`: a copy is put behind those before it; any other sequence prints nothing.
use mathlib.Core.Path.{◌∙◌, sym}
use Rattle.store.proofs.Laws.{put-none}
use Rattle.applying.proofs.print_copy.Goals as goal

pub copy-requires : goal.copy-requires
copy-requires c =
    (c.requires.sound, rw (sym c.is_copy.ensures ∙ c.if-is_copy.true) at c.requires.q_in_bounds)

pub returns-then-is_copy : goal.returns-then-is_copy
returns-then-is_copy c =
    rw (sym c.is_copy.ensures ∙ c.if-is_copy.true) c.copy.ensures

pub returns-else-is_copy : goal.returns-else-is_copy
returns-else-is_copy c =
    rw (sym c.is_copy.ensures ∙ c.if-is_copy.false) (sym (put-none _ _))
