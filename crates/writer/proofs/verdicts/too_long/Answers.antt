-- `writer::verdicts::too_long` meets its contract: 3, or 10.
use mathlib.Core.Path.{◌∙◌, ap, sym}
use mathlib.Core.Bool.{Bool, cond}
use Rattle.writer.proofs.verdicts.too_long.Goals as goal

pub returns-then-sound : goal.returns-then-sound
returns-then-sound c =
    ap (λ (t : Bool). record { place = c.args.place; number = cond t 10 3; parameter = 0 }) (sym (sym c.sound.ensures ∙ c.if-sound.true))

pub returns-else-sound : goal.returns-else-sound
returns-else-sound c =
    ap (λ (t : Bool). record { place = c.args.place; number = cond t 10 3; parameter = 0 }) (sym (sym c.sound.ensures ∙ c.if-sound.false))
