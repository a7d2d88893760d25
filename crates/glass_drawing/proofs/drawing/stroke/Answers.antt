-- `stroke` meets its contract: by whether the letter changed, and whether the terminal's cursor is behind the place before.
use mathlib.Core.Path.{◌∙◌, sym}
use Rattle.glass_drawing.proofs.Strokes.{struck_both, struck_letter, struck_none}
use Rattle.glass_drawing.proofs.drawing.stroke.Goals as goal

pub returns-then-not-changed : goal.returns-then-not-changed
returns-then-not-changed c =
    struck_none _ _ _ _ (sym c.changed.ensures ∙ c.if-not-changed.true)

pub returns-then-not-apart : goal.returns-then-not-apart
returns-then-not-apart c =
    struck_letter _ _ _ _ (sym c.changed.ensures ∙ c.if-not-changed.false) (sym c.apart.ensures ∙ c.if-not-apart.true) c.letter_of-letter.ensures c.push.ensures

pub returns : goal.returns
returns c =
    struck_both _ _ _ _ (sym c.changed.ensures ∙ c.if-not-changed.false) (sym c.apart.ensures ∙ c.if-not-apart.false) c.letter_of-letter.ensures c.address.ensures c.extend.ensures
    c.push-2.ensures
