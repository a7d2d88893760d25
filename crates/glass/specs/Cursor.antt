-- Where the terminal's cursor stands: "with the cursor where the settings say".
use Rattle.std.specs.Prelude.{ℕ, cond, eqb}
use Rattle.model.specs.declared.Settings.{Settings}
use Rattle.model.specs.Rules.{shown_at}
use Rattle.model.specs.Screens.{place_of}
use Rattle.model.specs.Sound.{sound?}

-- the place where the picture shows the cell under the cursor of the selected screen, or 640 for none: the cursor is off, or its line is not
-- in the window. Settings that are not sound have none
unfoldable pub cursor_at : Settings → ℕ
cursor_at s = let p = place_of s s.selected in cond (sound? s) (cond (eqb s.cursor 0) 640 (shown_at s p.line p.column)) 640
