-- The arrays of the settings are as long as their types say.
use mathlib.Core.Path.{◌≡◌}
use native.Mathlib.Omega.{arith}
use mathlib.Core.Bool.{true}
use lib.ListN.{length}
use Rattle.model.specs.declared.Settings.{Settings}
use Rattle.model.specs.Checks.{in_ranges?}
use Rattle.model.specs.Sound.{array_ranges}
use Rattle.model.proofs.Tests.{true-ranges}

pub arrays : (s : Settings) → length s.places ≡ 2 → length s.keys.leds ≡ 3 → length s.keys.arrows ≡ 12 → length s.patterns ≡ 248 → length s.waiting ≡ 12 → length s.texts ≡ 80 → length s.marks ≡ 2 → in_ranges? (array_ranges s) ≡ true
unfolding array_ranges
arrays s a b c d e f g = true-ranges (array_ranges s) (omega arith)
