-- What stands is the same where its parts are: settings, cells, layer and dots.
use mathlib.Core.Path.{◌≡◌}
use Prim.Native.Nat.{ℕ}
use mathlib.Core.List.{List}
use Rattle.model.specs.declared.Settings.{Settings}
use Rattle.model.specs.State.{state}

pub stands : {s s' : Settings} {cells cells' layer layer' dots dots' : List ℕ} → s ≡ s' → cells ≡ cells' → layer ≡ layer' → dots ≡ dots' → state s cells layer dots ≡ state s' cells' layer' dots'
stands p q r t = λ i. state (p i) (q i) (r i) (t i)
