-- What the call of a short message promises (document 02, P12), and which messages stay in the cursor's line.
use Rattle.std.specs.Prelude.{◌≡◌, ℕ, ◌+◌, ◌≤◌, ◌<◌, false, true, List, length}
use Rattle.model.specs.declared.Answer.{Answer}
use Rattle.model.specs.declared.Place.{Place}
use Rattle.calls.specs.Calls.{Promised, Terminal, short_called}
use Rattle.calls.specs.Claims.{Quick}
use Rattle.ground.specs.declared.Frame.{Frame}
use Rattle.ground.specs.Acts.{Reads}
use Rattle.ground.specs.Here.{lost}
use Rattle.runs.specs.Run.{prints?}

-- what the call promises: what every call does, and of its places what the paper asks (Claims `Quick`)
abbrev pub ShortPromised : List ℕ → Terminal → List ℕ → Answer → Terminal → List ℕ → Type 0
ShortPromised m given buffer answer left printer = let c = short_called m given buffer answer left printer in (Promised c) × (answer.number ≡ 0 → Quick c m)

-- a message is printed bytes that stay in the cursor's line short of its last column, at least one, under a window that shows it
pub record InLine (m : List ℕ) (f : Frame) (p : Place) : Type 0 where
  pub some : 1 ≤ length m
  pub room : p.column + length m ≤ f.columns
  pub seen : Reads lost f p false
  pub print : (j : ℕ) → j < length m → prints? m j ≡ true
