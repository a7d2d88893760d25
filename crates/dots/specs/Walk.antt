-- What the parts of the code ask and hand over on the way along a line. The paper says none of this, and no claim rests on it.
use Rattle.std.specs.Prelude.{◌≡◌, ℕ, ◌+◌, ◌-◌, ◌*◌, ◌≤◌, ◌<◌, Bool, cond, leb}
use Rattle.model.specs.declared.Point.{Point}
use Rattle.model.specs.Strokes.{flat, longer, offset_at, placed, shorter}

-- x, further by `by` in the direction from a to b
abbrev pub shifted : ℕ → ℕ → ℕ → ℕ → ℕ
shifted a b x by = cond (leb a b) (x + by) (x - by)

-- a line as the code takes it apart
pub record Measured (from to : Point) (f : Bool) (N d : ℕ) : Type 0 where
  pub axis : f ≡ flat from to
  pub long : N ≡ longer from to
  pub short : d ≡ shorter from to

-- the remainder of 2kd + N by 2N; with N = 0 there is no dot after the first
pub record Remains (N d k rest : ℕ) : Type 0 where
  pub exact : 2 * k * d + N ≡ 2 * N * offset_at N d k + rest
  pub room : rest ≤ 2 * N
  pub below : 0 < N → rest < 2 * N

-- what is carried at dot k
pub record Carried (from to : Point) (f : Bool) (N d k row h rest : ℕ) : Type 0 where
  pub row_is : row ≡ 60 * (placed f from to k (offset_at N d k)).v
  pub column_is : h ≡ (placed f from to k (offset_at N d k)).h
  pub rest_is : Remains N d k rest
  pub order : d ≤ N
  pub few : N < 480
