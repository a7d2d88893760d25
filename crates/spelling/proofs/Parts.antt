-- The parts of the encoder's table: what is below none of a part lies behind it.
use mathlib.Core.Path.{◌≡◌, subst}
use Prim.Native.Nat.{ℕ, ◌≤◌}
use mathlib.Core.Bool.{Bool, ◌&&◌, false}
use lib.Dec.{leb, ltb}
use borrow.Author.Tests.{le-leb, ltb-false}

-- one of the part that begins at n and ends before m
abbrev pub between : ℕ → ℕ → ℕ → Bool
between n m c = leb n c && ltb c m

pub above : {n m : ℕ} (c : ℕ) → n ≤ c → between n m c ≡ false → m ≤ c
above {n} {m} c l e = ltb-false c m (subst (λ (b : Bool). (b && ltb c m) ≡ false) (le-leb n c l) e)
