-- Where the cells of a frame lie among the 3,840.
use mathlib.Core.Path.{◌≡◌, refl}
use Prim.Native.Nat.{◌*◌, ◌+◌, ◌-◌, ◌<◌, ◌≤◌, suc, ℕ}
use native.Mathlib.Nat.{add-mul, le_of_lt, mul-le-mul_right, suc-mul}
use native.Mathlib.Omega.{arith}
use Rattle.model.specs.declared.Place.{Place}
use Rattle.model.proofs.Keep.{lines_inside}
use Rattle.ground.specs.declared.Frame.{Frame}
use Rattle.ground.specs.Frame.{Stands}
use Rattle.ground.specs.Here.{cell_in}

-- the product of two bytes
pub product : {a b x y : ℕ} → a ≡ x → b ≡ y → x < 256 → y < 256 → (a * b ≡ x * y) × (a * b < 65536)
product {x = x} {y = y} p q h k = rw (p, q) (refl, omega (arith, mul-le-mul_right y (le_of_lt h)))

-- line l from 1 and those behind it are among n
rest : (w l n : ℕ) → 1 ≤ l → l ≤ n → (l - 1) * w + w + (n - l) * w ≤ n * w
rest w l n p q =
    let e : suc (l - 1) ≡ l = omega arith in
    let d : l + (n - l) ≡ n = omega arith in
    rw (← suc-mul (l - 1) w, e, ← add-mul l (n - l) w, d) (omega arith)

module _ {f : Frame} {p : Place} (h : Stands f p) where
  -- the cursor's cell and all behind it on the screen
  pub cell_room : cell_in f p + ((f.lines - p.line) * f.columns + (f.columns + 1 - p.column)) ≤ 3840
  cell_room = omega (arith, h.among, h.fits, rest f.columns p.line f.lines h.fits.line_low h.fits.line_high)

  -- and through the end of a line below it, or its own
  pub through_room : (n : ℕ) → n ≤ f.lines → cell_in f p + ((n - p.line) * f.columns + (f.columns + 1 - p.column)) ≤ 3840
  through_room n k = let less : n - p.line ≤ f.lines - p.line = omega arith in omega (arith, cell_room, mul-le-mul_right f.columns less)

  -- lines of the screen, at least one
  pub lines_room : (from count : ℕ) → 1 ≤ count → from + count ≤ f.lines → (f.base + from * f.columns + count * f.columns ≤ 3840) × (f.columns ≤ count * f.columns)
  lines_room from count a b = (omega (arith, h.among, lines_inside f.columns from count f.lines b), omega (arith, mul-le-mul_right f.columns a))
