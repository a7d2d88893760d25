-- Dots and lines by hand, computed.
use mathlib.Core.Path.{◌≡◌, refl}
use Prim.Native.Nat.{ℕ, ◌*◌, ◌+◌}
use mathlib.Core.List.{List, [], ◌∷◌, ◌++◌}
use lib.ListN.{get_or, replicate}
use Rattle.model.specs.declared.Point.{Point}
use Rattle.model.specs.Dot.{acted, byte_of, dot_at, weight, with_dot}
use Rattle.model.specs.Strokes.{drawn, flat, line_dot, lined, longer, mask_bit, offset_at, placed, shorter, stepped}

abbrev point : ℕ → ℕ → Point
point h v = record { v = v; h = h }

-- the first dot, and the last: bytes 0 and 3839
corners : ◌≡◌ {A = List ℕ} (byte_of 0 0 ∷ weight 0 ∷ byte_of 63 479 ∷ weight 479 ∷ []) (0 ∷ 128 ∷ 3839 ∷ 1 ∷ [])
unfolding weight
corners = refl

-- 198,0,0,0,0,0,2,0,1,255,255,2: a half goes towards the end ..
forth : ◌≡◌ {A = List ℕ} (get_or (lined 2 65535 (point 0 0) (point 2 1) (replicate 61 0)) 0 9 ∷ get_or (lined 2 65535 (point 0 0) (point 2 1) (replicate 61 0)) 60 9 ∷ []) (128 ∷ 96 ∷ [])
unfolding acted dot_at weight with_dot drawn flat line_dot lined longer mask_bit offset_at placed shorter stepped
forth = refl

-- .. so the line back has other dots
back : ◌≡◌ {A = List ℕ} (get_or (lined 2 65535 (point 2 1) (point 0 0) (replicate 61 0)) 0 9 ∷ get_or (lined 2 65535 (point 2 1) (point 0 0) (replicate 61 0)) 60 9 ∷ []) (192 ∷ 32 ∷ [])
unfolding acted dot_at weight with_dot drawn flat line_dot lined longer mask_bit offset_at placed shorter stepped
back = refl

-- one dot, complemented where the mask's first bit is 1, and else as it was: on, off, off
single : ◌≡◌ {A = List ℕ} (lined 3 32768 (point 5 0) (point 5 0) (0 ∷ []) ++ lined 3 32768 (point 5 0) (point 5 0) (4 ∷ []) ++ lined 3 32767 (point 5 0) (point 5 0) (0 ∷ [])) (4 ∷ 0 ∷ 0 ∷ [])
unfolding acted dot_at weight with_dot drawn flat line_dot lined longer mask_bit offset_at placed shorter stepped
single = refl

-- the manual's example, "from point (400,18) of the screen to point (18,18)", mask 170,170
last : line_dot (point 400 18) (point 18 18) 382 ≡ point 18 18
unfolding line_dot placed offset_at flat longer shorter
last = refl

dashes : ◌≡◌ {A = List ℕ} (mask_bit (256 * 170 + 170) 0 ∷ mask_bit (256 * 170 + 170) 1 ∷ mask_bit (256 * 170 + 170) 382 ∷ []) (1 ∷ 0 ∷ 1 ∷ [])
unfolding mask_bit
dashes = refl
