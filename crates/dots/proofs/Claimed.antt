-- The claims, from the laws of dots, places and lines.
use mathlib.Core.Path.{◌≡◌, ap}
use Prim.Native.Nat.{◌<◌, ℕ}
use native.Mathlib.Omega.{arith}
use mathlib.Core.List.{List}
use lib.ListN.{length}
use Rattle.model.specs.declared.Point.{Point}
use Rattle.model.specs.Dot.{OnScreen}
use Rattle.model.proofs.DotLaws.{length-lined, length-with_dot}
use Rattle.dots.specs.Claims.{Drawn, Places, PutDot}
use Rattle.dots.proofs.Places.{line_box, line_end, line_once, line_start, same_point}
use Rattle.dots.proofs.Dots.{dot_here, dot_there}
use Rattle.dots.proofs.Drawing.{lined_off, lined_on}

pub places : (from to : Point) → Places from to
places from to =
    record {
      start = line_start from to;
      end = line_end from to;
      in_box = λ k l. let box = line_box from to k l in record { above = box.0.0; below = box.0.1; left = box.1.0; right = box.1.1 };
      once = λ j k l m e. line_once from to j k l m (ap (λ (p : Point). p.v) e) (ap (λ (p : Point). p.h) e);
    }

pub put_dot : (on : ℕ) (p : Point) (dots : List ℕ) → on < 2 → OnScreen p → length dots ≡ 3840 → PutDot on p dots
put_dot on p dots two a size =
    record {
      done = dot_here on p.v p.h dots two (omega arith);
      others = λ q b ne. dot_there on p.v p.h q.v q.h dots two a.horizontal b.horizontal (omega arith) (λ x y. ne (same_point p q x y));
      size = length-with_dot on p.v p.h dots;
    }

pub drawn_line : (f mask : ℕ) (from to : Point) (dots : List ℕ) → OnScreen from → OnScreen to → length dots ≡ 3840 → Drawn f mask from to dots
drawn_line f mask from to dots a b size =
    record {
      acts = lined_on f mask from to a b dots size;
      others = λ q c miss. lined_off f mask from to a b dots size q.v q.h c.horizontal (λ k l on x y. miss k (omega arith) on (same_point _ q x y));
      size = length-lined f mask from to dots;
    }
