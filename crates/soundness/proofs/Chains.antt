-- Comparisons joined from the left, as code joins them, are the test of a list of ranges, which joins pairs from the right.
use mathlib.Core.Path.{◌∙◌, ◌≡◌, ap, refl, sym}
use Prim.Native.Nat.{ℕ, ◌+◌, ◌-◌}
use native.Mathlib.Omega.{arith}
use mathlib.Core.Bool.{Bool, true, false, ◌&&◌, and_assoc, and-false, and-true}
use mathlib.Core.List.{[], ◌∷◌}
use lib.ListN.{get_or}
use lib.Dec.{leb, ltb}
use borrow.Author.Tests.{le-leb, lt-leb, ltb-false, ltb-true, ne_eqb}
use Rattle.model.specs.declared.Keys.{Keys}
use Rattle.model.specs.declared.Place.{Place}
use Rattle.model.specs.declared.Settings.{Settings}
use Rattle.model.specs.Checks.{in_ranges?, member, passes, range}
use Rattle.model.specs.Screens.{columns_of, height, lines_of, place_of, screens}
use Rattle.model.specs.State.{nowhere}
use Rattle.model.proofs.Keep.{height_low}
use Rattle.model.specs.Line.{line?}
use Rattle.model.specs.Sound.{alone_ranges, array_ranges, charsets, inside?, inside_ranges, key_ranges, marks?, most_late, other_ranges, plain_ranges, second?, shape_ranges, shifts, sound?}

pub four : (a b c d e f g h : Bool) → (a && b && c && d && e && f && g && h) ≡ ((a && b) && ((c && d) && ((e && f) && ((g && h) && true))))
four a b c d e f g h = simp (and_assoc, and-true)

five : (a b c d e f g h i j : Bool) → (a && b && c && d && e && f && g && h && i && j) ≡ ((a && b) && ((c && d) && ((e && f) && ((g && h) && ((i && j) && true)))))
five a b c d e f g h i j = simp (and_assoc, and-true)

six : (a b c d e f g h i j k l : Bool) → (a && b && c && d && e && f && g && h && i && j && k && l) ≡ ((a && b) && ((c && d) && ((e && f) && ((g && h) && ((i && j) && ((k && l) && true))))))
six a b c d e f g h i j k l = simp (and_assoc, and-true)

-- four ranges, a test, four ranges, a test
pub keys : (a b c d e f g h s i j k l m n o p t : Bool)
    → (a && b && c && d && e && f && g && h && s && i && j && k && l && m && n && o && p && t)
    ≡ ((a && b) && ((c && d) && ((e && f) && ((g && h) && (s && ((i && j) && ((k && l) && ((m && n) && ((o && p) && (t && true))))))))))
keys a b c d e f g h s i j k l m n o p t = simp (and_assoc, and-true)

-- five ranges, and what is behind them
plain : (a b c d e f g h i j k : Bool) → (a && b && c && d && e && f && g && h && i && j && k) ≡ ((a && b) && ((c && d) && ((e && f) && ((g && h) && ((i && j) && k)))))
plain a b c d e f g h i j k = simp and_assoc

-- the parts of the whole test, in the order in which they are asked and in that of the rules
turn : (x y u v k l n : Bool) → (x && (((y && (u && v)) && k && n) && l)) ≡ (true && (x && (y && (k && (u && (v && (l && n)))))))
turn false y u v k l n = refl
turn true false u v k l n = refl
turn true true false v k l n = sym (and-false k)
turn true true true false k l n = sym (and-false k)
turn true true true true false l n = refl
turn true true true true true false n = and-false n
turn true true true true true true n = and-true n

-- the same of the lists of ranges, over their numbers
module _ (l1 l2 c1 c2 : ℕ) where
  pub mode_0 : (left : ℕ) → (leb 80 c1 && leb c1 80 && leb 80 c2 && leb c2 80 && leb 8 l1 && leb l1 48 && leb 8 l2 && leb l2 left) ≡ in_ranges? (range 80 c1 80 ∷ range 80 c2 80 ∷ range 8 l1 48 ∷ range 8 l2 left ∷ [])
  unfolding in_ranges? passes
  mode_0 left = four (leb 80 c1) (leb c1 80) (leb 80 c2) (leb c2 80) (leb 8 l1) (leb l1 48) (leb 8 l2) (leb l2 left)

  pub mode_1 : (leb 39 c1 && leb c1 39 && leb 39 c2 && leb c2 39 && leb 16 l1 && leb l1 48 && leb l1 l2 && leb l2 l1) ≡ in_ranges? (range 39 c1 39 ∷ range 39 c2 39 ∷ range 16 l1 48 ∷ range l1 l2 l1 ∷ [])
  unfolding in_ranges? passes
  mode_1 = four (leb 39 c1) (leb c1 39) (leb 39 c2) (leb c2 39) (leb 16 l1) (leb l1 48) (leb l1 l2) (leb l2 l1)

  pub mode_2 : (beside : ℕ) → (leb 1 c1 && leb c1 78 && leb beside c2 && leb c2 beside && leb 8 l1 && leb l1 48 && leb l1 l2 && leb l2 l1)
      ≡ in_ranges? (range 1 c1 78 ∷ range beside c2 beside ∷ range 8 l1 48 ∷ range l1 l2 l1 ∷ [])
  unfolding in_ranges? passes
  mode_2 beside = four (leb 1 c1) (leb c1 78) (leb beside c2) (leb c2 beside) (leb 8 l1) (leb l1 48) (leb l1 l2) (leb l2 l1)

  pub mode_3 : (m : ℕ) → (leb 3 m && leb m 3 && leb 80 c1 && leb c1 80 && leb 0 c2 && leb c2 0 && leb 8 l1 && leb l1 8 && leb 0 l2 && leb l2 0)
      ≡ in_ranges? (range 3 m 3 ∷ range 80 c1 80 ∷ range 0 c2 0 ∷ range 8 l1 8 ∷ range 0 l2 0 ∷ [])
  unfolding in_ranges? passes
  mode_3 m = five (leb 3 m) (leb m 3) (leb 80 c1) (leb c1 80) (leb 0 c2) (leb c2 0) (leb 8 l1) (leb l1 8) (leb 0 l2) (leb l2 0)

pub window : (rule lines columns less : ℕ) (p : Place)
    → (leb 1 p.line && leb p.line lines && leb 1 p.column && leb p.column columns && leb 1 p.top && leb p.top (lines - less) && leb 0 p.late && leb p.late (most_late rule columns p.column))
    ≡ in_ranges? (inside_ranges rule lines columns (less + 1) p)
unfolding in_ranges? passes inside_ranges
window rule lines columns less p =
    let e : lines + 1 - (less + 1) ≡ lines - less = omega arith in
    rw e (four (leb 1 p.line) (leb p.line lines) (leb 1 p.column) (leb p.column columns) (leb 1 p.top) (leb p.top (lines - less)) (leb 0 p.late) (leb p.late (most_late rule columns p.column)))

pub alone_of : (kind display : ℕ) (p : Place)
    → (leb 3 kind && leb kind 3 && leb 1 display && leb display 1 && leb 1 p.line && leb p.line 1 && leb 1 p.column && leb p.column 1 && leb 1 p.top && leb p.top 1 && leb 0 p.late && leb p.late 0)
    ≡ in_ranges? (alone_ranges 3 kind display p)
unfolding in_ranges? passes alone_ranges
alone_of kind display p =
    six (leb 3 kind) (leb kind 3) (leb 1 display) (leb display 1) (leb 1 p.line) (leb p.line 1) (leb 1 p.column) (leb p.column 1) (leb 1 p.top) (leb p.top 1) (leb 0 p.late) (leb p.late 0)

-- "screen 1 selected", said of the number of screens
below : (x n : ℕ) → ltb x n ≡ leb (x + 1) n
below x n = go (ltb x n) refl
  where
    go : (b : Bool) → ltb x n ≡ b → b ≡ leb (x + 1) n
    go true e = sym (le-leb (x + 1) n (omega (arith, ltb-true x n e)))
    go false e = sym (lt-leb (x + 1) n (omega (arith, ltb-false x n e)))

pub chosen_of : (screens selected step height : ℕ) → (ltb selected screens && leb 1 step && leb step height) ≡ in_ranges? (other_ranges screens selected step height)
unfolding in_ranges? passes other_ranges
chosen_of screens selected step height = rw (le-leb 1 (selected + 1) (omega arith), ← below selected screens) (simp (and_assoc, and-true))

pub stored : (kind : ℕ) (k : Keys) (s t : Bool) → s ≡ member k.charset charsets → t ≡ member k.shift shifts
    → (leb 0 kind && leb kind 3 && leb 0 (get_or k.leds 0 0) && leb (get_or k.leds 0 0) 1 && leb 0 (get_or k.leds 1 0) && leb (get_or k.leds 1 0) 1 && leb 0 (get_or k.leds 2 0) && leb (get_or k.leds 2 0) 1 && s
    && leb 0 k.strings && leb k.strings 1 && leb 0 k.repeat && leb k.repeat 1 && leb 1 k.delay && leb k.delay 127 && leb 1 k.interval && leb k.interval 127 && t)
    ≡ in_ranges? (key_ranges kind k)
unfolding in_ranges? passes key_ranges
stored kind k s t e f =
    rw (← e, ← f) (keys (leb 0 kind) (leb kind 3) (leb 0 (get_or k.leds 0 0)) (leb (get_or k.leds 0 0) 1) (leb 0 (get_or k.leds 1 0)) (leb (get_or k.leds 1 0) 1) (leb 0 (get_or k.leds 2 0)) (leb (get_or k.leds 2 0) 1) s
    (leb 0 k.strings) (leb k.strings 1) (leb 0 k.repeat) (leb k.repeat 1) (leb 1 k.delay) (leb k.delay 127) (leb 1 k.interval) (leb k.interval 127) t)

pub plain_of : (s : Settings) (k : Bool) → k ≡ in_ranges? (key_ranges s.kind s.keys)
    → (leb 0 s.tracking && leb s.tracking 1 && leb 0 s.secret && leb s.secret 1 && leb 0 s.cursor && leb s.cursor 1 && leb 0 s.display && leb s.display 1 && leb 1 s.rule && leb s.rule 2 && k) ≡ in_ranges? (plain_ranges s)
unfolding plain_ranges in_ranges? passes
plain_of s k e =
    rw (← e) (plain (leb 0 s.tracking) (leb s.tracking 1) (leb 0 s.secret) (leb s.secret 1) (leb 0 s.cursor) (leb s.cursor 1) (leb 0 s.display) (leb s.display 1) (leb 1 s.rule) (leb s.rule 2) k)

-- the whole test by its parts
module _ (s : Settings) where
  abbrev shaped : Bool
  shaped = in_ranges? (shape_ranges s.mode s.lines1 s.lines2 s.columns1 s.columns2)

  abbrev placed : Bool
  placed = in_ranges? (other_ranges (screens s) s.selected s.step (height s)) && (inside? s 0 && second? s)

  -- not of its shape, whatever else
  pub sound_shape : shaped ≡ false → sound? s ≡ false
  unfolding sound?
  sound_shape e = rw e (and-false (in_ranges? (array_ranges s)))

  abbrev marked : Bool
  marked = marks? s 0 && marks? s 1

  -- settings whose arrays are of their types: shape, places, what is only stored and the marks, the line
  pub sound_of : (x q l : Bool) → in_ranges? (array_ranges s) ≡ true → x ≡ shaped → q ≡ (placed && in_ranges? (plain_ranges s) && marked) → l ≡ line? s.waiting s.held s.count → (x && (q && l)) ≡ sound? s
  unfolding sound?
  sound_of x q l z e f g =
      rw (z, e, f, g)
      (turn shaped (in_ranges? (other_ranges (screens s) s.selected s.step (height s))) (inside? s 0) (second? s) (in_ranges? (plain_ranges s)) (line? s.waiting s.held s.count) marked)

  -- the places, what is stored or the marks fail; all pass, and the line decides
  pub sound_places : in_ranges? (array_ranges s) ≡ true → (placed && in_ranges? (plain_ranges s) && marked) ≡ false → sound? s ≡ false
  sound_places z f = sym (sound_of _ false _ z refl (sym f) refl) ∙ and-false shaped

  pub sound_line : in_ranges? (array_ranges s) ≡ true → shaped ≡ true → (placed && in_ranges? (plain_ranges s) && marked) ≡ true → sound? s ≡ line? s.waiting s.held s.count
  sound_line z e f = sym (sound_of true true _ z (sym e) (sym f) refl)

-- of settings whose H is known: H less one is what the code has
module _ (s : Settings) (h : ℕ) (e : h ≡ height s) where
  pub tall : h - 1 + 1 ≡ height s
  tall = omega (arith, height_low s)

  pub step_of : {n : ℕ} → n ≡ screens s → in_ranges? (other_ranges n s.selected s.step h) ≡ in_ranges? (other_ranges (screens s) s.selected s.step (height s))
  step_of f = λ i. in_ranges? (other_ranges (f i) s.selected s.step (e i))

  pub first_of_lem : in_ranges? (inside_ranges s.rule s.lines1 s.columns1 (h - 1 + 1) (get_or s.places 0 nowhere)) ≡ inside? s 0
  unfolding inside? lines_of columns_of place_of
  first_of_lem = ap (λ (n : ℕ). in_ranges? (inside_ranges s.rule s.lines1 s.columns1 n (get_or s.places 0 nowhere))) tall

-- screen 2, by the mode
module _ (s : Settings) where
  pub second_alone : s.mode ≡ 3 → in_ranges? (alone_ranges 3 s.kind s.display (get_or s.places 1 nowhere)) ≡ second? s
  unfolding second? place_of
  second_alone m = rw m refl

  pub second_of : (n : ℕ) → n ≡ height s → (s.mode ≡ 3 → ⊥) → in_ranges? (inside_ranges s.rule s.lines2 s.columns2 n (get_or s.places 1 nowhere)) ≡ second? s
  unfolding second? inside? lines_of columns_of place_of
  second_of n e d = rw (ne_eqb s.mode 3 d) (ap (λ (n : ℕ). in_ranges? (inside_ranges s.rule s.lines2 s.columns2 n (get_or s.places 1 nowhere))) e)
