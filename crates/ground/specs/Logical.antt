-- P5: the marks of the selected screen among those of both, as the functions that are lent them see them.
use Rattle.std.specs.Prelude.{◌≡◌, ℕ, ◌≤◌, ◌<◌, ◌^◌, List, get_or, set}
use Rattle.model.specs.Bytes.{scrolled_down, scrolled_up}
use Rattle.model.specs.Marks.{mark_in, marks_down, marks_up}
use Rattle.ground.specs.declared.Way.{Way}
use Rattle.ground.specs.declared.Way.TheVariants.{Down, Up}

-- from marks to marks': the number of screen k is another, each of whose bits is what the rule makes of the marks; the other screen's stays
pub record Remarks (k : ℕ) (rule : (ℕ → ℕ) → ℕ → ℕ) (marks marks' : List ℕ) : Type 0 where
  pub number : ℕ
  pub stored : marks' ≡ set marks k number
  pub fits : number < 2 ^ 64
  pub lines : (l : ℕ) → 1 ≤ l → l ≤ 64 → mark_in number l ≡ rule (mark_in (get_or marks k 0)) l

-- 144 or a lift, 145: lines a+1 to a+n go up or down by one
abbrev pub carried : Way → ℕ → ℕ → (ℕ → ℕ) → ℕ → ℕ
carried Up a n = marks_up a n
carried Down a n = marks_down a n

-- and their cells, by the width of a line
abbrev pub scrolled : Way → ℕ → List ℕ → List ℕ
scrolled Up w = scrolled_up w
scrolled Down w = scrolled_down w
