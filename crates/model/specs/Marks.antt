-- Document 02, P5: "Settings now mark each line that runs on": the mark of a line, when marks are sound, as a claim (Marked) and as a test
-- (marked?), and what the rules make of a screen's marks. The marks of a screen are one number, bit l − 1 for line l; m l is the mark of line l,
-- from 1: 1 if it runs on, else 0.
use Rattle.std.specs.Prelude.{ℕ, zero, suc, ◌+◌, ◌-◌, ◌*◌, ◌/◌, ◌%◌, ◌^◌, ◌<◌, Bool, cond, ◌&&◌, ◌||◌, get_or, leb, ltb, eqb}
use Rattle.model.specs.declared.Settings.{Settings}

-- the marks of screen k, a number
abbrev pub marks_of : Settings → ℕ → ℕ
marks_of s k = get_or s.marks k 0

-- the mark of line l in such a number
abbrev pub mark_in : ℕ → ℕ → ℕ
mark_in n l = n / 2 ^ (l - 1) % 2

-- the mark of line l of screen k
unfoldable pub mark_of : Settings → ℕ → ℕ → ℕ
mark_of s k l = mark_in (marks_of s k) l

-- "A screen's last line is never marked; sound settings include that": no bit is set from the last line's on, of so many lines
abbrev pub Marked : ℕ → ℕ → Type 0
Marked lines n = n < 2 ^ (lines - 1)

-- the same as a test
unfoldable pub marked? : ℕ → ℕ → Bool
marked? lines n = ltb n (2 ^ (lines - 1))

-- so many marks from line l on, as a number: m l in its lowest bit
unfoldable pub numbered : (ℕ → ℕ) → ℕ → ℕ → ℕ
numbered m l zero = 0
numbered m l (suc n) = m l + 2 * numbered m (suc l) n

-- how many lines in a row run on, from line l, at most n
unfoldable pub running : (ℕ → ℕ) → ℕ → ℕ → ℕ
running m l zero = 0
running m l (suc n) = cond (eqb (m l) 0) 0 (suc (running m (suc l) n))

-- "the first unmarked line at or after" line l of so many lines
unfoldable pub end_of : (ℕ → ℕ) → ℕ → ℕ → ℕ
end_of m lines l = l + running m l (lines - l)

-- "Printing in the last column sets the mark on the line left"
unfoldable pub running_on : ℕ → (ℕ → ℕ) → ℕ → ℕ
running_on line m l = cond (eqb l line) 1 (m l)

-- "clears those marks": none from one line through another
unfoldable pub unmarked_from : ℕ → ℕ → (ℕ → ℕ) → ℕ → ℕ
unmarked_from from to m l = cond (leb from l && leb l to) 0 (m l)

-- "marks move with lines", lines a+1 to a+n up by one, the blank line a+n unmarked; "a lifted screen carries marks along"
unfoldable pub marks_up : ℕ → ℕ → (ℕ → ℕ) → ℕ → ℕ
marks_up a n m l = cond (ltb a l && leb l (a + n)) (cond (ltb l (a + n)) (m (l + 1)) 0) (m l)

-- or down by one, the blank line a+1 unmarked
unfoldable pub marks_down : ℕ → ℕ → (ℕ → ℕ) → ℕ → ℕ
marks_down a n m l = cond (ltb a l && leb l (a + n)) (cond (ltb (a + 1) l) (m (l - 1)) 0) (m l)

-- "the line above the region (if any) and the region's last two lines (or only line) end unmarked": a, a+n−1, a+n (of one line, a+n−1 is a)
unfoldable pub end_unmarked : ℕ → ℕ → (ℕ → ℕ) → ℕ → ℕ
end_unmarked a n m l = cond (eqb l a || eqb l (a + n - 1) || eqb l (a + n)) 0 (m l)
