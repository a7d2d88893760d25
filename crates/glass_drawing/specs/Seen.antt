-- What is seen in an ordinary terminal: how it reads the bytes that it is sent, as far as this program sends them. ECMA-48: a printable byte is a
-- letter that stands where the cursor is and moves it to the right; ESC [ row ; column H (CUP) puts the cursor at a place. Of any other byte
-- nothing is said here, and none is needed.
use Rattle.std.specs.Prelude.{◌≡◌, ℕ, suc, ◌+◌, ◌-◌, ◌*◌, ◌<◌, Bool, ◌&&◌, cond, false, List, [], ◌∷◌, get_or, eqb, leb}
use Rattle.report.specs.Letters.{letter}

-- what the next byte is: a letter or ESC; what follows ESC; a digit of CUP's row, behind those of this number; a digit of its column, behind the
-- row and those of this number; or not known, after a byte of which nothing is said
pub data Reading : Type 0 where
  letters : Reading
  escaped : Reading
  row_of : ℕ → Reading
  column_of : ℕ → ℕ → Reading
  unknown : Reading

-- the terminal: its cursor's row and column, both from 1, and the letter that stands at each. It may have more than 8 rows of 80
pub record Terminal : Type 0 where
  pub reading : Reading
  pub row : ℕ
  pub column : ℕ
  pub stands : ℕ → ℕ → ℕ

-- a number from one to another
unfoldable pub within : ℕ → ℕ → ℕ → Bool
within least most n = leb least n && leb n most

-- nothing moved, and what the next byte is
abbrev pub then : Terminal → Reading → Terminal
then t next = record { reading = next; row = t.row; column = t.column; stands = t.stands }

-- the cursor at a place
abbrev pub placed : Terminal → ℕ → ℕ → Terminal
placed t r c = record { reading = letters; row = r; column = c; stands = t.stands }

-- a letter where the cursor is
abbrev pub written : Terminal → ℕ → Terminal
written t b = record {
  reading = letters;
  row = t.row;
  column = suc t.column;
  stands = λ r c. cond (eqb r t.row && eqb c t.column) b (t.stands r c);
}

-- the number of these digits and one more
abbrev pub digit : ℕ → ℕ → ℕ
digit n b = 10 * n + (b - 48)

-- one byte. Behind column 80 a terminal may begin the next row, stay in its last column, or be wider: so of a letter there nothing is said, nor of
-- a place beyond 8 rows of 80
unfoldable pub reads : Reading → Terminal → ℕ → Terminal
reads letters t b = cond (eqb b 27) (then t escaped) (cond (within 32 126 b && within 1 80 t.column) (written t b) (then t unknown))
reads escaped t b = cond (eqb b 91) (then t (row_of 0)) (then t unknown)
reads (row_of n) t b = cond (within 48 57 b) (then t (row_of (digit n b))) (cond (eqb b 59) (then t (column_of n 0)) (then t unknown))
reads (column_of r n) t b = cond (within 48 57 b) (then t (column_of r (digit n b))) (cond (eqb b 72 && (within 1 8 r && within 1 80 n)) (placed t r n) (then t unknown))
reads unknown t b = t

-- bytes, one after another
unfoldable pub obeyed : Terminal → List ℕ → Terminal
obeyed t [] = t
obeyed t (b ∷ bs) = obeyed (reads t.reading t b) bs

-- a shown screen is seen: the terminal waits for a letter, and at each of the 640 places the letter of its code stands; row r and column c are
-- place 80(r−1)+c−1
pub record Shows (t : Terminal) (shown : List ℕ) : Type 0 where
  pub waits : t.reading ≡ letters
  pub seen : (r c : ℕ) → r < 8 → c < 80 → t.stands (suc r) (suc c) ≡ letter (get_or shown (80 * r + c) 0)

-- the eight rows redrawn: wherever its cursor is, a terminal that shows the old screen shows the new one after these bytes, in all 640 places, and
-- what stands outside them stays
pub record Redraws (old new bytes : List ℕ) : Type 0 where
  pub shows : (t : Terminal) → Shows t old → Shows (obeyed t bytes) new
  pub elsewhere : (t : Terminal) → Shows t old → (r c : ℕ) → (within 1 8 r && within 1 80 c) ≡ false → (obeyed t bytes).stands r c ≡ t.stands r c
