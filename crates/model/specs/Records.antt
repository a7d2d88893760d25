-- Document 02, P6, the record form, which P13's traces share: "records of a two-byte length of the body, a two-byte kind, both
-- little-endian, then the body". Which kinds there are, and how long a body may be, is for each call to say. The two walks over the bytes
-- count how many bytes still belong to the record that has begun, so that each takes the bytes one by one and ends.
use Rattle.std.specs.Prelude.{ℕ, zero, suc, ◌+◌, ◌*◌, Bool, true, ◌&&◌, List, [], ◌∷◌, take, drop, eqb}

-- "little-endian": the number that some bytes are
unfoldable pub number_in : List ℕ → ℕ
number_in [] = 0
number_in (b ∷ bs) = b + 256 * number_in bs

-- "a two-byte length of the body", at the start of a record
unfoldable pub length_in : List ℕ → ℕ
length_in bs = number_in (take 2 bs)

-- "a two-byte kind"
unfoldable pub kind_in : List ℕ → ℕ
kind_in bs = number_in (take 2 (drop 2 bs))

-- "then the body"
unfoldable pub body_in : List ℕ → List ℕ
body_in bs = take (length_in bs) (drop 4 bs)

-- a record: its kind and its body
pub record Record : Type 0 where
  pub kind : ℕ
  pub body : List ℕ

-- the record at the start of some bytes
unfoldable pub record_in : List ℕ → Record
record_in bs = record { kind = kind_in bs; body = body_in bs }

-- the records of some bytes, of which the first n belong to a record that has begun before
unfoldable pub records_after : ℕ → List ℕ → List Record
records_after n [] = []
records_after zero (b ∷ bs) = record_in (b ∷ bs) ∷ records_after (length_in (b ∷ bs) + 3) bs
records_after (suc n) (b ∷ bs) = records_after n bs

-- the records of some bytes
abbrev pub records_of : List ℕ → List Record
records_of bs = records_after 0 bs

-- how many bytes the last record lacks, of bytes of which the first n belong to a record that has begun before
unfoldable pub lacking : ℕ → List ℕ → ℕ
lacking n [] = n
lacking zero (b ∷ bs) = lacking (length_in (b ∷ bs) + 3) bs
lacking (suc n) (b ∷ bs) = lacking n bs

-- 20: "cut record", whose head or body the bytes end in; here, that there is none
unfoldable pub uncut? : List ℕ → Bool
uncut? bs = eqb (lacking 0 bs) 0

-- a test of every record
unfoldable pub all? : (Record → Bool) → List Record → Bool
all? p [] = true
all? p (r ∷ rs) = p r && all? p rs
