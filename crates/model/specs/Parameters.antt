-- Document 02, P10, "Say which parameter", of sequences and items: the words in which it is said what the parameter beside a refusal's number is. How it is worked out is first_bad
-- (Checks), judged_ranges, bad_of and allowed (Judging), mode_row_of (Sequences) and counted (Items). The claim is Naming, in the crate `theorems`; what it says of sequences and items is
-- proved here (proofs/ParameterLaws), since the reader and the writer cite it.
use Rattle.std.specs.Prelude.{◌≡◌, ℕ, ◌+◌, ◌-◌, ◌≤◌, ◌<◌, true, false, cond, List, [], ◌∷◌, length, get_or, eqb}
use Rattle.model.specs.declared.Item.{Item}
use Rattle.model.specs.declared.Item.TheVariants.{Printed, Control, Sequence, Refused}
use Rattle.model.specs.Checks.{Check, free, least, most, range, among, both, member, passes}
use Rattle.model.specs.Reading.{Read}
use Rattle.model.specs.Dot.{two_bytes}
use Rattle.model.specs.Kept.{is_refusal}

-- "its first bad parameter": of checks that are counted from n on, number p fails and all before it pass
pub record FirstBad (n : ℕ) (cs : List Check) (p : ℕ) : Type 0 where
  pub low : n ≤ p
  pub high : p < n + length cs
  pub fails : passes (get_or cs (p - n) free) ≡ false
  pub others_pass : (k : ℕ) → n ≤ k → k < p → passes (get_or cs (k - n) free) ≡ true

-- "For all other numbers it is 0": a refusal's number and its parameter
pub record Named (number parameter : ℕ) : Type 0 where
  pub eleven : number ≡ 11 → 1 ≤ parameter
  pub another : (number ≡ 11 → ⊥) → parameter ≡ 0

-- an item that is a refusal
abbrev pub NamedItem : Item → Type 0
NamedItem (Printed c) = Unit {0}
NamedItem (Control c) = Unit {0}
NamedItem (Sequence q) = Unit {0}
NamedItem (Refused n p) = Named n p

-- the value that a check is of, a sum's check that of the later parameter; a free check is of any, here v
abbrev pub value_of : ℕ → Check → ℕ
value_of v free = v
value_of v (least l x) = x
value_of v (most x h) = x
value_of v (range l x h) = x
value_of v (among x xs) = x
value_of v (both c d) = value_of v c

-- the values of checks that are counted from n on, where those that are free are of p n
abbrev pub values_of : (ℕ → ℕ) → ℕ → List Check → List ℕ
values_of p n [] = []
values_of p n (c ∷ cs) = value_of (p n) c ∷ values_of p (n + 1) cs

-- P11, "a two-byte number named by its low byte": the parameters of 198 and 199 that are such low bytes, the high one before each
abbrev pub low_bytes : ℕ → List ℕ
low_bytes code = cond (eqb code 198) (2 ∷ 4 ∷ 6 ∷ 8 ∷ []) (cond (eqb code 199) (4 ∷ []) [])

-- the number that parameter n stands for, where byte n is p n: itself, or with the high byte before it
abbrev pub sent_at : ℕ → (ℕ → ℕ) → ℕ → ℕ
sent_at code p n = cond (member n (low_bytes code)) (two_bytes (p (n - 1)) (p n)) (p n)

-- of items that are read, the first refusal's number, parameter and offset: none before it is a refusal; all 0 if there is none
pub data FirstRefusal : List Read → ℕ → ℕ → ℕ → Type 0 where
  none : FirstRefusal [] 0 0 0
  here : {r : Read} {rs : List Read} {n p : ℕ} → r.item ≡ Refused n p → FirstRefusal (r ∷ rs) n p r.at
  behind : {r : Read} {rs : List Read} {n p o : ℕ} → is_refusal r.item ≡ false → FirstRefusal rs n p o → FirstRefusal (r ∷ rs) n p o
