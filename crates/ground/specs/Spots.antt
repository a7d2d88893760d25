-- What a run of bytes does to the cursor's place and to the layer, by name.
use Rattle.std.specs.Prelude.{ℕ, zero, suc, ◌+◌, List}
use Rattle.model.specs.declared.Place.{Place}
use Rattle.model.specs.Rules.{empty_at}

-- the cursor so many columns further, and all else as it was
abbrev pub further_by : ℕ → Place → Place
further_by n p = record { line = p.line; column = p.column + n; top = p.top; late = p.late }

-- "emptying writes 0 in both": so many places in a row
unfoldable pub empty_from : ℕ → ℕ → List ℕ → List ℕ
empty_from p zero l = l
empty_from p (suc n) l = empty_from (suc p) n (empty_at p l)
