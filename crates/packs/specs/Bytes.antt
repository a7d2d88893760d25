-- Document 02, P6, for the code: what the bytes of a pack alone are refused by, in the order of the numbers.
use Rattle.std.specs.Prelude.{ℕ, List, [], ◌∷◌}
use Rattle.model.specs.Records.{uncut?}
use Rattle.calls.specs.Calls.{Reason, known_in, packable, reason, sendable_in}

-- "19 too long, 20 cut record, 21 unknown kind, then 2"
abbrev pub of_bytes : List ℕ → List Reason
of_bytes p = reason 19 (packable p) ∷ reason 20 (uncut? p) ∷ reason 21 (known_in p) ∷ reason 2 (sendable_in p) ∷ []
