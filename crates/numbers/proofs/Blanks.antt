-- An answer by default has no number and counts nothing: the answer of a call that is served and has read no message.
use mathlib.Core.Path.{◌≡◌}
use Prim.Native.Nat.{ℕ}
use Rattle.model.specs.declared.Answer.{Answer}
use Rattle.model.specs.Items.{blank_answer}

pub blank : (a : Answer) → (◌≡◌ {A = ℕ} a.number 0) × ((◌≡◌ {A = ℕ} a.taken 0) × ((◌≡◌ {A = ℕ} a.accepted 0) × ((◌≡◌ {A = ℕ} a.refused 0) × ((◌≡◌ {A = ℕ} a.first 0) × ((◌≡◌ {A = ℕ} a.parameter 0) × ((◌≡◌ {A = ℕ} a.offset 0) × (◌≡◌ {A = ℕ} a.printed 0))))))) → a ≡ blank_answer 0 0
blank a e = λ i. record { number = e.0 i; taken = e.1.0 i; accepted = e.1.1.0 i; refused = e.1.1.1.0 i; first = e.1.1.1.1.0 i; parameter = e.1.1.1.1.1.0 i; offset = e.1.1.1.1.1.1.0 i; printed = e.1.1.1.1.1.1.1 i }
