-- `changes` meets its contract: each arm is a second byte of the list, and the last arm none of them.
use mathlib.Core.Logic.{inl, inr}
use mathlib.Core.Path.{refl, sym}
use Prim.Native.Nat.{ℕ}
use mathlib.Core.List.{List, [], ◌∷◌}
use Rattle.model.specs.Checks.{member}
use Rattle.calls.specs.Repaint.{wide_codes}
use Rattle.model.proofs.Cases.{none_passes}
use borrow.Enum.Refused.{opened}
use Rattle.short_obeying.proofs.changes.Goals as goal

-- the positions of the other cases
abbrev others : List ℕ
others = 0 ∷ 2 ∷ 3 ∷ 4 ∷ 5 ∷ 6 ∷ 13 ∷ 14 ∷ 17 ∷ 18 ∷ 19 ∷ 20 ∷ 21 ∷ 22 ∷ 23 ∷ 24 ∷ 25 ∷ 26 ∷ 36 ∷ 38 ∷ 39 ∷ 40 ∷ 41 ∷ 42 ∷ 43 ∷ 44 ∷ 45 ∷ 46 ∷ []

pub returns-in-Clear : goal.returns-in-Clear
unfolding member
returns-in-Clear c =
    elim c.in-Clear.is [ inl e ↦ rw e | inr h1 ↦ elim h1 [ inl e ↦ rw e | inr h2 ↦ elim h2 [ inl e ↦ rw e | inr h3 ↦ elim h3 [ inl e ↦ rw e | inr h4 ↦ elim h4 [ inl e ↦ rw e | inr h5 ↦ elim h5 [ inl e ↦ rw e.2 | inr h6 ↦ elim h6 [ inl e ↦ rw e.2 | inr h7 ↦ elim h7 [ inl e ↦ rw e | inr h8 ↦ elim h8 [ inl e ↦ rw e | inr h9 ↦ elim h9 [ inl e ↦ rw e.2 | inr h10 ↦ elim h10 [ inl e ↦ rw e.1 | inr h11 ↦ elim h11 [ inl e ↦ rw e.3 | inr h12 ↦ elim h12 [ inl e ↦ rw e | inr h13 ↦ elim h13 [ inl e ↦ rw e.1 | inr h14 ↦ elim h14 [ inl e ↦ rw e.3 | inr h15 ↦ elim h15 [ inl e ↦ rw e.1 | inr h16 ↦ elim h16 [ inl e ↦ rw e | inr h17 ↦ elim h17 [ inl e ↦ rw e | inr h18 ↦ rw h18 ] ] ] ] ] ] ] ] ] ] ] ] ] ] ] ] ] ]

pub returns-in_default : goal.returns-in_default
unfolding member
returns-in_default c =
    sym (none_passes (λ n. member n wide_codes) others c.args.q refl (opened c.in_default.in_default-own.keys2))
