-- `on_screen` meets its contract: each of the sequences that it names is one, and no other.
use mathlib.Core.Logic.{inl, inr}
use mathlib.Core.Path.{sym}
use Rattle.model.specs.Checks.{member}
use Rattle.model.specs.OnScreen.{on_screen?}
use Rattle.screen.proofs.Sequences.{off_screen}
use borrow.Enum.Refused.{opened}
use Rattle.screen.proofs.on_screen.Goals as goal

pub returns-in-PrintCode : goal.returns-in-PrintCode
unfolding member on_screen?
returns-in-PrintCode c =
    elim c.in-PrintCode.is [ inl e ↦ rw e.1 | inr h1 ↦ elim h1 [ inl e ↦ rw e | inr h2 ↦ elim h2 [ inl e ↦ rw e.2 | inr h3 ↦ elim h3 [ inl e ↦ rw e | inr h4 ↦ elim h4 [ inl e ↦ rw e | inr h5 ↦ elim h5 [ inl e ↦ rw e.2 | inr h6 ↦ elim h6 [ inl e ↦ rw e.2 | inr h7 ↦ elim h7 [ inl e ↦ rw e | inr h8 ↦ elim h8 [ inl e ↦ rw e | inr h9 ↦ elim h9 [ inl e ↦ rw e | inr h10 ↦ elim h10 [ inl e ↦ rw e | inr h11 ↦ rw h11 ] ] ] ] ] ] ] ] ] ] ]

pub returns-in_default : goal.returns-in_default
unfolding member on_screen?
returns-in_default c =
    sym (off_screen c.args.q (opened c.in_default.in_default-own.keys2))
