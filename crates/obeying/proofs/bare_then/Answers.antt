-- `bare_then` meets its contract: 210 marks the layer, the arms behind it empty it, 209's where it is not idle, and the last leaves it.
use mathlib.Core.Logic.{inl, inr}
use mathlib.Core.Path.{refl}
use Rattle.model.specs.Checks.{member}
use Rattle.obeying.proofs.Layers.{bare_awake, bare_rest, bare_select}
use borrow.Enum.Refused.{opened}
use Rattle.obeying.proofs.bare_then.Goals as goal

pub returns-in-Cover : goal.returns-in-Cover
unfolding member
returns-in-Cover c =
    rw c.in-Cover.is (bare_awake _ _ _ 210 refl refl)

pub returns-in-Clear : goal.returns-in-Clear
unfolding member
returns-in-Clear c =
    elim c.in-Clear.is [ inl e ↦ rw e (bare_awake _ _ _ 42 refl refl) | inr h1 ↦ elim h1 [ inl e ↦ rw e (bare_awake _ _ _ 84 refl refl) | inr h2 ↦ elim h2 [ inl e ↦ rw e (bare_awake _ _ _ 89 refl refl) | inr h3 ↦ elim h3 [ inl e ↦ rw e.2 (bare_awake _ _ _ 144 refl refl) | inr h4 ↦ elim h4 [ inl e ↦ rw e.2 (bare_awake _ _ _ 145 refl refl) | inr h5 ↦ elim h5 [ inl e ↦ rw e.2 (bare_awake _ _ _ 208 refl refl) | inr h6 ↦ elim h6 [ inl e ↦ rw e.1 (bare_awake _ _ _ 208 refl refl) | inr h7 ↦ elim h7 [ inl e ↦ rw e.3 (bare_awake _ _ _ 208 refl refl) | inr h8 ↦ rw h8 (bare_awake _ _ _ 208 refl refl) ] ] ] ] ] ] ] ]

pub returns-in-Select : goal.returns-in-Select
unfolding member
returns-in-Select c =
    rw c.in-Select.is (bare_select _ _)

pub returns-in_default : goal.returns-in_default
unfolding member
returns-in_default c =
    bare_rest c.args.mode c.args.q c.args.bare (opened c.in_default.in_default-own.keys4)
