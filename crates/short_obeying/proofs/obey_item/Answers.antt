-- `obey_item` meets its contract: each arm by what its function does (Arms).
use mathlib.Core.Path.{◌≡◌, refl, subst, sym}
use mathlib.Core.Bool.{false}
use Prim.Native.Nat.{ℕ}
use native.Mathlib.Omega.{arith}
use mathlib.Core.List.{List, [], ◌∷◌}
use lib.Dec.{eqb}
use borrow.Enum.Refused.{opened}
use Rattle.model.specs.declared.Item.{Item}
use Rattle.model.proofs.Cases.{none_passes}
use Rattle.ground.specs.Frame.{limits_in}
use Rattle.obeying.specs.Obeying.{Offered}
use Rattle.short_obeying.specs.Watches.{printing?}
use Rattle.short_obeying.proofs.Arms.{code_arm, other_arm, other_code, other_item, run_arm}
use Rattle.short_obeying.proofs.obey_item.Goals as goal
use Rattle.short_obeying.proofs.obey_item.Goals.{in-Sequence+in_default-q, in_default-item}

-- the positions of the sequences behind ESC 37
abbrev others : List ℕ
others = 1 ∷ 2 ∷ 3 ∷ 4 ∷ 5 ∷ 6 ∷ 7 ∷ 8 ∷ 9 ∷ 10 ∷ 11 ∷ 12 ∷ 13 ∷ 14 ∷ 15 ∷ 16 ∷ 17 ∷ 18 ∷ 19 ∷ 20 ∷ 21 ∷ 22 ∷ 23 ∷ 24 ∷ 25 ∷ 26 ∷ 27 ∷ 28 ∷ 29 ∷ 30 ∷ 31 ∷ 32 ∷ 33 ∷ 34 ∷ 35 ∷ 36 ∷ 37 ∷ 38 ∷ 39 ∷ 40 ∷ 41 ∷ 42 ∷ 43 ∷ 44 ∷ 45 ∷ 46 ∷ []

pub print_run-requires : goal.print_run-requires
print_run-requires c =
    record { ready = c.requires.ready; shown_len = c.requires.shown_len; at_value = c.requires.offered.prints (rw c.in-Printed.is) }

pub returns-in-Printed : goal.returns-in-Printed
returns-in-Printed c =
    rw c.in-Printed.is (run_arm _ c.print_run.ensures)

pub print_code-one-requires : goal.print_code-one-requires
print_code-one-requires c = record { ready = c.requires.ready; shown_len = c.requires.shown_len }

pub overflow_add-result : goal.overflow_add-result
overflow_add-result c = omega (arith, c.requires.offered.inside, c.requires.offered.sendable)

pub returns-in-PrintCode : goal.returns-in-PrintCode
returns-in-PrintCode c =
    rw (c.in-Sequence.is, c.in-PrintCode.is) (code_arm _ c.print_code-one.ensures)

pub obey-requires : goal.obey-requires
obey-requires c =
    let a = c.args in
    let h = c.requires in
    let i = c.match-item-2.item in
    let told : (i ≡ a.item) × (printing? i ≡ false) =
    elim c.match-item-2.branch [
      | in-Sequence+in_default-q w ↦ other_code w.item-is w.in-Sequence.is (none_passes (λ n. eqb n 37) others w.in-Sequence.q refl (opened w.in_default-q.in_default-q-own.keys2))
      | in_default-item w ↦ other_item w.item-is c.in_default.not-Printed w.in_default-item.not-Sequence
    ]
    in record {
      ready = h.ready;
      offered = (subst (λ (i : Item). Offered a.message.now a.at a.size i (limits_in a.frame)) (sym told.0) h.offered, told.1);
    }

pub returns : goal.returns
returns c =
    let i = c.match-item-2.item in
    let told : (i ≡ c.args.item) × (printing? i ≡ false) =
    elim c.match-item-2.branch [
      | in-Sequence+in_default-q w ↦ other_code w.item-is w.in-Sequence.is (none_passes (λ n. eqb n 37) others w.in-Sequence.q refl (opened w.in_default-q.in_default-q-own.keys2))
      | in_default-item w ↦ other_item w.item-is c.in_default.not-Printed w.in_default-item.not-Sequence
    ]
    in other_arm told.0 (subst (λ (i : Item). printing? i ≡ false) told.0 told.1) c.requires.shown_len c.obey.ensures
