-- A sequence that is not idle is obeyed, and its copy printed; any other item leaves all as it is.
use mathlib.Core.Path.{◌∙◌, ap, sym}
use mathlib.Core.List.{List}
use Prim.Native.Nat.{ℕ}
use Rattle.model.specs.declared.Sequence.{Sequence as Seq}
use Rattle.model.specs.declared.Item.TheVariants.{Sequence}
use Rattle.model.specs.Bytes.{put}
use Rattle.model.specs.State.{state}
use Rattle.store.proofs.Laws.{put-none}
use Rattle.applying.proofs.Acted.{no_sequence}
use Rattle.applying.proofs.Idle.{awake_settled, idle_leaves}
use borrow.Enum.Refused.{opened}
use Rattle.applying.proofs.apply.Goals as goal

pub returns-in_default : goal.returns-in_default
returns-in_default c =
    let a = c.args in
    let none = no_sequence a.message.now a.item (state a.settings a.cells.now a.layer.now a.dots.now) (opened c.in_default.in_default-own.keys2) in
    record { does = sym none.0; prints = sym (ap (λ (ys : List ℕ). put a.from ys a.printer.now) none.1 ∙ put-none a.from a.printer.now) }

-- idle
pub returns-then-idle : goal.returns-then-idle
returns-then-idle c =
    let a = c.args in
    let none = idle_leaves a.message.now _ (state a.settings a.cells.now a.layer.now a.dots.now) (sym c.idle.ensures ∙ c.if-idle.true) in
    rw c.in-Sequence.is (record { does = none.0; prints = sym (ap (λ (ys : List ℕ). put a.from ys a.printer.now) none.1 ∙ put-none a.from a.printer.now) })

pub print_copy-requires : goal.print_copy-requires
print_copy-requires c =
    record { sound = c.requires.good.sound; q_in_bounds = rw c.in-Sequence.is at c.requires.roomy }

pub store_pattern-requires : goal.store_pattern-requires
store_pattern-requires c =
    let p = c.requires in
    let e = c.in-Sequence.is in
    record { sound = p.good.sound; legal = rw e at p.legal; awake = sym c.idle.ensures ∙ c.if-idle.false; rows = λ k o h. p.rows k o (e ∙ ap (λ (q : Seq). Sequence q) h) }

pub returns-then-is_pattern : goal.returns-then-is_pattern
returns-then-is_pattern c =
    let awake = sym c.idle.ensures ∙ c.if-idle.false in
    rw c.in-Sequence.is (record { does = c.store_pattern.ensures.does (sym c.is_pattern.ensures ∙ c.if-is_pattern.true) _ _ _ ∙ awake_settled _ _ _ awake; prints = c.print_copy.ensures })

pub obey-requires : goal.obey-requires
obey-requires c =
    let p = c.requires in
    record { sound = p.good.sound; legal = rw c.in-Sequence.is at p.legal; awake = sym c.idle.ensures ∙ c.if-idle.false }

pub returns : goal.returns
returns c =
    let awake = sym c.idle.ensures ∙ c.if-idle.false in
    rw c.in-Sequence.is
    (record { does = c.obey.ensures.does (sym c.is_pattern.ensures ∙ c.if-is_pattern.false) c.args.message.now ∙ awake_settled _ _ _ awake; prints = c.print_copy.ensures })
