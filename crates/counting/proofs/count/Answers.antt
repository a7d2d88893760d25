-- By the item's cases.
use mathlib.Core.Path.{◌∙◌, ap}
use Prim.Native.Nat.{ℕ}
use native.Mathlib.Omega.{arith}
use Rattle.counting.specs.Counting.{accepted_with}
use Rattle.counting.proofs.count.Goals as goal

pub accept-requires : goal.accept-requires
accept-requires c =
    let p = c.requires in
    record { few = omega arith; roomy = rw c.printer_bytes.ensures (rw c.in-Sequence.is at p.roomy) }

pub returns-in-Sequence : goal.returns-in-Sequence
returns-in-Sequence c =
    rw c.in-Sequence.is (c.accept.ensures ∙ ap (λ (n : ℕ). accepted_with n c.args.counts) c.printer_bytes.ensures)

pub returns-in-Refused : goal.returns-in-Refused
returns-in-Refused c =
    rw c.in-Refused.is c.refuse.ensures
