-- `decoding::decode` meets its contract: 208 by its mode byte, others by the list.
use mathlib.Core.Path.{◌∙◌, sym}
use Prim.Native.Nat.{◌+◌}
use Rattle.decoding.proofs.DecodingLaws.{whole_listed, whole_mode}
use Rattle.decoding.proofs.decode.Goals as goal

pub returns-then-second : goal.returns-then-second
returns-then-second c =
    let a = c.args in
    c.mode.ensures (a.at + 2) ∙ sym (whole_mode a.at a.own.now (sym c.byte-second.ensures ∙ c.if-second.true))

pub returns-else-second : goal.returns-else-second
returns-else-second c =
    let a = c.args in
    rw (whole_listed a.at a.own.now (λ e. c.if-second.false (c.byte-second.ensures ∙ e)), ← c.byte-second.ensures) c.two_bytes.ensures
