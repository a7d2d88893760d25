-- `extend`: what stands, with the bytes that are left put behind it, is the whole.
use mathlib.Core.Path.{ap}
use mathlib.Core.List.{[], ◌∷◌}
use native.Mathlib.Omega.{arith}
use lib.ListN.{get_or, length, length-append}
use Rattle.glass_drawing.proofs.Strokes.{all_behind, one_behind}
use Rattle.glass_drawing.proofs.drawing.Drawn.extend.Goals as goal

pub loop-byte-preserved : goal.loop-byte-preserved
loop-byte-preserved c =
    let at = c.loop-byte in
    let bytes = c.args.bytes.now in
    let byte = get_or bytes at.byte-index 0 in
    (rw c.push.ensures (one_behind at.self bytes _ at.byte-index (omega arith) at.invariant.0), omega (arith, ap length c.push.ensures, length-append at.self (byte ∷ []), at.invariant.1))

pub returns : goal.returns
returns c =
    let at = c.loop-byte in
    all_behind at.self c.args.bytes.now _ at.byte-index (omega arith) at.invariant.0
