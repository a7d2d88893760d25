-- `writer::laying::lay` meets its contract: 22 by either test, or all bytes by `store::copy_in`.
use mathlib.Core.Path.{◌∙◌, ap, refl}
use Prim.Native.Nat.{ℕ, ◌+◌, ◌<◌}
use native.Mathlib.Omega.{arith}
use mathlib.Core.List.{List}
use lib.ListN.{length}
use lib.Seq.{take-length}
use Rattle.model.specs.Bytes.{put}
use Rattle.writer.proofs.Laws.{laid_all_lem, laid_none}
use Rattle.writer.proofs.laying.lay.Goals.{then-buffer-place-via-else-buffer-place+then-buffer-place-2, then-buffer-place-via-then-buffer-place}
use Rattle.writer.proofs.laying.lay.Goals as goal

pub returns-then-buffer-place : goal.returns-then-buffer-place
returns-then-buffer-place c =
    let a = c.args in
    let b = c.as_slice-bytes in
    let short : length a.buffer.now < a.place + length b.result.now =
    elim c.then-buffer-place.branch [
      | then-buffer-place-via-then-buffer-place w ↦ omega (arith, w.if-buffer-place.true)
      | then-buffer-place-via-else-buffer-place+then-buffer-place-2 w ↦ omega (arith, w.if-buffer-place.false, w.if-buffer-place-2.true)
    ] in
    rw (← b.ensures.bytes) (laid_none _ _ _ short)

pub returns : goal.returns
returns c =
    let a = c.args in
    let bs = c.as_slice-bytes.result.now in
    rw (← c.as_slice-bytes.ensures.bytes)
    (laid_all_lem _ a.place bs _ _ (omega (arith, c.if-buffer-place.false, c.if-buffer-place-2.false)) refl (c.copy_in.ensures ∙ ap (λ (l : List ℕ). put a.place l a.buffer.now) (take-length bs)))
