-- `decoding::byte` meets its contract: what stands there, or past the end the default.
use mathlib.Core.Path.{◌≡◌, refl, sym}
use Prim.Native.Nat.{ℕ}
use mathlib.Core.List.{List}
use lib.ListN.{get_or, get_or-eq_default, length}
use borrow.Author.Tests.{ltb-false, ltb-true}
use denote.Ref.{Bor}
use Rattle.std.specs.Prelude.{Option, None, Some}
use Rattle.std.specs.Option.{option_copied, unwrap_or}
use Rattle.std.specs.Slice.{IsItemAt}
use Rattle.std.proofs.lemmas.Option.{get_or_from_slice_get, slice_get_read}
use Rattle.decoding.proofs.byte.Goals as goal

read : (r : Option (Bor ℕ)) (bs : List ℕ) (i : ℕ) → IsItemAt bs i r → unwrap_or (option_copied r) 0 ≡ get_or bs i 0
read None bs i h = sym (get_or-eq_default bs 0 (ltb-false i (length bs) (sym h.0)))
read (Some x) bs i h = sym (get_or_from_slice_get bs i x.now 0 (slice_get_read bs (length bs) i x.now refl (ltb-true i (length bs) (sym h.0)) h.1))

pub returns : goal.returns
returns c =
    rw (c.unwrap_or.ensures, c.copied.ensures) (read _ _ _ c.get.ensures.lookup)
