-- Reading with always room: it is what is read where no ESC P met 13, whatever the printer room; and it goes on where it stopped.
use mathlib.Core.Path.{◌∙◌, ◌≡◌, ap, refl, subst}
use Prim.Native.Nat.{◌+◌, ◌-◌, ◌≤◌, ℕ}
use native.Mathlib.Nat.{add-zero}
use native.Mathlib.Omega.{arith}
use mathlib.Core.Bool.{Bool, ◌&&◌, ◌||◌, cond, false, true}
use mathlib.Core.List.{List, [], ◌++◌, ◌∷◌, append_assoc}
use lib.ListN.{length, length-append}
use lib.Dec.{eqb, ltb}
use Rattle.model.specs.Picture.{copy_size_of}
use Rattle.model.specs.declared.Item.{Item}
use Rattle.model.specs.declared.Item.TheVariants.{Control, Printed, Refused, Sequence}
use Rattle.model.specs.Bytes.{joined}
use Rattle.model.specs.State.{State}
use Rattle.model.specs.Screens.{columns_of, height, lines_of, text_rows}
use Rattle.model.specs.Sequences.{code_of}
use Rattle.model.specs.Reading.{Read, byte_of, gathered, item_of, lastly, remaining}
use Rattle.model.specs.Judging.{allowed, fitting, limits_of}
use Rattle.model.specs.Rules.{with_settings}
use Rattle.model.specs.Items.{apply_all, events_of, happened, lined, obeyed_by, printer_bytes, read, reads_of}
use Rattle.theorems.specs.Streams.{met13, roomless}
use Rattle.model.proofs.Tests.{differ, or_false}
use Rattle.model.proofs.Gathering.{gathered_append}
use Rattle.model.proofs.LineLaws.{remaining-length}
use Rattle.laws.proofs.Lined.{item_lined}

-- reading with always room
abbrev read_with_room : ℕ → List ℕ → State → Read
read_with_room at bs st = let i = allowed (item_of at bs) (limits_of st.settings) in record { at = at; item = i; bytes = bs; prints = printer_bytes st.settings.mode i }

unfoldable pub reads_with_room : List (List ℕ) → ℕ → State → List Read
reads_with_room [] at st = []
reads_with_room (bs ∷ bss) at st = read_with_room at bs st ∷ reads_with_room bss (at + length bs) (obeyed_by (read_with_room at bs st) st)

fits : (mode : ℕ) (i : Item) (room : ℕ) → roomless (fitting mode i room) ≡ false → fitting mode i room ≡ i
unfolding fitting
fits mode (Printed c) room e = refl
fits mode (Control c) room e = refl
fits mode (Sequence q) room e = go (eqb (code_of q) 80 && ltb room (copy_size_of mode)) e
  where
    go : (b : Bool) → roomless (cond b (Refused 13 0) (Sequence q)) ≡ false → cond b (Refused 13 0) (Sequence q) ≡ Sequence q
    go true e = absurd (differ e)
    go false e = refl
fits mode (Refused n p) room e = refl

-- where no ESC P met 13, the room is not seen
pub reads_with_room_lem : (bss : List (List ℕ)) (at : ℕ) (st : State) (room : ℕ) → met13 (reads_of bss at st room) ≡ false → reads_of bss at st room ≡ reads_with_room bss at st
unfolding reads_of reads_with_room met13
reads_with_room_lem [] at st room e = refl
reads_with_room_lem (bs ∷ bss) at st room e =
    let r : Read = read at bs (limits_of st.settings) room in
    let more : Read → List Read = λ x. reads_of bss (at + length bs) (obeyed_by x st) (room - x.prints) in
    let z = or_false (roomless r.item) (met13 (more r)) e in
    let same : r ≡ read_with_room at bs st = ap (λ (i : Item). record { at = at; item = i; bytes = bs; prints = printer_bytes st.settings.mode i }) (fits st.settings.mode (allowed (item_of at bs) (limits_of st.settings)) room z.0) in
    let z₂ : met13 (more (read_with_room at bs st)) ≡ false = subst (λ (x : Read). met13 (more x) ≡ false) same z.1 in
    ap (λ (x : Read). x ∷ more x) same ∙ ap (λ (l : List Read). read_with_room at bs st ∷ l) (reads_with_room_lem bss _ _ _ z₂)

with_room_append : (xs ys : List (List ℕ)) (at : ℕ) (st : State) → reads_with_room (xs ++ ys) at st ≡ reads_with_room xs at st ++ reads_with_room ys (at + length (joined xs)) (apply_all (events_of (reads_with_room xs at st)) st)
unfolding reads_with_room apply_all happened joined
with_room_append [] ys at st = rw add-zero
with_room_append (x ∷ xs) ys at st =
    let st₂ : State = obeyed_by (read_with_room at x st) st in
    let n : (at + length x) + length (joined xs) ≡ at + length (x ++ joined xs) = omega (arith, length-append x (joined xs)) in
    ap (λ (l : List Read). read_with_room at x st ∷ l)
    (with_room_append xs ys (at + length x) st₂
    ∙ ap (λ (k : ℕ). reads_with_room xs (at + length x) st₂ ++ reads_with_room ys k (apply_all (events_of (reads_with_room xs (at + length x) st₂)) st₂)) n)

-- the line is not seen either
pub with_room_lined : (w : List ℕ) (n : ℕ) (bss : List (List ℕ)) (at : ℕ) (st : State) → reads_with_room bss at (lined w n st) ≡ reads_with_room bss at st
unfolding reads_with_room lined with_settings lines_of columns_of height text_rows
with_room_lined w n [] at st = refl
with_room_lined w n (bs ∷ bss) at st =
    let r : Read = read_with_room at bs st in
    ap (λ (x : State). r ∷ reads_with_room bss (at + length bs) x) (item_lined w n (byte_of r) r.item st)
    ∙ ap (λ (l : List Read). r ∷ l) (with_room_lined w n bss (at + length bs) (obeyed_by r st))

pub met_append : (xs ys : List Read) → met13 (xs ++ ys) ≡ false → (met13 xs ≡ false) × (met13 ys ≡ false)
unfolding met13
met_append [] ys e = (refl, e)
met_append (x ∷ xs) ys e = go (roomless x.item) e (met_append xs ys)
  where
    go : (b : Bool) → (b || met13 (xs ++ ys)) ≡ false → (met13 (xs ++ ys) ≡ false → (met13 xs ≡ false) × (met13 ys ≡ false)) → ((b || met13 xs) ≡ false) × (met13 ys ≡ false)
    go true e f = absurd (differ e)
    go false e f = f e

-- the items of bytes up to an end, where some wait
unfoldable pub ahead : List ℕ → ℕ → State → List ℕ → List Read
ahead w n st bs = reads_with_room (gathered w bs ++ lastly (remaining w bs)) (n - length w) st

-- a piece, then the rest
pub ahead_piece : (w : List ℕ) (n : ℕ) (st : State) (m bs : List ℕ) → length w ≤ n
    → let rs = reads_with_room (gathered w m) (n - length w) st in ahead w n st (m ++ bs) ≡ rs ++ ahead (remaining w m) (n + length m) (apply_all (events_of rs) st) bs
unfolding ahead
ahead_piece w n st m bs h =
    let r : List ℕ = remaining w m in
    let a : ℕ = n - length w in
    let rest : List (List ℕ) = gathered r bs ++ lastly (remaining r bs) in
    let k : a + length (joined (gathered w m)) ≡ (n + length m) - length r = omega (arith, h, remaining-length w m) in
    let z = gathered_append w m bs in
    (λ i. reads_with_room (z.0 i ++ lastly (z.1 i)) a st)
    ∙ ap (λ (x : List (List ℕ)). reads_with_room x a st) (append_assoc (gathered w m) (gathered r bs) (lastly (remaining r bs)))
    ∙ with_room_append (gathered w m) rest a st
    ∙ ap (λ (k : ℕ). reads_with_room (gathered w m) a st ++ reads_with_room rest k (apply_all (events_of (reads_with_room (gathered w m) a st)) st)) k
