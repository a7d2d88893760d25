-- The message loop, for the code that runs it: what is left to do from an offset on, and one turn of it.
use mathlib.Core.Path.{◌∙◌, ◌≡◌, ap, refl, subst, sym}
use Prim.Native.Nat.{◌+◌, ◌-◌, ◌<◌, ◌≤◌, suc, zero, ℕ}
use native.Mathlib.Omega.{arith}
use mathlib.Core.List.{List, [], ◌++◌, ◌∷◌}
use lib.ListN.{drop, drop_of_length-le, length, length-drop, take}
use lib.Seq.{drop-drop}
use Rattle.model.specs.declared.Answer.{Answer}
use Rattle.model.specs.State.{State}
use Rattle.model.specs.Reading.{Read, gathered, needed, own_bytes, remaining, uncut}
use Rattle.model.specs.Judging.{limits_of}
use Rattle.model.specs.Items.{apply_all, copies, copy_of, counted, counted_all, happened, events_of, obeyed_by, read, reads_of}
use Rattle.model.proofs.Gathering.{needed-least, uncut_next}

module _ (m : List ℕ) where
  -- the item at an offset
  unfoldable pub read_at : ℕ → State → ℕ → Read
  read_at at st room = read at (own_bytes m at) (limits_of st.settings) room

  -- the readings from an offset on
  unfoldable pub rest : ℕ → State → ℕ → List Read
  rest at st room = reads_of (uncut (drop at m)) at st room

  drop_own : (bs : List ℕ) (n : ℕ) → drop n bs ≡ drop (length (take n bs)) bs
  drop_own [] zero = refl
  drop_own [] (suc n) = refl
  drop_own (b ∷ bs) zero = refl
  drop_own (b ∷ bs) (suc n) = drop_own bs n

  pub rest_next : (at : ℕ) (st : State) (room : ℕ) → at < length m → let r = read_at at st room in
      rest at st room ≡ r ∷ rest (at + length (own_bytes m at)) (obeyed_by r st) (room - r.prints)
  unfolding rest reads_of own_bytes read_at
  rest_next at st room h =
      let bs : List ℕ = drop at m in
      let left : drop (needed bs) bs ≡ drop (at + length (own_bytes m at)) m = drop_own bs (needed bs) ∙ drop-drop (length (own_bytes m at)) at m in
      ap (λ (l : List (List ℕ)). reads_of l at st room) (uncut_next bs (subst (λ (n : ℕ). 1 ≤ n) (sym (length-drop at m)) (omega (arith, h))) ∙ ap (λ (x : List ℕ). own_bytes m at ∷ uncut x) left)

  pub rest_end : (at : ℕ) (st : State) (room : ℕ) → length m ≤ at → rest at st room ≡ []
  unfolding rest gathered remaining reads_of
  rest_end at st room h = ap (λ (x : List ℕ). reads_of (uncut x) at st room) (drop_of_length-le m {i = at} h)

  -- the state, the printer bytes and the answer that the call ends with, from an offset on: one turn leaves all three as they are
  unfoldable pub ends : ℕ → State → ℕ → State
  ends at st room = apply_all (events_of (rest at st room)) st

  unfoldable pub prints : ℕ → State → ℕ → List ℕ
  prints at st room = copies (events_of (rest at st room)) st

  unfoldable pub answers : ℕ → State → ℕ → Answer → Answer
  answers at st room a = counted_all (rest at st room) a

  pub ends_turn : (at : ℕ) (st : State) (room : ℕ) → at < length m → let r = read_at at st room in
      ends at st room ≡ ends (at + length (own_bytes m at)) (obeyed_by r st) (room - r.prints)
  unfolding ends apply_all happened
  ends_turn at st room h = ap (λ (rs : List Read). apply_all (events_of rs) st) (rest_next at st room h)

  pub prints_turn : (at : ℕ) (st : State) (room : ℕ) → at < length m → let r = read_at at st room in
      prints at st room ≡ copy_of r.item st ++ prints (at + length (own_bytes m at)) (obeyed_by r st) (room - r.prints)
  unfolding prints copies happened
  prints_turn at st room h = ap (λ (rs : List Read). copies (events_of rs) st) (rest_next at st room h)

  pub answers_turn : (at : ℕ) (st : State) (room : ℕ) (a : Answer) → at < length m → let r = read_at at st room in
      answers at st room a ≡ answers (at + length (own_bytes m at)) (obeyed_by r st) (room - r.prints) (counted r.item at r.prints a)
  unfolding answers counted_all read_at
  answers_turn at st room a h = ap (λ (rs : List Read). counted_all rs a) (rest_next at st room h)

  -- an item has at least a byte
  pub own_some : (at : ℕ) → at < length m → 1 ≤ length (own_bytes m at)
  unfolding own_bytes
  own_some at h = least (drop at m) (subst (λ (n : ℕ). 1 ≤ n) (sym (length-drop at m)) (omega (arith, h))) (needed (drop at m)) (needed-least (drop at m))
    where
      least : (bs : List ℕ) → 1 ≤ length bs → (n : ℕ) → 1 ≤ n → 1 ≤ length (take n bs)
      least [] l n k = absurd (omega (arith, l))
      least (b ∷ bs) l zero k = absurd (omega (arith, k))
      least (b ∷ bs) l (suc n) k = omega arith
