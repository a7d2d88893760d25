-- The number of a pack call by its tests, in their order: what its bytes are refused by comes behind 1 and before 3 and 16. And what a refused pack promises.
use mathlib.Core.Path.{◌∙◌, ◌≡◌, ap, refl, sym}
use Prim.Native.Nat.{◌≤◌, ℕ}
use native.Mathlib.Omega.{arith}
use mathlib.Core.Bool.{Bool, cond, false, true}
use mathlib.Core.List.{List, [], ◌∷◌}
use lib.ListN.{length}
use lib.Dec.{eqb}
use borrow.Author.Tests.{leb-true, ne_eqb}
use Rattle.model.specs.Records.{uncut?}
use Rattle.model.specs.declared.Answer.{Answer}
use Rattle.model.specs.declared.Refusal.{Refusal}
use Rattle.model.specs.Refusals.{refusal_number}
use Rattle.model.specs.Items.{blank_answer}
use Rattle.calls.specs.Calls.{Promised, Reason, Terminal, first_of, known_in, none_waits, number_of, pack, pack_called, packable, reason, reasons, request, sendable_in, sized, sound_in}
use Rattle.model.proofs.RefusalLaws.{not_0}
use Rattle.calls.proofs.CallLaws.{refused_number}
use Rattle.calls.proofs.Promises.{promised_none}
use Rattle.packs.specs.Bytes.{of_bytes}

-- what its bytes are refused by
module _ (p : List ℕ) where
  pub bytes_numbered : {a b c d : Bool} → packable p ≡ a → uncut? p ≡ b → known_in p ≡ c → sendable_in p ≡ d → first_of (of_bytes p) ≡ cond a (cond b (cond c (cond d 0 2) 21) 20) 19
  unfolding first_of
  bytes_numbered {a} {b} {c} {d} e f g h = (λ i. first_of (reason 19 (e i) ∷ reason 20 (f i) ∷ reason 21 (g i) ∷ reason 2 (h i) ∷ [])) ∙ go a b c d
    where
      go : (a b c d : Bool) → first_of (reason 19 a ∷ reason 20 b ∷ reason 21 c ∷ reason 2 d ∷ []) ≡ cond a (cond b (cond c (cond d 0 2) 21) 20) 19
      go true true true true = refl
      go true true true false = refl
      go true true false d = refl
      go true false c d = refl
      go false b c d = refl

-- the call's
pub pack_numbered : (t : Terminal) (p : List ℕ) {a b c : Bool} {n : ℕ} → sized t ≡ a → first_of (of_bytes p) ≡ n → sound_in t ≡ b → none_waits t.state.settings ≡ c
    → first_of (reasons t (pack p)) ≡ cond a (cond (eqb n 0) (cond b (cond c 0 16) 3) n) 1
unfolding reasons first_of
pack_numbered t p {a} {b} {c} {n} e f g h =
    (λ i. first_of (reason 1 (e i) ∷ reason 19 (packable p) ∷ reason 20 (uncut? p) ∷ reason 21 (known_in p) ∷ reason 2 (sendable_in p) ∷ reason 3 (g i) ∷ reason 16 (h i) ∷ []))
    ∙ go a (packable p) (uncut? p) (known_in p) (sendable_in p) b c ∙ (λ i. cond a (cond (eqb (f i) 0) (cond b (cond c 0 16) 3) (f i)) 1)
  where
    go : (a l u k s b c : Bool) → let m = first_of (reason 19 l ∷ reason 20 u ∷ reason 21 k ∷ reason 2 s ∷ []) in
        first_of (reason 1 a ∷ reason 19 l ∷ reason 20 u ∷ reason 21 k ∷ reason 2 s ∷ reason 3 b ∷ reason 16 c ∷ []) ≡ cond a (cond (eqb m 0) (cond b (cond c 0 16) 3) m) 1
    go true true true true true true true = refl
    go true true true true true true false = refl
    go true true true true true false c = refl
    go true true true true false b c = refl
    go true true true false s b c = refl
    go true true false k s b c = refl
    go true false u k s b c = refl
    go false l u k s b c = refl

-- where its bytes are refused
pub bytes_refused : (t : Terminal) (p : List ℕ) (r : Refusal) → sized t ≡ true → refusal_number r ≡ first_of (of_bytes p) → refusal_number r ≡ first_of (reasons t (pack p))
bytes_refused t p r e f = sym (pack_numbered t p e (sym f) refl refl ∙ rw (ne_eqb (refusal_number r) 0 (not_0 r)))

-- and number 0 tells of its bytes that they are not too many, and no record is cut
pub whole-pack : (t : Terminal) (p : List ℕ) → first_of (reasons t (pack p)) ≡ 0 → (length p ≤ 60000) × (uncut? p ≡ true)
unfolding reasons first_of packable
whole-pack t p e = go (sized t) (packable p) (uncut? p) refl refl refl
  where
    rest : List Reason
    rest = reason 21 (known_in p) ∷ reason 2 (sendable_in p) ∷ reason 3 (sound_in t) ∷ reason 16 (none_waits t.state.settings) ∷ []

    told : {a l u : Bool} → sized t ≡ a → packable p ≡ l → uncut? p ≡ u → first_of (reason 1 a ∷ reason 19 l ∷ reason 20 u ∷ rest) ≡ 0
    told f g h = (λ i. first_of (reason 1 (sym f i) ∷ reason 19 (sym g i) ∷ reason 20 (sym h i) ∷ rest)) ∙ e

    go : (a l u : Bool) → sized t ≡ a → packable p ≡ l → uncut? p ≡ u → (length p ≤ 60000) × (uncut? p ≡ true)
    go true true true f g h = (leb-true (length p) 60000 g, h)
    go true true false f g h = absurd (omega (arith, told f g h))
    go true false u f g h = absurd (omega (arith, told f g h))
    go false l u f g h = absurd (omega (arith, told f g h))

-- refused by a number: all as it came, and no record
pub pack_refused : (t : Terminal) (p buffer : List ℕ) (n : ℕ) (a : Answer) → n ≡ first_of (reasons t (pack p)) → (n ≡ 0 → ⊥) → a ≡ blank_answer n 0 → Promised (pack_called p t buffer a 0 t buffer)
unfolding number_of
pack_refused t p buffer n a e z w =
    promised_none (pack_called p t buffer a 0 t buffer) (refused_number t (request (pack p) (length buffer)) (λ k. z (e ∙ k))) refl (w ∙ ap (λ (k : ℕ). blank_answer k 0) e) refl refl
