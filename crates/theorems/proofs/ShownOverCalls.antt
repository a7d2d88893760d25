-- P2: an accepted key call moves the picture only in row 8; P12: a short message leaves what was true; so what is claimed of the shown screen after any call is
-- true.
use mathlib.Core.Path.{◌∙◌, ◌≡◌, ap, refl, subst, sym}
use Prim.Native.Nat.{◌%◌, ◌*◌, ◌+◌, ◌-◌, ◌/◌, ◌<◌, ◌≤◌, ℕ}
use native.Mathlib.Omega.{arith}
use mathlib.Core.Bool.{Bool, ◌&&◌, ◌||◌, cond, false, not, true}
use mathlib.Core.List.{List, [], ◌∷◌}
use lib.ListN.{get_or}
use lib.Dec.{eqb}
use borrow.Author.Tests.{ltb-false, ltb-true}
use Rattle.model.specs.State.{State}
use Rattle.model.specs.Screens.{base, cell_at, columns_of, line_at, place_of, text_rows}
use Rattle.model.specs.Picture.{covered, halves, picture, picture_at, sides, text_at, under, window_at}
use Rattle.model.specs.Rules.{with_settings}
use Rattle.model.specs.Items.{texted}
use Rattle.calls.specs.Packs.{bodies_of, some?}
use Rattle.calls.specs.Calls.{Asked, Request, Terminal, granted, closing, key_text, message, pack, paints?, piece, short, request, served}
use Rattle.calls.specs.Claims.{Shown, ShownIn, above_row8, claimed_by, claims, unclaims?}
use Rattle.calls.specs.Lists.{claimed, stands}
use Rattle.model.proofs.Tests.{and_both, and_left, and_right, cond_at, differ}
use Rattle.model.proofs.Keep.{rows_low}
use Rattle.model.proofs.Places.{under-text}
use Rattle.calls.proofs.CallLaws.{refused_leaves, shown_granted}
use Rattle.calls.proofs.LineAfter.{leaves_none, leaves_texted}
use Rattle.calls.proofs.ShortCall.{as_old, row_8, same_granted, true-place}

-- a key's text is not seen above row 8
text-texted : (k : ℕ) (x : List ℕ) (st : State) (r c : ℕ) → text_at (texted k x st) r c ≡ text_at st r c
unfolding texted with_settings text_at halves sides window_at cell_at line_at base columns_of place_of text_rows
text-texted k x st r c = refl

under-texted : (k : ℕ) (x : List ℕ) (st : State) (r c : ℕ) → r ≤ 7 → under (texted k x st) r c ≡ under st r c
under-texted k x st r c h =
    under-text (texted k x st) r c (omega (arith, h, rows_low (texted k x st).settings)) ∙ text-texted k x st r c ∙ sym (under-text st r c (omega (arith, h, rows_low st.settings)))

pub picture-texted : (k : ℕ) (x : List ℕ) (st : State) (r c : ℕ) → r ≤ 7 → picture_at (texted k x st) r c ≡ picture_at st r c
unfolding picture_at covered texted with_settings
picture-texted k x st r c h =
    ap (λ (u : ℕ). elim (eqb st.settings.secret 1) as (λ b. ℕ) [ true ↦ 32 | false ↦ covered st r c u ]) (under-texted k x st r c h)

-- an accepted key call leaves the places above row 8 as true as they were
shown_key : (t : Terminal) (k : ℕ) (x : List ℕ) (c : ℕ → Bool) → ShownIn c t → ShownIn (λ p. c p && above_row8 p) (record { state = texted k x t.state; shown = t.shown })
shown_key t k x c h r j r₁ r₂ j₁ j₂ e =
    let p : ℕ = 80 * (r - 1) + (j - 1) in
    let l = ltb-true p _ (and_right (c p) (above_row8 p) e) in
    h r j r₁ r₂ j₁ j₂ (and_left (c p) (above_row8 p) e) ∙ sym (picture-texted k x t.state r j (omega (arith, l)))

-- what is claimed after any call is true
module _ (t : Terminal) (room : ℕ) (c : ℕ → Bool) (h : ShownIn c t) where
  after_painting : (a : Asked) → paints? a ≡ true → granted t (request a room) ≡ true → ShownIn (claimed_by t (request a room) c) (served t (request a room))
  after_painting a f e = λ r k r₁ r₂ k₁ k₂ z. (shown_granted t (request a room) e f).each r k r₁ r₂ k₁ k₂

  after_refused : (a : Asked) → granted t (request a room) ≡ false → ShownIn (claimed_by t (request a room) c) (served t (request a room))
  unfolding claimed_by
  after_refused a e =
      let q : Request = request a room in
      subst (ShownIn (claimed_by t q c)) (sym (refused_leaves t q e))
      (subst (λ (b : Bool). ShownIn (λ p. cond b (claims a c p) (c p)) t) (sym e) h)

  after_key : (k : ℕ) (x : List ℕ) → granted t (request (key_text k x) room) ≡ true → ShownIn (claimed_by t (request (key_text k x) room) c) (served t (request (key_text k x) room))
  unfolding claimed_by claims
  after_key k x e =
      let q : Request = request (key_text k x) room in
      subst (ShownIn (claimed_by t q c)) (sym (leaves_texted t k x room e))
      (subst (λ (b : Bool). ShownIn (λ p. cond b (c p && above_row8 p) (c p)) (record { state = texted k x t.state; shown = t.shown })) (sym e) (shown_key t k x c h))

  after_pack : (p : List ℕ) → granted t (request (pack p) room) ≡ true → ShownIn (claimed_by t (request (pack p) room) c) (served t (request (pack p) room))
  unfolding claimed_by claims
  after_pack p e = go (bodies_of p) refl
    where
      go : (ms : List (List ℕ)) → bodies_of p ≡ ms → ShownIn (claimed_by t (request (pack p) room) c) (served t (request (pack p) room))
      go [] n =
          subst (ShownIn (claimed_by t (request (pack p) room) c)) (sym (leaves_none t p room e n)) (subst (λ (b : Bool). ShownIn (λ k. cond b (some? (bodies_of p) || c k) (c k)) t) (sym e) (subst (λ (ms : List (List ℕ)). ShownIn (λ k. some? ms || c k) t) (sym n) h))
      go (m ∷ ms) n = after_painting (pack p) (ap some? n) e

  -- P12: a place that was true is true, and row 8
  after_short : (m : List ℕ) → granted t (request (short m) room) ≡ true → ShownIn (claimed_by t (request (short m) room) c) (served t (request (short m) room))
  unfolding claimed_by claims picture
  after_short m e r j r₁ r₂ j₁ j₂ z =
      let p : ℕ = 80 * (r - 1) + (j - 1) in
      let q : Request = request (short m) room in
      let row : p / 80 + 1 ≡ r = omega arith in
      let column : p % 80 + 1 ≡ j = omega arith in
      let small : p < 640 = omega arith in
      let named : (st : State) → picture st p ≡ picture_at st r j = λ st. (λ i. picture_at st (row i) (column i)) in
      let claim : (c p || not (above_row8 p)) ≡ true = sym (ap (λ (b : Bool). cond b (c p || not (above_row8 p)) (c p)) e) ∙ z in
      by (c p) refl (above_row8 p) refl claim (λ was. true-place t m room e p small (was ∙ sym (named t.state))) (λ low. row_8 t m room e p low small) ∙ named (served t q).state
    where
      by : (u : Bool) → c (80 * (r - 1) + (j - 1)) ≡ u → (v : Bool) → above_row8 (80 * (r - 1) + (j - 1)) ≡ v → (u || not v) ≡ true
          → let p = 80 * (r - 1) + (j - 1) in let x = served t (request (short m) room) in
          (get_or t.shown p 0 ≡ picture_at t.state r j → get_or x.shown p 0 ≡ picture x.state p) → (560 ≤ p → get_or x.shown p 0 ≡ picture x.state p) → get_or x.shown p 0 ≡ picture x.state p
      by true y v w k f g = f (h r j r₁ r₂ j₁ j₂ y)
      by false y true w k f g = absurd (differ (sym k))
      by false y false w k f g = g (ltb-false _ _ w)

  shown_asked : (a : Asked) → ShownIn (claimed_by t (request a room) c) (served t (request a room))
  shown_asked a = go (granted t (request a room)) refl a refl
    where
      go : (b : Bool) → granted t (request a room) ≡ b → (a' : Asked) → a ≡ a' → ShownIn (claimed_by t (request a room) c) (served t (request a room))
      go false e a' f = after_refused a e
      go true e (message m) f = after_painting a (ap paints? f) e
      go true e (piece m) f = after_painting a (ap paints? f) e
      go true e closing f = after_painting a (ap paints? f) e
      go true e (key_text k x) f =
          subst (λ (y : Asked). ShownIn (claimed_by t (request y room) c) (served t (request y room))) (sym f) (after_key k x (subst (λ (y : Asked). granted t (request y room) ≡ true) f e))
      go true e (short m) f =
          subst (λ (y : Asked). ShownIn (claimed_by t (request y room) c) (served t (request y room))) (sym f) (after_short m (subst (λ (y : Asked). granted t (request y room) ≡ true) f e))
      go true e (pack p) f =
          subst (λ (y : Asked). ShownIn (claimed_by t (request y room) c) (served t (request y room))) (sym f) (after_pack p (subst (λ (y : Asked). granted t (request y room) ≡ true) f e))

pub shown_stands : (qs : List Request) (t : Terminal) (c : ℕ → Bool) → ShownIn c t → ShownIn (claimed t qs c) (stands t qs)
unfolding stands claimed
shown_stands [] t c h = h
shown_stands (q ∷ qs) t c h = shown_stands qs (served t q) (claimed_by t q c) (shown_asked t q.room c h q.asked)

-- a shown screen that shows the picture shows it after any accepted call but a key call
pub shown_served : (t : Terminal) (a : Asked) (room : ℕ) → Shown t → unclaims? a ≡ false → granted t (request a room) ≡ true → Shown (served t (request a room))
shown_served t (message m) room s f e = shown_granted t (request (message m) room) e refl
shown_served t (piece m) room s f e = shown_granted t (request (piece m) room) e refl
shown_served t closing room s f e = shown_granted t (request closing room) e refl
shown_served t (key_text k x) room s f e = absurd (differ f)
shown_served t (short m) room s f e =
    subst Shown (sym (as_old t m room e (λ r k r₁ r₂ k₁ k₂ z. s.each r k r₁ r₂ k₁ k₂))) (shown_granted t (request (message m) room) (sym (same_granted t m room) ∙ e) refl)
shown_served t (pack p) room s f e = go (bodies_of p) refl
  where
    go : (ms : List (List ℕ)) → bodies_of p ≡ ms → Shown (served t (request (pack p) room))
    go [] n = subst Shown (sym (leaves_none t p room e n)) s
    go (m ∷ ms) n = shown_granted t (request (pack p) room) e (ap some? n)

-- a place above row 8 that is claimed stays claimed
claimed-step : (t : Terminal) (q : Request) (c : ℕ → Bool) (p : ℕ) → above_row8 p ≡ true → c p ≡ true → claimed_by t q c p ≡ true
unfolding claimed_by claims
claimed-step t q c p u e = cond_at (λ (b : Bool). b ≡ true) (granted t q) _ _ (λ z. go q.asked) (λ z. e)
  where
    some : (b : Bool) → (b || c p) ≡ true
    some true = refl
    some false = e

    go : (a : Asked) → claims a c p ≡ true
    go (message m) = refl
    go (piece m) = refl
    go closing = refl
    go (key_text k x) = and_both (c p) (above_row8 p) e u
    go (pack b) = some (some? (bodies_of b))
    go (short m) = ap (λ (x : Bool). x || not (above_row8 p)) e

claimed_above : (qs : List Request) (t : Terminal) (c : ℕ → Bool) (p : ℕ) → above_row8 p ≡ true → c p ≡ true → claimed t qs c p ≡ true
unfolding claimed
claimed_above [] t c p u e = e
claimed_above (q ∷ qs) t c p u e = claimed_above qs (served t q) (claimed_by t q c) p u (claimed-step t q c p u e)

-- so rows 1 to 7 stay true
pub above_stands : (qs : List Request) (t : Terminal) → ShownIn above_row8 t → ShownIn above_row8 (stands t qs)
above_stands qs t h = λ r k r₁ r₂ k₁ k₂ e. shown_stands qs t above_row8 h r k r₁ r₂ k₁ k₂ (claimed_above qs t above_row8 _ e e)

pub shown_above : (t : Terminal) → Shown t → ShownIn above_row8 t
shown_above t s = λ r k r₁ r₂ k₁ k₂ e. s.each r k r₁ r₂ k₁ k₂
