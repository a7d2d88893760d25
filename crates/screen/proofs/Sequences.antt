-- Sequences: what obeying one comes to, and which the last arm of a match leaves.
use mathlib.Core.Path.{◌∙◌, ◌≡◌, ap, refl, sym}
use Prim.Native.Nat.{ℕ}
use mathlib.Core.Bool.{Bool, false, true}
use mathlib.Core.List.{List, [], ◌∷◌}
use lib.ListN.{length}
use lib.Dec.{eqb}
use borrow.Author.Tests.{eqb-true}
use denote.Enum.Declared.{tag_of}
use types.Run.{OneOf}
use Rattle.model.specs.declared.Place.{Place}
use Rattle.model.specs.declared.Sequence.{Sequence as Seq}
use Rattle.model.specs.declared.Settings.{Settings}
use Rattle.model.specs.Checks.{member}
use Rattle.model.specs.State.{State, state}
use Rattle.model.specs.Screens.{place_of}
use Rattle.model.specs.Rules.{apply_item, obeyed, topped, with_dots}
use Rattle.model.specs.Sequences.{code_of, drawing, idle?, idle_there}
use Rattle.model.specs.contracts.Sequence.{the_type}
use Rattle.model.proofs.Tests.{cond_at, differ}
use Rattle.model.proofs.Cases.{none_passes}
use Rattle.ground.specs.declared.Frame.{Frame}
use Rattle.ground.specs.Frame.{Framed, Ready}
use Rattle.ground.specs.Acts.{ActsAbove, ActsWith, Top, except_dots}
use Rattle.model.specs.OnScreen.{on_screen?, on_screen_codes}
use Rattle.screen.specs.Obeys.{Obeys}
use Rattle.ground.proofs.Carried.{dots_aside, likewise_with, unmarked_acts}
use Rattle.cursor.proofs.Windows.{topped_at, topped-whole}

-- P11: a second byte in neither list is idle in no mode, and one that does not draw only in mode 3
pub never_idle : (c : ℕ) → member c idle_there ≡ false → member c drawing ≡ false → (mode : ℕ) → idle? mode c ≡ false
unfolding idle?
never_idle c h k mode = cond_at (λ (b : Bool). b ≡ false) (eqb mode 3) _ _ (λ e. h) (λ e. k)

idle_there_lem : (mode c : ℕ) → member c drawing ≡ false → idle? mode c ≡ true → mode ≡ 3
unfolding idle?
idle_there_lem mode c k = cond_at (λ (b : Bool). b ≡ true → mode ≡ 3) (eqb mode 3) _ _ (λ e z. eqb-true mode 3 e) (λ e z. absurd (differ (sym z ∙ k)))

module _ {q : Seq} {f : Frame} {p r : Place} {c l m c' l' m' : List ℕ} where
  -- one that acts on the screen: where it is idle, what it does is nothing
  does : {q' : Seq} → q ≡ q' → on_screen? q' ≡ true
      → ((n : ℕ → ℕ) (s : Settings) (ds : List ℕ) → Framed s f → place_of s s.selected ≡ p → idle? s.mode (code_of q') ≡ true → obeyed n q' (state s c l ds) ≡ state s c l ds)
      → ((n : ℕ → ℕ) → ActsWith (except_dots (obeyed n q')) f p r c l m c' l' m') → Obeys q f p r c l m c' l' m'
  unfolding apply_item
  does {q'} e h i a = record {
    on = λ k n. rw e (likewise_with (λ s ds g j o. ap (with_dots ds) (cond_at (λ (x : State). x ≡ obeyed n q' (state s c l ds)) (idle? s.mode (code_of q')) (state s c l ds) _ (λ z. sym (i n s ds g j z)) (λ z. refl))) (a n));
    off = λ k. absurd (differ (sym h ∙ ap on_screen? (sym e) ∙ k));
  }

  -- idle in no mode: 42, which clears the dots as well in mode 3, and one that leaves them
  pub clears : {q' : Seq} → q ≡ q' → on_screen? q' ≡ true → member (code_of q') idle_there ≡ false → member (code_of q') drawing ≡ false
      → ((n : ℕ → ℕ) → ActsWith (except_dots (obeyed n q')) f p r c l m c' l' m') → Obeys q f p r c l m c' l' m'
  clears {q'} e h i j = does e h (λ n s ds g k z. absurd (differ (sym z ∙ never_idle (code_of q') i j s.mode)))

  pub obeys : {q' : Seq} → q ≡ q' → on_screen? q' ≡ true → member (code_of q') idle_there ≡ false → member (code_of q') drawing ≡ false
      → ((n : ℕ → ℕ) → ActsWith (obeyed n q') f p r c l m c' l' m') → Obeys q f p r c l m c' l' m'
  obeys e h i j a = clears e h i j (λ n. dots_aside (a n))

-- P11: one that turns the window, which is idle in mode 3
pub turns : {q : Seq} {f : Frame} {p r : Place} {c l m l' : List ℕ} {q' : Seq} {value : State → ℕ} {t : ℕ} → q ≡ q' → on_screen? q' ≡ true → member (code_of q') drawing ≡ false
    → ((n : ℕ → ℕ) (st : State) → obeyed n q' st ≡ topped (value st) st) → Ready f p c l → length m ≡ 2 → Top value f p t → ActsAbove (topped t) f p r l l' → Obeys q f p r c l m c l' m
turns {c = c} {l} {q' = q'} e h j o g n k a =
    does e h (λ m s ds u i z. o m (state s c l ds) ∙ topped-whole g.stands (u.mode_is ∙ idle_there_lem s.mode (code_of q') j z) k (state s c l ds) u i)
    (λ m. dots_aside (likewise_with (λ s ds u i x. o m (state s c l ds)) (unmarked_acts n (topped_at k a c g.cells_are))))

-- one that does not
pub idles : {q : Seq} {f : Frame} {p : Place} {c l m : List ℕ} → on_screen? q ≡ false → Obeys q f p p c l m c l m
idles h = record { on = λ k. absurd (differ (sym k ∙ h)); off = λ k. (refl, refl, refl, refl) }

-- the variants, by their position, that stay for the last arm
abbrev others : List ℕ
others = 2 ∷ 3 ∷ 5 ∷ 6 ∷ 9 ∷ 10 ∷ 13 ∷ 14 ∷ 17 ∷ 18 ∷ 19 ∷ 20 ∷ 21 ∷ 22 ∷ 23 ∷ 24 ∷ 25 ∷ 26 ∷ 27 ∷ 28 ∷ 29 ∷ 30 ∷ 31 ∷ 32 ∷ 33 ∷ 36 ∷ 38 ∷ 39 ∷ 40 ∷ 41 ∷ 42 ∷ 43 ∷ 44 ∷ 45 ∷ 46 ∷ []

pub off_screen : (q : Seq) → OneOf others (tag_of the_type q) → on_screen? q ≡ false
unfolding on_screen? member
off_screen q = none_passes (λ c. member c on_screen_codes) others q refl
