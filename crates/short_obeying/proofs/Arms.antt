-- What each arm of `obey_item` promises of the item that it has: a printed byte begins a run, ESC 37 prints one character, and any other prints none.
use mathlib.Core.Path.{◌∙◌, ◌≡◌, ap, refl, subst, sym}
use Prim.Native.Nat.{◌+◌, ℕ}
use mathlib.Core.Bool.{Bool, ◌||◌, cond, false, not}
use mathlib.Core.List.{List, [], ◌∷◌}
use lib.ListN.{length}
use lib.Dec.{eqb}
use Rattle.model.specs.declared.Item.{Item}
use Rattle.model.specs.declared.Item.TheVariants.{Control, Printed, Refused, Sequence}
use Rattle.model.specs.declared.Place.{Place}
use Rattle.model.specs.declared.Sequence.{Sequence as Seq}
use Rattle.model.specs.declared.Sequence.TheVariants.{PrintCode}
use Rattle.model.specs.State.{State, state}
use Rattle.model.specs.Checks.{member}
use Rattle.model.specs.Sequences.{code_of}
use Rattle.model.specs.Screens.{here}
use Rattle.model.specs.Rules.{apply_item, obeyed, printed, with_dots}
use Rattle.model.specs.OnScreen.{on_screen?}
use Rattle.calls.specs.Repaint.{calm?, lifts?, print_lifts?}
use Rattle.model.proofs.Tests.{differ}
use Rattle.ground.specs.declared.Frame.{Frame}
use Rattle.ground.specs.Acts.{ActsWith}
use Rattle.screen.proofs.Sequences.{never_idle}
use Rattle.obeying.specs.Obeying.{Moves}
use Rattle.short_printing.specs.declared.Seen.{Seen}
use Rattle.short_printing.specs.Seen.{SeenRun, Sees, run_of, seen_all, wide_all, wide_print}
use Rattle.short_obeying.specs.Watches.{SeesItem, Watches, character, printing?, wide_item}
use Rattle.short_printing.proofs.Seeing.{or_none}
use Rattle.short_obeying.proofs.Stirring.{no_byte}

-- ESC 37 prints its character
pub prints_code : (ms : ℕ → ℕ) (c : ℕ) (st : State) → apply_item ms (Sequence (PrintCode c)) st ≡ printed c st
unfolding apply_item obeyed member
prints_code ms c st = ap (λ (b : Bool). cond b st (printed c st)) (never_idle 37 refl refl st.settings.mode)

module _ {m : List ℕ} {at size : ℕ} {f : Frame} {p : Place} {secret : ℕ} {cells layer marks shown cells' layer' marks' shown' : List ℕ} where
  pub run_arm : (b : ℕ) {r : Seen} → SeenRun m at f p secret r cells layer marks shown cells' layer' marks' shown' → (Moves m at size (Printed b) f p (run_of r) cells layer marks cells' layer' marks') × (Watches m at (Printed b) f p secret r cells layer marks shown shown')
  run_arm b u = (
    record { run = λ e. u.ran; next = λ e. absurd (differ e); acts = λ e. absurd (differ e); rests = λ e. absurd (differ e) },
    record { run = λ e. u.sees; one = λ e. absurd (differ e) },
  )

  pub code_arm : (c : ℕ) {q : Place} {wide : Bool} → (ActsWith (printed c) f p q cells layer marks cells' layer' marks') × (Sees (c ∷ []) f p secret wide cells layer marks shown shown')
      → let r : Seen = record { place = q; at = at + size; wide = wide } in (Moves m at size (Sequence (PrintCode c)) f p (run_of r) cells layer marks cells' layer' marks') × (Watches m at (Sequence (PrintCode c)) f p secret r cells layer marks shown shown')
  unfolding with_dots wide_item wide_all wide_print seen_all calm? lifts? member on_screen?
  code_arm c {wide = wide} (a, u) = (
    record {
      run = λ e. absurd (differ (sym e));
      next = λ e. refl;
      acts = λ e h n. record { does = λ s ds x y z. ap (with_dots ds) (prints_code n c (state s cells layer ds) ∙ a.does s ds x y z); ready = a.ready; marks_are = a.marks_are };
      rests = λ e. absurd (differ e);
    },
    record {
      run = λ e. absurd (differ (sym e));
      one = λ e. record {
        wide_is = λ n s ds x y z.
            let st : State = state s cells layer ds in
            u.wide_is s ds x y z ∙ or_none (wide_print c st) ∙ (λ i. print_lifts? st || not (eqb (here (sym (prints_code n c st) i)).top (here st).top));
        inks = character c refl (λ s ds x y z. u.seen_is s ds x y z);
        size = u.size;
      };
    },
  )

-- one that prints no character leaves the shown screen
pub other_arm : {m : List ℕ} {at size : ℕ} {i j : Item} {f : Frame} {p : Place} {r : Seen} {cells layer marks shown cells' layer' marks' : List ℕ} {secret : ℕ} → i ≡ j → printing? j ≡ false → length shown ≡ 640
    → (Moves m at size i f p (run_of r) cells layer marks cells' layer' marks') × ((secret : ℕ) (shown : List ℕ) → length shown ≡ 640 → SeesItem i f p secret r.wide cells layer marks shown shown)
    → (Moves m at size j f p (run_of r) cells layer marks cells' layer' marks') × (Watches m at j f p secret r cells layer marks shown shown)
other_arm {m} {at} {size} {j = j} {f} {p} {r} {cells} {layer} {marks} {shown} {cells'} {layer'} {marks'} {secret} e h n (a, u) = (
  subst (λ (i : Item). Moves m at size i f p (run_of r) cells layer marks cells' layer' marks') e a,
  record { run = λ k. absurd (differ (sym k ∙ no_byte j h)); one = λ k. subst (λ (i : Item). SeesItem i f p secret r.wide cells layer marks shown shown) e (u secret shown n) },
)

-- what is left: a sequence behind ESC 37, or an item that is neither a printed byte nor a sequence
pub other_code : {i j : Item} {q : Seq} → i ≡ Sequence q → j ≡ Sequence q → eqb (code_of q) 37 ≡ false → (i ≡ j) × (printing? i ≡ false)
other_code e k h = (e ∙ sym k, rw e h)

not_printing : (i : Item) → ((c : ℕ) → i ≡ Printed c → ⊥) → ((q : Seq) → i ≡ Sequence q → ⊥) → printing? i ≡ false
not_printing (Printed c) p s = absurd (p c refl)
not_printing (Control c) p s = refl
not_printing (Sequence q) p s = absurd (s q refl)
not_printing (Refused n k) p s = refl

pub other_item : {i j : Item} → i ≡ j → ((c : ℕ) → j ≡ Printed c → ⊥) → ((q : Seq) → j ≡ Sequence q → ⊥) → (i ≡ j) × (printing? i ≡ false)
other_item {j = j} e p s = (e, rw e (not_printing j p s))
