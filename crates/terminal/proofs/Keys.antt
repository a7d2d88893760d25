-- The key call's promise: from the text that was stored, or from settings left as they came.
use mathlib.Core.Path.{◌∙◌, ◌≡◌, ap, refl, sym}
use Prim.Native.Nat.{◌*◌, ◌-◌, ◌≤◌, ℕ}
use native.Mathlib.Omega.{arith}
use mathlib.Core.Bool.{Bool, ◌&&◌, false, true}
use mathlib.Core.List.{List, []}
use lib.ListN.{drop, length, take}
use lib.Dec.{eqb, leb}
use lib.Seq.{take_all}
use borrow.Author.Tests.{eqb-true, leb-true}
use Rattle.model.specs.declared.Answer.{Answer}
use Rattle.model.specs.declared.Settings.{Settings}
use Rattle.model.specs.Bytes.{put}
use Rattle.model.specs.State.{with_texts}
use Rattle.model.specs.Sound.{Sound, array_ranges, sound?}
use Rattle.model.specs.Items.{blank_answer}
use Rattle.calls.specs.Calls.{KeyPromised, first_of, key_text, reasons, sound_in, terminal}
use Rattle.model.specs.Keyable.{keyable}
use Rattle.model.proofs.SoundLaws.{sound_true}
use Rattle.model.proofs.Tests.{and_left, and_right}
use Rattle.calls.proofs.KeyCall.{key_number, promised_key, promised_key_refused}
use Rattle.numbers.proofs.KeyTests.{keyed_number}

-- a key's text has its place among the ten
pub record Placed (k : ℕ) (x : List ℕ) (s : Settings) : Type 0 where
  pub low : 1 ≤ k
  pub high : k ≤ 10
  pub eight : length x ≡ 8
  pub ten : length s.texts ≡ 80

module _ (k : ℕ) (x : List ℕ) (s : Settings) where
  -- its number, which looks at no store
  abbrev number_here : ℕ
  number_here = first_of (reasons (terminal s [] [] [] []) (key_text k x))

  number_is : number_here ≡ key_number k x s
  unfolding reasons sound_in key_number
  number_is = refl

  -- number 0: both hold
  pub served : number_here ≡ 0 → (sound? s ≡ true) × (keyable k x ≡ true)
  unfolding first_of
  served e = go (sound? s) (keyable k x) refl refl
    where
      go : (a b : Bool) → sound? s ≡ a → keyable k x ≡ b → (sound? s ≡ true) × (keyable k x ≡ true)
      go true true p q = (p, q)
      go true false p q = absurd (omega (arith, e, keyed_number k x s true false p q))
      go false b p q = absurd (omega (arith, e, keyed_number k x s false b p q))

  -- any other: one does not
  unserved : (number_here ≡ 0 → ⊥) → (sound? s && (keyable k x && true)) ≡ false
  unfolding first_of
  unserved e = go (sound? s) (keyable k x) refl refl
    where
      go : (a b : Bool) → sound? s ≡ a → keyable k x ≡ b → (sound? s && (keyable k x && true)) ≡ false
      go true true p q = absurd (e (keyed_number k x s true true p q))
      go true false p q = λ i. p i && (q i && true)
      go false b p q = λ i. p i && (keyable k x && true)

  pub among : number_here ≡ 0 → Placed k x s
  unfolding keyable array_ranges
  among e =
      let t = served e in
      let r = and_right (leb 1 k) (leb k 10 && eqb (length x) 8) t.1 in
      let sound : Sound s = sound_true s t.0 in
      record {
        low = leb-true 1 k (and_left (leb 1 k) (leb k 10 && eqb (length x) 8) t.1);
        high = leb-true k 10 (and_left (leb k 10) (eqb (length x) 8) r);
        eight = eqb-true (length x) 8 (and_right (leb k 10) (eqb (length x) 8) r);
        ten = omega (arith, sound.arrays);
      }

  pub stored : (n : ℕ) (answer : Answer) (texts : List ℕ) → n ≡ number_here → n ≡ 0 → answer ≡ blank_answer n 0 → texts ≡ put ((k - 1) * 8) (take 8 (drop 0 x)) s.texts → KeyPromised k x s answer (with_texts s texts)
  stored n answer texts e z a t =
      let c = served (sym e ∙ z) in
      promised_key k x s answer (with_texts s texts) c.0 c.1 (ap (with_texts s) (t ∙ ap (λ (ys : List ℕ). put ((k - 1) * 8) ys s.texts) (take_all 8 x (omega (arith, (among (sym e ∙ z)).eight)))))
      (a ∙ ap (λ (m : ℕ). blank_answer m 0) z)

  pub refused : (n : ℕ) (answer : Answer) → n ≡ number_here → (n ≡ 0 → ⊥) → answer ≡ blank_answer n 0 → KeyPromised k x s answer s
  refused n answer e z a = promised_key_refused k x s answer s (unserved (λ o. z (e ∙ o))) refl (a ∙ ap (λ (m : ℕ). blank_answer m 0) (e ∙ number_is))
