-- The numbers of a piece and the closing, from those of the message calls that they are made of: 1 and 3 are told by the message call.
use mathlib.Core.Path.{◌∙◌, ◌≡◌, ap, refl, sym}
use Prim.Native.Nat.{ℕ}
use mathlib.Core.Bool.{Bool, false, true}
use mathlib.Core.List.{List, [], ◌∷◌}
use lib.ListN.{length}
use Rattle.model.specs.declared.Answer.{Answer}
use Rattle.model.specs.Bytes.{written}
use Rattle.model.specs.Reading.{uncut}
use Rattle.model.specs.Items.{blank_answer, lined}
use Rattle.calls.specs.Calls.{Asked, Promised, Request, Terminal, granted, called, closing, countable, first_of, item_bytes, message, none_waits, number_of, packed?, paints?, piece, reason, reasons, request, sendable, sized, sound_in, start_of, taken_by}
use Rattle.calls.specs.Claims.{count_after, waits_after}
use Rattle.calls.proofs.CallLaws.{granted_number, answer_number, left_is, refused_answer, refused_leaves, refused_number, refused_prints}
use Rattle.calls.proofs.Offsets.{further}
use Rattle.calls.proofs.PieceServings.{taking}
use Rattle.calls.proofs.Promises.{promised_none}
use Rattle.stream_parts.proofs.Pieces.{call, part_of, promised_one}

-- the number, where only 1 and 3 can be
abbrev pub one_or_three : Terminal → ℕ
one_or_three t = first_of (reason 1 (sized t) ∷ reason 3 (sound_in t) ∷ [])

four : (n : ℕ) (a b c d : Bool) → b ≡ true → d ≡ true → first_of (reason 1 a ∷ reason 2 b ∷ reason 3 c ∷ reason n d ∷ []) ≡ first_of (reason 1 a ∷ reason 3 c ∷ [])
unfolding first_of
four n a b c d e f = (λ i. first_of (reason 1 a ∷ reason 2 (e i) ∷ reason 3 c ∷ reason n (f i) ∷ [])) ∙ go a c
  where
    go : (a c : Bool) → first_of (reason 1 a ∷ reason 2 true ∷ reason 3 c ∷ reason n true ∷ []) ≡ first_of (reason 1 a ∷ reason 3 c ∷ [])
    go true true = refl
    go true false = refl
    go false c = refl

pub message_number : (t : Terminal) (m : List ℕ) → sendable m ≡ true → none_waits t.state.settings ≡ true → first_of (reasons t (message m)) ≡ one_or_three t
unfolding reasons
message_number t m e f = four 16 (sized t) (sendable m) (sound_in t) (none_waits t.state.settings) e f

pub piece_number : (t : Terminal) (m : List ℕ) → sendable m ≡ true → countable t.state.settings m ≡ true → first_of (reasons t (piece m)) ≡ one_or_three t
unfolding reasons
piece_number t m e f = four 15 (sized t) (sendable m) (sound_in t) (countable t.state.settings m) e f

pub closing_number_lem : (t : Terminal) → first_of (reasons t closing) ≡ one_or_three t
unfolding reasons
closing_number_lem t = refl

-- what is asked of t, of which only 1 and 3 can be the number, and a message call of the bytes xs that was made with q, sized and sound as t is, while none waits
module _ (t : Terminal) (a : Asked) (only : first_of (reasons t a) ≡ one_or_three t)
    (q : Terminal) (xs : List ℕ) (same_size : sized q ≡ sized t) (same_sound : sound_in q ≡ sound_in t) (few : sendable xs ≡ true) (none : none_waits q.state.settings ≡ true)
    (buffer : List ℕ) (b : Answer) (l : Terminal) (p : List ℕ) (w : Promised (called xs q buffer b l p)) where
  number_is : b.number ≡ first_of (reasons t a)
  unfolding number_of
  number_is =
      ap (λ (x : Answer). x.number) w.answer_is ∙ answer_number q (request (message xs) (length buffer)) ∙ message_number q xs few none
      ∙ (λ i. first_of (reason 1 (same_size i) ∷ reason 3 (same_sound i) ∷ [])) ∙ sym only

  -- refused: so is what is asked, by the same number, and all is as it came
  pub refused_with_lem : (b.number ≡ 0 → ⊥) → (left : Terminal) → (l ≡ q → left ≡ t) → Promised (call a t buffer b left p)
  unfolding number_of written
  refused_with_lem z left e =
      let r : Request = request (message xs) (length buffer) in
      let no : granted q r ≡ false = refused_number q r (λ k. z (ap (λ (x : Answer). x.number) w.answer_is ∙ answer_number q r ∙ k)) in
      let num : number_of q r ≡ first_of (reasons t a) = sym (ap (λ (x : Answer). x.number) w.answer_is ∙ answer_number q r) ∙ number_is in
      promised_none (call a t buffer b left p) (refused_number t (request a (length buffer)) (λ k. z (number_is ∙ k)))
      (e (left_is (called xs q buffer b l p) w ∙ refused_leaves q r no)) (w.answer_is ∙ refused_answer q r no ∙ ap (λ (k : ℕ). blank_answer k 0) num)
      (w.printer_is ∙ ap (λ (ys : List ℕ). written ys buffer) (refused_prints q r no)) refl

  -- served: what is asked is accepted
  pub granted_with : b.number ≡ 0 → granted t (request a (length buffer)) ≡ true
  unfolding number_of
  granted_with z = granted_number t (request a (length buffer)) (sym number_is ∙ z)

  -- and one part is all of it
  pub served_with : paints? a ≡ true → packed? a ≡ false → b.number ≡ 0 → (n : ℕ) → q.state ≡ lined [] n t.state → item_bytes t.state.settings a ≡ uncut xs
      → (answer : Answer) (left : Terminal) → answer ≡ taking (taken_by a) (further (start_of t.state.settings a) b)
      → left.state ≡ lined (waits_after t.state.settings a) (count_after t.state.settings a) l.state → left.shown ≡ l.shown → Promised (call a t buffer answer left p)
  served_with paints plain z n e cut answer left f g h =
      promised_one t a paints plain buffer xs cut (granted_with z) n b l p (part_of n xs t.state buffer b l p q e w z) answer left f g h
