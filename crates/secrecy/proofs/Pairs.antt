-- P8: two accepted calls of one kind, whose bytes are equal but where both are read as printed, read in step; beside their items they move the line, or set a
-- text, alike.
use mathlib.Core.Path.{◌∙◌, ◌≡◌, ap, refl, subst, sym}
use Prim.Native.Nat.{◌+◌, ◌-◌, ℕ}
use native.Mathlib.Omega.{arith}
use mathlib.Core.Bool.{Bool, ◌&&◌, cond, false, true}
use mathlib.Core.List.{List, [], ◌∷◌}
use lib.ListN.{get_or, length}
use Rattle.model.specs.declared.Settings.{Settings}
use Rattle.model.specs.State.{State, state}
use Rattle.model.specs.Line.{held_in}
use Rattle.model.specs.Reading.{Read, gathered, lastly, remaining, uncut}
use Rattle.model.specs.Records.{uncut?}
use Rattle.calls.specs.Packs.{bodies_of, record_from}
use Rattle.model.specs.Items.{Event, apply_all, events_of, happened, line_left, reads_of}
use Rattle.model.specs.Hidden.{Hidden}
use Rattle.calls.specs.Calls.{Asked, Request, Terminal, granted, all_free, beside_items, closing, item_bytes, key_text, message, pack, packable, packed?, paints?, piece, short, short?, reads_by, reasons, record_of, request, sized, start_of, taken_by}
use Rattle.secrecy.specs.Secrecy.{AlikeStart, SameKind, closings, handed, key_texts, messages, packs, pieces, printed_at, printed_in_pack, shorts, read_as_printed, revealed}
use Rattle.model.proofs.Tests.{and_left, and_right}
use Rattle.calls.proofs.SecretRules.{blind}
use Rattle.calls.proofs.Printing.{reads_granted}
use Rattle.calls.proofs.CallLaws.{granted_sound, plain_record}
use Rattle.model.proofs.LineLaws.{held_counted}
use Rattle.secrecy.proofs.Reading.{InStep, Twins, in_step, printed_value, twins_self, value_at, whole-step}
use Rattle.secrecy.proofs.Items.{Along, along}
use Rattle.secrecy.proofs.PackValues.{printed_in_pack_lem, value_in}
use Rattle.secrecy.proofs.Packs.{TwinBodies, along_each, record_each, twin_bodies, twins_long, twins_some}

-- what two terminals share
pub hidden_of : {t₁ t₂ : Terminal} → AlikeStart t₁ t₂ → Hidden t₁.state t₂.state
hidden_of h = record { same = λ i. state (h.settings i) [] [] (h.dots i); on = h.secret }

-- which bytes are read as printed is told by the bytes
module _ (t : Terminal) (r i : ℕ) where
  value_message : (m : List ℕ) → granted t (request (message m) r) ≡ true → read_as_printed t (message m) r i ≡ value_at (uncut m) 0 i
  unfolding read_as_printed reads_by item_bytes start_of
  value_message m e = ap (λ (rs : List Read). printed_at rs i) (reads_granted t (request (message m) r) e) ∙ printed_value (uncut m) 0 t.state r i

  value_short : (m : List ℕ) → granted t (request (short m) r) ≡ true → read_as_printed t (short m) r i ≡ value_at (uncut m) 0 i
  unfolding read_as_printed reads_by item_bytes start_of
  value_short m e = ap (λ (rs : List Read). printed_at rs i) (reads_granted t (request (short m) r) e) ∙ printed_value (uncut m) 0 t.state r i

  value_pack : (p : List ℕ) → granted t (request (pack p) r) ≡ true → read_as_printed t (pack p) r i ≡ value_in (bodies_of p) i
  unfolding read_as_printed
  value_pack p e = ap (λ (b : Bool). cond b (printed_in_pack (bodies_of p) t.state r i) false) e ∙ printed_in_pack_lem (bodies_of p) t.state r i

  value_piece : (m : List ℕ) → granted t (request (piece m) r) ≡ true
      → let w = held_in t.state.settings in let n = t.state.settings.count - length w in read_as_printed t (piece m) r i ≡ value_at (gathered w m) n (n + length w + i)
  unfolding read_as_printed reads_by item_bytes start_of
  value_piece m e =
      let s : Settings = t.state.settings in
      let w : List ℕ = held_in s in
      let n : ℕ = s.count - length w in
      let p : s.count + i ≡ n + length w + i = omega (arith, held_counted s (granted_sound t (request (piece m) r) e)) in
      ap (λ (rs : List Read). printed_at rs (s.count + i)) (reads_granted t (request (piece m) r) e)
      ∙ printed_value (gathered w m) n t.state r (s.count + i) ∙ ap (value_at (gathered w m) n) p

-- an accepted pack has no cut record
granted_uncut : (t : Terminal) (p : List ℕ) (r : ℕ) → granted t (request (pack p) r) ≡ true → uncut? p ≡ true
unfolding granted reasons all_free
granted_uncut t p r e = and_left (uncut? p) _ (and_right (packable p) _ (and_right (sized t) _ e))

-- what two accepted calls have in common
pub record Paired (t₁ t₂ : Terminal) (q₁ q₂ : Request) : Type 0 where
  pub reads : Along (reads_by t₁ q₁) (reads_by t₂ q₂) t₁.state t₂.state
  pub taken : taken_by q₁.asked ≡ taken_by q₂.asked
  pub beside : {x y : State} → Hidden x y → Hidden (apply_all (beside_items t₁.state.settings q₁.asked) x) (apply_all (beside_items t₂.state.settings q₂.asked) y)
  pub records : record_of t₁ q₁ ≡ record_of t₂ q₂
  pub paint : paints? q₁.asked ≡ paints? q₂.asked
  pub short : short? q₁.asked ≡ short? q₂.asked

module _ (t₁ t₂ : Terminal) (r₁ r₂ : ℕ) (h : AlikeStart t₁ t₂) (room : r₁ ≡ r₂) where
  abbrev s₁ : Settings
  s₁ = t₁.state.settings

  abbrev s₂ : Settings
  s₂ = t₂.state.settings

  -- the same line
  same_held : held_in s₁ ≡ held_in s₂
  same_held = λ i. held_in (h.settings i)

  same_count : s₁.count ≡ s₂.count
  same_count = λ i. (h.settings i).count

  same_start : s₁.count - length (held_in s₁) ≡ s₂.count - length (held_in s₂)
  same_start = λ i. same_count i - length (same_held i)

  -- a line that both leave
  both_lined : {v w : List ℕ} {m n : ℕ} → v ≡ w → m ≡ n → {x y : State} → Hidden x y → Hidden (apply_all (line_left v m ∷ []) x) (apply_all (line_left w n ∷ []) y)
  unfolding apply_all happened
  both_lined {v} {w} {m} {n} e f {x} {y} z =
      subst (λ (es : List Event). Hidden (apply_all (line_left v m ∷ []) x) (apply_all es y)) (λ i. line_left (e i) (f i) ∷ []) ((blind x y z).lines v m)

  -- bytes that are equal but where both are read as printed
  abbrev pub Agree : Asked → Asked → Type 0
  Agree a₁ a₂ = (i : ℕ) → (read_as_printed t₁ a₁ r₁ i && read_as_printed t₂ a₂ r₂ i) ≡ false → get_or (handed a₁) i 0 ≡ get_or (handed a₂) i 0

  -- neither is a pack: no record
  no_records : (a₁ a₂ : Asked) → packed? a₁ ≡ false → packed? a₂ ≡ false → record_of t₁ (request a₁ r₁) ≡ record_of t₂ (request a₂ r₂)
  no_records a₁ a₂ e f = plain_record t₁ (request a₁ r₁) e ∙ sym (plain_record t₂ (request a₂ r₂) f)

  module _ (m₁ m₂ : List ℕ) (l : length m₁ ≡ length m₂) where
    pair-messages : let q₁ = request (message m₁) r₁ in let q₂ = request (message m₂) r₂ in
        Agree (message m₁) (message m₂) → granted t₁ q₁ ≡ true → granted t₂ q₂ ≡ true → revealed (events_of (reads_by t₁ q₁)) ≡ false → Paired t₁ t₂ q₁ q₂
    unfolding reads_by item_bytes start_of taken_by beside_items apply_all
    pair-messages a e f v = record {
      reads = along (whole-step m₁ m₂ l (λ i z. a i ((λ j. value_message t₁ r₁ i m₁ e j && value_message t₂ r₂ i m₂ f j) ∙ z))) 0 0 t₁.state t₂.state r₁ r₂ refl room (hidden_of h) v;
      taken = l;
      beside = λ z. z;
      records = no_records (message m₁) (message m₂) refl refl;
      paint = refl;
      short = refl;
    }

    pair-shorts : let q₁ = request (short m₁) r₁ in let q₂ = request (short m₂) r₂ in
        Agree (short m₁) (short m₂) → granted t₁ q₁ ≡ true → granted t₂ q₂ ≡ true → revealed (events_of (reads_by t₁ q₁)) ≡ false → Paired t₁ t₂ q₁ q₂
    unfolding reads_by item_bytes start_of taken_by beside_items apply_all
    pair-shorts a e f v = record {
      reads = along (whole-step m₁ m₂ l (λ i z. a i ((λ j. value_short t₁ r₁ i m₁ e j && value_short t₂ r₂ i m₂ f j) ∙ z))) 0 0 t₁.state t₂.state r₁ r₂ refl room (hidden_of h) v;
      taken = l;
      beside = λ z. z;
      records = no_records (short m₁) (short m₂) refl refl;
      paint = refl;
      short = refl;
    }

    -- a piece goes on where the line stands
    pair-pieces : let q₁ = request (piece m₁) r₁ in let q₂ = request (piece m₂) r₂ in
        Agree (piece m₁) (piece m₂) → granted t₁ q₁ ≡ true → granted t₂ q₂ ≡ true → revealed (events_of (reads_by t₁ q₁)) ≡ false → Paired t₁ t₂ q₁ q₂
    unfolding reads_by item_bytes start_of taken_by beside_items
    pair-pieces a e f v =
        let w : List ℕ = held_in s₁ in
        let n : ℕ = s₁.count - length w in
        let other : (i : ℕ) → read_as_printed t₂ (piece m₂) r₂ i ≡ value_at (gathered w m₂) n (n + length w + i) =
        λ i. value_piece t₂ r₂ i m₂ f ∙ sym (λ j. value_at (gathered (same_held j) m₂) (same_start j) (same_start j + length (same_held j) + i)) in
        let z : InStep w m₁ m₂ = in_step m₁ w m₂ n (granted_sound t₁ (request (piece m₁) r₁) e).line.unfinished l (λ i y. a i ((λ j. value_piece t₁ r₁ i m₁ e j && other i j) ∙ y)) in
        record {
          reads = along (subst (λ (x : List ℕ). Twins (gathered w m₁) (gathered x m₂)) same_held z.0) n (s₂.count - length (held_in s₂)) t₁.state t₂.state r₁ r₂ same_start room (hidden_of h) v;
          taken = l;
          beside = λ y. both_lined (z.1 ∙ ap (λ (x : List ℕ). remaining x m₂) same_held) (λ j. same_count j + l j) y;
          records = no_records (piece m₁) (piece m₂) refl refl;
          paint = refl;
          short = refl;
        }

  pair_closings : let q₁ = request closing r₁ in let q₂ = request closing r₂ in revealed (events_of (reads_by t₁ q₁)) ≡ false → Paired t₁ t₂ q₁ q₂
  unfolding reads_by item_bytes start_of taken_by beside_items
  pair_closings v = record {
    reads = along (subst (λ (x : List ℕ). Twins (lastly (held_in s₁)) (lastly x)) same_held (twins_self (lastly (held_in s₁)))) (s₁.count - length (held_in s₁)) (s₂.count - length (held_in s₂)) t₁.state t₂.state r₁ r₂ same_start room (hidden_of h) v;
    taken = refl;
    beside = λ y. both_lined refl refl y;
    records = no_records closing closing refl refl;
    paint = refl;
    short = refl;
  }

  -- a key call reads nothing
  pair_keys : (k : ℕ) (x₁ x₂ : List ℕ) → length x₁ ≡ length x₂ → Paired t₁ t₂ (request (key_text k x₁) r₁) (request (key_text k x₂) r₂)
  unfolding reads_by item_bytes start_of taken_by beside_items apply_all happened reads_of
  pair_keys k x₁ x₂ l = record {
    reads = hidden_of h;
    taken = refl;
    beside = λ {x} {y} z. (blind x y z).texts k x₁ x₂ l;
    records = no_records (key_text k x₁) (key_text k x₂) refl refl;
    paint = refl;
    short = refl;
  }

  pair_packs : (p₁ p₂ : List ℕ) → length p₁ ≡ length p₂ → let q₁ = request (pack p₁) r₁ in let q₂ = request (pack p₂) r₂ in
      Agree (pack p₁) (pack p₂) → granted t₁ q₁ ≡ true → granted t₂ q₂ ≡ true → revealed (events_of (reads_by t₁ q₁)) ≡ false → Paired t₁ t₂ q₁ q₂
  unfolding reads_by taken_by beside_items apply_all record_of
  pair_packs p₁ p₂ l a e f v =
      let z : TwinBodies (bodies_of p₁) (bodies_of p₂) = twin_bodies (length p₁) p₁ p₂ (omega arith) (granted_uncut t₁ p₁ r₁ e) l (λ i y. a i ((λ j. value_pack t₁ r₁ i p₁ e j && value_pack t₂ r₂ i p₂ f j) ∙ y)) in
      record {
        reads = along_each z t₁.state t₂.state r₁ r₂ room (hidden_of h) v;
        taken = twins_long z;
        beside = λ y. y;
        records = ap (λ (b : Bool). cond b (record_from 1 (bodies_of p₁) t₁.state r₁) 0) e ∙ record_each z 1 t₁.state t₂.state r₁ r₂ room (hidden_of h) v ∙ sym (ap (λ (b : Bool). cond b (record_from 1 (bodies_of p₂) t₂.state r₂) 0) f);
        paint = twins_some z;
        short = refl;
      }

  pub paired : {a₁ a₂ : Asked} → SameKind a₁ a₂ → length (handed a₁) ≡ length (handed a₂) → Agree a₁ a₂
      → let q₁ = request a₁ r₁ in let q₂ = request a₂ r₂ in granted t₁ q₁ ≡ true → granted t₂ q₂ ≡ true → revealed (events_of (reads_by t₁ q₁)) ≡ false → Paired t₁ t₂ q₁ q₂
  paired (messages {m₁} {m₂}) l a e f v = pair-messages m₁ m₂ l a e f v
  paired (pieces {m₁} {m₂}) l a e f v = pair-pieces m₁ m₂ l a e f v
  paired closings l a e f v = pair_closings v
  paired (key_texts {k} {x₁} {x₂} n) l a e f v = pair_keys k x₁ x₂ n
  paired (packs {p₁} {p₂}) l a e f v = pair_packs p₁ p₂ l a e f v
  paired (shorts {m₁} {m₂}) l a e f v = pair-shorts m₁ m₂ l a e f v
