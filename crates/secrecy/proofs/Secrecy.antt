-- P8, nothing seen in secret mode: what is equal at the start (AlikeStart) is equal after every call, and so is all that is seen of it. A call that is refused in
-- one run reads nothing there, so its bytes are the same in both, and it is refused in the other by the same number; two that are accepted are
-- paired (Pairs).
use mathlib.Core.Path.{◌∙◌, ◌≡◌, ap, refl, subst, sym}
use Prim.Native.Nat.{◌+◌, ℕ}
use mathlib.Core.Bool.{Bool, ◌&&◌, cond, false, true}
use mathlib.Core.List.{List, [], ◌∷◌}
use lib.ListN.{get_or, length}
use lib.Seq.{ext_get_or}
use lib.Dec.{eqb, leb}
use Rattle.model.specs.Bytes.{list_from, written}
use Rattle.model.specs.State.{State}
use Rattle.model.specs.Sound.{Good}
use Rattle.model.specs.Picture.{painting, picture}
use Rattle.model.specs.Records.{uncut?}
use Rattle.calls.specs.Packs.{bodies_of}
use Rattle.model.specs.Rules.{with_settings}
use Rattle.model.specs.Items.{blank_answer, counted_all, events_of, texted}
use Rattle.calls.specs.Repaint.{painted?, repainted, shown_behind}
use Rattle.model.specs.Hidden.{Hidden}
use Rattle.calls.specs.Calls.{Asked, Call, Promised, Reason, Request, Terminal, granted, all_free, answer_of, beside_items, closing, countable, events_by, events_in, first_of, key_text, known_in, message, none_waits, number_of, pack, packable, paints?, piece, printed_by, short, short?, reads_by, reads_in, reason, reasons, record_of, request, request_of, served, sendable, sendable_in, sized, sound_in, taken_by}
use Rattle.model.specs.Keyable.{keyable}
use Rattle.calls.specs.Lists.{Made, Nth, events_over, first, later, next, requests}
use Rattle.secrecy.specs.Secrecy.{Alike, AlikeCalls, AlikeStart, SameKind, SameSeen, Secrecy, closings, handed, in_both, key_texts, messages, packs, pair, pieces, printed_at, printed_in_pack, shorts, read_as_printed, revealed}
use Rattle.calls.proofs.SecretRules.{blind}
use Rattle.model.proofs.Events.{good_all}
use Rattle.calls.proofs.CallLaws.{granted_answer, granted_leaves, granted-pack, granted_prints, granted_short, granted_sized, granted_sound, after, left_is, legal_in, refused_answer, refused_leaves, refused_prints, refused_record, sizes, state_served}
use Rattle.calls.proofs.LineAfter.{leaves, leaves_texted}
use Rattle.calls.proofs.Printing.{part_is}
use Rattle.secrecy.proofs.Items.{along_copies, along_counts, along_end, along_places, along_wide, revealed_append}
use Rattle.secrecy.proofs.Refusals.{same_reasons}
use Rattle.secrecy.proofs.Pairs.{Paired, hidden_of, paired}

-- a refused call reads nothing as printed
none_read : (t : Terminal) (a : Asked) (r i : ℕ) → granted t (request a r) ≡ false → read_as_printed t a r i ≡ false
unfolding read_as_printed reads_in printed_at
none_read t (message m) r i e = ap (λ (b : Bool). printed_at (cond b (reads_by t (request (message m) r)) []) i) e
none_read t (piece m) r i e = ap (λ (b : Bool). printed_at (cond b (reads_by t (request (piece m) r)) []) (t.state.settings.count + i)) e
none_read t closing r i e = refl
none_read t (key_text k x) r i e = refl
none_read t (pack p) r i e = ap (λ (b : Bool). cond b (printed_in_pack (bodies_of p) t.state r i) false) e
none_read t (short m) r i e = ap (λ (b : Bool). printed_at (cond b (reads_by t (request (short m) r)) []) i) e

-- an accepted call leaves its stores as long as they were
module _ (t : Terminal) (r : ℕ) where
  kept_good : (a : Asked) → granted t (request a r) ≡ true → sized t ≡ true
      → let u = served t (request a r) in (length u.state.cells ≡ length t.state.cells) × (length u.state.layer ≡ length t.state.layer)
  kept_good a e z =
      let q : Request = request a r in
      let g : Good t.state = (sizes t z (granted_sound t q e)).0 in
      let n : Good (served t q).state = subst Good (sym (state_served t q)) (good_all (events_in t q) t.state g (legal_in t q)) in
      (n.cells_are ∙ sym g.cells_are, n.layer_are ∙ sym g.layer_are)

  kept_sizes : (a : Asked) → granted t (request a r) ≡ true → let u = served t (request a r) in (length u.state.cells ≡ length t.state.cells) × (length u.state.layer ≡ length t.state.layer)
  unfolding texted with_settings
  kept_sizes (message m) e = kept_good (message m) e (granted_sized t (request (message m) r) e refl)
  kept_sizes (piece m) e = kept_good (piece m) e (granted_sized t (request (piece m) r) e refl)
  kept_sizes closing e = kept_good closing e (granted_sized t (request closing r) e refl)
  kept_sizes (key_text k x) e =
      let z = leaves_texted t k x r e in
      (ap (λ (u : Terminal). length u.state.cells) z, ap (λ (u : Terminal). length u.state.layer) z)
  kept_sizes (pack p) e = kept_good (pack p) e (granted-pack t p r e).0
  kept_sizes (short m) e = kept_good (short m) e (granted_short t m r e).0

-- places that are painted from equal pictures
same_painting : (a b : State) → picture a ≡ picture b → painting a ≡ painting b
unfolding painting
same_painting a b e = ap (λ (f : ℕ → ℕ). list_from f 0 640) e

same_repainted : (a b : State) {w v : Bool} {ps qs sh th : List ℕ} → picture a ≡ picture b → w ≡ v → ps ≡ qs → sh ≡ th → repainted w ps a sh ≡ repainted v qs b th
unfolding repainted
same_repainted a b e f g h = ap (λ (f : ℕ → ℕ). list_from f 0 640) (λ i p. cond (painted? (f i) (g i) p) (e i p) (get_or (h i) p 0))

-- what an accepted call leaves shown
abbrev glass : Terminal → Request → State → List ℕ
glass t q st = cond (paints? q.asked) (painting st) (cond (short? q.asked) (shown_behind (reads_by t q) t.state st t.shown) t.shown)

shown_by : (t : Terminal) (q : Request) → granted t q ≡ true → (served t q).shown ≡ glass t q (served t q).state
unfolding after
shown_by t q e = subst (λ (x : Terminal). x.shown ≡ glass t q x.state) (sym (granted_leaves t q e)) refl

-- what two calls give
record Given (t₁ t₂ : Terminal) (q₁ q₂ : Request) : Type 0 where
  after_both : AlikeStart (served t₁ q₁) (served t₂ q₂)
  answer : answer_of t₁ q₁ ≡ answer_of t₂ q₂
  in_record : record_of t₁ q₁ ≡ record_of t₂ q₂
  printed : printed_by t₁ q₁ ≡ printed_by t₂ q₂

module _ (t₁ t₂ : Terminal) (a₁ a₂ : Asked) (r₁ r₂ : ℕ) (h : AlikeStart t₁ t₂) (k : SameKind a₁ a₂) (room : r₁ ≡ r₂) (long : length (handed a₁) ≡ length (handed a₂))
    (b : (i : ℕ) → (read_as_printed t₁ a₁ r₁ i && read_as_printed t₂ a₂ r₂ i) ≡ false → get_or (handed a₁) i 0 ≡ get_or (handed a₂) i 0) where
  abbrev q₁ : Request
  q₁ = request a₁ r₁

  abbrev q₂ : Request
  q₂ = request a₂ r₂

  -- where one is refused the bytes are the same
  bytes_same : (granted t₁ q₁ && granted t₂ q₂) ≡ false → handed a₁ ≡ handed a₂
  bytes_same n = ext_get_or 0 (handed a₁) (handed a₂) long (λ i l. b i (neither i (granted t₁ q₁) refl (granted t₂ q₂) refl n))
    where
      and-false : (x y : Bool) → y ≡ false → (x && y) ≡ false
      and-false true y e = e
      and-false false y e = refl

      neither : (i : ℕ) (x : Bool) → granted t₁ q₁ ≡ x → (y : Bool) → granted t₂ q₂ ≡ y → (x && y) ≡ false → (read_as_printed t₁ a₁ r₁ i && read_as_printed t₂ a₂ r₂ i) ≡ false
      neither i true e y f n = and-false (read_as_printed t₁ a₁ r₁ i) (read_as_printed t₂ a₂ r₂ i) (none_read t₂ a₂ r₂ i (f ∙ n))
      neither i false e y f n = ap (λ (x : Bool). x && read_as_printed t₂ a₂ r₂ i) (none_read t₁ a₁ r₁ i e)

  same_when : (granted t₁ q₁ && granted t₂ q₂) ≡ false → reasons t₁ a₁ ≡ reasons t₂ a₂
  same_when n = same_reasons h k (bytes_same n)

  -- a refused one changes nothing
  when_refused : reasons t₁ a₁ ≡ reasons t₂ a₂ → granted t₁ q₁ ≡ false → granted t₂ q₂ ≡ false → Given t₁ t₂ q₁ q₂
  unfolding number_of
  when_refused n e f = record {
    after_both = subst (λ (x : Terminal). AlikeStart x (served t₂ q₂)) (sym (refused_leaves t₁ q₁ e)) (subst (AlikeStart t₁) (sym (refused_leaves t₂ q₂ f)) h);
    answer = refused_answer t₁ q₁ e ∙ ap (λ (rs : List Reason). blank_answer (first_of rs) 0) n ∙ sym (refused_answer t₂ q₂ f);
    in_record = refused_record t₁ q₁ e ∙ sym (refused_record t₂ q₂ f);
    printed = refused_prints t₁ q₁ e ∙ sym (refused_prints t₂ q₂ f);
  }

  -- two that are accepted
  module _ (v : revealed (events_in t₁ q₁) ≡ false) (e : granted t₁ q₁ ≡ true) (f : granted t₂ q₂ ≡ true) where
    quiet : revealed (events_of (reads_by t₁ q₁)) ≡ false
    unfolding events_in events_by
    quiet = (revealed_append (events_of (reads_by t₁ q₁)) (beside_items t₁.state.settings a₁) (ap (λ (b : Bool). revealed (cond b (events_by t₁ q₁) [])) (sym e) ∙ v)).0

    both : Paired t₁ t₂ q₁ q₂
    both = paired t₁ t₂ r₁ r₂ h room k long b e f quiet

    hidden : Hidden (served t₁ q₁).state (served t₂ q₂).state
    hidden =
        subst (λ (x : State). Hidden x (served t₂ q₂).state) (sym (leaves t₁ q₁ e)) (subst (Hidden _) (sym (leaves t₂ q₂ f)) (both.beside (along_end (reads_by t₁ q₁) (reads_by t₂ q₂) t₁.state t₂.state both.reads)))

    same_shown : (served t₁ q₁).shown ≡ (served t₂ q₂).shown
    same_shown =
        let x : State = (served t₁ q₁).state in
        let y : State = (served t₂ q₂).state in
        let p : picture x ≡ picture y = (blind x y hidden).pictures in
        let wide = along_wide (reads_by t₁ q₁) (reads_by t₂ q₂) t₁.state t₂.state both.reads in
        let places = along_places (reads_by t₁ q₁) (reads_by t₂ q₂) t₁.state t₂.state both.reads in
        shown_by t₁ q₁ e ∙ (λ i. cond (both.paint i) (same_painting x y p i) (cond (both.short i) (same_repainted x y p wide places h.shown i) (h.shown i))) ∙ sym (shown_by t₂ q₂ f)

    when_granted : Given t₁ t₂ q₁ q₂
    when_granted = record {
      after_both = record {
        settings = λ i. (hidden.same i).settings;
        dots = λ i. (hidden.same i).dots;
        shown = same_shown;
        cells = (kept_sizes t₁ r₁ a₁ e).0 ∙ h.cells ∙ sym (kept_sizes t₂ r₂ a₂ f).0;
        layer = (kept_sizes t₁ r₁ a₁ e).1 ∙ h.layer ∙ sym (kept_sizes t₂ r₂ a₂ f).1;
        secret = hidden.on;
      };
      answer = granted_answer t₁ q₁ e ∙ along_counts (reads_by t₁ q₁) (reads_by t₂ q₂) t₁.state t₂.state (blank_answer 0 (taken_by a₁)) both.reads
          ∙ ap (λ (n : ℕ). counted_all (reads_by t₂ q₂) (blank_answer 0 n)) both.taken ∙ sym (granted_answer t₂ q₂ f);
      in_record = both.records;
      printed = granted_prints t₁ q₁ e ∙ along_copies (reads_by t₁ q₁) (reads_by t₂ q₂) t₁.state t₂.state both.reads ∙ sym (granted_prints t₂ q₂ f);
    }

  given_both : revealed (events_in t₁ q₁) ≡ false → Given t₁ t₂ q₁ q₂
  unfolding granted
  given_both v = go (granted t₁ q₁) refl (granted t₂ q₂) refl
    where
      go : (x : Bool) → granted t₁ q₁ ≡ x → (y : Bool) → granted t₂ q₂ ≡ y → Given t₁ t₂ q₁ q₂
      go true e true f = when_granted v e f
      go true e false f =
          let n = same_when (λ i. e i && f i) in
          when_refused n (ap all_free n ∙ f) f
      go false e y f =
          let n = same_when (ap (λ (x : Bool). x && granted t₂ q₂) e) in
          when_refused n e (ap all_free (sym n) ∙ e)

-- one call that keeps its promise
module _ (c₁ c₂ : Call) (p₁ : Promised c₁) (p₂ : Promised c₂) (h : AlikeStart c₁.given c₂.given) (a : Alike c₁ c₂) (v : revealed (events_in c₁.given (request_of c₁)) ≡ false) where
  give : Given c₁.given c₂.given (request_of c₁) (request_of c₂)
  unfolding in_both
  give = given_both c₁.given c₂.given c₁.asked c₂.asked (length c₁.buffer) (length c₂.buffer) h a.kind a.room a.long a.bytes v

  left_alike : AlikeStart c₁.left c₂.left
  left_alike = subst (λ (x : Terminal). AlikeStart x c₂.left) (sym (left_is c₁ p₁)) (subst (AlikeStart _) (sym (left_is c₂ p₂)) give.after_both)

  seen : SameSeen c₁ c₂
  seen = record {
    shown = left_alike.shown;
    printed = part_is c₁ p₁ ∙ give.printed ∙ sym (part_is c₂ p₂);
    buffers = λ e. p₁.printer_is ∙ (λ i. written (give.printed i) (e i)) ∙ sym p₂.printer_is;
    answer = p₁.answer_is ∙ give.answer ∙ sym p₂.answer_is;
    in_record = p₁.record_is ∙ give.in_record ∙ sym p₂.record_is;
    dots = left_alike.dots;
    settings = left_alike.settings;
    on = left_alike.secret;
  }

-- and a list of them
module _ (t₁ t₂ : Terminal) (c₁ c₂ : Call) (cs : List Call) (g₁ : c₁.given ≡ t₁) (g₂ : c₂.given ≡ t₂) (p₁ : Promised c₁) (h : AlikeStart t₁ t₂) (v : revealed (events_over t₁ (requests (c₁ ∷ cs))) ≡ false) where
  start_given : AlikeStart c₁.given c₂.given
  start_given = subst (λ (x : Terminal). AlikeStart x c₂.given) (sym g₁) (subst (AlikeStart t₁) (sym g₂) h)

  quiet_parts : (revealed (events_in c₁.given (request_of c₁)) ≡ false) × (revealed (events_over c₁.left (requests cs)) ≡ false)
  unfolding events_over
  quiet_parts =
      let z = revealed_append (events_in t₁ (request_of c₁)) (events_over (served t₁ (request_of c₁)) (requests cs)) v in (
        ap (λ (x : Terminal). revealed (events_in x (request_of c₁))) g₁ ∙ z.0,
        ap (λ (x : Terminal). revealed (events_over x (requests cs))) (left_is c₁ p₁ ∙ ap (λ (x : Terminal). served x (request_of c₁)) g₁) ∙ z.1,
      )

all : {t₁ t₂ : Terminal} {cs₁ cs₂ : List Call} → Made t₁ cs₁ → Made t₂ cs₂ → AlikeStart t₁ t₂ → AlikeCalls cs₁ cs₂ → revealed (events_over t₁ (requests cs₁)) ≡ false
    → {n : ℕ} {d₁ d₂ : Call} → Nth n cs₁ d₁ → Nth n cs₂ d₂ → SameSeen d₁ d₂
all {t₁} {t₂} (next {c = c₁} {cs = cs₁} g₁ p₁ m₁) (next {c = c₂} g₂ p₂ m₂) h (pair a rest) v first first =
    seen c₁ c₂ p₁ p₂ (start_given t₁ t₂ c₁ c₂ cs₁ g₁ g₂ p₁ h v) a (quiet_parts t₁ t₂ c₁ c₂ cs₁ g₁ g₂ p₁ h v).0
all {t₁} {t₂} (next {c = c₁} {cs = cs₁} g₁ p₁ m₁) (next {c = c₂} g₂ p₂ m₂) h (pair a rest) v (later x) (later y) =
    let z = quiet_parts t₁ t₂ c₁ c₂ cs₁ g₁ g₂ p₁ h v in
    all m₁ m₂ (left_alike c₁ c₂ p₁ p₂ (start_given t₁ t₂ c₁ c₂ cs₁ g₁ g₂ p₁ h v) a z.0) rest z.1 x y
all {t₂ = t₂} {cs₂ = cs₂} (Made.none {t = t}) _ h _ v {n = n} {d₁ = d₁} {d₂ = d₂} x _ = elim x [ ]
all {t₂ = t₂} (next {t = t} {c = c₁} {cs = cs₁} g₁ p₁ m₁) Made.none h x v {n = n} {d₁ = d₁} {d₂ = d₂} _ _ = elim x [ ]

pub secrecy : Secrecy
secrecy t₁ t₂ cs₁ cs₂ r n c₁ c₂ x y = all r.made₁ r.made₂ r.start r.calls r.hidden x y
