-- P1, for the calls: a piece and the closing are made of message calls that read while none waits. What a message call promises there, of the bytes
-- of whole items, is a part of what the piece or the closing promises; one part, or two one behind the other, is all of it.
use mathlib.Core.Path.{◌∙◌, ◌≡◌, ap, refl, subst, sym}
use Prim.Native.Nat.{◌+◌, ◌-◌, ℕ}
use mathlib.Core.Bool.{Bool, ◌&&◌, cond, false, true}
use mathlib.Core.List.{List, [], ◌++◌, ◌∷◌}
use lib.ListN.{drop, length}
use Rattle.model.specs.declared.Answer.{Answer}
use Rattle.model.specs.declared.Settings.{Settings}
use Rattle.model.specs.Bytes.{written}
use Rattle.model.specs.State.{State, with_line}
use Rattle.model.specs.Checks.{in_ranges?, range}
use Rattle.model.specs.Screens.{base, cell_at, columns_of, height, line_at, lines_of, place_of, screens, text_rows}
use Rattle.model.specs.Line.{held_in, line?}
use Rattle.model.specs.Sound.{alone_ranges, array_ranges, inside?, inside_ranges, key_ranges, marks?, other_ranges, plain_ranges, second?, shape_ranges, sound?}
use Rattle.model.specs.Picture.{covered, halves, painting, picture, picture_at, sides, text_at, under, window_at}
use Rattle.model.specs.Reading.{Read, gathered, remaining, uncut}
use Rattle.model.specs.Rules.{with_settings}
use Rattle.calls.specs.Packs.{reads_each}
use Rattle.model.specs.Items.{apply_all, blank_answer, copies, counted_all, events_of, lined, reads_of}
use Rattle.calls.specs.Calls.{Asked, Call, Promised, Request, Terminal, granted, answer_of, beside_items, called, first_of, item_bytes, message, number_of, packed?, packed_by, paints?, piece, printed_by, reads_by, reasons, request, served, start_of, taken_by}
use Rattle.calls.specs.Claims.{count_after, waits_after}
use Rattle.model.specs.Answers.{together}
use Rattle.calls.proofs.CallLaws.{granted_answer, granted_number, granted-painted, granted_prints, answer_number, left_is, plain_record, refused_number}
use Rattle.calls.proofs.LineAfter.{leaves, leaves_lined}
use Rattle.laws.proofs.Lined.{applied-lined, copies_lined, reads_lined}
use Rattle.calls.proofs.Offsets.{further}
use Rattle.calls.proofs.PieceServings.{items_of, later_counts, later_prints, later_state, piece_answer, piece_prints, piece_state, prints_in, state_of, taking, taking_all, written_twice}
use Rattle.calls.proofs.Printing.{printed_is}
use Rattle.calls.proofs.Promises.{promised_by, promised_none}

-- a call of any kind but a pack, from its parts
abbrev pub call : Asked → Terminal → List ℕ → Answer → Terminal → List ℕ → Call
call a given buffer answer left printer = record { asked = a; given = given; left = left; answer = answer; in_record = 0; buffer = buffer; printer = printer }

-- what a message call of the bytes xs gave where none waited and the count was n: the items of xs from what stands, st, whatever waits there
pub record Part (n : ℕ) (xs : List ℕ) (st : State) (buffer : List ℕ) (a : Answer) (l : Terminal) (p : List ℕ) : Type 0 where
  pub answer_is : a ≡ counted_all (items_of xs st (length buffer)) (blank_answer 0 (length xs))
  pub state_is : l.state ≡ lined [] n (state_of xs st (length buffer))
  pub shown_is : l.shown ≡ painting l.state
  pub printer_is : p ≡ written (prints_in xs st (length buffer)) buffer
  pub printed_is : a.printed ≡ length (prints_in xs st (length buffer))

module _ (n : ℕ) (xs : List ℕ) (st : State) (buffer : List ℕ) (a : Answer) (l : Terminal) (p : List ℕ) where
  abbrev room : ℕ
  room = length buffer

  -- the same read of the quiet state
  items_quiet : reads_of (uncut xs) 0 (lined [] n st) room ≡ items_of xs st room
  items_quiet = reads_lined [] n (uncut xs) 0 st room

  quiet_state : apply_all (events_of (reads_of (uncut xs) 0 (lined [] n st) room)) (lined [] n st) ≡ lined [] n (state_of xs st room)
  quiet_state = ap (λ (rs : List Read). apply_all (events_of rs) (lined [] n st)) items_quiet ∙ applied-lined [] n (items_of xs st room) st

  quiet_prints : copies (events_of (reads_of (uncut xs) 0 (lined [] n st) room)) (lined [] n st) ≡ prints_in xs st room
  quiet_prints = ap (λ (rs : List Read). copies (events_of rs) (lined [] n st)) items_quiet ∙ copies_lined [] n (items_of xs st room) st

  -- a message call that was served there is a part
  pub part_of : (g : Terminal) → g.state ≡ lined [] n st → Promised (called xs g buffer a l p) → a.number ≡ 0 → Part n xs st buffer a l p
  unfolding reads_by item_bytes start_of beside_items taken_by apply_all
  part_of g e w z =
      let q : Request = request (message xs) room in
      let ok : granted g q ≡ true = granted_number g q (sym (ap (λ (x : Answer). x.number) w.answer_is ∙ answer_number g q) ∙ z) in
      let left : l ≡ served g q = left_is (called xs g buffer a l p) w in
      let prints : printed_by g q ≡ prints_in xs st room = granted_prints g q ok ∙ ap (λ (x : State). copies (events_of (reads_of (uncut xs) 0 x room)) x) e ∙ quiet_prints in
      record {
        answer_is = w.answer_is ∙ granted_answer g q ok ∙ ap (λ (x : State). counted_all (reads_of (uncut xs) 0 x room) (blank_answer 0 (length xs))) e ∙ ap (λ (rs : List Read). counted_all rs (blank_answer 0 (length xs))) items_quiet;
        state_is = ap (λ (x : Terminal). x.state) left ∙ leaves g q ok ∙ ap (λ (x : State). apply_all (events_of (reads_of (uncut xs) 0 x room)) x) e ∙ quiet_state;
        shown_is = subst (λ (x : Terminal). x.shown ≡ painting x.state) (sym (left ∙ granted-painted g q ok refl)) refl;
        printer_is = w.printer_is ∙ ap (λ (ys : List ℕ). written ys buffer) prints;
        printed_is = ap (λ (x : Answer). x.printed) w.answer_is ∙ printed_is g q ∙ ap length prints;
      }

-- a line over a line
lined_twice : (w : List ℕ) (n : ℕ) (v : List ℕ) (k : ℕ) (st : State) → lined w n (lined v k st) ≡ lined w n st
unfolding lined with_settings
lined_twice w n v k st = refl

-- no picture looks at the line
painting-lined : (w : List ℕ) (n : ℕ) (st : State) → painting (lined w n st) ≡ painting st
unfolding painting picture picture_at covered under text_at halves sides window_at cell_at line_at base columns_of place_of text_rows lined with_settings
painting-lined w n st = refl

-- what one part is all of: a call, no pack, whose items are the bytes xs, cut
module _ (t : Terminal) (a : Asked) (paints : paints? a ≡ true) (plain : packed? a ≡ false) (buffer : List ℕ) (xs : List ℕ) (cut : item_bytes t.state.settings a ≡ uncut xs) (ok : granted t (request a (length buffer)) ≡ true) where
  abbrev s : Settings
  s = t.state.settings

  abbrev start : ℕ
  start = start_of s a

  one_read : reads_by t (request a (length buffer)) ≡ reads_of (uncut xs) start t.state (length buffer)
  unfolding reads_by
  one_read =
      ap (λ (b : Bool). cond b (reads_each (packed_by a) t.state (length buffer)) (reads_of (item_bytes s a) start t.state (length buffer))) plain
      ∙ ap (λ (l : List (List ℕ)). reads_of l start t.state (length buffer)) cut

  one_state : (served t (request a (length buffer))).state ≡ lined (waits_after s a) (count_after s a) (state_of xs t.state (length buffer))
  one_state =
      leaves_lined t a (length buffer) ok paints
      ∙ ap (lined (waits_after s a) (count_after s a)) (ap (λ (rs : List Read). apply_all (events_of rs) t.state) one_read ∙ later_state start xs t.state (length buffer))

  one_answer : (n : ℕ) → answer_of t (request a (length buffer)) ≡ taking (taken_by a) (further start (counted_all (items_of xs t.state (length buffer)) (blank_answer 0 n)))
  one_answer n =
      granted_answer t (request a (length buffer)) ok ∙ ap (λ (rs : List Read). counted_all rs (blank_answer 0 (taken_by a))) one_read
      ∙ sym (taking_all (taken_by a) (reads_of (uncut xs) start t.state (length buffer)) (blank_answer 0 n)) ∙ ap (taking (taken_by a)) (later_counts start xs t.state (length buffer) n)

  one_prints : printed_by t (request a (length buffer)) ≡ prints_in xs t.state (length buffer)
  one_prints =
      granted_prints t (request a (length buffer)) ok ∙ ap (λ (rs : List Read). copies (events_of rs) t.state) one_read ∙ later_prints start xs t.state (length buffer)

  pub promised_one : (n : ℕ) (b : Answer) (l : Terminal) (p : List ℕ) → Part n xs t.state buffer b l p
      → (answer : Answer) (left : Terminal) → answer ≡ taking (taken_by a) (further start b) → left.state ≡ lined (waits_after s a) (count_after s a) l.state → left.shown ≡ l.shown
      → Promised (call a t buffer answer left p)
  promised_one n b l p w answer left e f g =
      let made : left.state ≡ lined (waits_after s a) (count_after s a) (state_of xs t.state (length buffer)) =
      f ∙ ap (lined (waits_after s a) (count_after s a)) w.state_is ∙ lined_twice (waits_after s a) (count_after s a) [] n (state_of xs t.state (length buffer)) in
      promised_by (call a t buffer answer left p) ok paints (made ∙ sym one_state)
      (g ∙ w.shown_is ∙ sym (ap painting f ∙ painting-lined (waits_after s a) (count_after s a) l.state))
      (e ∙ ap (λ (x : Answer). taking (taken_by a) (further start x)) w.answer_is ∙ sym (one_answer (length xs)))
      (w.printer_is ∙ ap (λ (ys : List ℕ). written ys buffer) (sym one_prints)) (sym (plain_record t (request a (length buffer)) plain))

-- what two parts are all of: a piece whose items are those of xs and then those of ys
module _ (t : Terminal) (m : List ℕ) (buffer : List ℕ) (xs ys : List ℕ) (cut : gathered (held_in t.state.settings) m ≡ uncut xs ++ uncut ys) (ok : granted t (request (piece m) (length buffer)) ≡ true) where
  abbrev sₚ : Settings
  sₚ = t.state.settings

  abbrev from : ℕ
  from = sₚ.count - length (held_in sₚ)

  abbrev st₁ : State
  st₁ = state_of xs t.state (length buffer)

  abbrev p₁ : List ℕ
  p₁ = prints_in xs t.state (length buffer)

  pub promised_two : (n : ℕ) (b₁ b₂ : Answer) (l₁ l₂ : Terminal) (q₁ q₂ : List ℕ) → Part n xs t.state buffer b₁ l₁ q₁ → Part n ys st₁ (drop (length p₁) buffer) b₂ l₂ q₂ → length (drop (length p₁) buffer) ≡ length buffer - length p₁
      → (answer : Answer) (left : Terminal) → answer ≡ taking (length m) (together (further from b₁) (further (from + length xs) b₂)) → left.state ≡ lined (remaining (held_in sₚ) m) (sₚ.count + length m) l₂.state → left.shown ≡ l₂.shown
      → Promised (call (piece m) t buffer answer left (p₁ ++ q₂))
  promised_two n b₁ b₂ l₁ l₂ q₁ q₂ v w size answer left e f g =
      let w' : List ℕ = remaining (held_in sₚ) m in
      let k : ℕ = sₚ.count + length m in
      let room₂ : ℕ = length buffer - length p₁ in
      let made : left.state ≡ lined w' k (state_of ys st₁ room₂) =
      f ∙ ap (lined w' k) (w.state_is ∙ ap (λ (r : ℕ). lined [] n (state_of ys st₁ r)) size) ∙ lined_twice w' k [] n (state_of ys st₁ room₂) in
      let second : b₂ ≡ counted_all (items_of ys st₁ room₂) (blank_answer 0 (length ys)) = w.answer_is ∙ ap (λ (r : ℕ). counted_all (items_of ys st₁ r) (blank_answer 0 (length ys))) size in
      promised_by (call (piece m) t buffer answer left (p₁ ++ q₂)) ok refl (made ∙ sym (piece_state t m (length buffer) xs ys cut ok))
      (g ∙ w.shown_is ∙ sym (ap painting f ∙ painting-lined w' k l₂.state))
      (e ∙ (λ i. taking (length m) (together (further from (v.answer_is i)) (further (from + length xs) (second i)))) ∙ sym (piece_answer t m (length buffer) xs ys cut ok (length xs) (length ys)))
      (ap (λ (l : List ℕ). p₁ ++ l) (w.printer_is ∙ ap (λ (r : ℕ). written (prints_in ys st₁ r) (drop (length p₁) buffer)) size) ∙ written_twice p₁ (prints_in ys st₁ room₂) buffer
      ∙ ap (λ (zs : List ℕ). written zs buffer) (sym (piece_prints t m (length buffer) xs ys cut ok))) (sym (plain_record t (request (piece m) (length buffer)) refl))

-- refused by its number: all as it came
pub promised_not : (a : Asked) (t : Terminal) (buffer : List ℕ) (n : ℕ) (answer : Answer) → n ≡ first_of (reasons t a) → (n ≡ 0 → ⊥) → answer ≡ blank_answer n 0 → Promised (call a t buffer answer t buffer)
unfolding number_of
promised_not a t buffer n answer e z w =
    promised_none (call a t buffer answer t buffer) (refused_number t (request a (length buffer)) (λ k. z (e ∙ k))) refl (w ∙ ap (λ (k : ℕ). blank_answer k 0) e) refl refl

-- soundness apart from the line: two sound lines, and the same settings otherwise
pub sound_either : (s : Settings) (w : List ℕ) (h n : ℕ) (w' : List ℕ) (h' n' : ℕ) → length w ≡ 12 → length w' ≡ 12 → line? w h n ≡ true → line? w' h' n' ≡ true → sound? (with_line s w h n) ≡ sound? (with_line s w' h' n')
unfolding sound? array_ranges shape_ranges other_ranges plain_ranges key_ranges inside? second? alone_ranges inside_ranges marks? lines_of columns_of height screens text_rows place_of
sound_either s w h n w' h' n' e e' f f' = (λ i. body (e i) (f i)) ∙ (λ i. body (sym e' i) (sym f' i))
  where
    body : ℕ → Bool → Bool
    body k b =
        in_ranges? (range 2 (length s.places) 2 ∷ range 3 (length s.keys.leds) 3 ∷ range 12 (length s.keys.arrows) 12 ∷ range 248 (length s.patterns) 248 ∷ range 12 k 12 ∷ range 80 (length s.texts) 80 ∷ range 2 (length s.marks) 2 ∷ [])
        && (in_ranges? (shape_ranges s.mode s.lines1 s.lines2 s.columns1 s.columns2)
        && (in_ranges? (other_ranges (screens s) s.selected s.step (height s)) && (in_ranges? (plain_ranges s) && (inside? s 0 && (second? s && (b && (marks? s 0 && marks? s 1)))))))
