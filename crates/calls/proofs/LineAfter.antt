-- P1: what an accepted call leaves of the line (a key call and a pack leave it alone), and that every byte that waited or was sent belongs to one item, or waits.
use mathlib.Core.Path.{◌∙◌, ◌≡◌, ap, refl, sym}
use Prim.Native.Nat.{ℕ}
use native.Mathlib.Omega.{arith}
use mathlib.Core.Bool.{Bool, cond, false, true}
use mathlib.Core.List.{List, [], ◌++◌, append-nil}
use lib.ListN.{length, take}
use Rattle.model.specs.declared.Settings.{Settings}
use Rattle.model.specs.Bytes.{joined}
use Rattle.model.specs.State.{State, with_line}
use Rattle.model.specs.Line.{held_in}
use Rattle.model.specs.Sound.{Sound, array_ranges}
use Rattle.model.specs.Picture.{painting}
use Rattle.model.specs.Reading.{Read, lastly, uncut}
use Rattle.calls.specs.Packs.{bodies_of, reads_each, some?}
use Rattle.model.specs.Rules.{with_settings}
use Rattle.model.specs.Items.{Event, apply_all, bytes_read, events_of, happened, lined, reads_of, texted}
use Rattle.calls.specs.Calls.{Asked, Request, Terminal, granted, closing, events_by, item_bytes, beside_items, key_text, message, pack, packed?, paints?, piece, short, reads_by, reads_in, request, sent_by, served}
use Rattle.calls.specs.Claims.{count_after, waits_after}
use Rattle.model.proofs.Tests.{differ}
use Rattle.model.proofs.Gathering.{all_bytes_lem, joined_last, joined_uncut}
use Rattle.model.proofs.LineLaws.{front_padded, held_length, padded_held}
use Rattle.laws.proofs.Lined.{applied-lined}
use Rattle.model.proofs.Events.{apply_append}
use Rattle.calls.proofs.Printing.{bytes_asked}
use Rattle.calls.proofs.CallLaws.{granted_leaves, granted-pack, granted_short, granted_quiet, granted_sound, after, refused_leaves}

-- a line that is left is the one that stands then
pub held_lined : (w : List ℕ) (n : ℕ) (st : State) → held_in (lined w n st).settings ≡ w
unfolding lined with_settings
held_lined w n st = front_padded w

pub count_lined : (w : List ℕ) (n : ℕ) (st : State) → (lined w n st).settings.count ≡ n
unfolding lined with_settings
count_lined w n st = refl

-- what stands with a sound line has that line
pub self_lined : (st : State) → Sound st.settings → lined (held_in st.settings) st.settings.count st ≡ st
unfolding lined with_settings array_ranges
self_lined st h =
    let s = st.settings in
    let e : length s.waiting ≡ 12 = omega (arith, h.arrays.1.1.1.1.0) in
    (λ i. with_settings (with_line s (padded_held s.waiting s.held s.count h.line e i) (held_length s.waiting s.held s.count h.line e i) s.count) st)

-- items leave the line
pub items_leave : (rs : List Read) (st : State) → Sound st.settings → apply_all (events_of rs) st ≡ lined (held_in st.settings) st.settings.count (apply_all (events_of rs) st)
items_leave rs st h = ap (apply_all (events_of rs)) (sym (self_lined st h)) ∙ applied-lined (held_in st.settings) st.settings.count rs st

-- an accepted call leaves the waiting bytes and the count that it is said to
module _ (t : Terminal) where
  abbrev s : Settings
  s = t.state.settings

  -- what it leaves: the items, then the line
  pub leaves : (q : Request) → granted t q ≡ true → (served t q).state ≡ apply_all (beside_items s q.asked) (apply_all (events_of (reads_by t q)) t.state)
  unfolding after events_by
  leaves q e = ap (λ (x : Terminal). x.state) (granted_leaves t q e) ∙ apply_append (events_of (reads_by t q)) (beside_items s q.asked) t.state

  -- a message or a pack, read while none waits, leaves the line
  leaves_whole : (a : Asked) (room : ℕ) → granted t (request a room) ≡ true → beside_items s a ≡ [] → s.held ≡ 0
      → let x = apply_all (events_of (reads_by t (request a room))) t.state in (served t (request a room)).state ≡ lined [] s.count x
  unfolding apply_all
  leaves_whole a room e n h =
      let x : State = apply_all (events_of (reads_by t (request a room))) t.state in
      leaves (request a room) e ∙ ap (λ (es : List Event). apply_all es x) n ∙ items_leave (reads_by t (request a room)) t.state (granted_sound t (request a room) e)
      ∙ ap (λ (w : List ℕ). lined w s.count x) (ap (λ (h : ℕ). take h s.waiting) h)

  -- of a pack, an empty one too
  leaves_packed : (p : List ℕ) (room : ℕ) → let q = request (pack p) room in granted t q ≡ true → (served t q).state ≡ lined [] s.count (apply_all (events_of (reads_by t q)) t.state)
  unfolding beside_items
  leaves_packed p room e = leaves_whole (pack p) room e refl (granted-pack t p room e).2

  -- of a short message (P12)
  pub leaves_short : (m : List ℕ) (room : ℕ) → let q = request (short m) room in granted t q ≡ true → (served t q).state ≡ lined [] s.count (apply_all (events_of (reads_by t q)) t.state)
  unfolding beside_items
  leaves_short m room e = leaves_whole (short m) room e refl (granted_short t m room e).2

  -- as one line over what the items made, but for a key call
  pub leaves_lined : (a : Asked) (room : ℕ) → granted t (request a room) ≡ true → paints? a ≡ true
      → (served t (request a room)).state ≡ lined (waits_after s a) (count_after s a) (apply_all (events_of (reads_by t (request a room))) t.state)
  unfolding beside_items waits_after count_after apply_all happened
  leaves_lined (message m) room e f = leaves_whole (message m) room e refl (granted_quiet t m room e)
  leaves_lined (piece m) room e f = leaves (request (piece m) room) e
  leaves_lined closing room e f = leaves (request closing room) e
  leaves_lined (key_text k x) room e f = absurd (differ (sym f))
  leaves_lined (pack p) room e f = leaves_packed p room e
  leaves_lined (short m) room e f = absurd (differ (sym f))

  -- a key call sets its text, and nothing else
  pub leaves_texted : (k : ℕ) (x : List ℕ) (room : ℕ) → granted t (request (key_text k x) room) ≡ true → served t (request (key_text k x) room) ≡ record { state = texted k x t.state; shown = t.shown }
  unfolding after events_by reads_by item_bytes reads_of beside_items apply_all happened
  leaves_texted k x room e = granted_leaves t (request (key_text k x) room) e

  -- P6: "An empty pack that passes 1, 3 and 16 does nothing"
  pub leaves_none : (p : List ℕ) (room : ℕ) → granted t (request (pack p) room) ≡ true → bodies_of p ≡ [] → served t (request (pack p) room) ≡ t
  unfolding after events_by reads_by beside_items reads_each apply_all
  leaves_none p room e n =
      granted_leaves t (request (pack p) room) e
      ∙ (λ i. let st = apply_all (events_of (reads_each (n i) t.state room) ++ []) t.state in record { state = st; shown = cond (some? (n i)) (painting st) t.shown })

  pub line_after : (a : Asked) (room : ℕ) → granted t (request a room) ≡ true → let x = (served t (request a room)).state.settings in (held_in x ≡ waits_after s a) × (x.count ≡ count_after s a)
  unfolding waits_after count_after texted with_settings
  line_after a room = go a
    where
      lines : (a : Asked) → let x : State = apply_all (events_of (reads_by t (request a room))) t.state in
          (served t (request a room)).state ≡ lined (waits_after s a) (count_after s a) x → let x = (served t (request a room)).state.settings in (held_in x ≡ waits_after s a) × (x.count ≡ count_after s a)
      lines a z =
          let x : State = apply_all (events_of (reads_by t (request a room))) t.state in (
            ap (λ (y : State). held_in y.settings) z ∙ held_lined (waits_after s a) (count_after s a) x,
            ap (λ (y : State). y.settings.count) z ∙ count_lined (waits_after s a) (count_after s a) x,
          )

      go : (a : Asked) → granted t (request a room) ≡ true → let x = (served t (request a room)).state.settings in (held_in x ≡ waits_after s a) × (x.count ≡ count_after s a)
      go (message m) e = lines (message m) (leaves_lined (message m) room e refl)
      go (piece m) e = lines (piece m) (leaves_lined (piece m) room e refl)
      go closing e = lines closing (leaves_lined closing room e refl)
      go (key_text k x) e = let z = leaves_texted k x room e in (ap (λ (y : Terminal). held_in y.state.settings) z, ap (λ (y : Terminal). y.state.settings.count) z)
      go (pack p) e = lines (pack p) (leaves_packed p room e)
      go (short m) e = lines (short m) (leaves_short m room e)

  -- every byte that waited or was sent belongs to one item, or waits
  all_whole : (m : List ℕ) → s.held ≡ 0 → held_in s ++ m ≡ joined (uncut m) ++ []
  all_whole m h = ap (λ (h : ℕ). take h s.waiting ++ m) h ∙ sym (append-nil (joined (uncut m)) ∙ joined_uncut m)

  all_asked : (a : Asked) (room : ℕ) → granted t (request a room) ≡ true → packed? a ≡ false → held_in s ++ sent_by a ≡ joined (item_bytes s a) ++ waits_after s a
  unfolding item_bytes waits_after joined
  all_asked (message m) room e n = all_whole m (granted_quiet t m room e)
  all_asked (piece m) room e n = sym (all_bytes_lem (held_in s) m)
  all_asked closing room e n = append-nil (held_in s) ∙ sym (append-nil (joined (lastly (held_in s))) ∙ joined_last [] (held_in s))
  all_asked (key_text k x) room e n = append-nil (held_in s)
  all_asked (pack p) room e n = absurd (differ n)
  all_asked (short m) room e n = all_whole m (granted_short t m room e).2

  pub once : (a : Asked) (room : ℕ) → granted t (request a room) ≡ true → packed? a ≡ false
      → held_in s ++ sent_by a ≡ joined (bytes_read (reads_in t (request a room))) ++ held_in (served t (request a room)).state.settings
  once a room e n =
      all_asked a room e n ∙ (λ i. joined (sym (bytes_asked t (request a room) e n) i) ++ sym (line_after a room e).0 i)

  -- a whole message
  pub whole : (m : List ℕ) (room : ℕ) → granted t (request (message m) room) ≡ true → joined (bytes_read (reads_in t (request (message m) room))) ≡ m
  unfolding item_bytes
  whole m room e = ap joined (bytes_asked t (request (message m) room) e refl) ∙ joined_uncut m

-- a message leaves none waiting
pub quiet_served : (t : Terminal) (m : List ℕ) (room : ℕ) → t.state.settings.held ≡ 0 → (served t (request (message m) room)).state.settings.held ≡ 0
unfolding lined with_settings waits_after count_after
quiet_served t m room e = go (granted t (request (message m) room)) refl
  where
    go : (b : Bool) → granted t (request (message m) room) ≡ b → (served t (request (message m) room)).state.settings.held ≡ 0
    go true a = ap (λ (x : State). x.settings.held) (leaves_lined t (message m) room a refl)
    go false a = ap (λ (x : Terminal). x.state.settings.held) (refused_leaves t (request (message m) room) a) ∙ e
