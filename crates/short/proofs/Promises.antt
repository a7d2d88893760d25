-- The short call's promise: from what serving a short message ensures, or from stores left as they came; and a message within the line as one run of its loop.
use mathlib.Core.Path.{◌∙◌, ◌≡◌, ap, refl, sym}
use Prim.Native.Nat.{◌+◌, ℕ}
use native.Mathlib.Nat.{zero-add}
use native.Mathlib.Omega.{arith}
use mathlib.Core.Bool.{false}
use mathlib.Core.List.{List}
use lib.ListN.{drop, length, set, take}
use Rattle.model.specs.declared.Answer.{Answer}
use Rattle.model.specs.declared.Outcome.{Outcome}
use Rattle.model.specs.declared.Place.{Place}
use Rattle.model.specs.declared.Settings.{Settings}
use Rattle.model.specs.State.{state, with_places}
use Rattle.model.specs.Screens.{place_of}
use Rattle.model.specs.Picture.{picture}
use Rattle.model.specs.Items.{blank_answer}
use Rattle.calls.specs.Calls.{Call, Promised, Terminal, first_of, message, number_of, short, short_called, reasons, request, terminal}
use Rattle.calls.proofs.CallLaws.{granted_number, refused_number}
use Rattle.calls.proofs.Loop.{answers, ends, prints, rest}
use Rattle.calls.proofs.Message.{promised_short, promised_short_refused}
use Rattle.calls.proofs.ShortCall.{short_in}
use Rattle.model.proofs.Tests.{differ}
use Rattle.paint.specs.Shown.{Visible}
use Rattle.views.specs.Painted.{painted}
use Rattle.ground.specs.declared.Frame.{Frame}
use Rattle.ground.specs.Frame.{FrameOf}
use Rattle.ground.specs.Acts.{Acts, with_place}
use Rattle.runs.specs.Run.{printed_all}
use Rattle.counting.specs.Counting.{answer_at, no_counts}
use Rattle.serving.specs.Serves.{Servable}
use Rattle.short_printing.specs.Seen.{Sees}
use Rattle.short.specs.Short.{InLine, ShortPromised}
use Rattle.short_serving.specs.ServesShort.{ServesShort}
use Rattle.short_serving.proofs.Watching.{Watch, watch_ends, watch_first, watch_run}

-- of a call that is promised the rest follows
and_places : {m : List ℕ} {given : Terminal} {buffer : List ℕ} {answer : Answer} {left : Terminal} {printer : List ℕ} → Promised (short_called m given buffer answer left printer) → ShortPromised m given buffer answer left printer
and_places {m} {given} {buffer} {answer} {left} {printer} p =
    let c : Call = short_called m given buffer answer left printer in
    (p, λ e. short_in c p e m refl)

module _ (s : Settings) (m cells layer dots shown buffer : List ℕ) where
  abbrev given : Terminal
  given = terminal s cells layer dots shown

  pub short_served : (r : Outcome) (cells' layer' dots' shown' printer' : List ℕ) → first_of (reasons given (message m)) ≡ 0 → ServesShort m (state s cells layer dots) buffer shown r cells' layer' dots' shown' printer'
      → ShortPromised m given buffer r.answer (terminal r.settings cells' layer' dots' shown') printer'
  unfolding ends answers prints rest number_of reasons
  short_served r cells' layer' dots' shown' printer' e w =
      and_places (promised_short m given buffer r.answer (terminal r.settings cells' layer' dots' shown') printer' (granted_number given (request (short m) (length buffer)) e) w.state_is w.shown_is w.answer_is w.printer_is)

  pub short_refused : (n : ℕ) (a : Answer) → n ≡ first_of (reasons given (message m)) → (n ≡ 0 → ⊥) → a ≡ blank_answer n 0 → ShortPromised m given buffer a given buffer
  unfolding number_of reasons
  short_refused n a e z w =
      and_places (promised_short_refused m given buffer a given buffer (refused_number given (request (short m) (length buffer)) (λ k. z (e ∙ k))) refl (w ∙ ap (λ (k : ℕ). blank_answer k 0) e) refl)

  -- a message within the line: before it, and behind it
  module _ (v : Servable s m cells layer dots shown) {f : Frame} {p : Place} (framed : (FrameOf s f) × (f.bare ≡ false)) (there : p ≡ place_of s s.selected) where
    pub line_first : Watch m cells layer dots buffer shown s cells layer dots buffer shown s p s.marks f no_counts false 0
    line_first = watch_first m cells layer dots buffer shown s v framed (λ e. absurd (differ (sym e))) there refl

    module _ (l : InLine m f p) {q : Place} {cells' layer' x : List ℕ}
        (d : (Acts (printed_all (take (length m) (drop 0 m))) f p q cells layer cells' layer') × ((marks : List ℕ) → Sees (take (length m) (drop 0 m)) f p s.secret false cells layer marks shown x)) where
      line_run : Watch m cells layer dots buffer shown s cells' layer' dots buffer x s q s.marks f no_counts false (0 + length m)
      line_run = watch_run m cells layer dots buffer shown s line_first (length m) (omega arith) (λ j low high. l.print j (omega arith)) d.0 (d.1 s.marks)

      pub line_visible : (Visible (with_place s q) cells' layer') × (length x ≡ 640)
      line_visible = let g = line_run.loop.going.good in (record { sound = g.sound; cells_are = g.cells_are; layer_are = g.layer_are }, line_run.still.size)

      pub line_served : {ps : List Place} {a : Answer} {shown' : List ℕ} → ps ≡ set s.places s.selected q → a ≡ answer_at (length m) no_counts
          → ((ds : List ℕ) → shown' ≡ painted 560 80 (picture (state (with_places s ps) cells' layer' ds)) x) → ServesShort m (state s cells layer dots) buffer shown (record { settings = with_places s ps; answer = a }) cells' layer' dots shown' buffer
      line_served {ps} {a} {shown'} back e w =
          watch_ends m cells layer dots buffer shown s line_run (record { settings = with_places s ps; answer = a }) (omega arith) (ap (with_places s) back) (e ∙ ap (λ (n : ℕ). answer_at n no_counts) (sym (zero-add (length m))))
          (w dots ∙ ap (λ (qs : List Place). painted 560 80 (picture (state (with_places s qs) cells' layer' dots)) x) back)
