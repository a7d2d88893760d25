-- P8: two calls with the same bytes are refused by the same number.
use mathlib.Core.Path.{◌∙◌, ◌≡◌, ap, refl, subst, sym}
use Prim.Native.Nat.{◌+◌, ℕ}
use mathlib.Core.Bool.{Bool, ◌&&◌, cond, false, true}
use mathlib.Core.List.{List, [], ◌∷◌}
use lib.ListN.{get_or, length}
use lib.Seq.{ext_get_or}
use lib.Dec.{eqb, leb}
use Rattle.model.specs.Bytes.{list_from, written}
use Rattle.model.specs.State.{State}
use Rattle.model.specs.Sound.{Good}
use Rattle.model.specs.Picture.{painting, picture}
use Rattle.model.specs.Records.{uncut?}
use Rattle.calls.specs.Packs.{bodies_of}
use Rattle.model.specs.Rules.{with_settings}
use Rattle.model.specs.Items.{blank_answer, counted_all, events_of, texted}
use Rattle.calls.specs.Repaint.{painted?, repainted, shown_behind}
use Rattle.model.specs.Hidden.{Hidden}
use Rattle.calls.specs.Calls.{Asked, Call, Promised, Reason, Request, Terminal, granted, all_free, answer_of, beside_items, closing, countable, events_by, events_in, first_of, key_text, known_in, message, none_waits, number_of, pack, packable, paints?, piece, printed_by, short, short?, reads_by, reads_in, reason, reasons, record_of, request, request_of, served, sendable, sendable_in, sized, sound_in, taken_by}
use Rattle.model.specs.Keyable.{keyable}
use Rattle.calls.specs.Lists.{Made, Nth, events_over, first, later, next, requests}
use Rattle.secrecy.specs.Secrecy.{Alike, AlikeCalls, AlikeStart, SameKind, SameSeen, Secrecy, closings, handed, in_both, key_texts, messages, packs, pair, pieces, printed_at, printed_in_pack, shorts, read_as_printed, revealed}
use Rattle.calls.proofs.SecretRules.{blind}
use Rattle.model.proofs.Events.{good_all}
use Rattle.calls.proofs.CallLaws.{granted_answer, granted_leaves, granted-pack, granted_prints, granted_short, granted_sized, granted_sound, after, left_is, legal_in, refused_answer, refused_leaves, refused_prints, refused_record, sizes, state_served}
use Rattle.calls.proofs.LineAfter.{leaves, leaves_texted}
use Rattle.calls.proofs.Printing.{part_is}
use Rattle.secrecy.proofs.Items.{along_copies, along_counts, along_end, along_places, along_wide, revealed_append}
use Rattle.secrecy.proofs.Pairs.{Paired, hidden_of, paired}

-- by which number calls with the same bytes are refused: sizes, settings and lengths alone
pub same_reasons : {t₁ t₂ : Terminal} {a₁ a₂ : Asked} → AlikeStart t₁ t₂ → SameKind a₁ a₂ → handed a₁ ≡ handed a₂ → reasons t₁ a₁ ≡ reasons t₂ a₂
unfolding reasons sized sound_in none_waits countable keyable
same_reasons {t₁} {t₂} h k e = go k e
  where
    z : sized t₁ ≡ sized t₂
    z = λ i. eqb (h.cells i) 3840 && (eqb (h.layer i) 1280 && (eqb (length (h.dots i)) 3840 && eqb (length (h.shown i)) 640))

    s : sound_in t₁ ≡ sound_in t₂
    s = (blind t₁.state t₂.state (hidden_of h)).sound

    go : {a₁ a₂ : Asked} → SameKind a₁ a₂ → handed a₁ ≡ handed a₂ → reasons t₁ a₁ ≡ reasons t₂ a₂
    go messages e = λ i. reason 1 (z i) ∷ reason 2 (sendable (e i)) ∷ reason 3 (s i) ∷ reason 16 (none_waits (h.settings i)) ∷ []
    go pieces e = λ i. reason 1 (z i) ∷ reason 2 (sendable (e i)) ∷ reason 3 (s i) ∷ reason 15 (countable (h.settings i) (e i)) ∷ []
    go closings e = λ i. reason 1 (z i) ∷ reason 3 (s i) ∷ []
    go (key_texts {k} l) e = λ i. reason 3 (s i) ∷ reason 17 (leb 1 k && (leb k 10 && eqb (l i) 8)) ∷ []
    go packs e = λ i. reason 1 (z i) ∷ reason 19 (packable (e i)) ∷ reason 20 (uncut? (e i)) ∷ reason 21 (known_in (e i)) ∷ reason 2 (sendable_in (e i)) ∷ reason 3 (s i) ∷ reason 16 (none_waits (h.settings i)) ∷ []
    go shorts e = λ i. reason 1 (z i) ∷ reason 2 (sendable (e i)) ∷ reason 3 (s i) ∷ reason 16 (none_waits (h.settings i)) ∷ []
