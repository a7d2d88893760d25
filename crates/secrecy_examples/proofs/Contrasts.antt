-- P8, by examples: the claim is not empty, and each thing that is asked is needed.
use mathlib.Core.Path.{◌∙◌, ◌≡◌, ap, refl, sym}
use Prim.Native.Nat.{suc, zero, ℕ}
use mathlib.Core.Bool.{Bool, false, true}
use mathlib.Core.List.{List, [], ◌++◌, ◌∷◌}
use lib.ListN.{get_or, length, replicate}
use Rattle.model.specs.Bytes.{blanked, joined, on_part, put, scrolled_down, scrolled_up}
use Rattle.model.specs.Checks.{first_bad, in_ranges?, member, passes}
use Rattle.model.specs.Screens.{base, cell_at, columns_of, height, line_at, lines_of, place_of, size, text_rows, screens}
use Rattle.model.specs.Marks.{end_of, end_unmarked, mark_of, marked?, marks_down, marks_up, numbered, running, running_on, unmarked_from}
use Rattle.model.specs.Line.{line?, padded, zeros?}
use Rattle.model.specs.Sound.{array_ranges, inside?, inside_ranges, key_ranges, marks?, other_ranges, plain_ranges, shape_ranges, sound?, alone_ranges, second?}
use Rattle.model.specs.Picture.{copied, copied_rows, covered, halves, painting, picture, picture_at, sides, text_at, under, window_at, copy_size_of, dot_copy, picture_copy}
use Rattle.model.specs.Sequences.{find, mode_row_of, row_of, idle?}
use Rattle.model.specs.Reading.{after_escape, after_mode, byte_of, decoded, ended, gathered, item_of, kind_of, needed, remaining, unfinished?}
use Rattle.model.specs.Judging.{allowed, bad_of, fitting, legal?, judged_ranges}
use Rattle.model.specs.Rules.{apply_item, late_step, blank_from, centred, cleared, control, displaying, down, emptied, erased, flagged, held, key_line, lifted, onward, remarked, runs_on, shifted, with_keys, with_kind_patterns, cover, missed, mode_set, nearest, obeyed, on_lines, placed, printed, right, shown_at, stored, to_column, topped, tracked, tracked_far, empty_at, with_cells, with_layer, with_settings, dots_cleared, with_dots}
use Rattle.model.specs.Dot.{acted, dot_at, weight, with_dot}
use Rattle.model.specs.Strokes.{drawn, flat, line_dot, lined as stroke, longer, mask_bit, offset_at, placed as strokePlaced, shorter, stepped}
use Rattle.model.specs.Records.{all?, body_in, kind_in, lacking, length_in, number_in, record_in, records_after, uncut?}
use Rattle.calls.specs.Packs.{bodies_of, known?, reads_each, record_from}
use Rattle.calls.specs.Repaint.{calm?, lifts?, lowest?, moves_top?, place_by, print_lifts?, painted?, places_in, print_place, repainted, wide?, wide_in}
use Rattle.model.specs.Items.{apply_all, copies, counted_all, happened, lined, reads_of, texted}
use Rattle.calls.specs.Calls.{granted, all_free, answer_of, countable, events_by, events_in, first_of, item_bytes, beside_items, known_in, none_waits, number_of, packable, printed_by, reads_by, reads_in, reasons, record_of, served, sendable_in, sound_in, shown_after, sized, start_of, taken_by, taken_in, Asked, Call, Terminal}
use Rattle.model.specs.Keyable.{keyable}
use Rattle.examples.specs.Examples.{all_hold, holds}
use Rattle.examples.specs.Runs.{turns_hold}
use Rattle.calls.specs.Lists.{Made, Nth, events_over, next, none}
use Rattle.secrecy.specs.Secrecy.{Alike, SameKind, SameSeen, TwoRuns, closings, end, handed, in_both, key_texts, messages, packs, pair, pieces, printed_at, printed_in_pack, shorts, read_as_printed, revealed}
use Rattle.secrecy_examples.specs.Contrasts.{all_told, asked_in, call_of, calls_of, filled, told, typed, typed_calls, unseen}
use Rattle.model.proofs.Tests.{differ}
use Rattle.secrecy.proofs.Secrecy.{secrecy}

-- two runs that lack one thing are told apart
pub rows : all_told told ≡ true
unfolding copy_size_of dot_copy picture_copy with_dots dots_cleared weight dot_at with_dot acted longer shorter flat offset_at strokePlaced line_dot mask_bit stepped drawn stroke idle? judged_ranges screens alone_ranges second? padded lined texted joined on_part blanked scrolled_up scrolled_down put member passes in_ranges? first_bad lines_of columns_of place_of text_rows height base size line_at cell_at key_ranges plain_ranges array_ranges inside_ranges shape_ranges other_ranges inside? zeros? line? mark_of marked? marks? sound? window_at halves sides text_at under covered picture_at picture painting copied_rows copied find row_of mode_row_of after_mode after_escape needed unfinished? gathered remaining kind_of decoded ended item_of byte_of legal? bad_of allowed fitting with_settings with_cells with_layer placed emptied shown_at empty_at cover stored on_lines numbered remarked lifted down to_column running_on runs_on onward right late_step topped held centred nearest missed tracked tracked_far printed unmarked_from cleared control blank_from running end_of erased marks_up marks_down end_unmarked shifted mode_set flagged displaying key_line with_keys with_kind_patterns obeyed apply_item reads_of happened apply_all copies counted_all item_bytes sized sound_in first_of all_free reasons number_of granted none_waits countable keyable beside_items start_of taken_by taken_in reads_by reads_in events_by events_in shown_after served answer_of printed_by number_in length_in kind_in body_in record_in records_after lacking uncut? all? bodies_of known? packable known_in sendable_in reads_each record_from record_of holds all_hold calm? lowest? print_lifts? lifts? moves_top? wide? print_place place_by wide_in places_in painted? repainted turns_hold all_told told
rows = refl

-- two that lack none are not
pub same_rows : all_told unseen ≡ true
unfolding copy_size_of dot_copy picture_copy with_dots dots_cleared weight dot_at with_dot acted longer shorter flat offset_at strokePlaced line_dot mask_bit stepped drawn stroke idle? judged_ranges screens alone_ranges second? padded lined texted joined on_part blanked scrolled_up scrolled_down put member passes in_ranges? first_bad lines_of columns_of place_of text_rows height base size line_at cell_at key_ranges plain_ranges array_ranges inside_ranges shape_ranges other_ranges inside? zeros? line? mark_of marked? marks? sound? window_at halves sides text_at under covered picture_at picture painting copied_rows copied find row_of mode_row_of after_mode after_escape needed unfinished? gathered remaining kind_of decoded ended item_of byte_of legal? bad_of allowed fitting with_settings with_cells with_layer placed emptied shown_at empty_at cover stored on_lines numbered remarked lifted down to_column running_on runs_on onward right late_step topped held centred nearest missed tracked tracked_far printed unmarked_from cleared control blank_from running end_of erased marks_up marks_down end_unmarked shifted mode_set flagged displaying key_line with_keys with_kind_patterns obeyed apply_item reads_of happened apply_all copies counted_all item_bytes sized sound_in first_of all_free reasons number_of granted none_waits countable keyable beside_items start_of taken_by taken_in reads_by reads_in events_by events_in shown_after served answer_of printed_by number_in length_in kind_in body_in record_in records_after lacking uncut? all? bodies_of known? packable known_in sendable_in reads_each record_from record_of holds all_hold calm? lowest? print_lifts? lifts? moves_top? wide? print_place place_by wide_in places_in painted? repainted turns_hold all_told unseen
same_rows = refl

-- calls worked out by the rules keep their promises
made_of : (b : ℕ) (t : Terminal) (rest : List Asked) → Made t (calls_of b t rest)
unfolding calls_of
made_of b t [] = none
made_of b t (a ∷ rest) =
    next {c = call_of t a (replicate 656 b)} refl (record { answer_is = refl; record_is = refl; settings_are = refl; cells_are = refl; layer_is = refl; dots_are = refl; shown_is = refl; printer_is = refl })
    (made_of b (call_of t a (replicate 656 b)).left rest)

-- the same bytes; or one byte of each, read as printed in both
alike_same : (c₁ c₂ : Call) → SameKind c₁.asked c₂.asked → length c₁.buffer ≡ length c₂.buffer → handed c₁.asked ≡ handed c₂.asked → Alike c₁ c₂
alike_same c₁ c₂ k r e = record { kind = k; room = r; long = ap length e; bytes = λ i z. ap (λ (m : List ℕ). get_or m i 0) e }

module _ (x y : ℕ) (ys : List ℕ) where
  but_one : (xs : List ℕ) (f : ℕ → Bool) (i : ℕ) → f (length xs) ≡ true → f i ≡ false → get_or (xs ++ (x ∷ ys)) i 0 ≡ get_or (xs ++ (y ∷ ys)) i 0
  but_one [] f zero e z = absurd (differ (sym e ∙ z))
  but_one [] f (suc i) e z = refl
  but_one (b ∷ xs) f zero e z = refl
  but_one (b ∷ xs) f (suc i) e z = but_one xs (λ n. f (suc n)) i e z

  as_long : (xs : List ℕ) → length (xs ++ (x ∷ ys)) ≡ length (xs ++ (y ∷ ys))
  as_long [] = refl
  as_long (b ∷ xs) = ap suc (as_long xs)

  alike_one : (c₁ c₂ : Call) (xs : List ℕ) → SameKind c₁.asked c₂.asked → length c₁.buffer ≡ length c₂.buffer → handed c₁.asked ≡ xs ++ (x ∷ ys) → handed c₂.asked ≡ xs ++ (y ∷ ys)
      → in_both c₁ c₂ (length xs) ≡ true → Alike c₁ c₂
  alike_one c₁ c₂ xs k r e f h = record {
    kind = k;
    room = r;
    long = ap length e ∙ as_long xs ∙ sym (ap length f);
    bytes = λ i z. ap (λ (m : List ℕ). get_or m i 0) e ∙ but_one xs (in_both c₁ c₂) i h z ∙ sym (ap (λ (m : List ℕ). get_or m i 0) f);
  }

-- the claim is not empty: these two runs meet all that is asked
pub two_runs : TwoRuns (filled 32) (filled 33) (typed_calls 32 125 65) (typed_calls 33 120 66)
unfolding copy_size_of dot_copy picture_copy with_dots dots_cleared weight dot_at with_dot acted longer shorter flat offset_at strokePlaced line_dot mask_bit stepped drawn stroke idle? judged_ranges screens alone_ranges second? padded lined texted joined on_part blanked scrolled_up scrolled_down put member passes in_ranges? first_bad lines_of columns_of place_of text_rows height base size line_at cell_at key_ranges plain_ranges array_ranges inside_ranges shape_ranges other_ranges inside? zeros? line? mark_of marked? marks? sound? window_at halves sides text_at under covered picture_at picture painting copied_rows copied find row_of mode_row_of after_mode after_escape needed unfinished? gathered remaining kind_of decoded ended item_of byte_of legal? bad_of allowed fitting with_settings with_cells with_layer placed emptied shown_at empty_at cover stored on_lines numbered remarked lifted down to_column running_on runs_on onward right late_step topped held centred nearest missed tracked tracked_far printed unmarked_from cleared control blank_from running end_of erased marks_up marks_down end_unmarked shifted mode_set flagged displaying key_line with_keys with_kind_patterns obeyed apply_item reads_of happened apply_all copies counted_all item_bytes sized sound_in first_of all_free reasons number_of granted none_waits countable keyable beside_items start_of taken_by taken_in reads_by reads_in events_by events_in shown_after served answer_of printed_by number_in length_in kind_in body_in record_in records_after lacking uncut? all? bodies_of known? packable known_in sendable_in reads_each record_from record_of holds all_hold calm? lowest? print_lifts? lifts? moves_top? wide? print_place place_by wide_in places_in painted? repainted calls_of events_over revealed in_both read_as_printed printed_in_pack printed_at
two_runs = record {
  made₁ = made_of 32 (filled 32) (asked_in (typed 125 65));
  made₂ = made_of 33 (filled 33) (asked_in (typed 120 66));
  start = record { settings = refl; dots = refl; shown = refl; cells = refl; layer = refl; secret = refl };
  calls = pair (alike_one 65 66 [] _ _ [] shorts refl refl refl refl)
      (pair (alike_same _ _ (key_texts refl) refl refl)
      (pair (alike_same _ _ messages refl refl)
      (pair (alike_one 65 66 (2 ∷ 0 ∷ 1 ∷ 0 ∷ 27 ∷ 80 ∷ []) _ _ (1 ∷ 0 ∷ 1 ∷ 0 ∷ []) packs refl refl refl refl)
      (pair (alike_same _ _ pieces refl refl)
      (pair (alike_same _ _ messages refl refl)
      (pair (alike_one 125 120 [] _ _ [] pieces refl refl refl refl)
      (pair (alike_same _ _ closings refl refl) end)))))));
  hidden = refl;
}

-- so all that is seen is equal, after every call
pub two_seen : (n : ℕ) (c₁ c₂ : Call) → Nth n (typed_calls 32 125 65) c₁ → Nth n (typed_calls 33 120 66) c₂ → SameSeen c₁ c₂
two_seen = secrecy (filled 32) (filled 33) (typed_calls 32 125 65) (typed_calls 33 120 66) two_runs
