-- The tables of examples worked out: the bays', P10's and P11's among them, all under one statement that antt computes, the lists of calls of P1, P2, P5, P9
-- and P11 under another, both by the forms of Computing; one run of P1's by the definitions themselves; P9's openings; P11's dots, those that stay and
-- the sizes of their store; and P6's packs, by the definitions.
use mathlib.Core.Path.{◌≡◌, refl}
use mathlib.Core.Bool.{true}
use mathlib.Core.List.{◌++◌}
use lib.ListN.{take}
use Rattle.model.specs.Bytes.{blanked, joined, on_part, put, scrolled_down, scrolled_up}
use Rattle.model.specs.Checks.{first_bad, in_ranges?, member, passes}
use Rattle.model.specs.Screens.{base, cell_at, columns_of, height, line_at, lines_of, place_of, size, text_rows, screens}
use Rattle.model.specs.Marks.{end_of, end_unmarked, mark_of, marked?, marks_down, marks_up, numbered, running, running_on, unmarked_from}
use Rattle.model.specs.Line.{line?, padded, zeros?}
use Rattle.model.specs.Sound.{array_ranges, inside?, inside_ranges, key_ranges, marks?, other_ranges, plain_ranges, shape_ranges, sound?, alone_ranges, second?}
use Rattle.model.specs.Picture.{copied, copied_rows, covered, halves, painting, picture, picture_at, sides, text_at, under, window_at, copy_size_of, dot_copy, picture_copy}
use Rattle.model.specs.Sequences.{find, mode_row_of, row_of, idle?}
use Rattle.model.specs.Reading.{after_escape, after_mode, byte_of, decoded, ended, gathered, item_of, kind_of, needed, remaining, unfinished?}
use Rattle.model.specs.Judging.{allowed, bad_of, fitting, legal?, judged_ranges}
use Rattle.model.specs.Rules.{apply_item, late_step, blank_from, centred, cleared, control, displaying, down, emptied, erased, flagged, held, key_line, lifted, onward, remarked, runs_on, shifted, with_keys, with_kind_patterns, cover, missed, mode_set, nearest, obeyed, on_lines, placed, printed, right, shown_at, stored, to_column, topped, tracked, tracked_far, empty_at, with_cells, with_layer, with_settings, dots_cleared, with_dots}
use Rattle.model.specs.Dot.{acted, dot_at, weight, with_dot}
use Rattle.model.specs.Strokes.{drawn, flat, line_dot, lined as stroke, longer, mask_bit, offset_at, placed as strokePlaced, shorter, stepped}
use Rattle.model.specs.Items.{apply_all, copies, counted_all, happened, lined, reads_of, texted}
use Rattle.calls.specs.Calls.{granted, all_free, answer_of, countable, events_by, events_in, first_of, item_bytes, beside_items, none_waits, number_of, printed_by, reads_by, reads_in, reasons, served, sound_in, shown_after, sized, start_of, taken_by, taken_in, known_in, packable, record_of, sendable_in}
use Rattle.model.specs.Keyable.{keyable}
use Rattle.examples.specs.Examples.{added, all_hold, holds, proved_rows, parameters, other_rows}
use Rattle.examples.specs.Runs.{all_run, key_lines, streams, turns_hold}
use Rattle.examples.specs.LineRuns.{logical_lines}
use Rattle.calls.specs.Opening.{opened_by, opening_number, ruled}
use Rattle.examples.specs.WrapRuns.{late_wraps, openings}
use Rattle.examples.specs.CurveRuns.{curve_runs, dots_kept, dots_sized, load_curve}
use Rattle.model.specs.Records.{all?, body_in, kind_in, lacking, length_in, number_in, record_in, records_after, uncut?}
use Rattle.calls.specs.Packs.{bodies_of, known?, reads_each, record_from}
use Rattle.calls.specs.Claims.{claimed_by, claims}
use Rattle.calls.specs.Lists.{claimed}
use Rattle.examples.specs.PackRuns.{all_packed, pack_claims, pack_numbers, pack_runs, records_hold}
use Rattle.calls.specs.Repaint.{calm?, lifts?, lowest?, moves_top?, place_by, print_lifts?, painted?, places_in, print_place, repainted, wide?, wide_in}
use Rattle.examples.specs.ShortRuns.{after_all, all_looks, all_sighted, short_claims, short_looks, sighted}
use Rattle.examples.proofs.Computing.{all_computed, answered, copied_by, left, computed_right, computed_runs, computed_turns, refused_right, served_right}
use Rattle.calls.proofs.ByRows.{below, by_all_rows, overlaid, row, rows_from}

pub examples : all_computed (proved_rows ++ (other_rows ++ (added ++ (parameters ++ load_curve)))) ≡ true
unfolding copy_size_of dot_copy picture_copy with_dots dots_cleared weight dot_at with_dot acted longer shorter flat offset_at strokePlaced line_dot mask_bit stepped drawn stroke idle? judged_ranges screens alone_ranges second? joined on_part blanked scrolled_up scrolled_down put member passes in_ranges? first_bad lines_of columns_of place_of text_rows height base size line_at cell_at key_ranges plain_ranges array_ranges inside_ranges shape_ranges other_ranges inside? zeros? line? mark_of marked? marks? sound? window_at halves sides text_at under covered picture_at picture painting copied_rows copied find row_of mode_row_of after_mode after_escape needed unfinished? gathered remaining kind_of decoded ended item_of byte_of legal? bad_of allowed fitting with_settings with_cells with_layer placed emptied shown_at empty_at cover stored on_lines numbered remarked lifted down to_column running_on runs_on onward right late_step topped held centred nearest missed tracked tracked_far printed unmarked_from cleared control blank_from running end_of erased marks_up marks_down end_unmarked shifted mode_set flagged displaying key_line with_keys with_kind_patterns obeyed apply_item reads_of happened apply_all copies counted_all item_bytes sized sound_in first_of all_free reasons number_of granted none_waits countable keyable beside_items start_of taken_by reads_by events_by holds all_hold proved_rows other_rows added parameters load_curve overlaid below row rows_from by_all_rows left answered copied_by served_right refused_right computed_right all_computed
examples = refl

pub runs : computed_runs (streams ++ (key_lines ++ (logical_lines ++ (late_wraps ++ curve_runs)))) ≡ true
unfolding copy_size_of dot_copy picture_copy with_dots dots_cleared weight dot_at with_dot acted longer shorter flat offset_at strokePlaced line_dot mask_bit stepped drawn stroke idle? judged_ranges screens alone_ranges second? padded lined texted joined on_part blanked scrolled_up scrolled_down put member passes in_ranges? first_bad lines_of columns_of place_of text_rows height base size line_at cell_at key_ranges plain_ranges array_ranges inside_ranges shape_ranges other_ranges inside? zeros? line? mark_of marked? marks? sound? window_at halves sides text_at under covered picture_at picture painting copied_rows copied find row_of mode_row_of after_mode after_escape needed unfinished? gathered remaining kind_of decoded ended item_of byte_of legal? bad_of allowed fitting with_settings with_cells with_layer placed emptied shown_at empty_at cover stored on_lines numbered remarked lifted down to_column running_on runs_on onward right late_step topped held centred nearest missed tracked tracked_far printed unmarked_from cleared control blank_from running end_of erased marks_up marks_down end_unmarked shifted mode_set flagged displaying key_line with_keys with_kind_patterns obeyed apply_item reads_of happened apply_all copies counted_all item_bytes sized sound_in first_of all_free reasons number_of granted none_waits countable keyable beside_items start_of taken_by reads_by events_by holds all_hold streams key_lines logical_lines late_wraps curve_runs overlaid below row rows_from by_all_rows left answered copied_by served_right refused_right computed_turns computed_runs
runs = refl

-- "A piece takes all its bytes" is of the definition that these forms pass by
pub first_run : all_run (take 1 streams) ≡ true
unfolding copy_size_of dot_copy picture_copy with_dots dots_cleared weight dot_at with_dot acted longer shorter flat offset_at strokePlaced line_dot mask_bit stepped drawn stroke idle? judged_ranges screens alone_ranges second? padded lined texted joined on_part blanked scrolled_up scrolled_down put member passes in_ranges? first_bad lines_of columns_of place_of text_rows height base size line_at cell_at key_ranges plain_ranges array_ranges inside_ranges shape_ranges other_ranges inside? zeros? line? mark_of marked? marks? sound? window_at halves sides text_at under covered picture_at picture painting copied_rows copied find row_of mode_row_of after_mode after_escape needed unfinished? gathered remaining kind_of decoded ended item_of byte_of legal? bad_of allowed fitting with_settings with_cells with_layer placed emptied shown_at empty_at cover stored on_lines numbered remarked lifted down to_column running_on runs_on onward right late_step topped held centred nearest missed tracked tracked_far printed unmarked_from cleared control blank_from running end_of erased marks_up marks_down end_unmarked shifted mode_set flagged displaying key_line with_keys with_kind_patterns obeyed apply_item reads_of happened apply_all copies counted_all item_bytes sized sound_in first_of all_free reasons number_of granted none_waits countable keyable beside_items start_of taken_by taken_in reads_by reads_in events_by events_in shown_after served answer_of printed_by holds all_hold turns_hold all_run streams
first_run = refl

pub opens : openings ≡ true
unfolding openings opening_number opened_by ruled sized
opens = refl

pub kept : dots_kept ≡ true
unfolding copy_size_of dot_copy picture_copy with_dots dots_cleared weight dot_at with_dot acted longer shorter flat offset_at strokePlaced line_dot mask_bit stepped drawn stroke idle? judged_ranges screens alone_ranges second? padded lined texted joined on_part blanked scrolled_up scrolled_down put member passes in_ranges? first_bad lines_of columns_of place_of text_rows height base size line_at cell_at key_ranges plain_ranges array_ranges inside_ranges shape_ranges other_ranges inside? zeros? line? mark_of marked? marks? sound? window_at halves sides text_at under covered picture_at picture painting copied_rows copied find row_of mode_row_of after_mode after_escape needed unfinished? gathered remaining kind_of decoded ended item_of byte_of legal? bad_of allowed fitting with_settings with_cells with_layer placed emptied shown_at empty_at cover stored on_lines numbered remarked lifted down to_column running_on runs_on onward right late_step topped held centred nearest missed tracked tracked_far printed unmarked_from cleared control blank_from running end_of erased marks_up marks_down end_unmarked shifted mode_set flagged displaying key_line with_keys with_kind_patterns obeyed apply_item reads_of happened apply_all copies counted_all item_bytes sized sound_in first_of all_free reasons number_of granted none_waits countable keyable beside_items start_of taken_by taken_in reads_by reads_in events_by events_in shown_after served answer_of printed_by dots_kept
kept = refl

pub stores : dots_sized ≡ true
unfolding dots_sized opened_by opening_number sized first_of reasons number_of ruled sound_in none_waits sound? second? alone_ranges screens in_ranges? passes member lines_of columns_of place_of text_rows height key_ranges plain_ranges array_ranges inside_ranges shape_ranges other_ranges inside? zeros? line? unfinished? needed mark_of marked? marks? countable
stores = refl

pub packed : all_packed pack_runs ≡ true
unfolding copy_size_of dot_copy picture_copy with_dots dots_cleared weight dot_at with_dot acted longer shorter flat offset_at strokePlaced line_dot mask_bit stepped drawn stroke idle? judged_ranges screens alone_ranges second? padded lined texted joined on_part blanked scrolled_up scrolled_down put member passes in_ranges? first_bad lines_of columns_of place_of text_rows height base size line_at cell_at key_ranges plain_ranges array_ranges inside_ranges shape_ranges other_ranges inside? zeros? line? mark_of marked? marks? sound? window_at halves sides text_at under covered picture_at picture painting copied_rows copied find row_of mode_row_of after_mode after_escape needed unfinished? gathered remaining kind_of decoded ended item_of byte_of legal? bad_of allowed fitting with_settings with_cells with_layer placed emptied shown_at empty_at cover stored on_lines numbered remarked lifted down to_column running_on runs_on onward right late_step topped held centred nearest missed tracked tracked_far printed unmarked_from cleared control blank_from running end_of erased marks_up marks_down end_unmarked shifted mode_set flagged displaying key_line with_keys with_kind_patterns obeyed apply_item reads_of happened apply_all copies counted_all item_bytes sized sound_in first_of all_free reasons number_of granted none_waits countable keyable beside_items start_of taken_by taken_in reads_by reads_in events_by events_in shown_after served answer_of printed_by number_in length_in kind_in body_in record_in records_after lacking uncut? all? bodies_of known? packable known_in sendable_in reads_each record_from record_of holds all_hold records_hold all_packed pack_runs
packed = refl

pub pack_numbers_lem : pack_numbers ≡ true
unfolding pack_numbers sized first_of reasons number_of sound_in none_waits sound? second? alone_ranges screens in_ranges? passes member lines_of columns_of place_of text_rows height key_ranges plain_ranges array_ranges inside_ranges shape_ranges other_ranges inside? zeros? line? unfinished? needed after_escape mark_of marked? marks? number_in length_in kind_in body_in record_in records_after lacking uncut? all? known? packable known_in sendable_in
pack_numbers_lem = refl

pub pack-claims : pack_claims ≡ true
unfolding copy_size_of dot_copy picture_copy with_dots dots_cleared weight dot_at with_dot acted longer shorter flat offset_at strokePlaced line_dot mask_bit stepped drawn stroke idle? judged_ranges screens alone_ranges second? padded lined texted joined on_part blanked scrolled_up scrolled_down put member passes in_ranges? first_bad lines_of columns_of place_of text_rows height base size line_at cell_at key_ranges plain_ranges array_ranges inside_ranges shape_ranges other_ranges inside? zeros? line? mark_of marked? marks? sound? window_at halves sides text_at under covered picture_at picture painting copied_rows copied find row_of mode_row_of after_mode after_escape needed unfinished? gathered remaining kind_of decoded ended item_of byte_of legal? bad_of allowed fitting with_settings with_cells with_layer placed emptied shown_at empty_at cover stored on_lines numbered remarked lifted down to_column running_on runs_on onward right late_step topped held centred nearest missed tracked tracked_far printed unmarked_from cleared control blank_from running end_of erased marks_up marks_down end_unmarked shifted mode_set flagged displaying key_line with_keys with_kind_patterns obeyed apply_item reads_of happened apply_all copies counted_all item_bytes sized sound_in first_of all_free reasons number_of granted none_waits countable keyable beside_items start_of taken_by taken_in reads_by reads_in events_by events_in shown_after served answer_of printed_by number_in length_in kind_in body_in record_in records_after lacking uncut? all? bodies_of known? packable known_in sendable_in reads_each claims claimed_by claimed pack_claims
pack-claims = refl

pub short_looks_lem : all_looks short_looks ≡ true
unfolding copy_size_of dot_copy picture_copy with_dots dots_cleared weight dot_at with_dot acted longer shorter flat offset_at strokePlaced line_dot mask_bit stepped drawn stroke idle? judged_ranges screens alone_ranges second? padded lined texted joined on_part blanked scrolled_up scrolled_down put member passes in_ranges? first_bad lines_of columns_of place_of text_rows height base size line_at cell_at key_ranges plain_ranges array_ranges inside_ranges shape_ranges other_ranges inside? zeros? line? mark_of marked? marks? sound? window_at halves sides text_at under covered picture_at picture painting copied_rows copied find row_of mode_row_of after_mode after_escape needed unfinished? gathered remaining kind_of decoded ended item_of byte_of legal? bad_of allowed fitting with_settings with_cells with_layer placed emptied shown_at empty_at cover stored on_lines numbered remarked lifted down to_column running_on runs_on onward right late_step topped held centred nearest missed tracked tracked_far printed unmarked_from cleared control blank_from running end_of erased marks_up marks_down end_unmarked shifted mode_set flagged displaying key_line with_keys with_kind_patterns obeyed apply_item reads_of happened apply_all copies counted_all item_bytes sized sound_in first_of all_free reasons number_of granted none_waits countable keyable beside_items start_of taken_by taken_in reads_by reads_in events_by events_in shown_after served answer_of printed_by calm? lowest? print_lifts? lifts? moves_top? wide? print_place place_by wide_in places_in painted? repainted sighted all_sighted after_all all_looks short_looks
short_looks_lem = refl

pub short_claims_lem : short_claims ≡ true
unfolding copy_size_of dot_copy picture_copy with_dots dots_cleared weight dot_at with_dot acted longer shorter flat offset_at strokePlaced line_dot mask_bit stepped drawn stroke idle? judged_ranges screens alone_ranges second? padded lined texted joined on_part blanked scrolled_up scrolled_down put member passes in_ranges? first_bad lines_of columns_of place_of text_rows height base size line_at cell_at key_ranges plain_ranges array_ranges inside_ranges shape_ranges other_ranges inside? zeros? line? mark_of marked? marks? sound? window_at halves sides text_at under covered picture_at picture painting copied_rows copied find row_of mode_row_of after_mode after_escape needed unfinished? gathered remaining kind_of decoded ended item_of byte_of legal? bad_of allowed fitting with_settings with_cells with_layer placed emptied shown_at empty_at cover stored on_lines numbered remarked lifted down to_column running_on runs_on onward right late_step topped held centred nearest missed tracked tracked_far printed unmarked_from cleared control blank_from running end_of erased marks_up marks_down end_unmarked shifted mode_set flagged displaying key_line with_keys with_kind_patterns obeyed apply_item reads_of happened apply_all copies counted_all item_bytes sized sound_in first_of all_free reasons number_of granted none_waits countable keyable beside_items start_of taken_by taken_in reads_by reads_in events_by events_in shown_after served answer_of printed_by claims claimed_by claimed short_claims
short_claims_lem = refl
