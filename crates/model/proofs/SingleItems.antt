-- The rows of single items (specs/SingleItems), each computed by the rules.
use mathlib.Core.Path.{refl}
use Rattle.model.specs.Bytes.{on_part, put, scrolled_up}
use Rattle.model.specs.Checks.{first_bad, in_ranges?, member, passes}
use Rattle.model.specs.Screens.{base, cell_at, columns_of, height, line_at, lines_of, place_of, text_rows}
use Rattle.model.specs.Sequences.{find, idle?, mode_row_of, row_of}
use Rattle.model.specs.Reading.{after_escape, after_mode, decoded, gathered, item_of, kind_of, needed, remaining, unfinished?}
use Rattle.model.specs.Picture.{copy_size_of, picture, picture_at}
use Rattle.model.specs.Judging.{allowed, bad_of, fitting, judged_ranges, legal?}
use Rattle.model.specs.Rules.{apply_item, late_step, emptied, flagged, missed, mode_set, obeyed, on_lines, placed, printed, remarked, right, shifted, stored, to_column, topped, tracked, with_cells, with_dots, with_layer, with_settings}
use Rattle.model.specs.Dot.{acted, weight, with_dot}
use Rattle.model.specs.Strokes.{drawn, flat, line_dot, lined as stroke, longer, mask_bit, offset_at, placed as strokePlaced, shorter, stepped}
use Rattle.model.specs.SingleItems.{SingleItems}

pub single_items : SingleItems
unfolding on_part put scrolled_up first_bad in_ranges? member passes base cell_at columns_of height line_at lines_of place_of text_rows find idle? mode_row_of row_of after_escape after_mode decoded gathered item_of kind_of needed remaining unfinished? copy_size_of picture picture_at allowed bad_of fitting judged_ranges legal? apply_item late_step emptied flagged missed mode_set obeyed on_lines placed printed remarked right shifted stored to_column topped tracked with_cells with_dots with_layer with_settings acted weight with_dot drawn flat line_dot stroke longer mask_bit offset_at strokePlaced shorter stepped
single_items = record {
  escape_in_a_parameter = (refl, refl);
  window_at_the_end = refl;
  whole_region = refl;
  secret_over_the_layer = refl;
  refused_mode = (refl, refl);
  sum_by_the_later = (refl, refl);
  room_for_the_dots = (refl, refl);
  half_towards_the_end = (refl, refl);
}
