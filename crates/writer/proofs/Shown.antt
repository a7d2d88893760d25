-- The examples of specs/Examples, computed.
use mathlib.Core.Path.{refl}
use Rattle.model.specs.Bytes.{on_part, put}
use Rattle.model.specs.Checks.{first_bad, in_ranges?, member, passes}
use Rattle.model.specs.Screens.{columns_of, height, lines_of, place_of, screens, text_rows}
use Rattle.model.specs.Marks.{marked?}
use Rattle.model.specs.Line.{line?, padded, zeros?}
use Rattle.model.specs.Sound.{alone_ranges, array_ranges, inside?, inside_ranges, key_ranges, marks?, other_ranges, plain_ranges, second?, shape_ranges, sound?}
use Rattle.model.specs.Picture.{copy_size_of}
use Rattle.model.specs.Sequences.{find, idle?, mode_row_of, row_of}
use Rattle.model.specs.Reading.{after_escape, after_mode, decoded, ended, gathered, item_of, kind_of, needed, remaining, unfinished?}
use Rattle.model.specs.Judging.{allowed, bad_of, fitting, judged_ranges, legal?}
use Rattle.calls.specs.Calls.{first_of}
use Rattle.spelling.specs.Spelling.{bytes_of, params_of}
use Rattle.spelling.specs.Given.{given_bytes}
use Rattle.writer.specs.Writing.{buffer_after, number_in, number_of, parameter_in, parameter_of, place_after, said, said_of_all, space?}
use Rattle.writer.specs.Examples.{Examples}

pub examples : Examples
unfolding on_part put member passes in_ranges? first_bad lines_of columns_of place_of text_rows height screens marked? padded zeros? line? key_ranges plain_ranges array_ranges alone_ranges inside_ranges shape_ranges other_ranges inside? second? marks? sound? copy_size_of find row_of mode_row_of idle? after_mode after_escape needed unfinished? gathered remaining kind_of decoded ended item_of judged_ranges legal? bad_of allowed fitting bytes_of params_of given_bytes said said_of_all number_in parameter_in space? first_of number_of parameter_of place_after buffer_after
examples = record {
  select = refl;
  put = refl;
  put_below = refl;
  just_fits = refl;
  no_space = refl;
  past = refl;
  far_past = refl;
  three_first = refl;
  eleven_before_space = refl;
  copy = refl;
  copy_of_dots = refl;
  two_items = refl;
  pattern = refl;
  pattern_bit = refl;
  while_waiting = refl;
  wild_dot = refl;
  bad_dot = refl;
  wild_step = refl;
  mode_3 = refl;
  unlisted = refl;
  too_few = refl;
  too_many = refl;
  no_mode = refl;
  alone = refl;
  given = refl;
}
