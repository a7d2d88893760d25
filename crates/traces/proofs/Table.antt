-- The examples, under one statement that antt computes.
use mathlib.Core.Path.{◌≡◌, refl}
use mathlib.Core.Bool.{true}
use Rattle.model.specs.Checks.{in_ranges?, member, passes}
use Rattle.model.specs.Line.{line?, zeros?}
use Rattle.model.specs.Marks.{marked?}
use Rattle.model.specs.Reading.{needed, unfinished?}
use Rattle.model.specs.Screens.{columns_of, height, lines_of, place_of, screens, text_rows}
use Rattle.model.specs.Sound.{alone_ranges, array_ranges, inside?, inside_ranges, key_ranges, marks?, other_ranges, plain_ranges, second?, shape_ranges, sound?}
use Rattle.calls.specs.Calls.{all_free, first_of}
use Rattle.model.specs.Records.{all?, body_in, kind_in, lacking, length_in, number_in, record_in, records_after, uncut?}
use Rattle.traces.specs.Strokes.{rising?, stroke?, stroke_of, strokes_in}
use Rattle.traces.specs.Codes.{count_below, end_of, ends?, every_from, first_repeat, repeat_count, sent, sent_at, sent_by, tick_bytes}
use Rattle.traces.specs.Call.{checks, fits?, listed, reasons, sent_in}
use Rattle.traces.specs.Examples.{all_right?, held, right?, rows}

pub examples : all_right? rows ≡ true
unfolding in_ranges? member passes columns_of height lines_of place_of text_rows array_ranges inside? inside_ranges key_ranges other_ranges plain_ranges screens second? alone_ranges shape_ranges marked? marks? needed unfinished? zeros? line? sound? all_free first_of all? body_in kind_in lacking length_in number_in record_in records_after uncut? rising? stroke? stroke_of strokes_in count_below end_of ends? every_from first_repeat repeat_count sent sent_at sent_by tick_bytes checks fits? listed reasons sent_in all_right? right? rows
examples = refl

pub long : held ≡ 56
unfolding in_ranges? member passes columns_of height lines_of place_of text_rows array_ranges inside? inside_ranges key_ranges other_ranges plain_ranges screens second? alone_ranges shape_ranges marked? marks? needed unfinished? zeros? line? sound? all_free first_of all? body_in kind_in lacking length_in number_in record_in records_after uncut? rising? stroke? stroke_of strokes_in count_below end_of ends? every_from first_repeat repeat_count sent sent_at sent_by tick_bytes checks fits? listed reasons sent_in held
long = refl
