-- Bays' examples, P10's and P11's among them, and the lists of calls of P1, P2, P5, P9 and P11: worked out in Worked by the forms of Computing, which are the definitions.
use mathlib.Core.Path.{◌∙◌, ◌≡◌}
use mathlib.Core.Bool.{true}
use mathlib.Core.List.{◌++◌}
use Rattle.examples.specs.Examples.{added, all_right, proved_rows, parameters, other_rows}
use Rattle.examples.specs.Runs.{all_run, key_lines, streams}
use Rattle.examples.specs.LineRuns.{logical_lines}
use Rattle.examples.specs.WrapRuns.{late_wraps}
use Rattle.examples.specs.CurveRuns.{curve_runs, load_curve}
use Rattle.examples.proofs.Worked.{examples, runs}
use Rattle.examples.proofs.ComputingLaws.{all_computed_lem, computed_runs_lem}

pub bays : all_right (proved_rows ++ (other_rows ++ (added ++ (parameters ++ load_curve)))) ≡ true
bays = all_computed_lem _ ∙ examples

pub turns : all_run (streams ++ (key_lines ++ (logical_lines ++ (late_wraps ++ curve_runs)))) ≡ true
turns = computed_runs_lem _ ∙ runs
