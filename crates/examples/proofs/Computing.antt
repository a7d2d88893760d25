-- The forms by which the tables of examples are computed: calls whose acceptance is asked once, where the definition asks it for each part of what a call gives, and the
-- painting of ByRows in the crate `calls`. That they are the definitions is proved in ComputingLaws; here stands what Worked computes.
use Prim.Native.Nat.{ℕ}
use mathlib.Core.Bool.{Bool, true, false, cond}
use mathlib.Core.List.{List, [], ◌∷◌}
use lib.ListN.{replicate}
use Rattle.model.specs.declared.Answer.{Answer}
use Rattle.calls.specs.Repaint.{shown_behind}
use Rattle.model.specs.Items.{apply_all, blank_answer, copies, counted_all, events_of}
use Rattle.calls.specs.Calls.{Request, Terminal, granted, events_by, message, number_of, paints?, short?, reads_by, request, sendable, taken_by, terminal}
use Rattle.calls.specs.Opening.{opened_terminal}
use Rattle.examples.specs.Examples.{Example, Fact, all_hold}
use Rattle.examples.specs.Runs.{Run, Turn}
use Rattle.calls.proofs.ByRows.{by_all_rows}

-- what an accepted call leaves, its answer, its printer bytes
unfoldable pub left : Terminal → Request → Terminal
left t q = let st = apply_all (events_by t q) t.state in record { state = st; shown = cond (paints? q.asked) (by_all_rows st) (cond (short? q.asked) (shown_behind (reads_by t q) t.state st t.shown) t.shown) }

unfoldable pub answered : Terminal → Request → Answer
answered t q = counted_all (reads_by t q) (blank_answer 0 (taken_by q.asked))

unfoldable pub copied_by : Terminal → Request → List ℕ
copied_by t q = copies (events_of (reads_by t q)) t.state

-- the facts of a call, accepted or refused
unfoldable pub served_right : List Fact → Terminal → Request → Bool
served_right fs t q = all_hold fs (left t q) (answered t q) (copied_by t q)

unfoldable pub refused_right : List Fact → Terminal → Request → Bool
refused_right fs t q = all_hold fs t (blank_answer (number_of t q) 0) []

-- an example: the opening accepts every message that is not too long
unfoldable pub computed_right : Example → Bool
computed_right e =
    let q : Request = request (message e.sent) e.room in
    elim (sendable e.sent) [ true ↦ served_right e.facts (opened_terminal 1) q | false ↦ refused_right e.facts (opened_terminal 1) q ]

unfoldable pub all_computed : List Example → Bool
all_computed [] = true
all_computed (e ∷ es) = elim (computed_right e) [ true ↦ all_computed es | false ↦ false ]

-- calls one after the other
unfoldable pub computed_turns : Terminal → List Turn → Bool
computed_turns t [] = true
computed_turns t (x ∷ xs) =
    let q : Request = request x.asked x.room in
    elim (granted t q) [
      | true ↦ elim (served_right x.facts t q) [ true ↦ computed_turns (left t q) xs | false ↦ false ]
      | false ↦ elim (refused_right x.facts t q) [ true ↦ computed_turns t xs | false ↦ false ]
    ]

unfoldable pub computed_runs : List Run → Bool
computed_runs [] = true
computed_runs (r ∷ rs) = elim (computed_turns (terminal r.given (replicate 3840 32) (replicate 1280 0) (replicate 3840 0) (replicate 640 32)) r.turns) [ true ↦ computed_runs rs | false ↦ false ]
