-- The printer call, asked for as many bytes as the answer counts, hands back the printer bytes of the call.
use mathlib.Core.Path.{◌∙◌, ◌≡◌, ap, refl}
use Prim.Native.Nat.{ℕ, ◌≤◌}
use native.Mathlib.Omega.{arith}
use mathlib.Core.List.{List}
use lib.ListN.{drop, length}
use lib.Seq.{take-append_seam}
use borrow.Author.Tests.{le-leb}
use Rattle.model.specs.declared.Answer.{Answer}
use Rattle.model.specs.declared.Outcome.{Outcome}
use Rattle.model.specs.Bytes.{written}
use Rattle.calls.specs.Calls.{Asked, Call, Promised, Terminal, printed_by, request_of, terminal}
use Rattle.calls.specs.Opening.{first_part}
use Rattle.calls.proofs.Printing.{buffer_length, printed_is, prints_fit}
use Rattle.report.specs.Adler.{adler_from}
use Rattle.playing.specs.declared.Played.{Played}
use Rattle.playing.specs.Playing.{Told}
use Rattle.playing_messages.specs.Plays.{Plays, call_of}

handed_back : (c : Call) → Promised c → first_part c.answer.printed c.printer ≡ printed_by c.given (request_of c)
unfolding first_part written
handed_back c p =
    let ys : List ℕ = printed_by c.given (request_of c) in
    let n : c.answer.printed ≡ length ys = ap (λ (a : Answer). a.printed) p.answer_is ∙ printed_is c.given (request_of c) in
    let fits : c.answer.printed ≤ length c.printer = omega (arith, n, prints_fit c.given (request_of c), buffer_length c p) in
    rw (le-leb c.answer.printed (length c.printer) fits, n, p.printer_is) (take-append_seam ys (drop (length ys) c.buffer))

-- so a call whose line is said is a call played, with the sum over its printer bytes
pub plays_of : {asked : Asked} {t : Terminal} {buffer printer cells layer dots shown : List ℕ} {n : ℕ} {out : Outcome} {q r : Played}
    → Promised (call_of asked t buffer out.answer n (terminal out.settings cells layer dots shown) printer) → Told q out printer r
    → Plays asked t buffer q r (terminal r.settings cells layer dots shown) printer
plays_of {q = q} p h = record {
  plays = record { answer_is = refl; record_is = refl; settings_are = h.settings_are ∙ p.settings_are; cells_are = p.cells_are; layer_is = p.layer_is; dots_are = p.dots_are; shown_is = p.shown_is; printer_is = p.printer_is };
  sum_is = h.sum_is ∙ ap (adler_from q.printer) (handed_back _ p);
  room_is = h.room_is;
}
