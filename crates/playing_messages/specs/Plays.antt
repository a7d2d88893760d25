-- What a call of a recording that serves messages leaves, beside its line: what it promises, and the sum of the printer bytes.
use Rattle.std.specs.Prelude.{◌≡◌, ℕ, List, length}
use Rattle.model.specs.declared.Answer.{Answer}
use Rattle.calls.specs.Calls.{Asked, Call, Promised, Terminal, answer_of, printed_by, record_of, request}
use Rattle.report.specs.Adler.{adler_from}
use Rattle.playing.specs.declared.Played.{Played}

-- a call: what is asked, what it was given (terminal, printer buffer), what it returns (an answer and, of a pack, a record) and leaves
abbrev pub call_of : Asked → Terminal → List ℕ → Answer → ℕ → Terminal → List ℕ → Call
call_of asked given buffer answer n left printer = record { asked = asked; given = given; left = left; answer = answer; in_record = n; buffer = buffer; printer = printer }

-- a call on t with that printer buffer, from p to r: the sum over the printer bytes of all calls; the room stays
pub record Plays (asked : Asked) (t : Terminal) (buffer : List ℕ) (p r : Played) (t' : Terminal) (printer : List ℕ) : Type 0 where
  pub plays : Promised (call_of asked t buffer (answer_of t (request asked (length buffer))) (record_of t (request asked (length buffer))) t' printer)
  pub sum_is : r.printer ≡ adler_from p.printer (printed_by t (request asked (length buffer)))
  pub room_is : r.room ≡ p.room
