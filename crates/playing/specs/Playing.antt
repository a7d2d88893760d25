-- What openings and key texts of a recording leave, and what is handed on of any call.
use Rattle.std.specs.Prelude.{◌≡◌, ℕ, List, []}
use Rattle.model.specs.declared.Outcome.{Outcome}
use Rattle.calls.specs.Calls.{KeyPromised, answer_of, key_text, request, terminal}
use Rattle.calls.specs.Opening.{OpeningPromised, first_part, opening_number, unopened}
use Rattle.report.specs.Adler.{adler_from}
use Rattle.playing.specs.declared.Played.{Played}

-- an opening by a rule (P9), accepted or refused: what it returns is used from then on; the sum of the printer bytes so far, and the printer room
-- (P11)
pub record Opens (rule : ℕ) (cells layer dots shown : List ℕ) (sum room : ℕ) (r : Played) (cells' layer' dots' shown' : List ℕ) : Type 0 where
  pub opens : OpeningPromised rule cells layer dots shown r.settings (opening_number rule (unopened cells layer dots shown)) cells' layer' dots' shown'
  pub sum_is : r.printer ≡ sum
  pub room_is : r.room ≡ room

-- a key call, which is lent no store and prints nothing: what it promises, whatever the stores
pub record KeyPlayed (key : ℕ) (text : List ℕ) (p r : Played) : Type 0 where
  pub plays : KeyPromised key text p.settings (answer_of (terminal p.settings [] [] [] []) (request (key_text key text) 0)) r.settings
  pub sum_is : r.printer ≡ p.printer
  pub room_is : r.room ≡ p.room

-- what is handed on of a call that left its printer buffer so: its settings, and the sum with its printer bytes
pub record Told (p : Played) (out : Outcome) (printer : List ℕ) (r : Played) : Type 0 where
  pub settings_are : r.settings ≡ out.settings
  pub sum_is : r.printer ≡ adler_from p.printer (first_part out.answer.printed printer)
  pub room_is : r.room ≡ p.room
