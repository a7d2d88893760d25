-- Document 02, P13, the call: its number, how many codes it gives, and each byte of the output afterwards, on every input.
use Rattle.std.specs.Prelude.{◌≡◌, ℕ, ◌*◌, Bool, cond, List, [], ◌∷◌, ◌++◌, length, leb, Result, Ok, Err}
use Rattle.model.specs.declared.Settings.{Settings}
use Rattle.model.specs.Bytes.{written}
use Rattle.model.specs.Sound.{sound?}
use Rattle.calls.specs.Calls.{Reason, reason, first_of, all_free}
use Rattle.model.specs.Records.{records_of, all?, uncut?}
use Rattle.traces.specs.declared.Repeats.{Repeats}
use Rattle.traces.specs.declared.Refusal.{Refusal}
use Rattle.traces.specs.declared.Refusal.TheVariants.{Unsound, TooLong, CutRecord, UnknownKind, FallingTick, OutputTooSmall}
use Rattle.traces.specs.Strokes.{strokes_in, stroke?, rising?}
use Rattle.traces.specs.Codes.{Code, Held, sent, codes_bytes}

-- 19: "too long"; here, that it is not: "a trace up to 60,000 bytes"
abbrev pub traceable : List ℕ → Bool
traceable trace = leb (length trace) 60000

-- the codes that a trace sends under some settings
unfoldable pub sent_in : Settings → List ℕ → List Code
sent_in s trace = sent s.keys (strokes_in trace)

-- 25: "output too small"; here, that its length is not: "five bytes each"
unfoldable pub fits? : List Code → ℕ → Bool
fits? cs room = leb (5 * length cs) room

-- what is refused before a code is counted, each "over the whole trace" before the next: "3, 19, 20, 21 (kind or body length), 24 falling tick"
unfoldable pub checks : Settings → List ℕ → List Reason
checks s trace =
    reason 3 (sound? s) ∷ reason 19 (traceable trace) ∷ reason 20 (uncut? trace) ∷ reason 21 (all? stroke? (records_of trace)) ∷ reason 24 (rising? 0 (strokes_in trace)) ∷ []

-- "Refusals, in order": the last is "25 output too small"
unfoldable pub reasons : Settings → List ℕ → ℕ → List Reason
reasons s trace room = checks s trace ++ (reason 25 (fits? (sent_in s trace) room) ∷ [])

-- what the call lists: nothing where it is refused
unfoldable pub listed : Settings → List ℕ → ℕ → List Code
listed s trace room = cond (all_free (reasons s trace room)) (sent_in s trace) []

-- the call's promise: its number, "return their number", and "the rest stays", all of it where the call is refused: "output untouched"; and that
-- the four bytes that stand there for a tick hold it
pub record RepeatsPromised (s : Settings) (trace output : List ℕ) (r : Repeats) (output' : List ℕ) : Type 0 where
  pub number_is : r.number ≡ first_of (reasons s trace (length output))
  pub count_is : r.count ≡ length (listed s trace (length output))
  pub output_is : output' ≡ written (codes_bytes (listed s trace (length output))) output
  pub held : Held (listed s trace (length output))

-- the paper's number of each refusal: "3, 19, 20, 21 (kind or body length), 24 falling tick, 25 output too small"
abbrev pub number_of : Refusal → ℕ
number_of Unsound = 3
number_of TooLong = 19
number_of CutRecord = 20
number_of UnknownKind = 21
number_of FallingTick = 24
number_of OutputTooSmall = 25

-- the paper's number and count for every case of what the call finds: how many codes it lists, or a refusal, which lists none
abbrev pub answer_of : Result ℕ Refusal → Repeats
answer_of (Ok n) = record { number = 0; count = n }
answer_of (Err e) = record { number = number_of e; count = 0 }
