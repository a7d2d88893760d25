-- The promises can be kept: from any terminal, whatever is asked one after the other in whatever buffers, the calls that the rules work out are
-- made. So demand 3 and the theorem about a stream speak of something.
use mathlib.Core.Path.{◌≡◌, refl}
use mathlib.Core.List.{List, [], ◌++◌, ◌∷◌}
use Prim.Native.Nat.{◌≤◌, ℕ}
use native.Mathlib.Omega.{arith}
use lib.ListN.{length, length-append}
use Rattle.model.specs.Bytes.{written}
use Rattle.calls.specs.Calls.{Asked, Call, Promised, Terminal, answer_of, closing, piece, printed_by, record_of, request, served}
use Rattle.model.specs.Line.{limit}
use Rattle.calls.specs.Lists.{Made, Start, next, none}
use Rattle.theorems.specs.Streams.{Cut, Stream, cuts, ends}
use Rattle.theorems.proofs.Streams.{however_cut}

-- what is asked, and the buffer that is lent
pub record Asking : Type 0 where
  pub asked : Asked
  pub buffer : List ℕ

-- the call that the rules work out
abbrev pub call_of : Terminal → Asking → Call
call_of t a = let q = request a.asked (length a.buffer) in record { asked = a.asked; given = t; left = served t q; answer = answer_of t q; in_record = record_of t q; buffer = a.buffer; printer = written (printed_by t q) a.buffer }

pub promised_of : (t : Terminal) (a : Asking) → Promised (call_of t a)
promised_of t a = record { answer_is = refl; record_is = refl; settings_are = refl; cells_are = refl; layer_is = refl; dots_are = refl; shown_is = refl; printer_is = refl }

abbrev pub calls_of : Terminal → List Asking → List Call
calls_of t [] = []
calls_of t (a ∷ xs) = call_of t a ∷ calls_of (call_of t a).left xs

pub made_of : (t : Terminal) (xs : List Asking) → Made t (calls_of t xs)
made_of t [] = none
made_of t (a ∷ xs) = next refl (promised_of t a) (made_of (call_of t a).left xs)

-- and streams there are: any bytes of one piece, then the closing
abbrev pub sent : List ℕ → List ℕ → List Asking
sent bs buffer = record { asked = piece bs; buffer = buffer } ∷ record { asked = closing; buffer = [] } ∷ []

pub stream_of : (t : Terminal) (bs buffer : List ℕ) → Start t → t.state.settings.count ≡ 0 → length bs ≤ 4096 → Stream (calls_of t (sent bs buffer)) (bs ++ [])
stream_of t bs buffer start z h =
    let few : length (bs ++ []) ≤ limit = omega (arith, h, length-append bs []) in
    let cut : Cut (calls_of t (sent bs buffer)) (bs ++ []) = cuts {m = bs} refl h (ends refl) in
    (however_cut t (calls_of t (sent bs buffer)) (bs ++ []) 0 start (made_of t (sent bs buffer)) z cut few).0
