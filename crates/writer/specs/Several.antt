-- P7: "Several are written one behind another": calls in their order, each from the buffer and the place that the one before left.
use Rattle.std.specs.Prelude.{ℕ, ◌+◌, cond, List, [], ◌∷◌, map, length, eqb}
use Rattle.model.specs.declared.Settings.{Settings}
use Rattle.model.specs.declared.Item.TheVariants.{Sequence, Refused}
use Rattle.model.specs.State.{State}
use Rattle.model.specs.Reading.{Read}
use Rattle.model.specs.Judging.{bad_of, legal?, limits_of}
use Rattle.model.specs.Items.{obeyed_by, printer_bytes}
use Rattle.spelling.specs.Spelling.{standing}
use Rattle.spelling.specs.Claims.{Sent, sent_bytes}
use Rattle.writer.specs.Writing.{Wanted, buffer_after, number_of, place_after, wanted}

-- a call: its settings, and what is to be sent
pub record Asked : Type 0 where
  pub settings : Settings
  pub sent : Sent

abbrev pub wanted_in : Asked → Wanted
wanted_in c = wanted c.settings c.sent.sequence c.sent.rows

abbrev pub number_at : Asked → List ℕ → ℕ → ℕ
number_at c b at = number_of c.settings (wanted_in c) b at

abbrev pub place_by : Asked → List ℕ → ℕ → ℕ
place_by c b at = place_after c.settings (wanted_in c) b at

abbrev pub buffer_by : Asked → List ℕ → ℕ → List ℕ
buffer_by c b at = buffer_after c.settings (wanted_in c) b at

-- the place reached after them all, and what the buffer then holds
unfoldable pub place_all : List Asked → List ℕ → ℕ → ℕ
place_all [] b at = at
place_all (c ∷ cs) b at = place_all cs (buffer_by c b at) (place_by c b at)

unfoldable pub buffer_all : List Asked → List ℕ → ℕ → List ℕ
buffer_all [] b at = b
buffer_all (c ∷ cs) b at = buffer_all cs (buffer_by c b at) (place_by c b at)

-- what was sent: the calls that were accepted
unfoldable pub sent_by : List Asked → List ℕ → ℕ → List Sent
sent_by [] b at = []
sent_by (c ∷ cs) b at = let rest : List Sent = sent_by cs (buffer_by c b at) (place_by c b at) in cond (eqb (number_at c b at) 0) (c.sent ∷ rest) rest

-- its bytes, of each
abbrev pub all_bytes : List Sent → List (List ℕ)
all_bytes xs = map sent_bytes xs

-- what reading it gives, the first at an offset: each sequence where it stands, or 11 by what then stands
unfoldable pub read_back : List Sent → ℕ → State → List Read
read_back [] at st = []
read_back (x ∷ xs) at st =
    let i = cond (legal? x.sequence (limits_of st.settings)) (Sequence (standing at x.sequence)) (Refused 11 (bad_of x.sequence (limits_of st.settings))) in
    let r : Read = record { at = at; item = i; bytes = sent_bytes x; prints = printer_bytes st.settings.mode i } in
    r ∷ read_back xs (at + length (sent_bytes x)) (obeyed_by r st)
