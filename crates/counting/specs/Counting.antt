-- The counts while a message is served, and the answer that they make at an offset.
use Rattle.std.specs.Prelude.{ℕ, ◌+◌, ◌^◌, ◌<◌, cond, eqb}
use Rattle.model.specs.declared.Answer.{Answer}
use Rattle.model.specs.declared.Item.{Item}
use Rattle.model.specs.declared.Item.TheVariants.{Printed, Control, Sequence, Refused}
use Rattle.model.specs.Items.{printer_bytes}
use Rattle.counting.specs.declared.Counts.{Counts}

-- none yet
abbrev pub no_counts : Counts
no_counts = record { accepted = 0; refused = 0; first = 0; parameter = 0; offset = 0; printed = 0 }

-- a sequence accepted, with so many printer bytes
abbrev pub accepted_with : ℕ → Counts → Counts
accepted_with n c = record { accepted = c.accepted + 1; refused = c.refused; first = c.first; parameter = c.parameter; offset = c.offset; printed = c.printed + n }

-- a refusal: "number and offset of the first refusal", and the parameter that it names
abbrev pub refused_with : ℕ → ℕ → ℕ → Counts → Counts
refused_with n p at c =
    record { accepted = c.accepted; refused = c.refused + 1; first = cond (eqb c.refused 0) n c.first; parameter = cond (eqb c.refused 0) p c.parameter; offset = cond (eqb c.refused 0) at c.offset; printed = c.printed }

-- one item more, read in a mode (P11) at an offset
abbrev pub counts_with : ℕ → Item → ℕ → Counts → Counts
counts_with mode (Printed b) at c = c
counts_with mode (Control b) at c = c
counts_with mode (Sequence q) at c = accepted_with (printer_bytes mode (Sequence q)) c
counts_with mode (Refused n p) at c = refused_with n p at c

-- the counts have room for one more
pub record Countable (c : Counts) (mode : ℕ) (i : Item) (at : ℕ) : Type 0 where
  pub few : c.accepted + c.refused < 4096
  pub near : at < 4096
  pub roomy : c.printed + printer_bytes mode i < 2 ^ 64

pub record Accepting (c : Counts) (bytes : ℕ) : Type 0 where
  pub few : c.accepted < 4096
  pub roomy : c.printed + bytes < 2 ^ 64

-- the answer when so many bytes are taken
abbrev pub answer_at : ℕ → Counts → Answer
answer_at at c = record { number = 0; taken = at; accepted = c.accepted; refused = c.refused; first = c.first; parameter = c.parameter; offset = c.offset; printed = c.printed }
