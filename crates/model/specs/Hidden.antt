-- Document 02, P8, of the rules by themselves: what two runs in secret mode need not have in common is the bytes of cells, layer and key texts. That no rule looks at these to work out
-- anything else is proved in proofs/HiddenLaws; the whole of it is claimed in SecretRules of the crate `calls`.
use Rattle.std.specs.Prelude.{◌≡◌, Bool, false, [], eqb}
use Rattle.model.specs.declared.Settings.{Settings}
use Rattle.model.specs.declared.Item.{Item}
use Rattle.model.specs.declared.Item.TheVariants.{Printed, Control, Sequence, Refused}
use Rattle.model.specs.Bytes.{blanked}
use Rattle.model.specs.State.{State, state, with_texts}
use Rattle.model.specs.Sequences.{code_of}

-- the settings without the codes of the key texts: as many blanks in their place
abbrev pub shared : Settings → Settings
shared s = with_texts s (blanked s.texts)

-- what stands without these, and without the bytes of cells and layer
abbrev pub common : State → State
common st = state (shared st.settings) [] [] st.dots

-- "equal .. but for the bytes of cells, layer and key texts", "secret on"
pub record Hidden (a b : State) : Type 0 where
  pub same : common a ≡ common b
  pub on : a.settings.secret ≡ 1

-- ESC 125, "read as a sequence"
abbrev pub reveals : Item → Bool
reveals (Printed c) = false
reveals (Control c) = false
reveals (Sequence q) = eqb (code_of q) 125
reveals (Refused n p) = false
