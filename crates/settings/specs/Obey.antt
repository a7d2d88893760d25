-- What obeying a sequence asks for, and what it leaves: 224 apart, since the patterns are its alone.
use Rattle.std.specs.Prelude.{◌≡◌, true, false, List, ℕ, ◌+◌, ◌≤◌, length, eqb}
use Rattle.model.specs.declared.Settings.{Settings}
use Rattle.model.specs.declared.Sequence.{Sequence as Seq}
use Rattle.model.specs.declared.Sequence.TheVariants.{Pattern}
use Rattle.model.specs.State.{state, with_stored}
use Rattle.model.specs.Sound.{Sound}
use Rattle.model.specs.Sequences.{code_of, idle?}
use Rattle.model.specs.Judging.{legal?, limits_of}
use Rattle.values.specs.Setting.{settled}

-- sound settings, every parameter in its range, and a sequence that is not idle in the mode (P11)
pub record Obeying (s : Settings) (q : Seq) : Type 0 where
  pub sound : Sound s
  pub legal : legal? q (limits_of s) ≡ true
  pub awake : idle? s.mode (code_of q) ≡ false

-- what `obey` leaves of settings s and their stores: settings r, and the stores marked '
pub record Obeyed (s : Settings) (q : Seq) (r : Settings) (cells layer dots cells' layer' dots' : List ℕ) : Type 0 where
  -- every sequence but 224 does what the rules say of it, whatever the message
  pub does : eqb (code_of q) 224 ≡ false → (m : List ℕ) → state r cells' layer' dots' ≡ settled m q (state s cells layer dots)
  -- 224 changes nothing here
  pub left : eqb (code_of q) 224 ≡ true → state r cells' layer' dots' ≡ state s cells layer dots
  -- the patterns are 224's alone, the key texts the key call's
  pub keeps : (r.patterns ≡ s.patterns) × (r.texts ≡ s.texts)

-- for 224: sound settings, its code in its range, and the eight rows of the pattern in the message; not idle, as no 224 is
pub record PatternAsked (s : Settings) (q : Seq) (m : List ℕ) : Type 0 where
  pub sound : Sound s
  pub legal : legal? q (limits_of s) ≡ true
  pub awake : idle? s.mode (code_of q) ≡ false
  pub rows : (c at : ℕ) → q ≡ Pattern c at → at + 8 ≤ length m

-- what `store_pattern` leaves of settings s with the message m: settings r
pub record PatternStored (s : Settings) (q : Seq) (m : List ℕ) (r : Settings) : Type 0 where
  -- 224 does what the rules say of it, and touches no store
  pub does : eqb (code_of q) 224 ≡ true → (cells layer dots : List ℕ) → state r cells layer dots ≡ settled m q (state s cells layer dots)
  -- nothing but the patterns is another, and by 224 alone
  pub rest : r ≡ with_stored s s.kind s.keys r.patterns
  pub others : eqb (code_of q) 224 ≡ false → r ≡ s
