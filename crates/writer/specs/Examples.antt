-- Examples of P7, from bytes: what a call answers and leaves of the buffer.
use Rattle.std.specs.Prelude.{◌≡◌, ℕ, List, [], ◌∷◌, ◌++◌, replicate}
use Rattle.model.specs.declared.Settings.{Settings}
use Rattle.model.specs.declared.Sequence.{Sequence as Seq}
use Rattle.model.specs.declared.Sequence.TheVariants.{PrintCode, Clear, Put, Copy, Step, DrawDot, Mode3, Select, Pattern}
use Rattle.model.specs.State.{opened_settings, with_line, with_mode3}
use Rattle.model.specs.Line.{padded}
use Rattle.model.specs.Reading.{uncut}
use Rattle.spelling.specs.Spelling.{bytes_of}
use Rattle.writer.specs.Writing.{Wanted, buffer_after, number_of, parameter_of, place_after, wanted, wanted_by}

-- the settings of the opening; the same with the line of a stream; unsound ones, with a line that does not wait
abbrev pub opening : Settings
opening = opened_settings 1

abbrev pub waiting : Settings
waiting = with_line opening (padded (27 ∷ 61 ∷ [])) 2 7

abbrev pub unsound : Settings
unsound = with_line opening (padded (65 ∷ [])) 1 7

-- mode 3, as 27,208,3 leaves them
abbrev pub curve : Settings
curve = with_mode3 opening

-- no rows
abbrev pub none : List ℕ
none = replicate 8 0

-- number, parameter, place reached, and the buffer then
abbrev pub answer : Settings → Wanted → List ℕ → ℕ → List ℕ
answer s x b at = number_of s x b at ∷ parameter_of s x ∷ place_after s x b at ∷ buffer_after s x b at

abbrev pub writes : Settings → Seq → List ℕ → List ℕ → ℕ → List ℕ
writes s q rows b at = answer s (wanted s q rows) b at

abbrev pub writes_by : Settings → ℕ → List ℕ → List ℕ → ℕ → List ℕ
writes_by s second ps b at = answer s (wanted_by s second ps) b at

-- a buffer of so many
abbrev pub nines : ℕ → List ℕ
nines n = replicate n 9

pub record Examples : Type 0 where
  -- "209 is always written with its byte"
  pub select : writes opening (Select 0) none (nines 5) 1 ≡ 0 ∷ 0 ∷ 4 ∷ 9 ∷ 27 ∷ 209 ∷ 0 ∷ 9 ∷ []
  -- parameters as sent; judged by the settings given, "under the reader's number", and nothing moves
  pub put : writes opening (Put 43 32) none (nines 5) 0 ≡ 0 ∷ 0 ∷ 4 ∷ 27 ∷ 61 ∷ 43 ∷ 32 ∷ 9 ∷ []
  pub put_below : writes opening (Put 56 32) none (nines 5) 0 ≡ 11 ∷ 1 ∷ 0 ∷ nines 5
  -- "no space (or a place past the buffer)"
  pub just_fits : writes opening Clear none (nines 4) 2 ≡ 0 ∷ 0 ∷ 4 ∷ 9 ∷ 9 ∷ 27 ∷ 42 ∷ []
  pub no_space : writes opening (Step 1) none (nines 4) 2 ≡ 22 ∷ 0 ∷ 2 ∷ nines 4
  pub past : writes opening Clear none (nines 4) 5 ≡ 22 ∷ 0 ∷ 5 ∷ nines 4
  pub far_past : writes opening Clear none (nines 4) 18446744073709551615 ≡ 22 ∷ 0 ∷ 18446744073709551615 ∷ nines 4
  -- "3 first; 22 .. last"
  pub three_first : writes unsound (Put 56 32) none (nines 4) 3 ≡ 3 ∷ 0 ∷ 3 ∷ nines 4
  pub eleven_before_space : writes opening (Put 56 32) none (nines 4) 3 ≡ 11 ∷ 1 ∷ 3 ∷ nines 4
  -- "with room for a copy"
  pub copy : writes opening Copy none (nines 3) 0 ≡ 0 ∷ 0 ∷ 2 ∷ 27 ∷ 80 ∷ 9 ∷ []
  pub copy_of_dots : writes curve Copy none (nines 3) 0 ≡ 0 ∷ 0 ∷ 2 ∷ 27 ∷ 80 ∷ 9 ∷ []
  -- two, one behind the other: a parameter that is 27 begins nothing
  pub two_items : uncut (bytes_of (PrintCode 27) none ++ bytes_of Clear none) ≡ (27 ∷ 37 ∷ 27 ∷ []) ∷ (27 ∷ 42 ∷ []) ∷ []
  -- a pattern, with its rows; where it stood says nothing
  pub pattern : writes opening (Pattern 230 77) (1 ∷ 2 ∷ 3 ∷ 4 ∷ 5 ∷ 6 ∷ 7 ∷ 8 ∷ []) (nines 12) 0 ≡ 0 ∷ 0 ∷ 11 ∷ 27 ∷ 224 ∷ 230 ∷ 1 ∷ 2 ∷ 3 ∷ 4 ∷ 5 ∷ 6 ∷ 7 ∷ 8 ∷ 9 ∷ []
  pub pattern_bit : bytes_of (Pattern 230 0) (1 ∷ 2 ∷ 3 ∷ 4 ∷ 5 ∷ 6 ∷ 7 ∷ 9 ∷ []) ≡ 27 ∷ 224 ∷ 230 ∷ 1 ∷ 2 ∷ 3 ∷ 4 ∷ 5 ∷ 6 ∷ 7 ∷ 9 ∷ []
  -- "waiting bytes aside"
  pub while_waiting : writes waiting (Put 43 32) none (nines 5) 0 ≡ 0 ∷ 0 ∷ 4 ∷ 27 ∷ 61 ∷ 43 ∷ 32 ∷ 9 ∷ []
  -- P11: judged in mode 3 alone, and what is idle there not at all
  pub wild_dot : writes opening (DrawDot 2 255 2 0) none (nines 6) 0 ≡ 0 ∷ 0 ∷ 6 ∷ 27 ∷ 199 ∷ 2 ∷ 255 ∷ 2 ∷ 0 ∷ []
  pub bad_dot : writes curve (DrawDot 1 63 1 224) none (nines 6) 0 ≡ 11 ∷ 4 ∷ 0 ∷ nines 6
  pub wild_step : writes curve (Step 99) none (nines 3) 0 ≡ 0 ∷ 0 ∷ 3 ∷ 27 ∷ 148 ∷ 99 ∷ []
  pub mode_3 : writes opening Mode3 none (nines 3) 0 ≡ 0 ∷ 0 ∷ 3 ∷ 27 ∷ 208 ∷ 3 ∷ []
  -- by a second byte and its parameters: none of the list, too few, too many, a mode that is none, a 209 alone
  pub unlisted : writes_by opening 99 [] (nines 4) 0 ≡ 10 ∷ 0 ∷ 0 ∷ nines 4
  pub too_few : writes_by opening 61 (43 ∷ []) (nines 4) 0 ≡ 12 ∷ 0 ∷ 0 ∷ nines 4
  pub too_many : writes_by opening 42 (65 ∷ []) (nines 4) 0 ≡ 10 ∷ 0 ∷ 0 ∷ nines 4
  pub no_mode : writes_by opening 208 (9 ∷ []) (nines 4) 0 ≡ 11 ∷ 1 ∷ 0 ∷ nines 4
  pub alone : writes_by opening 209 [] (nines 4) 0 ≡ 0 ∷ 0 ∷ 3 ∷ 27 ∷ 209 ∷ 0 ∷ 9 ∷ []
  pub given : writes_by opening 61 (43 ∷ 32 ∷ []) (nines 5) 1 ≡ 0 ∷ 0 ∷ 5 ∷ 9 ∷ 27 ∷ 61 ∷ 43 ∷ 32 ∷ []
