-- What the calls promise: the buffer b and the place at before, b' and the answer r after.
use Rattle.std.specs.Prelude.{◌≡◌, ℕ, ◌+◌, cond, List, length, Result, Ok, Err}
use denote.Ref.{at_last}
use Rattle.model.specs.declared.Settings.{Settings}
use Rattle.model.specs.declared.Item.{Item}
use Rattle.model.specs.Bytes.{put}
use Rattle.writer.specs.declared.Reached.{Reached}
use Rattle.writer.specs.declared.Refusal.{Refusal}
use Rattle.writer.specs.declared.Writer.{Writer}
use Rattle.writer.specs.Writing.{Wanted, buffer_after, number_in, number_of, parameter_in, parameter_of, place_after, space?}

-- the promise of a call that writes
pub record WritePromised (s : Settings) (x : Wanted) (b : List ℕ) (at : ℕ) (b' : List ℕ) (r : Reached) : Type 0 where
  pub number_is : r.number ≡ number_of s x b at
  pub parameter_is : r.parameter ≡ parameter_of s x
  pub place_is : r.place ≡ place_after s x b at
  pub buffer_is : b' ≡ buffer_after s x b at

-- a writer afterwards: the same borrow, at what the buffer then holds, and the place reached
abbrev pub wrote : Writer → Settings → Wanted → Writer
wrote w s x = record { buffer = at_last w.buffer (buffer_after s x w.buffer.now w.place); place = place_after s x w.buffer.now w.place }

-- what is answered, from a place on: the place behind, or a refusal and that place
abbrev pub reached : ℕ → Result ℕ Refusal → Reached
reached at (Ok n) = record { place = n; number = 0; parameter = 0 }
reached at (Err v) = record { place = at; number = v.number; parameter = v.parameter }

-- of the parts: the reader's word, as numbers; a refusal's is not 0
abbrev pub Told : Item → Result (Unit {0}) Refusal → Type 0
Told i (Ok x) = (number_in i ≡ 0) × (parameter_in i ≡ 0)
Told i (Err v) = (v.number ≡ number_in i) × (v.parameter ≡ parameter_in i) × (v.number ≡ 0 → ⊥)

-- and some bytes laid down from a place on: 22, or all of them
pub record Laid (b : List ℕ) (at : ℕ) (bs : List ℕ) (b' : List ℕ) (r : Reached) : Type 0 where
  pub number_is : r.number ≡ cond (space? b at bs) 0 22
  pub parameter_is : r.parameter ≡ 0
  pub place_is : r.place ≡ cond (space? b at bs) (at + length bs) at
  pub buffer_is : b' ≡ cond (space? b at bs) (put at bs b) b
