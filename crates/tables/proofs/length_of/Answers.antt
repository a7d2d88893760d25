-- `tables::length_of` meets its contract. Each way gives the list's length: an arm's keys by the list at each of them, 208 by the row that its mode
-- byte picks, the neighbours of an arm and the gaps between arms by the list at each byte of a range.
use mathlib.Core.Path.{refl}
use mathlib.Core.List.{[], ◌∷◌}
use native.Mathlib.Omega.{arith}
use Rattle.model.specs.Sequences.{find, mode_row_of}
use Rattle.tables.proofs.LengthLaws.{by_key, by_mode, by_other, by_run}
use Rattle.tables.proofs.length_of.Goals as goal

pub returns-in-210 : goal.returns-in-210
unfolding find mode_row_of
returns-in-210 c =
    by_key _ (210 ∷ []) _ _ refl c.in-210.is

pub returns-in-224 : goal.returns-in-224
unfolding find mode_row_of
returns-in-224 c =
    by_key _ (224 ∷ []) _ _ refl c.in-224.is

pub returns-in-198 : goal.returns-in-198
unfolding find mode_row_of
returns-in-198 c =
    by_key _ (198 ∷ []) _ _ refl c.in-198.is

pub returns-in-0 : goal.returns-in-0
unfolding find mode_row_of
returns-in-0 c =
    by_mode _ _ _ 0 c.in-208.is c.in-0.is refl

pub returns-in-1 : goal.returns-in-1
unfolding find mode_row_of
returns-in-1 c =
    by_mode _ _ _ 1 c.in-208.is c.in-1.is refl

pub returns-in-2 : goal.returns-in-2
unfolding find mode_row_of
returns-in-2 c =
    by_mode _ _ _ 2 c.in-208.is c.in-2.is refl

pub returns-in-3 : goal.returns-in-3
unfolding find mode_row_of
returns-in-3 c =
    by_mode _ _ _ 3 c.in-208.is c.in-3.is refl

pub returns-in_default-third : goal.returns-in_default-third
unfolding find mode_row_of
returns-in_default-third c =
    by_other _ _ _ c.in-208.is c.in_default-third.in_default-third-own.rest refl

pub returns-in_default : goal.returns-in_default
unfolding find mode_row_of
returns-in_default c =
    by_run _ 0 50 _ _ refl c.in_default.in_default-own.rest (omega arith)

pub returns-in_default-2 : goal.returns-in_default-2
unfolding find mode_row_of
returns-in_default-2 c =
    by_run _ 52 92 _ _ refl c.in_default.in_default-own.rest (omega arith)

pub returns-in_default-3 : goal.returns-in_default-3
unfolding find mode_row_of
returns-in_default-3 c =
    let told = c.in_default.in_default-own in by_run _ 146 2 _ _ refl told.rest (omega arith)

pub returns-in_default-4 : goal.returns-in_default-4
unfolding find mode_row_of
returns-in_default-4 c =
    let told = c.in_default.in_default-own in by_run _ 152 8 _ _ refl told.rest (omega arith)

pub returns-in_default-5 : goal.returns-in_default-5
unfolding find mode_row_of
returns-in_default-5 c =
    by_run _ 166 10 _ _ refl c.in_default.in_default-own.rest (omega arith)

pub returns-in_default-6 : goal.returns-in_default-6
unfolding find mode_row_of
returns-in_default-6 c =
    by_run _ 178 30 _ _ refl c.in_default.in_default-own.rest (omega arith)

pub returns-in_default-7 : goal.returns-in_default-7
unfolding find mode_row_of
returns-in_default-7 c =
    let told = c.in_default.in_default-own in by_run _ 214 26 _ _ refl told.rest (omega arith)

pub returns-in_default-8 : goal.returns-in_default-8
unfolding find mode_row_of
returns-in_default-8 c =
    let told = c.in_default.in_default-own in by_run _ 246 10 _ _ refl told.rest (omega arith)

pub returns-in-199 : goal.returns-in-199
unfolding find mode_row_of
returns-in-199 c =
    by_key _ (199 ∷ []) _ _ refl c.in-199.is

pub returns-in-199-2 : goal.returns-in-199-2
unfolding find mode_row_of
returns-in-199-2 c =
    let told = c.in-199.in_default-own in by_run _ 243 3 _ _ refl told.rest (omega arith)

pub returns-in-61 : goal.returns-in-61
unfolding find mode_row_of
returns-in-61 c =
    by_key _ (61 ∷ []) _ _ refl c.in-61.is

pub returns-in-61-2 : goal.returns-in-61-2
unfolding find mode_row_of
returns-in-61-2 c =
    let told = c.in-61.in_default-own in by_run _ 144 2 _ _ refl told.rest (omega arith)

pub returns-in-42 : goal.returns-in-42
unfolding find mode_row_of
returns-in-42 c =
    by_key _ (42 ∷ 80 ∷ 84 ∷ 89 ∷ 123 ∷ 125 ∷ 215 ∷ 246 ∷ []) _ _ refl c.in-42.in-42-own.keys1

pub returns-in-42-2 : goal.returns-in-42-2
unfolding find mode_row_of
returns-in-42-2 c =
    by_run _ 50 2 _ _ refl c.in-42.in_default-own.rest (omega arith)

pub returns-in-42-3 : goal.returns-in-42-3
unfolding find mode_row_of
returns-in-42-3 c =
    let told = c.in-42.in_default-own in by_run _ 150 2 _ _ refl told.rest (omega arith)

pub returns-in-42-4 : goal.returns-in-42-4
unfolding find mode_row_of
returns-in-42-4 c =
    let told = c.in-42.in_default-own in by_run _ 160 6 _ _ refl told.rest (omega arith)

pub returns-in-42-5 : goal.returns-in-42-5
unfolding find mode_row_of
returns-in-42-5 c =
    by_run _ 176 2 _ _ refl c.in-42.in_default-own.rest (omega arith)

pub returns-in-42-6 : goal.returns-in-42-6
unfolding find mode_row_of
returns-in-42-6 c =
    let told = c.in-42.in_default-own in by_run _ 208 6 _ _ refl told.rest (omega arith)

pub returns-in-37 : goal.returns-in-37
unfolding find mode_row_of
returns-in-37 c =
    by_key _ (37 ∷ 67 ∷ 209 ∷ 211 ∷ 214 ∷ 247 ∷ []) _ _ refl c.in-37.is

pub returns-in-37-2 : goal.returns-in-37-2
unfolding find mode_row_of
returns-in-37-2 c =
    let told = c.in-37.in_default-own in by_run _ 148 2 _ _ refl told.rest (omega arith)

pub returns-in-37-3 : goal.returns-in-37-3
unfolding find mode_row_of
returns-in-37-3 c =
    let told = c.in-37.in_default-own in by_run _ 240 3 _ _ refl told.rest (omega arith)
