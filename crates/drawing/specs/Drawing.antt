-- Document 02, P11: what 198 and 199 ask, and which dots 198 leaves.
use Rattle.std.specs.Prelude.{◌≡◌, ℕ, ◌<◌, true, false, List, eqb}
use Rattle.model.specs.declared.Limits.{Limits}
use Rattle.model.specs.declared.Sequence.{Sequence as Seq}
use Rattle.model.specs.Checks.{InRanges}
use Rattle.model.specs.State.{State}
use Rattle.model.specs.Judging.{ranges}
use Rattle.model.specs.Rules.{obeyed, with_dots}
use Rattle.model.specs.Sequences.{code_of}

-- every parameter is in its range, whatever is selected
abbrev pub Drawable : Seq → Type 0
Drawable q = (l : Limits) → InRanges (ranges q l)

-- 199: "sets (1) or clears (0) a dot, vertical 0 to 63, horizontal 0 to 479"
pub record Dotted (on v h : ℕ) : Type 0 where
  pub number : on < 2
  pub vertical : v < 64
  pub horizontal : h < 480

-- 198 does what the rules say of it, whatever the message and what else stands; any other leaves the dots
pub record Stroked (q : Seq) (dots dots' : List ℕ) : Type 0 where
  pub does : eqb (code_of q) 198 ≡ true → (m : ℕ → ℕ) (st : State) → st.dots ≡ dots → with_dots dots' st ≡ obeyed m q st
  pub left : eqb (code_of q) 198 ≡ false → dots' ≡ dots
