-- What the number says that is told before a message call judges the settings whole.
use mathlib.Core.Path.{◌≡◌, refl}
use Prim.Native.Nat.{◌+◌, ◌≤◌, ℕ}
use native.Mathlib.Omega.{arith}
use mathlib.Core.Bool.{Bool, cond, false, true}
use mathlib.Core.List.{List}
use lib.ListN.{length}
use borrow.Author.Tests.{leb-true}
use Rattle.model.specs.declared.Settings.{Settings}
use Rattle.model.specs.Line.{LineSound, limit, line?}
use Rattle.calls.specs.Calls.{Terminal, countable, sendable, sized, sound_in}
use Rattle.model.proofs.LineLaws.{line_true}
use Rattle.stream_parts.specs.Parts.{closing_number, line_number}

-- the numbers by their tests
pub line_numbered : (t : Terminal) (m : List ℕ) (a b c d e : Bool) → let s : Settings = t.state.settings in
    sized t ≡ a → sendable m ≡ b → line? s.waiting s.held s.count ≡ c → countable s m ≡ d → sound_in t ≡ e → line_number t m ≡ cond a (cond b (cond c (cond d 0 (cond e 15 3)) 3) 2) 1
unfolding line_number
line_numbered t m a b c d e p q r v w = λ i. cond (p i) (cond (q i) (cond (r i) (cond (v i) 0 (cond (w i) 15 3)) 3) 2) 1

pub closing_numbered : (t : Terminal) (a b : Bool) → let s : Settings = t.state.settings in
    sized t ≡ a → line? s.waiting s.held s.count ≡ b → closing_number t ≡ cond a (cond b 0 3) 1
unfolding closing_number
closing_numbered t a b p q = λ i. cond (p i) (cond (q i) 0 3) 1

-- 0: neither 1 nor 2, nor 3 for the line, nor 15
pub record Told (t : Terminal) (m : List ℕ) : Type 0 where
  pub stores : sized t ≡ true
  pub few : sendable m ≡ true
  pub line : line? t.state.settings.waiting t.state.settings.held t.state.settings.count ≡ true
  pub counts : countable t.state.settings m ≡ true

pub told : (t : Terminal) (m : List ℕ) → line_number t m ≡ 0 → Told t m
told t m e = go (sized t) (sendable m) (line? s.waiting s.held s.count) (countable s m) (sound_in t) refl refl refl refl refl
  where
    s : Settings
    s = t.state.settings

    go : (a b c d f : Bool) → sized t ≡ a → sendable m ≡ b → line? s.waiting s.held s.count ≡ c → countable s m ≡ d → sound_in t ≡ f → Told t m
    go true true true true f p q r v w = record { stores = p; few = q; line = r; counts = v }
    go true true true false true p q r v w = absurd (omega (arith, line_numbered t m true true true false true p q r v w))
    go true true true false false p q r v w = absurd (omega (arith, line_numbered t m true true true false false p q r v w))
    go true true false d f p q r v w = absurd (omega (arith, line_numbered t m true true false d f p q r v w))
    go true false c d f p q r v w = absurd (omega (arith, line_numbered t m true false c d f p q r v w))
    go false b c d f p q r v w = absurd (omega (arith, line_numbered t m false b c d f p q r v w))

-- the same as facts
pub told_line : {t : Terminal} {m : List ℕ} → Told t m → LineSound t.state.settings.waiting t.state.settings.held t.state.settings.count
told_line {t} h = let s : Settings = t.state.settings in line_true s.waiting s.held s.count h.line

pub told_few : {t : Terminal} {m : List ℕ} → Told t m → length m ≤ 4096
told_few {m = m} h = leb-true (length m) 4096 h.few

pub told_within : {t : Terminal} {m : List ℕ} → Told t m → t.state.settings.count + length m ≤ limit
unfolding countable
told_within {t} {m} h = leb-true (t.state.settings.count + length m) limit h.counts
