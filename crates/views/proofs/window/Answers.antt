-- `window`: what the settings say of the screen with that number.
use native.Mathlib.Omega.{arith}
use Rattle.model.proofs.Keep.{screens_most}
use Rattle.views.proofs.Windows.{window_1, window_2}
use Rattle.views.proofs.window.Goals as goal

pub overflow_sub-above : goal.overflow_sub-above
overflow_sub-above c =
    omega (arith, c.requires.1.1, c.requires.0.inside c.args.screen c.requires.1.0)

pub overflow_mul-result : goal.overflow_mul-result
overflow_mul-result c = let a = c.args in omega (arith, window_1 a.settings c.requires.0 a.screen a.top (omega arith) c.requires.1.1)

pub returns-then-screen-eq0 : goal.returns-then-screen-eq0
returns-then-screen-eq0 c = let a = c.args in window_1 a.settings c.requires.0 a.screen a.top (omega arith) c.requires.1.1

pub overflow_mul-base : goal.overflow_mul-base
overflow_mul-base c = let a = c.args in omega (arith, window_2 a.settings c.requires.0 a.screen a.top c.requires.1.0 (omega (arith, c.requires.1.0, screens_most a.settings)) c.requires.1.1)

pub overflow_mul-result-2 : goal.overflow_mul-result-2
overflow_mul-result-2 c = let a = c.args in omega (arith, window_2 a.settings c.requires.0 a.screen a.top c.requires.1.0 (omega (arith, c.requires.1.0, screens_most a.settings)) c.requires.1.1)

pub overflow_add-result : goal.overflow_add-result
overflow_add-result c = let a = c.args in omega (arith, window_2 a.settings c.requires.0 a.screen a.top c.requires.1.0 (omega (arith, c.requires.1.0, screens_most a.settings)) c.requires.1.1)

pub returns : goal.returns
returns c = let a = c.args in window_2 a.settings c.requires.0 a.screen a.top c.requires.1.0 (omega (arith, c.requires.1.0, screens_most a.settings)) c.requires.1.1
