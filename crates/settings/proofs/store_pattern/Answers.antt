-- `settings::store_pattern` meets its contract. In the arm of 224 what `keep` stores are the rows that the rule takes out of the message;
-- any other sequence is not 224, of which alone something is claimed.
use mathlib.Core.Path.{◌∙◌, ap, refl, sym}
use native.Mathlib.Omega.{arith}
use lib.Dec.{eqb}
use Rattle.model.specs.declared.Sequence.{Sequence as Seq}
use Rattle.model.specs.Sequences.{code_of}
use Rattle.model.specs.Sound.{array_ranges}
use Rattle.model.specs.Checks.{member}
use Rattle.model.specs.OnScreen.{on_screen?}
use Rattle.model.specs.Rules.{obeyed, with_settings, with_kind_patterns}
use Rattle.model.proofs.Tests.{differ}
use Rattle.model.proofs.Cases.{ranged}
use Rattle.values.specs.Setting.{settled}
use Rattle.values.proofs.Idle.{awake_as}
use Rattle.settings.proofs.Idle.{no_pattern}
use Rattle.settings.proofs.Rows.{taken_listed}
use borrow.Enum.Refused.{opened}
use Rattle.settings.proofs.store_pattern.Goals as goal

pub returns-in_default : goal.returns-in_default
unfolding settled on_screen? member obeyed with_settings with_kind_patterns array_ranges
returns-in_default c =
    record { does = λ e. absurd (differ (sym e ∙ no_pattern c.args.q (opened c.in_default.in_default-own.keys2))); rest = refl; others = λ e. refl }

pub keep-requires : goal.keep-requires
unfolding settled on_screen? member obeyed with_settings with_kind_patterns array_ranges
keep-requires c =
    let is = c.in-Pattern.is in let pre = c.requires in omega (arith, ranged _ pre.legal is (awake_as _ is pre.awake), pre.sound.arrays, pre.rows _ _ is)

pub returns : goal.returns
unfolding settled on_screen? member obeyed with_settings with_kind_patterns array_ranges
returns c =
    let is = c.in-Pattern.is in
    record {
      does = λ e cells layer dots. rw (is, c.keep.ensures, taken_listed _ _ 8 (c.requires.rows _ _ is));
      rest = rw c.keep.ensures;
      others = λ e. absurd (differ (sym (ap (λ (j : Seq). eqb (code_of j) 224) is) ∙ e));
    }
