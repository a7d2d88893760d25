-- `values::set` meets its contract. In the arm of a sequence `q` is that sequence, so that what is to stand is what its rule says, and this is
-- what stands where the arm sets its field. The last arm leaves what changes nothing, and what does more than set something.
use mathlib.Core.Path.{refl}
use native.Mathlib.Omega.{arith}
use Rattle.model.specs.Sound.{array_ranges}
use Rattle.model.specs.Checks.{member}
use Rattle.model.specs.OnScreen.{on_screen?}
use Rattle.model.specs.Rules.{obeyed, flagged, with_settings, with_keys, with_kind_patterns}
use Rattle.model.proofs.Cases.{ranged}
use Rattle.values.specs.Setting.{settled}
use Rattle.values.proofs.Arm.{set_arm}
use Rattle.values.proofs.Idle.{awake_as, idle}
use borrow.Enum.Refused.{opened}
use Rattle.values.proofs.set.Goals as goal

pub overflow_sub-s : goal.overflow_sub-s
overflow_sub-s c =
    omega (arith, ranged _ c.requires.settings_value.0 c.in-Tracking.is (awake_as _ c.in-Tracking.is c.requires.settings_value.1))

pub returns-in-CursorOff : goal.returns-in-CursorOff
unfolding settled on_screen? member obeyed flagged with_settings with_keys with_kind_patterns array_ranges
returns-in-CursorOff c =
    set_arm c.in-CursorOff.is (λ m cells layer dots. refl) (refl, refl) refl

pub returns-in-CursorOn : goal.returns-in-CursorOn
unfolding settled on_screen? member obeyed flagged with_settings with_keys with_kind_patterns array_ranges
returns-in-CursorOn c =
    set_arm c.in-CursorOn.is (λ m cells layer dots. refl) (refl, refl) refl

pub returns-in-Charset : goal.returns-in-Charset
unfolding settled on_screen? member obeyed flagged with_settings with_keys with_kind_patterns array_ranges
returns-in-Charset c =
    set_arm c.in-Charset.is (λ m cells layer dots. refl) (refl, refl) refl

pub returns-in-SecretOn : goal.returns-in-SecretOn
unfolding settled on_screen? member obeyed flagged with_settings with_keys with_kind_patterns array_ranges
returns-in-SecretOn c =
    set_arm c.in-SecretOn.is (λ m cells layer dots. refl) (refl, refl) refl

pub returns-in-SecretOff : goal.returns-in-SecretOff
unfolding settled on_screen? member obeyed flagged with_settings with_keys with_kind_patterns array_ranges
returns-in-SecretOff c =
    set_arm c.in-SecretOff.is (λ m cells layer dots. refl) (refl, refl) refl

pub returns-in-Step : goal.returns-in-Step
unfolding settled on_screen? member obeyed flagged with_settings with_keys with_kind_patterns array_ranges
returns-in-Step c =
    set_arm c.in-Step.is (λ m cells layer dots. refl) (refl, refl) refl

pub returns-in-Tracking : goal.returns-in-Tracking
unfolding settled on_screen? member obeyed flagged with_settings with_keys with_kind_patterns array_ranges
returns-in-Tracking c =
    set_arm c.in-Tracking.is (λ m cells layer dots. refl) (refl, refl) refl

pub returns-in-InsOn : goal.returns-in-InsOn
unfolding settled on_screen? member obeyed flagged with_settings with_keys with_kind_patterns array_ranges
returns-in-InsOn c =
    set_arm c.in-InsOn.is (λ m cells layer dots. refl) (refl, refl) refl

pub returns-in-InsOff : goal.returns-in-InsOff
unfolding settled on_screen? member obeyed flagged with_settings with_keys with_kind_patterns array_ranges
returns-in-InsOff c =
    set_arm c.in-InsOff.is (λ m cells layer dots. refl) (refl, refl) refl

pub returns-in-CapsOn : goal.returns-in-CapsOn
unfolding settled on_screen? member obeyed flagged with_settings with_keys with_kind_patterns array_ranges
returns-in-CapsOn c =
    set_arm c.in-CapsOn.is (λ m cells layer dots. refl) (refl, refl) refl

pub returns-in-CapsOff : goal.returns-in-CapsOff
unfolding settled on_screen? member obeyed flagged with_settings with_keys with_kind_patterns array_ranges
returns-in-CapsOff c =
    set_arm c.in-CapsOff.is (λ m cells layer dots. refl) (refl, refl) refl

pub returns-in-NumOn : goal.returns-in-NumOn
unfolding settled on_screen? member obeyed flagged with_settings with_keys with_kind_patterns array_ranges
returns-in-NumOn c =
    set_arm c.in-NumOn.is (λ m cells layer dots. refl) (refl, refl) refl

pub returns-in-NumOff : goal.returns-in-NumOff
unfolding settled on_screen? member obeyed flagged with_settings with_keys with_kind_patterns array_ranges
returns-in-NumOff c =
    set_arm c.in-NumOff.is (λ m cells layer dots. refl) (refl, refl) refl

pub returns-in-StringsOff : goal.returns-in-StringsOff
unfolding settled on_screen? member obeyed flagged with_settings with_keys with_kind_patterns array_ranges
returns-in-StringsOff c =
    set_arm c.in-StringsOff.is (λ m cells layer dots. refl) (refl, refl) refl

pub returns-in-StringsOn : goal.returns-in-StringsOn
unfolding settled on_screen? member obeyed flagged with_settings with_keys with_kind_patterns array_ranges
returns-in-StringsOn c =
    set_arm c.in-StringsOn.is (λ m cells layer dots. refl) (refl, refl) refl

pub returns-in-CursorKind : goal.returns-in-CursorKind
unfolding settled on_screen? member obeyed flagged with_settings with_keys with_kind_patterns array_ranges
returns-in-CursorKind c =
    set_arm c.in-CursorKind.is (λ m cells layer dots. refl) (refl, refl) refl

pub returns-in-Repeat : goal.returns-in-Repeat
unfolding settled on_screen? member obeyed flagged with_settings with_keys with_kind_patterns array_ranges
returns-in-Repeat c =
    set_arm c.in-Repeat.is (λ m cells layer dots. refl) (refl, refl) refl

pub returns-in-RepeatDelay : goal.returns-in-RepeatDelay
unfolding settled on_screen? member obeyed flagged with_settings with_keys with_kind_patterns array_ranges
returns-in-RepeatDelay c =
    set_arm c.in-RepeatDelay.is (λ m cells layer dots. refl) (refl, refl) refl

pub returns-in-RepeatInterval : goal.returns-in-RepeatInterval
unfolding settled on_screen? member obeyed flagged with_settings with_keys with_kind_patterns array_ranges
returns-in-RepeatInterval c =
    set_arm c.in-RepeatInterval.is (λ m cells layer dots. refl) (refl, refl) refl

pub returns-in-Arrows1 : goal.returns-in-Arrows1
unfolding settled on_screen? member obeyed flagged with_settings with_keys with_kind_patterns array_ranges
returns-in-Arrows1 c =
    set_arm c.in-Arrows1.is (λ m cells layer dots. rw c.arrows-s.ensures) (refl, refl) refl

pub returns-in-Arrows2 : goal.returns-in-Arrows2
unfolding settled on_screen? member obeyed flagged with_settings with_keys with_kind_patterns array_ranges
returns-in-Arrows2 c =
    set_arm c.in-Arrows2.is (λ m cells layer dots. rw c.arrows-s-in-Arrows2.ensures) (refl, refl) refl

pub returns-in-Arrows3 : goal.returns-in-Arrows3
unfolding settled on_screen? member obeyed flagged with_settings with_keys with_kind_patterns array_ranges
returns-in-Arrows3 c =
    set_arm c.in-Arrows3.is (λ m cells layer dots. rw c.arrows-s-in-Arrows3.ensures) (refl, refl) refl

pub returns-in-Shift : goal.returns-in-Shift
unfolding settled on_screen? member obeyed flagged with_settings with_keys with_kind_patterns array_ranges
returns-in-Shift c =
    set_arm c.in-Shift.is (λ m cells layer dots. refl) (refl, refl) refl

pub returns-in_default : goal.returns-in_default
unfolding settled on_screen? member obeyed flagged with_settings with_keys with_kind_patterns array_ranges
returns-in_default c =
    record { does = λ e m cells layer dots. idle c.args.q (opened c.in_default.in_default-own.keys24) e m _; left = λ e. refl; keeps = (refl, refl) }
