-- `settings::obey` meets its contract. In the arm of a sequence that changes a store `q` is that sequence, and what its rule says is what the
-- function that the arm calls ensures; the rule leaves patterns and key texts. What the last arm is left with changes no store, and `set` does it;
-- of 224 only patterns and key texts are claimed.
use mathlib.Core.Path.{refl}
use native.Mathlib.Omega.{arith}
use Rattle.model.specs.Checks.{member}
use Rattle.model.specs.OnScreen.{on_screen?}
use Rattle.model.specs.Rules.{obeyed, flagged, with_dots, with_settings, emptied, with_layer, mode_set}
use Rattle.model.proofs.Cases.{ranged}
use Rattle.values.specs.Setting.{settled}
use Rattle.settings.proofs.Arm.{arm}
use Rattle.settings.proofs.Drawings.{drawable, stroked}
use Rattle.modes.proofs.Displays.{display_stays}
use Rattle.values.proofs.Idle.{awake_as}
use Rattle.settings.proofs.Idle.{storeless, two_screens}
use Rattle.modes.proofs.Parts.{stands}
use borrow.Enum.Refused.{opened}
use Rattle.settings.proofs.obey.Goals as goal

pub mode2-requires : goal.mode2-requires
unfolding settled on_screen? member obeyed flagged with_dots with_settings emptied with_layer mode_set
mode2-requires c =
    let p = c.requires in omega (arith, ranged _ p.legal c.in-Mode2.is (awake_as _ c.in-Mode2.is p.awake))

pub stroke-requires : goal.stroke-requires
unfolding settled on_screen? member obeyed flagged with_dots with_settings emptied with_layer mode_set
stroke-requires c =
    let p = c.requires in drawable c.in-DrawLine.is _ p.legal p.awake

pub dot-requires : goal.dot-requires
unfolding settled on_screen? member obeyed flagged with_dots with_settings emptied with_layer mode_set
dot-requires c =
    let p = c.requires in let r = ranged _ p.legal c.in-DrawDot.is (awake_as _ c.in-DrawDot.is p.awake) in record { number = omega (arith, r); vertical = omega (arith, r); horizontal = omega (arith, r) }

pub cover-requires : goal.cover-requires
unfolding settled on_screen? member obeyed flagged with_dots with_settings emptied with_layer mode_set
cover-requires c =
    let p = c.requires in omega (arith, ranged _ p.legal c.in-Cover.is (awake_as _ c.in-Cover.is p.awake))

pub display-requires : goal.display-requires
unfolding settled on_screen? member obeyed flagged with_dots with_settings emptied with_layer mode_set
display-requires c =
    let p = c.requires in (p.sound, two_screens _ (awake_as _ c.in-Display.is p.awake))

pub set-requires : goal.set-requires
unfolding settled on_screen? member obeyed flagged with_dots with_settings emptied with_layer mode_set
set-requires c =
    let p = c.requires in record { sound = p.sound; settings_value = (p.legal, p.awake) }

pub returns-in-Mode0 : goal.returns-in-Mode0
unfolding settled on_screen? member obeyed flagged with_dots with_settings emptied with_layer mode_set
returns-in-Mode0 c =
    arm c.in-Mode0.is (λ m. c.mode0.ensures) (refl, refl) refl

pub returns-in-Mode1 : goal.returns-in-Mode1
unfolding settled on_screen? member obeyed flagged with_dots with_settings emptied with_layer mode_set
returns-in-Mode1 c =
    arm c.in-Mode1.is (λ m. c.mode1.ensures) (refl, refl) refl

pub returns-in-Mode2 : goal.returns-in-Mode2
unfolding settled on_screen? member obeyed flagged with_dots with_settings emptied with_layer mode_set
returns-in-Mode2 c =
    arm c.in-Mode2.is (λ m. c.mode2.ensures) (refl, refl) refl

pub returns-in-Mode3 : goal.returns-in-Mode3
unfolding settled on_screen? member obeyed flagged with_dots with_settings emptied with_layer mode_set
returns-in-Mode3 c =
    arm c.in-Mode3.is (λ m. c.mode3.ensures) (refl, refl) refl

pub returns-in-DrawLine : goal.returns-in-DrawLine
unfolding settled on_screen? member obeyed flagged with_dots with_settings emptied with_layer mode_set
returns-in-DrawLine c =
    stroked c.in-DrawLine.is c.stroke.ensures.0 c.stroke.ensures.1

pub returns-in-DrawDot : goal.returns-in-DrawDot
unfolding settled on_screen? member obeyed flagged with_dots with_settings emptied with_layer mode_set
returns-in-DrawDot c =
    arm c.in-DrawDot.is (λ m. stands c.dot.ensures.0 refl refl c.dot.ensures.1) (refl, refl) refl

pub returns-in-Select : goal.returns-in-Select
unfolding settled on_screen? member obeyed flagged with_dots with_settings emptied with_layer mode_set
returns-in-Select c =
    arm c.in-Select.is (λ m. stands c.select.ensures.0 refl c.select.ensures.1 refl) (refl, refl) refl

pub returns-in-Cover : goal.returns-in-Cover
unfolding settled on_screen? member obeyed flagged with_dots with_settings emptied with_layer mode_set
returns-in-Cover c =
    arm c.in-Cover.is (λ m. rw (c.cover.ensures.0, c.cover.ensures.1)) (refl, refl) refl

pub returns-in-Display : goal.returns-in-Display
unfolding settled on_screen? member obeyed flagged with_dots with_settings emptied with_layer mode_set
returns-in-Display c =
    arm c.in-Display.is (λ m. c.display.ensures _ _) (display_stays _ _) refl

pub returns-in_default : goal.returns-in_default
unfolding settled on_screen? member obeyed flagged with_dots with_settings emptied with_layer mode_set
returns-in_default c =
    let h = c.set.ensures in
    record {
      does = λ e m. h.does (storeless c.args.q (opened c.in_default.in_default-own.keys10) e) m _ _ _;
      left = λ e. stands (h.left (rw e)) refl refl refl;
      keeps = h.keeps;
    }
