-- `in_line` meets its contract: where it says yes, the message is a run that its first item begins, within the line.
use mathlib.Core.Path.{subst, sym}
use native.Mathlib.Omega.{arith}
use mathlib.Core.Bool.{Bool}
use borrow.Author.Rules.{rules}
use lib.ListN.{get_or, length}
use borrow.Author.Tests.{eqb-true}
use Rattle.model.proofs.Tests.{differ}
use Rattle.ground.specs.Acts.{Reads}
use Rattle.ground.specs.Here.{lost}
use Rattle.short.proofs.Within.{first_prints, fitting}
use Rattle.short.proofs.in_line.Goals as goal

pub returns-then-count-room : goal.returns-then-count-room
returns-then-count-room c e =
    absurd (differ (sym e))

pub returns-then-misses : goal.returns-then-misses
returns-then-misses c e =
    absurd (differ (sym e))

pub bounds-message-0 : goal.bounds-message-0
bounds-message-0 c =
    let fits = fitting (length c.args.message.now) c.args.frame.columns c.args.place.column c.if-count-room.false in
    search (rules, fits.0)

pub returns-in_default : goal.returns-in_default
returns-in_default c e =
    absurd (differ (sym e))

pub run_end-requires : goal.run_end-requires
run_end-requires c =
    first_prints (get_or c.args.message.now 0 0) c.one_byte-item.ensures (rw c.in-Printed.is)

pub returns : goal.returns
returns c e =
    let fits = fitting (length c.args.message.now) c.args.frame.columns c.args.place.column c.if-count-room.false in
    let all = eqb-true c.run_end.result (length c.args.message.now) e in
    record {
      some = fits.0;
      room = omega (arith, fits.1, c.requires.fits);
      seen = subst (λ (b : Bool). Reads lost c.args.frame c.args.place b) c.if-misses.false c.misses.ensures;
      print = λ j h. c.run_end.ensures.printing.print j (omega arith) (omega (arith, all, h));
    }
