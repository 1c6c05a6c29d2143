use Rattle.std.proofs.Common.{◌≡◌, subst, rules}
use Rattle.std.specs.List.{AllByRecursion}
use Rattle.pb_sched.specs.declared.format.Format.TheVariants.{Two}
use Rattle.pb_sched.specs.Formats.{layout, IsTurn}
use Rattle.pb_sched.proofs.Printed.{printed}
use Rattle.pb_sched.proofs.printing.print_schedule.Goals as goal

pub returns-clause-again : goal.returns-clause-again
returns-clause-again c =
    let is : c.push_turns.new.out.items ≡ layout Two c.args.schedule.now.seed c.args.schedule.now.turns.items = search rules in
    printed c.push_turns.new.out.items c.args.schedule.now.seed c.args.schedule.now.turns.items is c.in_ok-push_head.ensures.fits (subst (AllByRecursion (IsTurn Two)) c.deref.ensures.value c.in_ok-push_turns.ensures.each) c.requires
