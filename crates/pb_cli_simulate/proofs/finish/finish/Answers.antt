use Rattle.std.proofs.Common.{sym, subst}
use Rattle.pb_local.specs.Tree.{program_of}
use Rattle.pb_cli_status.specs.Written.{Says}
use Rattle.pb_cli_simulate.specs.Endings.{last_line, status_of}
use Rattle.pb_cli_simulate.proofs.finish.finish.Goals as goal

pub returns-in-Stuck-clause-said : goal.returns-in-Stuck-clause-said
returns-in-Stuck-clause-said g c =
    subst (λ e. Says (status_of e) (last_line (program_of c.args.local.now) c.args.most c.args.shown e) c.stuck.result (g.O.Sink.taken c.args.out.now) (g.O.Sink.taken c.stuck.new.out)) (sym c.in-Stuck.is) c.stuck.ensures.said

pub returns-in-Turns-clause-said : goal.returns-in-Turns-clause-said
returns-in-Turns-clause-said g c =
    subst (λ e. Says (status_of e) (last_line (program_of c.args.local.now) c.args.most c.args.shown e) c.refuse.result (g.O.Sink.taken c.args.out.now) (g.O.Sink.taken c.refuse.new.out)) (sym c.in-Turns.is) c.refuse.ensures.said

pub returns-in-Refused-clause-said : goal.returns-in-Refused-clause-said
returns-in-Refused-clause-said g c =
    subst (λ e. Says (status_of e) (last_line (program_of c.args.local.now) c.args.most c.args.shown e) c.refuse-in-Refused.result (g.O.Sink.taken c.args.out.now) (g.O.Sink.taken c.refuse-in-Refused.new.out)) (sym c.in-Refused.is) c.refuse-in-Refused.ensures.said
