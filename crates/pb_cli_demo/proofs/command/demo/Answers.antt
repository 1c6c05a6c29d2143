use Rattle.pb_cli_demo.proofs.Replies.{done, denied}
use Rattle.pb_cli_demo.proofs.command.demo.Goals as goal

pub returns-in-Ok-clause-reply : goal.returns-in-Ok-clause-reply
returns-in-Ok-clause-reply g c =
    done (λ r k w. g.A.Fn.post c.args.answers (c.args.count, (r, (k, tt))) w) c.args.count c.tell.result (g.O.Sink.taken c.args.out.now) (g.O.Sink.taken c.tell.new.out)
    c.in-Ok.counts c.in-Ok.ensures.counts c.tell.ensures.said

pub returns-in-Err-clause-reply : goal.returns-in-Err-clause-reply
returns-in-Err-clause-reply g c =
    denied (λ r k w. g.A.Fn.post c.args.answers (c.args.count, (r, (k, tt))) w) c.args.count c.refuse.result (g.O.Sink.taken c.args.out.now) (g.O.Sink.taken c.refuse.new.out)
    c.in-Err.why c.in-Err.ensures.denied c.refuse.ensures.said
