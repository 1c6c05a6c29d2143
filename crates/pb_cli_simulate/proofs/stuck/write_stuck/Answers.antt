use Rattle.pb_local.specs.Tree.{program_of}
use Rattle.pb_cli_status.proofs.Fronts.{front_first, front_then}
use Rattle.pb_cli_simulate.specs.Endings.{rank_words, cause_words}
use Rattle.pb_cli_simulate.proofs.Parts.{both_then}
use Rattle.pb_cli_simulate.proofs.stuck.write_stuck.Goals as goal

pub returns-in-Ok-clause-whole : goal.returns-in-Ok-clause-whole
returns-in-Ok-clause-whole g c =
    both_then c.write_cause.result (g.O.Sink.taken c.args.out.now) (g.O.Sink.taken c.write_rank.new.out) (g.O.Sink.taken c.write_cause.new.out)
    (rank_words c.args.rank) (cause_words (program_of c.args.local.now) c.args.cause) c.in-Ok.ensures.whole c.write_cause.ensures.whole

pub returns-in-Ok-clause-front : goal.returns-in-Ok-clause-front
returns-in-Ok-clause-front g c =
    front_then c.write_cause.result (g.O.Sink.taken c.args.out.now) (g.O.Sink.taken c.write_rank.new.out) (g.O.Sink.taken c.write_cause.new.out)
    (rank_words c.args.rank) (cause_words (program_of c.args.local.now) c.args.cause) c.in-Ok.ensures.whole c.write_cause.ensures.front

pub returns-in-Err-clause-front : goal.returns-in-Err-clause-front
returns-in-Err-clause-front g c =
    front_first (g.O.Sink.taken c.args.out.now) (g.O.Sink.taken c.write_rank.new.out) (rank_words c.args.rank) (cause_words (program_of c.args.local.now) c.args.cause) c.in-Err.ensures.front
