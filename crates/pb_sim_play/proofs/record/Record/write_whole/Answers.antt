use Rattle.std.proofs.Common.{rules}
use Rattle.pb_sim_play.proofs.Kept.{lines_front, turns_out, turns_front}
use Rattle.pb_sim_play.proofs.record.Record.write_whole.Goals as goal

pub returns-in-Lines-clause-front : goal.returns-in-Lines-clause-front
returns-in-Lines-clause-front g c is start tree turns w held =
    lines_front c.args.self c.in-Lines.log start (g.O.Sink.taken c.args.out.now) (g.O.Sink.taken c.write.new.out) c.args.seed tree turns w c.in-Lines.is c.in-Err-WriteFault.ensures.front held

pub returns-in-Ok-write_schedule-clause-whole : goal.returns-in-Ok-write_schedule-clause-whole
returns-in-Ok-write_schedule-clause-whole g c start tree turns w held =
    turns_out c.args.self c.in-Turns.turns start (g.O.Sink.taken c.args.out.now) (g.O.Sink.taken c.write_schedule.new.out) c.args.seed tree turns w c.in-Turns.is c.in-Ok-write_schedule.ensures.whole held

pub returns-clause-front : goal.returns-clause-front
returns-clause-front g c is start tree turns w held =
    turns_front c.args.self c.in-Turns.turns start (g.O.Sink.taken c.args.out.now) (g.O.Sink.taken c.write_schedule.new.out) c.args.seed tree turns w c.in-Turns.is (c.in-Err-WriteFault-write_schedule.ensures.front (search rules)) held
