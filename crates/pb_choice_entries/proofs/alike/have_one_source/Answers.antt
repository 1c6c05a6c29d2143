use Rattle.pb_choice_entries.proofs.Alikes.{no_forks}
use Rattle.pb_choice_entries.proofs.alike.have_one_source.Goals as goal

pub returns-then-are_sent_by : goal.returns-then-are_sent_by
returns-then-are_sent_by c = λ h.
    no_forks c.in-Some.source c.args.here.now c.args.others.now (c.are_sent_by.ensures c.if-are_sent_by.true) (c.are_sent_by-then-are_sent_by.ensures h)
