use Rattle.std.proofs.Common.{sym, ap, ◌∙◌}
use Rattle.pb_chan.specs.Lists.{messages, position}
use Rattle.pb_chan.proofs.Seen.{seen}
use Rattle.pb_chan.proofs.channels.Channels.first.Goals as goal

pub returns : goal.returns
returns c =
    c.first.ensures ∙ ap (position c.args.label 0) (sym (seen c.self.inside.queues.map c.args.from c.args.to)) ∙ ap (λ es. position c.args.label 0 (messages es c.args.from c.args.to)) c.self.view_is
