use Rattle.std.proofs.Common.{sym, ap, ◌∙◌}
use Rattle.pb_chan.specs.Lists.{messages, label_of}
use Rattle.pb_chan.proofs.Seen.{seen}
use Rattle.pb_chan.proofs.channels.Channels.head.Goals as goal

pub returns : goal.returns
returns c =
    c.head.ensures ∙ ap label_of (sym (seen c.self.inside.queues.map c.args.from c.args.to)) ∙ ap (λ es. label_of (messages es c.args.from c.args.to)) c.self.view_is
