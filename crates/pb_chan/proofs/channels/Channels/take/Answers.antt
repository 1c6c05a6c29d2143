use Rattle.std.proofs.Common.{◌≡◌, ◌<◌, List, length, slice_get, Some, sym, ap, subst, ◌∙◌}
use Rattle.pb_chan.specs.declared.message.Message.{Message}
use Rattle.pb_chan.specs.Lists.{messages}
use Rattle.pb_chan.proofs.Seen.{seen, seen_room}
use Rattle.pb_chan.proofs.channels.Channels.take.Goals as goal

pub take-words-requires : goal.take-words-requires
take-words-requires c =
    seen_room c.self.inside.queues.map c.args.from c.args.to c.args.at (subst (λ es. c.args.at < length (messages es c.args.from c.args.to)) (sym c.self.view_is) c.requires)

pub returns-clause-taken : goal.returns-clause-taken
returns-clause-taken c =
    let same = sym (seen c.self.inside.queues.map c.args.from c.args.to) ∙ ap (λ es. messages es c.args.from c.args.to) c.self.view_is in
    let t = c.take-words.ensures.taken in
    (t.0, subst (λ (l : List Message). slice_get l c.args.at ≡ Some (record { label = t.0; words = c.take-words.result })) same t.1)
