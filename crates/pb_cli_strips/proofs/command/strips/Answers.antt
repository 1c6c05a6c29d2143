use Rattle.pb_io.specs.Unread.{IsUnread}
use Rattle.pb_cli_file.proofs.Said.{said_of}
use Rattle.pb_cli_strips.proofs.command.strips.Goals as goal

pub returns-clause-reply : goal.returns-clause-reply
returns-clause-reply g c =
    said_of (IsUnread (g.F.Folder.steady c.args.folder.now) (g.F.Folder.holds c.args.folder.now) (g.F.Folder.faults c.args.folder.now) (g.F.Folder.faults c.answer_in-answer.new.folder) c.args.file.now) _ _ _ _ _
    (λ e. record { rose = c.answer_in-answer.ensures.fault e; unsure = c.answer_in-answer.ensures.sure e }) c.answer_in-answer.ensures.reply c.say.ensures.said
