use Rattle.pb_io.specs.Unread.{IsUnread}
use Rattle.pb_cli_file.proofs.Said.{said_of}
use Rattle.pb_cli_file.proofs.telling.tell.Goals as goal

pub returns-clause-reply : goal.returns-clause-reply
returns-clause-reply g c =
    said_of (IsUnread (g.F.Folder.steady c.args.folder.now) (g.F.Folder.holds c.args.folder.now) (g.F.Folder.faults c.args.folder.now) (g.F.Folder.faults c.file_answer-answer.new.folder) c.args.file.now) _ _ _ _ _
    (λ e. record { rose = c.file_answer-answer.ensures.fault e; unsure = c.file_answer-answer.ensures.sure e }) c.file_answer-answer.ensures.reply c.say.ensures.said
