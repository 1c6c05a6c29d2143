use Rattle.pb_cli_file.proofs.Said.{said}
use Rattle.pb_cli_file.proofs.telling.tell_merged.Goals as goal

pub returns-clause-reply : goal.returns-clause-reply
returns-clause-reply g c = said _ _ _ _ _ c.merged_answer-answer.ensures.reply c.say.ensures.said
