use Rattle.std.proofs.Common.{◌∙◌}
use Rattle.pb_choice_entries.proofs.sources.sources_of.Goals as goal

pub returns-clause-first : goal.returns-clause-first
returns-clause-first c = λ others n role x. c.in_ok-list.ensures.first others n role x ∙ c.in_ok-all.ensures.first others n role x

pub returns-clause-second : goal.returns-clause-second
returns-clause-second c = λ here n role x. c.in_ok-list.ensures.second here n role x ∙ c.in_ok-all.ensures.second here n role x
