-- What is asked: the least or the most, of messages or of words.
use Rattle.std.specs.Prelude.{ℕ, List}
use Rattle.pb_syntax.specs.declared.core_label.CoreLabel.{CoreLabel}
use Rattle.pb_core_language.specs.Collectives.{payload_of, word_count}
use Rattle.pb_cost_pieces.specs.declared.join.Join.{Join}
use Rattle.pb_cost_pieces.specs.declared.join.Join.TheVariants as J
use Rattle.pb_cost_laws.specs.Sent as S
use Rattle.pb_cost_blocks.specs.declared.asked.Way.{Way}
use Rattle.pb_cost_blocks.specs.declared.asked.Way.TheVariants.{Least, Most}
use Rattle.pb_cost_blocks.specs.declared.asked.Counted.{Counted}
use Rattle.pb_cost_blocks.specs.declared.asked.Counted.TheVariants.{Messages, Words}

abbrev pub way_of : Way → S.Way
way_of Least = S.Least
way_of Most = S.Most

abbrev pub counted : Counted → S.Counted
counted Messages = S.Messages
counted Words = S.Words

-- what is made of two branches
abbrev pub choosing : Way → Join
choosing Least = J.Least
choosing Most = J.Most

-- how many words a label has
abbrev pub size_in : List CoreLabel → ℕ → ℕ
size_in labels label = word_count (payload_of labels label)
