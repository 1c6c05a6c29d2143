use Rattle.std.proofs.Common.{◌≡◌, [], None, OnOk, IfErr, map, subst}
use Rattle.pb_core_file_rules.specs.Lowering.{first, Breaks}
use Rattle.pb_core_file_rules.specs.Tables.{labelled_of}
use Rattle.pb_core_file_rules.proofs.RuleTwo.{behind_is}
use Rattle.pb_core_file_rules.proofs.label_rows.label_table.Goals as goal

pub returns-clause-keeps : goal.returns-clause-keeps
returns-clause-keeps c = subst (λ l. OnOk c.filled.result (first l ≡ None)) (behind_is [] (map labelled_of c.args.list.now)) c.filled.ensures.keeps

pub returns-clause-breaks : goal.returns-clause-breaks
returns-clause-breaks c = subst (λ l. IfErr c.filled.result (λ e. Breaks 2 l e)) (behind_is [] (map labelled_of c.args.list.now)) c.filled.ensures.breaks
