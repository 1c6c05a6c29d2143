use Rattle.std.proofs.Common.{◌&&◌, ◌||◌, not, ◌∙◌, ap}
use Rattle.pb_core_file_rules.proofs.MetRows.{old_right}
use Rattle.pb_core_file_rules.proofs.wrong.MetTable.agrees.Goals as goal

pub returns : goal.returns
returns c =
    c.may_stand.ensures
    ∙ ap (λ b. b && not (c.args.one.now.declares || c.args.one.now.is_astray)) c.is_kind-is_alike.ensures
    ∙ old_right c.args.self.now.rows.items c.args.one.now c.args.id c.index-row.result.now c.requires.id c.requires.there c.index-row.ensures
