use Rattle.std.proofs.Common.{◌&&◌, ◌∙◌, sym, ap}
use Rattle.pb_core_language.specs.FileRules.{payload_eq}
use Rattle.pb_core_file_rules.specs.Tables.{payload_in}
use Rattle.pb_core_file_rules.proofs.LabelRows.{row_payload}
use Rattle.pb_core_file_rules.proofs.label_rows.LabelTable.agrees.Goals as goal

pub returns-then-one : goal.returns-then-one
returns-then-one c =
    let one = c.args.one.now in
    let rows = c.args.self.now.rows.items in
    c.payload_eq.ensures
    ∙ ap (λ r. payload_eq one.payload r.payload) c.index.ensures
    ∙ ap (payload_eq one.payload) (row_payload one.label.name one.payload rows c.args.id c.index.result.now c.requires.id c.requires.there)
    ∙ sym (ap (λ b. b && payload_eq one.payload (payload_in one.label.name one.payload rows)) c.if-one.true)
