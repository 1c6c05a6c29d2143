use Rattle.std.proofs.Common.{◌+◌, map, drop, refl, sym, ap, ◌∙◌}
use Rattle.pb_core_language.specs.Meaning.{has_label, labels_after}
use Rattle.pb_core_file_rules.specs.Lowering.{first}
use Rattle.pb_core_file_rules.specs.Tables.{labelled_of, row, broken_behind}
use Rattle.pb_core_file_rules.proofs.Growing.{fewer, still_few, keeps_on, breaks_here}
use Rattle.pb_core_file_rules.proofs.Loops.{drop_next, goes_on, ends}
use Rattle.pb_core_file_rules.proofs.label_rows.filled.Goals as goal

pub add-requires-clause-few : goal.add-requires-clause-few
add-requires-clause-few c = fewer _ _ _ _ c.loop-one.invariant.few c.loop-one-test.true c.requires

pub returns-then-not-branch-clause-breaks : goal.returns-then-not-branch-clause-breaks
returns-then-not-branch-clause-breaks c =
    let rows = c.loop-one.table.rows.items in
    let l = c.one-item.result in
    (refl, sym c.loop-one.invariant.keeps ∙ ap (λ ls. first (broken_behind rows (map labelled_of ls))) (drop_next c.args.list.now c.loop-one.one-index l c.loop-one-test.true c.one-item.is) ∙ breaks_here rows (labelled_of l) _ _ c.in_ok-add.ensures.keeps c.if-not-branch.true)

pub loop-one-preserved : goal.loop-one-preserved
loop-one-preserved c =
    let rows = c.loop-one.table.rows.items in
    let new = c.add.new.self.rows.items in
    let xs = c.args.list.now in
    let i = c.loop-one.one-index in
    let l = c.one-item.result in
    let grown = c.in_ok-add.ensures.rows in
    let so_far = c.loop-one.invariant in
    record {
      names = c.in_ok-add.ensures.names;
      few = still_few (has_label l.label.name rows) rows new (row (labelled_of l)) i grown so_far.few;
      rows = goes_on (λ rs ls. labels_after rs (map labelled_of ls)) xs i l rows new _ c.loop-one-test.true c.one-item.is (ap (λ rs. labels_after rs (map labelled_of (drop (i + 1) xs))) (sym grown)) so_far.rows;
      keeps = goes_on (λ rs ls. first (broken_behind rs (map labelled_of ls))) xs i l rows new _ c.loop-one-test.true c.one-item.is (keeps_on rows new (labelled_of l) _ _ c.in_ok-add.ensures.keeps c.if-not-branch.false grown) so_far.keeps;
    }

pub returns-clause-rows : goal.returns-clause-rows
returns-clause-rows c = ends (λ rs ls. labels_after rs (map labelled_of ls)) c.args.list.now c.loop-one.one-index c.loop-one.table.rows.items _ c.loop-one-test.false c.loop-one.invariant.rows

pub returns-clause-keeps : goal.returns-clause-keeps
returns-clause-keeps c = sym (ends (λ rs ls. first (broken_behind rs (map labelled_of ls))) c.args.list.now c.loop-one.one-index c.loop-one.table.rows.items _ c.loop-one-test.false c.loop-one.invariant.keeps)
