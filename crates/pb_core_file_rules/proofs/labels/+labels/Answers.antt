use Rattle.std.proofs.Common.{map, refl}
use Rattle.pb_syntax.specs.Plain.{plain_statement, plain_block}
use Rattle.pb_syntax.specs.Tree.{statements_of, branches_of}
use Rattle.pb_core_language.specs.FileRules.{labels_at, labels_in, labels_among}
use Rattle.pb_core_file_rules.specs.Tables.{labelled_of}
use Rattle.pb_core_file_rules.proofs.Loops.{adds, added}
use Rattle.pb_core_file_rules.proofs.Plains.{plain_message, plain_foreach, plain_loop}
use Rattle.pb_core_file_rules.proofs.labels.+labels.Goals as goal

pub add_labels_in-loop-statement-preserved : goal.add_labels_in-loop-statement-preserved
add_labels_in-loop-statement-preserved t c =
    adds (λ ss. labels_in (statements_of (map plain_statement ss))) c.deref-statement-items.result.now c.loop-statement.statement-index c.statement-item.result (labels_at (plain_statement c.statement-item.result)) (map labelled_of c.loop-statement.out.items) (map labelled_of c.add_labels_at.new.out.items) _ c.loop-statement-test.true c.statement-item.is refl c.in_ok-add_labels_at.ensures c.loop-statement.invariant

pub add_labels_in-returns : goal.add_labels_in-returns
add_labels_in-returns t c =
    added (λ ss. labels_in (statements_of (map plain_statement ss))) c.deref-statement-items.result.now c.loop-statement.statement-index (map labelled_of c.loop-statement.out.items) _ refl c.loop-statement-test.false c.loop-statement.invariant

pub add_labels_among-loop-branch-preserved : goal.add_labels_among-loop-branch-preserved
add_labels_among-loop-branch-preserved t c =
    adds (λ bs. labels_among (branches_of (map plain_block bs))) c.args.branches.now c.loop-branch.branch-index c.branch-item.result (labels_in (plain_block c.branch-item.result).list) (map labelled_of c.loop-branch.out.items) (map labelled_of c.add_labels_in.new.out.items) _ c.loop-branch-test.true c.branch-item.is refl c.in_ok-add_labels_in.ensures c.loop-branch.invariant

pub add_labels_among-returns : goal.add_labels_among-returns
add_labels_among-returns t c =
    added (λ bs. labels_among (branches_of (map plain_block bs))) c.args.branches.now c.loop-branch.branch-index (map labelled_of c.loop-branch.out.items) _ refl c.loop-branch-test.false c.loop-branch.invariant

pub add_labels_at-returns-in-Message : goal.add_labels_at-returns-in-Message
add_labels_at-returns-in-Message t c = rw (plain_message c.args.statement.now _ _ _ _ c.in-Message.is) c.push_label.ensures

pub add_labels_at-returns-in-Foreach : goal.add_labels_at-returns-in-Foreach
add_labels_at-returns-in-Foreach t c = rw (plain_foreach c.args.statement.now _ _ _ _ c.in-Foreach.is) c.add_labels_in.ensures

pub add_labels_at-returns-in-Rec : goal.add_labels_at-returns-in-Rec
add_labels_at-returns-in-Rec t c = rw (plain_loop c.args.statement.now _ _ _ c.in-Rec.is) c.add_labels_in-in-Rec.ensures
