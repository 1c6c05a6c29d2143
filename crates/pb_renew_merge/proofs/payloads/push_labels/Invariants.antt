use Rattle.std.proofs.Common.{◌≡◌, ◌++◌, drop}
use Rattle.pb_renew_merge.specs.Payloads.{changed_names}
use Rattle.pb_renew_merge.proofs.payloads.push_labels.Given as goal

abbrev pub invariant-loop-label : goal.invariant-loop-label
invariant-loop-label l =
    l.out.items ++ changed_names (drop l.label-index l.labels) l.before l.old l.kept ≡ l.initial.out.items ++ changed_names l.labels l.before l.old l.kept
