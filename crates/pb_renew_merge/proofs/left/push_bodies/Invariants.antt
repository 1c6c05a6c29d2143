use Rattle.std.proofs.Common.{◌≡◌, ◌++◌, drop}
use Rattle.std.specs.List.{flat_map}
use Rattle.pb_renew_merge.specs.Left.{text_for}
use Rattle.pb_renew_merge.proofs.left.push_bodies.Given as goal

abbrev pub invariant-loop-name : goal.invariant-loop-name
invariant-loop-name l =
    l.out.items ++ flat_map (λ name. text_for l.left l.old name) (drop l.name-index l.names) ≡ l.initial.out.items ++ flat_map (λ name. text_for l.left l.old name) l.names
