use Rattle.std.proofs.Common.{◌++◌, ◌∙◌, map, refl, ap}
use Rattle.pb_core_language.specs.Rules.{nobody}
use Rattle.pb_plain.specs.View.{view, mark_of}
use Rattle.pb_plain_rules.specs.Breaches.{breach_of}
use Rattle.pb_plain_rules.proofs.Parts.{all_parts}
use Rattle.pb_plain_rules.proofs.every.all_broken.Goals as goal

pub returns : goal.returns
returns c =
    all_parts _ (map mark_of c.args.empty.now) c.args.ranks.now (view c.args.block.now)
    (map breach_of c.add_marks.new.out.items) (map breach_of c.add_broken_ends.new.out.items) (map breach_of c.add_broken_ends-2.new.out.items) (map breach_of c.add_deserts.new.out.items)
    (map breach_of c.add_misfits.new.out.items) (map breach_of c.add_misfits-2.new.out.items) (map breach_of c.add_misfits-3.new.out.items)
    refl (c.in_ok-add_marks.ensures ∙ ap (λ l. map breach_of l ++ map (nobody 6) (map mark_of c.args.empty.now)) c.new-list.ensures.items)
    c.in_ok-add_broken_ends.ensures c.in_ok-add_broken_ends-2.ensures c.in_ok-add_deserts.ensures c.in_ok-add_misfits.ensures c.in_ok-add_misfits-2.ensures c.in_ok-add_misfits-3.ensures
