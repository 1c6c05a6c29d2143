use Rattle.pb_cost_pieces.specs.declared.join.Join.TheVariants.{Most}
use Rattle.pb_cost_joins.proofs.GoingOn.{switch_goes, switch_added}
use Rattle.pb_cost_joins.proofs.adding.add_most.Goals as goal

pub add_switch-requires : goal.add_switch-requires
add_switch-requires c = switch_goes Most c.args.a c.args.b c.most_of-switch.result c.args.builder.now.latest c.args.span c.most_of-switch.ensures c.requires

pub returns : goal.returns
returns c = switch_added Most c.args.a c.args.b c.most_of-switch.result c.args.span c.args.builder.now.done.items c.args.builder.now.latest c.add_switch.new.builder.done.items c.add_switch.new.builder.latest c.most_of-switch.ensures c.requires c.in_ok-add_switch.ensures
