use Rattle.std.proofs.Common.{◌∙◌, map, refl}
use Rattle.pb_plain.specs.View.{view, mark_of}
use Rattle.pb_plain_rules.proofs.Envs.{inside_done}
use Rattle.pb_plain_rules.proofs.deserted.+deserted.Goals as goal

pub add_inside-returns : goal.add_inside-returns
add_inside-returns t c =
    inside_done c.args.total _ _ c.args.held.now (view c.args.body.now) c.add_deserted.result (map mark_of c.add_deserted.new.out.items) (map mark_of c.args.out.now.items)
    refl (c.deref.ensures.value ∙ c.in_ok-table.ensures) c.add_deserted.ensures
