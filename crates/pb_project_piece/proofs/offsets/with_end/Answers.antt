use Rattle.std.proofs.Common.{ap, sym, ◌∙◌}
use Rattle.pb_project_piece.specs.Offsets.{put_off}
use Rattle.pb_project_piece.proofs.Descending.{end_put}
use Rattle.pb_project_piece.proofs.offsets.with_end.Goals as goal

pub returns-in_ok-all : goal.returns-in_ok-all
returns-in_ok-all c =
    end_put c.args.role c.args.end c.own_off.result c.args.list.items c.in_ok-all.all.items c.if-role-end.true (sym c.is_moving.ensures ∙ c.if-is_moving.true) (c.in_ok-all.ensures ∙ ap (put_off c.own_off.result) c.deref.ensures.value) c.own_off.ensures
