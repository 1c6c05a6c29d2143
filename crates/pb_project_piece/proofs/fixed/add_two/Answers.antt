use Rattle.pb_core_language.specs.Sound.{is_end}
use Rattle.pb_shape.specs.Pieces.{is_fixed}
use Rattle.std.proofs.Common.{true}
use Rattle.pb_project_piece.proofs.StillEnds.{two_ends}
use Rattle.pb_project_piece.proofs.fixed.add_two.Goals as goal

pub returns : goal.returns
returns c =
    two_ends (λ rows. is_end rows true c.args.from) (λ rows. is_end rows true c.args.to) (is_fixed c.args.from) (is_fixed c.args.to) c.args.ends.now.items c.add_end.new.ends.items c.add_end-2.new.ends.items
    c.in_ok-add_end.ensures c.in_ok-add_end-2.ensures
