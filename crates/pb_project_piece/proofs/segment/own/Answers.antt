use Rattle.std.proofs.Common.{refl, sym, subst}
use Rattle.pb_project_piece.specs.Weights.{IsSimple}
use Rattle.pb_project_piece.proofs.Codes.{own_plain}
use Rattle.pb_project_piece.proofs.segment.own.Goals as goal

pub returns-clause-simple : goal.returns-clause-simple
returns-clause-simple c = subst IsSimple (sym (own_plain _)) (record { one = refl; flat = refl; none = refl })
