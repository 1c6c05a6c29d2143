use Rattle.pb_project_piece.proofs.Straight.{collective_put}
use Rattle.pb_project_piece.proofs.collective.put.Goals as goal

pub returns : goal.returns
returns c = λ s code. collective_put s c.args.out.now.items c.push.new.self.items c.args.one code c.in_ok-push.ensures.items
