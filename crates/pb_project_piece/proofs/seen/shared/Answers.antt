use Rattle.pb_project_piece.proofs.Found.{shared_last}
use Rattle.pb_project_piece.proofs.seen.shared.Goals as goal

pub returns : goal.returns
returns c =
    shared_last c.in_ok-both.both.items c.in_ok-all.all.items c.in_ok-other.other.items c.pop.new.self.items c.args.a c.args.b c.pop.result c.pop.ensures.items c.in_ok-all.ensures.is c.in_ok-other.ensures.is
    (λ n role x. rw (c.deref.ensures.value, c.deref-2.ensures.value) at (c.in_ok-both.ensures.is n role x))
