use Rattle.std.proofs.Common.{subst}
use Rattle.pb_project_piece.specs.Fixed.{Knows}
use Rattle.pb_project_piece.proofs.StillEnds.{end_pushed, end_known}
use Rattle.pb_project_piece.proofs.fixed.add_end.Goals as goal

pub returns-then-is_known : goal.returns-then-is_known
returns-then-is_known c =
    end_known c.args.ends.now.items c.args.end c.is_known.result (subst (λ l. Knows l c.args.end c.is_known.result) c.deref.ensures.value c.is_known.ensures) c.if-is_known.true

pub returns : goal.returns
returns c =
    end_pushed c.args.ends.now.items c.push.new.self.items c.args.end c.is_known.result (subst (λ l. Knows l c.args.end c.is_known.result) c.deref.ensures.value c.is_known.ensures) c.if-is_known.false c.in_ok-push.ensures.items
