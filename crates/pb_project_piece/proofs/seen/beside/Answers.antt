use Rattle.std.proofs.Common.{◌≡◌, ℕ, ℤ, ◌&&◌, not, subst, ◌∙◌}
use Rattle.pb_part_areas.specs.Areas.{have}
use Rattle.pb_project_piece.proofs.Found.{beside_last}
use Rattle.pb_project_piece.proofs.seen.beside.Goals as goal

pub returns-then-is_apart : goal.returns-then-is_apart
returns-then-is_apart c = λ n role x h. c.is_apart.ensures c.if-is_apart.true n role x ∙ h

pub returns : goal.returns
returns c =
    beside_last c.in_ok-rest.rest.items c.in_ok-all.all.items c.in_ok-other.other.items c.pop.new.self.items c.args.a c.args.b c.pop.result c.pop.ensures.items c.in_ok-all.ensures.is c.in_ok-other.ensures.is
    (subst (λ l. (n : ℤ) (role : ℕ) (x : ℤ) → have c.in_ok-rest.rest.items n role x ≡ have c.in_ok-all.all.items n role x && not (have l n role x)) c.deref.ensures.value c.in_ok-rest.ensures.is)
