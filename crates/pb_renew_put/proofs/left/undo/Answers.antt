use Rattle.std.proofs.Common.{ap}
use Rattle.std.specs.Option.{option_map}
use Rattle.pb_renew_put.specs.Jobs.{behind_of}
use Rattle.pb_renew_put.proofs.Closing.{left_taken}
use Rattle.pb_renew_put.proofs.left.undo.Goals as goal

pub returns-in-None-clause-goes : goal.returns-in-None-clause-goes
returns-in-None-clause-goes g c = λ t kept taken left are behind is_so.
    left_taken t _ are (behind_of c.args.leaving.now) kept taken left c.remove.result behind (ap (λ o. option_map (λ b. b.items) o) c.in-None.is) is_so _ _ c.remove.ensures.cause c.remove.ensures.done c.remove.ensures.failed
