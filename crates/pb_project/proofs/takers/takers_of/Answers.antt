use Rattle.pb_core_language.specs.Plain.{plain_stmt}
use Rattle.pb_project.proofs.Takings.{takers_are}
use Rattle.pb_project.proofs.takers.takers_of.Goals as goal

pub returns : goal.returns
returns c =
    takers_are c.args.whole.now c.args.held.now (plain_stmt c.args.stmt.now) c.new-areas.result.items c.takers_at.new.out.items c.in_ok-takers.takers.items c.new-areas.ensures.items c.in_ok-takers_at.ensures
    (rw c.deref.ensures.value at c.in_ok-takers.ensures.is) (rw c.deref.ensures.value at c.in_ok-takers.ensures.fits)
