use Rattle.std.proofs.Common.{◌∙◌, sym}
use Rattle.std.proofs.lemmas.Result.{err_from_is_err_and}
use Rattle.std.specs.Bool.{IsTrue}
use Rattle.pb_sim.proofs.Exact.{err_gives}
use Rattle.pb_sim.proofs.Listing.{not_true}
use Rattle.pb_sim.proofs.Nexts.{too_much_is, not_too_much}
use Rattle.pb_sim.proofs.Runs.{goes_on, stays_so}
use Rattle.pb_sim.proofs.sim.Sim.step.Goals as goal

pub returns-then-not-is_ready-clause-refused : goal.returns-then-not-is_ready-clause-refused
returns-then-not-is_ready-clause-refused g c = λ sequence h. not_true c.is_ready.result c.if-not-is_ready.true ((c.is_ready.ensures.step sequence).1 h)

pub returns-then-is_too_much-clause-refused : goal.returns-then-is_too_much-clause-refused
returns-then-is_too_much-clause-refused g c = ((λ sequence. (c.is_ready.ensures.step sequence).0 c.if-not-is_ready.false), too_much_is c.args.self.now.held c.args.rank c.next-next.result c.next-next.ensures.may.next_is (sym c.is_too_much.ensures ∙ c.if-is_too_much.true))

pub returns-in_err-go-clause-refused : goal.returns-in_err-go-clause-refused
returns-in_err-go-clause-refused g c =
    let p = err_from_is_err_and c.from_residual.result c.from_residual.ensures.1 in
    rw (p.1, p.2) (((λ sequence. (c.is_ready.ensures.step sequence).0 c.if-not-is_ready.false), not_too_much c.args.self.now.held c.args.rank c.next-next.result c.next-next.ensures.may.next_is (sym c.is_too_much.ensures ∙ c.if-is_too_much.false)))

pub returns-in_err-go-clause-stays : goal.returns-in_err-go-clause-stays
returns-in_err-go-clause-stays g c = err_gives _ _ (stays_so _ c.args.self.now.held c.go.new.self.held c.in_err-go.ensures.same)

pub returns-clause-ready : goal.returns-clause-ready
returns-clause-ready g c = λ sequence. (c.is_ready.ensures.step sequence).0 c.if-not-is_ready.false

pub returns-clause-run : goal.returns-clause-run
returns-clause-run g c = λ may turns w run allowed. (
  c.in_ok-go.ensures.made.acts,
  c.in_ok-go.ensures.made.done_is,
  goes_on _ (λ t W next. IsTrue (may t W next)) turns w c.args.self.now.held c.go.new.self.held (c.args.rank, c.args.mode) c.in_ok-go.field-0 run allowed c.in_ok-go.ensures.made,
)
