use Rattle.std.proofs.Common.{rules, ◌≡◌, ◌<◌, length, ap, subst, ◌∙◌}
use Rattle.pb_sched.specs.Draws.{taken_by, pick}
use Rattle.pb_sim.specs.Made.{IsRefusal}
use Rattle.pb_sim_count.proofs.Events.{never_unready, no_event, event_made, event_full}
use Rattle.pb_sim_count.proofs.playing.event.Goals as goal

pub unreachable-requires : goal.unreachable-requires
unreachable-requires g c =
    let list = c.ready_ranks-ready.result.now in
    let some : 0 < length list = search rules in
    let is : c.among-rank.result ≡ pick c.args.picks.now.seed c.args.picks.now.turn list = c.among-rank.ensures ∙ ap (λ w. taken_by w list) c.next.ensures.rank in
    never_unready c.args.sim.now.held list c.args.picks.now.seed c.args.picks.now.turn c.among-rank.result c.ready_ranks-ready.ensures some is
    (subst (λ f. IsRefusal c.args.sim.now.held c.among-rank.result f) c.in-Err-NotReady.field-0-is c.in-Err-NotReady.ensures.refused)

pub returns-in-Err-Full-clause-gone : goal.returns-in-Err-Full-clause-gone
returns-in-Err-Full-clause-gone g c tree n has =
    let list = c.ready_ranks-ready.result.now in
    let some : 0 < length list = search rules in
    let is : c.among-rank.result ≡ pick c.args.picks.now.seed c.args.picks.now.turn list = c.among-rank.ensures ∙ ap (λ w. taken_by w list) c.next.ensures.rank in
    event_full c.args.sim.now.held list c.args.picks.now.seed c.args.picks.now.turn c.among-rank.result c.ready_ranks-ready.ensures some is tree n _ has
    (subst (λ f. IsRefusal c.args.sim.now.held c.among-rank.result f) c.in-Err-Full.field-0-is c.in-Err-Full.ensures.refused)

pub returns-clause-gone : goal.returns-clause-gone
returns-clause-gone g c tree n has =
    let list = c.ready_ranks-ready.result.now in
    let some : 0 < length list = search rules in
    let is : c.among-rank.result ≡ pick c.args.picks.now.seed c.args.picks.now.turn list = c.among-rank.ensures ∙ ap (λ w. taken_by w list) c.next.ensures.rank in
    event_made c.args.sim.now.held list c.args.picks.now.seed c.args.picks.now.turn c.among-rank.result c.ready_ranks-ready.ensures some is tree n _ has _ c.step.new.self.held c.in-Ok.ensures.made

pub returns-then-is_empty-clause-gone : goal.returns-then-is_empty-clause-gone
returns-then-is_empty-clause-gone g c tree n has =
    let list = c.ready_ranks-ready.result.now in
    let over : length list ≡ 0 = search rules in
    no_event tree n _ c.args.sim.now.held list c.args.picks.now.seed c.args.picks.now.turn c.ready_ranks-ready.ensures over has
