use Rattle.std.proofs.Common.{◌≡◌, ◌∙◌, ◌∷◌, [], suc, Some, ap, subst, refl, sym, length, arith}
use Rattle.std.specs.List.{slice_get}
use Rattle.pb_world.specs.Actions.{Leave}
use Rattle.pb_local.specs.Tables.{label_at}
use Rattle.pb_sim_collectives.specs.Calls.{collective_of, label_in}
use Rattle.pb_sim_collectives.specs.Joined.{number}
use Rattle.pb_sim_collectives.specs.Outcomes.{words_at, outcome_of}
use Rattle.pb_machine.specs.declared.act.Input.TheVariants.{Plain}
use Rattle.pb_sim_world.specs.declared.stand.Stand.{Stand}
use Rattle.pb_sim_world.specs.declared.state.State.{State}
use Rattle.pb_sim_world.specs.States.{program, stand, next_step}
use Rattle.pb_sim_world.specs.Can.{may_leave}
use Rattle.pb_sim_world.specs.Events.{IsEvent, IsOther, IsAdvanced}
use Rattle.pb_sim_world.proofs.Advancing.{made}
use Rattle.pb_sim_world.proofs.Before.{written}
use Rattle.pb_sim_world.proofs.Exits.{leave_next, inside, leave_event}
use Rattle.pb_sim_world.proofs.state.State.leave.Goals as goal

pub outcome-requires : goal.outcome-requires
outcome-requires c =
    let p = leave_next (next_step c.args.self.now c.args.rank) c.requires.may.next_is in
    let q = inside c.args.self.now c.args.rank p.0 c.requires.may.sound c.requires.may.there p.1 in
    let one : number c.args.self.now.joins c.args.rank ≡ suc (stand c.args.self.now c.args.rank).left = q.2.one in
    let same : c.kept_of-kept.result.left ≡ (stand c.args.self.now c.args.rank).left = ap (λ (v : Stand). v.left) c.kept_of-kept.ensures in
    omega (arith, one, same)

pub returns-clause-event : goal.returns-clause-event
returns-clause-event c =
    let there : slice_get c.args.self.now.joins.calls (stand c.args.self.now c.args.rank).left ≡ Some c.unwrap-call.result = ap (λ (v : Stand). slice_get c.args.self.now.joins.calls v.left) (sym c.kept_of-kept.ensures) ∙ sym c.call.ensures ∙ c.unwrap-call.ensures in
    let let_out = ap (may_leave c.args.self.now.joins c.args.rank (stand c.args.self.now c.args.rank).left (stand c.args.self.now c.args.rank).mode) (sym there) ∙ c.requires.out in
    let p = leave_next (next_step c.args.self.now c.args.rank) c.requires.may.next_is in
    let q = inside c.args.self.now c.args.rank p.0 c.requires.may.sound c.requires.may.there p.1 in
    let is : c.in_ok-words.words ≡ outcome_of (label_at (program c.args.self.now) (label_in (collective_of c.unwrap-call.result))).payload (length c.args.self.now.joins.words) c.unwrap-call.result c.args.rank (words_at c.args.self.now.joins (stand c.args.self.now c.args.rank).left) =
    c.in_ok-words.ensures
    ∙ ap (λ y. outcome_of y (length c.args.self.now.joins.words) c.unwrap-call.result c.args.rank (words_at c.args.self.now.joins c.kept_of-kept.result.left)) (c.payload-payload.ensures ∙ ap (λ l. (label_at (program c.args.self.now) l).payload) c.label.ensures)
    ∙ ap (λ (v : Stand). outcome_of (label_at (program c.args.self.now) (label_in (collective_of c.unwrap-call.result))).payload (length c.args.self.now.joins.words) c.unwrap-call.result c.args.rank (words_at c.args.self.now.joins v.left)) c.kept_of-kept.ensures in
    subst (λ (t : State). IsEvent c.args.self.now c.args.rank (Leave (collective_of c.unwrap-call.result) c.in_ok-words.words ∷ []) t × IsOther c.args.self.now c.args.rank t)
    (made c.args.self.now c.keep.new.self c.keep.new.self.stands c.args.self.now.channels c.args.self.now.joins (c.keep.ensures.tree ∙ c.advance.ensures.tree) (c.keep.ensures.n ∙ c.advance.ensures.n) refl (c.keep.ensures.channels ∙ c.advance.ensures.channels) (c.keep.ensures.joins ∙ c.advance.ensures.joins))
    (leave_event c.args.self.now c.args.rank c.keep.new.self.ranks c.keep.new.self.stands c.unwrap-call.result c.in_ok-words.words _ c.requires.may there let_out is
    (subst (IsAdvanced c.args.self.now c.args.rank Plain) (sym c.keep.ensures.ranks) c.advance.ensures.advanced)
    (written _ _ _ c.args.rank _ c.advance.ensures.stands c.keep.ensures.stands)
    (ap (λ (v : Stand). v.waits) c.kept_of-kept.ensures) (c.number-entered.ensures ∙ q.2.one) (ap (λ (v : Stand). v.mode) c.kept_of-kept.ensures))
