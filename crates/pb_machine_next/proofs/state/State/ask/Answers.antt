use Rattle.std.proofs.Common.{◌≡◌, ◌∙◌, sym, ap, rules, FitsSigned, to_z, of_z, w32}
use Rattle.std.proofs.lemmas.Int.{to_z-of_z}
use Rattle.pb_machine_next.specs.declared.ahead.Go.TheVariants.{Enter}
use Rattle.pb_machine_next.specs.Numbers.{source_at}
use Rattle.pb_machine_next.specs.Peers.{peer_at}
use Rattle.pb_machine_next.specs.View.{goes, probed}
use Rattle.pb_machine_next.proofs.Arms.{asked_some}
use Rattle.pb_machine_next.proofs.state.State.ask.Goals as goal

pub returns-in-Some-clause-next : goal.returns-in-Some-clause-next
returns-in-Some-clause-next c = λ b path is.
    let i = c.args.self.now.i in
    let fits : FitsSigned w32 c.args.self.now.i = search rules in
    let same : to_z w32 (of_z w32 c.args.self.now.i) ≡ c.args.self.now.i = to_z-of_z w32 c.args.self.now.i fits in
    c.probe.ensures.next b path
    ∙ ap (λ ts. probed c.args.self.now.me i ts (λ k. goes b path (Enter c.args.depth c.args.at k)) c.peer.result) is
    ∙ ap (probed c.args.self.now.me i c.args.tests.now (λ k. goes b path (Enter c.args.depth c.args.at k))) (c.peer.ensures ∙ ap (peer_at c.args.places.now c.in-Some.from c.args.self.now.me) same)
    ∙ asked_some c.args.places.now c.args.self.now.me i c.args.relays.now c.args.from c.in-Some.from c.args.tests.now (λ k. goes b path (Enter c.args.depth c.args.at k)) (sym c.is_empty.ensures ∙ c.if-is_empty.false) (c.in-Some.ensures ∙ ap (source_at c.args.relays.now c.args.from c.args.self.now.me) same)
