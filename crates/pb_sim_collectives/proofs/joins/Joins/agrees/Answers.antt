use Rattle.std.proofs.Common.{◌≡◌, ◌∙◌, Some, sym}
use Rattle.pb_sim_collectives.specs.Calls.{collective_of}
use Rattle.pb_sim_collectives.specs.Joined.{number}
use Rattle.pb_sim_collectives.specs.Rounds.{call_at}
use Rattle.pb_sim_collectives.specs.Seen.{shown}
use Rattle.pb_sim_collectives.proofs.Entering.{fits_some}
use Rattle.pb_sim_collectives.proofs.joins.Joins.agrees.Goals as goal

pub returns-in-Some : goal.returns-in-Some
returns-in-Some c =
    let e : call_at c.self.inside.rounds.list.items (number (shown c.self.inside.rounds c.self.inside.lists) c.args.rank) ≡ Some c.in-Some.other = rw c.number.ensures at (sym c.in-Some.ensures) in
    rw (← c.self.view_is) (c.is_same.ensures ∙ sym (fits_some c.self.inside.rounds.list.items (number (shown c.self.inside.rounds c.self.inside.lists) c.args.rank) (collective_of c.args.call) c.in-Some.other e))
