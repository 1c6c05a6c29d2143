use Rattle.std.proofs.Common.{sym, subst}
use Rattle.std.specs.List.{All}
use Rattle.pb_part_areas.specs.Fits.{Fits}
use Rattle.pb_core_language.specs.Cuts.{cuts}
use Rattle.pb_core_language.specs.Parts.{firsts_in}
use Rattle.pb_core_language.specs.Plain.{plain}
use Rattle.pb_core_language.specs.Ranks.{seats, seat_at}
use Rattle.pb_core_flat.specs.OutcomeSets.{is_outcome}
use Rattle.pb_part_takers.proofs.Finds.{in_range}
use Rattle.pb_part.proofs.Growth.{whole}
use Rattle.pb_part.proofs.whole.firsts.Goals as goal

pub by_kind-requires : goal.by_kind-requires
by_kind-requires c = record { fits = c.in_ok-found.ensures.fits.entries }

pub add_first-requires : goal.add_first-requires
add_first-requires c =
    let p = plain c.args.core.now in
    record { fits = subst (All (Fits p.range (cuts p))) (sym c.deref.ensures.value) c.in_ok-found.ensures.fits.areas }

pub returns-clause-gives : goal.returns-clause-gives
returns-clause-gives c = λ n r o w lt.
    let p = plain c.args.core.now in
    let seat = seat_at r (seats p.roles n) in
    let in_it = in_range p.range n w in
    whole p.roles c.in_ok-found.found.entries.items c.in_ok-found.found.passed.items n seat.role seat.index o _ _ (λ q. is_outcome q (firsts_in p n c.args.block r))
    (c.in_ok-list.ensures.is n seat.role seat.index o in_it) (λ h. c.in_ok-found.ensures.gives n r o w lt h) (c.in_ok-found.ensures.rest n r w lt)
    (rw c.deref.ensures.value at c.in_ok-add_first.ensures.is n seat.role seat.index o in_it)

pub returns-clause-aligned : goal.returns-clause-aligned
returns-clause-aligned c = λ d e f. c.in_ok-add_first.ensures.aligned d e f (c.in_ok-list.ensures.aligned d e f)
