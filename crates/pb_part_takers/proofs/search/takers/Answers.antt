use Rattle.std.proofs.Common.{◌≡◌, ◌∙◌, ap, sym, subst, true, List, []}
use Rattle.std.specs.List.{All}
use Rattle.pb_affine.specs.declared.lin.Lin.{Lin}
use Rattle.pb_part_areas.specs.Areas.{have}
use Rattle.pb_part_areas.specs.Fits.{Fits}
use Rattle.pb_part_areas.specs.Small.{IsSmallArea}
use Rattle.pb_core_language.specs.Cuts.{cuts, role_cuts}
use Rattle.pb_core_language.specs.Plain.{plain}
use Rattle.pb_core_language.specs.Ranks.{seats, seat_at}
use Rattle.pb_core_language.specs.Sound.{are_roles}
use Rattle.pb_part_takers.specs.Pieces.{IsAdded, within_piece, AreAmong}
use Rattle.pb_part_takers.proofs.Finds.{answer_is, answer_fits, answer_small, in_range, sound_core}
use Rattle.pb_part_takers.proofs.search.takers.Goals as goal

pub guards_of-requires : goal.guards_of-requires
guards_of-requires c =
    let p = plain c.args.core.now in
    let added : IsAdded c.in_ok-whole.whole.items [] (within_piece [] c.args.stmt p.body.block) [] c.in_ok-areas.areas.items = rw c.deref-2.ensures.value at c.in_ok-areas.ensures in
    let fits : (lins : List Lin) → are_roles p.roles ≡ true → AreAmong (role_cuts p.roles) lins → All (Fits p.range lins) c.in_ok-whole.whole.items = rw c.deref.ensures.value at c.in_ok-whole.ensures.fits in
    subst (All IsSmallArea) (sym c.deref-3.ensures.value) (answer_small p.range (cuts p) c.in_ok-areas.areas.items (answer_fits p c.args.stmt c.in_ok-whole.whole.items c.in_ok-areas.areas.items c.requires.sound added fits))

pub returns-clause-hold : goal.returns-clause-hold
returns-clause-hold c = λ n r within lt.
    let p = plain c.args.core.now in
    let seat = seat_at r (seats p.roles n) in
    let added : IsAdded c.in_ok-whole.whole.items [] (within_piece [] c.args.stmt p.body.block) [] c.in_ok-areas.areas.items = rw c.deref-2.ensures.value at c.in_ok-areas.ensures in
    c.in_ok-guards.ensures.is n seat.role seat.index (in_range p.range n within)
    ∙ ap (λ z. have z n seat.role seat.index) c.deref-3.ensures.value
    ∙ answer_is p c.args.stmt c.in_ok-whole.whole.items c.in_ok-areas.areas.items n r c.requires.sound added
    (λ role x. (rw c.deref.ensures.value at (c.in_ok-whole.ensures.is n role x)) (sound_core p c.requires.sound).roles (in_range p.range n within)) lt

pub returns-clause-aligned : goal.returns-clause-aligned
returns-clause-aligned c = λ d er ec.
    let p = plain c.args.core.now in
    let added : IsAdded c.in_ok-whole.whole.items [] (within_piece [] c.args.stmt p.body.block) [] c.in_ok-areas.areas.items = rw c.deref-2.ensures.value at c.in_ok-areas.ensures in
    let fits : (lins : List Lin) → are_roles p.roles ≡ true → AreAmong (role_cuts p.roles) lins → All (Fits p.range lins) c.in_ok-whole.whole.items = rw c.deref.ensures.value at c.in_ok-whole.ensures.fits in
    let all : All (Fits p.range (cuts p)) c.deref-3.result.now = subst (All (Fits p.range (cuts p))) (sym c.deref-3.ensures.value) (answer_fits p c.args.stmt c.in_ok-whole.whole.items c.in_ok-areas.areas.items c.requires.sound added fits) in
    c.in_ok-guards.ensures.aligned d (subst (λ z. All (Fits d.range z) c.deref-3.result.now) (sym ec) (subst (λ z. All (Fits z (cuts p)) c.deref-3.result.now) (sym er) all))
