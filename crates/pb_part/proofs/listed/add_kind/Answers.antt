use Rattle.std.proofs.Common.{sym, subst}
use Rattle.std.specs.List.{All}
use Rattle.pb_part_areas.specs.Fits.{Fits}
use Rattle.pb_core_language.specs.Cuts.{cuts}
use Rattle.pb_core_language.specs.Plain.{plain}
use Rattle.pb_part_firsts.specs.Fitting.{EntriesFit}
use Rattle.pb_part.proofs.Growth.{kind_added}
use Rattle.pb_part.proofs.listed.add_kind.Goals as goal

pub add_first-requires : goal.add_first-requires
add_first-requires c =
    let p = plain c.args.core.now in
    record {
      fits = subst (All (Fits p.range (cuts p))) (sym c.deref.ensures.value)
          (c.in_ok-part-in-Some.ensures.fits p.range (cuts p) (subst (EntriesFit p.range (cuts p)) c.in-Some.ensures.cases.0 c.requires.fits)).areas;
    }

pub returns-in_ok-add_first-in-Some-clause-is : goal.returns-in_ok-add_first-in-Some-clause-is
returns-in_ok-add_first-in-Some-clause-is c = λ n role x o w.
    let roles = c.args.core.now.roles.items in
    kind_added roles c.in_ok-part-in-Some.part.areas.items c.args.entries.now c.in-Some.rest.now c.in_ok-part-in-Some.part.others.items c.in-Some.first.now c.kind_of.result n role x o _ _
    c.in-Some.ensures.cases.0 (c.kind_of.ensures roles n x) (c.in_ok-part-in-Some.ensures.is roles n role x o)
    (rw c.deref.ensures.value at c.in_ok-add_first-in-Some.ensures.is n role x o w)

pub returns-in_ok-add_first-in-Some-clause-fits : goal.returns-in_ok-add_first-in-Some-clause-fits
returns-in_ok-add_first-in-Some-clause-fits c =
    let p = plain c.args.core.now in
    (c.in_ok-part-in-Some.ensures.fits p.range (cuts p) (subst (EntriesFit p.range (cuts p)) c.in-Some.ensures.cases.0 c.requires.fits)).entries
