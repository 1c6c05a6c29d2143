use Rattle.pb_core_language.specs.Cuts.{cuts}
use Rattle.pb_core_language.specs.Plain.{plain}
use Rattle.pb_part.proofs.Growth.{added, aligned_added, fits_as}
use Rattle.pb_part.proofs.listed.add_first.Goals as goal

pub returns-clause-is : goal.returns-clause-is
returns-clause-is c = λ n role x o w.
    added c.args.core.now.roles.items c.args.list.now.items c.push.new.self.items (record { guards = c.in_ok-guards.guards; kind = c.args.kind }) n role x o _ c.in_ok-push.ensures.items (c.in_ok-guards.ensures.is n role x w)

pub returns-clause-aligned : goal.returns-clause-aligned
returns-clause-aligned c = λ d e f h.
    aligned_added d c.args.list.now.items c.push.new.self.items (record { guards = c.in_ok-guards.guards; kind = c.args.kind }) c.in_ok-push.ensures.items
    (c.in_ok-guards.ensures.aligned d (fits_as d c.args.core.now.range (cuts (plain c.args.core.now)) c.args.areas.now e f c.requires.fits)) h
