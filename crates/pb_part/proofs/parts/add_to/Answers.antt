use Rattle.pb_part.proofs.Groups.{same_added, other_added, others_fit}
use Rattle.pb_part.proofs.parts.add_to.Goals as goal

pub returns-in_ok-push-clause-is : goal.returns-in_ok-push-clause-is
returns-in_ok-push-clause-is c = λ roles n role x o. same_added roles _ _ c.args.part.now.others.items c.args.kind c.args.entry n role x o (c.is_same.ensures c.if-is_same.true) (c.in_ok-push.ensures.is n role x)

pub returns-in_ok-push-clause-fits : goal.returns-in_ok-push-clause-fits
returns-in_ok-push-clause-fits c = λ range cuts a f. record { areas = c.in_ok-push.ensures.fits range cuts a.areas f; entries = a.entries }

pub returns-in_ok-push-2-clause-is : goal.returns-in_ok-push-2-clause-is
returns-in_ok-push-2-clause-is c = λ roles n role x o. other_added roles _ _ c.args.entry n role x o _ c.in_ok-push-2.ensures.items

pub returns-in_ok-push-2-clause-fits : goal.returns-in_ok-push-2-clause-fits
returns-in_ok-push-2-clause-fits c = λ range cuts a f. record { areas = a.areas; entries = others_fit range cuts _ _ c.args.entry c.in_ok-push-2.ensures.items f a.entries }
