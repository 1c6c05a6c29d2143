use Rattle.pabble_renew.specs.Asked.{asked_by}
use Rattle.pabble_renew.proofs.Carried.{achieves, cause_so, did_all, rest_so, spares_so, tried}
use Rattle.pabble_renew.proofs.renewing.renew_file.Goals as goal

pub returns-in-Ok-carry_out-clause-done : goal.returns-in-Ok-carry_out-clause-done
returns-in-Ok-carry_out-clause-done g c =
    achieves (asked_by c.args.request.now) c.in-Ok.renewal.wanted c.in-Ok.renewal.plan _ _ c.in-Ok.ensures.planned c.args.request.now.doing _ _ c.in-Ok.ensures.apart c.in-Ok.ensures.nothing.files c.in-Ok-carry_out.ensures.done

pub returns-in-Ok-carry_out-clause-did : goal.returns-in-Ok-carry_out-clause-did
returns-in-Ok-carry_out-clause-did g c =
    did_all (asked_by c.args.request.now) c.in-Ok.renewal.wanted c.in-Ok.renewal.plan _ _ c.in-Ok.ensures.planned c.args.request.now.doing _ _ _ _ _ c.in-Ok.ensures.nothing c.in-Ok-carry_out.ensures.goes

pub returns-in-Ok-carry_out-clause-rest : goal.returns-in-Ok-carry_out-clause-rest
returns-in-Ok-carry_out-clause-rest g c =
    rest_so (asked_by c.args.request.now) c.in-Ok.renewal.wanted c.in-Ok.renewal.plan _ _ c.in-Ok.ensures.planned _ _ c.in-Ok.ensures.nothing.files c.in-Ok-carry_out.ensures.rest

pub returns-in-Err-carry_out-clause-spares : goal.returns-in-Err-carry_out-clause-spares
returns-in-Err-carry_out-clause-spares g c =
    spares_so (asked_by c.args.request.now) c.in-Ok.renewal.wanted c.in-Ok.renewal.plan _ _ c.in-Ok.ensures.planned c.in-Err-carry_out.why _ _ c.in-Ok.ensures.nothing.files c.in-Err-carry_out.ensures.kept

pub returns-in-Err-carry_out-clause-cause : goal.returns-in-Err-carry_out-clause-cause
returns-in-Err-carry_out-clause-cause g c =
    cause_so (asked_by c.args.request.now) c.in-Ok.renewal.wanted c.in-Ok.renewal.plan _ _ c.in-Ok.ensures.planned c.in-Err-carry_out.why _ _ _ _ _ _ c.in-Ok.ensures.nothing.files c.in-Ok.ensures.later c.in-Err-carry_out.ensures.cause

pub returns-in-Err-carry_out-clause-tried : goal.returns-in-Err-carry_out-clause-tried
returns-in-Err-carry_out-clause-tried g c =
    tried (asked_by c.args.request.now) c.in-Ok.renewal.wanted c.in-Ok.renewal.plan _ _ c.in-Ok.ensures.planned c.args.request.now.doing c.in-Err-carry_out.why _ _ _ _ _ _ c.in-Ok.ensures.nothing c.in-Err-carry_out.ensures.stops

pub returns-in-Err-carry_out-clause-rest : goal.returns-in-Err-carry_out-clause-rest
returns-in-Err-carry_out-clause-rest g c =
    rest_so (asked_by c.args.request.now) c.in-Ok.renewal.wanted c.in-Ok.renewal.plan _ _ c.in-Ok.ensures.planned _ _ c.in-Ok.ensures.nothing.files c.in-Err-carry_out.ensures.rest
