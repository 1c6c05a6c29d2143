use Rattle.std.proofs.lemmas.Result.{err_from_is_err_and}
use Rattle.pb_renew_put.proofs.Looking.{file_fell, looks_twice}
use Rattle.pb_renew_put.proofs.look.look.Goals as goal

pub returns-in_err-look_at-clause-goes : goal.returns-in_err-look_at-clause-goes
returns-in_err-look_at-clause-goes g c = λ fresh spare kept taken file out locked.
    let p = err_from_is_err_and c.from_residual.result c.from_residual.ensures.1 in
    rw (p.1, p.2) (file_fell _ fresh spare kept taken locked file out _ _ c.in_err-look_at.field-0.0 c.requires.file c.requires.source (c.in_err-look_at.ensures.goes _ _ locked))

pub returns-clause-goes : goal.returns-clause-goes
returns-clause-goes g c = λ fresh spare kept taken file out locked.
    looks_twice _ fresh spare kept taken locked file out _ _ _ c.look_at-2.result c.requires.apart c.requires.file c.requires.source c.requires.out (c.in_ok-look_at.ensures.goes _ _ locked) (λ p own. c.look_at-2.ensures.goes _ p own)
