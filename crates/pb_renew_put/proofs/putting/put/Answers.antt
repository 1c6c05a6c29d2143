use Rattle.std.proofs.lemmas.Result.{err_from_is_err_and}
use Rattle.pb_renew_put.proofs.Comes.{nothing_done, put_cause, put_clean, put_done, put_fault, put_kept, put_rest}
use Rattle.pb_renew_put.proofs.Idle.{put_busy}
use Rattle.pb_renew_put.proofs.Leads.{leads_here}
use Rattle.pb_renew_put.proofs.putting.put.Goals as goal

pub returns-in_err-copied-clause-goes : goal.returns-in_err-copied-clause-goes
returns-in_err-copied-clause-goes g c = let p = err_from_is_err_and c.from_residual.result c.from_residual.ensures.1 in rw (p.1, p.2) (leads_here (nothing_done _ _))

pub returns-clause-goes : goal.returns-clause-goes
returns-clause-goes g c = c.put_alone.ensures.goes

pub returns-clause-done : goal.returns-clause-done
returns-clause-done g c = put_done _ _ _ c.put_alone.result _ _ c.requires.apart c.put_alone.ensures.goes

pub returns-clause-kept : goal.returns-clause-kept
returns-clause-kept g c = put_kept _ _ _ c.put_alone.result _ _ c.requires.apart c.put_alone.ensures.goes

pub returns-clause-clean : goal.returns-clause-clean
returns-clause-clean g c = put_clean _ _ _ c.put_alone.result _ _ c.requires.apart c.put_alone.ensures.goes

pub returns-clause-fault : goal.returns-clause-fault
returns-clause-fault g c = put_fault _ _ _ c.put_alone.result _ _ c.requires.apart c.put_alone.ensures.goes

pub returns-clause-cause : goal.returns-clause-cause
returns-clause-cause g c = put_cause _ _ _ c.put_alone.result _ _ c.requires.apart c.put_alone.ensures.goes

pub returns-clause-rest : goal.returns-clause-rest
returns-clause-rest g c = put_rest _ _ _ c.put_alone.result _ _ c.requires.apart c.put_alone.ensures.goes

pub returns-clause-busy : goal.returns-clause-busy
returns-clause-busy g c = λ _. put_busy _ _ _ c.put_alone.ensures.goes

pub returns-in_err-left-clause-goes : goal.returns-in_err-left-clause-goes
returns-in_err-left-clause-goes g c = let p = err_from_is_err_and c.from_residual-in_err-left.result c.from_residual-in_err-left.ensures.1 in rw (p.1, p.2) (leads_here (nothing_done _ _))

pub returns-in_err-fresh-clause-goes : goal.returns-in_err-fresh-clause-goes
returns-in_err-fresh-clause-goes g c = let p = err_from_is_err_and c.from_residual-in_err-fresh.result c.from_residual-in_err-fresh.ensures.1 in rw (p.1, p.2) (leads_here (nothing_done _ _))

pub returns-in_err-spare-clause-goes : goal.returns-in_err-spare-clause-goes
returns-in_err-spare-clause-goes g c = let p = err_from_is_err_and c.from_residual-in_err-spare.result c.from_residual-in_err-spare.ensures.1 in rw (p.1, p.2) (leads_here (nothing_done _ _))
