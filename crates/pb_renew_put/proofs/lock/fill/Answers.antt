use Rattle.std.proofs.Common.{◌∙◌, ap, true}
use Rattle.pb_renew_put.specs.Phases.{has, start, with_fresh}
use Rattle.pb_renew_put.proofs.Falling.{fills_sooner, text_unwritten}
use Rattle.pb_renew_put.proofs.Leads.{ends_so, from_same, then_leads}
use Rattle.pb_renew_put.proofs.Nexts.{sets_fresh_at}
use Rattle.pb_renew_put.proofs.lock.fill.Goals as goal

pub returns-in-Ok-clause-goes : goal.returns-in-Ok-clause-goes
returns-in-Ok-clause-goes g c =
    then_leads (c.in-Ok.ensures.goes _ (with_fresh start) (sets_fresh_at _ start _ (c.requires.written ∙ c.requires.files.fresh)))
    (λ q at. from_same q (at ∙ ap (λ l. with_fresh start (has l true)) c.deref.ensures.value) (ends_so c.put_written.ensures.goes (λ p so. fills_sooner c.put_written.result _ _ _ _ p c.write_whole.ensures.later so)))

pub returns-in-Err-clause-goes : goal.returns-in-Err-clause-goes
returns-in-Err-clause-goes g c =
    ends_so (c.in-Err.ensures.goes _ (with_fresh start) (sets_fresh_at _ start _ (c.requires.written ∙ c.requires.files.fresh)))
    (λ p at. text_unwritten _ _ c.requires.files p _ _ c.in-Err.ensures.fault at)
