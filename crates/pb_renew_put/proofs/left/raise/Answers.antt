use Rattle.std.proofs.Common.{◌∙◌, ap, true, false, []}
use Rattle.pb_renew_put.specs.Phases.{has, unkept, untouched}
use Rattle.pb_renew_put.specs.Steps.{under}
use Rattle.pb_renew_put.proofs.Falling.{bodies_unwritten}
use Rattle.pb_renew_put.proofs.Leads.{ends_so, from_same, then_leads}
use Rattle.pb_renew_put.proofs.Nexts.{sets_spare_at}
use Rattle.pb_renew_put.proofs.left.raise.Goals as goal

pub returns-in-Ok-clause-goes : goal.returns-in-Ok-clause-goes
returns-in-Ok-clause-goes g c =
    then_leads (c.in-Ok.ensures.goes _ (λ own. under (has c.args.job.now.text.items true) own unkept [] false false false untouched)
    (sets_spare_at _ (under (has c.args.job.now.text.items true) (has [] false) unkept [] false false false untouched) _ (c.requires.written ∙ c.requires.files.spare)))
    (λ q at. from_same q (at ∙ ap (λ l. under (has c.args.job.now.text.items true) (has l true) unkept [] false false false untouched) c.deref.ensures.value) c.raise_written.ensures.goes)

pub returns-in-Err-clause-goes : goal.returns-in-Err-clause-goes
returns-in-Err-clause-goes g c =
    ends_so (c.in-Err.ensures.goes _ (λ own. under (has c.args.job.now.text.items true) own unkept [] false false false untouched)
    (sets_spare_at _ (under (has c.args.job.now.text.items true) (has [] false) unkept [] false false false untouched) _ (c.requires.written ∙ c.requires.files.spare)))
    (λ p at. bodies_unwritten _ _ c.requires.files c.args.job.now.text.items p at)
