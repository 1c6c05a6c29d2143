use Rattle.std.proofs.lemmas.List.{length-map}
use Rattle.pb_sim_collectives.proofs.Pushing.{pushed_in, kept_in}
use Rattle.pb_sim_collectives.proofs.lists.Lists.push.Goals as goal

pub returns-in-Ok-clause-ok : goal.returns-in-Ok-clause-ok
returns-in-Ok-clause-ok c =
    pushed_in (λ w. w.all) c.args.self.now.list.items c.args.rank c.push.new.self c.index_mut-window.result.now c.args.words
    (rw length-map at c.requires) c.index_mut-window.ensures.value c.in-Ok.ensures.ok

pub returns-in-Ok-clause-starts : goal.returns-in-Ok-clause-starts
returns-in-Ok-clause-starts c =
    kept_in (λ w. w.from) c.args.self.now.list.items c.args.rank c.push.new.self c.index_mut-window.result.now c.index_mut-window.ensures.value c.push.ensures.from

pub returns-in-Err-clause-err : goal.returns-in-Err-clause-err
returns-in-Err-clause-err c =
    kept_in (λ w. w.all) c.args.self.now.list.items c.args.rank c.push.new.self c.index_mut-window.result.now c.index_mut-window.ensures.value c.in-Err.ensures.err

pub returns-in-Err-clause-starts : goal.returns-in-Err-clause-starts
returns-in-Err-clause-starts c =
    kept_in (λ w. w.from) c.args.self.now.list.items c.args.rank c.push.new.self c.index_mut-window.result.now c.index_mut-window.ensures.value c.push.ensures.from
