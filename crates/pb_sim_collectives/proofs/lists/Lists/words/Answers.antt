use Rattle.pb_sim_collectives.proofs.Forgetting.{kept_within}
use Rattle.pb_sim_collectives.proofs.lists.Lists.words.Goals as goal

pub words-requires : goal.words-requires
words-requires c =
    let l = c.in-Some.ensures.lookup in
    kept_within (λ w. w.from) c.deref.result.now c.args.self.now.list.items c.args.rank c.args.k c.in-Some.window.now c.deref.ensures.value l.0 l.1 c.requires
