use Rattle.std.proofs.Common.{◌∷◌, ◌++◌, [], ◌∙◌, ap, sym, map, vec_len, rules}
use Rattle.std.proofs.lemmas.List.{map-append}
use Rattle.pb_sim_collectives.specs.Lists.{replicated}
use Rattle.pb_sim_collectives.proofs.Pushing.{one_more_list}
use Rattle.pb_sim_collectives.proofs.Forgetting.{kept_more}
use Rattle.pb_sim_collectives.proofs.lists.Lists.new.Goals as goal

pub loop-alloc-preserved : goal.loop-alloc-preserved
loop-alloc-preserved c = record {
  is = ap (map (λ w. w.all)) c.in_ok-push.ensures.items ∙ map-append (λ w. w.all) c.loop-alloc.list.items (c.new.result ∷ [])
      ∙ ap (λ z. map (λ w. w.all) c.loop-alloc.list.items ++ z ∷ []) c.new.ensures.all
      ∙ one_more_list (map (λ w. w.all) c.loop-alloc.list.items) (vec_len c.loop-alloc.list) c.loop-alloc.invariant.is
      ∙ ap replicated (sym c.in_ok-push.ensures.len);
  kept =
      let e = ap (map (λ w. w.from)) c.in_ok-push.ensures.items ∙ map-append (λ w. w.from) c.loop-alloc.list.items (c.new.result ∷ []) in
      rw e (kept_more (map (λ w. w.from) c.loop-alloc.list.items) c.new.result.from c.new.ensures.from c.loop-alloc.invariant.kept);
  few = search rules;
}
