use Rattle.std.proofs.Common.{◌≡◌, true, List, [], ◌∷◌, ◌++◌, Some, ap, rules}
use Rattle.pb_renew_store.specs.Deeds.{Deed}
use Rattle.pb_renew_store.specs.MemStore.{keeps_all}
use Rattle.pb_renew_store.proofs.Kept.{told_more}
use Rattle.pb_renew_store.proofs.mem_store.MemStore.done.Goals as goal

pub returns-clause-done : goal.returns-clause-done
returns-clause-done c = λ _.
    let whole : keeps_all c.args.self.now ≡ true = search rules in
    let more : c.push.new.self.items ≡ c.args.self.now.deeds.items ++ c.args.deed ∷ [] = search rules in
    record {
      told = ap (λ (ds : List Deed). Some ds) (told_more _ _ _ _ _ whole more);
      files = search rules;
    }
