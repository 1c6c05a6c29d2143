use Rattle.std.proofs.Common.{◌≡◌, [], ◌∷◌, ◌++◌, rules}
use Rattle.pb_renew_store.proofs.Kept.{told_more}
use Rattle.pb_renew_store.proofs.mem_store.MemStore.keep.Goals as goal

pub returns-clause-told : goal.returns-clause-told
returns-clause-told c = λ is.
    let more : c.push.new.self.items ≡ c.args.self.now.deeds.items ++ c.args.deed ∷ [] = search rules in
    told_more _ _ _ _ _ c.requires more
