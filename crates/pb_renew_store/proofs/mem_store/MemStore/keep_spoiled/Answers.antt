use Rattle.std.proofs.Common.{[], ◌∷◌, ◌++◌, ap, ◌∙◌}
use Rattle.pb_renew_store.specs.Deeds.{Deed, spoiled}
use Rattle.pb_renew_store.specs.MemStore.{store_deeds}
use Rattle.pb_renew_store.proofs.mem_store.MemStore.keep_spoiled.Goals as goal

pub returns-in-Ok-clause-told : goal.returns-in-Ok-clause-told
returns-in-Ok-clause-told c = λ is.
    c.keep.ensures.told is
    ∙ ap (λ (d : Deed). store_deeds c.args.self.now ++ d ∷ []) (c.in-Ok.ensures ∙ ap spoiled c.as_str.ensures.value)
