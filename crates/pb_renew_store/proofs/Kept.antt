-- One more deed behind those that were kept.
use Rattle.std.proofs.Common.{◌≡◌, ℕ, true, List, [], ◌∷◌, ◌++◌, refl, sym, ap, ◌∙◌, true≢false}
use Rattle.pb_renew_store.specs.Deeds as told
use Rattle.pb_renew_store.specs.Recorded.{deed_of, deeds_of, is_whole, told_by}
use Rattle.pb_renew_store.specs.declared.deed.Deed.{Deed}
use Rattle.pb_renew_store.specs.declared.unkept.Unkept.{Unkept, Never, Again'}

deeds_more : (kept : List Deed) (deed : Deed) → deeds_of (kept ++ deed ∷ []) ≡ deeds_of kept ++ deed_of deed ∷ []
deeds_more [] deed = refl
deeds_more (first ∷ kept) deed = ap (λ (ds : List told.Deed). deed_of first ∷ ds) (deeds_more kept deed)

pub told_more : (kept now : List Deed) (unkept : Unkept) (written : List ℕ) (deed : Deed) → is_whole unkept ≡ true → now ≡ kept ++ deed ∷ []
    → told_by now unkept written ≡ told_by kept unkept written ++ deed_of deed ∷ []
told_more kept now Never written deed whole more = ap deeds_of more ∙ deeds_more kept deed
told_more kept now (Again' shape before) written deed whole more = absurd (true≢false (sym whole))
