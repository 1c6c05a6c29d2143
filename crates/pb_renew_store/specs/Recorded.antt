-- Deeds as a store in memory keeps them.
use Rattle.std.specs.Prelude.{ℕ, Bool, true, false, List, [], ◌∷◌, ◌++◌}
use Rattle.std.specs.Option.{option_map}
use Rattle.std.specs.String.{string_bytes}
use Rattle.pb_renew_store.specs.Deeds as deeds
use Rattle.pb_renew_store.specs.Deeds.{made, met, wrote, spoiled, compared, synced, settled, renamed, removed}
use Rattle.pb_renew_store.specs.declared.deed.Deed.{Deed}
use Rattle.pb_renew_store.specs.declared.deed.Deed.TheVariants.{Made, Met, Wrote, Spoiled, Compared, Synced, Settled, Renamed, Removed}
use Rattle.pb_renew_store.specs.declared.unkept.Unkept.{Unkept, Never, Again'}

abbrev pub deed_of : Deed → deeds.Deed
deed_of (Made name) = made (string_bytes name)
deed_of (Met name) = met (string_bytes name)
deed_of (Wrote name bytes) = wrote (string_bytes name) bytes.items
deed_of (Spoiled name) = spoiled (string_bytes name)
deed_of (Compared name bytes same) = compared (string_bytes name) (option_map (λ b. b.items) bytes) same
deed_of (Synced name) = synced (string_bytes name)
deed_of (Settled name) = settled (string_bytes name)
deed_of (Renamed from to) = renamed (string_bytes from) (string_bytes to)
deed_of (Removed name) = removed (string_bytes name)

abbrev pub deeds_of : List Deed → List deeds.Deed
deeds_of [] = []
deeds_of (deed ∷ rest) = deed_of deed ∷ deeds_of rest

-- the deeds that were kept, and behind them those that weren't: the writing to this file failed each time
abbrev pub told_by : List Deed → Unkept → List ℕ → List deeds.Deed
told_by kept Never written = deeds_of kept
told_by kept (Again' shape before) written = told_by kept before written ++ spoiled written ∷ []

-- all were kept
abbrev pub is_whole : Unkept → Bool
is_whole Never = true
is_whole (Again' shape before) = false
