-- Each deed that a call may do goes from one phase to the next.
use Rattle.std.proofs.Common.{◌≡◌, ℕ, true, false, cond, not, ◌&&◌, ◌||◌, List, [], ◌++◌, Option, None, Some, IsSome, refl, sym, subst, ap, ◌∙◌}
use Rattle.std.proofs.lemmas.Bool.{and_parts}
use Rattle.std.proofs.lemmas.Option.{same_Some}
use Rattle.pb_io.specs.Files.{File, file_of}
use Rattle.pb_renew_store.specs.Changes.{KeepsOthers, Renames}
use Rattle.pb_renew_store.specs.Deeds.{Deed, Does, made, met, wrote, spoiled, compared, synced, settled, renamed, removed, same_content}
use Rattle.pb_renew_put.specs.Jobs.{Behind, Task}
use Rattle.pb_renew_put.specs.Names.{is_old_name, left_name, new_name, spare_name}
use Rattle.pb_renew_put.specs.Phases.{Kept, unkept, keeps, LeftIs, untouched, grown, sure, undone, Own, nothing, has, broken, Phase, has_before, has_bytes, is_kept, is_left_done, is_own, is_unkept, is_untouched, lost, more, next, on_copy, on_copy_removed, on_disk, on_left, on_left_removed, on_made, on_out, on_own, on_removed, on_renamed, same_name, then_set, with_fresh, with_out, with_spare}
use Rattle.pb_renew_laws.proofs.Holds.{At, LeftHas, OwnHas, Steps}
use Rattle.pb_renew_laws.proofs.Looks.{compared_goes, met_goes, old_still, same_still, settled_step, stays}
use Rattle.pb_renew_laws.proofs.Moves.{extra_goes, held, lock_goes, out_goes, raised, restored, taken_away, unlock_goes}
use Rattle.pb_renew_laws.proofs.Names.{same_is}
use Rattle.pb_renew_laws.proofs.Tests.{content_is, either_not, false_true, if_some, none_some, not_not}

-- ---- a file of the call's own

-- what a deed makes of such a file
record Alters (change : Own → Option Own) (before after : Option (List ℕ)) : Type 0 where
  mine : (own then_own : Own) → change own ≡ Some then_own → (is_own own ≡ true) × (is_own then_own ≡ true)
  gives : (own then_own : Own) → change own ≡ Some then_own → OwnHas own before → OwnHas then_own after

set_some : (set : Own → Phase) (own : Option Own) (q : Phase) → then_set set own ≡ Some q → (then_own : Own) × (own ≡ Some then_own) × (set then_own ≡ q)
set_some set None q e = none_some q e
set_some set (Some own) q e = (own, refl, same_Some _ _ e)

-- the three kinds of change
own_is : (own then_own : Own) → Some own ≡ Some then_own → is_own own ≡ true → is_own then_own ≡ true
own_is own then_own e is = subst (λ x. is_own x ≡ true) (same_Some _ _ e) is

wrote_so : (bytes : List ℕ) (before after : Option (List ℕ)) → IsSome after → ((had : List ℕ) → before ≡ Some had → after ≡ Some (had ++ bytes)) → Alters (more bytes) before after
wrote_so bytes before after there grows = record { mine = mine; gives = gives } where
  mine : (own then_own : Own) → more bytes own ≡ Some then_own → (is_own own ≡ true) × (is_own then_own ≡ true)
  mine nothing then_own e = none_some then_own e
  mine (has had disk) then_own e = (refl, own_is _ _ e refl)
  mine broken then_own e = (refl, own_is _ _ e refl)

  gives : (own then_own : Own) → more bytes own ≡ Some then_own → OwnHas own before → OwnHas then_own after
  gives nothing then_own e file = none_some then_own e
  gives (has had disk) then_own e file = subst (λ x. OwnHas x after) (same_Some _ _ e) (grows had file)
  gives broken then_own e file = subst (λ x. OwnHas x after) (same_Some _ _ e) there

spoiled_so : (before after : Option (List ℕ)) → (IsSome before → IsSome after) → Alters lost before after
spoiled_so before after there = record { mine = mine; gives = gives } where
  mine : (own then_own : Own) → lost own ≡ Some then_own → (is_own own ≡ true) × (is_own then_own ≡ true)
  mine nothing then_own e = none_some then_own e
  mine (has had disk) then_own e = (refl, own_is _ _ e refl)
  mine broken then_own e = (refl, own_is _ _ e refl)

  gives : (own then_own : Own) → lost own ≡ Some then_own → OwnHas own before → OwnHas then_own after
  gives nothing then_own e file = none_some then_own e
  gives (has had disk) then_own e file = subst (λ x. OwnHas x after) (same_Some _ _ e) (there (ap (λ (o : Option (List ℕ)). Rattle.std.specs.Option.is_some o) file))
  gives broken then_own e file = subst (λ x. OwnHas x after) (same_Some _ _ e) (there file)

synced_so : (before : Option (List ℕ)) → Alters on_disk before before
synced_so before = record { mine = mine; gives = gives } where
  mine : (own then_own : Own) → on_disk own ≡ Some then_own → (is_own own ≡ true) × (is_own then_own ≡ true)
  mine nothing then_own e = none_some then_own e
  mine (has had disk) then_own e = (refl, own_is _ _ e refl)
  mine broken then_own e = (refl, own_is _ _ e refl)

  gives : (own then_own : Own) → on_disk own ≡ Some then_own → OwnHas own before → OwnHas then_own before
  gives nothing then_own e file = none_some then_own e
  gives (has had disk) then_own e file = subst (λ x. OwnHas x before) (same_Some _ _ e) file
  gives broken then_own e file = subst (λ x. OwnHas x before) (same_Some _ _ e) file

wrote_there : (name : List ℕ) (bytes : List ℕ) (old new : List File) → IsSome (file_of old name) → ((had : List ℕ) → file_of old name ≡ Some had → file_of new name ≡ Some (had ++ bytes)) → IsSome (file_of new name)
wrote_there name bytes old new there grows = by_file (file_of old name) refl there where
  by_file : (file : Option (List ℕ)) → file_of old name ≡ file → IsSome file → IsSome (file_of new name)
  by_file None e some = false_true some
  by_file (Some had) e some = ap (λ (o : Option (List ℕ)). Rattle.std.specs.Option.is_some o) (grows had e)

module _ (t : Task) (p : Phase) (old new : List File) (at : At t p old) where
  go : (q r : Phase) → Some q ≡ Some r → Steps t p old new q → Steps t p old new r
  go q r e = subst (λ x. Steps t p old new x) (same_Some _ _ e)

  -- a copy of the old OUT
  beside : (name : List ℕ) → is_old_name t.out name ≡ true → KeepsOthers name old new → Steps t p old new p
  beside name is_old stay = stays t p old new (old_still t.out name old new is_old stay) at

  copy_step : (kept : Kept) (q : Phase) (name : List ℕ) (change : Own → Option Own) → is_old_name t.out name ≡ true → KeepsOthers name old new → on_copy p kept name change ≡ Some q → Steps t p old new q
  copy_step unkept q name change is_old stay e = none_some q e
  copy_step (keeps other own) q name change is_old stay e =
      if_some (same_name name other && is_own p.fresh) _ _ q
      (λ test goes. let set = set_some _ (change own) q goes in subst (λ x. Steps t p old new x) set.2 (beside name is_old stay)) (λ test none. none_some q none) e

  copy_removed : (kept : Kept) (q : Phase) (name : List ℕ) → is_old_name t.out name ≡ true → KeepsOthers name old new → on_copy_removed p kept name ≡ Some q → Steps t p old new q
  copy_removed unkept q name is_old stay e = none_some q e
  copy_removed (keeps other own) q name is_old stay e =
      if_some (same_name name other && is_own p.fresh) _ _ q (λ test some. go _ q some (beside name is_old stay)) (λ test none. none_some q none) e

  own_step : (q : Phase) (name : List ℕ) (change : Own → Option Own) → KeepsOthers name old new → Alters change (file_of old name) (file_of new name) → on_own t p name change ≡ Some q → Steps t p old new q
  own_step q name change stay alters e =
      if_some (same_name name (new_name t.out)) _ _ q (λ test goes. new_so (same_is _ _ test) goes)
      (λ test goes. if_some (same_name name (spare_name t.out)) _ _ q (λ test2 goes2. spare_so (same_is _ _ test2) goes2)
      (λ test2 goes2. if_some (is_old_name t.out name) _ _ q (λ is_old goes3. copy_step p.kept q name change is_old stay goes3) (λ is_old none. none_some q none) goes2) goes) e where
        new_so : name ≡ new_name t.out → then_set (with_fresh p) (change p.fresh) ≡ Some q → Steps t p old new q
        new_so named goes =
            let set = set_some _ (change p.fresh) q goes in
            let both = alters.mine p.fresh set.0 set.1 in
            let file : OwnHas p.fresh (file_of old name) = subst (λ n. OwnHas p.fresh (file_of old n)) (sym named) at.lock in
            let now : OwnHas set.0 (file_of new name) = alters.gives p.fresh set.0 set.1 file in
            subst (λ x. Steps t p old new x) set.2
            (lock_goes t p old new at set.0 (subst (λ n. KeepsOthers n old new) named stay) (subst (λ n. OwnHas set.0 (file_of new n)) named now) (λ free. false_true (sym free ∙ both.0)) both.1 (at.stood both.0))

        spare_so : name ≡ spare_name t.out → then_set (with_spare p) (change p.spare) ≡ Some q → Steps t p old new q
        spare_so named goes =
            let set = set_some _ (change p.spare) q goes in
            let both = alters.mine p.spare set.0 set.1 in
            let file : OwnHas p.spare (file_of old name) = subst (λ n. OwnHas p.spare (file_of old n)) (sym named) at.extra in
            let now : OwnHas set.0 (file_of new name) = alters.gives p.spare set.0 set.1 file in
            subst (λ x. Steps t p old new x) set.2
            (extra_goes t p old new at set.0 (subst (λ n. KeepsOthers n old new) named stay) (subst (λ n. OwnHas set.0 (file_of new n)) named now) (λ free. false_true (sym free ∙ both.0)))

  -- ---- making

  fresh_left : (left : LeftIs) (is : Option (List ℕ)) → is_untouched left ≡ true → (p.saw_left ≡ true → is_own p.fresh ≡ true) → is_own p.fresh ≡ false → LeftHas left t.behind p.saw_out p.saw_left is
  fresh_left untouched is e locked free = λ saw. false_true (sym free ∙ locked saw)
  fresh_left grown is e locked free = false_true e
  fresh_left sure is e locked free = false_true e
  fresh_left undone is e locked free = false_true e

  made_step : (q : Phase) (name : List ℕ) → file_of old name ≡ None → file_of new name ≡ Some [] → KeepsOthers name old new → on_made t p name ≡ Some q → Steps t p old new q
  made_step q name free empty stay e =
      if_some (same_name name (new_name t.out)) _ _ q (λ test goes. if_some (is_own p.fresh || p.is_put || not (is_untouched p.left)) _ _ q (λ bar none. none_some q none) (λ bar some. go _ q some (new_so (same_is _ _ test) bar)) goes)
      (λ test goes. if_some (same_name name (spare_name t.out)) _ _ q (λ test2 goes2. if_some (is_own p.fresh && not (is_own p.spare)) _ _ q (λ may some. go _ q some (spare_so (same_is _ _ test2))) (λ may none. none_some q none) goes2)
      (λ test2 goes2. if_some (is_old_name t.out name) _ _ q
      (λ is_old goes3. if_some (t.keeps_old && is_own p.fresh && p.saw_file && is_unkept p.kept) _ _ q (λ may some. go _ q some (beside name is_old stay)) (λ may none. none_some q none) goes3) (λ is_old none. none_some q none) goes2) goes) e where
        new_so : name ≡ new_name t.out → (is_own p.fresh || p.is_put || not (is_untouched p.left)) ≡ false → Steps t p old new (with_fresh p (has [] false))
        new_so named bar =
            let two = either_not (is_own p.fresh || p.is_put) (not (is_untouched p.left)) bar in
            let one = either_not (is_own p.fresh) p.is_put two.0 in
            lock_goes t p old new at (has [] false) (subst (λ n. KeepsOthers n old new) named stay) (subst (λ n. file_of new n ≡ Some []) named empty)
            (λ own. subst (λ n. file_of old n ≡ None) named free) refl (fresh_left p.left _ (not_not _ two.1) at.left_locked one.0)

        spare_so : name ≡ spare_name t.out → Steps t p old new (with_spare p (has [] false))
        spare_so named = extra_goes t p old new at (has [] false) (subst (λ n. KeepsOthers n old new) named stay) (subst (λ n. file_of new n ≡ Some []) named empty) (λ own. subst (λ n. file_of old n ≡ None) named free)

  -- ---- renaming

  before_bytes : (before : Option (List ℕ)) → has_before before p.spare ≡ true → (bytes : List ℕ) × (before ≡ Some bytes) × (has_bytes bytes p.spare ≡ true)
  before_bytes None e = false_true e
  before_bytes (Some bytes) e = (bytes, refl, e)

  back : (b : Behind) (q : Phase) → t.behind ≡ Some b → is_own p.fresh ≡ true → LeftHas grown (Some b) p.saw_out p.saw_left (file_of old (left_name t.out)) → Renames (spare_name t.out) (left_name t.out) old new
      → on_left p (Some b) grown ≡ Some q → Steps t p old new q
  back b q behind owned stood renames e =
      if_some (has_before b.before p.spare) _ _ q
      (λ test some. let was = before_bytes b.before test in go _ q some (restored t p old new at b was.0 renames behind was.1 owned stood was.2)) (λ test none. none_some q none) e

  left_step : (behind : Option Behind) (left : LeftIs) (q : Phase) → t.behind ≡ behind → p.left ≡ left → is_own p.fresh ≡ true → Renames (spare_name t.out) (left_name t.out) old new → on_left p behind left ≡ Some q → Steps t p old new q
  left_step None left q behind is_left owned renames e = none_some q e
  left_step (Some b) untouched q behind is_left owned renames e =
      if_some (p.saw_file && p.saw_out && p.saw_left && has_bytes b.bodies p.spare) _ _ q (λ test some. go _ q some (grow test)) (λ test none. none_some q none) e where
        grow : (p.saw_file && p.saw_out && p.saw_left && has_bytes b.bodies p.spare) ≡ true → Steps t p old new (record p { spare = nothing; left = grown })
        grow test =
            let three = and_parts (p.saw_file && p.saw_out && p.saw_left) (has_bytes b.bodies p.spare) test in
            let two = and_parts (p.saw_file && p.saw_out) p.saw_left three.0 in
            raised t p old new at b renames behind is_left (and_parts p.saw_file p.saw_out two.0).1 two.1 three.1
  left_step (Some b) grown q behind is_left owned renames e = back b q behind owned (held t p old new at grown (Some b) is_left behind owned) renames e
  left_step (Some b) sure q behind is_left owned renames e = back b q behind owned (held t p old new at sure (Some b) is_left behind owned) renames e
  left_step (Some b) undone q behind is_left owned renames e = none_some q e

  out_step : (q : Phase) → Renames (new_name t.out) t.out old new → on_out t p ≡ Some q → Steps t p old new q
  out_step q renames e =
      if_some (p.saw_file && p.saw_out && is_left_done t.behind p.left && has_bytes t.text p.fresh && not p.is_put && is_kept t.keeps_old t.old p.kept) _ _ q (λ test some. go _ q some (puts test)) (λ test none. none_some q none) e where
        puts : (p.saw_file && p.saw_out && is_left_done t.behind p.left && has_bytes t.text p.fresh && not p.is_put && is_kept t.keeps_old t.old p.kept) ≡ true → Steps t p old new (with_out p)
        puts test =
            let five = and_parts (p.saw_file && p.saw_out && is_left_done t.behind p.left && has_bytes t.text p.fresh && not p.is_put) (is_kept t.keeps_old t.old p.kept) test in
            let four = and_parts (p.saw_file && p.saw_out && is_left_done t.behind p.left && has_bytes t.text p.fresh) (not p.is_put) five.0 in
            let three = and_parts (p.saw_file && p.saw_out && is_left_done t.behind p.left) (has_bytes t.text p.fresh) four.0 in
            let two = and_parts (p.saw_file && p.saw_out) (is_left_done t.behind p.left) three.0 in
            out_goes t p old new at renames (and_parts p.saw_file p.saw_out two.0).1 two.1 three.1

  renamed_step : (q : Phase) (from to : List ℕ) → Renames from to old new → on_renamed t p from to ≡ Some q → Steps t p old new q
  renamed_step q from to renames e =
      if_some (same_name from (spare_name t.out) && same_name to (left_name t.out)) _ _ q (λ test goes. left_so (and_parts _ _ test) goes)
      (λ test goes. if_some (same_name from (new_name t.out) && same_name to t.out) _ _ q (λ test2 goes2. out_so (and_parts _ _ test2) goes2) (λ test2 none. none_some q none) goes) e where
        as_named : (a b : List ℕ) → from ≡ a → to ≡ b → Renames a b old new
        as_named a b is_from is_to = subst (λ n. Renames a n old new) is_to (subst (λ n. Renames n to old new) is_from renames)

        left_so : (same_name from (spare_name t.out) ≡ true) × (same_name to (left_name t.out) ≡ true) → cond (is_own p.fresh) (on_left p t.behind p.left) None ≡ Some q → Steps t p old new q
        left_so parts goes = if_some (is_own p.fresh) (on_left p t.behind p.left) None q
            (λ owned some. left_step t.behind p.left q refl refl owned (as_named _ _ (same_is _ _ parts.0) (same_is _ _ parts.1)) some) (λ owned none. none_some q none) goes

        out_so : (same_name from (new_name t.out) ≡ true) × (same_name to t.out ≡ true) → on_out t p ≡ Some q → Steps t p old new q
        out_so parts goes = out_step q (as_named _ _ (same_is _ _ parts.0) (same_is _ _ parts.1)) goes

  -- ---- taking away

  gone_left : (behind : Option Behind) (left : LeftIs) (q : Phase) → t.behind ≡ behind → p.left ≡ left → KeepsOthers (left_name t.out) old new → file_of new (left_name t.out) ≡ None → on_left_removed p behind left ≡ Some q → Steps t p old new q
  gone_left None left q behind is_left stay gone e = none_some q e
  gone_left (Some b) untouched q behind is_left stay gone e = none_some q e
  gone_left (Some b) undone q behind is_left stay gone e = none_some q e
  gone_left (Some b) grown q behind is_left stay gone e =
      if_some (is_own p.fresh && same_content b.before None) _ _ q
      (λ test some. let parts = and_parts _ _ test in go _ q some (taken_away t p old new at b stay gone behind (content_is _ _ parts.1) parts.0 (held t p old new at grown (Some b) is_left behind parts.0))) (λ test none. none_some q none) e
  gone_left (Some b) sure q behind is_left stay gone e =
      if_some (is_own p.fresh && same_content b.before None) _ _ q
      (λ test some. let parts = and_parts _ _ test in go _ q some (taken_away t p old new at b stay gone behind (content_is _ _ parts.1) parts.0 (held t p old new at sure (Some b) is_left behind parts.0))) (λ test none. none_some q none) e

  removed_step : (q : Phase) (name : List ℕ) → file_of new name ≡ None → KeepsOthers name old new → on_removed t p name ≡ Some q → Steps t p old new q
  removed_step q name gone stay e =
      if_some (same_name name (new_name t.out)) _ _ q
      (λ test goes. if_some (is_own p.fresh) _ _ q (λ owned some. go _ q some (unlock_goes t p old new at (subst (λ n. KeepsOthers n old new) (same_is _ _ test) stay) owned)) (λ owned none. none_some q none) goes)
      (λ test goes. if_some (same_name name (spare_name t.out)) _ _ q
      (λ test2 goes2. if_some (is_own p.fresh && is_own p.spare) _ _ q (λ own some. go _ q some (spare_so (same_is _ _ test2) (and_parts _ _ own).1)) (λ own none. none_some q none) goes2)
      (λ test2 goes2. if_some (same_name name (left_name t.out)) _ _ q
      (λ test3 goes3. gone_left t.behind p.left q refl refl (subst (λ n. KeepsOthers n old new) (same_is _ _ test3) stay) (subst (λ n. file_of new n ≡ None) (same_is _ _ test3) gone) goes3)
      (λ test3 goes3. if_some (is_old_name t.out name) _ _ q (λ is_old goes4. copy_removed p.kept q name is_old stay goes4) (λ is_old none. none_some q none) goes3) goes2) goes) e where
        spare_so : name ≡ spare_name t.out → is_own p.spare ≡ true → Steps t p old new (with_spare p nothing)
        spare_so named own = extra_goes t p old new at nothing (subst (λ n. KeepsOthers n old new) named stay) tt (λ free. false_true (sym free ∙ own))

  -- ---- whatever it is

  same_others : (name : List ℕ) → new ≡ old → KeepsOthers name old new
  same_others name same = subst (λ f. KeepsOthers name old f) (sym same) (λ other apart. refl)

  pub step : (q : Phase) (deed : Deed) → next t p deed ≡ Some q → Does deed old new → Steps t p old new q
  step q (made name) e does = made_step q name does.0 does.1 does.2 e
  step q (met name) e does = go _ q e (met_goes t p old new (same_still t.out old new does.1) at name)
  step q (wrote name bytes) e does = own_step q name (more bytes) does.2 (wrote_so bytes _ _ (wrote_there name bytes old new does.0 does.1) does.1) e
  step q (spoiled name) e does = own_step q name lost does.1 (spoiled_so _ _ does.0) e
  step q (compared name bytes same) e does =
      go _ q e (compared_goes t p old new (same_still t.out old new does.1) at name bytes same (subst (λ f. same ≡ same_content (file_of f name) bytes) (sym does.1) does.0))
  step q (synced name) e does = own_step q name on_disk (same_others name does) (subst (λ f. Alters on_disk (file_of old name) (file_of f name)) (sym does) (synced_so (file_of old name))) e
  step q (settled name) e does = go _ q e (settled_step t p old new (same_still t.out old new does) at name)
  step q (renamed from to) e does = renamed_step q from to does.1 e
  step q (removed name) e does = removed_step q name does.0 does.1 e
