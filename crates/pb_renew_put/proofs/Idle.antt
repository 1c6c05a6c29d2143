-- Where OUT.new is there, a call does nothing.
use Rattle.std.proofs.Common.{◌≡◌, ℕ, Bool, true, false, cond, not, ◌&&◌, ◌||◌, List, [], ◌∷◌, Option, None, Some, IsSome, refl, sym, subst, ap, ◌∙◌}
use Rattle.std.proofs.lemmas.Bool.{and_parts}
use Rattle.std.proofs.lemmas.Option.{same_Some}
use Rattle.pb_io.specs.Files.{File, file_of}
use Rattle.pb_renew_store.specs.Changes.{Turns}
use Rattle.pb_renew_store.specs.Deeds.{Deed, Does, made, met, wrote, spoiled, compared, synced, settled, renamed, removed}
use Rattle.pb_renew_put.specs.Jobs.{Behind, Task}
use Rattle.pb_renew_put.specs.Names.{is_old_name, left_name, new_name, spare_name}
use Rattle.pb_renew_put.specs.Phases.{DoesAll, unkept, Leads, LeftIs, untouched, grown, sure, undone, Own, nothing, Phase, has_bytes, is_copy, is_kept, is_left_done, is_own, is_unkept, lost, more, next, on_copy, on_copy_removed, on_disk, on_left_removed, on_made, on_met, on_out, on_own, on_removed, on_renamed, on_settled, same_name, start, then_go, then_set, walk, with_fresh, with_spare}
use Rattle.pb_renew_store.specs.Deeds.{same_content}
use Rattle.pb_renew_put.proofs.Apart.{same_is}
use Rattle.pb_renew_put.proofs.Kept.{false_true, if_some, none_some}

record Idle (p : Phase) : Type 0 where
  fresh : p.fresh ≡ nothing
  spare : p.spare ≡ nothing
  kept : p.kept ≡ unkept

record Stays (p : Phase) (f g : List File) : Type 0 where
  idle : Idle p
  same : g ≡ f

module _ (t : Task) (p q : Phase) (idle : Idle p) (f g : List File) where
  never_own : {C : Type 0} → is_own p.fresh ≡ true → C
  never_own own = false_true (sym (ap is_own idle.fresh) ∙ own)

  never_both : {C : Type 0} (b : Bool) → (is_own p.fresh && b) ≡ true → C
  never_both b may = never_own (and_parts (is_own p.fresh) b may).0

  made_never : {C : Type 0} (name : List ℕ) → IsSome (file_of f (new_name t.out)) → file_of f name ≡ None → on_made t p name ≡ Some q → C
  made_never {C = C} name there free e =
      if_some (same_name name (new_name t.out)) _ _ q (λ test goes. taken_so (same_is _ _ test))
      (λ test goes. if_some (same_name name (spare_name t.out)) _ _ q (λ test2 goes2. if_some (is_own p.fresh && not (is_own p.spare)) _ _ q (λ may some. never_both (not (is_own p.spare)) may) (λ may none. none_some q none) goes2)
      (λ test2 goes2. if_some (is_old_name t.out name) _ _ q (λ is_old goes3. if_some (t.keeps_old && is_own p.fresh && p.saw_file && is_unkept p.kept) _ _ q
      (λ may some. old_so (and_parts (t.keeps_old && is_own p.fresh && p.saw_file) (is_unkept p.kept) may).0) (λ may none. none_some q none) goes3) (λ is_old goes3. none_some q goes3) goes2) goes) e where
        taken_so : name ≡ new_name t.out → C
        taken_so named = let never : IsSome {T = List ℕ} None = subst (λ o. IsSome o) (subst (λ n. file_of f n ≡ None) named free) there in false_true never

        old_so : (t.keeps_old && is_own p.fresh && p.saw_file) ≡ true → C
        old_so may = never_own (and_parts t.keeps_old (is_own p.fresh) (and_parts (t.keeps_old && is_own p.fresh) p.saw_file may).0).1

  own_never : {C : Type 0} (name : List ℕ) (change : Own → Option Own) → change nothing ≡ None → on_own t p name change ≡ Some q → C
  own_never name change never e =
      if_some (same_name name (new_name t.out)) _ _ q (λ test goes. none_some q (sym (ap (λ o. then_set (with_fresh p) (change o)) idle.fresh ∙ ap (then_set (with_fresh p)) never) ∙ goes))
      (λ test goes. if_some (same_name name (spare_name t.out)) _ _ q (λ test2 goes2. none_some q (sym (ap (λ o. then_set (with_spare p) (change o)) idle.spare ∙ ap (then_set (with_spare p)) never) ∙ goes2))
      (λ test2 goes2. if_some (is_old_name t.out name) _ _ q (λ is_old goes3. none_some q (sym (ap (λ k. on_copy p k name change) idle.kept) ∙ goes3)) (λ is_old goes3. none_some q goes3) goes2) goes) e

  left_never : {C : Type 0} (behind : Option Behind) (left : LeftIs) → on_left_removed p behind left ≡ Some q → C
  left_never None left e = none_some q e
  left_never (Some b) untouched e = none_some q e
  left_never (Some b) undone e = none_some q e
  left_never (Some b) grown e = if_some (is_own p.fresh && same_content b.before None) _ _ q (λ may some. never_both (same_content b.before None) may) (λ may none. none_some q none) e
  left_never (Some b) sure e = if_some (is_own p.fresh && same_content b.before None) _ _ q (λ may some. never_both (same_content b.before None) may) (λ may none. none_some q none) e

  removed_never : {C : Type 0} (name : List ℕ) → on_removed t p name ≡ Some q → C
  removed_never name e =
      if_some (same_name name (new_name t.out)) _ _ q (λ test goes. if_some (is_own p.fresh) _ _ q (λ own some. never_own own) (λ own none. none_some q none) goes)
      (λ test goes. if_some (same_name name (spare_name t.out)) _ _ q (λ test2 goes2. if_some (is_own p.fresh && is_own p.spare) _ _ q (λ may some. never_both (is_own p.spare) may) (λ may none. none_some q none) goes2)
      (λ test2 goes2. if_some (same_name name (left_name t.out)) _ _ q (λ test3 goes3. left_never t.behind p.left goes3)
      (λ test3 goes3. if_some (is_old_name t.out name) _ _ q (λ is_old goes4. none_some q (sym (ap (λ k. on_copy_removed p k name) idle.kept) ∙ goes4)) (λ is_old goes4. none_some q goes4) goes3) goes2) goes) e

  renamed_never : {C : Type 0} (from to : List ℕ) → on_renamed t p from to ≡ Some q → C
  renamed_never {C = C} from to e =
      if_some (same_name from (spare_name t.out) && same_name to (left_name t.out)) _ _ q (λ test goes. if_some (is_own p.fresh) _ _ q (λ own some. never_own own) (λ own none. none_some q none) goes)
      (λ test goes. if_some (same_name from (new_name t.out) && same_name to t.out) _ _ q (λ test2 goes2. out_never goes2) (λ test2 none. none_some q none) goes) e where
        out_never : on_out t p ≡ Some q → C
        out_never goes = if_some (p.saw_file && p.saw_out && is_left_done t.behind p.left && has_bytes t.text p.fresh && not p.is_put && is_kept t.keeps_old t.old p.kept) _ _ q (λ may some. full_never may) (λ may none. none_some q none) goes where
          full_never : (p.saw_file && p.saw_out && is_left_done t.behind p.left && has_bytes t.text p.fresh && not p.is_put && is_kept t.keeps_old t.old p.kept) ≡ true → C
          full_never may =
              let five = and_parts (p.saw_file && p.saw_out && is_left_done t.behind p.left && has_bytes t.text p.fresh && not p.is_put) (is_kept t.keeps_old t.old p.kept) may in
              let four = and_parts (p.saw_file && p.saw_out && is_left_done t.behind p.left && has_bytes t.text p.fresh) (not p.is_put) five.0 in
              let three = and_parts (p.saw_file && p.saw_out && is_left_done t.behind p.left) (has_bytes t.text p.fresh) four.0 in
              false_true (sym (ap (has_bytes t.text) idle.fresh) ∙ three.1)

  chosen_idle : (test : Bool) (x y : Phase) → Idle x → Idle y → Idle (cond test x y)
  chosen_idle true x y a b = a
  chosen_idle false x y a b = b

  met_idle : (name : List ℕ) → Idle (on_met t p name)
  met_idle name =
      let more_taken : Idle (record p { taken = name ∷ p.taken }) = record { fresh = idle.fresh; spare = idle.spare; kept = idle.kept } in
      chosen_idle (same_name name (new_name t.out)) _ _ (chosen_idle (is_own p.fresh) _ _ idle more_taken)
      (chosen_idle (same_name name (spare_name t.out)) _ _ (chosen_idle (is_own p.spare || p.strays) _ _ idle more_taken)
      (chosen_idle (is_old_name t.out name) _ _ (chosen_idle (is_copy p.kept name) _ _ idle more_taken) idle))

  seen_idle : (own : Bool) (x : Phase) → is_own p.fresh ≡ own → Idle (cond own x p)
  seen_idle true x e = never_own e
  seen_idle false x e = idle

  settled_idle : (left : LeftIs) → Idle (on_settled p left)
  settled_idle untouched = idle
  settled_idle grown = record { fresh = idle.fresh; spare = idle.spare; kept = idle.kept }
  settled_idle sure = idle
  settled_idle undone = idle

  stays : (x : Phase) → Some x ≡ Some q → g ≡ f → Idle x → Stays q f g
  stays x e same is = record { idle = subst (λ y. Idle y) (same_Some _ _ e) is; same = same }

  step : (deed : Deed) → IsSome (file_of f (new_name t.out)) → next t p deed ≡ Some q → Does deed f g → Stays q f g
  step (made name) there e does = made_never name there does.0 e
  step (met name) there e does = stays _ e does.1 (met_idle name)
  step (wrote name bytes) there e does = own_never name (more bytes) refl e
  step (spoiled name) there e does = own_never name lost refl e
  step (compared name bytes same) there e does = stays _ e does.1 (seen_idle (is_own p.fresh) _ refl)
  step (synced name) there e does = own_never name on_disk refl e
  step (settled name) there e does = stays _ e does (chosen_idle (same_name name (left_name t.out)) _ _ (settled_idle p.left) idle)
  step (renamed from to) there e does = renamed_never from to e
  step (removed name) there e does = removed_never name e

walk_idle : (t : Task) (deeds : List Deed) (p q : Phase) (f g : List File) → Idle p → IsSome (file_of f (new_name t.out)) → walk t deeds p ≡ Some q → DoesAll deeds f g → g ≡ f
walk_idle t [] p q f g idle there e does = does
walk_idle t (deed ∷ deeds) p q f g idle there e does =
    go (next t p deed) refl (λ x is rest. let s = step t p x idle f does.0 deed there is does.1 in walk_idle t deeds x q does.0 g s.idle (subst (λ h. IsSome (file_of h (new_name t.out))) (sym s.same) there) rest does.2 ∙ s.same) e where
      go : (to : Option Phase) → next t p deed ≡ to → ((x : Phase) → next t p deed ≡ Some x → walk t deeds x ≡ Some q → g ≡ f) → then_go (walk t deeds) to ≡ Some q → g ≡ f
      go None is give rest = none_some q rest
      go (Some x) is give rest = give x is rest

pub put_busy : {d0 d1 : Option (List Deed)} {E : Phase → Type 0} (t : Task) (h0 h1 : Option (List File)) → Leads t start d0 d1 h0 h1 E → Turns h0 h1 (λ old new. IsSome (file_of old (new_name t.out)) → new ≡ old)
put_busy t None h1 leads = tt
put_busy t (Some a) None leads = leads.files
put_busy t (Some a) (Some b) leads = λ there. walk_idle t leads.deeds start leads.phase a b (record { fresh = refl; spare = refl; kept = refl }) there leads.walks leads.files
