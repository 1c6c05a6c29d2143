-- Deeds that leave OUT and the files beside it as they are.
use Rattle.std.proofs.Common.{◌≡◌, ℕ, Bool, true, false, cond, ◌&&◌, List, Option, None, Some, refl, sym, subst, ◌∙◌}
use Rattle.std.proofs.lemmas.Bool.{and_parts}
use Rattle.pb_io.specs.Files.{File, file_of}
use Rattle.pb_renew_store.specs.Changes.{KeepsOthers}
use Rattle.pb_renew_store.specs.Deeds.{same_content}
use Rattle.pb_renew_put.specs.Jobs.{Behind, Task}
use Rattle.pb_renew_put.specs.Names.{is_old_name, left_name, new_name, spare_name}
use Rattle.pb_renew_put.specs.Phases.{LeftIs, untouched, grown, sure, undone, Phase, before_of, is_before, is_copy, is_own, is_untouched, on_differs, on_met, on_seen, on_settled, same_name}
use Rattle.pb_renew_laws.proofs.Holds.{At, GrownIf, LeftHas, Steps, Still, still_goes, still_holds}
use Rattle.pb_renew_laws.proofs.Names.{old_apart, same_is}
use Rattle.pb_renew_laws.proofs.Tests.{content_is}

pub old_still : (out name : List ℕ) (old new : List File) → is_old_name out name ≡ true → KeepsOthers name old new → Still out old new
old_still out name old new is_old stay =
    let far = old_apart out name is_old in
    record { text = stay out far.from_out; left = stay (left_name out) far.from_left; lock = stay (new_name out) far.from_new; extra = stay (spare_name out) far.from_spare }

pub same_still : (out : List ℕ) (old new : List File) → new ≡ old → Still out old new
same_still out old new same = subst (λ f. Still out old f) (sym same) (record { text = refl; left = refl; lock = refl; extra = refl })

module _ (t : Task) (p : Phase) (old new : List File) (still : Still t.out old new) (at : At t p old) where
  now : At t p new
  now = still_holds t p old new still at

  -- nothing that counts changes
  pub stays : Steps t p old new p
  stays = still_goes t p old new p.saw_out p.saw_left p.left still now

  chosen : (test : Bool) (x y : Phase) → (test ≡ true → Steps t p old new x) → (test ≡ false → Steps t p old new y) → Steps t p old new (cond test x y)
  chosen true x y a b = a refl
  chosen false x y a b = b refl

  pub met_goes : (name : List ℕ) → Steps t p old new (on_met t p name)
  met_goes name =
      chosen (same_name name (new_name t.out)) _ _ (λ test. chosen (is_own p.fresh) _ _ (λ own. stays) (λ own. stays))
      (λ test. chosen (same_name name (spare_name t.out)) _ _ (λ test2. chosen _ _ _ (λ own. stays) (λ own. stays))
      (λ test2. chosen (is_old_name t.out name) _ _ (λ is_old. chosen (is_copy p.kept name) _ _ (λ copied. stays) (λ copied. stays)) (λ is_old. stays)))

  differs_goes : (name : List ℕ) (bytes : Option (List ℕ)) → Steps t p old new (on_differs t p name bytes)
  differs_goes name bytes =
      chosen (same_name name t.file && same_content bytes (Some t.source)) _ _ (λ test. stays)
      (λ test. chosen (same_name name t.out && same_content bytes t.old) _ _ (λ test2. stays)
      (λ test2. chosen (same_name name (left_name t.out) && is_untouched p.left && is_before bytes t.behind) _ _ (λ test3. stays) (λ test3. stays)))

  -- OUT and OUT.left may be seen under the lock
  grown_seen : (behind : Option Behind) (saw : Bool) (is : Option (List ℕ)) → GrownIf behind saw is → GrownIf behind true is
  grown_seen None saw is held = absurd held
  grown_seen (Some b) saw is held = (refl, held.1)

  out_seen : (left : LeftIs) (saw_out saw_left : Bool) (is : Option (List ℕ)) → LeftHas left t.behind saw_out saw_left is → LeftHas left t.behind true saw_left is
  out_seen untouched saw_out saw_left is held = held
  out_seen grown saw_out saw_left is held = grown_seen t.behind saw_out is held
  out_seen sure saw_out saw_left is held = grown_seen t.behind saw_out is held
  out_seen undone saw_out saw_left is held = tt

  left_seen : (left : LeftIs) (saw_out saw_left : Bool) (is : Option (List ℕ)) → is ≡ before_of t.behind → LeftHas left t.behind saw_out saw_left is → LeftHas left t.behind saw_out true is
  left_seen untouched saw_out saw_left is same held = λ e. same
  left_seen grown saw_out saw_left is same held = held
  left_seen sure saw_out saw_left is same held = held
  left_seen undone saw_out saw_left is same held = tt

  sees_out : is_own p.fresh ≡ true → file_of new t.out ≡ t.old → Steps t p old new (record p { saw_out = true })
  sees_out own same = still_goes t p old new true p.saw_left p.left still (record {
    lock = now.lock;
    extra = now.extra;
    out_locked = λ e. own;
    left_locked = now.left_locked;
    seen = λ e. same;
    stood = λ e. out_seen p.left p.saw_out p.saw_left _ (now.stood e);
  })

  sees_left : is_own p.fresh ≡ true → file_of new (left_name t.out) ≡ before_of t.behind → Steps t p old new (record p { saw_left = true })
  sees_left own same = still_goes t p old new p.saw_out true p.left still (record {
    lock = now.lock;
    extra = now.extra;
    out_locked = now.out_locked;
    left_locked = λ e. own;
    seen = now.seen;
    stood = λ e. left_seen p.left p.saw_out p.saw_left _ same (now.stood e);
  })

  seen_goes : (name : List ℕ) (bytes : Option (List ℕ)) → is_own p.fresh ≡ true → file_of new name ≡ bytes → Steps t p old new (on_seen t p name bytes)
  seen_goes name bytes own same =
      chosen (same_name name t.file && same_content bytes (Some t.source)) _ _ (λ test. stays)
      (λ test. chosen (same_name name t.out && same_content bytes t.old) _ _ (λ test2. out_so (and_parts _ _ test2))
      (λ test2. chosen (same_name name (left_name t.out) && same_content bytes (before_of t.behind)) _ _ (λ test3. left_so (and_parts _ _ test3)) (λ test3. stays))) where
        out_so : (same_name name t.out ≡ true) × (same_content bytes t.old ≡ true) → Steps t p old new (record p { saw_out = true })
        out_so parts = sees_out own (subst (λ n. file_of new n ≡ t.old) (same_is _ _ parts.0) (same ∙ content_is _ _ parts.1))

        left_so : (same_name name (left_name t.out) ≡ true) × (same_content bytes (before_of t.behind) ≡ true) → Steps t p old new (record p { saw_left = true })
        left_so parts = sees_left own (subst (λ n. file_of new n ≡ before_of t.behind) (same_is _ _ parts.0) (same ∙ content_is _ _ parts.1))

  pub compared_goes : (name : List ℕ) (bytes : Option (List ℕ)) (same : Bool) → same ≡ same_content (file_of new name) bytes
      → Steps t p old new (cond (is_own p.fresh) (cond same (on_seen t p name bytes) (on_differs t p name bytes)) p)
  compared_goes name bytes same is =
      chosen (is_own p.fresh) _ _ (λ own. chosen same _ _ (λ e. seen_goes name bytes own (content_is _ _ (sym is ∙ e))) (λ e. differs_goes name bytes)) (λ own. stays)

  -- what has grown stays grown
  pub settled_goes : (left : LeftIs) → p.left ≡ left → Steps t p old new (on_settled p left)
  settled_goes untouched e = stays
  settled_goes sure e = stays
  settled_goes undone e = stays
  settled_goes grown e = still_goes t p old new p.saw_out p.saw_left sure still (record {
    lock = now.lock;
    extra = now.extra;
    out_locked = now.out_locked;
    left_locked = now.left_locked;
    seen = now.seen;
    stood = λ own. subst (λ l. LeftHas l t.behind p.saw_out p.saw_left (file_of new (left_name t.out))) e (now.stood own);
  })

  pub settled_step : (name : List ℕ) → Steps t p old new (cond (same_name name (left_name t.out)) (on_settled p p.left) p)
  settled_step name = chosen (same_name name (left_name t.out)) _ _ (λ e. settled_goes p.left refl) (λ e. stays)
