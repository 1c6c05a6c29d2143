-- Deeds that change OUT or a file beside it.
use Rattle.std.proofs.Common.{◌≡◌, ◌⊎◌, inl, inr, ℕ, Bool, true, false, List, [], Option, None, Some, Result, Ok, Err, refl, sym, subst, ap, ◌∙◌}
use Rattle.std.proofs.lemmas.Bool.{and_parts}
use Rattle.pb_ctree.specs.declared.kernel.KName.{KName}
use Rattle.pb_io.specs.Files.{File, content_of, file_of}
use Rattle.pb_kernels.specs.declared.fault.KernelFault.{KernelFault}
use Rattle.pb_kernels.specs.declared.file.NamedBody.{NamedBody}
use Rattle.pb_kernels.specs.Files.{program_file, lines, read_from}
use Rattle.pb_kernels.specs.Names.{is_among}
use Rattle.pb_renew_merge.specs.Lost.{Keeps, NothingLost}
use Rattle.pb_renew_store.specs.Changes.{KeepsFile, KeepsOthers, Renames}
use Rattle.pb_renew_put.specs.Jobs.{Behind, Task}
use Rattle.pb_renew_put.specs.Names.{left_name, new_name, spare_name}
use Rattle.pb_renew_put.specs.Phases.{LeftIs, untouched, grown, sure, undone, Own, nothing, has, broken, Phase, has_bytes, is_left_done, is_own, unlocked, with_fresh, with_out, with_spare}
use Rattle.pb_renew_laws.specs.Bodies.{Saves, SavesIn, Sound, content}
use Rattle.pb_renew_laws.proofs.Holds.{At, GrownIf, Kept, LeftHas, OwnHas, Steps, bodies_stay, body_stays, left_stays, own_stays}
use Rattle.pb_renew_laws.proofs.Names.{left_new, left_spare, new_spare, out_left, out_new, out_spare, same_is}
use Rattle.pb_renew_laws.proofs.Tests.{false_true, missing}

-- ---- bodies

-- a body of a file that loses nothing stands in one of the two
pub carried : (name : KName) (body a b c : List ℕ) → NothingLost a b c → Keeps name body a → Keeps name body b ⊎ Keeps name body c
carried name body a b c loss kept = subst (λ x. Keeps name x b ⊎ Keeps name x c) kept.same (loss kept.list kept.read name kept.there)

empty_file : program_file [] ≡ Ok []
unfolding program_file lines read_from
empty_file = refl

abbrev bodies_of : Result (List NamedBody) KernelFault → List NamedBody
bodies_of (Ok list) = list
bodies_of (Err fault) = []

none_in : (list : List NamedBody) → program_file [] ≡ Ok list → [] ≡ list
none_in list read = ap bodies_of (sym empty_file ∙ read)

-- an empty file has none
pub no_body : {C : Type 0} (name : KName) (body : List ℕ) → Keeps name body [] → C
no_body name body kept = false_true (subst (λ l. is_among name l ≡ true) (sym (none_in kept.list kept.read)) kept.there)

pub first_of_two : (name : KName) (body a b : List ℕ) → NothingLost a b [] → Keeps name body a → Keeps name body b
first_of_two name body a b loss kept = only (carried name body a b [] loss kept) where
  only : Keeps name body b ⊎ Keeps name body [] → Keeps name body b
  only (inl held) = held
  only (inr held) = no_body name body held

has_own : (bytes : List ℕ) (own : Own) → has_bytes bytes own ≡ true → is_own own ≡ true
has_own bytes nothing e = false_true e
has_own bytes (has other disk) e = refl
has_own bytes broken e = false_true e

has_file : (bytes : List ℕ) (own : Own) (is : Option (List ℕ)) → has_bytes bytes own ≡ true → OwnHas own is → is ≡ Some bytes
has_file bytes nothing is e held = false_true e
has_file bytes (has other disk) is e held = held ∙ ap (λ (l : List ℕ). Some l) (same_is _ _ (and_parts _ _ e).0)
has_file bytes broken is e held = false_true e

module _ (t : Task) (p : Phase) (old new : List File) (at : At t p old) where
  -- OUT.new alone
  pub lock_goes : (own : Own) → KeepsOthers (new_name t.out) old new → OwnHas own (file_of new (new_name t.out))
      → (is_own p.fresh ≡ false → file_of old (new_name t.out) ≡ None) → is_own own ≡ true
      → LeftHas p.left t.behind p.saw_out p.saw_left (file_of old (left_name t.out)) → Steps t p old new (with_fresh p own)
  lock_goes own stay now free owned stood = record {
    changes = record {
      text = λ e. stay t.out (out_new t.out);
      left = λ e. stay (left_name t.out) (left_new t.out);
      lock = λ e there. missing (file_of old (new_name t.out)) (free e) there;
      extra = λ e there. stay (spare_name t.out) (λ same. new_spare t.out (sym same));
      takes_lock = λ e. taken (is_own p.fresh) refl;
      takes_extra = λ e. inl e;
    };
    holds = record {
      lock = now;
      extra = own_stays p.spare (spare_name t.out) old new (stay (spare_name t.out) (λ same. new_spare t.out (sym same))) at.extra;
      out_locked = λ e. owned;
      left_locked = λ e. owned;
      seen = λ e. stay t.out (out_new t.out) ∙ at.seen e;
      stood = λ e. left_stays p.left t.behind p.saw_out p.saw_left (left_name t.out) old new (stay (left_name t.out) (left_new t.out)) stood;
    };
    kept = λ sound. bodies_stay t.out old new (stay t.out (out_new t.out)) (stay (left_name t.out) (left_new t.out));
  } where
    taken : (test : Bool) → is_own p.fresh ≡ test → (is_own p.fresh ≡ true) ⊎ (file_of old (new_name t.out) ≡ None)
    taken true e = inl e
    taken false e = inr (free e)

  -- it is taken away
  pub unlock_goes : KeepsOthers (new_name t.out) old new → is_own p.fresh ≡ true → Steps t p old new (unlocked p)
  unlock_goes stay owned = record {
    changes = record {
      text = λ e. stay t.out (out_new t.out);
      left = λ e. stay (left_name t.out) (left_new t.out);
      lock = λ e there. false_true (sym e ∙ owned);
      extra = λ e there. stay (spare_name t.out) (λ same. new_spare t.out (sym same));
      takes_lock = λ e. false_true e;
      takes_extra = λ e. false_true e;
    };
    holds = record { lock = tt; extra = tt; out_locked = λ e. false_true e; left_locked = λ e. false_true e; seen = λ e. false_true e; stood = λ e. false_true e };
    kept = λ sound. bodies_stay t.out old new (stay t.out (out_new t.out)) (stay (left_name t.out) (left_new t.out));
  }

  -- OUT.left.new alone
  pub extra_goes : (own : Own) → KeepsOthers (spare_name t.out) old new → OwnHas own (file_of new (spare_name t.out))
      → (is_own p.spare ≡ false → file_of old (spare_name t.out) ≡ None) → Steps t p old new (with_spare p own)
  extra_goes own stay now free = record {
    changes = record {
      text = λ e. stay t.out (out_spare t.out);
      left = λ e. stay (left_name t.out) (left_spare t.out);
      lock = λ e there. stay (new_name t.out) (new_spare t.out);
      extra = λ e there. missing (file_of old (spare_name t.out)) (free e) there;
      takes_lock = λ e. inl e;
      takes_extra = λ e. taken (is_own p.spare) refl;
    };
    holds = record {
      lock = own_stays p.fresh (new_name t.out) old new (stay (new_name t.out) (new_spare t.out)) at.lock;
      extra = now;
      out_locked = at.out_locked;
      left_locked = at.left_locked;
      seen = λ e. stay t.out (out_spare t.out) ∙ at.seen e;
      stood = λ e. left_stays p.left t.behind p.saw_out p.saw_left (left_name t.out) old new (stay (left_name t.out) (left_spare t.out)) (at.stood e);
    };
    kept = λ sound. bodies_stay t.out old new (stay t.out (out_spare t.out)) (stay (left_name t.out) (left_spare t.out));
  } where
    taken : (test : Bool) → is_own p.spare ≡ test → (is_own p.spare ≡ true) ⊎ (file_of old (spare_name t.out) ≡ None)
    taken true e = inl e
    taken false e = inr (free e)

  -- OUT.left under the lock, by what becomes of OUT.left.new
  pub left_goes : (spare : Own) (left : LeftIs) → is_own p.fresh ≡ true → KeepsFile t.out old new → KeepsFile (new_name t.out) old new
      → OwnHas spare (file_of new (spare_name t.out)) → (is_own p.spare ≡ false → KeepsFile (spare_name t.out) old new) → (is_own spare ≡ true → is_own p.spare ≡ true)
      → LeftHas left t.behind p.saw_out p.saw_left (file_of new (left_name t.out)) → (Sound t → Kept t.out old new)
      → Steps t p old new (record p { spare = spare; left = left })
  left_goes spare left owned text lock extra stays takes stood kept = record {
    changes = record {
      text = λ e. text;
      left = λ e. false_true (sym e ∙ owned);
      lock = λ e there. lock;
      extra = λ e there. stays e;
      takes_lock = λ e. inl e;
      takes_extra = λ e. inl (takes e);
    };
    holds = record {
      lock = own_stays p.fresh (new_name t.out) old new lock at.lock;
      extra = extra;
      out_locked = at.out_locked;
      left_locked = at.left_locked;
      seen = λ e. text ∙ at.seen e;
      stood = λ e. stood;
    };
    kept = kept;
  }

  pub held : (left : LeftIs) (behind : Option Behind) → p.left ≡ left → t.behind ≡ behind → is_own p.fresh ≡ true → LeftHas left behind p.saw_out p.saw_left (file_of old (left_name t.out))
  held left behind is_left is_behind owned =
      subst (λ l. LeftHas l behind p.saw_out p.saw_left (file_of old (left_name t.out))) is_left
      (subst (λ b. LeftHas p.left b p.saw_out p.saw_left (file_of old (left_name t.out))) is_behind (at.stood owned))

  -- OUT.left grows from what it had to the bodies
  grows : (b : Behind) → t.behind ≡ Some b → KeepsFile t.out old new → file_of old (left_name t.out) ≡ b.before → file_of new (left_name t.out) ≡ Some b.bodies → Sound t → Kept t.out old new
  grows b behind text was is sound name body (inl there) = inl (body_stays name body t.out old new text there)
  grows b behind text was is sound name body (inr there) =
      let saves : Saves b (content t.old) t.text = subst (λ x. SavesIn x (content t.old) t.text) behind sound in
      inr (subst (λ v. Keeps name body (content v)) (sym is) (first_of_two name body (content b.before) b.bodies saves.grows (subst (λ v. Keeps name body (content v)) was there)))

  -- and goes back, where OUT is as it was told
  shrinks : (b : Behind) → t.behind ≡ Some b → KeepsFile t.out old new → file_of old t.out ≡ t.old → file_of old (left_name t.out) ≡ Some b.bodies → file_of new (left_name t.out) ≡ b.before → Sound t → Kept t.out old new
  shrinks b behind text told was is sound name body (inl there) = inl (body_stays name body t.out old new text there)
  shrinks b behind text told was is sound name body (inr there) =
      let saves : Saves b (content t.old) t.text = subst (λ x. SavesIn x (content t.old) t.text) behind sound in
      by_place (carried name body b.bodies (content b.before) (content t.old) saves.known (subst (λ v. Keeps name body (content v)) was there)) where
        by_place : Keeps name body (content b.before) ⊎ Keeps name body (content t.old) → Keeps name body (content_of new t.out) ⊎ Keeps name body (content_of new (left_name t.out))
        by_place (inl kept) = inr (subst (λ v. Keeps name body (content v)) (sym is) kept)
        by_place (inr kept) = inl (subst (λ v. Keeps name body (content v)) (sym (text ∙ told)) kept)

  -- the text is in the place of the OUT that was told
  puts : (behind : Option Behind) (left : LeftIs) → is_left_done behind left ≡ true → LeftHas left behind p.saw_out p.saw_left (file_of old (left_name t.out)) → SavesIn behind (content t.old) t.text
      → KeepsFile (left_name t.out) old new → file_of old t.out ≡ t.old → file_of new t.out ≡ Some t.text → Kept t.out old new
  puts behind left done stood saves stay told is name body (inr there) = inr (body_stays name body (left_name t.out) old new stay there)
  puts None untouched done stood saves stay told is name body (inl there) =
      inl (subst (λ v. Keeps name body (content v)) (sym is) (first_of_two name body (content t.old) t.text saves (subst (λ v. Keeps name body (content v)) told there)))
  puts None grown done stood saves stay told is name body (inl there) = false_true done
  puts None sure done stood saves stay told is name body (inl there) = false_true done
  puts None undone done stood saves stay told is name body (inl there) = false_true done
  puts (Some b) untouched done stood saves stay told is name body (inl there) = false_true done
  puts (Some b) grown done stood saves stay told is name body (inl there) = false_true done
  puts (Some b) undone done stood saves stay told is name body (inl there) = false_true done
  puts (Some b) sure done stood saves stay told is name body (inl there) =
      by_place (carried name body (content t.old) t.text b.bodies saves.whole (subst (λ v. Keeps name body (content v)) told there)) where
        by_place : Keeps name body t.text ⊎ Keeps name body b.bodies → Keeps name body (content_of new t.out) ⊎ Keeps name body (content_of new (left_name t.out))
        by_place (inl kept) = inl (subst (λ v. Keeps name body (content v)) (sym is) kept)
        by_place (inr kept) = inr (subst (λ v. Keeps name body (content v)) (sym (stay ∙ stood.1)) kept)

  grown_is : (b : Behind) (saw : Bool) (is : Option (List ℕ)) → t.behind ≡ Some b → saw ≡ true → is ≡ Some b.bodies → GrownIf t.behind saw is
  grown_is b saw is behind seen same = subst (λ x. GrownIf x saw is) (sym behind) (seen, same)

  -- OUT.left.new gets the name OUT.left, with the bodies
  pub raised : (b : Behind) → Renames (spare_name t.out) (left_name t.out) old new → t.behind ≡ Some b → p.left ≡ untouched → p.saw_out ≡ true → p.saw_left ≡ true → has_bytes b.bodies p.spare ≡ true
      → Steps t p old new (record p { spare = nothing; left = grown })
  raised b renames behind is_left saw_out saw_left fits =
      let owned : is_own p.fresh ≡ true = at.out_locked saw_out in
      let text : KeepsFile t.out old new = renames.others t.out (out_spare t.out) (out_left t.out) in
      let is : file_of new (left_name t.out) ≡ Some b.bodies = renames.there ∙ has_file b.bodies p.spare _ fits at.extra in
      left_goes nothing grown owned text (renames.others (new_name t.out) (new_spare t.out) (λ e. left_new t.out (sym e))) tt
      (λ e. false_true (sym e ∙ has_own b.bodies p.spare fits)) (λ e. false_true e) (grown_is b p.saw_out _ behind saw_out is)
      (grows b behind text (held untouched (Some b) is_left behind owned saw_left) is)

  -- OUT.left is as before again
  pub restored : (b : Behind) (bytes : List ℕ) → Renames (spare_name t.out) (left_name t.out) old new → t.behind ≡ Some b → b.before ≡ Some bytes → is_own p.fresh ≡ true
      → GrownIf (Some b) p.saw_out (file_of old (left_name t.out)) → has_bytes bytes p.spare ≡ true → Steps t p old new (record p { spare = nothing; left = undone })
  restored b bytes renames behind before owned stood fits =
      let text : KeepsFile t.out old new = renames.others t.out (out_spare t.out) (out_left t.out) in
      let is : file_of new (left_name t.out) ≡ b.before = renames.there ∙ has_file bytes p.spare _ fits at.extra ∙ sym before in
      left_goes nothing undone owned text (renames.others (new_name t.out) (new_spare t.out) (λ e. left_new t.out (sym e))) tt
      (λ e. false_true (sym e ∙ has_own bytes p.spare fits)) (λ e. false_true e) tt
      (shrinks b behind text (at.seen stood.0) stood.1 is)

  pub taken_away : (b : Behind) → KeepsOthers (left_name t.out) old new → file_of new (left_name t.out) ≡ None → t.behind ≡ Some b → b.before ≡ None → is_own p.fresh ≡ true
      → GrownIf (Some b) p.saw_out (file_of old (left_name t.out)) → Steps t p old new (record p { left = undone })
  taken_away b stay gone behind before owned stood =
      let text : KeepsFile t.out old new = stay t.out (out_left t.out) in
      let extra : KeepsFile (spare_name t.out) old new = stay (spare_name t.out) (λ e. left_spare t.out (sym e)) in
      left_goes p.spare undone owned text (stay (new_name t.out) (λ e. left_new t.out (sym e)))
      (own_stays p.spare (spare_name t.out) old new extra at.extra) (λ e. extra) (λ e. e) tt
      (shrinks b behind text (at.seen stood.0) stood.1 (gone ∙ sym before))

  -- OUT.new gets the name OUT
  pub out_goes : Renames (new_name t.out) t.out old new → p.saw_out ≡ true → is_left_done t.behind p.left ≡ true → has_bytes t.text p.fresh ≡ true → Steps t p old new (with_out p)
  out_goes renames saw_out done fits =
      let owned : is_own p.fresh ≡ true = has_own t.text p.fresh fits in
      let left : KeepsFile (left_name t.out) old new = renames.others (left_name t.out) (left_new t.out) (λ e. out_left t.out (sym e)) in
      let extra : KeepsFile (spare_name t.out) old new = renames.others (spare_name t.out) (λ e. new_spare t.out (sym e)) (λ e. out_spare t.out (sym e)) in
      record {
        changes = record {
          text = λ e. false_true (sym e ∙ owned);
          left = λ e. left;
          lock = λ e there. false_true (sym e ∙ owned);
          extra = λ e there. extra;
          takes_lock = λ e. false_true e;
          takes_extra = λ e. inl e;
        };
        holds = record {
          lock = tt;
          extra = own_stays p.spare (spare_name t.out) old new extra at.extra;
          out_locked = λ e. false_true e;
          left_locked = λ e. false_true e;
          seen = λ e. false_true e;
          stood = λ e. false_true e;
        };
        kept = λ sound. puts t.behind p.left done (at.stood owned) sound left (at.seen saw_out) (renames.there ∙ has_file t.text p.fresh _ fits at.lock);
      }
