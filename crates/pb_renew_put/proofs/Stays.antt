-- What stands in the files in a phase is kept by each deed that may come next.
use Rattle.std.proofs.Common.{◌≡◌, ◌≢◌, ℕ, Bool, true, false, cond, not, ◌&&◌, ◌||◌, List, [], ◌∷◌, ◌++◌, Option, None, Some, IsSome, refl, sym, subst, ap, ◌∙◌, inl, inr}
use Rattle.std.proofs.lemmas.Bool.{and_parts}
use Rattle.std.proofs.lemmas.Option.{same_Some}
use Rattle.pb_io.specs.Files.{File, file_of}
use Rattle.pb_renew_store.specs.Changes.{KeepsFile, KeepsOthers, Renames}
use Rattle.pb_renew_store.specs.Deeds.{Deed, Does, made, met, wrote, spoiled, compared, synced, settled, renamed, removed, same_content}
use Rattle.pb_renew_put.specs.Jobs.{Behind, Task}
use Rattle.pb_renew_put.specs.Names.{is_old_name, is_written, left_name, new_name, spare_name}
use Rattle.pb_renew_put.specs.Phases.{Kept, unkept, keeps, LeftIs, untouched, grown, sure, undone, Own, nothing, has, broken, Phase, before_of, has_before, has_bytes, is_before, is_copy, is_kept, is_left_done, is_own, is_unkept, is_untouched, lost, more, next, on_copy, on_copy_removed, on_differs, on_disk, on_left, on_left_removed, on_made, on_met, on_out, on_own, on_removed, on_renamed, on_seen, on_settled, same_name, then_set, unlocked, with_fresh, with_kept, with_out, with_spare}
use Rattle.pb_renew_put.specs.Puts.{IsLeftOther}
use Rattle.pb_renew_put.proofs.Apart.{IsApart, left_new, left_spare, new_spare, old_apart, out_left, out_new, out_spare, same_is, same_not, same_self, written_apart}
use Rattle.pb_renew_put.proofs.At.{At, BytesHas, Copy, CopyHas, IsOther, LeftHas, OutHas, OwnHas, SpareHas}
use Rattle.pb_renew_put.proofs.Kept.{content_is, content_not, false_true, if_some, none_some}

-- ---- a file of the call's own

abbrev OwnFile : Own → Option (List ℕ) → Option (List ℕ) → Type 0
OwnFile nothing was is = ⊥
OwnFile (has bytes on_disk) was is = (was ≡ None) × (is ≡ Some bytes)
OwnFile broken was is = was ≡ None

-- what a deed makes of such a file
record Alters (change : Own → Option Own) (before after : Option (List ℕ)) : Type 0 where
  never : change nothing ≡ None
  gives : (own new : Own) (was : Option (List ℕ)) → change own ≡ Some new → OwnFile own was before → OwnFile new was after

own_file : (own : Own) (was is : Option (List ℕ)) → is_own own ≡ true → OwnHas own was is → OwnFile own was is
own_file nothing was is own held = false_true own
own_file (has bytes disk) was is own held = held
own_file broken was is own held = held

own_has : (own : Own) (was is : Option (List ℕ)) → OwnFile own was is → OwnHas own was is
own_has nothing was is file = absurd file
own_has (has bytes disk) was is file = file
own_has broken was is file = file

spare_file : (own : Own) (strays : Bool) (was is : Option (List ℕ)) → is_own own ≡ true → SpareHas own strays was is → OwnFile own was is
spare_file nothing strays was is own held = false_true own
spare_file (has bytes disk) strays was is own held = held
spare_file broken strays was is own held = held

spare_has : (own : Own) (strays : Bool) (was is : Option (List ℕ)) → OwnFile own was is → SpareHas own strays was is
spare_has nothing strays was is file = absurd file
spare_has (has bytes disk) strays was is file = file
spare_has broken strays was is file = file

copy_file : (own : Own) (was is : Option (List ℕ)) → is_own own ≡ true → was ≡ None → BytesHas own is → OwnFile own was is
copy_file nothing was is own free held = false_true own
copy_file (has bytes disk) was is own free held = (free, held)
copy_file broken was is own free held = free

copy_has : (own : Own) (was is : Option (List ℕ)) → OwnFile own was is → BytesHas own is
copy_has nothing was is file = absurd file
copy_has (has bytes disk) was is file = file.1
copy_has broken was is file = tt

own_free : (own : Own) (was is : Option (List ℕ)) → OwnFile own was is → was ≡ None
own_free nothing was is file = absurd file
own_free (has bytes disk) was is file = file.0
own_free broken was is file = file

-- nothing comes of nothing
changed_own : (change : Own → Option Own) (own new : Own) → change nothing ≡ None → change own ≡ Some new → is_own own ≡ true
changed_own change nothing new never e = none_some new (sym never ∙ e)
changed_own change (has bytes disk) new never e = refl
changed_own change broken new never e = refl

set_some : (set : Own → Phase) (own : Option Own) (q : Phase) → then_set set own ≡ Some q → (new : Own) × (own ≡ Some new) × (set new ≡ q)
set_some set None q e = none_some q e
set_some set (Some new) q e = (new, refl, same_Some _ _ e)

wrote_so : (bytes : List ℕ) (before after : Option (List ℕ)) → ((had : List ℕ) → before ≡ Some had → after ≡ Some (had ++ bytes)) → Alters (more bytes) before after
wrote_so bytes before after grows = record { never = refl; gives = by_own } where
  by_own : (own new : Own) (was : Option (List ℕ)) → more bytes own ≡ Some new → OwnFile own was before → OwnFile new was after
  by_own nothing new was e file = absurd file
  by_own (has had disk) new was e file = subst (λ x. OwnFile x was after) (same_Some _ _ e) (file.0, grows had file.1)
  by_own broken new was e file = subst (λ x. OwnFile x was after) (same_Some _ _ e) file

spoiled_so : (before after : Option (List ℕ)) → Alters lost before after
spoiled_so before after = record { never = refl; gives = by_own } where
  by_own : (own new : Own) (was : Option (List ℕ)) → lost own ≡ Some new → OwnFile own was before → OwnFile new was after
  by_own nothing new was e file = absurd file
  by_own (has had disk) new was e file = subst (λ x. OwnFile x was after) (same_Some _ _ e) file.0
  by_own broken new was e file = subst (λ x. OwnFile x was after) (same_Some _ _ e) file

synced_so : (before : Option (List ℕ)) → Alters on_disk before before
synced_so before = record { never = refl; gives = by_own } where
  by_own : (own new : Own) (was : Option (List ℕ)) → on_disk own ≡ Some new → OwnFile own was before → OwnFile new was before
  by_own nothing new was e file = absurd file
  by_own (has had disk) new was e file = subst (λ x. OwnFile x was before) (same_Some _ _ e) file
  by_own broken new was e file = subst (λ x. OwnFile x was before) (same_Some _ _ e) file

module _ (t : Task) (apart : is_written t.out t.file ≡ false) (old : List File) where
  -- ---- what a deed leaves alone

  out_stays : (put : Bool) (f g : List File) → KeepsFile t.out f g → OutHas put t (file_of old t.out) (file_of f t.out) → OutHas put t (file_of old t.out) (file_of g t.out)
  out_stays put f g stay held = subst (λ v. OutHas put t (file_of old t.out) v) (sym stay) held

  left_stays : (left : LeftIs) (f g : List File) → KeepsFile (left_name t.out) f g
      → LeftHas left t.behind (file_of old (spare_name t.out)) (file_of old (left_name t.out)) (file_of f (left_name t.out)) → LeftHas left t.behind (file_of old (spare_name t.out)) (file_of old (left_name t.out)) (file_of g (left_name t.out))
  left_stays left f g stay held = subst (λ v. LeftHas left t.behind (file_of old (spare_name t.out)) (file_of old (left_name t.out)) v) (sym stay) held

  lock_stays : (own : Own) (f g : List File) → KeepsFile (new_name t.out) f g → OwnHas own (file_of old (new_name t.out)) (file_of f (new_name t.out)) → OwnHas own (file_of old (new_name t.out)) (file_of g (new_name t.out))
  lock_stays own f g stay held = subst (λ v. OwnHas own (file_of old (new_name t.out)) v) (sym stay) held

  extra_stays : (own : Own) (strays : Bool) (f g : List File) → KeepsFile (spare_name t.out) f g
      → SpareHas own strays (file_of old (spare_name t.out)) (file_of f (spare_name t.out)) → SpareHas own strays (file_of old (spare_name t.out)) (file_of g (spare_name t.out))
  extra_stays own strays f g stay held = subst (λ v. SpareHas own strays (file_of old (spare_name t.out)) v) (sym stay) held

  copy_stays : (kept : Kept) (f g : List File) → ((name : List ℕ) → IsApart t.out name → KeepsFile name f g) → CopyHas kept t old f → CopyHas kept t old g
  copy_stays unkept f g stay held = tt
  copy_stays (keeps name own) f g stay held = record {
    old_name = held.old_name;
    keeps_old = held.keeps_old;
    file = held.file;
    free = held.free;
    bytes = subst (λ v. BytesHas own v) (sym (stay name (old_apart t.out name held.old_name))) held.bytes;
  }

  abbrev Others : Kept → List File → Type 0
  Others kept f = (other : List ℕ) → is_written t.out other ≡ false → is_copy kept other ≡ false → KeepsFile other old f

  others_stay : (kept : Kept) (f g : List File) → ((name : List ℕ) → IsApart t.out name → KeepsFile name f g) → Others kept f → Others kept g
  others_stay kept f g stay held other unwritten uncopied = stay other (written_apart t.out other unwritten) ∙ held other unwritten uncopied

  -- ---- what is so in each phase

  not_put : (p : Phase) (f : List File) → At t old p f → is_own p.fresh ≡ true → p.is_put ≡ false
  not_put p f at locked = by_test p.is_put refl where
    by_test : (put : Bool) → p.is_put ≡ put → put ≡ false
    by_test true e = let is_none : p.fresh ≡ nothing = (at.put e).fresh_is in false_true (sym (ap is_own is_none) ∙ locked)
    by_test false e = refl

  out_was : (p : Phase) (f : List File) → At t old p f → is_own p.fresh ≡ true → file_of f t.out ≡ file_of old t.out
  out_was p f at locked = subst (λ put. OutHas put t (file_of old t.out) (file_of f t.out)) (not_put p f at locked) at.stands.out

  uncopied_file : (kept : Kept) (f : List File) → CopyHas kept t old f → is_copy kept t.file ≡ false
  uncopied_file unkept f held = refl
  uncopied_file (keeps name own) f held = same_not _ _ (λ e. held.file (sym e))

  file_was : (p : Phase) (f : List File) → At t old p f → file_of f t.file ≡ file_of old t.file
  file_was p f at = at.stands.others t.file apart (uncopied_file p.kept f at.stands.copy)

  -- ---- a deed on one file

  on_new : (p : Phase) (own : Own) (f g : List File) → At t old p f → p.is_put ≡ false → KeepsOthers (new_name t.out) f g → OwnHas own (file_of old (new_name t.out)) (file_of g (new_name t.out)) → At t old (with_fresh p own) g
  on_new p own f g at unput stay now = record {
    file = at.file;
    out = at.out;
    left = at.left;
    other = at.other;
    there = at.there;
    put = λ e. false_true (sym unput ∙ e);
    stands = record {
      out = out_stays p.is_put f g (stay t.out (out_new t.out)) at.stands.out;
      left = left_stays p.left f g (stay (left_name t.out) (left_new t.out)) at.stands.left;
      lock = now;
      extra = extra_stays p.spare p.strays f g (stay (spare_name t.out) (λ e. new_spare t.out (sym e))) at.stands.extra;
      copy = copy_stays p.kept f g (λ name far. stay name far.from_new) at.stands.copy;
      others = others_stay p.kept f g (λ name far. stay name far.from_new) at.stands.others;
    };
  }

  on_spare : (p : Phase) (own : Own) (f g : List File) → At t old p f → KeepsOthers (spare_name t.out) f g → SpareHas own p.strays (file_of old (spare_name t.out)) (file_of g (spare_name t.out)) → At t old (with_spare p own) g
  on_spare p own f g at stay now = record {
    file = at.file;
    out = at.out;
    left = at.left;
    other = at.other;
    there = at.there;
    put = at.put;
    stands = record {
      out = out_stays p.is_put f g (stay t.out (out_spare t.out)) at.stands.out;
      left = left_stays p.left f g (stay (left_name t.out) (left_spare t.out)) at.stands.left;
      lock = lock_stays p.fresh f g (stay (new_name t.out) (new_spare t.out)) at.stands.lock;
      extra = now;
      copy = copy_stays p.kept f g (λ name far. stay name far.from_spare) at.stands.copy;
      others = others_stay p.kept f g (λ name far. stay name far.from_spare) at.stands.others;
    };
  }

  on_old : (p : Phase) (kept : Kept) (name : List ℕ) (f g : List File) → At t old p f → p.is_put ≡ false → is_old_name t.out name ≡ true → KeepsOthers name f g → CopyHas kept t old g → Others kept g → At t old (with_kept p kept) g
  on_old p kept name f g at unput is_old stay now rest =
      let far = old_apart t.out name is_old in
      record {
        file = at.file;
        out = at.out;
        left = at.left;
        other = at.other;
        there = at.there;
        put = λ e. false_true (sym unput ∙ e);
        stands = record {
          out = out_stays p.is_put f g (stay t.out (λ e. far.from_out (sym e))) at.stands.out;
          left = left_stays p.left f g (stay (left_name t.out) (λ e. far.from_left (sym e))) at.stands.left;
          lock = lock_stays p.fresh f g (stay (new_name t.out) (λ e. far.from_new (sym e))) at.stands.lock;
          extra = extra_stays p.spare p.strays f g (stay (spare_name t.out) (λ e. far.from_spare (sym e))) at.stands.extra;
          copy = now;
          others = rest;
        };
      }

  -- others than a copy
  other_than : (kept : Kept) (name : List ℕ) (f g : List File) → KeepsOthers name f g → is_copy kept name ≡ true → Others kept f → Others kept g
  other_than kept name f g stay copied held other unwritten uncopied =
      stay other (λ e. false_true (sym uncopied ∙ subst (λ n. is_copy kept n ≡ true) (sym e) copied)) ∙ held other unwritten uncopied

  -- ---- a deed on a file of the call's own

  alters_copy : (p q : Phase) (kept : Kept) (name : List ℕ) (change : Own → Option Own) (f g : List File) → p.kept ≡ kept → At t old p f → is_old_name t.out name ≡ true
      → KeepsOthers name f g → Alters change (file_of f name) (file_of g name) → on_copy p kept name change ≡ Some q → At t old q g
  alters_copy p q unkept name change f g is at is_old stay alters e = none_some q e
  alters_copy p q (keeps other own) name change f g is at is_old stay alters e =
      if_some (same_name name other && is_own p.fresh) _ _ q (λ test goes. step test goes) (λ test goes. none_some q goes) e where
        step : (same_name name other && is_own p.fresh) ≡ true → then_set (λ new. with_kept p (keeps other new)) (change own) ≡ Some q → At t old q g
        step test goes =
            let parts = and_parts _ _ test in
            let named : name ≡ other = same_is _ _ parts.0 in
            let set = set_some _ (change own) q goes in
            let held : Copy t other own old f = subst (λ k. CopyHas k t old f) is at.stands.copy in
            let file : OwnFile own (file_of old name) (file_of f name) = copy_file own _ _ (changed_own change own set.0 alters.never set.1) (subst (λ n. file_of old n ≡ None) (sym named) held.free) (subst (λ n. BytesHas own (file_of f n)) (sym named) held.bytes) in
            let now : OwnFile set.0 (file_of old name) (file_of g name) = alters.gives own set.0 _ set.1 file in
            let copy : Copy t other set.0 old g = record { old_name = held.old_name; keeps_old = held.keeps_old; file = held.file; free = held.free; bytes = subst (λ n. BytesHas set.0 (file_of g n)) named (copy_has set.0 _ _ now) } in
            let rest : Others (keeps other own) f = subst (λ k. Others k f) is at.stands.others in
            subst (λ x. At t old x g) set.2
            (on_old p (keeps other set.0) name f g at (not_put p f at parts.1) is_old stay copy (other_than (keeps other set.0) name f g stay parts.0 rest))

  own_step : (p q : Phase) (name : List ℕ) (change : Own → Option Own) (f g : List File) → At t old p f → KeepsOthers name f g → Alters change (file_of f name) (file_of g name) → on_own t p name change ≡ Some q → At t old q g
  own_step p q name change f g at stay alters e =
      if_some (same_name name (new_name t.out)) _ _ q (λ test goes. new_so (same_is _ _ test) goes)
      (λ test goes. if_some (same_name name (spare_name t.out)) _ _ q (λ test2 goes2. spare_so (same_is _ _ test2) goes2)
      (λ test2 goes2. if_some (is_old_name t.out name) _ _ q (λ is_old goes3. alters_copy p q p.kept name change f g refl at is_old stay alters goes3) (λ is_old goes3. none_some q goes3) goes2) goes) e where
        new_so : name ≡ new_name t.out → then_set (with_fresh p) (change p.fresh) ≡ Some q → At t old q g
        new_so named goes =
            let set = set_some _ (change p.fresh) q goes in
            let own : is_own p.fresh ≡ true = changed_own change p.fresh set.0 alters.never set.1 in
            let file : OwnFile p.fresh (file_of old (new_name t.out)) (file_of f name) = subst (λ n. OwnFile p.fresh (file_of old (new_name t.out)) (file_of f n)) (sym named) (own_file p.fresh _ _ own at.stands.lock) in
            let now : OwnFile set.0 (file_of old (new_name t.out)) (file_of g name) = alters.gives p.fresh set.0 _ set.1 file in
            subst (λ x. At t old x g) set.2
            (on_new p set.0 f g at (not_put p f at own) (subst (λ n. KeepsOthers n f g) named stay) (own_has set.0 _ _ (subst (λ n. OwnFile set.0 (file_of old (new_name t.out)) (file_of g n)) named now)))

        spare_so : name ≡ spare_name t.out → then_set (with_spare p) (change p.spare) ≡ Some q → At t old q g
        spare_so named goes =
            let set = set_some _ (change p.spare) q goes in
            let own : is_own p.spare ≡ true = changed_own change p.spare set.0 alters.never set.1 in
            let file : OwnFile p.spare (file_of old (spare_name t.out)) (file_of f name) = subst (λ n. OwnFile p.spare (file_of old (spare_name t.out)) (file_of f n)) (sym named) (spare_file p.spare p.strays _ _ own at.stands.extra) in
            let now : OwnFile set.0 (file_of old (spare_name t.out)) (file_of g name) = alters.gives p.spare set.0 _ set.1 file in
            subst (λ x. At t old x g) set.2
            (on_spare p set.0 f g at (subst (λ n. KeepsOthers n f g) named stay) (spare_has set.0 p.strays _ _ (subst (λ n. OwnFile set.0 (file_of old (spare_name t.out)) (file_of g n)) named now)))

  -- ---- making

  none_own : (own : Own) → is_own own ≡ false → own ≡ nothing
  none_own nothing e = refl
  none_own (has bytes disk) e = false_true (sym e)
  none_own broken e = false_true (sym e)

  either_not : (a b : Bool) → (a || b) ≡ false → (a ≡ false) × (b ≡ false)
  either_not true b e = false_true (sym e)
  either_not false b e = (refl, e)

  not_so : (a : Bool) → not a ≡ true → a ≡ false
  not_so true e = false_true e
  not_so false e = refl

  spare_free : (strays : Bool) (was is : Option (List ℕ)) → SpareHas nothing strays was is → is ≡ None → was ≡ None
  spare_free true was is held free = held
  spare_free false was is held free = sym held ∙ free

  -- an old name is no written one
  pub old_unwritten : (name : List ℕ) → is_old_name t.out name ≡ true → is_written t.out name ≡ false
  old_unwritten name is_old =
      let far = old_apart t.out name is_old in
      rw (same_not _ _ far.from_out, same_not _ _ far.from_left, same_not _ _ far.from_new, same_not _ _ far.from_spare) refl

  -- an old name that isn't the copy's stands as it stood
  old_was : (p : Phase) (name : List ℕ) (f : List File) → At t old p f → is_old_name t.out name ≡ true → is_copy p.kept name ≡ false → file_of f name ≡ file_of old name
  old_was p name f at is_old uncopied = at.stands.others name (old_unwritten name is_old) uncopied

  unkept_copy : (kept : Kept) (name : List ℕ) → is_unkept kept ≡ true → is_copy kept name ≡ false
  unkept_copy unkept name e = refl
  unkept_copy (keeps other own) name e = false_true e

  made_step : (p q : Phase) (name : List ℕ) (f g : List File) → At t old p f → file_of f name ≡ None → file_of g name ≡ Some [] → KeepsOthers name f g → on_made t p name ≡ Some q → At t old q g
  made_step p q name f g at free empty stay e =
      if_some (same_name name (new_name t.out)) _ _ q (λ test goes. if_some (is_own p.fresh || p.is_put || not (is_untouched p.left)) _ _ q (λ bar none. none_some q none) (λ bar some. new_so (same_is _ _ test) bar (same_Some _ _ some)) goes)
      (λ test goes. if_some (same_name name (spare_name t.out)) _ _ q (λ test2 goes2. if_some (is_own p.fresh && not (is_own p.spare)) _ _ q (λ may some. spare_so (same_is _ _ test2) may (same_Some _ _ some)) (λ may none. none_some q none) goes2)
      (λ test2 goes2. if_some (is_old_name t.out name) _ _ q
      (λ is_old goes3. if_some (t.keeps_old && is_own p.fresh && p.saw_file && is_unkept p.kept) _ _ q (λ may some. old_so is_old may (same_Some _ _ some)) (λ may none. none_some q none) goes3) (λ is_old goes3. none_some q goes3) goes2) goes) e where
        new_so : name ≡ new_name t.out → (is_own p.fresh || p.is_put || not (is_untouched p.left)) ≡ false → with_fresh p (has [] false) ≡ q → At t old q g
        new_so named bar is =
            let two = either_not (is_own p.fresh || p.is_put) (not (is_untouched p.left)) bar in
            let one = either_not (is_own p.fresh) p.is_put two.0 in
            let held : OwnHas nothing (file_of old (new_name t.out)) (file_of f (new_name t.out)) = subst (λ o. OwnHas o (file_of old (new_name t.out)) (file_of f (new_name t.out))) (none_own p.fresh one.0) at.stands.lock in
            let was : file_of old (new_name t.out) ≡ None = sym held ∙ subst (λ n. file_of f n ≡ None) named free in
            subst (λ x. At t old x g) is (on_new p (has [] false) f g at one.1 (subst (λ n. KeepsOthers n f g) named stay) (was, subst (λ n. file_of g n ≡ Some []) named empty))

        spare_so : name ≡ spare_name t.out → (is_own p.fresh && not (is_own p.spare)) ≡ true → with_spare p (has [] false) ≡ q → At t old q g
        spare_so named may is =
            let parts = and_parts (is_own p.fresh) (not (is_own p.spare)) may in
            let held : SpareHas nothing p.strays (file_of old (spare_name t.out)) (file_of f (spare_name t.out)) =
            subst (λ o. SpareHas o p.strays (file_of old (spare_name t.out)) (file_of f (spare_name t.out))) (none_own p.spare (not_so _ parts.1)) at.stands.extra in
            let was : file_of old (spare_name t.out) ≡ None = spare_free p.strays _ _ held (subst (λ n. file_of f n ≡ None) named free) in
            subst (λ x. At t old x g) is (on_spare p (has [] false) f g at (subst (λ n. KeepsOthers n f g) named stay) (was, subst (λ n. file_of g n ≡ Some []) named empty))

        old_so : is_old_name t.out name ≡ true → (t.keeps_old && is_own p.fresh && p.saw_file && is_unkept p.kept) ≡ true → with_kept p (keeps name (has [] false)) ≡ q → At t old q g
        old_so is_old may is =
            let three = and_parts (t.keeps_old && is_own p.fresh && p.saw_file) (is_unkept p.kept) may in
            let two = and_parts (t.keeps_old && is_own p.fresh) p.saw_file three.0 in
            let one = and_parts t.keeps_old (is_own p.fresh) two.0 in
            let was : file_of old name ≡ None = sym (old_was p name f at is_old (unkept_copy p.kept name three.1)) ∙ free in
            let far : name ≢ t.file = λ same. none_is (sym free ∙ subst (λ n. file_of f n ≡ Some t.source) (sym same) (file_was p f at ∙ at.file two.1)) in
            subst (λ x. At t old x g) is
            (on_old p (keeps name (has [] false)) name f g at (not_put p f at one.1) is_old stay (record { old_name = is_old; keeps_old = one.0; file = far; free = was; bytes = empty })
            (other_than (keeps name (has [] false)) name f g stay (same_self name) (λ other unwritten uncopied. at.stands.others other unwritten (unkept_copy p.kept other three.1)))) where
              none_is : None ≡ Some t.source → ⊥
              none_is e = cc

  -- ---- meeting

  there_too : (p : Phase) (name : List ℕ) (f : List File) → At t old p f → IsSome (file_of f name) → file_of f name ≡ file_of old name → At t old (record p { taken = name ∷ p.taken }) f
  there_too p name f at some same = record {
    file = at.file;
    out = at.out;
    left = at.left;
    other = at.other;
    there = (subst (λ v. IsSome v) same some, at.there);
    put = at.put;
    stands = record { out = at.stands.out; left = at.stands.left; lock = at.stands.lock; extra = at.stands.extra; copy = at.stands.copy; others = at.stands.others };
  }

  chosen_at : (test : Bool) (x y : Phase) (f : List File) → (test ≡ true → At t old x f) → (test ≡ false → At t old y f) → At t old (cond test x y) f
  chosen_at true x y f a b = a refl
  chosen_at false x y f a b = b refl

  met_step : (p : Phase) (name : List ℕ) (f : List File) → At t old p f → IsSome (file_of f name) → At t old (on_met t p name) f
  met_step p name f at some =
      chosen_at (same_name name (new_name t.out)) _ _ f (λ test. chosen_at (is_own p.fresh) _ _ f (λ own. at) (λ own. there_too p name f at some (new_so (same_is _ _ test) own)))
      (λ test. chosen_at (same_name name (spare_name t.out)) _ _ f (λ test2. chosen_at (is_own p.spare || p.strays) _ _ f (λ own. at) (λ own. there_too p name f at some (spare_so (same_is _ _ test2) own)))
      (λ test2. chosen_at (is_old_name t.out name) _ _ f (λ is_old. chosen_at (is_copy p.kept name) _ _ f (λ copied. at) (λ uncopied. there_too p name f at some (old_was p name f at is_old uncopied))) (λ is_old. at))) where
        new_so : name ≡ new_name t.out → is_own p.fresh ≡ false → file_of f name ≡ file_of old name
        new_so named own =
            let held : OwnHas nothing (file_of old (new_name t.out)) (file_of f (new_name t.out)) = subst (λ o. OwnHas o (file_of old (new_name t.out)) (file_of f (new_name t.out))) (none_own p.fresh own) at.stands.lock in
            subst (λ n. file_of f n ≡ file_of old n) (sym named) held

        spare_so : name ≡ spare_name t.out → (is_own p.spare || p.strays) ≡ false → file_of f name ≡ file_of old name
        spare_so named own =
            let parts = either_not (is_own p.spare) p.strays own in
            let held : SpareHas nothing p.strays (file_of old (spare_name t.out)) (file_of f (spare_name t.out)) =
            subst (λ o. SpareHas o p.strays (file_of old (spare_name t.out)) (file_of f (spare_name t.out))) (none_own p.spare parts.0) at.stands.extra in
            let kept : SpareHas nothing false (file_of old (spare_name t.out)) (file_of f (spare_name t.out)) = subst (λ s. SpareHas nothing s (file_of old (spare_name t.out)) (file_of f (spare_name t.out))) parts.1 held in
            subst (λ n. file_of f n ≡ file_of old n) (sym named) kept

  -- ---- looking

  left_seen : (left : LeftIs) (behind : Option Behind) (spare was is : Option (List ℕ)) → LeftHas left behind spare was is → is ≡ before_of behind → was ≡ before_of behind
  left_seen untouched behind spare was is held same = sym held ∙ same
  left_seen undone behind spare was is held same = sym held ∙ same
  left_seen grown None spare was is held same = absurd held
  left_seen grown (Some b) spare was is held same = held.before
  left_seen sure None spare was is held same = absurd held
  left_seen sure (Some b) spare was is held same = held.before

  seen_step : (p : Phase) (name : List ℕ) (bytes : Option (List ℕ)) (f : List File) → At t old p f → is_own p.fresh ≡ true → file_of f name ≡ bytes → At t old (on_seen t p name bytes) f
  seen_step p name bytes f at locked same =
      chosen_at (same_name name t.file && same_content bytes (Some t.source)) _ _ f (λ test. file_so (and_parts _ _ test))
      (λ test. chosen_at (same_name name t.out && same_content bytes t.old) _ _ f (λ test2. out_so (and_parts _ _ test2))
      (λ test2. chosen_at (same_name name (left_name t.out) && same_content bytes (before_of t.behind)) _ _ f (λ test3. left_so (and_parts _ _ test3)) (λ test3. at))) where
        file_so : (same_name name t.file ≡ true) × (same_content bytes (Some t.source) ≡ true) → At t old (record p { saw_file = true }) f
        file_so parts =
            let has_it : file_of f t.file ≡ Some t.source = subst (λ n. file_of f n ≡ Some t.source) (same_is _ _ parts.0) (same ∙ content_is _ _ parts.1) in
            record { file = λ e. sym (file_was p f at) ∙ has_it; out = at.out; left = at.left; other = at.other; there = at.there; put = at.put; stands = at.stands }

        out_so : (same_name name t.out ≡ true) × (same_content bytes t.old ≡ true) → At t old (record p { saw_out = true }) f
        out_so parts =
            let has_it : file_of f t.out ≡ t.old = subst (λ n. file_of f n ≡ t.old) (same_is _ _ parts.0) (same ∙ content_is _ _ parts.1) in
            record { file = at.file; out = λ e. sym (out_was p f at locked) ∙ has_it; left = at.left; other = at.other; there = at.there; put = at.put; stands = at.stands }

        left_so : (same_name name (left_name t.out) ≡ true) × (same_content bytes (before_of t.behind) ≡ true) → At t old (record p { saw_left = true }) f
        left_so parts =
            let has_it : file_of f (left_name t.out) ≡ before_of t.behind = subst (λ n. file_of f n ≡ before_of t.behind) (same_is _ _ parts.0) (same ∙ content_is _ _ parts.1) in
            record { file = at.file; out = at.out; left = λ e. left_seen p.left t.behind _ _ _ at.stands.left has_it; other = at.other; there = at.there; put = at.put; stands = at.stands }

  differing : (p : Phase) (f : List File) → At t old p f → IsOther t old → At t old (record p { differs = true }) f
  differing p f at other = record { file = at.file; out = at.out; left = at.left; other = λ e. other; there = at.there; put = at.put; stands = at.stands }

  left_was : (left : LeftIs) (behind : Option Behind) (spare was is : Option (List ℕ)) → is_untouched left ≡ true → LeftHas left behind spare was is → is ≡ was
  left_was untouched behind spare was is e held = held
  left_was grown behind spare was is e held = false_true e
  left_was sure behind spare was is e held = false_true e
  left_was undone behind spare was is e held = false_true e

  left_other : (behind : Option Behind) (bytes : Option (List ℕ)) → is_before bytes behind ≡ true → file_of old (left_name t.out) ≢ bytes → IsLeftOther behind t.out old
  left_other None bytes e other = false_true e
  left_other (Some b) bytes e other = λ same. other (same ∙ sym (content_is _ _ e))

  differs_step : (p : Phase) (name : List ℕ) (bytes : Option (List ℕ)) (f : List File) → At t old p f → is_own p.fresh ≡ true → file_of f name ≢ bytes → At t old (on_differs t p name bytes) f
  differs_step p name bytes f at locked other =
      chosen_at (same_name name t.file && same_content bytes (Some t.source)) _ _ f (λ test. file_so (and_parts _ _ test))
      (λ test. chosen_at (same_name name t.out && same_content bytes t.old) _ _ f (λ test2. out_so (and_parts _ _ test2))
      (λ test2. chosen_at (same_name name (left_name t.out) && is_untouched p.left && is_before bytes t.behind) _ _ f (λ test3. left_so (and_parts _ _ test3)) (λ test3. at))) where
        unlike : (n : List ℕ) (was told : Option (List ℕ)) → name ≡ n → bytes ≡ told → file_of f n ≡ was → was ≢ told
        unlike n was told named same is e = other (subst (λ m. file_of f m ≡ bytes) (sym named) (is ∙ e ∙ sym same))

        file_so : (same_name name t.file ≡ true) × (same_content bytes (Some t.source) ≡ true) → At t old (record p { differs = true }) f
        file_so parts = differing p f at (inl (unlike t.file _ _ (same_is _ _ parts.0) (content_is _ _ parts.1) (file_was p f at)))

        out_so : (same_name name t.out ≡ true) × (same_content bytes t.old ≡ true) → At t old (record p { differs = true }) f
        out_so parts = differing p f at (inr (inl (unlike t.out _ _ (same_is _ _ parts.0) (content_is _ _ parts.1) (out_was p f at locked))))

        left_so : ((same_name name (left_name t.out) && is_untouched p.left) ≡ true) × (is_before bytes t.behind ≡ true) → At t old (record p { differs = true }) f
        left_so parts =
            let more_parts = and_parts _ _ parts.0 in
            let was : file_of f (left_name t.out) ≡ file_of old (left_name t.out) = left_was p.left t.behind _ _ _ more_parts.1 at.stands.left in
            differing p f at (inr (inr (left_other t.behind bytes parts.1 (unlike (left_name t.out) _ bytes (same_is _ _ more_parts.0) refl was))))

  compared_step : (p : Phase) (name : List ℕ) (bytes : Option (List ℕ)) (same : Bool) (f : List File) → At t old p f → same ≡ same_content (file_of f name) bytes
      → At t old (cond (is_own p.fresh) (cond same (on_seen t p name bytes) (on_differs t p name bytes)) p) f
  compared_step p name bytes same f at is =
      chosen_at (is_own p.fresh) _ _ f (λ locked. chosen_at same _ _ f (λ e. seen_step p name bytes f at locked (content_is _ _ (sym is ∙ e))) (λ e. differs_step p name bytes f at locked (content_not _ _ (sym is ∙ e)))) (λ locked. at)

  -- ---- settling

  settled_at : (p : Phase) (left : LeftIs) (f : List File) → p.left ≡ left → At t old p f → At t old (on_settled p left) f
  settled_at p untouched f is at = at
  settled_at p sure f is at = at
  settled_at p undone f is at = at
  settled_at p grown f is at = record {
    file = at.file;
    out = at.out;
    left = at.left;
    other = at.other;
    there = at.there;
    put = λ e. let x = at.put e in record { fresh_is = x.fresh_is; source = x.source; was = x.was; free = x.free; done = done_too t.behind (subst (λ l. is_left_done t.behind l ≡ true) is x.done); copied = x.copied };
    stands = record {
      out = at.stands.out;
      left = subst (λ l. LeftHas l t.behind (file_of old (spare_name t.out)) (file_of old (left_name t.out)) (file_of f (left_name t.out))) is at.stands.left;
      lock = at.stands.lock;
      extra = at.stands.extra;
      copy = at.stands.copy;
      others = at.stands.others;
    };
  } where
    done_too : (behind : Option Behind) → is_left_done behind grown ≡ true → is_left_done behind sure ≡ true
    done_too None e = e
    done_too (Some b) e = refl

  -- ---- taking away

  unlocked_spare : (spare : Own) (strays : Bool) (was is : Option (List ℕ)) → SpareHas spare strays was is → SpareHas nothing (strays || is_own spare) was is
  unlocked_spare nothing true was is held = held
  unlocked_spare nothing false was is held = held
  unlocked_spare (has bytes disk) true was is held = held.0
  unlocked_spare (has bytes disk) false was is held = held.0
  unlocked_spare broken true was is held = held
  unlocked_spare broken false was is held = held

  gone_spare : (strays : Bool) (was is : Option (List ℕ)) → was ≡ None → is ≡ None → SpareHas nothing strays was is
  gone_spare true was is free gone = free
  gone_spare false was is free gone = gone ∙ sym free

  left_gone : (p q : Phase) (behind : Option Behind) (left : LeftIs) (spare was is : Option (List ℕ)) → LeftHas left behind spare was is → on_left_removed p behind left ≡ Some q
      → (is_own p.fresh ≡ true) × (record p { left = undone } ≡ q) × (was ≡ None)
  left_gone p q None left spare was is held e = none_some q e
  left_gone p q (Some b) untouched spare was is held e = none_some q e
  left_gone p q (Some b) undone spare was is held e = none_some q e
  left_gone p q (Some b) grown spare was is held e =
      if_some (is_own p.fresh && same_content b.before None) _ _ q (λ may some. let parts = and_parts _ _ may in (parts.0, same_Some _ _ some, held.before ∙ content_is _ _ parts.1)) (λ may none. none_some q none) e
  left_gone p q (Some b) sure spare was is held e =
      if_some (is_own p.fresh && same_content b.before None) _ _ q (λ may some. let parts = and_parts _ _ may in (parts.0, same_Some _ _ some, held.before ∙ content_is _ _ parts.1)) (λ may none. none_some q none) e

  on_left_file : (p : Phase) (left : LeftIs) (f g : List File) → At t old p f → p.is_put ≡ false → KeepsOthers (left_name t.out) f g
      → LeftHas left t.behind (file_of old (spare_name t.out)) (file_of old (left_name t.out)) (file_of g (left_name t.out)) → At t old (record p { left = left }) g
  on_left_file p left f g at unput stay now = record {
    file = at.file;
    out = at.out;
    left = at.left;
    other = at.other;
    there = at.there;
    put = λ e. false_true (sym unput ∙ e);
    stands = record {
      out = out_stays p.is_put f g (stay t.out (out_left t.out)) at.stands.out;
      left = now;
      lock = lock_stays p.fresh f g (stay (new_name t.out) (λ e. left_new t.out (sym e))) at.stands.lock;
      extra = extra_stays p.spare p.strays f g (stay (spare_name t.out) (λ e. left_spare t.out (sym e))) at.stands.extra;
      copy = copy_stays p.kept f g (λ name far. stay name far.from_left) at.stands.copy;
      others = others_stay p.kept f g (λ name far. stay name far.from_left) at.stands.others;
    };
  }

  copy_gone : (p q : Phase) (kept : Kept) (name : List ℕ) (f g : List File) → p.kept ≡ kept → At t old p f → is_old_name t.out name ≡ true → file_of g name ≡ None → KeepsOthers name f g
      → on_copy_removed p kept name ≡ Some q → At t old q g
  copy_gone p q unkept name f g is at is_old gone stay e = none_some q e
  copy_gone p q (keeps other own) name f g is at is_old gone stay e =
      if_some (same_name name other && is_own p.fresh) _ _ q (λ test some. step (and_parts _ _ test) (same_Some _ _ some)) (λ test none. none_some q none) e where
        step : (same_name name other ≡ true) × (is_own p.fresh ≡ true) → with_kept p unkept ≡ q → At t old q g
        step parts so =
            let held : Copy t other own old f = subst (λ k. CopyHas k t old f) is at.stands.copy in
            let was : file_of old name ≡ None = subst (λ n. file_of old n ≡ None) (sym (same_is _ _ parts.0)) held.free in
            let rest : Others (keeps other own) f = subst (λ k. Others k f) is at.stands.others in
            subst (λ x. At t old x g) so (on_old p unkept name f g at (not_put p f at parts.1) is_old stay tt (all_others was rest)) where
              all_others : file_of old name ≡ None → Others (keeps other own) f → Others unkept g
              all_others was rest n unwritten uncopied = by_test (same_name n name) refl where
                by_test : (same : Bool) → same_name n name ≡ same → KeepsFile n old g
                by_test true e = subst (λ m. KeepsFile m old g) (sym (same_is _ _ e)) (gone ∙ sym was)
                by_test false e =
                    let ne : n ≢ name = λ eq. false_true (sym e ∙ subst (λ m. same_name m name ≡ true) (sym eq) (same_self name)) in
                    stay n ne ∙ rest n unwritten (same_not _ _ (λ eq. ne (eq ∙ sym (same_is _ _ parts.0))))

  removed_step : (p q : Phase) (name : List ℕ) (f g : List File) → At t old p f → file_of g name ≡ None → KeepsOthers name f g → on_removed t p name ≡ Some q → At t old q g
  removed_step p q name f g at gone stay e =
      if_some (same_name name (new_name t.out)) _ _ q (λ test goes. if_some (is_own p.fresh) _ _ q (λ own some. new_so (same_is _ _ test) own (same_Some _ _ some)) (λ own none. none_some q none) goes)
      (λ test goes. if_some (same_name name (spare_name t.out)) _ _ q (λ test2 goes2. if_some (is_own p.fresh && is_own p.spare) _ _ q (λ may some. spare_so (same_is _ _ test2) may (same_Some _ _ some)) (λ may none. none_some q none) goes2)
      (λ test2 goes2. if_some (same_name name (left_name t.out)) _ _ q (λ test3 goes3. left_so (same_is _ _ test3) goes3)
      (λ test3 goes3. if_some (is_old_name t.out name) _ _ q (λ is_old goes4. copy_gone p q p.kept name f g refl at is_old gone stay goes4) (λ is_old goes4. none_some q goes4) goes3) goes2) goes) e where
        new_so : name ≡ new_name t.out → is_own p.fresh ≡ true → unlocked p ≡ q → At t old q g
        new_so named own is =
            let keep : KeepsOthers (new_name t.out) f g = subst (λ n. KeepsOthers n f g) named stay in
            let free : file_of old (new_name t.out) ≡ None = own_free p.fresh _ _ (own_file p.fresh _ _ own at.stands.lock) in
            subst (λ x. At t old x g) is (record {
              file = λ e. false_true e;
              out = λ e. false_true e;
              left = λ e. false_true e;
              other = at.other;
              there = at.there;
              put = λ e. false_true (sym (not_put p f at own) ∙ e);
              stands = record {
                out = out_stays p.is_put f g (keep t.out (out_new t.out)) at.stands.out;
                left = left_stays p.left f g (keep (left_name t.out) (left_new t.out)) at.stands.left;
                lock = subst (λ n. file_of g n ≡ None) named gone ∙ sym free;
                extra = unlocked_spare p.spare p.strays _ _ (extra_stays p.spare p.strays f g (keep (spare_name t.out) (λ e. new_spare t.out (sym e))) at.stands.extra);
                copy = copy_stays p.kept f g (λ n far. keep n far.from_new) at.stands.copy;
                others = others_stay p.kept f g (λ n far. keep n far.from_new) at.stands.others;
              };
            })

        spare_so : name ≡ spare_name t.out → (is_own p.fresh && is_own p.spare) ≡ true → with_spare p nothing ≡ q → At t old q g
        spare_so named may is =
            let parts = and_parts (is_own p.fresh) (is_own p.spare) may in
            let free : file_of old (spare_name t.out) ≡ None = own_free p.spare _ _ (spare_file p.spare p.strays _ _ parts.1 at.stands.extra) in
            subst (λ x. At t old x g) is (on_spare p nothing f g at (subst (λ n. KeepsOthers n f g) named stay) (gone_spare p.strays _ _ free (subst (λ n. file_of g n ≡ None) named gone)))

        left_so : name ≡ left_name t.out → on_left_removed p t.behind p.left ≡ Some q → At t old q g
        left_so named goes =
            let facts = left_gone p q t.behind p.left _ _ _ at.stands.left goes in
            subst (λ x. At t old x g) facts.1 (on_left_file p undone f g at (not_put p f at facts.0) (subst (λ n. KeepsOthers n f g) named stay) (subst (λ n. file_of g n ≡ None) named gone ∙ sym facts.2))

  -- ---- renaming

  -- OUT.left gets what OUT.left.new has
  record Raises (p q : Phase) (behind : Option Behind) (spare was held : Option (List ℕ)) : Type 0 where
    left : LeftIs
    is : record p { spare = nothing; left = left } ≡ q
    now : LeftHas left behind spare was held
    free : spare ≡ None

  pub full : (bytes : List ℕ) (own : Own) → has_bytes bytes own ≡ true → own ≡ has bytes true
  full bytes nothing e = false_true e
  full bytes broken e = false_true e
  full bytes (has other disk) e =
      let parts = and_parts _ _ e in
      ap (λ (l : List ℕ). has l disk) (same_is other bytes parts.0) ∙ ap (λ d. has bytes d) parts.1

  full_before : (before : Option (List ℕ)) (own : Own) → has_before before own ≡ true → (bytes : List ℕ) × (before ≡ Some bytes) × (own ≡ has bytes true)
  full_before None own e = false_true e
  full_before (Some bytes) own e = (bytes, refl, full bytes own e)

  raised : (p q : Phase) (behind : Option Behind) (left : LeftIs) (strays : Bool) (spare was is held : Option (List ℕ)) → (p.saw_left ≡ true → was ≡ before_of behind)
      → LeftHas left behind spare was is → SpareHas p.spare strays spare held → on_left p behind left ≡ Some q → Raises p q behind spare was held
  raised p q None left strays spare was is held seen has_left has_spare e = none_some q e
  raised p q (Some b) undone strays spare was is held seen has_left has_spare e = none_some q e
  raised p q (Some b) untouched strays spare was is held seen has_left has_spare e =
      if_some (p.saw_file && p.saw_out && p.saw_left && has_bytes b.bodies p.spare) _ _ q (λ may some. step may (same_Some _ _ some)) (λ may none. none_some q none) e where
        step : (p.saw_file && p.saw_out && p.saw_left && has_bytes b.bodies p.spare) ≡ true → record p { spare = nothing; left = grown } ≡ q → Raises p q (Some b) spare was held
        step may some =
            let three = and_parts (p.saw_file && p.saw_out && p.saw_left) (has_bytes b.bodies p.spare) may in
            let two = and_parts (p.saw_file && p.saw_out) p.saw_left three.0 in
            let file : SpareHas (has b.bodies true) strays spare held = subst (λ o. SpareHas o strays spare held) (full b.bodies p.spare three.1) has_spare in
            record { left = grown; is = some; now = record { before = seen two.1; bodies = file.1; free = file.0 }; free = file.0 }
  raised p q (Some b) grown strays spare was is held seen has_left has_spare e =
      if_some (has_before b.before p.spare) _ _ q (λ may some. step (full_before b.before p.spare may) (same_Some _ _ some)) (λ may none. none_some q none) e where
        step : (bytes : List ℕ) × (b.before ≡ Some bytes) × (p.spare ≡ has bytes true) → record p { spare = nothing; left = undone } ≡ q → Raises p q (Some b) spare was held
        step facts some =
            let file : SpareHas (has facts.0 true) strays spare held = subst (λ o. SpareHas o strays spare held) facts.2 has_spare in
            record { left = undone; is = some; now = file.1 ∙ sym facts.1 ∙ sym has_left.before; free = file.0 }
  raised p q (Some b) sure strays spare was is held seen has_left has_spare e =
      if_some (has_before b.before p.spare) _ _ q (λ may some. step (full_before b.before p.spare may) (same_Some _ _ some)) (λ may none. none_some q none) e where
        step : (bytes : List ℕ) × (b.before ≡ Some bytes) × (p.spare ≡ has bytes true) → record p { spare = nothing; left = undone } ≡ q → Raises p q (Some b) spare was held
        step facts some =
            let file : SpareHas (has facts.0 true) strays spare held = subst (λ o. SpareHas o strays spare held) facts.2 has_spare in
            record { left = undone; is = some; now = file.1 ∙ sym facts.1 ∙ sym has_left.before; free = file.0 }

  left_renamed : (p q : Phase) (f g : List File) → At t old p f → Renames (spare_name t.out) (left_name t.out) f g → is_own p.fresh ≡ true → on_left p t.behind p.left ≡ Some q → At t old q g
  left_renamed p q f g at did locked e =
      let r = raised p q t.behind p.left p.strays _ _ _ _ at.left at.stands.left at.stands.extra e in
      let stay = λ (name : List ℕ) (a : name ≢ spare_name t.out) (b : name ≢ left_name t.out). did.others name a b in
      subst (λ x. At t old x g) r.is (record {
        file = at.file;
        out = at.out;
        left = at.left;
        other = at.other;
        there = at.there;
        put = λ e. false_true (sym (not_put p f at locked) ∙ e);
        stands = record {
          out = out_stays p.is_put f g (stay t.out (out_spare t.out) (out_left t.out)) at.stands.out;
          left = subst (λ v. LeftHas r.left t.behind (file_of old (spare_name t.out)) (file_of old (left_name t.out)) v) (sym did.there) r.now;
          lock = lock_stays p.fresh f g (stay (new_name t.out) (new_spare t.out) (λ e. left_new t.out (sym e))) at.stands.lock;
          extra = gone_spare p.strays _ _ r.free (did.gone (λ e. left_spare t.out (sym e)));
          copy = copy_stays p.kept f g (λ name far. stay name far.from_spare far.from_left) at.stands.copy;
          others = others_stay p.kept f g (λ name far. stay name far.from_spare far.from_left) at.stands.others;
        };
      })

  out_renamed : (p q : Phase) (f g : List File) → At t old p f → Renames (new_name t.out) t.out f g → on_out t p ≡ Some q → At t old q g
  out_renamed p q f g at did e =
      if_some (p.saw_file && p.saw_out && is_left_done t.behind p.left && has_bytes t.text p.fresh && not p.is_put && is_kept t.keeps_old t.old p.kept) _ _ q (λ may some. step may (same_Some _ _ some)) (λ may none. none_some q none) e where
        step : (p.saw_file && p.saw_out && is_left_done t.behind p.left && has_bytes t.text p.fresh && not p.is_put && is_kept t.keeps_old t.old p.kept) ≡ true → with_out p ≡ q → At t old q g
        step may some =
            let five = and_parts (p.saw_file && p.saw_out && is_left_done t.behind p.left && has_bytes t.text p.fresh && not p.is_put) (is_kept t.keeps_old t.old p.kept) may in
            let four = and_parts (p.saw_file && p.saw_out && is_left_done t.behind p.left && has_bytes t.text p.fresh) (not p.is_put) five.0 in
            let three = and_parts (p.saw_file && p.saw_out && is_left_done t.behind p.left) (has_bytes t.text p.fresh) four.0 in
            let two = and_parts (p.saw_file && p.saw_out) (is_left_done t.behind p.left) three.0 in
            let one = and_parts p.saw_file p.saw_out two.0 in
            let file : OwnHas (has t.text true) (file_of old (new_name t.out)) (file_of f (new_name t.out)) = subst (λ o. OwnHas o (file_of old (new_name t.out)) (file_of f (new_name t.out))) (full t.text p.fresh three.1) at.stands.lock in
            let stay = λ (name : List ℕ) (a : name ≢ new_name t.out) (b : name ≢ t.out). did.others name a b in
            subst (λ x. At t old x g) some (record {
              file = λ e. false_true e;
              out = λ e. false_true e;
              left = λ e. false_true e;
              other = at.other;
              there = at.there;
              put = λ e. record { fresh_is = refl; source = at.file one.0; was = at.out one.1; free = file.0; done = two.1; copied = five.1 };
              stands = record {
                out = did.there ∙ file.1;
                left = left_stays p.left f g (stay (left_name t.out) (left_new t.out) (λ e. out_left t.out (sym e))) at.stands.left;
                lock = did.gone (λ e. out_new t.out (sym e)) ∙ sym file.0;
                extra = extra_stays p.spare p.strays f g (stay (spare_name t.out) (λ e. new_spare t.out (sym e)) (λ e. out_spare t.out (sym e))) at.stands.extra;
                copy = copy_stays p.kept f g (λ name far. stay name far.from_new far.from_out) at.stands.copy;
                others = others_stay p.kept f g (λ name far. stay name far.from_new far.from_out) at.stands.others;
              };
            })

  renamed_step : (p q : Phase) (from to : List ℕ) (f g : List File) → At t old p f → Renames from to f g → on_renamed t p from to ≡ Some q → At t old q g
  renamed_step p q from to f g at did e =
      if_some (same_name from (spare_name t.out) && same_name to (left_name t.out)) _ _ q
      (λ test goes. if_some (is_own p.fresh) _ _ q (λ own goes2. left_so (and_parts _ _ test) own goes2) (λ own none. none_some q none) goes)
      (λ test goes. if_some (same_name from (new_name t.out) && same_name to t.out) _ _ q (λ test2 goes2. out_so (and_parts _ _ test2) goes2) (λ test2 none. none_some q none) goes) e where
        left_so : (same_name from (spare_name t.out) ≡ true) × (same_name to (left_name t.out) ≡ true) → is_own p.fresh ≡ true → on_left p t.behind p.left ≡ Some q → At t old q g
        left_so parts own goes =
            left_renamed p q f g at (subst (λ n. Renames n (left_name t.out) f g) (same_is _ _ parts.0) (subst (λ n. Renames from n f g) (same_is _ _ parts.1) did)) own goes

        out_so : (same_name from (new_name t.out) ≡ true) × (same_name to t.out ≡ true) → on_out t p ≡ Some q → At t old q g
        out_so parts goes =
            out_renamed p q f g at (subst (λ n. Renames n t.out f g) (same_is _ _ parts.0) (subst (λ n. Renames from n f g) (same_is _ _ parts.1) did)) goes

  -- ---- any deed

  moved : (p q : Phase) (f g : List File) → Some p ≡ Some q → g ≡ f → At t old p f → At t old q g
  moved p q f g is same at = subst (λ x. At t old x g) (same_Some _ _ is) (subst (λ h. At t old p h) (sym same) at)

  pub step : (p q : Phase) (deed : Deed) (f g : List File) → At t old p f → next t p deed ≡ Some q → Does deed f g → At t old q g
  step p q (made name) f g at e does = made_step p q name f g at does.0 does.1 does.2 e
  step p q (met name) f g at e does = moved _ q f g e does.1 (met_step p name f at does.0)
  step p q (wrote name bytes) f g at e does = own_step p q name (more bytes) f g at does.2 (wrote_so bytes _ _ does.1) e
  step p q (spoiled name) f g at e does = own_step p q name lost f g at does.1 (spoiled_so _ _) e
  step p q (compared name bytes same) f g at e does = moved _ q f g e does.1 (compared_step p name bytes same f at does.0)
  step p q (synced name) f g at e does = own_step p q name on_disk f g at (λ other ne. ap (λ h. file_of h other) does) (subst (λ h. Alters on_disk (file_of f name) (file_of h name)) (sym does) (synced_so _)) e
  step p q (settled name) f g at e does = moved _ q f g e does (chosen_at (same_name name (left_name t.out)) _ _ f (λ test. settled_at p p.left f refl at) (λ test. at))
  step p q (renamed from to) f g at e does = renamed_step p q from to f g at does.1 e
  step p q (removed name) f g at e does = removed_step p q name f g at does.0 does.1 e
