-- What comes next where the names are known.
use Rattle.std.proofs.Common.{◌≡◌, ℕ, true, false, List, [], ◌∷◌, None, Some, refl, sym, subst}
use Rattle.pb_renew_store.specs.Deeds.{made, met, settled, renamed, removed}
use Rattle.pb_renew_put.specs.Ends.{is_grown}
use Rattle.pb_renew_put.specs.Jobs.{Behind, Task}
use Rattle.pb_renew_put.specs.Names.{is_old_name, is_written, left_name, new_name, spare_name}
use Rattle.pb_renew_put.specs.Phases.{Kept, keeps, unkept, LeftIs, untouched, grown, sure, undone, Own, nothing, has, Phase, has_bytes, is_kept, is_left_done, is_own, next, on_differs, on_seen, same_name, start, unlocked, with_fresh, with_out, with_spare}
use Rattle.pb_renew_put.specs.Steps.{Sets, under}
use Rattle.pb_renew_put.proofs.Apart.{left_new, left_spare, new_spare, old_apart, out_left, same_not, same_self, written_apart}
use Rattle.pb_renew_put.proofs.Kept.{content_self}

spare_not_new : (out : List ℕ) → same_name (spare_name out) (new_name out) ≡ false
spare_not_new out = same_not _ _ (λ e. new_spare out (sym e))

new_not_spare : (out : List ℕ) → same_name (new_name out) (spare_name out) ≡ false
new_not_spare out = same_not _ _ (new_spare out)

left_not_new : (out : List ℕ) → same_name (left_name out) (new_name out) ≡ false
left_not_new out = same_not _ _ (left_new out)

left_not_spare : (out : List ℕ) → same_name (left_name out) (spare_name out) ≡ false
left_not_spare out = same_not _ _ (left_spare out)

-- ---- making

pub made_new : (t : Task) → next t start (made (new_name t.out)) ≡ Some (with_fresh start (has [] false))
made_new t = rw (same_self (new_name t.out)) refl

pub met_new : (t : Task) → next t start (met (new_name t.out)) ≡ Some (record start { taken = new_name t.out ∷ [] })
met_new t = rw (same_self (new_name t.out)) refl

pub made_spare : (t : Task) (p : Phase) → is_own p.fresh ≡ true → is_own p.spare ≡ false → next t p (made (spare_name t.out)) ≡ Some (with_spare p (has [] false))
made_spare t p locked free = rw (spare_not_new t.out, same_self (spare_name t.out), locked, free) refl

pub met_spare : (t : Task) (p : Phase) → is_own p.spare ≡ false → p.strays ≡ false → next t p (met (spare_name t.out)) ≡ Some (record p { taken = spare_name t.out ∷ p.taken })
met_spare t p free stays = rw (spare_not_new t.out, same_self (spare_name t.out), free, stays) refl

pub made_copy : (t : Task) (fresh spare : Own) (taken : List (List ℕ)) (name : List ℕ) → is_old_name t.out name ≡ true → t.keeps_old ≡ true → is_own fresh ≡ true
    → next t (under fresh spare unkept taken true true false untouched) (made name) ≡ Some (under fresh spare (keeps name (has [] false)) taken true true false untouched)
made_copy t fresh spare taken name old keeps_old locked =
    let apart = old_apart t.out name old in
    rw (same_not _ _ apart.from_new, same_not _ _ apart.from_spare, old, keeps_old, locked) refl

pub met_old : (t : Task) (fresh spare : Own) (taken : List (List ℕ)) (name : List ℕ) → is_old_name t.out name ≡ true
    → next t (under fresh spare unkept taken true true false untouched) (met name) ≡ Some (under fresh spare unkept (name ∷ taken) true true false untouched)
met_old t fresh spare taken name old =
    let apart = old_apart t.out name old in
    rw (same_not _ _ apart.from_new, same_not _ _ apart.from_spare, old) refl

-- ---- writing

pub sets_fresh : (t : Task) (p : Phase) → Sets t (new_name t.out) (with_fresh p)
sets_fresh t p = record { on = λ own change. rw (same_self (new_name t.out)) refl }

pub sets_spare : (t : Task) (p : Phase) → Sets t (spare_name t.out) (with_spare p)
sets_spare t p = record { on = λ own change. rw (spare_not_new t.out, same_self (spare_name t.out)) refl }

pub sets_copy : (t : Task) (fresh spare : Own) (taken : List (List ℕ)) (name : List ℕ) → is_old_name t.out name ≡ true → is_own fresh ≡ true
    → Sets t name (λ own. under fresh spare (keeps name own) taken true true false untouched)
sets_copy t fresh spare taken name old locked =
    let apart = old_apart t.out name old in
    record { on = λ own change. rw (same_not _ _ apart.from_new, same_not _ _ apart.from_spare, old, same_self name, locked) refl }

-- ---- taking away

pub removed_new : (t : Task) (p : Phase) → is_own p.fresh ≡ true → next t p (removed (new_name t.out)) ≡ Some (unlocked p)
removed_new t p locked = rw (same_self (new_name t.out), locked) refl

pub removed_spare : (t : Task) (p : Phase) → is_own p.fresh ≡ true → is_own p.spare ≡ true → next t p (removed (spare_name t.out)) ≡ Some (with_spare p nothing)
removed_spare t p locked own = rw (spare_not_new t.out, same_self (spare_name t.out), locked, own) refl

pub removed_copy : (t : Task) (fresh spare own : Own) (taken : List (List ℕ)) (name : List ℕ) → is_old_name t.out name ≡ true → is_own fresh ≡ true
    → next t (under fresh spare (keeps name own) taken true true false untouched) (removed name) ≡ Some (under fresh spare unkept taken true true false untouched)
removed_copy t fresh spare own taken name old locked =
    let apart = old_apart t.out name old in
    rw (same_not _ _ apart.from_new, same_not _ _ apart.from_spare, same_not _ _ apart.from_left, old, same_self name, locked) refl

-- OUT.left, which wasn't there
pub removed_left : (t : Task) (b : Behind) (kept : Kept) (taken : List (List ℕ)) (left : LeftIs) → t.behind ≡ Some b → b.before ≡ None → is_grown left ≡ true
    → next t (under (has t.text true) nothing kept taken true true true left) (removed (left_name t.out)) ≡ Some (under (has t.text true) nothing kept taken true true true undone)
removed_left t b kept taken untouched behind before is_so = cc
removed_left t b kept taken undone behind before is_so = cc
removed_left t b kept taken grown behind before is_so = rw (left_not_new t.out, left_not_spare t.out, same_self (left_name t.out), behind, before) refl
removed_left t b kept taken sure behind before is_so = rw (left_not_new t.out, left_not_spare t.out, same_self (left_name t.out), behind, before) refl

-- ---- renaming

pub left_raised : (t : Task) (b : Behind) (kept : Kept) (taken : List (List ℕ)) → t.behind ≡ Some b
    → next t (under (has t.text true) (has b.bodies true) kept taken true true true untouched) (renamed (spare_name t.out) (left_name t.out)) ≡ Some (under (has t.text true) nothing kept taken true true true grown)
left_raised t b kept taken behind = rw (same_self (spare_name t.out), same_self (left_name t.out), behind, same_self b.bodies) refl

pub left_restored : (t : Task) (b : Behind) (bytes : List ℕ) (kept : Kept) (taken : List (List ℕ)) (left : LeftIs) → t.behind ≡ Some b → b.before ≡ Some bytes → is_grown left ≡ true
    → next t (under (has t.text true) (has bytes true) kept taken true true true left) (renamed (spare_name t.out) (left_name t.out)) ≡ Some (under (has t.text true) nothing kept taken true true true undone)
left_restored t b bytes kept taken untouched behind before is_so = cc
left_restored t b bytes kept taken undone behind before is_so = cc
left_restored t b bytes kept taken grown behind before is_so = rw (same_self (spare_name t.out), same_self (left_name t.out), behind, before, same_self bytes) refl
left_restored t b bytes kept taken sure behind before is_so = rw (same_self (spare_name t.out), same_self (left_name t.out), behind, before, same_self bytes) refl

pub out_put : (t : Task) (p : Phase) → p.saw_file ≡ true → p.saw_out ≡ true → is_left_done t.behind p.left ≡ true → has_bytes t.text p.fresh ≡ true → p.is_put ≡ false → is_kept t.keeps_old t.old p.kept ≡ true
    → next t p (renamed (new_name t.out) t.out) ≡ Some (with_out p)
out_put t p file out left fresh unput kept = rw (new_not_spare t.out, same_self (new_name t.out), same_self t.out, file, out, left, fresh, unput, kept) refl

pub settled_left : (t : Task) (kept : Kept) (taken : List (List ℕ))
    → next t (under (has t.text true) nothing kept taken true true true grown) (settled (left_name t.out)) ≡ Some (under (has t.text true) nothing kept taken true true true sure)
settled_left t kept taken = rw (same_self (left_name t.out)) refl

pub settled_old : (t : Task) (p : Phase) (name : List ℕ) → is_old_name t.out name ≡ true → next t p (settled name) ≡ Some p
settled_old t p name old = rw (same_not _ _ (old_apart t.out name old).from_left) refl

-- ---- looking

pub saw_file : (t : Task) (p : Phase) → on_seen t p t.file (Some t.source) ≡ record p { saw_file = true }
saw_file t p = rw (same_self t.file, same_self t.source) refl

pub file_differs : (t : Task) (p : Phase) → on_differs t p t.file (Some t.source) ≡ record p { differs = true }
file_differs t p = rw (same_self t.file, same_self t.source) refl

pub saw_out : (t : Task) (p : Phase) → is_written t.out t.file ≡ false → on_seen t p t.out t.old ≡ record p { saw_out = true }
saw_out t p apart = rw (same_not _ _ (λ e. (written_apart t.out t.file apart).from_out (sym e)), same_self t.out, content_self t.old) refl

pub out_differs : (t : Task) (p : Phase) → is_written t.out t.file ≡ false → on_differs t p t.out t.old ≡ record p { differs = true }
out_differs t p apart = rw (same_not _ _ (λ e. (written_apart t.out t.file apart).from_out (sym e)), same_self t.out, content_self t.old) refl

pub saw_left : (t : Task) (b : Behind) (p : Phase) → is_written t.out t.file ≡ false → t.behind ≡ Some b → on_seen t p (left_name t.out) b.before ≡ record p { saw_left = true }
saw_left t b p apart behind =
    rw (same_not _ _ (λ e. (written_apart t.out t.file apart).from_left (sym e)), same_not _ _ (λ e. out_left t.out (sym e)), same_self (left_name t.out), behind, content_self b.before) refl

pub left_differs : (t : Task) (b : Behind) (fresh spare : Own) (kept : Kept) (taken : List (List ℕ)) → is_written t.out t.file ≡ false → t.behind ≡ Some b
    → on_differs t (under fresh spare kept taken true true false untouched) (left_name t.out) b.before ≡ record (under fresh spare kept taken true true false untouched) { differs = true }
left_differs t b fresh spare kept taken apart behind =
    rw (same_not _ _ (λ e. (written_apart t.out t.file apart).from_left (sym e)), same_not _ _ (λ e. out_left t.out (sym e)), same_self (left_name t.out), behind, content_self b.before) refl

-- ---- under the lock

pub sets_spare_at : (t : Task) (p : Phase) (name : List ℕ) → name ≡ spare_name t.out → Sets t name (with_spare p)
sets_spare_at t p name is = subst (λ n. Sets t n (with_spare p)) (sym is) (sets_spare t p)

pub sets_fresh_at : (t : Task) (p : Phase) (name : List ℕ) → name ≡ new_name t.out → Sets t name (with_fresh p)
sets_fresh_at t p name is = subst (λ n. Sets t n (with_fresh p)) (sym is) (sets_fresh t p)
