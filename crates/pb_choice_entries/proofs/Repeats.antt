-- Entries that repeat what others say of who is heard from.
use Rattle.std.proofs.Common.{◌≡◌, ◌<◌, ◌≤◌, ◌+◌, ℕ, ℤ, Bool, true, false, not, ◌&&◌, ◌||◌, nat_eq, ◌+ℤ◌, List, [], ◌∷◌, ◌++◌, drop, get_or, length, refl, sym, ap, ap₂, subst, ◌∙◌, drop_of_length-le, arith}
use Rattle.std.specs.List.{list_any}
use Rattle.std.specs.Ordering.{int_eq}
use Rattle.std.proofs.lemmas.Bool.{and_parts, false≢true}
use Rattle.std.proofs.lemmas.Bool.Decides.{nat_tests}
use Rattle.std.proofs.lemmas.Int.{ints}
use Rattle.std.proofs.lemmas.List.{at_drop_more}
use Rattle.std.proofs.lemmas.List.Folds.{list_any-append, list_any_at}
use Rattle.std.proofs.Math.Bool.{or-false}
use Rattle.pb_affine.specs.Values.{base_value}
use Rattle.pb_part_areas.specs.Areas.{has}
use Rattle.pb_part_firsts.specs.declared.firsts.Entry.{Entry}
use Rattle.pb_part_firsts.specs.declared.firsts.Kind.{Kind}
use Rattle.pb_part_firsts.specs.declared.firsts.Kind.TheVariants.{Receive, Other, Again}
use Rattle.pb_part_firsts.specs.declared.firsts.Source.{Source}
use Rattle.pb_part_firsts.specs.Firsts.{are_small, is_small_kind}
use Rattle.pb_choice_entries.specs.Clashes.{agrees, are_apart, fork, fork_any, forks, is_from_other, same_base}
use Rattle.pb_choice_entries.specs.Repeats.{AreSameSender, AreRepeated, Respects, IsRepeated}
use Rattle.pb_choice_entries.proofs.Anys.{any_step, base_is}
use Rattle.pb_choice_entries.proofs.Closes.{are_small_append}

-- ---- one sender

left_alike : (r s t : ℕ) (a b c u v w : ℤ) → nat_eq r s ≡ true → int_eq a b ≡ true → u ≡ v → nat_eq r t && int_eq (a +ℤ u) (c +ℤ w) ≡ nat_eq s t && int_eq (b +ℤ v) (c +ℤ w)
left_alike r s t a b c u v w h i e = grind (arith, ints, nat_tests)

right_alike : (r s t : ℕ) (a b c u v w : ℤ) → nat_eq r s ≡ true → int_eq a b ≡ true → u ≡ v → nat_eq t r && int_eq (c +ℤ w) (a +ℤ u) ≡ nat_eq t s && int_eq (c +ℤ w) (b +ℤ v)
right_alike r s t a b c u v w h i e = grind (arith, ints, nat_tests)

module _ (a b : Source) (h : (nat_eq a.role b.role && same_base a.at.base b.at.base && int_eq a.at.off b.at.off) ≡ true) where
  parts : ((nat_eq a.role b.role ≡ true) × (same_base a.at.base b.at.base ≡ true)) × (int_eq a.at.off b.at.off ≡ true)
  parts =
      let p = and_parts (nat_eq a.role b.role && same_base a.at.base b.at.base) (int_eq a.at.off b.at.off) h in
      (and_parts (nat_eq a.role b.role) (same_base a.at.base b.at.base) p.0, p.1)

  agrees_first : (c : Source) (n x : ℤ) → agrees a c n x ≡ agrees b c n x
  agrees_first c n x =
      left_alike a.role b.role c.role a.at.off b.at.off c.at.off (base_value a.at.base n x) (base_value b.at.base n x) (base_value c.at.base n x)
      parts.0.0 parts.1 (base_is a.at.base b.at.base n x parts.0.1)

  agrees_second : (c : Source) (n x : ℤ) → agrees c a n x ≡ agrees c b n x
  agrees_second c n x =
      right_alike a.role b.role c.role a.at.off b.at.off c.at.off (base_value a.at.base n x) (base_value b.at.base n x) (base_value c.at.base n x)
      parts.0.0 parts.1 (base_is a.at.base b.at.base n x parts.0.1)

  from_first : (k : Kind) (n x : ℤ) → is_from_other a k n x ≡ is_from_other b k n x
  from_first (Receive c l) n x = ap not (agrees_first c n x)
  from_first Other n x = refl
  from_first Again n x = refl

  from_second : (k : Kind) (l m : ℕ) (n x : ℤ) → are_apart k (Receive a l) n x ≡ are_apart k (Receive b m) n x
  from_second (Receive c o) l m n x = ap not (agrees_second c n x)
  from_second Other l m n x = refl
  from_second Again l m n x = refl

  pub same_sender : (l m : ℕ) → AreSameSender (Receive a l) (Receive b m)
  same_sender l m = record { first = from_first; second = λ k n x. from_second k l m n x }

-- ---- tests of forks

pub fork_respects : (others : List Entry) (n : ℤ) (role : ℕ) (x : ℤ) → Respects (λ e. fork_any others e n role x)
fork_respects others n role x = record { same = λ e f r. by_all others e f r }
  where
    by_all : (fs : List Entry) (e f : Entry) → AreRepeated e f → fork_any fs e n role x ≡ fork_any fs f n role x
    by_all [] e f r = refl
    by_all (g ∷ fs) e f r =
        ap₂ (λ a b. a || b) (ap₂ (λ a b. (a && has g.area n role x) && b) (r.ranks n role x) (r.sender.first g.kind n x)) (by_all fs e f r)

pub fork_by_respects : (e : Entry) (n : ℤ) (role : ℕ) (x : ℤ) → Respects (λ f. fork e f n role x)
fork_by_respects e n role x = record { same = λ f g r. ap₂ (λ a b. (has e.area n role x && a) && b) (r.ranks n role x) (r.sender.second e.kind n x) }

-- ---- the entries up to the rest, without those that repeat another

pub record KeepsOnce (es kept rest : List Entry) : Type 0 where
  pub any : (t : Entry → Bool) → Respects t → list_any t kept || list_any t rest ≡ list_any t es
  pub small : are_small es ≡ true → are_small kept && are_small rest ≡ true

push_small : (a s r b all : Bool) → b ≡ s && r → a && b ≡ true → all ≡ a && (s && true) → all && r ≡ true
push_small a s r b all e h k = grind (arith, nat_tests)

pub once_pushed : (es kept next : List Entry) (i : ℕ) (d : Entry) → i < length es → next ≡ kept ++ get_or es i d ∷ [] → KeepsOnce es kept (drop i es) → KeepsOnce es next (drop (i + 1) es)
once_pushed es kept next i d lt e k =
    let x = get_or es i d in
    record {
      any = λ t respects. any_step t es i d (list_any t kept) (list_any t next) (list_any t es) lt
          (ap (λ l. list_any t l) e ∙ list_any-append t kept (x ∷ []) ∙ ap (λ b. list_any t kept || b) (or-false (t x))) (k.any t respects);
      small = λ h. push_small (are_small kept) (is_small_kind x.kind) (are_small (drop (i + 1) es)) (are_small (drop i es)) (are_small next)
          (at_drop_more are_small es i d lt) (k.small h) (ap are_small e ∙ are_small_append kept (x ∷ []));
    }

skip_small : (a s r b : Bool) → b ≡ s && r → a && b ≡ true → a && r ≡ true
skip_small a s r b e h = grind (arith, nat_tests)

known : (a t : Bool) → (t ≡ true → a ≡ true) → a ≡ a || t
known true t h = refl
known false true h = absurd (false≢true (h refl))
known false false h = refl

pub once_passed : (es kept seen : List Entry) (i : ℕ) (d : Entry) → i < length es → seen ≡ kept → IsRepeated seen (get_or es i d) → KeepsOnce es kept (drop i es) → KeepsOnce es kept (drop (i + 1) es)
once_passed es kept seen i d lt e r k =
    let x = get_or es i d in
    record {
      any = λ t respects. any_step t es i d (list_any t kept) (list_any t kept) (list_any t es) lt (known (list_any t kept) (t x) (λ h. sym (ap (λ l. list_any t l) e) ∙ r.there t respects h)) (k.any t respects);
      small = λ h. skip_small (are_small kept) (is_small_kind x.kind) (are_small (drop (i + 1) es)) (are_small (drop i es)) (at_drop_more are_small es i d lt) (k.small h);
    }

pub once_done : (es kept : List Entry) (i : ℕ) → length es ≤ i → KeepsOnce es kept (drop i es) → KeepsOnce es kept []
once_done es kept i le k = subst (λ l. KeepsOnce es kept l) (drop_of_length-le es le) k

pub once_any : (es kept : List Entry) → KeepsOnce es kept [] → (t : Entry → Bool) → Respects t → list_any t kept ≡ list_any t es
once_any es kept k t respects = sym (or-false (list_any t kept)) ∙ k.any t respects

pub once_first : (es kept : List Entry) → KeepsOnce es kept [] → (others : List Entry) (n : ℤ) (role : ℕ) (x : ℤ) → forks kept others n role x ≡ forks es others n role x
once_first es kept k others n role x = once_any es kept k (λ e. fork_any others e n role x) (fork_respects others n role x)

pub any_second : (es kept : List Entry) → ((t : Entry → Bool) → list_any t kept ≡ list_any t es) → (here : List Entry) (n : ℤ) (role : ℕ) (x : ℤ) → forks here kept n role x ≡ forks here es n role x
any_second es kept k [] n role x = refl
any_second es kept k (e ∷ here) n role x = ap₂ (λ a b. a || b) (k (λ f. fork e f n role x)) (any_second es kept k here n role x)

pub once_second : (es kept : List Entry) → ((t : Entry → Bool) → Respects t → list_any t kept ≡ list_any t es) → (here : List Entry) (n : ℤ) (role : ℕ) (x : ℤ) → forks here kept n role x ≡ forks here es n role x
once_second es kept k [] n role x = refl
once_second es kept k (e ∷ here) n role x = ap₂ (λ a b. a || b) (k (λ f. fork e f n role x) (fork_by_respects e n role x)) (once_second es kept k here n role x)

-- ---- an entry of the list

pub found_at : (list : List Entry) (i : ℕ) (d e : Entry) → i < length list → AreRepeated e (get_or list i d) → IsRepeated list e
found_at list i d e lt r = record { there = λ t respects h. list_any_at t list i d lt (sym (respects.same e (get_or list i d) r) ∙ h) }
