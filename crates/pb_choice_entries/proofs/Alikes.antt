-- Entries of one source, and entries with no label in common.
use Rattle.std.proofs.Common.{◌≡◌, ◌<◌, ◌≤◌, ◌+◌, ℕ, ℤ, Bool, true, false, not, ◌&&◌, ◌||◌, nat_eq, ◌+ℤ◌, List, [], ◌∷◌, drop, get_or, length, refl, ap, ◌∙◌, drop_of_length-le, arith}
use Rattle.std.specs.List.{list_all}
use Rattle.std.specs.Ordering.{int_eq}
use Rattle.std.proofs.lemmas.Bool.{and_parts, false≢true}
use Rattle.std.proofs.lemmas.Bool.Decides.{nat_tests}
use Rattle.std.proofs.lemmas.Int.{ints}
use Rattle.std.proofs.lemmas.List.{at_drop_more}
use Rattle.pb_affine.specs.Values.{base_value}
use Rattle.pb_part_areas.specs.Areas.{has}
use Rattle.pb_part_firsts.specs.declared.firsts.Entry.{Entry}
use Rattle.pb_part_firsts.specs.declared.firsts.Kind.{Kind}
use Rattle.pb_part_firsts.specs.declared.firsts.Kind.TheVariants.{Receive, Other, Again}
use Rattle.pb_part_firsts.specs.declared.firsts.Source.{Source}
use Rattle.pb_choice_entries.specs.Clashes.{agrees, are_apart, are_sent_by, clash, clash_any, fork, fork_any, forks, is_label, is_sent_by, lacks, lacks_label, same_base, same_label}
use Rattle.pb_choice_entries.proofs.Anys.{base_is}

-- ---- one source

all_step_bools : (t q l : Bool) → t ≡ true → l ≡ (t && q) → l ≡ q
all_step_bools t q l e h = grind (arith, nat_tests)

-- where the entries up to here pass, all do if those behind do
pub all_step : (t : Entry → Bool) (xs : List Entry) (i : ℕ) (d : Entry) → i < length xs → t (get_or xs i d) ≡ true
    → list_all t xs ≡ list_all t (drop i xs) → list_all t xs ≡ list_all t (drop (i + 1) xs)
all_step t xs i d lt e h = all_step_bools (t (get_or xs i d)) (list_all t (drop (i + 1) xs)) (list_all t xs) e (h ∙ at_drop_more (λ l. list_all t l) xs i d lt)

pub all_done : (t : Entry → Bool) (xs : List Entry) (i : ℕ) → length xs ≤ i → list_all t xs ≡ list_all t (drop i xs) → list_all t xs ≡ true
all_done t xs i le h = h ∙ ap (λ l. list_all t l) (drop_of_length-le xs le)

same_senders : (r s t : ℕ) (a b c u v w : ℤ) → nat_eq r s ≡ true → nat_eq r t ≡ true → int_eq a b ≡ true → int_eq a c ≡ true → u ≡ v → u ≡ w
    → nat_eq s t && int_eq (b +ℤ v) (c +ℤ w) ≡ true
same_senders r s t a b c u v w h k i j e f = grind (arith, ints, nat_tests)

-- two sources that are written as a third one
one_sender : (a b c : Source) (n x : ℤ) → (nat_eq a.role b.role && same_base a.at.base b.at.base && int_eq a.at.off b.at.off) ≡ true
    → (nat_eq a.role c.role && same_base a.at.base c.at.base && int_eq a.at.off c.at.off) ≡ true → agrees b c n x ≡ true
one_sender a b c n x h k =
    let p = and_parts (nat_eq a.role b.role && same_base a.at.base b.at.base) (int_eq a.at.off b.at.off) h in
    let q = and_parts (nat_eq a.role b.role) (same_base a.at.base b.at.base) p.0 in
    let r = and_parts (nat_eq a.role c.role && same_base a.at.base c.at.base) (int_eq a.at.off c.at.off) k in
    let s = and_parts (nat_eq a.role c.role) (same_base a.at.base c.at.base) r.0 in
    same_senders a.role b.role c.role a.at.off b.at.off c.at.off (base_value a.at.base n x) (base_value b.at.base n x) (base_value c.at.base n x)
    q.0 s.0 p.1 r.1 (base_is a.at.base b.at.base n x q.1) (base_is a.at.base c.at.base n x s.1)

never_apart : (a : Source) (k l : Kind) (n x : ℤ) → is_sent_by a k ≡ true → is_sent_by a l ≡ true → are_apart k l n x ≡ false
never_apart a (Receive b m) (Receive c o) n x h k = ap not (one_sender a b c n x h k)
never_apart a (Receive b m) Other n x h k = refl
never_apart a (Receive b m) Again n x h k = refl
never_apart a Other l n x h k = refl
never_apart a Again l n x h k = refl

pub and_false : (b c : Bool) → c ≡ false → b && c ≡ false
and_false b c e = grind (arith, nat_tests)

pub or_none : (b c : Bool) → b ≡ false → c ≡ false → b || c ≡ false
or_none b c h k = grind (arith, nat_tests)

no_fork : (a : Source) (e : Entry) (fs : List Entry) (n : ℤ) (role : ℕ) (x : ℤ) → is_sent_by a e.kind ≡ true → are_sent_by a fs ≡ true → fork_any fs e n role x ≡ false
no_fork a e [] n role x h k = refl
no_fork a e (f ∷ fs) n role x h k =
    let p = and_parts (is_sent_by a f.kind) (are_sent_by a fs) k in
    or_none (fork e f n role x) (fork_any fs e n role x) (and_false (has e.area n role x && has f.area n role x) (are_apart e.kind f.kind n x) (never_apart a e.kind f.kind n x h p.0))
    (no_fork a e fs n role x h p.1)

pub no_forks : (a : Source) (es fs : List Entry) → are_sent_by a es ≡ true → are_sent_by a fs ≡ true → (n : ℤ) (role : ℕ) (x : ℤ) → forks es fs n role x ≡ false
no_forks a [] fs h k n role x = refl
no_forks a (e ∷ es) fs h k n role x =
    let p = and_parts (is_sent_by a e.kind) (are_sent_by a es) h in
    or_none (fork_any fs e n role x) (forks es fs n role x) (no_fork a e fs n role x p.0 k) (no_forks a es fs p.1 k n role x)

-- ---- no label of both

not_label : (b : Bool) → not b ≡ true → b ≡ false
not_label true h = absurd (false≢true h)
not_label false h = refl

no_clash_of : (s : Source) (l : ℕ) (e : Entry) (fs : List Entry) (n : ℤ) (role : ℕ) (x : ℤ) → e.kind ≡ Receive s l → lacks l fs ≡ true → clash_any fs e n role x ≡ false
no_clash_of s l e [] n role x is h = refl
no_clash_of s l e (f ∷ fs) n role x is h =
    let p = and_parts (not (is_label l f.kind)) (lacks l fs) h in
    let same : same_label e.kind f.kind ≡ false = ap (λ k. same_label k f.kind) is ∙ not_label (is_label l f.kind) p.0 in
    or_none (clash e f n role x) (clash_any fs e n role x) (ap (λ b. b && (has e.area n role x && has f.area n role x)) same) (no_clash_of s l e fs n role x is p.1)

no_clash_other : (e : Entry) (fs : List Entry) (n : ℤ) (role : ℕ) (x : ℤ) → ((f : Kind) → same_label e.kind f ≡ false) → clash_any fs e n role x ≡ false
no_clash_other e [] n role x h = refl
no_clash_other e (f ∷ fs) n role x h =
    or_none (clash e f n role x) (clash_any fs e n role x) (ap (λ b. b && (has e.area n role x && has f.area n role x)) (h f.kind)) (no_clash_other e fs n role x h)

pub no_clash : (e : Entry) (k : Kind) (fs : List Entry) (n : ℤ) (role : ℕ) (x : ℤ) → e.kind ≡ k → lacks_label k fs ≡ true → clash_any fs e n role x ≡ false
no_clash e (Receive s l) fs n role x is h = no_clash_of s l e fs n role x is h
no_clash e Other fs n role x is h = no_clash_other e fs n role x (λ f. ap (λ k. same_label k f) is)
no_clash e Again fs n role x is h = no_clash_other e fs n role x (λ f. ap (λ k. same_label k f) is)
