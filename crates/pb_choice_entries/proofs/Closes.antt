-- Entries that are left out, with the pairs of the others, and areas around entries.
use Rattle.std.proofs.Common.{◌≡◌, ◌<◌, ◌≤◌, ◌+◌, ℕ, ℤ, Bool, true, false, not, ◌&&◌, ◌||◌, List, [], ◌∷◌, ◌++◌, drop, get_or, length, refl, sym, ap, ap₂, subst, ◌∙◌, drop_of_length-le, arith}
use Rattle.std.specs.List.{All, list_any}
use Rattle.std.specs.List.Sorted.{IsPermutation}
use Rattle.std.proofs.lemmas.Bool.{and_parts, false≢true, or_left, or_right}
use Rattle.std.proofs.lemmas.Bool.Decides.{nat_tests}
use Rattle.std.proofs.lemmas.List.{at_drop_more}
use Rattle.std.proofs.lemmas.List.Folds.{list_any-append}
use Rattle.std.proofs.lemmas.List.Elements.{All-cons, All-head, All-nil, All-tail}
use Rattle.std.proofs.lemmas.List.Sorted.{All-permutation}
use Rattle.std.proofs.Math.Bool.{or-false}
use Rattle.pb_part_areas.specs.declared.area.Area.{Area}
use Rattle.pb_part_areas.specs.Areas.{has}
use Rattle.pb_part_firsts.specs.declared.firsts.Entry.{Entry}
use Rattle.pb_part_firsts.specs.declared.firsts.Kind.{Kind}
use Rattle.pb_part_firsts.specs.declared.firsts.Kind.TheVariants.{Receive, Other, Again}
use Rattle.pb_part_firsts.specs.Firsts.{is_small_kind, are_small}
use Rattle.pb_choice_entries.specs.declared.pair.Pairing.{Pairing}
use Rattle.pb_choice_entries.specs.declared.pair.Pairing.TheVariants.{Sources, Labels}
use Rattle.pb_choice_entries.specs.Clashes.{are_apart, fork, fork_any, forks, is_receive, pair, pairs, same_label}
use Rattle.pb_choice_entries.specs.Close.{IsAround, IsAroundOne}
use Rattle.pb_choice_entries.proofs.Anys.{any_step}
use Rattle.pb_choice_entries.proofs.Alikes.{and_false, or_none}

-- ---- some entries are left out

and_assoc : (a b c : Bool) → a && (b && c) ≡ (a && b) && c
and_assoc a b c = grind (arith, nat_tests)

pub are_small_append : (xs ys : List Entry) → are_small (xs ++ ys) ≡ are_small xs && are_small ys
are_small_append [] ys = refl
are_small_append (x ∷ xs) ys = ap (λ b. is_small_kind x.kind && b) (are_small_append xs ys) ∙ and_assoc (is_small_kind x.kind) (are_small xs) (are_small ys)

abbrev IsSmall : Entry → Type 0
IsSmall e = is_small_kind e.kind ≡ true

each_small : (es : List Entry) → are_small es ≡ true → All IsSmall es
each_small [] h = All-nil IsSmall
each_small (e ∷ es) h =
    let parts = and_parts (is_small_kind e.kind) (are_small es) h in
    All-cons IsSmall e es parts.0 (each_small es parts.1)

small_each : (es : List Entry) → All IsSmall es → are_small es ≡ true
small_each [] h = refl
small_each (e ∷ es) h = ap (λ b. b && are_small es) (All-head IsSmall e es h) ∙ small_each es (All-tail IsSmall e es h)

pub small_reordered : (es fs : List Entry) → IsPermutation es fs → are_small es ≡ true → are_small fs ≡ true
small_reordered es fs same h = small_each fs (All-permutation IsSmall es fs same (each_small es h))

-- what was kept of the entries up to the rest, where those that were left out are such
pub record Keeps (Out : Entry → Type 0) (es kept rest : List Entry) : Type 0 where
  pub any : (t : Entry → Bool) → ((e : Entry) → Out e → t e ≡ false) → list_any t kept || list_any t rest ≡ list_any t es
  pub small : are_small es ≡ true → are_small kept && are_small rest ≡ true

push_small : (a s r b all : Bool) → b ≡ s && r → a && b ≡ true → all ≡ a && (s && true) → all && r ≡ true
push_small a s r b all e h k = grind (arith, nat_tests)

pub keep_one : (Out : Entry → Type 0) (es kept next : List Entry) (i : ℕ) (d : Entry) → i < length es → next ≡ kept ++ get_or es i d ∷ [] →
    Keeps Out es kept (drop i es) → Keeps Out es next (drop (i + 1) es)
keep_one Out es kept next i d lt e k =
    let x = get_or es i d in
    record {
      any = λ t out. any_step t es i d (list_any t kept) (list_any t next) (list_any t es) lt
          (ap (λ l. list_any t l) e ∙ list_any-append t kept (x ∷ []) ∙ ap (λ b. list_any t kept || b) (or-false (t x))) (k.any t out);
      small = λ h. push_small (are_small kept) (is_small_kind x.kind) (are_small (drop (i + 1) es)) (are_small (drop i es)) (are_small next)
          (at_drop_more are_small es i d lt) (k.small h) (ap are_small e ∙ are_small_append kept (x ∷ []));
    }

skip_small : (a s r b : Bool) → b ≡ s && r → a && b ≡ true → a && r ≡ true
skip_small a s r b e h = grind (arith, nat_tests)

pub keep_none : (Out : Entry → Type 0) (es kept : List Entry) (i : ℕ) (d : Entry) → i < length es → Out (get_or es i d) →
    Keeps Out es kept (drop i es) → Keeps Out es kept (drop (i + 1) es)
keep_none Out es kept i d lt out k =
    let x = get_or es i d in
    record {
      any = λ t none. any_step t es i d (list_any t kept) (list_any t kept) (list_any t es) lt
          (sym (ap (λ b. list_any t kept || b) (none x out) ∙ or-false (list_any t kept))) (k.any t none);
      small = λ h. skip_small (are_small kept) (is_small_kind x.kind) (are_small (drop (i + 1) es)) (are_small (drop i es)) (at_drop_more are_small es i d lt) (k.small h);
    }

pub keep_done : (Out : Entry → Type 0) (es kept : List Entry) (i : ℕ) → length es ≤ i → Keeps Out es kept (drop i es) → Keeps Out es kept []
keep_done Out es kept i le k = subst (λ l. Keeps Out es kept l) (drop_of_length-le es le) k

pub kept_any : (Out : Entry → Type 0) (es kept : List Entry) → Keeps Out es kept [] → (t : Entry → Bool) → ((e : Entry) → Out e → t e ≡ false) → list_any t kept ≡ list_any t es
kept_any Out es kept k t none = sym (or-false (list_any t kept)) ∙ k.any t none

pub kept_small : (Out : Entry → Type 0) (es kept : List Entry) → Keeps Out es kept [] → are_small es ≡ true → are_small kept ≡ true
kept_small Out es kept k h = (and_parts (are_small kept) true (k.small h)).0

-- ---- receives alone

abbrev pub IsOther : Entry → Type 0
IsOther e = is_receive e.kind ≡ false

other_first : (k l : Kind) (n x : ℤ) → is_receive k ≡ false → are_apart k l n x ≡ false
other_first (Receive s m) l n x h = absurd (false≢true (sym h))
other_first Other l n x h = refl
other_first Again l n x h = refl

other_second : (k l : Kind) (n x : ℤ) → is_receive l ≡ false → are_apart k l n x ≡ false
other_second (Receive s m) (Receive t o) n x h = absurd (false≢true (sym h))
other_second (Receive s m) Other n x h = refl
other_second (Receive s m) Again n x h = refl
other_second Other l n x h = refl
other_second Again l n x h = refl

no_fork_by : (e : Entry) (fs : List Entry) (n : ℤ) (role : ℕ) (x : ℤ) → IsOther e → fork_any fs e n role x ≡ false
no_fork_by e [] n role x out = refl
no_fork_by e (f ∷ fs) n role x out =
    or_none (fork e f n role x) (fork_any fs e n role x) (and_false (has e.area n role x && has f.area n role x) (are_apart e.kind f.kind n x) (other_first e.kind f.kind n x out))
    (no_fork_by e fs n role x out)

pub receives_first : (es kept : List Entry) → Keeps IsOther es kept [] → (others : List Entry) (n : ℤ) (role : ℕ) (x : ℤ) → forks kept others n role x ≡ forks es others n role x
receives_first es kept k others n role x = kept_any IsOther es kept k (λ e. fork_any others e n role x) (λ e out. no_fork_by e others n role x out)

pub receives_second : (es kept : List Entry) → Keeps IsOther es kept [] → (here : List Entry) (n : ℤ) (role : ℕ) (x : ℤ) → forks here kept n role x ≡ forks here es n role x
receives_second es kept k [] n role x = refl
receives_second es kept k (e ∷ here) n role x =
    ap₂ (λ a b. a || b)
    (kept_any IsOther es kept k (λ f. fork e f n role x) (λ f out. and_false (has e.area n role x && has f.area n role x) (are_apart e.kind f.kind n x) (other_second e.kind f.kind n x out)))
    (receives_second es kept k here n role x)

-- ---- what is close alone

abbrev pub IsFar : Area → Entry → Type 0
IsFar area f = (n : ℤ) (role : ℕ) (x : ℤ) → has f.area n role x && not (has area n role x) ≡ has f.area n role x

far_bools : (a f m : Bool) → (a ≡ true → m ≡ true) → f && not m ≡ f → a && f ≡ false
far_bools true f m h e = let k : m ≡ true = h refl in grind (arith, nat_tests)
far_bools false f m h e = refl

-- what holds of no rank of both is no pair
pub no_pair : (p : Pairing) (e f : Entry) (n : ℤ) (role : ℕ) (x : ℤ) → has e.area n role x && has f.area n role x ≡ false → pair p e f n role x ≡ false
no_pair Sources e f n role x h = ap (λ b. b && are_apart e.kind f.kind n x) h
no_pair Labels e f n role x h = and_false (same_label e.kind f.kind) (has e.area n role x && has f.area n role x) h

pub close_second : (area : Area) (es kept : List Entry) → Keeps (IsFar area) es kept [] → (p : Pairing) (here : List Entry) → IsAround area here → (n : ℤ) (role : ℕ) (x : ℤ) →
    pairs p here kept n role x ≡ pairs p here es n role x
close_second area es kept k p [] around n role x = refl
close_second area es kept k p (e ∷ here) around n role x =
    let own = All-head (IsAroundOne area) e here around in
    ap₂ (λ a b. a || b)
    (kept_any (IsFar area) es kept k (λ f. pair p e f n role x)
    (λ f far. no_pair p e f n role x (far_bools (has e.area n role x) (has f.area n role x) (has area n role x) (own.around n role x) (far n role x))))
    (close_second area es kept k p here (All-tail (IsAroundOne area) e here around) n role x)

-- ---- an area around

-- an area that holds of all that this one holds of, and is around the entries from here on, is around all
pub record Surrounds (all : Area) (es : List Entry) (i : ℕ) : Type 0 where
  pub grown : (a : Area) → ((n : ℤ) (role : ℕ) (x : ℤ) → has all n role x ≡ true → has a n role x ≡ true) → IsAround a (drop i es) → IsAround a es

pub surround_step : (all next : Area) (es : List Entry) (i : ℕ) (d : Entry) → i < length es →
    ((n : ℤ) (role : ℕ) (x : ℤ) → has all n role x || has (get_or es i d).area n role x ≡ true → has next n role x ≡ true) → Surrounds all es i → Surrounds next es (i + 1)
surround_step all next es i d lt spans s = record {
  grown = λ a h k.
      let e = get_or es i d in
      let own : IsAroundOne a e = record { around = λ n role x t. h n role x (spans n role x (or_right (has all n role x) (has e.area n role x) t)) } in
      s.grown a (λ n role x t. h n role x (spans n role x (or_left (has all n role x) (has e.area n role x) t)))
      (subst (λ l. IsAround a l) (sym (at_drop_more (λ l. l) es i d lt)) (All-cons (IsAroundOne a) e (drop (i + 1) es) own k));
}
