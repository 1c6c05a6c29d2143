-- Names as keys of a map: what a look-up finds is the body with the name.
use Rattle.std.proofs.Common.{◌≡◌, ℕ, zero, suc, ◌+◌, ◌<◌, Bool, true, false, cond, ◌&&◌, ◌||◌, List, [], ◌∷◌, ◌++◌, map, drop, get_or, length, unwrap_or, is_some, Option, Some, None, slice_get, option_map, refl, sym, ap, ◌∙◌, nat_eq, Decides, drop-cons, add-one, if◌then◌else◌}
use Rattle.std.proofs.Math.Bool.{or-false, or_assoc}
use Rattle.std.proofs.lemmas.Bool.Decides.{Decides-and, Decides-eqb, Decides-like}
use Rattle.std.proofs.lemmas.List.{map-append}
use Rattle.std.proofs.lemmas.List.Folds.{list_any-append}
use Rattle.std.proofs.lemmas.Option.{slice_get-map, slice_get_within, get_or_from_slice_get}
use Rattle.std.proofs.lemmas.Slice.Eq.{bytes_eq-Decides}
use Rattle.std.specs.List.{find, list_any}
use Rattle.std.specs.Map.{lookup}
use Rattle.indexmap.specs.IndexMap.{insert_entry}
use Rattle.indexmap.specs.IndexSet.{insert_key}
use Rattle.pb_text.proofs.Same.{same_names}
use Rattle.std.specs.Option.{option_eq}
use Rattle.pb_text.specs.contracts.name.NamePartialEq.TheImpl.{eq-value as name-eq}
use Rattle.pb_ctree.specs.contracts.kernel.KindPartialEq.TheImpl.{eq-value as kind-eq}
use Rattle.pb_ctree.specs.contracts.kernel.KNamePartialEq.TheImpl.{eq-value}
use Rattle.pb_ctree.specs.declared.kernel.Kind.{Kind}
use Rattle.pb_ctree.specs.declared.kernel.Kind.TheVariants.{Prelude, Compute, Choice, Make, Take, Room}
use Rattle.pb_ctree.specs.declared.kernel.KName.{KName}
use Rattle.pb_kernels.specs.Names.{kind_number, same_words, same_name, is_among, body_of, named_bodies, names_of, are_distinct}
use Rattle.pb_kernels.proofs.Distinct.{distinct_push}

-- ---- the `==` of names

abbrev kind_of : ℕ → Kind
kind_of zero = Prelude
kind_of (suc zero) = Compute
kind_of (suc (suc zero)) = Choice
kind_of (suc (suc (suc zero))) = Make
kind_of (suc (suc (suc (suc zero)))) = Take
kind_of (suc (suc (suc (suc (suc n))))) = Room

kind_back : (k : Kind) → kind_of (kind_number k) ≡ k
kind_back Prelude = refl
kind_back Compute = refl
kind_back Choice = refl
kind_back Make = refl
kind_back Take = refl
kind_back Room = refl

kinds_decide : (a b : Kind) → Decides (nat_eq (kind_number a) (kind_number b)) (a ≡ b)
kinds_decide a b =
    Decides-like (nat_eq (kind_number a) (kind_number b)) (λ e. sym (kind_back a) ∙ ap kind_of e ∙ kind_back b) (λ e. ap kind_number e) (Decides-eqb (kind_number a) (kind_number b))

words_decide : (a b : Option (List ℕ)) → Decides (same_words a b) (a ≡ b)
words_decide None None = (λ h. refl, λ e. refl)
words_decide None (Some w) = (λ h. cc, λ e. cc)
words_decide (Some v) None = (λ h. cc, λ e. cc)
words_decide (Some v) (Some w) =
    Decides-like (same_words (Some v) (Some w)) (λ e. ap (λ (l : List ℕ). Some l) e) (λ e. ap (λ o. unwrap_or o []) e) (bytes_eq-Decides v w)

abbrev name_of : Kind → Option (List ℕ) → KName
name_of kind name = record { kind = kind; name = name }

pub name_decides : (a b : KName) → Decides (same_name a b) (a ≡ b)
name_decides a b =
    Decides-like (same_name a b) (λ e. ap (λ k. name_of k a.name) e.0 ∙ ap (name_of b.kind) e.1) (λ e. (ap (λ n. n.kind) e, ap (λ n. n.name) e))
    (Decides-and (nat_eq (kind_number a.kind) (kind_number b.kind)) (same_words a.name b.name) (kinds_decide a.kind b.kind) (words_decide a.name b.name))

both_same : (a b c d : Bool) → a ≡ c → b ≡ d → (a && b) ≡ (c && d)
both_same a b c d e f = ap (λ x. x && b) e ∙ ap (λ x. c && x) f

kind_same : (a b : Kind) → kind-eq.it a b ≡ nat_eq (kind_number a) (kind_number b)
kind_same Prelude Prelude = refl
kind_same Prelude Compute = refl
kind_same Prelude Choice = refl
kind_same Prelude Make = refl
kind_same Prelude Take = refl
kind_same Prelude Room = refl
kind_same Compute Prelude = refl
kind_same Compute Compute = refl
kind_same Compute Choice = refl
kind_same Compute Make = refl
kind_same Compute Take = refl
kind_same Compute Room = refl
kind_same Choice Prelude = refl
kind_same Choice Compute = refl
kind_same Choice Choice = refl
kind_same Choice Make = refl
kind_same Choice Take = refl
kind_same Choice Room = refl
kind_same Make Prelude = refl
kind_same Make Compute = refl
kind_same Make Choice = refl
kind_same Make Make = refl
kind_same Make Take = refl
kind_same Make Room = refl
kind_same Take Prelude = refl
kind_same Take Compute = refl
kind_same Take Choice = refl
kind_same Take Make = refl
kind_same Take Take = refl
kind_same Take Room = refl
kind_same Room Prelude = refl
kind_same Room Compute = refl
kind_same Room Choice = refl
kind_same Room Make = refl
kind_same Room Take = refl
kind_same Room Room = refl

words_same : (a b : Option (List ℕ)) → option_eq name-eq.it a b ≡ same_words a b
words_same None None = refl
words_same None (Some w) = refl
words_same (Some v) None = refl
words_same (Some v) (Some w) = same_names v w

pub same_eq : (a b : KName) → eq-value.it a b ≡ same_name a b
same_eq a b = both_same _ _ _ _ (kind_same a.kind b.kind) (words_same a.name b.name)

pub same_test : (a : KName) → eq-value.it a ≡ same_name a
same_test a = λ j b. same_eq a b j

-- ---- look-ups

found_at : (b : Bool) (x : List ℕ) (r : Option (List ℕ)) (s : Bool) → is_some r ≡ s → is_some (cond b (Some x) r) ≡ (b || s)
found_at true x r s e = refl
found_at false x r s e = e

found : (name : KName) (es : List (KName × List ℕ)) → is_some (lookup (same_name name) es) ≡ is_among name (named_bodies es)
found name [] = refl
found name (e ∷ es) = found_at (same_name name e.0) e.1 (lookup (same_name name) es) (is_among name (named_bodies es)) (found name es)

-- a name is there where its look-up finds something
pub is_there : (name : KName) (es : List (KName × List ℕ)) → is_some (lookup (eq-value.it name) es) ≡ is_among name (named_bodies es)
is_there name es = ap (λ t. is_some (lookup t es)) (same_test name) ∙ found name es

none_from : (r : Option (List ℕ)) → is_some r ≡ false → r ≡ None
none_from None e = refl
none_from (Some x) e = cc

pub is_absent : (name : KName) (es : List (KName × List ℕ)) → is_among name (named_bodies es) ≡ false → lookup (eq-value.it name) es ≡ None
is_absent name es none = none_from (lookup (eq-value.it name) es) (is_there name es ∙ none)

body_at : (b : Bool) (x : List ℕ) (r : Option (List ℕ)) (bytes : List ℕ) → unwrap_or r [] ≡ bytes → unwrap_or (cond b (Some x) r) [] ≡ (if b then x else bytes)
body_at true x r bytes e = refl
body_at false x r bytes e = e

looked_up : (name : KName) (es : List (KName × List ℕ)) → unwrap_or (lookup (same_name name) es) [] ≡ body_of name (named_bodies es)
looked_up name [] = refl
looked_up name (e ∷ es) = body_at (same_name name e.0) e.1 (lookup (same_name name) es) (body_of name (named_bodies es)) (looked_up name es)

-- what a look-up finds is the body
pub found_body : (name : KName) (es : List (KName × List ℕ)) (r : Option (List ℕ)) → r ≡ lookup (eq-value.it name) es
    → unwrap_or r [] ≡ body_of name (named_bodies es)
found_body name es r is = ap (λ o. unwrap_or o []) is ∙ ap (λ t. unwrap_or (lookup t es) []) (same_test name) ∙ looked_up name es

-- one more entry is one more body
one_more : (es new : List (KName × List ℕ)) (name : KName) (body : List ℕ) → new ≡ es ++ (name, body) ∷ []
    → named_bodies new ≡ named_bodies es ++ record { name = name; body = body } ∷ []
one_more es new name body more = ap named_bodies more ∙ map-append _ es ((name, body) ∷ [])

entered_at : (b : Bool) (x : List ℕ) (r : Option (List ℕ)) (e : KName × List ℕ) (there rest all : List (KName × List ℕ))
    → cond b (Some x) r ≡ None → (r ≡ None → rest ≡ all) → (if b then there else e ∷ rest) ≡ e ∷ all
entered_at true x r e there rest all none h = cc
entered_at false x r e there rest all none h = ap (λ l. e ∷ l) (h none)

entered : (es : List (KName × List ℕ)) (name : KName) (body : List ℕ) → lookup (eq-value.it name) es ≡ None
    → insert_entry eq-value.it es name body ≡ es ++ (name, body) ∷ []
entered [] name body none = refl
entered (e ∷ es) name body none =
    entered_at (eq-value.it name e.0) e.1 (lookup (eq-value.it name) es) e ((e.0, body) ∷ es) (insert_entry eq-value.it es name body) (es ++ (name, body) ∷ []) none (entered es name body)

-- a body with a new name goes last
pub pushed : (es new : List (KName × List ℕ)) (name : KName) (body : List ℕ) → is_among name (named_bodies es) ≡ false
    → new ≡ insert_entry eq-value.it es name body → named_bodies new ≡ named_bodies es ++ record { name = name; body = body } ∷ []
pushed es new name body none is = one_more es new name body (is ∙ entered es name body (is_absent name es none))

pub pushed_distinct : (es new : List (KName × List ℕ)) (name : KName) (body : List ℕ) → is_among name (named_bodies es) ≡ false
    → new ≡ insert_entry eq-value.it es name body → are_distinct (named_bodies es) ≡ true → are_distinct (named_bodies new) ≡ true
pushed_distinct es new name body none is apart =
    ap are_distinct (pushed es new name body none is) ∙ distinct_push (named_bodies es) (record { name = name; body = body }) apart none

keys_named : (es : List (KName × List ℕ)) → names_of (named_bodies es) ≡ map (λ e. e.0) es
keys_named [] = refl
keys_named (e ∷ es) = ap (λ l. e.0 ∷ l) (keys_named es)

-- the name at a place
pub name_there : (es : List (KName × List ℕ)) (i : ℕ) (e : KName × List ℕ) → Some e ≡ slice_get es i → slice_get (names_of (named_bodies es)) i ≡ Some e.0
name_there es i e at = ap (λ l. slice_get l i) (keys_named es) ∙ slice_get-map (λ x. x.0) es i ∙ ap (option_map (λ x. x.0)) (sym at)

-- ---- a set of names

abbrev has : KName → List KName → Bool
has name list = list_any (λ f. same_name name f) list

with_more : (old : List KName) (f name : KName) (there : Bool) → (there ≡ true → same_name name f ≡ true → has name old ≡ true)
    → has name (if there then old else old ++ f ∷ []) ≡ (has name old || same_name name f)
with_more old f name false h = list_any-append (λ g. same_name name g) old (f ∷ []) ∙ ap (λ b. has name old || b) (or-false (same_name name f))
with_more old f name true h = by (same_name name f) (h refl)
  where
    by : (b : Bool) → (b ≡ true → has name old ≡ true) → has name old ≡ (has name old || b)
    by true e = e refl ∙ sym (ap (λ x. x || true) (e refl))
    by false e = sym (or-false (has name old))

same_way : (old : List KName) (f name : KName) → list_any (eq-value.it f) old ≡ true → same_name name f ≡ true → has name old ≡ true
same_way old f name there same =
    ap (λ x. has x old) ((name_decides name f).0 same) ∙ ap (λ t. list_any t old) (sym (same_test f)) ∙ there

pub inserted : (old new : List KName) (f name : KName) → new ≡ insert_key eq-value.it old f → has name new ≡ (has name old || same_name name f)
inserted old new f name is =
    ap (has name) is ∙ with_more old f name (list_any (eq-value.it f) old) (same_way old f name)

-- names that are in the set, or still come
abbrev pub AreInOrCome : List KName → List KName → List KName → Type 0
AreInOrCome names rest list = (name : KName) → (has name names || has name rest) ≡ has name list

pub goes_on : (list : List KName) (i : ℕ) (f : KName) (old new : List KName) → i < length list → f ≡ get_or list i f → new ≡ insert_key eq-value.it old f
    → AreInOrCome old (drop i list) list → AreInOrCome new (drop (i + 1) list) list
goes_on list i f old new less is more so_far name =
    let rest = drop (i + 1) list in
    let cut : drop i list ≡ f ∷ rest = drop-cons list i f less ∙ ap (λ x. x ∷ drop (suc i) list) (sym is) ∙ ap (λ k. f ∷ drop k list) (sym (add-one i)) in
    ap (λ b. b || has name rest) (inserted old new f name more) ∙ or_assoc (has name old) (same_name name f) (has name rest)
    ∙ ap (λ l. has name old || has name l) (sym cut) ∙ so_far name

-- ---- a search by places

cut : (xs : List KName) (i : ℕ) (x : KName) → slice_get xs i ≡ Some x → drop i xs ≡ x ∷ drop (i + 1) xs
cut xs i x at =
    drop-cons xs i x (slice_get_within xs i x at) ∙ ap (λ y. y ∷ drop (suc i) xs) (get_or_from_slice_get xs i x x at) ∙ ap (λ k. x ∷ drop k xs) (sym (add-one i))

pub found_here : (test : KName → Bool) (xs : List KName) (i : ℕ) (x : KName) → slice_get xs i ≡ Some x → test x ≡ true
    → find test xs ≡ find test (drop i xs) → Some x ≡ find test xs
found_here test xs i x at passes so_far =
    sym (so_far ∙ ap (find test) (cut xs i x at) ∙ ap (λ b. cond b (Some x) (find test (drop (i + 1) xs))) passes)

pub found_later : (test : KName → Bool) (xs : List KName) (i : ℕ) (x : KName) → slice_get xs i ≡ Some x → test x ≡ false
    → find test xs ≡ find test (drop i xs) → find test xs ≡ find test (drop (i + 1) xs)
found_later test xs i x at fails so_far =
    so_far ∙ ap (find test) (cut xs i x at) ∙ ap (λ b. cond b (Some x) (find test (drop (i + 1) xs))) fails
