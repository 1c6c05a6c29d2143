-- Where no body is lost by its name, each stands in one of two kernel files.
use Rattle.std.proofs.Common.{◌≡◌, ℕ, ◌⊎◌, inl, inr, Bool, true, false, not, ◌&&◌, ◌||◌, cond, List, [], ◌∷◌, Option, None, Some, is_some, Result, Ok, Err, slice_get, refl, sym, ap, subst, ◌∙◌, true≢false}
use Rattle.std.specs.Prelude.{find}
use Rattle.std.specs.List.{filter}
use Rattle.std.proofs.lemmas.Slice.Eq.{bytes_eq-Decides}
use Rattle.pb_ctree.specs.declared.kernel.KName.{KName}
use Rattle.pb_kernels.specs.declared.fault.KernelFault.{KernelFault}
use Rattle.pb_kernels.specs.declared.file.NamedBody.{NamedBody}
use Rattle.pb_kernels.specs.Files.{program_file}
use Rattle.pb_kernels.specs.Names.{body_of, is_among, names_of, same_name}
use Rattle.pb_kernels.proofs.Keys.{name_decides}
use Rattle.pb_renew_merge.specs.declared.renewed.Renewed.{Renewed}
use Rattle.pb_renew_text.specs.declared.wanted.Wanted.{Wanted}
use Rattle.pb_renew_merge.specs.Lost.{Keeps, NothingLost, first_lost, first_misplaced, is_kept, keeps, or_next}
use Rattle.pb_renew_merge.specs.Left.{left_text}
use Rattle.pb_renew_merge.specs.Renewed.{IsLeft, IsRenewal}

-- ---- tests of names

both : (a b : Bool) → (a && b) ≡ true → (a ≡ true) × (b ≡ true)
both true b e = (refl, e)
both false b e = absurd (true≢false (sym e))

-- a list that keeps a body is the list of a kernel file that keeps it
pub kept_so : (name : KName) (body bytes : List ℕ) (list : List NamedBody) → program_file bytes ≡ Ok list → keeps name body list ≡ true → Keeps name body bytes
kept_so name body bytes list read e =
    let p = both _ _ e in
    record { list = list; read = read; there = p.0; same = (bytes_eq-Decides (body_of name list) body).0 p.1 }

either : (a b : Bool) → (a || b) ≡ true → (a ≡ true) ⊎ (b ≡ true)
either true b e = inl refl
either false b e = inr e

-- where no name of a list fails a test, each name among its bodies passes
kept_each : (test : KName → Bool) (list : List NamedBody) (name : KName) → find (λ n. not (test n)) (names_of list) ≡ None → is_among name list ≡ true → test name ≡ true
kept_each test [] name none among = absurd (true≢false (sym among))
kept_each test (b ∷ bs) name none among = by_test (test b.name) (same_name name b.name) refl refl (kept_each test bs name) none among where
  by_test : (t s : Bool) → test b.name ≡ t → same_name name b.name ≡ s
      → (find (λ n. not (test n)) (names_of bs) ≡ None → is_among name bs ≡ true → test name ≡ true)
      → cond (not t) (Some b.name) (find (λ n. not (test n)) (names_of bs)) ≡ None → (s || is_among name bs) ≡ true → test name ≡ true
  by_test true true passes same rest found there = subst (λ (n : KName). test n ≡ true) (sym ((name_decides name b.name).0 same)) passes
  by_test true false passes same rest found there = rest found there
  by_test false s passes same rest found there = absurd (true≢false (ap is_some found))

-- the same, where none is taken out of it
kept_all : (test : KName → Bool) (list : List NamedBody) (name : KName) → filter (λ n. not (test n)) (names_of list) ≡ [] → is_among name list ≡ true → test name ≡ true
kept_all test [] name none among = absurd (true≢false (sym among))
kept_all test (b ∷ bs) name none among = by_test (test b.name) (same_name name b.name) refl refl (kept_all test bs name) none among where
  by_test : (t s : Bool) → test b.name ≡ t → same_name name b.name ≡ s
      → (filter (λ n. not (test n)) (names_of bs) ≡ [] → is_among name bs ≡ true → test name ≡ true)
      → cond (not t) (b.name ∷ filter (λ n. not (test n)) (names_of bs)) (filter (λ n. not (test n)) (names_of bs)) ≡ [] → (s || is_among name bs) ≡ true → test name ≡ true
  by_test true true passes same rest found there = subst (λ (n : KName). test n ≡ true) (sym ((name_decides name b.name).0 same)) passes
  by_test true false passes same rest found there = rest found there
  by_test false s passes same rest found there = absurd (true≢false (ap is_some (ap (λ (l : List KName). slice_get l 0) found)))

-- ---- what a renewal loses

abbrev bodies_of : Result (List NamedBody) KernelFault → List NamedBody
bodies_of (Ok list) = list
bodies_of (Err fault) = []

-- a file is read in one way
read_so : (bytes : List ℕ) (a b : List NamedBody) → program_file bytes ≡ Ok a → program_file bytes ≡ Ok b → a ≡ b
read_so bytes a b x y = ap bodies_of (sym x ∙ y)

kept_in : (name : KName) (body text left : List ℕ) (now list : List NamedBody) → program_file text ≡ Ok now → program_file left ≡ Ok list
    → (keeps name body now ≡ true) ⊎ (keeps name body list ≡ true) → Keeps name body text ⊎ Keeps name body left
kept_in name body text left now list again read (inl e) = inl (kept_so name body text now again e)
kept_in name body text left now list again read (inr e) = inr (kept_so name body left list read e)

-- where each body of one file is found in one of two others, nothing is lost
none_lost : (old text left : List ℕ) (from now list : List NamedBody) → program_file old ≡ Ok from → program_file text ≡ Ok now → program_file left ≡ Ok list
    → first_lost from now list ≡ None → NothingLost old text left
none_lost old text left from now list read_old read_text read_left none = λ of_old read name among.
    let same = read_so old of_old from read read_old in
    let there : is_among name from ≡ true = subst (λ (l : List NamedBody). is_among name l ≡ true) same among in
    let kept = kept_each (λ n. is_kept n from now list) from name none there in
    subst (λ (l : List NamedBody). Keeps name (body_of name l) text ⊎ Keeps name (body_of name l) left) (sym same)
    (kept_in name (body_of name from) text left now list read_text read_left (either _ _ kept))

neither : (a b : Option KName) → or_next a b ≡ None → (a ≡ None) × (b ≡ None)
neither None b e = (refl, e)
neither (Some name) b e = absurd (true≢false (ap is_some e))

-- where each old body is found in one of the two, nothing is lost
pub nothing_lost : (renewed : Renewed) (list again : List NamedBody) (left : List ℕ) → program_file left ≡ Ok again → first_misplaced renewed.old renewed.kept list again ≡ None
    → (out : List ℕ) (wanted : Wanted) → IsRenewal out wanted renewed → NothingLost out renewed.text.items left
nothing_lost renewed list again left read none out wanted is =
    none_lost out renewed.text.items left renewed.old renewed.kept again is.read is.again read (neither _ _ none).0

once : (name : KName) (body left : List ℕ) → Keeps name body left ⊎ Keeps name body left → Keeps name body left ⊎ Keeps name body []
once name body left (inl k) = inl k
once name body left (inr k) = inl k

-- where each body that was there before is found again, none of them is lost
pub all_kept : (renewed : Renewed) (list again : List NamedBody) (before left : List ℕ) → program_file before ≡ Ok list → program_file left ≡ Ok again
    → first_misplaced renewed.old renewed.kept list again ≡ None → NothingLost before left []
all_kept renewed list again before left read made none = λ of_before is name among.
    once name (body_of name of_before) left (none_lost before left left list again again read made made (neither _ _ (neither _ _ none).1).0 of_before is name among)

-- where each body that was made is one that was there before or an old one, no other comes
pub none_added : (renewed : Renewed) (list again : List NamedBody) (before left : List ℕ) → program_file before ≡ Ok list → program_file left ≡ Ok again
    → first_misplaced renewed.old renewed.kept list again ≡ None
    → (out : List ℕ) (wanted : Wanted) → IsRenewal out wanted renewed → NothingLost left before out
none_added renewed list again before left read made none out wanted is =
    none_lost left before out again list renewed.old made read is.read (neither _ _ (neither _ _ none).1).1

-- where the new text lacks none, nothing is lost, whatever was left
pub nothing_gone : (renewed : Renewed) (left : List ℕ) → renewed.gone.items ≡ []
    → (out : List ℕ) (wanted : Wanted) → IsRenewal out wanted renewed → NothingLost out renewed.text.items left
nothing_gone renewed left none out wanted is = λ old of_out name among.
    let same = read_so out old renewed.old of_out is.read in
    let there : is_among name renewed.old ≡ true = subst (λ (l : List NamedBody). is_among name l ≡ true) same among in
    let kept = kept_all (λ n. keeps n (body_of n renewed.old) renewed.kept) renewed.old name (sym is.gone ∙ none) there in
    inl (subst (λ (l : List NamedBody). Keeps name (body_of name l) renewed.text.items) (sym same) (kept_so name (body_of name renewed.old) renewed.text.items renewed.kept is.again kept))

-- the bytes that were made, of a kernel file that was read
pub is_left : (renewed : Renewed) (list : List NamedBody) (before left : List ℕ) → program_file before ≡ Ok list → left ≡ left_text before list renewed.old renewed.gone.items → IsLeft renewed before left
is_left renewed list before left read bytes = record { list = list; read = read; bytes = bytes }
