-- No two bodies of a text have one name.
use Rattle.std.proofs.Common.{◌≡◌, ◌≢◌, ℕ, suc, ◌<◌, Bool, true, false, not, ◌&&◌, ◌||◌, if◌then◌else◌, List, [], ◌∷◌, ◌++◌, length, map, slice_index_or, refl, sym, ap, subst, ◌∙◌, arith, nat_eq, zip}
use Rattle.std.specs.Cmp.Lexicographic.{pointwise}
use Rattle.std.proofs.Math.Bool.{and-false}
use Rattle.std.proofs.lemmas.Bool.{and_from, false_from_ne_true}
use Rattle.std.proofs.lemmas.List.Folds.{list_any-append}
use Rattle.std.proofs.lemmas.Slice.Eq.{bytes_eq-Decides}
use Rattle.pb_syntax.specs.declared.core_label.CoreLabel.{CoreLabel}
use Rattle.pb_syntax.specs.declared.core_label.CoreKernel.{CoreKernel}
use Rattle.pb_syntax.specs.declared.core_label.KernelKind.{KernelKind}
use Rattle.pb_syntax.specs.declared.core_label.KernelKind.TheVariants as kind
use Rattle.pb_local.specs.Names.{AreDistinct}
use Rattle.pb_local.specs.Tree.{Program}
use Rattle.pb_local.specs.WellMade.{IsWellMade}
use Rattle.pb_ctree.specs.declared.kernel.Kind.TheVariants.{Make, Take}
use Rattle.pb_ctree.specs.declared.kernel.KName.{KName}
use Rattle.pb_ctree.specs.Functions.{has_words, named, kind_of, kernel_function, labels_functions, functions_of}
use Rattle.pb_kernels.specs.declared.file.NamedBody.{NamedBody}
use Rattle.pb_kernels.specs.Marks.{prelude_name}
use Rattle.pb_kernels.specs.Names.{kind_number, same_name, is_among, named_bodies, names_of, are_new, are_distinct}
use Rattle.pb_kernels_laws.specs.Laws.{bodies_by_name}

-- ---- names that differ from one

-- each of these names has a property
abbrev AllNames : (List ℕ → Type 0) → List (List ℕ) → Type 0
AllNames P [] = Unit {0}
AllNames P (w ∷ ws) = P w × AllNames P ws

abbrev Differs : List ℕ → List ℕ → Type 0
Differs w v = pointwise nat_eq v w ≡ false

-- no name is that of one behind it
abbrev AllDiffer : List (List ℕ) → Type 0
AllDiffer [] = Unit {0}
AllDiffer (w ∷ ws) = AllNames (Differs w) ws × AllDiffer ws

any_name : (ws : List (List ℕ)) → AllNames (λ w. Unit {0}) ws
any_name [] = tt
any_name (w ∷ ws) = (tt, any_name ws)

differs : (w v : List ℕ) → w ≢ v → Differs w v
differs w v apart = false_from_ne_true _ (λ e. apart (sym ((bytes_eq-Decides v w).0 e)))

differ_from : (w : List ℕ) (vs : List (List ℕ)) → ((j : ℕ) → j < length vs → w ≢ slice_index_or vs j []) → AllNames (Differs w) vs
differ_from w [] h = tt
differ_from w (v ∷ vs) h = (differs w v (h 0 (omega arith)), differ_from w vs (λ j less. h (suc j) (omega (arith, less))))

all_differ : (ws : List (List ℕ)) → AreDistinct ws → AllDiffer ws
all_differ [] h = tt
all_differ (w ∷ ws) h =
    (differ_from w ws (λ j less. h 0 (suc j) (omega arith) (omega (arith, less))), all_differ ws (λ i j before less. h (suc i) (suc j) (omega (arith, before)) (omega (arith, less))))

-- ---- names of bodies that differ

-- none of these is the name
abbrev pub IsUnlike : KName → List KName → Type 0
IsUnlike n [] = Unit {0}
IsUnlike n (m ∷ ms) = (same_name m n ≡ false) × IsUnlike n ms

-- no name is that of one behind it
abbrev pub AreApart : List KName → Type 0
AreApart [] = Unit {0}
AreApart (n ∷ ns) = IsUnlike n ns × AreApart ns

unlike_both : (n : KName) (a b : List KName) → IsUnlike n a → IsUnlike n b → IsUnlike n (a ++ b)
unlike_both n [] b h k = k
unlike_both n (m ∷ ms) b h k = (h.0, unlike_both n ms b h.1 k)

-- the functions of labels whose names have a property that keeps them from being the name
abbrev IsNoLabel : KName → (List ℕ → Type 0) → Type 0
IsNoLabel n P = (v : List ℕ) → P v → (same_name (named Make v) n ≡ false) × (same_name (named Take v) n ≡ false)

labels_unlike : (n : KName) (P : List ℕ → Type 0) → IsNoLabel n P → (ls : List CoreLabel) → AllNames P (map (λ l. l.name) ls) → IsUnlike n (labels_functions ls)
labels_unlike n P none [] h = tt
labels_unlike n P none (l ∷ ls) h = at (has_words l.payload) (labels_unlike n P none ls h.1) where
  at : (b : Bool) → IsUnlike n (labels_functions ls) → IsUnlike n ((if b then named Make l.name ∷ named Take l.name ∷ [] else []) ++ labels_functions ls)
  at true rest = ((none l.name h.0).0, ((none l.name h.0).1, rest))
  at false rest = rest

kernels_unlike : (n : KName) (P : List ℕ → Type 0) → ((what : KernelKind) (v : List ℕ) → P v → same_name (named (kind_of what) v) n ≡ false) → (ks : List CoreKernel) → AllNames P (map (λ k. k.name) ks) → IsUnlike n (map kernel_function ks)
kernels_unlike n P none [] h = tt
kernels_unlike n P none (k ∷ ks) h = (none k.kind k.name h.0, kernels_unlike n P none ks h.1)

-- names of kernels aren't those of labels, nor of the prelude
no_make : (w : List ℕ) (what : KernelKind) (v : List ℕ) → Unit {0} → same_name (named (kind_of what) v) (named Make w) ≡ false
no_make w kind.Compute v h = refl
no_make w kind.Choice v h = refl

no_take : (w : List ℕ) (what : KernelKind) (v : List ℕ) → Unit {0} → same_name (named (kind_of what) v) (named Take w) ≡ false
no_take w kind.Compute v h = refl
no_take w kind.Choice v h = refl

no_prelude : (what : KernelKind) (v : List ℕ) → Unit {0} → same_name (named (kind_of what) v) prelude_name ≡ false
no_prelude kind.Compute v h = refl
no_prelude kind.Choice v h = refl

-- kernels of two names differ, whatever they are for
no_kernel : (k : CoreKernel) (what : KernelKind) (v : List ℕ) → Differs k.name v → same_name (named (kind_of what) v) (kernel_function k) ≡ false
no_kernel k what v e =
    ap (λ b. nat_eq (kind_number (kind_of what)) (kind_number (kind_of k.kind)) && b) e ∙ and-false (nat_eq (kind_number (kind_of what)) (kind_number (kind_of k.kind)))

kernels_apart : (ks : List CoreKernel) → AllDiffer (map (λ k. k.name) ks) → AreApart (map kernel_function ks)
kernels_apart [] h = tt
kernels_apart (k ∷ ks) h = (kernels_unlike (kernel_function k) (Differs k.name) (no_kernel k) ks h.0, kernels_apart ks h.1)

functions_apart : (ls : List CoreLabel) (ks : List CoreKernel) → AllDiffer (map (λ l. l.name) ls) → AllDiffer (map (λ k. k.name) ks) → AreApart (labels_functions ls ++ map kernel_function ks)
functions_apart [] ks h e = kernels_apart ks e
functions_apart (l ∷ ls) ks h e = at (has_words l.payload) (functions_apart ls ks h.1 e) where
  made : IsUnlike (named Make l.name) (labels_functions ls ++ map kernel_function ks)
  made = unlike_both (named Make l.name) (labels_functions ls) (map kernel_function ks)
      (labels_unlike (named Make l.name) (Differs l.name) (λ v d. (d, refl)) ls h.0)
      (kernels_unlike (named Make l.name) (λ v. Unit {0}) (no_make l.name) ks (any_name (map (λ k. k.name) ks)))

  taken : IsUnlike (named Take l.name) (labels_functions ls ++ map kernel_function ks)
  taken = unlike_both (named Take l.name) (labels_functions ls) (map kernel_function ks)
      (labels_unlike (named Take l.name) (Differs l.name) (λ v d. (refl, d)) ls h.0)
      (kernels_unlike (named Take l.name) (λ v. Unit {0}) (no_take l.name) ks (any_name (map (λ k. k.name) ks)))

  at : (b : Bool) → AreApart (labels_functions ls ++ map kernel_function ks) → AreApart ((if b then named Make l.name ∷ named Take l.name ∷ [] else []) ++ labels_functions ls ++ map kernel_function ks)
  at true rest = ((refl, made), (taken, rest))
  at false rest = rest

-- the prelude and the functions of a text
pub names_apart : (p : Program) → IsWellMade p → AreApart (prelude_name ∷ functions_of p)
names_apart p made = (
  unlike_both prelude_name (labels_functions p.labels) (map kernel_function p.kernels)
      (labels_unlike prelude_name (λ v. Unit {0}) (λ v h. (refl, refl)) p.labels (any_name (map (λ l. l.name) p.labels)))
      (kernels_unlike prelude_name (λ v. Unit {0}) no_prelude p.kernels (any_name (map (λ k. k.name) p.kernels))),
  functions_apart p.labels p.kernels (all_differ (map (λ l. l.name) p.labels) made.labels.distinct) (all_differ (map (λ k. k.name) p.kernels) made.kernels.distinct),
)

-- ---- bodies by name

pub names_are : (names : List KName) (bodies : List (List ℕ)) → length bodies ≡ length names → names_of (named_bodies (zip names bodies)) ≡ names
names_are [] bodies e = refl
names_are (n ∷ ns) [] e = absurd cc
names_are (n ∷ ns) (b ∷ bs) e = ap (λ xs. n ∷ xs) (names_are ns bs (omega (arith, e)))

abbrev IsFresh : List NamedBody → List KName → Type 0
IsFresh before [] = Unit {0}
IsFresh before (n ∷ ns) = (is_among n before ≡ false) × IsFresh before ns

fresh_more : (before : List NamedBody) (b : NamedBody) (ns : List KName) → IsFresh before ns → IsUnlike b.name ns → IsFresh (before ++ b ∷ []) ns
fresh_more before b [] h u = tt
fresh_more before b (n ∷ ns) h u = (
  list_any-append (λ x. same_name n x.name) before (b ∷ [])
      ∙ ap (λ x. x || (same_name n b.name || false)) h.0
      ∙ ap (λ x. x || false) u.0,
  fresh_more before b ns h.1 u.1,
)

first_fresh : (ns : List KName) → IsFresh [] ns
first_fresh [] = tt
first_fresh (n ∷ ns) = (refl, first_fresh ns)

new_bodies : (before list : List NamedBody) → IsFresh before (names_of list) → AreApart (names_of list) → are_new before list ≡ true
new_bodies before [] f a = refl
new_bodies before (b ∷ bs) f a =
    and_from (not (is_among b.name before)) (are_new (before ++ b ∷ []) bs) (ap not f.0) (new_bodies (before ++ b ∷ []) bs (fresh_more before b (names_of bs) f.1 a.0) a.1)

pub bodies_distinct : (p : Program) (prelude : List ℕ) (bodies : List (List ℕ)) → IsWellMade p → length bodies ≡ length (functions_of p) → are_distinct (bodies_by_name p prelude bodies) ≡ true
bodies_distinct p prelude bodies made many =
    let all = bodies_by_name p prelude bodies in
    let same : names_of all ≡ prelude_name ∷ functions_of p = ap (λ ns. prelude_name ∷ ns) (names_are (functions_of p) bodies many) in
    new_bodies [] all (first_fresh (names_of all)) (subst AreApart (sym same) (names_apart p made))
