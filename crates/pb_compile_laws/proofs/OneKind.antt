-- Where a file keeps the rule on names, each name has one kind, and what is declared is new.
use Rattle.std.proofs.Common.{◌≡◌, ℕ, suc, ◌<◌, Bool, true, false, ◌||◌, ◌&&◌, not, nat_eq, if◌then◌else◌, List, [], ◌∷◌, ◌++◌, length, get_or, refl, sym, ◌∙◌, arith}
use Rattle.std.proofs.lemmas.Bool.Decides.{nat_tests}
use Rattle.std.proofs.lemmas.Bool.{or_from, or_parts, true≢false}
use Rattle.std.proofs.Math.Bool.{and-false}
use Rattle.pb_syntax.specs.declared.core_label.CoreKernel.{CoreKernel}
use Rattle.pb_syntax.specs.declared.core_label.KernelKind.{KernelKind}
use Rattle.pb_syntax.specs.declared.core_label.KernelKind.TheVariants as K
use Rattle.pb_syntax.specs.Tree.{PlainStatement, message, foreach, loop, again, choice, compute, barrier, broadcast, reduce, allreduce, PlainStatements, nothing, more, PlainBranches, no_branch, branch}
use Rattle.pb_core_language.specs.Names.{Name, same, Kind, same_kind, kind_number, a_compute_kernel, a_choice_kernel, Use, declared, bound, mentioned, Scope, with_loop, with_variable, Visit, range_visits, end_visits, stmt_visits, block_visits, branches_visits}
use Rattle.pb_core_language.specs.FileRules.{is_visited, has_other_kind, is_misused, misnamed}
use Rattle.pb_core_language.specs.Meaning.{position_of, has_kernel, kernel_names, kernels_at, kernels_in, kernels_among, kernels_after}
use Rattle.pb_compile_laws.proofs.Words.{swapped}
use Rattle.pb_compile_laws.proofs.Bools.{listed_if}

abbrev IsNew : Use → Bool → Type 0
IsNew declared b = b ≡ false
IsNew bound b = Unit {0}
IsNew mentioned b = Unit {0}

-- against what stands before
abbrev IsSettled : List Visit → Visit → Type 0
IsSettled before w = (has_other_kind w.spot.name w.kind before ≡ false) × IsNew w.how (is_visited w.spot.name before)

abbrev pub AreSettled : List Visit → List Visit → Type 0
AreSettled before [] = Unit {0}
AreSettled before (w ∷ ws) = IsSettled before w × AreSettled before ws

-- each against each before it
abbrev pub Pairs : List Visit → Type 0
Pairs [] = Unit {0}
Pairs (v ∷ vs) = AreSettled (v ∷ []) vs × Pairs vs

-- ---- from the rule

pub other_both : (x : Name) (k : Kind) (xs ys : List Visit) → has_other_kind x k (xs ++ ys) ≡ false → (has_other_kind x k xs ≡ false) × (has_other_kind x k ys ≡ false)
other_both x k [] ys h = (refl, h)
other_both x k (v ∷ xs) ys h =
    let here : Bool = same x v.spot.name && not (same_kind k v.kind) in
    let g = other_both x k xs ys (or_parts here (has_other_kind x k (xs ++ ys)) h).1 in
    (or_from _ _ (or_parts here (has_other_kind x k (xs ++ ys)) h).0 g.0, g.1)

visited_both : (x : Name) (xs ys : List Visit) → is_visited x (xs ++ ys) ≡ false → (is_visited x xs ≡ false) × (is_visited x ys ≡ false)
visited_both x [] ys h = (refl, h)
visited_both x (v ∷ xs) ys h =
    let g = visited_both x xs ys (or_parts (same x v.spot.name) (is_visited x (xs ++ ys)) h).1 in
    (or_from _ _ (or_parts (same x v.spot.name) (is_visited x (xs ++ ys)) h).0 g.0, g.1)

new_both : (how : Use) (x : Name) (xs ys : List Visit) → IsNew how (is_visited x (xs ++ ys)) → IsNew how (is_visited x xs) × IsNew how (is_visited x ys)
new_both declared x xs ys h = visited_both x xs ys h
new_both bound x xs ys h = (tt, tt)
new_both mentioned x xs ys h = (tt, tt)

settled_both : (xs ys ws : List Visit) → AreSettled (xs ++ ys) ws → AreSettled xs ws × AreSettled ys ws
settled_both xs ys [] h = (tt, tt)
settled_both xs ys (w ∷ ws) h =
    let g = settled_both xs ys ws h.1 in
    let o = other_both w.spot.name w.kind xs ys h.0.0 in
    let n = new_both w.how w.spot.name xs ys h.0.1 in
    (((o.0, n.0), g.0), ((o.1, n.1), g.1))

pub split_settled : (before xs ys : List Visit) → AreSettled before (xs ++ ys) → AreSettled before xs × AreSettled before ys
split_settled before [] ys h = (tt, h)
split_settled before (x ∷ xs) ys h = let g = split_settled before xs ys h.1 in ((h.0, g.0), g.1)

pub pairs_both : (xs ys : List Visit) → Pairs (xs ++ ys) → Pairs xs × Pairs ys
pairs_both [] ys h = (tt, h)
pairs_both (x ∷ xs) ys h = let g = pairs_both xs ys h.1 in (((split_settled (x ∷ []) xs ys h.0).0, g.0), g.1)

settle : (roles : List Name) (before vs : List Visit) → misnamed roles before vs ≡ [] → AreSettled before vs × Pairs vs
settle roles before [] h = (tt, tt)
settle roles before (v ∷ vs) h =
    let g = listed_if (has_other_kind v.spot.name v.kind before || is_misused roles before v v.how) v.spot.place (misnamed roles (before ++ v ∷ []) vs) h in
    let rest = settle roles (before ++ v ∷ []) vs g.1 in
    let both = settled_both before (v ∷ []) vs rest.0 in
    ((((or_parts (has_other_kind v.spot.name v.kind before) (is_misused roles before v v.how) g.0).0, fresh v.how (or_parts (has_other_kind v.spot.name v.kind before) (is_misused roles before v v.how) g.0).1), both.0), (both.1, rest.1))
  where
    fresh : (how : Use) → is_misused roles before v how ≡ false → IsNew how (is_visited v.spot.name before)
    fresh declared m = m
    fresh bound m = tt
    fresh mentioned m = tt

pub pairs : (roles : List Name) (vs : List Visit) → misnamed roles [] vs ≡ [] → Pairs vs
pairs roles vs h = (settle roles [] vs h).1

-- ---- one kind for a name

abbrev pub AreOfOneKind : List Visit → List Visit → Type 0
AreOfOneKind all [] = Unit {0}
AreOfOneKind all (w ∷ ws) = (has_other_kind w.spot.name w.kind all ≡ false) × AreOfOneKind all ws

pub one_both : (all xs ys : List Visit) → AreOfOneKind all (xs ++ ys) → AreOfOneKind all xs × AreOfOneKind all ys
one_both all [] ys h = (tt, h)
one_both all (x ∷ xs) ys h = let g = one_both all xs ys h.1 in ((h.0, g.0), g.1)

same_either : (a b : Name) → same a b ≡ same b a
same_either a b = at (same a b) (same b a) refl refl
  where
    at : (u v : Bool) → same a b ≡ u → same b a ≡ v → same a b ≡ same b a
    at true true e f = e ∙ sym f
    at false false e f = e ∙ sym f
    at true false e f = absurd (true≢false (sym e ∙ swapped b a f))
    at false true e f = absurd (true≢false (sym f ∙ swapped a b e))

kind_either : (a b : Kind) → same_kind a b ≡ same_kind b a
kind_either a b = numbers (kind_number a) (kind_number b)
  where
    numbers : (m n : ℕ) → nat_eq m n ≡ nat_eq n m
    numbers m n = grind (arith, nat_tests)

kind_self : (t : Bool) (k : Kind) → (t && not (same_kind k k)) ≡ false
kind_self t k = rw (itself (kind_number k)) (and-false t)
  where
    itself : (n : ℕ) → nat_eq n n ≡ true
    itself n = grind (arith, nat_tests)

backwards : (v : Visit) (vs : List Visit) → AreSettled (v ∷ []) vs → has_other_kind v.spot.name v.kind vs ≡ false
backwards v [] h = refl
backwards v (w ∷ vs) h = or_from _ _ (rw (same_either v.spot.name w.spot.name, kind_either v.kind w.kind) (or_parts (same w.spot.name v.spot.name && not (same_kind w.kind v.kind)) false h.0.0).0) (backwards v vs h.1)

forwards : (v : Visit) (all ws : List Visit) → AreSettled (v ∷ []) ws → AreOfOneKind all ws → AreOfOneKind (v ∷ all) ws
forwards v all [] h g = tt
forwards v all (w ∷ ws) h g = (or_from _ _ (or_parts (same w.spot.name v.spot.name && not (same_kind w.kind v.kind)) false h.0.0).0 g.0, forwards v all ws h.1 g.1)

pub of_one_kind : (vs : List Visit) → Pairs vs → AreOfOneKind vs vs
of_one_kind [] h = tt
of_one_kind (v ∷ vs) h = (or_from _ _ (kind_self (same v.spot.name v.spot.name) v.kind) (backwards v vs h.0), forwards v vs vs h.0 (of_one_kind vs h.1))

-- ---- kernels

abbrev pub kernel_kind : KernelKind → Kind
kernel_kind K.Choice = a_choice_kernel
kernel_kind K.Compute = a_compute_kernel

-- a kernel has the name and another kind
abbrev pub other_kernel : Name → Kind → List CoreKernel → Bool
other_kernel x k [] = false
other_kernel x k (r ∷ rs) = (same x r.name && not (same_kind k (kernel_kind r.kind))) || other_kernel x k rs

kernels_none : (x : Name) (k : Kind) (xs ys : List CoreKernel) → other_kernel x k xs ≡ false → other_kernel x k ys ≡ false → other_kernel x k (xs ++ ys) ≡ false
kernels_none x k [] ys h g = g
kernels_none x k (r ∷ xs) ys h g =
    let here : Bool = same x r.name && not (same_kind k (kernel_kind r.kind)) in
    or_from _ _ (or_parts here (other_kernel x k xs) h).0 (kernels_none x k xs ys (or_parts here (other_kernel x k xs) h).1 g)

module _ (x : Name) (k : Kind) (c : Name) where
  mutual
    none_at : (scope : Scope) (s : PlainStatement) → has_other_kind x k (stmt_visits c scope s) ≡ false → other_kernel x k (kernels_at s) ≡ false
    none_at scope (message l p f t) h = refl
    none_at scope (foreach at y over place items) h =
        none_in (with_variable y.name scope) items (other_both x k (range_visits c scope over) (block_visits c (with_variable y.name scope) items) (or_parts _ (has_other_kind x k (range_visits c scope over ++ block_visits c (with_variable y.name scope) items)) h).1).1
    none_at scope (loop at y place body) h = none_in (with_loop y.name scope) body (or_parts _ (has_other_kind x k (block_visits c (with_loop y.name scope) body)) h).1
    none_at scope (again at y) h = refl
    none_at scope (choice at kernel who bs) h =
        or_from _ _ (or_parts _ (has_other_kind x k (end_visits c scope scope who ++ branches_visits c scope bs)) h).0
        (none_among scope bs (other_both x k (end_visits c scope scope who) (branches_visits c scope bs) (or_parts _ (has_other_kind x k (end_visits c scope scope who ++ branches_visits c scope bs)) h).1).1)
    none_at scope (compute at kernel who) h = or_from _ _ (or_parts _ (has_other_kind x k (end_visits c scope scope who)) h).0 refl
    none_at scope (barrier at) h = refl
    none_at scope (broadcast at l p f) h = refl
    none_at scope (reduce at l p o t) h = refl
    none_at scope (allreduce at l p o) h = refl

    pub none_in : (scope : Scope) (b : PlainStatements) → has_other_kind x k (block_visits c scope b) ≡ false → other_kernel x k (kernels_in b) ≡ false
    none_in scope nothing h = refl
    none_in scope (more s rest) h =
        let g = other_both x k (stmt_visits c scope s) (block_visits c scope rest) h in
        kernels_none x k (kernels_at s) (kernels_in rest) (none_at scope s g.0) (none_in scope rest g.1)

    none_among : (scope : Scope) (bs : PlainBranches) → has_other_kind x k (branches_visits c scope bs) ≡ false → other_kernel x k (kernels_among bs) ≡ false
    none_among scope no_branch h = refl
    none_among scope (branch at b bs) h =
        let g = other_both x k (block_visits c scope b) (branches_visits c scope bs) h in
        kernels_none x k (kernels_in b) (kernels_among bs) (none_in scope b g.0) (none_among scope bs g.1)

pub none_after : (x : Name) (k : Kind) (there ks : List CoreKernel) → other_kernel x k there ≡ false → other_kernel x k ks ≡ false → other_kernel x k (kernels_after there ks) ≡ false
none_after x k there [] h g = h
none_after x k there (r ∷ ks) h g =
    none_after x k (if has_kernel r.name there then there else there ++ r ∷ []) ks (at (has_kernel r.name there)) (or_parts (same x r.name && not (same_kind k (kernel_kind r.kind))) (other_kernel x k ks) g).1
  where
    at : (b : Bool) → other_kernel x k (if b then there else there ++ r ∷ []) ≡ false
    at true = h
    at false = kernels_none x k there (r ∷ []) h (or_from _ _ (or_parts (same x r.name && not (same_kind k (kernel_kind r.kind))) (other_kernel x k ks) g).0 refl)

pub kind_at : (x : Name) (k : Kind) (rows : List CoreKernel) (d : CoreKernel) → position_of x (kernel_names rows) < length rows → other_kernel x k rows ≡ false → same_kind k (kernel_kind (get_or rows (position_of x (kernel_names rows)) d).kind) ≡ true
kind_at x k [] d few h = absurd (omega (arith, few))
kind_at x k (r ∷ rs) d few h = at (same x r.name) few h (kind_at x k rs d)
  where
    yes : (t : Bool) (rest : Bool) → ((true && not t) || rest) ≡ false → t ≡ true
    yes true rest h = refl
    yes false rest h = absurd (grind arith)

    at : (b : Bool) → (if b then 0 else suc (position_of x (kernel_names rs))) < suc (length rs) → ((b && not (same_kind k (kernel_kind r.kind))) || other_kernel x k rs) ≡ false
        → (position_of x (kernel_names rs) < length rs → other_kernel x k rs ≡ false → same_kind k (kernel_kind (get_or rs (position_of x (kernel_names rs)) d).kind) ≡ true)
        → same_kind k (kernel_kind (get_or (r ∷ rs) (if b then 0 else suc (position_of x (kernel_names rs))) d).kind) ≡ true
    at true few h rest = yes (same_kind k (kernel_kind r.kind)) (other_kernel x k rs) h
    at false few h rest = rest (omega (arith, few)) h
