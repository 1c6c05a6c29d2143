-- The cuts of a sound protocol are small.
use Rattle.std.proofs.Common.{◌≡◌, ℕ, ◌≤◌, ℤ, pos, negsuc, ◌+ℤ◌, ◌≤ℤ◌, int_le, Bool, true, false, nat_lt, nat_le, Option, Some, None, List, [], ◌∷◌, ◌++◌, length, refl, sym, ap, ◌∙◌, subst, arith}
use Rattle.std.specs.List.{All}
use Rattle.std.proofs.lemmas.Bool.{and_parts, and_from, true≢false, leb-true}
use Rattle.std.proofs.lemmas.Int.{ints}
use Rattle.std.proofs.lemmas.List.Elements.{All-nil, All-cons}
use Rattle.pb_affine.specs.declared.lin.Base.{Base}
use Rattle.pb_affine.specs.declared.lin.Base.TheVariants.{Fixed, Param, Var}
use Rattle.pb_affine.specs.declared.lin.Lin.{Lin}
use Rattle.pb_affine.specs.Values.{is_up_to, shifted}
use Rattle.pb_cases.specs.Breakpoints.{IsCut, IsDivision, Division}
use Rattle.pb_core_language.specs.declared.protocol.CoreRole.{CoreRole}
use Rattle.pb_core_language.specs.declared.tree.CoreEnd.{CoreEnd}
use Rattle.pb_core_language.specs.Tree.{StmtTree, message, foreach, loop, again, choice, run, barrier, broadcast, reduce, allreduce, BlockTree, nothing, more, BranchTrees, no_branch, branch}
use Rattle.pb_core_language.specs.declared.tree.Bounds.{Bounds}
use Rattle.pb_core_language.specs.Plain.{Protocol}
use Rattle.pb_core_language.specs.Cuts.{edges, moving, lin_cuts, end_cuts, stmt_cuts, block_cuts, branches_cuts, role_cuts, cuts}
use Rattle.pb_core_language.specs.Sound.{is_small, is_over_n, is_bound, Rows, is_end, is_stmt, is_block, are_branches, has_branch, are_roles, reaches, is_range, rows_of, is_sound}
use Rattle.pb_rules.specs.Verdict.{HasFewCases}
use Rattle.pb_rules.specs.CutLists.{is_cut, are_cuts, HaveSame}
use Rattle.pb_rules.proofs.CutSteps.{cuts_both}
use Rattle.pb_rules.proofs.CutSets.{same_cuts, same_division}

le_true : (a b : ℤ) → int_le a b ≡ true → a ≤ℤ b
le_true a b h = grind (arith, ints)

true_le : (a b : ℤ) → a ≤ℤ b → int_le a b ≡ true
true_le a b h = grind (arith, ints)

-- within 100,000 of zero
record IsLow (x : ℤ) : Type 0 where
  low : negsuc 99999 ≤ℤ x
  high : x ≤ℤ pos 100000

lowered : (x : ℤ) → is_small x ≡ true → IsLow x
lowered x h = let t = and_parts (int_le (negsuc 99999) x) (int_le x (pos 100000)) h in record { low = le_true (negsuc 99999) x t.0; high = le_true x (pos 100000) t.1 }

cut_from : (b : Base) (x : ℤ) → is_over_n b ≡ true → negsuc 999999 ≤ℤ x → x ≤ℤ pos 1000000 → is_cut (record { base = b; off = x }) ≡ true
cut_from b x n h k = and_from (is_over_n b) _ n (and_from (int_le (negsuc 999999) x) (int_le x (pos 1000000)) (true_le (negsuc 999999) x h) (true_le x (pos 1000000) k))

-- an end and the one behind it, with an offset or not
plain_low : (x : ℤ) → negsuc 99999 ≤ℤ x → negsuc 999999 ≤ℤ x
plain_low x h = omega (arith, ints)

plain_high : (x : ℤ) → x ≤ℤ pos 100000 → x ≤ℤ pos 1000000
plain_high x h = omega (arith, ints)

next_low : (x : ℤ) → negsuc 99999 ≤ℤ x → negsuc 999999 ≤ℤ (x +ℤ pos 1)
next_low x h = omega (arith, ints)

next_high : (x : ℤ) → x ≤ℤ pos 100000 → (x +ℤ pos 1) ≤ℤ pos 1000000
next_high x h = omega (arith, ints)

sum_low : (x c : ℤ) → negsuc 99999 ≤ℤ x → negsuc 99999 ≤ℤ c → negsuc 999999 ≤ℤ (x +ℤ c)
sum_low x c h k = omega (arith, ints)

sum_high : (x c : ℤ) → x ≤ℤ pos 100000 → c ≤ℤ pos 100000 → (x +ℤ c) ≤ℤ pos 1000000
sum_high x c h k = omega (arith, ints)

over_low : (x c : ℤ) → negsuc 99999 ≤ℤ x → negsuc 99999 ≤ℤ c → negsuc 999999 ≤ℤ (x +ℤ c +ℤ pos 1)
over_low x c h k = omega (arith, ints)

over_high : (x c : ℤ) → x ≤ℤ pos 100000 → c ≤ℤ pos 100000 → (x +ℤ c +ℤ pos 1) ≤ℤ pos 1000000
over_high x c h k = omega (arith, ints)

two_cuts : (a b : Lin) → is_cut a ≡ true → is_cut b ≡ true → are_cuts (a ∷ b ∷ []) ≡ true
two_cuts a b h k = and_from (is_cut a) _ h (and_from (is_cut b) true k refl)

edge_cuts : (low high : Lin) → is_bound low ≡ true → is_bound high ≡ true → are_cuts (edges low high) ≡ true
edge_cuts low high h k =
    let a = and_parts (is_over_n low.base) (is_small low.off) h in
    let b = and_parts (is_over_n high.base) (is_small high.off) k in
    let la = lowered low.off a.1 in
    let lb = lowered high.off b.1 in
    two_cuts low (shifted high (pos 1))
    (cut_from low.base low.off a.0 (plain_low low.off la.low) (plain_high low.off la.high))
    (cut_from high.base (high.off +ℤ pos 1) b.0 (next_low high.off lb.low) (next_high high.off lb.high))

-- bounds of a foreach that are small, where there is one
abbrev AreBounds : Option Bounds → Type 0
AreBounds None = Unit {0}
AreBounds (Some h) = (is_bound h.low ≡ true) × (is_bound h.high ≡ true)

moving_cuts : (over : Option Bounds) (c : ℤ) → AreBounds over → is_small c ≡ true → are_cuts (moving over c) ≡ true
moving_cuts None c h k = refl
moving_cuts (Some o) c h k =
    let a = and_parts (is_over_n o.low.base) (is_small o.low.off) h.0 in
    let b = and_parts (is_over_n o.high.base) (is_small o.high.off) h.1 in
    let la = lowered o.low.off a.1 in
    let lb = lowered o.high.off b.1 in
    let lc = lowered c k in
    two_cuts (shifted o.low c) (shifted (shifted o.high c) (pos 1))
    (cut_from o.low.base (o.low.off +ℤ c) a.0 (sum_low o.low.off c la.low lc.low) (sum_high o.low.off c la.high lc.high))
    (cut_from o.high.base (o.high.off +ℤ c +ℤ pos 1) b.0 (over_low o.high.off c lb.low lc.low) (over_high o.high.off c lb.high lc.high))

at_base : (over : Option Bounds) (b : Base) (c : ℤ) → AreBounds over → is_small c ≡ true → are_cuts (lin_cuts over b c) ≡ true
at_base over Fixed c h k = edge_cuts (record { base = Fixed; off = c }) (record { base = Fixed; off = c }) k k
at_base over Param c h k = edge_cuts (record { base = Param; off = c }) (record { base = Param; off = c }) k k
at_base over Var c h k = moving_cuts over c h k

at_end : (rows : Rows) (varies : Bool) (over : Option Bounds) (e : CoreEnd) → AreBounds over → is_end rows varies e ≡ true → are_cuts (end_cuts over e) ≡ true
at_end rows varies over e h k = at_base over e.at.base e.at.off h (and_parts _ _ (and_parts (nat_lt e.role rows.roles) _ k).1).1

both : (xs ys : List Lin) → are_cuts xs ≡ true → are_cuts ys ≡ true → are_cuts (xs ++ ys) ≡ true
both xs ys h k = cuts_both xs ys ∙ and_from (are_cuts xs) (are_cuts ys) h k

module _ (rows : Rows) where
  mutual
    at_stmt : (varies : Bool) (opens : List ℕ) (over : Option Bounds) (s : StmtTree) → AreBounds over → is_stmt rows varies opens s ≡ true → are_cuts (stmt_cuts over s) ≡ true
    at_stmt varies opens over (message l f t) h k =
        let es = and_parts (is_end rows varies f) (is_end rows varies t) (and_parts _ _ k).1 in
        both (end_cuts over f) (end_cuts over t) (at_end rows varies over f h es.0) (at_end rows varies over t h es.1)
    at_stmt varies opens over (foreach b m items) h k =
        let p = and_parts (is_bound b.low) _ k in
        let q = and_parts (is_bound b.high) _ p.1 in
        both (edges b.low b.high) (block_cuts (Some b) items) (edge_cuts b.low b.high p.0 q.0) (at_block true opens (Some b) items (p.0, q.0) q.1)
    at_stmt varies opens over (loop id m body) h k = at_block false (id ∷ opens) over body h (and_parts _ _ k).1
    at_stmt varies opens over (again id) h k = refl
    at_stmt varies opens over (choice c at bs) h k =
        let es = and_parts (is_end rows false at) _ (and_parts _ _ k).1 in
        both (end_cuts over at) (branches_cuts over bs) (at_end rows false over at h es.0) (at_branches opens over bs h (and_parts (has_branch bs) _ es.1).1)
    at_stmt varies opens over (run c at) h k = at_end rows varies over at h (and_parts _ _ k).1
    at_stmt varies opens over barrier h k = refl
    at_stmt varies opens over (broadcast l root) h k = at_end rows false over root h (and_parts _ _ k).1
    at_stmt varies opens over (reduce l op root) h k = at_end rows false over root h (and_parts _ _ k).1
    at_stmt varies opens over (allreduce l op) h k = refl

    at_block : (varies : Bool) (opens : List ℕ) (over : Option Bounds) (b : BlockTree) → AreBounds over → is_block rows varies opens b ≡ true → are_cuts (block_cuts over b) ≡ true
    at_block varies opens over nothing h k = refl
    at_block varies opens over (more m s b) h k =
        let p = and_parts (is_stmt rows varies opens s) (is_block rows varies opens b) (and_parts _ _ k).1 in
        both (stmt_cuts over s) (block_cuts over b) (at_stmt varies opens over s h p.0) (at_block varies opens over b h p.1)

    at_branches : (opens : List ℕ) (over : Option Bounds) (bs : BranchTrees) → AreBounds over → are_branches rows opens bs ≡ true → are_cuts (branches_cuts over bs) ≡ true
    at_branches opens over no_branch h k = refl
    at_branches opens over (branch m b bs) h k =
        let p = and_parts (is_block rows false opens b) (are_branches rows opens bs) k in
        both (block_cuts over b) (branches_cuts over bs) (at_block false opens over b h p.0) (at_branches opens over bs h p.1)

at_roles : (rs : List CoreRole) → are_roles rs ≡ true → are_cuts (role_cuts rs) ≡ true
at_roles [] h = refl
at_roles (r ∷ rs) h =
    let p = and_parts (is_bound r.low) _ h in
    let q = and_parts (is_bound r.high) (are_roles rs) p.1 in
    both (edges r.low r.high) (role_cuts rs) (edge_cuts r.low r.high p.0 q.0) (at_roles rs q.1)

pub small_cuts : (p : Protocol) → is_sound p ≡ true → are_cuts (cuts p) ≡ true
small_cuts p sound =
    let a = and_parts (nat_le (length p.roles) 64) _ (and_parts (is_range p.range) _ sound).1 in
    let b = and_parts (are_roles p.roles) (is_block (rows_of p) false [] p.body.block) a.1 in
    both (role_cuts p.roles) (block_cuts None p.body.block) (at_roles p.roles b.0) (at_block (rows_of p) false [] None p.body.block tt b.1)

-- ---- what the search for breakpoints requires

no_var : (b : Base) → is_over_n b ≡ true → b ≡ Var → ⊥
no_var b h e = true≢false (sym h ∙ ap is_over_n e)

is_one : (l : Lin) → is_cut l ≡ true → IsCut l
is_one l h =
    let p = and_parts (is_over_n l.base) _ h in
    let q = and_parts (int_le (negsuc 999999) l.off) (int_le l.off (pos 1000000)) p.1 in
    record { no_var = no_var l.base p.0; small = record { low = le_true (negsuc 999999) l.off q.0; high = le_true l.off (pos 1000000) q.1 } }

all_cuts : (ls : List Lin) → are_cuts ls ≡ true → All IsCut ls
all_cuts [] h = All-nil IsCut
all_cuts (l ∷ ls) h = let p = and_parts (is_cut l) (are_cuts ls) h in All-cons IsCut l ls (is_one l p.0) (all_cuts ls p.1)

pub are_all : (p : Protocol) (list v : List Lin) → is_sound p ≡ true → list ≡ v → HaveSame v (cuts p) → All IsCut list
are_all p list v sound e same = subst (All IsCut) (sym e) (same_cuts v (cuts p) same (all_cuts (cuts p) (small_cuts p sound)))

up_to_high : (low : ℕ) (high : Option ℕ) → reaches low high ≡ true → is_up_to (pos low) high ≡ true
up_to_high low None h = refl
up_to_high low (Some high) h = true_le (pos low) (pos high) (to_int low high (leb-true low high h)) where
  to_int : (a b : ℕ) → a ≤ b → pos a ≤ℤ pos b
  to_int a b h = omega (arith, ints)

pub has_first_n : (p : Protocol) → is_sound p ≡ true → is_up_to (pos p.range.low) p.range.high ≡ true
has_first_n p sound =
    let r = and_parts (is_range p.range) _ sound in
    up_to_high p.range.low p.range.high (and_parts (nat_le p.range.low 100000) _ (and_parts (nat_lt 0 p.range.low) _ r.0).1).1

pub few_cases : (p : Protocol) (list v : List Lin) (d : Division) → list ≡ v → HaveSame v (cuts p) → d.range ≡ p.range → d.cuts ≡ list → IsDivision d → length d.breakpoints ≤ 4096 → HasFewCases p
few_cases p list v d e same r c division few = record {
  breakpoints = d.breakpoints;
  division = subst (λ x. IsDivision (record { range = x; cuts = cuts p; breakpoints = d.breakpoints })) r
      (same_division d.range v (cuts p) d.breakpoints same (subst (λ l. IsDivision (record { range = d.range; cuts = l; breakpoints = d.breakpoints })) (c ∙ e) division));
  few = few;
}
