-- One statement, branch or value of a list that is gone through.
use Rattle.std.proofs.Common.{◌≡◌, ℕ, ◌+◌, ◌-◌, ◌<◌, ◌≤◌, zero, suc, Some, List, [], ◌∷◌, length, map, drop, slice_index_or, refl, sym, ap, ◌∙◌, subst, arith}
use Rattle.std.proofs.Common.{Option}
use Rattle.pb_syntax.specs.Tree.{PlainStatement, PlainBlock}
use Rattle.pb_strips_syntax.specs.declared.tree.StripStatement.{StripStatement}
use Rattle.pb_strips_syntax.specs.declared.tree.StripBlock.{StripBlock, out-StripBlock, fold_out-StripBlock}
use Rattle.pb_strips_syntax.specs.Columns.{numbers, up_from}
use Rattle.pb_strips_syntax.specs.Strips.{Strip, PlainStripBlock, StripBranches, no_branch, Strips, strips_of, more, nothing, branches_of, branch}
use Rattle.pb_strips_syntax.specs.Plain.{plain_statement, plain_block, statement_layer, block_layer}
use Rattle.pb_strips_syntax.specs.Flattening.{flat_in, flat_among}
use Rattle.pb_syntax.specs.Tree as tree
use Rattle.pb_syntax.specs.Tree.{statements_of}
use Rattle.pb_strips_flatten.specs.Parts.{blocks_among, part_at, part_in, part_for, part_among, part_branch, joined, no_part}

-- ---- blocks

listed : (b : StripBlock) → strips_of (map plain_statement (out-StripBlock b).list.items) ≡ (plain_block b).list
listed b = sym (ap (λ (p : PlainStripBlock). p.list) (fold_out-StripBlock Strip PlainStripBlock statement_layer block_layer b))

pub placed : (b : StripBlock) → (out-StripBlock b).place ≡ (plain_block b).place
placed b = sym (ap (λ (p : PlainStripBlock). p.place) (fold_out-StripBlock Strip PlainStripBlock statement_layer block_layer b))

no_items : (list : List StripStatement) → length list ≡ 0 → strips_of (map plain_statement list) ≡ nothing
no_items [] e = refl
no_items (s ∷ ss) e = absurd (omega (arith, e))

copies_of_nothing : (cs : List ℕ) → part_for cs nothing ≡ no_part
copies_of_nothing [] = refl
copies_of_nothing (c ∷ cs) = copies_of_nothing cs

-- what is empty gives nothing, however often
pub none_of_nothing : (cs : List ℕ) (b : StripBlock) → length (out-StripBlock b).list.items ≡ 0 → part_for cs (plain_block b).list ≡ no_part
none_of_nothing cs b e =
    ap (λ (ss : Strips). part_for cs ss) (sym (listed b) ∙ no_items (out-StripBlock b).list.items e) ∙ copies_of_nothing cs

-- ---- lists

more_left : (list : List StripStatement) (i : ℕ) (x : StripStatement) → i < length list → x ≡ slice_index_or list i x →
    strips_of (map plain_statement (drop i list)) ≡ more (plain_statement x) (strips_of (map plain_statement (drop (suc i) list)))
more_left [] i x h e = absurd (omega (arith, h))
more_left (y ∷ ys) zero x h e = ap (λ (z : StripStatement). more (plain_statement z) (strips_of (map plain_statement ys))) (sym e)
more_left (y ∷ ys) (suc i) x h e = more_left ys i x (omega (arith, h)) e

pub unrolled : (list : List StripStatement) (i : ℕ) (x : StripStatement) (v : Option ℕ) → i < length list → x ≡ slice_index_or list i x →
    part_in (strips_of (map plain_statement (drop i list))) v ≡ joined (part_at (plain_statement x) v) (part_in (strips_of (map plain_statement (drop (i + 1) list))) v)
unrolled list i x v h e =
    let one : suc i ≡ i + 1 = omega arith in
    ap (λ (ss : Strips). part_in ss v)
    (subst (λ (n : ℕ). strips_of (map plain_statement (drop i list)) ≡ more (plain_statement x) (strips_of (map plain_statement (drop n list)))) one (more_left list i x h e))

more_branches : (list : List StripBlock) (i : ℕ) (x : StripBlock) (v : Option ℕ) → i < length list → x ≡ slice_index_or list i x →
    part_among (branches_of (map plain_block (drop i list))) v ≡ joined (part_branch (plain_block x).place (plain_block x).list v) (part_among (branches_of (map plain_block (drop (suc i) list))) v)
more_branches [] i x v h e = absurd (omega (arith, h))
more_branches (y ∷ ys) zero x v h e = ap (λ (z : StripBlock). joined (part_branch (plain_block z).place (plain_block z).list v) (part_among (branches_of (map plain_block ys)) v)) (sym e)
more_branches (y ∷ ys) (suc i) x v h e = more_branches ys i x v (omega (arith, h)) e

pub branches_unrolled : (list : List StripBlock) (i : ℕ) (x : StripBlock) (v : Option ℕ) → i < length list → x ≡ slice_index_or list i x →
    part_among (branches_of (map plain_block (drop i list))) v ≡ joined (part_branch (plain_block x).place (plain_block x).list v) (part_among (branches_of (map plain_block (drop (i + 1) list))) v)
branches_unrolled list i x v h e =
    let one : suc i ≡ i + 1 = omega arith in
    subst (λ (n : ℕ). part_among (branches_of (map plain_block (drop i list))) v ≡ joined (part_branch (plain_block x).place (plain_block x).list v) (part_among (branches_of (map plain_block (drop n list))) v)) one (more_branches list i x v h e)

pub first_number : (c high : ℕ) → c ≤ high → numbers c high ≡ c ∷ numbers (c + 1) high
first_number c high h =
    let one : suc high - c ≡ suc (high - c) = omega (arith, h) in
    let two : high - c ≡ suc high - (c + 1) = omega (arith, h) in
    let three : suc c ≡ c + 1 = omega arith in
    ap (λ (n : ℕ). up_from c n) one
    ∙ ap (λ (n : ℕ). c ∷ up_from (suc c) n) two
    ∙ ap (λ (d : ℕ). c ∷ up_from d (suc high - (c + 1))) three

pub numbers_unrolled : (c high : ℕ) (body : Strips) → c ≤ high →
    part_for (numbers c high) body ≡ joined (part_in body (Some c)) (part_for (numbers (c + 1) high) body)
numbers_unrolled c high body h = ap (λ (cs : List ℕ). part_for cs body) (first_number c high h)

-- ---- branches

pub all_branches : (bs : StripBranches) (v : Option ℕ) → flat_among bs v ≡ tree.branches_of (blocks_among bs v)
all_branches no_branch v = refl
all_branches (branch at first rest) v = ap (λ (b : tree.PlainBranches). tree.branch at (statements_of (flat_in first v)) b) (all_branches rest v)
