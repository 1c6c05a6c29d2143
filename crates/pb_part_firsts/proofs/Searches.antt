-- What the ranks find first in the blocks with a number, a step at a time.
use Rattle.std.proofs.Common.{◌≡◌, ◌<◌, ◌≤◌, ◌+◌, ℕ, nat_eq, ℤ, pos, List, [], ◌∷◌, ◌++◌, Bool, true, false, ◌||◌, ◌&&◌, drop, length, get_or, ap, ap₂, sym, ◌∙◌, if◌then◌else◌, arith, drop_of_length-le}
use Rattle.std.proofs.lemmas.Bool.Decides.{nat_tests}
use Rattle.std.proofs.lemmas.List.{at_drop_more}
use Rattle.std.proofs.Math.Bool.{or-false}
use Rattle.pb_affine.specs.declared.range.NRange.{NRange}
use Rattle.pb_core_language.specs.declared.protocol.CoreRole.{CoreRole}
use Rattle.pb_core_language.specs.declared.tree.CoreBlock.{CoreBlock, fold_out-CoreBlock, out-CoreBlock}
use Rattle.pb_core_language.specs.declared.tree.CoreStmt.{CoreStmt}
use Rattle.pb_core_language.specs.Flat.{stop, takes_part}
use Rattle.pb_core_language.specs.FlatOf.{flat_block}
use Rattle.pb_core_language.specs.Outcomes.{Outcome, nothing_first, firsts}
use Rattle.pb_core_language.specs.Parts.{firsts_within}
use Rattle.pb_core_language.specs.Plain.{MarkedBlock, MarkedStmt, plain_block, plain_stmt, kind_layer, block_layer, stmt_layer}
use Rattle.pb_core_language.specs.Tree.{Mark, StmtTree, loop, BlockTree}
use Rattle.pb_core_language.specs.Verdict.{IsIn}
use Rattle.pb_part_areas.specs.declared.area.Area.{Area}
use Rattle.pb_part_areas.specs.Areas.{have}
use Rattle.pb_core_flat.specs.Seated.{rank, is_rank}
use Rattle.pb_core_flat.specs.OutcomeSets.{is_outcome}
use Rattle.pb_core_flat.proofs.OutcomeSets.{is_append}
use Rattle.pb_part_takers.specs.declared.held.Held.{Held}
use Rattle.pb_part_takers.specs.Loops.{held_of, ids_of}
use Rattle.pb_part_firsts.specs.declared.firsts.Entry.{Entry}
use Rattle.pb_part_firsts.specs.Takers.{IsWhole, Adds, part_in}
use Rattle.pb_part_firsts.specs.Firsts.{finds, Gives, first_in}
use Rattle.pb_part_firsts.specs.Answers.{Answers, numbered, below_of, within_of, across_of}
use Rattle.pb_part_firsts.proofs.Steps.{tree_of, trees_of, tree_is}

twice : (a b d p q : Bool) → b ≡ a || p → d ≡ b || q → d ≡ a || (p || q)
twice a b d p q e f = grind (arith, nat_tests)

pub answers_as : {range : NRange} {roles : List CoreRole} {passed all : List Area} {old new : List Entry} (outs outs2 : ℤ → ℕ → ℤ → List Outcome) →
    ((n : ℤ) (role : ℕ) (x : ℤ) → IsIn range n → is_rank roles n role x ≡ true → outs n role x ≡ outs2 n role x) → Answers range roles passed all old new outs → Answers range roles passed all old new outs2
answers_as {roles = roles} {passed = passed} {old = old} outs outs2 same a = record {
  out = λ n role x o w r e. a.out n role x o w r e ∙ ap (λ z. finds roles old n role x o || is_outcome o z) (same n role x w r);
  rest = λ n role x w r. a.rest n role x w r ∙ ap (λ z. have passed n role x || is_outcome nothing_first z) (same n role x w r);
}

pub answers_none : {range : NRange} {roles : List CoreRole} {passed : List Area} {old : List Entry} → Answers range roles passed passed old old (λ n role x. [])
answers_none = record { out = λ n role x o w r e. sym (or-false _); rest = λ n role x w r. sym (or-false _) }

pub answers_both : {range : NRange} {roles : List CoreRole} {passed mid all : List Area} {old now new : List Entry} (outs outs2 : ℤ → ℕ → ℤ → List Outcome) →
    Answers range roles passed mid old now outs → Answers range roles mid all now new outs2 → Answers range roles passed all old new (λ n role x. outs n role x ++ outs2 n role x)
answers_both {roles = roles} {passed = passed} {mid = mid} {all = all} {old = old} {now = now} {new = new} outs outs2 a b = record {
  out = λ n role x o w r e. twice (finds roles old n role x o) (finds roles now n role x o) (finds roles new n role x o) (is_outcome o (outs n role x)) (is_outcome o (outs2 n role x)) (a.out n role x o w r e) (b.out n role x o w r e)
      ∙ ap (λ z. finds roles old n role x o || z) (sym (is_append (outs n role x) (outs2 n role x) o));
  rest = λ n role x w r. twice (have passed n role x) (have mid n role x) (have all n role x) (is_outcome nothing_first (outs n role x)) (is_outcome nothing_first (outs2 n role x)) (a.rest n role x w r) (b.rest n role x w r)
      ∙ ap (λ z. have passed n role x || z) (sym (is_append (outs n role x) (outs2 n role x) nothing_first));
}

-- ---- one block

block_number : (b : CoreBlock) → (plain_block b).mark.number ≡ (out-CoreBlock b).number
block_number b = ap (λ a. a.mark.number) (fold_out-CoreBlock StmtTree MarkedBlock MarkedStmt kind_layer block_layer stmt_layer b)

number_is : (a b c : ℕ) → a ≡ b → c ≡ b → true ≡ nat_eq a c
number_is a b c e f = grind (arith, nat_tests)

number_is_not : (a b c : ℕ) → (a ≡ b → ⊥) → c ≡ b → false ≡ nat_eq a c
number_is_not a b c e f = grind (arith, nat_tests)

pub here_found : {range : NRange} {roles : List CoreRole} {told left passed all : List Area} {old new : List Entry} (whole : List Area) (held : List Held) (k : ℕ) (b : CoreBlock) → k ≡ (out-CoreBlock b).number → IsWhole range roles whole →
    ((n : ℤ) (role : ℕ) (x : ℤ) → have told n role x ≡ have whole n role x) → ((n : ℤ) (role : ℕ) (x : ℤ) → have all n role x ≡ have passed n role x || have left n role x) →
    Gives range roles told left old new (first_in roles held (plain_block b).block) → Answers range roles passed all old new (numbered roles held k (plain_block b).mark (plain_block b).block)
here_found {roles = roles} {told = told} {left = left} {passed = passed} {old = old} whole held k b e w0 same add g =
    let outs : ℤ → ℕ → ℤ → List Outcome = first_in roles held (plain_block b).block in
    let all_told : (n : ℤ) (role : ℕ) (x : ℤ) → IsIn _ n → is_rank roles n role x ≡ true → have told n role x ≡ true = λ n role x w r. same n role x ∙ w0.is n role x w ∙ r in
    answers_as outs _ (λ n role x w r. ap (λ z. if z then outs n role x else []) (number_is k (out-CoreBlock b).number (plain_block b).mark.number e (block_number b)))
    (record {
      out = λ n role x o w r h. g.out n role x o w r h ∙ ap (λ z. finds roles old n role x o || (z && is_outcome o (outs n role x))) (all_told n role x w r);
      rest = λ n role x w r. add n role x ∙ ap (λ z. have passed n role x || z) (g.rest n role x w r ∙ ap (λ z. z && is_outcome nothing_first (outs n role x)) (all_told n role x w r));
    })

pub here_not : {range : NRange} {roles : List CoreRole} {passed : List Area} {old : List Entry} (held : List Held) (k : ℕ) (b : CoreBlock) → (k ≡ (out-CoreBlock b).number → ⊥) →
    Answers range roles passed passed old old (numbered roles held k (plain_block b).mark (plain_block b).block)
here_not {roles = roles} held k b e =
    answers_as _ _ (λ n role x w r. ap (λ z. if z then first_in roles held (plain_block b).block n role x else []) (number_is_not k (out-CoreBlock b).number (plain_block b).mark.number e (block_number b))) answers_none

-- ---- statements and branches

pub within_step : {range : NRange} {roles : List CoreRole} {passed mid all : List Area} {old now new : List Entry} (held : List Held) (k : ℕ) (items : List CoreStmt) (i : ℕ) (s : CoreStmt) → i < length items → s ≡ get_or items i s →
    Answers range roles passed mid old now (below_of roles held k (plain_stmt s).stmt) → Answers range roles mid all now new (within_of roles held k (tree_of (drop (i + 1) items))) →
    Answers range roles passed all old new (within_of roles held k (tree_of (drop i items)))
within_step {roles = roles} held k items i s lt is a b = answers_as _ _ (λ n role x w r.
    ap (λ y. within_of roles held k (tree_of (y ∷ drop (i + 1) items)) n role x) is ∙ sym (at_drop_more (λ z. within_of roles held k (tree_of z) n role x) items i s lt))
    (answers_both (below_of roles held k (plain_stmt s).stmt) (within_of roles held k (tree_of (drop (i + 1) items))) a b)

pub within_done : {range : NRange} {roles : List CoreRole} {passed mid : List Area} {old now : List Entry} (held : List Held) (k : ℕ) (b : CoreBlock) (items : List CoreStmt) (i : ℕ) → items ≡ (out-CoreBlock b).list.items → length items ≤ i →
    ((all : List Area) (new : List Entry) → Answers range roles mid all now new (within_of roles held k (tree_of (drop i items))) → Answers range roles passed all old new (within_of roles held k (tree_of items))) →
    Answers range roles passed mid old now (within_of roles held k (plain_block b).block)
within_done {roles = roles} {mid = mid} {now = now} held k b items i same le inv =
    answers_as _ _ (λ n role x w r. ap (λ z. within_of roles held k z n role x) (sym (tree_is b items same)))
    (inv mid now (answers_as _ _ (λ n role x w r. sym (ap (λ z. within_of roles held k (tree_of z) n role x) (drop_of_length-le items le))) answers_none))

pub across_step : {range : NRange} {roles : List CoreRole} {passed one two all : List Area} {old now later new : List Entry} (held : List Held) (k : ℕ) (items : List CoreBlock) (i : ℕ) (b : CoreBlock) → i < length items → b ≡ get_or items i b →
    Answers range roles passed one old now (numbered roles held k (plain_block b).mark (plain_block b).block) → Answers range roles one two now later (within_of roles held k (plain_block b).block) →
    Answers range roles two all later new (across_of roles held k (trees_of (drop (i + 1) items))) → Answers range roles passed all old new (across_of roles held k (trees_of (drop i items)))
across_step {roles = roles} held k items i b lt is a c d = answers_as _ _ (λ n role x w r.
    ap (λ y. across_of roles held k (trees_of (y ∷ drop (i + 1) items)) n role x) is ∙ sym (at_drop_more (λ z. across_of roles held k (trees_of z) n role x) items i b lt))
    (answers_both (numbered roles held k (plain_block b).mark (plain_block b).block) _ a (answers_both (within_of roles held k (plain_block b).block) (across_of roles held k (trees_of (drop (i + 1) items))) c d))

pub across_done : {range : NRange} {roles : List CoreRole} {passed mid : List Area} {old now : List Entry} (held : List Held) (k : ℕ) (items : List CoreBlock) (i : ℕ) → length items ≤ i →
    ((all : List Area) (new : List Entry) → Answers range roles mid all now new (across_of roles held k (trees_of (drop i items))) → Answers range roles passed all old new (across_of roles held k (trees_of items))) →
    Answers range roles passed mid old now (across_of roles held k (trees_of items))
across_done {roles = roles} {mid = mid} {now = now} held k items i le inv =
    inv mid now (answers_as _ _ (λ n role x w r. sym (ap (λ z. across_of roles held k (trees_of z) n role x) (drop_of_length-le items le))) answers_none)

-- ---- a loop

pub below_in_loop : {range : NRange} {roles : List CoreRole} {passed one all : List Area} {old now new : List Entry} (held none inner : List Held) (empty start areas : List Area) (m : Mark) (id k : ℕ) (body : BlockTree) →
    empty ≡ [] → start ≡ [] → ids_of none ≡ id ∷ ids_of held → ids_of inner ≡ id ∷ ids_of held →
    ((n : ℤ) (role : ℕ) (x : ℤ) → held_of none n role x ≡ have empty n role x ∷ held_of held n role x) →
    ((n : ℤ) (role : ℕ) (x : ℤ) → held_of inner n role x ≡ have areas n role x ∷ held_of held n role x) →
    Adds range roles start areas (part_in roles none body) →
    Answers range roles passed one old now (numbered roles inner k m body) → Answers range roles one all now new (within_of roles inner k body) →
    Answers range roles passed all old new (below_of roles held k (loop id m body))
below_in_loop {roles = roles} held none inner empty start areas m id k body e0 e1 en ei hn hi adds a b = answers_as _ _ (λ n role x w r.
    let me : ℕ = rank roles n role x in
    let in_none : held_of none n role x ≡ false ∷ held_of held n role x = hn n role x ∙ ap (λ z. have z n role x ∷ held_of held n role x) e0 in
    let in_body : have areas n role x ≡ takes_part (false ∷ held_of held n role x) me (flat_block roles n (id ∷ ids_of held) (pos 0) body stop) =
    adds.is n role x w r ∙ ap (λ z. have z n role x || part_in roles none body n role x) e1
    ∙ ap₂ (λ y z. takes_part y me (flat_block roles n z (pos 0) body stop)) in_none en in
    ap₂ (λ y z. (if nat_eq k m.number then firsts y me (flat_block roles n z (pos 0) body stop) else []) ++ firsts_within roles n me k z y body) (hi n role x ∙ ap (λ z. z ∷ held_of held n role x) in_body) ei)
    (answers_both (numbered roles inner k m body) (within_of roles inner k body) a b)

pub below_as : {range : NRange} {roles : List CoreRole} {passed all : List Area} {old new : List Entry} (held : List Held) (k : ℕ) (s t : StmtTree) → s ≡ t → Answers range roles passed all old new (below_of roles held k t) → Answers range roles passed all old new (below_of roles held k s)
below_as {roles = roles} held k s t e a = answers_as _ _ (λ n role x w r. ap (λ z. below_of roles held k z n role x) (sym e)) a

pub below_none : {range : NRange} {roles : List CoreRole} {passed : List Area} {old : List Entry} (held : List Held) (k : ℕ) (s t : StmtTree) → s ≡ t →
    ((n : ℤ) (role : ℕ) (x : ℤ) → [] ≡ below_of roles held k t n role x) → Answers range roles passed passed old old (below_of roles held k s)
below_none {roles = roles} held k s t e f = below_as held k s t e (answers_as _ _ (λ n role x w r. f n role x) answers_none)
