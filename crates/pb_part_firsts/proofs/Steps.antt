-- What a rank finds first in blocks, branches and loops, a step at a time.
use Rattle.std.proofs.Common.{◌≡◌, ◌<◌, ◌≤◌, ◌+◌, ◌==◌, ℕ, nat_lt, ℤ, pos, cond, List, [], ◌∷◌, ◌++◌, Bool, true, false, ◌||◌, ◌&&◌, drop, map, length, get_or, refl, ap, ap₂, sym, ◌∙◌, if◌then◌else◌, arith, subst, None, drop_of_length-le}
use Rattle.std.proofs.lemmas.Bool.{and_parts, false≢true, cond-true, cond-false}
use Rattle.std.proofs.lemmas.Bool.Decides.{nat_tests}
use Rattle.std.proofs.lemmas.List.{at_drop_more}
use Rattle.pb_affine.specs.declared.range.NRange.{NRange}
use Rattle.pb_core_language.specs.declared.protocol.CoreRole.{CoreRole}
use Rattle.pb_core_language.specs.declared.tree.CoreBlock.{CoreBlock, out-CoreBlock}
use Rattle.pb_core_language.specs.declared.tree.CoreStmt.{CoreStmt}
use Rattle.pb_core_language.specs.declared.tree.CoreEnd.{CoreEnd}
use Rattle.pb_affine.specs.declared.lin.Lin.{Lin}
use Rattle.pb_core_language.specs.Cuts.{stmt_cuts, block_cuts, branches_cuts}
use Rattle.pb_part_takers.specs.Pieces.{AreAmong}
use Rattle.pb_part_takers.proofs.Among.{among_left, among_right}
use Rattle.pb_core_language.specs.Flat.{Block, stop, takes_part}
use Rattle.pb_core_language.specs.FlatOf.{rank_of, flat_block, flat_branches, from_none, from_one}
use Rattle.pb_core_language.specs.Outcomes.{Outcome, nothing_first, other_first, or_then, firsts}
use Rattle.pb_core_language.specs.Plain.{plain_block, plain_stmt, block_of, branches_of}
use Rattle.pb_core_language.specs.Sound.{Rows, is_small, is_end, is_stmt, is_block, are_branches, has_branch}
use Rattle.pb_core_language.specs.Tree.{Mark, StmtTree, message, foreach, loop, again, choice, run, barrier, broadcast, reduce, allreduce, BlockTree, more, BranchTrees, no_branch, branch, is_again}
use Rattle.pb_part_areas.specs.declared.area.Area.{Area}
use Rattle.pb_part_areas.specs.Areas.{have}
use Rattle.pb_core_flat.specs.Seated.{rank, is_at}
use Rattle.pb_core_flat.specs.OutcomeSets.{is_outcome}
use Rattle.pb_core_flat.proofs.Choices.{choice_finds}
use Rattle.pb_core_flat.proofs.OutcomeSets.{or_then_assoc, or_then_left, or_then_right, is_append}
use Rattle.pb_core_flat.proofs.OutcomesAdd.{finds_first, loop_finds}
use Rattle.pb_core_flat.proofs.Seats.{end_is_at}
use Rattle.pb_part_firsts.specs.declared.firsts.Entry.{Entry}
use Rattle.pb_part_takers.specs.declared.held.Held.{Held}
use Rattle.pb_part_takers.specs.Loops.{held_of, ids_of}
use Rattle.pb_part_firsts.specs.Takers.{Adds, part_in}
use Rattle.pb_part_firsts.specs.Firsts.{finds, Gives, first_in}
use Rattle.pb_part_firsts.specs.Fitting.{EntriesFit}
use Rattle.pb_part_firsts.specs.Turns.{first_stop, AddsStops}
use Rattle.pb_part_firsts.specs.Gathered.{is_plain, Passes}
use Rattle.pb_part_firsts.specs.Stopping.{first_at, first_among, AmongGives}
use Rattle.pb_part_firsts.proofs.Outcomes.{in_turn, given_as, given_set, none_stops}
use Rattle.pb_core_language.proofs.Plains.{plain_list}
use Rattle.pb_part_firsts.proofs.Singles.{end_small}

abbrev pub tree_of : List CoreStmt → BlockTree
tree_of items = block_of (map plain_stmt items)

abbrev pub trees_of : List CoreBlock → BranchTrees
trees_of items = branches_of (map plain_block items)

pub tree_is : (b : CoreBlock) (items : List CoreStmt) → items ≡ (out-CoreBlock b).list.items → (plain_block b).block ≡ tree_of items
tree_is b items same = plain_list b ∙ ap tree_of (sym same)

-- ---- what sound blocks have

stmts_sound : (rows : Rows) (ids : List ℕ) (items : List CoreStmt) (i : ℕ) (s : CoreStmt) → i < length items → s ≡ get_or items i s → is_block rows false ids (tree_of (drop i items)) ≡ true →
    is_stmt rows false ids (plain_stmt s).stmt && is_block rows false ids (tree_of (drop (i + 1) items)) ≡ true
stmts_sound rows ids items i s lt is h =
    ap (λ k. is_block rows false ids (tree_of (k ∷ drop (i + 1) items))) is ∙ sym (at_drop_more (λ z. is_block rows false ids (tree_of z)) items i s lt) ∙ h

pub stmt_sound : (rows : Rows) (ids : List ℕ) (items : List CoreStmt) (i : ℕ) (s : CoreStmt) → i < length items → s ≡ get_or items i s → is_block rows false ids (tree_of (drop i items)) ≡ true →
    is_stmt rows false ids (plain_stmt s).stmt ≡ true
stmt_sound rows ids items i s lt is h = (and_parts (is_stmt rows false ids (plain_stmt s).stmt) (is_block rows false ids (tree_of (drop (i + 1) items))) (stmts_sound rows ids items i s lt is h)).0

pub rest_sound : (rows : Rows) (ids : List ℕ) (items : List CoreStmt) (i : ℕ) (s : CoreStmt) → i < length items → s ≡ get_or items i s → is_block rows false ids (tree_of (drop i items)) ≡ true →
    is_block rows false ids (tree_of (drop (i + 1) items)) ≡ true
rest_sound rows ids items i s lt is h = (and_parts (is_stmt rows false ids (plain_stmt s).stmt) (is_block rows false ids (tree_of (drop (i + 1) items))) (stmts_sound rows ids items i s lt is h)).1

pub tree_sound : (rows : Rows) (ids : List ℕ) (b : CoreBlock) (items : List CoreStmt) → items ≡ (out-CoreBlock b).list.items → is_block rows false ids (plain_block b).block ≡ true → is_block rows false ids (tree_of items) ≡ true
tree_sound rows ids b items same h = ap (is_block rows false ids) (sym (tree_is b items same)) ∙ h

branches_sound : (rows : Rows) (ids : List ℕ) (items : List CoreBlock) (i : ℕ) (b : CoreBlock) → i < length items → b ≡ get_or items i b → are_branches rows ids (trees_of (drop i items)) ≡ true →
    is_block rows false ids (plain_block b).block && are_branches rows ids (trees_of (drop (i + 1) items)) ≡ true
branches_sound rows ids items i b lt is h =
    ap (λ k. are_branches rows ids (trees_of (k ∷ drop (i + 1) items))) is ∙ sym (at_drop_more (λ z. are_branches rows ids (trees_of z)) items i b lt) ∙ h

pub branch_sound : (rows : Rows) (ids : List ℕ) (items : List CoreBlock) (i : ℕ) (b : CoreBlock) → i < length items → b ≡ get_or items i b → are_branches rows ids (trees_of (drop i items)) ≡ true →
    is_block rows false ids (plain_block b).block ≡ true
branch_sound rows ids items i b lt is h = (and_parts (is_block rows false ids (plain_block b).block) (are_branches rows ids (trees_of (drop (i + 1) items))) (branches_sound rows ids items i b lt is h)).0

pub others_sound : (rows : Rows) (ids : List ℕ) (items : List CoreBlock) (i : ℕ) (b : CoreBlock) → i < length items → b ≡ get_or items i b → are_branches rows ids (trees_of (drop i items)) ≡ true →
    are_branches rows ids (trees_of (drop (i + 1) items)) ≡ true
others_sound rows ids items i b lt is h = (and_parts (is_block rows false ids (plain_block b).block) (are_branches rows ids (trees_of (drop (i + 1) items))) (branches_sound rows ids items i b lt is h)).1

-- ---- a block

at_first : (roles : List CoreRole) (held : List Held) (items : List CoreStmt) (i : ℕ) (s : CoreStmt) (n : ℤ) (role : ℕ) (x : ℤ) → i < length items → s ≡ get_or items i s →
    first_in roles held (more (plain_stmt s).mark (plain_stmt s).stmt (tree_of (drop (i + 1) items))) n role x ≡ first_in roles held (tree_of (drop i items)) n role x
at_first roles held items i s n role x lt is =
    ap (λ k. first_in roles held (tree_of (k ∷ drop (i + 1) items)) n role x) is ∙ sym (at_drop_more (λ z. first_in roles held (tree_of z) n role x) items i s lt)

split_first : (rows : Rows) (roles : List CoreRole) (held : List Held) (m : Mark) (s : StmtTree) (rest : BlockTree) (n : ℤ) (role : ℕ) (x : ℤ) → is_stmt rows false (ids_of held) s ≡ true →
    or_then (first_at roles held m s n role x) (if is_again s then nothing_first ∷ [] else first_in roles held rest n role x) ≡ first_in roles held (more m s rest) n role x
split_first rows roles held m s rest n role x h =
    sym (finds_first rows false (ids_of held) roles n (pos 0) (rank roles n role x) (held_of held n role x) (ids_of held) m s rest h)

next_is : (rows : Rows) (roles : List CoreRole) (held : List Held) (items : List CoreStmt) (i : ℕ) (s : CoreStmt) (n : ℤ) (role : ℕ) (x : ℤ) → i < length items → s ≡ get_or items i s →
    is_block rows false (ids_of held) (tree_of (drop i items)) ≡ true → is_again (plain_stmt s).stmt ≡ false →
    or_then (first_at roles held (plain_stmt s).mark (plain_stmt s).stmt n role x) (first_in roles held (tree_of (drop (i + 1) items)) n role x) ≡ first_in roles held (tree_of (drop i items)) n role x
next_is rows roles held items i s n role x lt is h e =
    ap (or_then (first_at roles held (plain_stmt s).mark (plain_stmt s).stmt n role x)) (sym (cond-false (is_again (plain_stmt s).stmt) (nothing_first ∷ []) (first_in roles held (tree_of (drop (i + 1) items)) n role x) e))
    ∙ split_first rows roles held (plain_stmt s).mark (plain_stmt s).stmt (tree_of (drop (i + 1) items)) n role x (stmt_sound rows (ids_of held) items i s lt is h)
    ∙ at_first roles held items i s n role x lt is

last_is : (rows : Rows) (roles : List CoreRole) (held : List Held) (items : List CoreStmt) (i : ℕ) (s : CoreStmt) (n : ℤ) (role : ℕ) (x : ℤ) → i < length items → s ≡ get_or items i s →
    is_block rows false (ids_of held) (tree_of (drop i items)) ≡ true → is_again (plain_stmt s).stmt ≡ true →
    or_then (first_at roles held (plain_stmt s).mark (plain_stmt s).stmt n role x) (nothing_first ∷ []) ≡ first_in roles held (tree_of (drop i items)) n role x
last_is rows roles held items i s n role x lt is h e =
    ap (or_then (first_at roles held (plain_stmt s).mark (plain_stmt s).stmt n role x)) (sym (cond-true (is_again (plain_stmt s).stmt) (nothing_first ∷ []) (first_in roles held (tree_of (drop (i + 1) items)) n role x) e))
    ∙ split_first rows roles held (plain_stmt s).mark (plain_stmt s).stmt (tree_of (drop (i + 1) items)) n role x (stmt_sound rows (ids_of held) items i s lt is h)
    ∙ at_first roles held items i s n role x lt is

-- what is found at some stops, and then in what is left of a block
abbrev pub first_behind : List CoreRole → List Held → List Entry → List CoreStmt → ℤ → ℕ → ℤ → List Outcome
first_behind roles held stops items n role x = or_then (first_stop roles stops n role x) (first_in roles held (tree_of items) n role x)

pub none_behind : (roles : List CoreRole) (stops : List Entry) (rest : List Outcome) (n : ℤ) (role : ℕ) (x : ℤ) → stops ≡ [] → or_then (first_stop roles stops n role x) rest ≡ rest
none_behind roles stops rest n role x e = ap (λ z. or_then (first_stop roles z n role x) rest) e ∙ or_then_left rest

-- nobody comes, so nothing is found
nobody_finds : {range : NRange} {roles : List CoreRole} {reach left : List Area} {old new : List Entry} (outs outs2 : ℤ → ℕ → ℤ → List Outcome) → reach ≡ [] →
    Gives range roles reach left old new outs → Gives range roles reach left old new outs2
nobody_finds {roles = roles} {old = old} outs outs2 none g = record {
  out = λ n role x o w r e. g.out n role x o w r e ∙ ap (λ z. finds roles old n role x o || (have z n role x && is_outcome o (outs n role x))) none
      ∙ ap (λ z. finds roles old n role x o || (have z n role x && is_outcome o (outs2 n role x))) (sym none);
  rest = λ n role x w r. g.rest n role x w r ∙ ap (λ z. have z n role x && is_outcome nothing_first (outs n role x)) none ∙ ap (λ z. have z n role x && is_outcome nothing_first (outs2 n role x)) (sym none);
}

module _ {range : NRange} {roles : List CoreRole} where
  pub block_step : {reach mid left : List Area} {old now new stops after : List Entry} (rows : Rows) (held : List Held) (items : List CoreStmt) (i : ℕ) (s : CoreStmt) → i < length items → s ≡ get_or items i s →
      is_block rows false (ids_of held) (tree_of (drop i items)) ≡ true → is_again (plain_stmt s).stmt ≡ false →
      Passes range roles reach mid old now stops after (first_at roles held (plain_stmt s).mark (plain_stmt s).stmt) →
      Gives range roles mid left now new (first_behind roles held after (drop (i + 1) items)) →
      Gives range roles reach left old new (first_behind roles held stops (drop i items))
  block_step {left = left} {new = new} {stops = stops} rows held items i s lt is h e p g = given_as _ _ (λ n role x w r. ap (or_then (first_stop roles stops n role x)) (next_is rows roles held items i s n role x lt is h e))
      (p.on (first_in roles held (tree_of (drop (i + 1) items))) left new g)

  pub block_cut : {reach mid : List Area} {old now stops after : List Entry} (rows : Rows) (held : List Held) (items : List CoreStmt) (i : ℕ) (s : CoreStmt) → i < length items → s ≡ get_or items i s →
      is_block rows false (ids_of held) (tree_of (drop i items)) ≡ true → is_again (plain_stmt s).stmt ≡ true → after ≡ [] →
      Passes range roles reach mid old now stops after (first_at roles held (plain_stmt s).mark (plain_stmt s).stmt) →
      Gives range roles reach mid old now (first_behind roles held stops (drop i items))
  block_cut {mid = mid} {now = now} {stops = stops} {after = after} rows held items i s lt is h e none p = given_as _ _ (λ n role x w r. ap (or_then (first_stop roles stops n role x)) (last_is rows roles held items i s n role x lt is h e))
      (p.on (λ n role x. nothing_first ∷ []) mid now (given_as _ _ (λ n role x w r. sym (none_behind roles after (nothing_first ∷ []) n role x none)) none_stops))

  pub block_begins : {reach left : List Area} {old new stops : List Entry} (held : List Held) (items : List CoreStmt) → stops ≡ [] → Gives range roles reach left old new (first_behind roles held stops items) → Gives range roles reach left old new (first_in roles held (tree_of items))
  block_begins {stops = stops} held items none g = given_as _ _ (λ n role x w r. none_behind roles stops (first_in roles held (tree_of items) n role x) n role x none) g

  pub block_done : {reach left : List Area} {old new : List Entry} (held : List Held) (stops : List Entry) (items : List CoreStmt) (i : ℕ) → length items ≤ i → Gives range roles reach left old new (first_stop roles stops) → Gives range roles reach left old new (first_behind roles held stops (drop i items))
  block_done held stops items i le g = given_as _ _ (λ n role x w r.
      sym (or_then_right (first_stop roles stops n role x)) ∙ sym (ap (λ z. or_then (first_stop roles stops n role x) (first_in roles held (tree_of z) n role x)) (drop_of_length-le items le))) g

  pub given_at : {reach left : List Area} {old new stops after : List Entry} → after ≡ stops → Gives range roles reach left old new (first_stop roles after) → Gives range roles reach left old new (first_stop roles stops)
  given_at e g = given_as _ _ (λ n role x w r. ap (λ z. first_stop roles z n role x) e) g

  -- a statement that is added to the stops, one that comes behind them, and one that nobody comes to
  pub plain_passes : {reach : List Area} {old stops after : List Entry} (outs : ℤ → ℕ → ℤ → List Outcome) → AddsStops range roles stops after outs → Passes range roles reach reach old old stops after outs
  plain_passes {stops = stops} outs a = record {
    on = λ rest last all g. given_as _ _ (λ n role x w r. ap (λ z. or_then z (rest n role x)) (a.is n role x w r) ∙ or_then_assoc (first_stop roles stops n role x) (outs n role x) (rest n role x)) g;
  }

  pub other_passes : {reach mid left : List Area} {old now new stops after : List Entry} (outs : ℤ → ℕ → ℤ → List Outcome) → after ≡ [] → Gives range roles reach mid old now (first_stop roles stops) → Gives range roles mid left now new outs → Passes range roles reach left old new stops after outs
  other_passes {after = after} outs none a b = record {
    on = λ rest last all g. in_turn _ _ a (in_turn _ _ b (given_as _ _ (λ n role x w r. none_behind roles after (rest n role x) n role x none) g));
  }

  pub nobody_passes : {reach mid : List Area} {old now stops after : List Entry} (outs : ℤ → ℕ → ℤ → List Outcome) → mid ≡ [] → Gives range roles reach mid old now (first_stop roles stops) → Passes range roles reach mid old now stops after outs
  nobody_passes outs none a = record { on = λ rest last all g. in_turn _ _ a (nobody_finds _ _ none g) }

pub of_tree : {range : NRange} {roles : List CoreRole} {reach left : List Area} {old new : List Entry} (held : List Held) (b : CoreBlock) (items : List CoreStmt) → items ≡ (out-CoreBlock b).list.items →
    Gives range roles reach left old new (first_in roles held (tree_of items)) → Gives range roles reach left old new (first_in roles held (plain_block b).block)
of_tree {roles = roles} held b items same g = given_as _ _ (λ n role x w r. ap (λ z. first_in roles held z n role x) (sym (tree_is b items same))) g

-- ---- a statement

pub plain_goes_on : (s : StmtTree) → is_plain s ≡ true → is_again s ≡ false
plain_goes_on (message l f t) h = refl
plain_goes_on (foreach b k items) h = refl
plain_goes_on (loop id k body) h = refl
plain_goes_on (again id) h = absurd (false≢true h)
plain_goes_on (choice k e bs) h = refl
plain_goes_on (run k e) h = refl
plain_goes_on barrier h = refl
plain_goes_on (broadcast l root) h = refl
plain_goes_on (reduce l op root) h = refl
plain_goes_on (allreduce l op) h = refl

pub of_stmt : {range : NRange} {roles : List CoreRole} {reach left : List Area} {old new : List Entry} (held : List Held) (m : Mark) (s t : StmtTree) → s ≡ t →
    Gives range roles reach left old new (first_at roles held m t) → Gives range roles reach left old new (first_at roles held m s)
of_stmt {roles = roles} held m s t e g = given_as _ _ (λ n role x w r. ap (λ z. first_at roles held m z n role x) (sym e)) g

pub turned_sound : (rows : Rows) (ids : List ℕ) (s t : StmtTree) → s ≡ t → is_stmt rows false ids s ≡ true → is_stmt rows false ids t ≡ true
turned_sound rows ids s t e h = ap (is_stmt rows false ids) (sym e) ∙ h

-- ---- a loop

pub body_sound : (rows : Rows) (ids inner : List ℕ) (id : ℕ) (k : Mark) (body : BlockTree) → is_stmt rows false ids (loop id k body) ≡ true → inner ≡ id ∷ ids → is_block rows false inner body ≡ true
body_sound rows ids inner id k body h e = ap (λ z. is_block rows false z body) e ∙ (and_parts (nat_lt (length ids) 64) (is_block rows false (id ∷ ids) body) h).1

pub loop_gives : {range : NRange} {roles : List CoreRole} {reach left : List Area} {old new : List Entry} (held none inner : List Held) (empty start areas : List Area) (m k : Mark) (id : ℕ) (body : BlockTree) →
    empty ≡ [] → start ≡ [] → ids_of none ≡ id ∷ ids_of held → ids_of inner ≡ id ∷ ids_of held →
    ((n : ℤ) (role : ℕ) (x : ℤ) → held_of none n role x ≡ have empty n role x ∷ held_of held n role x) →
    ((n : ℤ) (role : ℕ) (x : ℤ) → held_of inner n role x ≡ have areas n role x ∷ held_of held n role x) →
    Adds range roles start areas (part_in roles none body) →
    Gives range roles reach left old new (first_in roles inner body) →
    Gives range roles reach left old new (first_at roles held m (loop id k body))
loop_gives {roles = roles} held none inner empty start areas m k id body e0 e1 en ei hn hi adds g = given_as _ _ (λ n role x w r.
    let flat : Block = flat_block roles n (id ∷ ids_of held) (pos 0) body stop in
    let me : ℕ = rank roles n role x in
    let in_none : held_of none n role x ≡ false ∷ held_of held n role x = hn n role x ∙ ap (λ z. have z n role x ∷ held_of held n role x) e0 in
    let in_body : have areas n role x ≡ takes_part (false ∷ held_of held n role x) me flat =
    adds.is n role x w r ∙ ap (λ z. have z n role x || part_in roles none body n role x) e1
    ∙ ap₂ (λ y z. takes_part y me (flat_block roles n z (pos 0) body stop)) in_none en in
    ap₂ (λ y z. firsts y me (flat_block roles n z (pos 0) body stop)) (hi n role x ∙ ap (λ z. z ∷ held_of held n role x) in_body) ei
    ∙ sym (loop_finds (held_of held n role x) me (from_none m) flat))
    g

-- ---- a choice

told_then : (a : Bool) (rest : List Outcome) → or_then (if a then other_first ∷ [] else nothing_first ∷ []) rest ≡ cond a (other_first ∷ []) rest
told_then true rest = refl
told_then false rest = or_then_left rest

chosen : (roles : List CoreRole) (held : List Held) (m : Mark) (k : ℕ) (at : CoreEnd) (bs : BranchTrees) (n : ℤ) (role : ℕ) (x : ℤ) (o : Outcome) → has_branch bs ≡ true →
    is_outcome o (cond (rank_of roles n at (pos 0) == rank roles n role x) (other_first ∷ []) (first_among roles held bs n role x)) ≡ is_outcome o (first_at roles held m (choice k at bs) n role x)
chosen roles held m k at no_branch n role x o h = absurd (false≢true h)
chosen roles held m k at (branch j b bs) n role x o h =
    sym (choice_finds (held_of held n role x) (rank roles n role x) (from_one m at n (pos 0)) (rank_of roles n at (pos 0)) k j (flat_block roles n (ids_of held) (pos 0) b stop) (flat_branches roles n (ids_of held) (pos 0) bs) o)

pub choice_gives : {range : NRange} {roles : List CoreRole} {reach mid told left : List Area} {old now new : List Entry} (held : List Held) (m : Mark) (k : ℕ) (at : CoreEnd) (bs : BranchTrees) → has_branch bs ≡ true → told ≡ mid →
    Gives range roles reach mid old now (λ n role x. if is_at at n (pos 0) role x then other_first ∷ [] else nothing_first ∷ []) →
    Gives range roles told left now new (first_among roles held bs) →
    Gives range roles reach left old new (first_at roles held m (choice k at bs))
choice_gives {range = range} {roles = roles} {left = left} {now = now} {new = new} held m k at bs h e a b = given_set _ _ (λ n role x o w r.
    ap (is_outcome o) (told_then (is_at at n (pos 0) role x) (first_among roles held bs n role x)
    ∙ ap (λ z. cond z (other_first ∷ []) (first_among roles held bs n role x)) (sym (end_is_at roles n (pos 0) at role x r)))
    ∙ chosen roles held m k at bs n role x o h)
    (in_turn _ _ a (subst (λ z. Gives range roles z left now new (first_among roles held bs)) e b))

pub choice_end : (rows : Rows) (ids : List ℕ) (k : ℕ) (at : CoreEnd) (bs : BranchTrees) → is_stmt rows false ids (choice k at bs) ≡ true → is_small at.at.off ≡ true
choice_end rows ids k at bs h =
    end_small rows at (and_parts (is_end rows false at) (has_branch bs && are_branches rows ids bs) (and_parts (nat_lt k rows.kernels) (is_end rows false at && (has_branch bs && are_branches rows ids bs)) h).1).0

choice_rest : (rows : Rows) (ids : List ℕ) (k : ℕ) (at : CoreEnd) (bs : BranchTrees) → is_stmt rows false ids (choice k at bs) ≡ true → has_branch bs && are_branches rows ids bs ≡ true
choice_rest rows ids k at bs h =
    (and_parts (is_end rows false at) (has_branch bs && are_branches rows ids bs) (and_parts (nat_lt k rows.kernels) (is_end rows false at && (has_branch bs && are_branches rows ids bs)) h).1).1

pub choice_some : (rows : Rows) (ids : List ℕ) (k : ℕ) (at : CoreEnd) (bs : BranchTrees) → is_stmt rows false ids (choice k at bs) ≡ true → has_branch bs ≡ true
choice_some rows ids k at bs h = (and_parts (has_branch bs) (are_branches rows ids bs) (choice_rest rows ids k at bs h)).0

pub choice_sound : (rows : Rows) (ids : List ℕ) (k : ℕ) (at : CoreEnd) (bs : BranchTrees) → is_stmt rows false ids (choice k at bs) ≡ true → are_branches rows ids bs ≡ true
choice_sound rows ids k at bs h = (and_parts (has_branch bs) (are_branches rows ids bs) (choice_rest rows ids k at bs h)).1

-- ---- branches

among_bools : (w w1 w2 r t p q : Bool) → t ≡ r → w1 ≡ w || (t && p) → w2 ≡ w1 || (r && q) → w2 ≡ w || (r && (p || q))
among_bools w w1 w2 r t p q e h k = grind (arith, nat_tests)

pub branch_step : {range : NRange} {roles : List CoreRole} {reach told lft passed passed2 left : List Area} {o o2 new : List Entry} (held : List Held) (items : List CoreBlock) (i : ℕ) (b : CoreBlock) → i < length items → b ≡ get_or items i b →
    ((n : ℤ) (role : ℕ) (x : ℤ) → have told n role x ≡ have reach n role x) →
    Gives range roles told lft o o2 (first_in roles held (plain_block b).block) →
    ((n : ℤ) (role : ℕ) (x : ℤ) → have passed2 n role x ≡ have passed n role x || have lft n role x) →
    AmongGives range roles reach passed2 left o2 new (first_among roles held (trees_of (drop (i + 1) items))) →
    AmongGives range roles reach passed left o new (first_among roles held (trees_of (drop i items)))
branch_step {roles = roles} {reach = reach} {told = told} {lft = lft} {passed = passed} {passed2 = passed2} {left = left} {o = o} {o2 = o2} {new = new} held items i b lt is same a add g =
    let some : ℤ → ℕ → ℤ → List Outcome = first_in roles held (plain_block b).block in
    let rest : ℤ → ℕ → ℤ → List Outcome = first_among roles held (trees_of (drop (i + 1) items)) in
    let all : ℤ → ℕ → ℤ → List Outcome = first_among roles held (trees_of (drop i items)) in
    let joins : (n : ℤ) (role : ℕ) (x : ℤ) → some n role x ++ rest n role x ≡ all n role x = λ n role x.
    ap (λ k. first_among roles held (trees_of (k ∷ drop (i + 1) items)) n role x) is
    ∙ sym (at_drop_more (λ z. first_among roles held (trees_of z) n role x) items i b lt) in
    let whole_set : (n : ℤ) (role : ℕ) (x : ℤ) (p : Outcome) → is_outcome p (some n role x) || is_outcome p (rest n role x) ≡ is_outcome p (all n role x) = λ n role x p.
    sym (is_append (some n role x) (rest n role x) p) ∙ ap (λ z. is_outcome p z) (joins n role x) in
    record {
      out = λ n role x p w r e. among_bools (finds roles o n role x p) (finds roles o2 n role x p) (finds roles new n role x p) (have reach n role x) (have told n role x) (is_outcome p (some n role x)) (is_outcome p (rest n role x))
          (same n role x) (a.out n role x p w r e) (g.out n role x p w r e) ∙ ap (λ z. finds roles o n role x p || (have reach n role x && z)) (whole_set n role x p);
      rest = λ n role x w r. among_bools (have passed n role x) (have passed2 n role x) (have left n role x) (have reach n role x) (have told n role x) (is_outcome nothing_first (some n role x)) (is_outcome nothing_first (rest n role x))
          (same n role x) (add n role x ∙ ap (λ z. have passed n role x || z) (a.rest n role x w r)) (g.rest n role x w r) ∙ ap (λ z. have passed n role x || (have reach n role x && z)) (whole_set n role x nothing_first);
    }

no_more : (w r : Bool) → w ≡ w || (r && false)
no_more w r = grind (arith, nat_tests)

pub branches_done : {range : NRange} {roles : List CoreRole} {reach passed first : List Area} {old o : List Entry} (held : List Held) (items : List CoreBlock) (i : ℕ) → length items ≤ i → first ≡ [] →
    ((left : List Area) (new : List Entry) → AmongGives range roles reach passed left o new (first_among roles held (trees_of (drop i items))) → AmongGives range roles reach first left old new (first_among roles held (trees_of items))) →
    Gives range roles reach passed old o (first_among roles held (trees_of items))
branches_done {range = range} {roles = roles} {reach = reach} {passed = passed} {first = first} {old = old} {o = o} held items i le none inv =
    let ended : (n : ℤ) (role : ℕ) (x : ℤ) → [] ≡ first_among roles held (trees_of (drop i items)) n role x = λ n role x.
    sym (ap (λ z. first_among roles held (trees_of z) n role x) (drop_of_length-le items le)) in
    let g : AmongGives range roles reach first passed old o (first_among roles held (trees_of items)) = inv passed o (record {
      out = λ n role x p w r e. no_more (finds roles o n role x p) (have reach n role x) ∙ ap (λ z. finds roles o n role x p || (have reach n role x && is_outcome p z)) (ended n role x);
      rest = λ n role x w r. no_more (have passed n role x) (have reach n role x) ∙ ap (λ z. have passed n role x || (have reach n role x && is_outcome nothing_first z)) (ended n role x);
    }) in
    record {
      out = g.out;
      rest = λ n role x w r. g.rest n role x w r ∙ ap (λ z. have z n role x || (have reach n role x && is_outcome nothing_first (first_among roles held (trees_of items) n role x))) none;
    }

-- ---- cuts

stmts_among : (cuts : List Lin) (items : List CoreStmt) (i : ℕ) (s : CoreStmt) → i < length items → s ≡ get_or items i s → AreAmong (block_cuts None (tree_of (drop i items))) cuts →
    AreAmong (stmt_cuts None (plain_stmt s).stmt ++ block_cuts None (tree_of (drop (i + 1) items))) cuts
stmts_among cuts items i s lt is a =
    subst (λ z. AreAmong z cuts) (at_drop_more (λ z. block_cuts None (tree_of z)) items i s lt ∙ ap (λ k. block_cuts None (tree_of (k ∷ drop (i + 1) items))) (sym is)) a

pub stmt_among : (cuts : List Lin) (items : List CoreStmt) (i : ℕ) (s : CoreStmt) → i < length items → s ≡ get_or items i s → AreAmong (block_cuts None (tree_of (drop i items))) cuts → AreAmong (stmt_cuts None (plain_stmt s).stmt) cuts
stmt_among cuts items i s lt is a = among_left (stmt_cuts None (plain_stmt s).stmt) (block_cuts None (tree_of (drop (i + 1) items))) cuts (stmts_among cuts items i s lt is a)

pub rest_among : (cuts : List Lin) (items : List CoreStmt) (i : ℕ) (s : CoreStmt) → i < length items → s ≡ get_or items i s → AreAmong (block_cuts None (tree_of (drop i items))) cuts → AreAmong (block_cuts None (tree_of (drop (i + 1) items))) cuts
rest_among cuts items i s lt is a = among_right (stmt_cuts None (plain_stmt s).stmt) (block_cuts None (tree_of (drop (i + 1) items))) cuts (stmts_among cuts items i s lt is a)

pub tree_among : (cuts : List Lin) (b : CoreBlock) (items : List CoreStmt) → items ≡ (out-CoreBlock b).list.items → AreAmong (block_cuts None (plain_block b).block) cuts → AreAmong (block_cuts None (tree_of items)) cuts
tree_among cuts b items same a = subst (λ z. AreAmong (block_cuts None z) cuts) (tree_is b items same) a

branches_all_among : (cuts : List Lin) (items : List CoreBlock) (i : ℕ) (b : CoreBlock) → i < length items → b ≡ get_or items i b → AreAmong (branches_cuts None (trees_of (drop i items))) cuts →
    AreAmong (block_cuts None (plain_block b).block ++ branches_cuts None (trees_of (drop (i + 1) items))) cuts
branches_all_among cuts items i b lt is a =
    subst (λ z. AreAmong z cuts) (at_drop_more (λ z. branches_cuts None (trees_of z)) items i b lt ∙ ap (λ k. branches_cuts None (trees_of (k ∷ drop (i + 1) items))) (sym is)) a

pub branch_among : (cuts : List Lin) (items : List CoreBlock) (i : ℕ) (b : CoreBlock) → i < length items → b ≡ get_or items i b → AreAmong (branches_cuts None (trees_of (drop i items))) cuts → AreAmong (block_cuts None (plain_block b).block) cuts
branch_among cuts items i b lt is a = among_left (block_cuts None (plain_block b).block) (branches_cuts None (trees_of (drop (i + 1) items))) cuts (branches_all_among cuts items i b lt is a)

pub others_among : (cuts : List Lin) (items : List CoreBlock) (i : ℕ) (b : CoreBlock) → i < length items → b ≡ get_or items i b → AreAmong (branches_cuts None (trees_of (drop i items))) cuts → AreAmong (branches_cuts None (trees_of (drop (i + 1) items))) cuts
others_among cuts items i b lt is a = among_right (block_cuts None (plain_block b).block) (branches_cuts None (trees_of (drop (i + 1) items))) cuts (branches_all_among cuts items i b lt is a)

pub turned_among : (cuts : List Lin) (s t : StmtTree) → s ≡ t → AreAmong (stmt_cuts None s) cuts → AreAmong (stmt_cuts None t) cuts
turned_among cuts s t e a = subst (λ z. AreAmong (stmt_cuts None z) cuts) e a

pub choice_is_end : (rows : Rows) (ids : List ℕ) (k : ℕ) (at : CoreEnd) (bs : BranchTrees) → is_stmt rows false ids (choice k at bs) ≡ true → is_end rows false at ≡ true
choice_is_end rows ids k at bs h =
    (and_parts (is_end rows false at) (has_branch bs && are_branches rows ids bs) (and_parts (nat_lt k rows.kernels) (is_end rows false at && (has_branch bs && are_branches rows ids bs)) h).1).0

pub stops_fit : (range : NRange) (cuts : List Lin) (now stops : List Entry) → now ≡ stops → EntriesFit range cuts stops → EntriesFit range cuts now
stops_fit range cuts now stops e s = subst (EntriesFit range cuts) (sym e) s

pub none_fit : (range : NRange) (cuts : List Lin) (now : List Entry) → now ≡ [] → EntriesFit range cuts now
none_fit range cuts now e = stops_fit range cuts now [] e tt
