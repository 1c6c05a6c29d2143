-- The parts of a block: what each of them keeps, and whether it has few pieces.
use Rattle.std.proofs.Common.{◌≡◌, ◌≤◌, ◌+◌, ◌⊎◌, inl, inr, ℕ, ℤ, pos, Bool, true, false, ◌&&◌, List, refl, sym, ap, ap₂, ◌∙◌, subst, arith}
use Rattle.std.proofs.lemmas.Bool.{and_parts}
use Rattle.pb_syntax.specs.declared.core_label.CoreLabel.{CoreLabel}
use Rattle.pb_core_language.specs.declared.tree.CoreEnd.{CoreEnd}
use Rattle.pb_core_language.specs.Sound.{has_branch}
use Rattle.pb_core_language.specs.Tree.{Mark, StmtTree, message, foreach, loop, again, choice, run, barrier, broadcast, reduce, allreduce, BlockTree, nothing, more, BranchTrees, no_branch, branch}
use Rattle.pb_cost_laws.specs.Sent.{Counted, picked}
use Rattle.pb_cost_laws.specs.Trees.{is_straight_stmt, is_straight, are_straight}
use Rattle.pb_cost_blocks.specs.declared.asked.Asked.{Asked}
use Rattle.pb_cost_blocks.specs.Asked.{way_of}
use Rattle.pb_cost_blocks.specs.Few.{stmt_at, block_at, behind_at, nothing_sent, IsFew, IsMany, FewStmt, FewFrom, FewBranches, FewBehind, ManyStmt, ManyFrom, ManyBehind}
use Rattle.pb_cost_blocks.specs.Fit.{weight_of_stmt, weight_of, weight_of_branches, is_fit_stmt, is_fit, are_fit}
use Rattle.pb_cost_joins.specs.declared.span.Span.{Span}
use Rattle.pb_cost_joins.proofs.Counts.{stretches_as}
use Rattle.pb_cost_blocks.proofs.Counts.{few_as}
use Rattle.pb_cost.specs.Parts.{IsBeginning, AreFirst, IsChoiceOf, IsPartOfStmt, IsWithin, IsPartOfBranches, IsPart}

-- ---- without loops, with small ends, and light

both_true : (a b : Bool) → a ≡ true → b ≡ true → (a && b) ≡ true
both_true a b ea eb = ap₂ (λ x y. x && y) ea eb

left_light : (a b : ℕ) → (a + b) ≤ 4100000 → a ≤ 4100000
left_light a b h = omega (arith, h)

right_light : (a b : ℕ) → (a + b) ≤ 4100000 → b ≤ 4100000
right_light a b h = omega (arith, h)

heavier : (part a b c : ℕ) → part ≡ a + b → b ≤ c → part ≤ a + c
heavier part a b c e h = omega (arith, e, h)

light_by : (a b : ℕ) → a ≤ b → b ≤ 4100000 → a ≤ 4100000
light_by a b h k = omega (arith, h, k)

none_over : (part a : ℕ) → part ≡ 0 → part ≤ a
none_over part a e = omega (arith, e)

alone_light : (a b c : ℕ) → b ≤ c → (a + c) ≤ 4100000 → ((a + b) + 0) ≤ 4100000
alone_light a b c h k = omega (arith, h, k)

module _ (what : Counted) (size : ℕ → ℕ) where
  pub record Keeps (block : BlockTree) : Type 0 where
    pub straight : is_straight block ≡ true
    pub fit : is_fit block ≡ true
    pub light : weight_of what size block ≤ 4100000

  record StmtKeeps (stmt : StmtTree) : Type 0 where
    pub straight : is_straight_stmt stmt ≡ true
    pub fit : is_fit_stmt stmt ≡ true
    pub light : weight_of_stmt what size stmt ≤ 4100000

  record BranchesKeep (branches : BranchTrees) : Type 0 where
    pub straight : are_straight branches ≡ true
    pub fit : are_fit branches ≡ true
    pub light : weight_of_branches what size branches ≤ 4100000

  first_keeps : (mark : Mark) (first : StmtTree) (rest : BlockTree) → Keeps (more mark first rest) → StmtKeeps first
  first_keeps mark first rest k = record {
    straight = (and_parts (is_straight_stmt first) (is_straight rest) k.straight).0;
    fit = (and_parts (is_fit_stmt first) (is_fit rest) k.fit).0;
    light = left_light (weight_of_stmt what size first) (weight_of what size rest) k.light;
  }

  rest_keeps : (mark : Mark) (first : StmtTree) (rest : BlockTree) → Keeps (more mark first rest) → Keeps rest
  rest_keeps mark first rest k = record {
    straight = (and_parts (is_straight_stmt first) (is_straight rest) k.straight).1;
    fit = (and_parts (is_fit_stmt first) (is_fit rest) k.fit).1;
    light = right_light (weight_of_stmt what size first) (weight_of what size rest) k.light;
  }

  branch_keeps : (mark : Mark) (first : BlockTree) (rest : BranchTrees) → BranchesKeep (branch mark first rest) → Keeps first
  branch_keeps mark first rest k = record {
    straight = (and_parts (is_straight first) (are_straight rest) k.straight).0;
    fit = (and_parts (is_fit first) (are_fit rest) k.fit).0;
    light = left_light (weight_of what size first) (weight_of_branches what size rest) k.light;
  }

  others_keep : (mark : Mark) (first : BlockTree) (rest : BranchTrees) → BranchesKeep (branch mark first rest) → BranchesKeep rest
  others_keep mark first rest k = record {
    straight = (and_parts (is_straight first) (are_straight rest) k.straight).1;
    fit = (and_parts (is_fit first) (are_fit rest) k.fit).1;
    light = right_light (weight_of what size first) (weight_of_branches what size rest) k.light;
  }

  in_choice : (kernel : ℕ) (at : CoreEnd) (branches : BranchTrees) → StmtKeeps (choice kernel at branches) → BranchesKeep branches
  in_choice kernel at branches k = record { straight = (and_parts (has_branch branches) (are_straight branches) k.straight).1; fit = k.fit; light = k.light }

  beginning_straight : (part block : BlockTree) → IsBeginning part block → is_straight block ≡ true → is_straight part ≡ true
  beginning_straight part nothing e h = ap is_straight e
  beginning_straight part (more mark first rest) (inl e) h = ap is_straight e
  beginning_straight part (more mark first rest) (inr it) h =
      let both = and_parts (is_straight_stmt first) (is_straight rest) h in
      ap is_straight it.1 ∙ both_true (is_straight_stmt first) (is_straight it.0) both.0 (beginning_straight it.0 rest it.2 both.1)

  beginning_fit : (part block : BlockTree) → IsBeginning part block → is_fit block ≡ true → is_fit part ≡ true
  beginning_fit part nothing e h = ap is_fit e
  beginning_fit part (more mark first rest) (inl e) h = ap is_fit e
  beginning_fit part (more mark first rest) (inr it) h =
      let both = and_parts (is_fit_stmt first) (is_fit rest) h in
      ap is_fit it.1 ∙ both_true (is_fit_stmt first) (is_fit it.0) both.0 (beginning_fit it.0 rest it.2 both.1)

  beginning_light : (part block : BlockTree) → IsBeginning part block → weight_of what size part ≤ weight_of what size block
  beginning_light part nothing e = none_over (weight_of what size part) 0 (ap (λ b. weight_of what size b) e)
  beginning_light part (more mark first rest) (inl e) = none_over (weight_of what size part) (weight_of_stmt what size first + weight_of what size rest) (ap (λ b. weight_of what size b) e)
  beginning_light part (more mark first rest) (inr it) =
      heavier (weight_of what size part) (weight_of_stmt what size first) (weight_of what size it.0) (weight_of what size rest) (ap (λ b. weight_of what size b) it.1) (beginning_light it.0 rest it.2)

  first_straight : (some all : BranchTrees) → AreFirst some all → are_straight all ≡ true → are_straight some ≡ true
  first_straight some no_branch e h = ap are_straight e
  first_straight some (branch mark first rest) (inl e) h = ap are_straight e
  first_straight some (branch mark first rest) (inr it) h =
      let both = and_parts (is_straight first) (are_straight rest) h in
      ap are_straight it.1 ∙ both_true (is_straight first) (are_straight it.0) both.0 (first_straight it.0 rest it.2 both.1)

  first_fit : (some all : BranchTrees) → AreFirst some all → are_fit all ≡ true → are_fit some ≡ true
  first_fit some no_branch e h = ap are_fit e
  first_fit some (branch mark first rest) (inl e) h = ap are_fit e
  first_fit some (branch mark first rest) (inr it) h =
      let both = and_parts (is_fit first) (are_fit rest) h in
      ap are_fit it.1 ∙ both_true (is_fit first) (are_fit it.0) both.0 (first_fit it.0 rest it.2 both.1)

  first_light : (some all : BranchTrees) → AreFirst some all → weight_of_branches what size some ≤ weight_of_branches what size all
  first_light some no_branch e = none_over (weight_of_branches what size some) 0 (ap (λ b. weight_of_branches what size b) e)
  first_light some (branch mark first rest) (inl e) = none_over (weight_of_branches what size some) (weight_of what size first + weight_of_branches what size rest) (ap (λ b. weight_of_branches what size b) e)
  first_light some (branch mark first rest) (inr it) =
      heavier (weight_of_branches what size some) (weight_of what size first) (weight_of_branches what size it.0) (weight_of_branches what size rest) (ap (λ b. weight_of_branches what size b) it.1) (first_light it.0 rest it.2)

  alone_keeps : (own : Mark) (kernel : ℕ) (at : CoreEnd) (mark : Mark) (first : BlockTree) (some rest : BranchTrees) → AreFirst some rest → BranchesKeep (branch mark first rest) → Keeps (more own (choice kernel at (branch mark first some)) nothing)
  alone_keeps own kernel at mark first some rest is k =
      let straight = and_parts (is_straight first) (are_straight rest) k.straight in
      let fit = and_parts (is_fit first) (are_fit rest) k.fit in
      record {
        straight = both_true (are_straight (branch mark first some)) true (both_true (is_straight first) (are_straight some) straight.0 (first_straight some rest is straight.1)) refl;
        fit = both_true (are_fit (branch mark first some)) true (both_true (is_fit first) (are_fit some) fit.0 (first_fit some rest is fit.1)) refl;
        light = alone_light (weight_of what size first) (weight_of_branches what size some) (weight_of_branches what size rest) (first_light some rest is) k.light;
      }

  beginning_keeps : (part block : BlockTree) → IsBeginning part block → Keeps block → Keeps part
  beginning_keeps part block is k = record { straight = beginning_straight part block is k.straight; fit = beginning_fit part block is k.fit; light = light_by (weight_of what size part) (weight_of what size block) (beginning_light part block is) k.light }

  choice_keeps : (part : BlockTree) (own : Mark) (kernel : ℕ) (at : CoreEnd) (branches : BranchTrees) → IsChoiceOf part own kernel at branches → BranchesKeep branches → Keeps part
  choice_keeps part own kernel at no_branch is k = absurd is
  choice_keeps part own kernel at (branch mark first rest) is k = subst Keeps (sym is.1) (alone_keeps own kernel at mark first is.0 rest is.2 k)

  mutual
    within_keeps : (part block : BlockTree) → IsWithin part block → Keeps block → Keeps part
    within_keeps part nothing is k = absurd is
    within_keeps part (more mark first rest) (inl is) k = of_stmt_keeps part mark first is (first_keeps mark first rest k)
    within_keeps part (more mark first rest) (inr is) k = within_keeps part rest is (rest_keeps mark first rest k)

    of_stmt_keeps : (part : BlockTree) (own : Mark) (stmt : StmtTree) → IsPartOfStmt part own stmt → StmtKeeps stmt → Keeps part
    of_stmt_keeps part own (message label from to) is k = absurd is
    of_stmt_keeps part own (foreach bounds mark items) is k = absurd is
    of_stmt_keeps part own (loop id mark body) is k = absurd (let e : false ≡ true = k.straight in cc)
    of_stmt_keeps part own (again id) is k = absurd is
    of_stmt_keeps part own (choice kernel at branches) (inl is) k = choice_keeps part own kernel at branches is (in_choice kernel at branches k)
    of_stmt_keeps part own (choice kernel at branches) (inr is) k = of_branches_keeps part branches is (in_choice kernel at branches k)
    of_stmt_keeps part own (run kernel at) is k = absurd is
    of_stmt_keeps part own barrier is k = absurd is
    of_stmt_keeps part own (broadcast label root) is k = absurd is
    of_stmt_keeps part own (reduce label op root) is k = absurd is
    of_stmt_keeps part own (allreduce label op) is k = absurd is

    of_branches_keeps : (part : BlockTree) (branches : BranchTrees) → IsPartOfBranches part branches → BranchesKeep branches → Keeps part
    of_branches_keeps part no_branch is k = absurd is
    of_branches_keeps part (branch mark first rest) (inl (inl is)) k = beginning_keeps part first is (branch_keeps mark first rest k)
    of_branches_keeps part (branch mark first rest) (inl (inr is)) k = within_keeps part first is (branch_keeps mark first rest k)
    of_branches_keeps part (branch mark first rest) (inr is) k = of_branches_keeps part rest is (others_keep mark first rest k)

  pub part_keeps : (part block : BlockTree) → IsPart part block → Keeps block → Keeps part
  part_keeps part block (inl is) k = beginning_keeps part block is k
  part_keeps part block (inr is) k = within_keeps part block is k

-- ---- few and many

many_as : (span : Span) (f g : ℤ → ℕ) → ((n : ℤ) → g n ≡ f n) → IsMany span f → IsMany span g
many_as span f g same many = record {
  list = many.list;
  are = stretches_as (λ n. pos (f n)) (λ n. pos (g n)) span.to span.from many.list (λ n low high. ap pos (same n)) many.are;
  many = many.many;
}

none_more : (a : ℕ) → a + 0 ≡ a
none_more a = omega arith

none_before : (a : ℕ) → a ≡ 0 + a
none_before a = omega arith

assoc : (a b c : ℕ) → a + (b + c) ≡ (a + b) + c
assoc a b c = omega arith

module _ (asked : Asked) (labels : List CoreLabel) where
  abbrev Few : BlockTree → Type 0
  Few part = IsFew asked.span (λ n. block_at asked labels part n)

  few_here : (before : ℤ → ℕ) (block : BlockTree) → FewFrom asked labels before block → IsFew asked.span before
  few_here before nothing h = h
  few_here before (more mark first rest) h = h.0

  few_none : (before : ℤ → ℕ) (part : BlockTree) → part ≡ nothing → IsFew asked.span before → IsFew asked.span (λ n. before n + block_at asked labels part n)
  few_none before part e h = subst (λ z. IsFew asked.span (λ n. before n + block_at asked labels z n)) (sym e) (few_as asked.span before (λ n. before n + 0) (λ n. none_more (before n)) h)

  few_beginning : (before : ℤ → ℕ) (part block : BlockTree) → IsBeginning part block → FewFrom asked labels before block → IsFew asked.span (λ n. before n + block_at asked labels part n)
  few_beginning before part nothing e h = few_none before part e h
  few_beginning before part (more mark first rest) (inl e) h = few_none before part e h.0
  few_beginning before part (more mark first rest) (inr it) h =
      subst (λ z. IsFew asked.span (λ n. before n + block_at asked labels z n)) (sym it.1)
      (few_as asked.span (λ n. (before n + stmt_at asked labels first n) + block_at asked labels it.0 n) (λ n. before n + (stmt_at asked labels first n + block_at asked labels it.0 n)) (λ n. assoc (before n) (stmt_at asked labels first n) (block_at asked labels it.0 n))
      (few_beginning (λ n. before n + stmt_at asked labels first n) it.0 rest it.2 h.1.1))

  few_some : (best : ℤ → ℕ) (some all : BranchTrees) → AreFirst some all → FewBehind asked labels best all → IsFew asked.span (λ n. behind_at asked labels best some n)
  few_some best some no_branch e h = subst (λ z. IsFew asked.span (λ n. behind_at asked labels best z n)) (sym e) h
  few_some best some (branch mark first rest) (inl e) h = subst (λ z. IsFew asked.span (λ n. behind_at asked labels best z n)) (sym e) h.0
  few_some best some (branch mark first rest) (inr it) h =
      subst (λ z. IsFew asked.span (λ n. behind_at asked labels best z n)) (sym it.1) (few_some (λ n. picked (way_of asked.way) (best n) (block_at asked labels first n)) it.0 rest it.2 h.1.1)

  few_whole : (part block : BlockTree) → IsBeginning part block → FewFrom asked labels nothing_sent block → Few part
  few_whole part block is h = few_as asked.span (λ n. 0 + block_at asked labels part n) (λ n. block_at asked labels part n) (λ n. none_before (block_at asked labels part n)) (few_beginning nothing_sent part block is h)

  few_choice : (part : BlockTree) (own : Mark) (kernel : ℕ) (at : CoreEnd) (branches : BranchTrees) → IsChoiceOf part own kernel at branches → FewBranches asked labels branches → Few part
  few_choice part own kernel at no_branch is h = absurd is
  few_choice part own kernel at (branch mark first rest) is h =
      subst Few (sym is.1)
      (few_as asked.span (λ n. behind_at asked labels (block_at asked labels first) is.0 n) (λ n. behind_at asked labels (block_at asked labels first) is.0 n + 0) (λ n. none_more (behind_at asked labels (block_at asked labels first) is.0 n))
      (few_some (block_at asked labels first) is.0 rest is.2 h.1))

  mutual
    few_within : (before : ℤ → ℕ) (part block : BlockTree) → IsWithin part block → FewFrom asked labels before block → Few part
    few_within before part nothing is h = absurd is
    few_within before part (more mark first rest) (inl is) h = few_of_stmt part mark first is h.1.0
    few_within before part (more mark first rest) (inr is) h = few_within (λ n. before n + stmt_at asked labels first n) part rest is h.1.1

    few_of_stmt : (part : BlockTree) (own : Mark) (stmt : StmtTree) → IsPartOfStmt part own stmt → FewStmt asked labels stmt → Few part
    few_of_stmt part own (message label from to) is h = absurd is
    few_of_stmt part own (foreach bounds mark items) is h = absurd is
    few_of_stmt part own (loop id mark body) (inl is) h = few_whole part body is h
    few_of_stmt part own (loop id mark body) (inr is) h = few_within nothing_sent part body is h
    few_of_stmt part own (again id) is h = absurd is
    few_of_stmt part own (choice kernel at branches) (inl is) h = few_choice part own kernel at branches is h
    few_of_stmt part own (choice kernel at branches) (inr is) h = few_of_branches part branches is h
    few_of_stmt part own (run kernel at) is h = absurd is
    few_of_stmt part own barrier is h = absurd is
    few_of_stmt part own (broadcast label root) is h = absurd is
    few_of_stmt part own (reduce label op root) is h = absurd is
    few_of_stmt part own (allreduce label op) is h = absurd is

    few_of_branches : (part : BlockTree) (branches : BranchTrees) → IsPartOfBranches part branches → FewBranches asked labels branches → Few part
    few_of_branches part no_branch is h = absurd is
    few_of_branches part (branch mark first rest) (inl (inl is)) h = few_whole part first is h.0
    few_of_branches part (branch mark first rest) (inl (inr is)) h = few_within nothing_sent part first is h.0
    few_of_branches part (branch mark first rest) (inr is) h = few_of_behind (block_at asked labels first) part rest is h.1

    few_of_behind : (best : ℤ → ℕ) (part : BlockTree) (branches : BranchTrees) → IsPartOfBranches part branches → FewBehind asked labels best branches → Few part
    few_of_behind best part no_branch is h = absurd is
    few_of_behind best part (branch mark first rest) (inl (inl is)) h = few_whole part first is h.1.0
    few_of_behind best part (branch mark first rest) (inl (inr is)) h = few_within nothing_sent part first is h.1.0
    few_of_behind best part (branch mark first rest) (inr is) h = few_of_behind (λ n. picked (way_of asked.way) (best n) (block_at asked labels first n)) part rest is h.1.1

  pub few_part : (part block : BlockTree) → IsPart part block → FewFrom asked labels nothing_sent block → IsFew asked.span (λ n. block_at asked labels part n)
  few_part part block (inl is) h = few_whole part block is h
  few_part part block (inr is) h = few_within nothing_sent part block is h

  -- ---- a part with many

  abbrev Many : BlockTree → Type 0
  Many part = IsMany asked.span (λ n. block_at asked labels part n)

  abbrev SomeFrom : (ℤ → ℕ) → BlockTree → Type 0
  SomeFrom before block = ((part : BlockTree) × IsBeginning part block × IsMany asked.span (λ n. before n + block_at asked labels part n)) ⊎ ((part : BlockTree) × IsWithin part block × Many part)

  abbrev SomePart : BlockTree → Type 0
  SomePart block = (part : BlockTree) × IsPart part block × Many part

  abbrev SomeOfStmt : Mark → StmtTree → Type 0
  SomeOfStmt own stmt = (part : BlockTree) × IsPartOfStmt part own stmt × Many part

  abbrev SomeBehind : (ℤ → ℕ) → BranchTrees → Type 0
  SomeBehind best branches = ((some : BranchTrees) × AreFirst some branches × IsMany asked.span (λ n. behind_at asked labels best some n)) ⊎ ((part : BlockTree) × IsPartOfBranches part branches × Many part)

  many_none : (before : ℤ → ℕ) → IsMany asked.span before → IsMany asked.span (λ n. before n + block_at asked labels nothing n)
  many_none before h = many_as asked.span before (λ n. before n + 0) (λ n. none_more (before n)) h

  rest_many : (before : ℤ → ℕ) (mark : Mark) (first : StmtTree) (rest : BlockTree) → SomeFrom (λ n. before n + stmt_at asked labels first n) rest → SomeFrom before (more mark first rest)
  rest_many before mark first rest (inl it) = inl (
    more mark first it.0,
    inr (it.0, refl, it.1),
    many_as asked.span (λ n. (before n + stmt_at asked labels first n) + block_at asked labels it.0 n) (λ n. before n + (stmt_at asked labels first n + block_at asked labels it.0 n)) (λ n. assoc (before n) (stmt_at asked labels first n) (block_at asked labels it.0 n)) it.2,
  )
  rest_many before mark first rest (inr it) = inr (it.0, inr it.1, it.2)

  whole_many : (block : BlockTree) → SomeFrom nothing_sent block → SomePart block
  whole_many block (inl it) = (it.0, inl it.1, many_as asked.span (λ n. 0 + block_at asked labels it.0 n) (λ n. block_at asked labels it.0 n) (λ n. none_before (block_at asked labels it.0 n)) it.2)
  whole_many block (inr it) = (it.0, inr it.1, it.2)

  choice_many : (own : Mark) (kernel : ℕ) (at : CoreEnd) (mark : Mark) (first : BlockTree) (rest : BranchTrees) → SomeBehind (block_at asked labels first) rest → SomeOfStmt own (choice kernel at (branch mark first rest))
  choice_many own kernel at mark first rest (inl it) = (
    more own (choice kernel at (branch mark first it.0)) nothing,
    inl (it.0, refl, it.1),
    many_as asked.span (λ n. behind_at asked labels (block_at asked labels first) it.0 n) (λ n. behind_at asked labels (block_at asked labels first) it.0 n + 0) (λ n. none_more (behind_at asked labels (block_at asked labels first) it.0 n)) it.2,
  )
  choice_many own kernel at mark first rest (inr it) = (it.0, inr (inr it.1), it.2)

  first_many : (own : Mark) (kernel : ℕ) (at : CoreEnd) (mark : Mark) (first : BlockTree) (rest : BranchTrees) → SomePart first → SomeOfStmt own (choice kernel at (branch mark first rest))
  first_many own kernel at mark first rest it = (it.0, inr (inl it.1), it.2)

  later_many : (best : ℤ → ℕ) (mark : Mark) (first : BlockTree) (rest : BranchTrees) → SomeBehind (λ n. picked (way_of asked.way) (best n) (block_at asked labels first n)) rest → SomeBehind best (branch mark first rest)
  later_many best mark first rest (inl it) = inl (branch mark first it.0, inr (it.0, refl, it.1), it.2)
  later_many best mark first rest (inr it) = inr (it.0, inr it.1, it.2)

  mutual
    many_from : (before : ℤ → ℕ) (block : BlockTree) → ManyFrom asked labels before block → SomeFrom before block
    many_from before nothing h = inl (nothing, refl, many_none before h)
    many_from before (more mark first rest) (inl h) = inl (nothing, inl refl, many_none before h)
    many_from before (more mark first rest) (inr (inl h)) = let it = many_of_stmt mark first h in inr (it.0, inl it.1, it.2)
    many_from before (more mark first rest) (inr (inr h)) = rest_many before mark first rest (many_from (λ n. before n + stmt_at asked labels first n) rest h)

    many_of_stmt : (own : Mark) (stmt : StmtTree) → ManyStmt asked labels stmt → SomeOfStmt own stmt
    many_of_stmt own (message label from to) h = absurd h
    many_of_stmt own (foreach bounds mark items) h = absurd h
    many_of_stmt own (loop id mark body) h = whole_many body (many_from nothing_sent body h)
    many_of_stmt own (again id) h = absurd h
    many_of_stmt own (choice kernel at no_branch) h = absurd h
    many_of_stmt own (choice kernel at (branch mark first rest)) (inl h) = first_many own kernel at mark first rest (whole_many first (many_from nothing_sent first h))
    many_of_stmt own (choice kernel at (branch mark first rest)) (inr h) = choice_many own kernel at mark first rest (many_behind (block_at asked labels first) rest h)
    many_of_stmt own (run kernel at) h = absurd h
    many_of_stmt own barrier h = absurd h
    many_of_stmt own (broadcast label root) h = absurd h
    many_of_stmt own (reduce label op root) h = absurd h
    many_of_stmt own (allreduce label op) h = absurd h

    many_behind : (best : ℤ → ℕ) (bs : BranchTrees) → ManyBehind asked labels best bs → SomeBehind best bs
    many_behind best no_branch h = inl (no_branch, refl, h)
    many_behind best (branch mark first rest) (inl h) = inl (no_branch, inl refl, h)
    many_behind best (branch mark first rest) (inr (inl h)) = let it = whole_many first (many_from nothing_sent first h) in inr (it.0, inl it.1, it.2)
    many_behind best (branch mark first rest) (inr (inr h)) = later_many best mark first rest (many_behind (λ n. picked (way_of asked.way) (best n) (block_at asked labels first n)) rest h)

  pub many_part : (block : BlockTree) → ManyFrom asked labels nothing_sent block → (part : BlockTree) × IsPart part block × IsMany asked.span (λ n. block_at asked labels part n)
  many_part block h = whole_many block (many_from nothing_sent block h)
