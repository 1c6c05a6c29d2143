-- One branch more on the way through a choice.
use Rattle.std.proofs.Common.{◌≡◌, ◌≤◌, ◌+◌, inl, inr, ℕ, ℤ, pos, ◌+ℤ◌, List, refl, sym, ap, ◌∙◌, arith}
use Rattle.std.proofs.lemmas.Int.{ints}
use Rattle.std.proofs.lemmas.Bool.{and_parts}
use Rattle.pb_syntax.specs.declared.core_label.CoreLabel.{CoreLabel}
use Rattle.pb_core_language.specs.Tree.{Mark, BlockTree, BranchTrees, no_branch, branch}
use Rattle.pb_cost_pieces.specs.declared.join.Join.{Join}
use Rattle.pb_cost_pieces.specs.Lines.{joined}
use Rattle.pb_cost_joins.specs.declared.count.Count.{Count}
use Rattle.pb_cost_laws.specs.Sent.{picked}
use Rattle.pb_cost_blocks.specs.declared.asked.Asked.{Asked}
use Rattle.pb_cost_blocks.specs.declared.stop.Stop.{Stop}
use Rattle.pb_cost_blocks.specs.declared.stop.Stop.TheVariants.{TooManyPieces, Unfit, NoMemory}
use Rattle.pb_cost_blocks.specs.Asked.{way_of, choosing, counted, size_in}
use Rattle.pb_cost_blocks.specs.Answers.{IsTold, IsStopped, FewJoined, JoinStopped}
use Rattle.pb_cost_blocks.specs.Few.{block_at, branches_at, nothing_sent, IsMany, FewBranches, ManyBranches, ManyBehind}
use Rattle.pb_cost_blocks.specs.Fit.{weight_of_branches, is_fit, are_fit}
use Rattle.pb_cost_blocks.specs.Sums.{IsBest}
use Rattle.pb_cost_blocks.proofs.Counts.{joined_says, few_of, many_of, few_as, picked_is}
use Rattle.pb_cost_blocks.proofs.Steps.{block_weight, BlockTold, BlockStopped, weigh, heavy_alone, not_heavy, last_weight, none_yet, last_few}

abbrev pub branches_weight : Asked → List CoreLabel → BranchTrees → ℕ
branches_weight asked labels branches = weight_of_branches (counted asked.what) (size_in labels) branches

abbrev pub BranchesTold : Asked → List CoreLabel → BranchTrees → Count → Type 0
BranchesTold asked labels branches c = IsTold asked.span (branches_at asked labels branches) (branches_weight asked labels branches) (FewBranches asked labels branches) c

abbrev pub BranchesStopped : Asked → List CoreLabel → BranchTrees → Stop → Type 0
BranchesStopped asked labels branches e = IsStopped (are_fit branches) (branches_weight asked labels branches) (ManyBranches asked labels branches) e

light_first : (f r : ℕ) → (f + r) ≤ 4100000 → f ≤ 4100000
light_first f r h = omega (arith, h)

first_weighs : (f r : ℕ) (c : ℤ) → c ≡ pos f → pos (f + r) ≡ c +ℤ pos r
first_weighs f r c e = omega (arith, ints, e)

module _ (asked : Asked) (labels : List CoreLabel) where
  abbrev with_branch : (ℤ → ℕ) → BlockTree → ℤ → ℕ
  with_branch best first n = picked (way_of asked.way) (best n) (block_at asked labels first n)

  many_behind : (best : ℤ → ℕ) (rest : BranchTrees) → IsMany asked.span best → ManyBehind asked labels best rest
  many_behind best no_branch h = h
  many_behind best (branch mark first rest) h = inl h

  -- the first branch
  pub best_begins : (c : Count) (mark : Mark) (first : BlockTree) (rest : BranchTrees) → BlockTold asked labels first c → IsBest asked labels c rest (branch mark first rest)
  best_begins c mark first rest told = record {
    best = block_at asked labels first;
    count = told.count;
    on = told.on;
    says = told.says;
    few = few_as asked.span (λ n. 0 + block_at asked labels first n) (block_at asked labels first) (λ n. none_yet (block_at asked labels first n)) (last_few asked labels nothing_sent first told.parts);
    whole = λ n. refl;
    weighs = first_weighs (block_weight asked labels first) (branches_weight asked labels rest) c.weight told.weighs;
    fit = λ h. (and_parts (is_fit first) (are_fit rest) h).1;
    all_few = λ h. (told.parts, h);
    some_many = λ h. inr h;
  }

  pub first_stops : (mark : Mark) (first : BlockTree) (rest : BranchTrees) (e : Stop) → BlockStopped asked labels first e → BranchesStopped asked labels (branch mark first rest) e
  first_stops mark first rest TooManyPieces h = inl h
  first_stops mark first rest Unfit h = λ fit light. h (and_parts (is_fit first) (are_fit rest) fit).0 (light_first (block_weight asked labels first) (branches_weight asked labels rest) light)
  first_stops mark first rest NoMemory h = tt

  pub best_ends : (c : Count) (branches : BranchTrees) → IsBest asked labels c no_branch branches → BranchesTold asked labels branches c
  best_ends c branches sum = record {
    count = sum.count;
    on = sum.on;
    says = record { is = λ n low high. sum.says.is n low high ∙ ap pos (sym (sum.whole n)) };
    weighs = last_weight (branches_weight asked labels branches) c.weight sum.weighs;
    parts = sum.all_few sum.few;
  }

  module _ (c : Count) (mark : Mark) (first : BlockTree) (rest branches : BranchTrees) (sum : IsBest asked labels c (branch mark first rest) branches) where
    pub branch_stops : (e : Stop) → BlockStopped asked labels first e → BranchesStopped asked labels branches e
    branch_stops TooManyPieces h = sum.some_many (inr (inl h))
    branch_stops Unfit h = λ fit light.
        h (and_parts (is_fit first) (are_fit rest) (sum.fit fit)).0
        (heavy_alone (branches_weight asked labels branches) c.weight (block_weight asked labels first) (branches_weight asked labels rest) sum.weighs c.weight_low light)
    branch_stops NoMemory h = tt

    module _ (next : Count) (told : BlockTold asked labels first next) (join : Join) (is : join ≡ choosing asked.way) where
      joined_is : (n : ℤ) → joined join (pos (sum.best n)) (pos (block_at asked labels first n)) ≡ pos (with_branch sum.best first n)
      joined_is n = ap (λ j. joined j (pos (sum.best n)) (pos (block_at asked labels first n))) is ∙ picked_is asked.way (sum.best n) (block_at asked labels first n)

      pub best_stops : (e : Stop) → JoinStopped join c next e → BranchesStopped asked labels branches e
      best_stops TooManyPieces h =
          let says = joined_says join c next h.0 asked.span sum.best (block_at asked labels first) (with_branch sum.best first) sum.on told.on sum.says told.says h.1 joined_is in
          sum.some_many (inr (inr (many_behind (with_branch sum.best first) rest (many_of h.0 asked.span (with_branch sum.best first) h.1.count (h.1.on ∙ sum.on) says h.2))))
      best_stops Unfit h = λ fit light. not_heavy (branches_weight asked labels branches) c.weight next.weight (block_weight asked labels first) (branches_weight asked labels rest) sum.weighs told.weighs h light
      best_stops NoMemory h = tt

      pub best_goes_on : (new : Count) → FewJoined join c next new → IsBest asked labels new rest branches
      best_goes_on new j =
          let says = joined_says join c next new asked.span sum.best (block_at asked labels first) (with_branch sum.best first) sum.on told.on sum.says told.says j.0 joined_is in
          record {
            best = with_branch sum.best first;
            count = j.0.count;
            on = j.0.on ∙ sum.on;
            says = says;
            few = few_of new asked.span (with_branch sum.best first) j.0.count (j.0.on ∙ sum.on) says j.1;
            whole = sum.whole;
            weighs = weigh (branches_weight asked labels branches) c.weight next.weight new.weight (block_weight asked labels first) (branches_weight asked labels rest) sum.weighs told.weighs j.0.weighs;
            fit = λ h. (and_parts (is_fit first) (are_fit rest) (sum.fit h)).1;
            all_few = λ h. sum.all_few (sum.few, (told.parts, h));
            some_many = λ h. sum.some_many (inr (inr h));
          }
