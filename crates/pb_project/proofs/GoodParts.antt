-- What is known of the parts of a part of a protocol.
use Rattle.std.proofs.Common.{◌≡◌, ℕ, ℤ, pos, Bool, true, false, not, ◌==◌, ◌&&◌, ◌||◌, nat_lt, None, List, [], ◌++◌, refl, sym, ◌∙◌}
use Rattle.std.proofs.lemmas.Bool.{and_parts}
use Rattle.pb_affine.specs.declared.lin.Lin.{Lin}
use Rattle.pb_choice.specs.declared.rule.ChoiceRule.{ChoiceRule}
use Rattle.pb_choice.specs.Flaws.{fits_of}
use Rattle.pb_choice.specs.Scenes.{AreFair}
use Rattle.pb_choice.proofs.Fairs.{goes_if, fair_first, fair_rest, fair_body, fair_branches, fair_branch, fair_others}
use Rattle.pb_choice.proofs.Origins.{none_left, none_right}
use Rattle.pb_core_language.specs.declared.tree.CoreEnd.{CoreEnd}
use Rattle.pb_core_language.specs.Cuts.{stmt_cuts, block_cuts, branches_cuts, end_cuts}
use Rattle.pb_core_language.specs.Flat.{stop, takes_part_among}
use Rattle.pb_core_language.specs.FlatOf.{rank_of, flat_stmt, flat_block, flat_branches}
use Rattle.pb_core_language.specs.Outcomes.{Outcome, firsts}
use Rattle.pb_core_language.specs.Plain.{Protocol}
use Rattle.pb_core_language.specs.Rules.{misfits, misfits_among}
use Rattle.pb_core_language.specs.Sound.{rows_of, is_item, is_end, is_stmt, is_block}
use Rattle.pb_core_language.specs.Tree.{Mark, StmtTree, message, foreach, loop, again, choice, run, barrier, broadcast, reduce, allreduce, BlockTree, more, BranchTrees, no_branch, branch, is_again}
use Rattle.pb_core_language.specs.Verdict.{IsIn}
use Rattle.pb_core_flat.specs.Seated.{rank, is_rank}
use Rattle.pb_core_flat.proofs.BreachesAdd.{misfits_one_by_one}
use Rattle.pb_part_takers.specs.Pieces.{AreAmong}
use Rattle.pb_part_takers.proofs.Among.{among_left, among_right}
use Rattle.pb_shape.specs.Places.{scope_of}
use Rattle.pb_shape.specs.Loops.{Around, in_loop}
use Rattle.pb_shape.specs.Tabled.{GoAmong}
use Rattle.pb_project.specs.Places.{IsGoodStmt, IsGood, AreGood}
use Rattle.pb_project.specs.Takers.{back_to}

pub no_continue : (s : StmtTree) → back_to s ≡ None → is_again s ≡ false
no_continue (message l f t) h = refl
no_continue (foreach b m items) h = refl
no_continue (loop id m body) h = refl
no_continue (again id) h = cc
no_continue (choice k at bs) h = refl
no_continue (run k at) h = refl
no_continue barrier h = refl
no_continue (broadcast l root) h = refl
no_continue (reduce l op root) h = refl
no_continue (allreduce l op) h = refl

module _ (p : Protocol) (cuts : List Lin) (a : Around) where
  parts_keep : (m : Mark) (s : StmtTree) (b : BlockTree) → back_to s ≡ None → IsGood p cuts a (more m s b) → (k : ChoiceRule) (n : ℤ) (role : ℕ) (x : ℤ) → IsIn p.range n → is_rank p.roles n role x ≡ true →
      misfits (fits_of k) (a.held n role x) (rank p.roles n role x) (flat_stmt p.roles n a.opens (pos 0) m s stop) ++ misfits (fits_of k) (a.held n role x) (rank p.roles n role x) (flat_block p.roles n a.opens (pos 0) b stop) ≡ []
  parts_keep m s b e h k n role x within r =
      let first = fair_first p.range p.roles (rows_of p) a.opens m s b (no_continue s e) h.fair in
      sym (misfits_one_by_one (fits_of k) p.roles n (pos 0) (rank p.roles n role x) (a.held n role x) a.opens m s (flat_block p.roles n a.opens (pos 0) b stop)
      (goes_if p.range p.roles (rows_of p) a.opens s first.sound (no_continue s e))) ∙ h.keeps k n role x within r

  -- the first statement, which is no continue, and the rest
  pub good_first : (m : Mark) (s : StmtTree) (b : BlockTree) → back_to s ≡ None → IsGood p cuts a (more m s b) → IsGoodStmt p cuts a m s
  good_first m s b e h = record {
    fair = fair_first p.range p.roles (rows_of p) a.opens m s b (no_continue s e) h.fair;
    goes = h.goes.0;
    among = among_left (stmt_cuts None s) (block_cuts None b) cuts h.among;
    keeps = λ k n role x within r. none_left _ _ (parts_keep m s b e h k n role x within r);
  }

  pub good_rest : (m : Mark) (s : StmtTree) (b : BlockTree) → back_to s ≡ None → IsGood p cuts a (more m s b) → IsGood p cuts a b
  good_rest m s b e h = record {
    fair = fair_rest p.range p.roles (rows_of p) a.opens m s b (no_continue s e) h.fair;
    goes = h.goes.1;
    among = among_right (stmt_cuts None s) (block_cuts None b) cuts h.among;
    keeps = λ k n role x within r. none_right _ _ (parts_keep m s b e h k n role x within r);
  }

  pub good_again : (m : Mark) (id : ℕ) (b : BlockTree) → IsGood p cuts a (more m (again id) b) → is_stmt (rows_of p) false a.opens (again id) ≡ true
  good_again m id b h = (and_parts (is_stmt (rows_of p) false a.opens (again id)) (is_block (rows_of p) false a.opens b) (and_parts (not false || is_item (again id)) _ h.fair.sound).1).0

  -- the body of a loop
  pub good_body : (m mark : Mark) (id number : ℕ) (body : BlockTree) → IsGoodStmt p cuts a m (loop id mark body) → IsGood p cuts (in_loop (scope_of p) a id number body) body
  good_body m mark id number body h = record {
    fair = fair_body p.range p.roles (rows_of p) a.opens m mark id body h.fair;
    goes = h.goes;
    among = h.among;
    keeps = λ k n role x within r. none_left _ [] (h.keeps k n role x within r);
  }

  -- ---- a choice

  pub record IsGoodChoice (k : ℕ) (at : CoreEnd) (bs : BranchTrees) : Type 0 where
    pub kernel : nat_lt k (rows_of p).kernels ≡ true
    pub end : is_end (rows_of p) false at ≡ true
    pub branches : AreFair p.range p.roles (rows_of p) a.opens bs
    pub among : AreAmong (branches_cuts None bs) cuts

  pub good_choice : (m : Mark) (k : ℕ) (at : CoreEnd) (bs : BranchTrees) → IsGoodStmt p cuts a m (choice k at bs) → IsGoodChoice k at bs
  good_choice m k at bs h =
      let first = and_parts (nat_lt k (rows_of p).kernels) _ h.fair.sound in
      record {
        kernel = first.0;
        end = (and_parts (is_end (rows_of p) false at) _ first.1).0;
        branches = fair_branches p.range p.roles (rows_of p) a.opens m k at bs h.fair;
        among = among_right (end_cuts None at) (branches_cuts None bs) cuts h.among;
      }

  -- no branch has a misfit, told as these ranks are and behind others in which they found this first
  abbrev pub KeepAmong : (ℤ → ℕ → ℤ → Bool) → (ℤ → ℕ → ℤ → List Outcome) → BranchTrees → Type 0
  KeepAmong told before bs = (k : ChoiceRule) (n : ℤ) (role : ℕ) (x : ℤ) → IsIn p.range n → is_rank p.roles n role x ≡ true →
      misfits_among (fits_of k) (a.held n role x) (rank p.roles n role x) (told n role x) (before n role x) (flat_branches p.roles n a.opens (pos 0) bs) ≡ []

  abbrev pub is_told_at : CoreEnd → BranchTrees → ℤ → ℕ → ℤ → Bool
  is_told_at at bs n role x = not (rank_of p.roles n at (pos 0) == rank p.roles n role x) && takes_part_among (a.held n role x) (rank p.roles n role x) (flat_branches p.roles n a.opens (pos 0) bs)

  pub choice_keeps : (m : Mark) (k : ℕ) (at : CoreEnd) (bs : BranchTrees) → IsGoodStmt p cuts a m (choice k at bs) → KeepAmong (is_told_at at bs) (λ n role x. []) bs
  choice_keeps m k at bs h = λ j n role x within r. none_left _ [] (h.keeps j n role x within r)

  each_good : (told : ℤ → ℕ → ℤ → Bool) (before : ℤ → ℕ → ℤ → List Outcome) (bs : BranchTrees) → AreFair p.range p.roles (rows_of p) a.opens bs → GoAmong p bs → AreAmong (branches_cuts None bs) cuts → KeepAmong told before bs → AreGood p cuts a bs
  each_good told before no_branch fair go among keeps = tt
  each_good told before (branch m b bs) fair go among keeps = (
    record {
      fair = fair_branch p.range p.roles (rows_of p) a.opens m b bs fair;
      goes = go.0;
      among = among_left (block_cuts None b) (branches_cuts None bs) cuts among;
      keeps = λ k n role x within r. none_left _ _ (none_right _ _ (keeps k n role x within r));
    },
    each_good told (λ n role x. before n role x ++ firsts (a.held n role x) (rank p.roles n role x) (flat_block p.roles n a.opens (pos 0) b stop)) bs (fair_others p.range p.roles (rows_of p) a.opens m b bs fair) go.1
        (among_right (block_cuts None b) (branches_cuts None bs) cuts among) (λ k n role x within r. none_right _ _ (none_right _ _ (keeps k n role x within r))),
  )

  pub good_branches : (m : Mark) (k : ℕ) (at : CoreEnd) (bs : BranchTrees) → IsGoodStmt p cuts a m (choice k at bs) → AreGood p cuts a bs
  good_branches m k at bs h =
      let c = good_choice m k at bs h in
      each_good (is_told_at at bs) (λ n role x. []) bs c.branches h.goes.3 c.among (choice_keeps m k at bs h)
