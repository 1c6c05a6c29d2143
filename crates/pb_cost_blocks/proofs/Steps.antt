-- One statement more on the way through a block.
use Rattle.std.proofs.Common.{◌≡◌, ◌<◌, ◌≤◌, ◌+◌, inl, inr, true, ℕ, ℤ, pos, ◌+ℤ◌, ◌<ℤ◌, ◌≤ℤ◌, length, get_or, drop, List, ◌∷◌, refl, sym, ap, ap₂, ◌∙◌, subst, arith}
use Rattle.std.proofs.lemmas.Int.{ints}
use Rattle.std.proofs.lemmas.Bool.{and_parts}
use Rattle.std.proofs.lemmas.List.{at_drop_more}
use Rattle.pb_syntax.specs.declared.core_label.CoreLabel.{CoreLabel}
use Rattle.pb_core_language.specs.Tree.{Mark, StmtTree, BlockTree, nothing, more}
use Rattle.pb_cost_pieces.specs.declared.join.Join.{Join}
use Rattle.pb_cost_pieces.specs.declared.join.Join.TheVariants.{Sum}
use Rattle.pb_cost_pieces.specs.Lines.{value_in}
use Rattle.pb_cost_joins.specs.declared.count.Count.{Count}
use Rattle.pb_cost_joins.specs.declared.span.Span.{Span}
use Rattle.pb_cost_joins.specs.Counts.{Says}
use Rattle.pb_cost_blocks.specs.declared.running.Running.{Running}
use Rattle.pb_cost_blocks.specs.declared.asked.Asked.{Asked}
use Rattle.pb_cost_blocks.specs.declared.stop.Stop.{Stop}
use Rattle.pb_cost_blocks.specs.declared.stop.Stop.TheVariants.{TooManyPieces, Unfit, NoMemory}
use Rattle.pb_cost_blocks.specs.Asked.{counted, size_in}
use Rattle.pb_cost_blocks.specs.Answers.{IsTold, IsStopped, IsJoined, FewJoined, JoinStopped}
use Rattle.pb_cost_blocks.specs.Few.{stmt_at, block_at, nothing_sent, IsFew, IsMany, FewStmt, FewFrom, ManyStmt, ManyFrom}
use Rattle.pb_cost_blocks.specs.Fit.{weight_of_stmt, weight_of, is_fit_stmt, is_fit}
use Rattle.pb_cost_blocks.specs.Running.{HasFew, HasMany, total, total_weight, IsRunning, RunningStopped}
use Rattle.pb_cost_blocks.specs.Sums.{IsSum}
use Rattle.pb_cost_blocks.proofs.Counts.{few_of, many_of, few_as}
use Rattle.pb_cost_blocks.proofs.Runs.{few_numbers, many_numbers}

abbrev pub stmt_weight : Asked → List CoreLabel → StmtTree → ℕ
stmt_weight asked labels stmt = weight_of_stmt (counted asked.what) (size_in labels) stmt

abbrev pub block_weight : Asked → List CoreLabel → BlockTree → ℕ
block_weight asked labels block = weight_of (counted asked.what) (size_in labels) block

abbrev pub StmtTold : Asked → List CoreLabel → StmtTree → Count → Type 0
StmtTold asked labels stmt c = IsTold asked.span (stmt_at asked labels stmt) (stmt_weight asked labels stmt) (FewStmt asked labels stmt) c

abbrev pub BlockTold : Asked → List CoreLabel → BlockTree → Count → Type 0
BlockTold asked labels block c = IsTold asked.span (block_at asked labels block) (block_weight asked labels block) (FewFrom asked labels nothing_sent block) c

abbrev pub StmtStopped : Asked → List CoreLabel → StmtTree → Stop → Type 0
StmtStopped asked labels stmt e = IsStopped (is_fit_stmt stmt) (stmt_weight asked labels stmt) (ManyStmt asked labels stmt) e

abbrev pub BlockStopped : Asked → List CoreLabel → BlockTree → Stop → Type 0
BlockStopped asked labels block e = IsStopped (is_fit block) (block_weight asked labels block) (ManyFrom asked labels nothing_sent block) e

-- ---- a list from a place on

pub from_place : {X : Type 0} (xs : List X) (i : ℕ) (h : X) → i < length xs → h ≡ get_or xs i h → drop i xs ≡ h ∷ drop (i + 1) xs
from_place xs i h lt is = at_drop_more (λ z. z) xs i h lt ∙ ap (λ k. k ∷ drop (i + 1) xs) (sym is)

-- ---- joined counts, where they are few

pub begun_few : (span : Span) (none c : Count) → IsTold span nothing_sent 0 (Unit {0}) none → c ≡ none → length none.list.items ≤ 4096 → IsTold span nothing_sent 0 (IsFew span nothing_sent) c
begun_few span none c told same few = subst (λ x. IsTold span nothing_sent 0 (IsFew span nothing_sent) x) (sym same) (record {
  count = told.count;
  on = told.on;
  says = told.says;
  weighs = told.weighs;
  parts = few_of none span nothing_sent told.count told.on told.says few;
})

pub begun_many : (span : Span) (none : Count) (e : Stop) → IsTold span nothing_sent 0 (Unit {0}) none → e ≡ TooManyPieces → 4096 < length none.list.items → IsStopped true 0 (IsMany span nothing_sent) e
begun_many span none e told is many = subst (λ x. IsStopped true 0 (IsMany span nothing_sent) x) (sym is) (many_of none span nothing_sent told.count told.on told.says many)

pub joined_few : (join : Join) (a b count c : Count) → IsJoined join a b count → c ≡ count → length count.list.items ≤ 4096 → FewJoined join a b c
joined_few join a b count c j same few = subst (λ x. FewJoined join a b x) (sym same) (j, few)

pub joined_many : (join : Join) (a b count : Count) (e : Stop) → IsJoined join a b count → e ≡ TooManyPieces → 4096 < length count.list.items → JoinStopped join a b e
joined_many join a b count e j is many = subst (λ x. JoinStopped join a b x) (sym is) (count, j, many)

-- ---- weights

sums : (a b : ℕ) → pos a +ℤ pos b ≡ pos (a + b)
sums a b = omega (arith, ints)

move : (w b f r : ℕ) → w ≡ b + (f + r) → w ≡ (b + f) + r
move w b f r e = omega (arith, e)

pub weigh : (w : ℕ) (c next new : ℤ) (f r : ℕ) → pos w ≡ c +ℤ pos (f + r) → next ≡ pos f → new ≡ c +ℤ next → pos w ≡ new +ℤ pos r
weigh w c next new f r e g h = omega (arith, ints, e, g, h)

pub heavy_alone : (w : ℕ) (c : ℤ) (f r : ℕ) → pos w ≡ c +ℤ pos (f + r) → pos 0 ≤ℤ c → w ≤ 4100000 → f ≤ 4100000
heavy_alone w c f r e h k = omega (arith, ints, e, h, k)

pub not_heavy : (w : ℕ) (c next : ℤ) (f r : ℕ) → pos w ≡ c +ℤ pos (f + r) → next ≡ pos f → pos 4100000 <ℤ (c +ℤ next) → w ≤ 4100000 → ⊥
not_heavy w c next f r e g h k = omega (arith, ints, e, g, h, k)

pub last_weight : (w : ℕ) (c : ℤ) → pos w ≡ c +ℤ pos 0 → c ≡ pos w
last_weight w c e = omega (arith, ints, e)

last_heavy : (w : ℕ) (c : ℤ) → pos w ≡ c +ℤ pos 0 → pos 4100000 <ℤ c → w ≤ 4100000 → ⊥
last_heavy w c e h k = omega (arith, ints, e, h, k)

both_low : (a b : ℤ) → pos 0 ≤ℤ a → pos 0 ≤ℤ b → pos 0 ≤ℤ (a +ℤ b)
both_low a b h k = omega (arith, ints, h, k)

first_weight : (w : ℕ) (c : ℤ) → c ≡ pos 0 → pos w ≡ c +ℤ pos w
first_weight w c e = omega (arith, ints, e)

no_more : (a b : ℕ) → a ≡ b + 0 → b ≡ a
no_more a b e = omega (arith, e)

pub none_yet : (a : ℕ) → a ≡ 0 + a
none_yet a = omega arith

module _ (asked : Asked) (labels : List CoreLabel) where
  abbrev with_stmt : (ℤ → ℕ) → StmtTree → ℤ → ℕ
  with_stmt before first n = before n + stmt_at asked labels first n

  many_here : (before : ℤ → ℕ) (rest : BlockTree) → IsMany asked.span before → ManyFrom asked labels before rest
  many_here before nothing h = h
  many_here before (more mark first rest) h = inl h

  -- where the walk begins
  pub sum_begins : (r : Running) (block : BlockTree) → IsRunning asked.span (λ n. pos 0) (pos 0) r → IsSum asked labels r block block
  sum_begins r block is = record {
    before = nothing_sent;
    counts = is.counts;
    on = is.on;
    says = is.says;
    few = few_numbers asked.span (λ n. pos 0) nothing_sent (λ n low high. refl) is.few;
    whole = λ n. none_yet (block_at asked labels block n);
    weighs = first_weight (block_weight asked labels block) (total_weight r) is.weighs;
    fit = λ h. h;
    all_few = λ h. h;
    some_many = λ h. h;
  }

  pub begin_stops : (block : BlockTree) (e : Stop) → IsStopped true 0 (IsMany asked.span nothing_sent) e → BlockStopped asked labels block e
  begin_stops block TooManyPieces h = many_here nothing_sent block h
  begin_stops block Unfit h = λ fit light. h refl (omega arith)
  begin_stops block NoMemory h = tt

  -- where it ends
  module _ (r : Running) (block : BlockTree) (sum : IsSum asked labels r nothing block) where
    last_says : (c : Count) → IsJoined Sum r.sum r.recent c → Says c (λ n. pos (sum.before n))
    last_says c j = record { is = λ n low high. j.says.is n low high ∙ sum.says n (subst (λ s. s.from ≤ℤ n) (j.on ∙ sum.on) low) (subst (λ s. n ≤ℤ s.to) (j.on ∙ sum.on) high) }

    pub sum_ends : (c : Count) → FewJoined Sum r.sum r.recent c → BlockTold asked labels block c
    sum_ends c j =
        let says = last_says c j.0 in
        record {
          count = j.0.count;
          on = j.0.on ∙ sum.on;
          says = record { is = λ n low high. says.is n low high ∙ ap pos (no_more (block_at asked labels block n) (sum.before n) (sum.whole n)) };
          weighs = j.0.weighs ∙ last_weight (block_weight asked labels block) (total_weight r) sum.weighs;
          parts = sum.all_few sum.few;
        }

    pub end_stops : (e : Stop) → JoinStopped Sum r.sum r.recent e → BlockStopped asked labels block e
    end_stops TooManyPieces h = sum.some_many (many_of h.0 asked.span sum.before h.1.count (h.1.on ∙ sum.on) (last_says h.0 h.1) h.2)
    end_stops Unfit h = λ fit light. last_heavy (block_weight asked labels block) (total_weight r) sum.weighs h light
    end_stops NoMemory h = tt

  module _ (r : Running) (mark : Mark) (first : StmtTree) (rest block : BlockTree) (sum : IsSum asked labels r (more mark first rest) block) where
    -- no count of the statement
    pub stmt_stops : (e : Stop) → StmtStopped asked labels first e → BlockStopped asked labels block e
    stmt_stops TooManyPieces h = sum.some_many (inr (inl h))
    stmt_stops Unfit h = λ fit light.
        h (and_parts (is_fit_stmt first) (is_fit rest) (sum.fit fit)).0
        (heavy_alone (block_weight asked labels block) (total_weight r) (stmt_weight asked labels first) (block_weight asked labels rest) sum.weighs (both_low r.sum.weight r.recent.weight r.sum.weight_low r.recent.weight_low) light)
    stmt_stops NoMemory h = tt

    module _ (next : Count) (told : StmtTold asked labels first next) where
      next_on : (P : Span → Type 0) → P asked.span → P next.span
      next_on P h = subst P (sym told.on) h

      with_says : (n : ℤ) → asked.span.from ≤ℤ n → n ≤ℤ asked.span.to → pos (with_stmt sum.before first n) ≡ total r n +ℤ value_in next.list.items n
      with_says n low high = sym
          (ap₂ (λ x y. x +ℤ y) (sum.says n low high) (told.says.is n (next_on (λ s. s.from ≤ℤ n) low) (next_on (λ s. n ≤ℤ s.to) high))
          ∙ sums (sum.before n) (stmt_at asked labels first n))

      -- no count of both
      pub sum_stops : (e : Stop) → RunningStopped r.sum.span (λ n. total r n +ℤ value_in next.list.items n) (total_weight r +ℤ next.weight) e → BlockStopped asked labels block e
      sum_stops TooManyPieces h = elim h [
        | inl many ↦
            sum.some_many (inr (inr (many_here (with_stmt sum.before first) rest
            (many_numbers asked.span (λ n. total r n +ℤ value_in next.list.items n) (with_stmt sum.before first) with_says (subst (λ s. HasMany s (λ n. total r n +ℤ value_in next.list.items n)) sum.on many)))))
        | inr many ↦ many_here nothing_sent block (subst (λ s. IsMany s nothing_sent) sum.on many)
      ]
      sum_stops Unfit h = λ fit light. not_heavy (block_weight asked labels block) (total_weight r) next.weight (stmt_weight asked labels first) (block_weight asked labels rest) sum.weighs told.weighs h light
      sum_stops NoMemory h = tt

      -- one statement more
      pub sum_goes_on : (new : Running) → IsRunning r.sum.span (λ n. total r n +ℤ value_in next.list.items n) (total_weight r +ℤ next.weight) new → IsSum asked labels new rest block
      sum_goes_on new is = record {
        before = with_stmt sum.before first;
        counts = is.counts;
        on = is.on ∙ sum.on;
        says = λ n low high. is.says n (subst (λ s. s.from ≤ℤ n) (sym sum.on) low) (subst (λ s. n ≤ℤ s.to) (sym sum.on) high) ∙ sym (with_says n low high);
        few = few_numbers asked.span (λ n. total r n +ℤ value_in next.list.items n) (with_stmt sum.before first) with_says (subst (λ s. HasFew s (λ n. total r n +ℤ value_in next.list.items n)) sum.on is.few);
        whole = λ n. move (block_at asked labels block n) (sum.before n) (stmt_at asked labels first n) (block_at asked labels rest n) (sum.whole n);
        weighs = weigh (block_weight asked labels block) (total_weight r) next.weight (total_weight new) (stmt_weight asked labels first) (block_weight asked labels rest) sum.weighs told.weighs is.weighs;
        fit = λ h. (and_parts (is_fit_stmt first) (is_fit rest) (sum.fit h)).1;
        all_few = λ h. sum.all_few (sum.few, (told.parts, h));
        some_many = λ h. sum.some_many (inr (inr h));
      }

  -- the last of a block's parts is the block
  pub last_few : (before : ℤ → ℕ) (block : BlockTree) → FewFrom asked labels before block → IsFew asked.span (λ n. before n + block_at asked labels block n)
  last_few before nothing h = few_as asked.span before (λ n. before n + 0) (λ n. sym (no_more (before n + 0) (before n) refl)) h
  last_few before (more mark first rest) h =
      few_as asked.span (λ n. (before n + stmt_at asked labels first n) + block_at asked labels rest n) (λ n. before n + (stmt_at asked labels first n + block_at asked labels rest n)) (λ n. move (before n + (stmt_at asked labels first n + block_at asked labels rest n)) (before n) (stmt_at asked labels first n) (block_at asked labels rest n) refl)
      (last_few (with_stmt before first) rest h.1.1)
