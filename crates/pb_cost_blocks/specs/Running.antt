-- The statements that were counted so far, in two counts: the sum of most of them, and that of the latest ones.
--
-- f is what they send at each N, and w is what they weigh.
use Rattle.std.specs.Prelude.{◌≡◌, ◌<◌, ◌≤◌, ℤ, pos, ◌+ℤ◌, ◌≤ℤ◌, ◌<ℤ◌, true, ◌⊎◌, List, length, Result, MatchResult}
use Rattle.pb_cost_pieces.specs.declared.stretch.Stretch.{Stretch}
use Rattle.pb_cost_pieces.specs.declared.join.Join.TheVariants.{Sum}
use Rattle.pb_cost_pieces.specs.Lines.{value_in, AreStretches}
use Rattle.pb_cost_joins.specs.declared.count.Count.{Count}
use Rattle.pb_cost_joins.specs.declared.span.Span.{Span}
use Rattle.pb_cost_joins.specs.Counts.{IsCount}
use Rattle.pb_cost_blocks.specs.declared.running.Running.{Running}
use Rattle.pb_cost_blocks.specs.declared.stop.Stop.{Stop}
use Rattle.pb_cost_blocks.specs.declared.stop.Stop.TheVariants.{TooManyPieces, Unfit, NoMemory}
use Rattle.pb_cost_blocks.specs.Answers.{IsTold, IsStopped, IsJoined}
use Rattle.pb_cost_blocks.specs.Few.{nothing_sent, IsFew, IsMany}

-- the function has at most 4,096 stretches on the span, or more
pub record HasFew (span : Span) (f : ℤ → ℤ) : Type 0 where
  pub list : List Stretch
  pub are : AreStretches f span.to span.from list
  pub few : length list ≤ 4096

pub record HasMany (span : Span) (f : ℤ → ℤ) : Type 0 where
  pub list : List Stretch
  pub are : AreStretches f span.to span.from list
  pub many : 4096 < length list

-- what both say together, and what they weigh
abbrev pub total : Running → ℤ → ℤ
total r n = value_in r.sum.list.items n +ℤ value_in r.recent.list.items n

abbrev pub total_weight : Running → ℤ
total_weight r = r.sum.weight +ℤ r.recent.weight

pub record AreCounts (r : Running) : Type 0 where
  pub sum : IsCount r.sum
  pub recent : IsCount r.recent
  pub same : r.recent.span ≡ r.sum.span

-- together they are this function, which has few stretches
pub record IsRunning (span : Span) (f : ℤ → ℤ) (w : ℤ) (r : Running) : Type 0 where
  pub counts : AreCounts r
  pub on : r.sum.span ≡ span
  pub says : (n : ℤ) → span.from ≤ℤ n → n ≤ℤ span.to → total r n ≡ f n
  pub weighs : total_weight r ≡ w
  pub few : HasFew span f

-- why there are no such counts
abbrev pub RunningStopped : Span → (ℤ → ℤ) → ℤ → Stop → Type 0
RunningStopped span f w TooManyPieces = HasMany span f ⊎ IsMany span nothing_sent
RunningStopped span f w Unfit = pos 4100000 <ℤ w
RunningStopped span f w NoMemory = Unit {0}

abbrev pub RunningAnswer : Span → (ℤ → ℤ) → ℤ → Result Running Stop → Type 0
RunningAnswer span f w r = MatchResult r (IsRunning span f w) (RunningStopped span f w)

-- where no statement was counted yet
abbrev pub BeginAnswer : Span → Result Running Stop → Type 0
BeginAnswer span r = MatchResult r (IsRunning span (λ n. pos 0) (pos 0)) (IsStopped true 0 (IsMany span nothing_sent))

-- the sum alone, with no latest statements
pub record IsAlone (sum : Count) (r : Running) : Type 0 where
  pub sum_is : r.sum ≡ sum
  pub none : IsTold sum.span nothing_sent 0 (IsFew sum.span nothing_sent) r.recent

abbrev pub AloneAnswer : Count → Result Running Stop → Type 0
AloneAnswer sum r = MatchResult r (IsAlone sum) (IsStopped true 0 (IsMany sum.span nothing_sent))

-- the latest statements and one more, which aren't too heavy with the others
pub record IsLight (sum recent next c : Count) : Type 0 where
  pub is : IsJoined Sum recent next c
  pub light : (sum.weight +ℤ c.weight) ≤ℤ pos 4100000

abbrev pub HeavyStopped : ℤ → Stop → Type 0
HeavyStopped w TooManyPieces = ⊥
HeavyStopped w Unfit = pos 4100000 <ℤ w
HeavyStopped w NoMemory = Unit {0}

abbrev pub LightAnswer : Count → Count → Count → Result Count Stop → Type 0
LightAnswer sum recent next r = MatchResult r (IsLight sum recent next) (HeavyStopped (sum.weight +ℤ (recent.weight +ℤ next.weight)))
