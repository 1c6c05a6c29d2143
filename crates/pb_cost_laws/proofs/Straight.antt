-- The least and the most of a block without loops are reached, and bound each ended run.
use Rattle.std.proofs.Common.{◌≡◌, ℕ, ◌≤◌, List, [], ◌∷◌, refl, ◌∙◌, subst, arith}
use Rattle.pb_core_language.specs.Flat.{Block}
use Rattle.pb_core_language.specs.Run.{Setting, Top, Frame}
use Rattle.pb_cost_laws.specs.Sent.{Counted, Sends, Way, Within}
use Rattle.pb_cost_laws.specs.Flats.{extreme, IsStraight}
use Rattle.pb_cost_laws.specs.Laws.{StraightSends}
use Rattle.pb_cost_laws.proofs.Bounds.{bounded, of_stack}
use Rattle.pb_cost_laws.proofs.Reached.{planned, Plan, long_stack}

abbrev alone : Block → List Frame
alone block = record { opener = Top; rest = block } ∷ []

le_same : (n : ℕ) → n ≤ n
le_same n = omega arith

alone_is : (w : Setting) (way : Way) (what : Counted) (block : Block) → of_stack w way what (alone block) ≡ extreme way what w.size block
alone_is w way what block = omega arith

reached_by : (w : Setting) (way : Way) (what : Counted) (block : Block) → Plan w way what (alone block) → Sends w what block (extreme way what w.size block)
reached_by w way what block plan = record {
  answers = plan.answers;
  steps = plan.steps;
  over = plan.over plan.answers (λ r. refl);
  is = plan.is plan.answers (λ r. refl) ∙ alone_is w way what block;
}

bounds : (w : Setting) (way : Way) (what : Counted) (block : Block) → IsStraight block → (j : ℕ) → Sends w what block j → Within way (extreme way what w.size block) j
bounds w way what block h j run =
    subst (λ x. Within way x j) (alone_is w way what block)
    (subst (λ x. Within way (of_stack w way what (alone block)) x) run.is (bounded w way what run.steps Top block [] run.answers (h, tt) run.over))

pub straight : StraightSends
straight w way what block h = record {
  reached = reached_by w way what block (planned w way what (long_stack w way what (alone block)) Top block [] (le_same (long_stack w way what (alone block))) (h, tt));
  bound = λ j run. bounds w way what block h j run;
}
