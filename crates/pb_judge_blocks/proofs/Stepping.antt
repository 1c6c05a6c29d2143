-- Statements that are done in one step.
use Rattle.std.proofs.Common.{◌≡◌, ℕ, List, [], ◌∷◌, Option, Some, None, Result, Ok, Err, IfOk, refl, sym, subst, ℤ}
use Rattle.std.proofs.lemmas.List.{map-append}
use Rattle.pb_text.specs.declared.action.Action.{Action}
use Rattle.pb_text.specs.declared.action.Action.TheVariants as E
use Rattle.pb_world.specs.Actions as W
use Rattle.pb_world.specs.Family.{each}
use Rattle.pb_core_language.specs.Flat as F
use Rattle.pb_core_language.specs.Flat.{Origin, Block}
use Rattle.pb_core_language.specs.Run as R
use Rattle.pb_judge_follow.specs.Follow.{Left}
use Rattle.pb_judge_steps.specs.declared.meeting.Difference.{Difference}
use Rattle.pb_judge_steps.specs.Met.{Met, words_sent}
use Rattle.pb_judge_joint.specs.Joined.{all_do, entering, leaving}
use Rattle.pb_judge_walks.specs.declared.flow.Flow.{Flow}
use Rattle.pb_judge_walks.specs.Walks.{Walked}
use Rattle.pb_judge_walks.specs.Laws.{Does}
use Rattle.pb_judge_walks.proofs.Blocks.{steps_are_walked}
use Rattle.pb_judge_blocks.specs.declared.site.Site.{Site}
use Rattle.pb_judge_blocks.specs.Flows.{flow_of}
use Rattle.pb_judge_blocks.specs.Places.{IsTurn, IsSite, setting_at}
use Rattle.pb_judge_blocks.specs.Steps.{SimpleWalks}

met_walks : (s : R.Setting) (f : Block → Block) (opens : List ℕ) (old new : Left) (g : List Action) (o : Option Difference) (flow : Flow) → flow ≡ flow_of o → Does s f old g → Met g old o new → Walked s f opens old flow new
met_walks s f opens old new g None flow e does m = subst (λ x. Walked s f opens old x new) (sym e) (steps_are_walked.fits s f opens old new g does m.0 m.1)
met_walks s f opens old new g (Some d) flow e does m = subst (λ x. Walked s f opens old x new) (sym e) (steps_are_walked.misfits s f opens old new g d.rank d.line does m)

pub message_walks : (site : Site) (i : ℤ) (old new : Left) (x y label size : ℕ) (from to : ℕ) (o : Option Difference) (flow : Flow) → (IsSite site → IsTurn i → from ≡ x) → (IsSite site → IsTurn i → to ≡ y) → size ≡ (setting_at site).size label → flow ≡ flow_of o →
    Met (E.Send from to label (words_sent old from size) ∷ E.Recv to from label (words_sent old from size) ∷ []) old o new → SimpleWalks site i (λ origin. F.message origin x y label) old flow new
message_walks site i old new x y label size from to o flow ef et es e m opens origin st tu =
    let s = setting_at site in
    let sized = subst (λ n. Met (E.Send from to label (words_sent old from n) ∷ E.Recv to from label (words_sent old from n) ∷ []) old o new) es m in
    let walked : Walked s (F.message origin from to label) opens old flow new =
    met_walks s (F.message origin from to label) opens old new (E.Send from to label (words_sent old from (s.size label)) ∷ E.Recv to from label (words_sent old from (s.size label)) ∷ []) o flow e (λ opener after around. (refl, refl)) sized in
    subst (λ q. Walked s (F.message origin x q label) opens old flow new) (et st tu) (subst (λ p. Walked s (F.message origin p to label) opens old flow new) (ef st tu) walked)

pub compute_walks : (site : Site) (i : ℤ) (old new : Left) (x at kernel : ℕ) (o : Option Difference) (flow : Flow) → (IsSite site → IsTurn i → at ≡ x) → flow ≡ flow_of o → Met (E.Run at kernel ∷ []) old o new →
    SimpleWalks site i (λ origin. F.compute origin x kernel) old flow new
compute_walks site i old new x at kernel o flow ea e m opens origin st tu =
    let s = setting_at site in
    subst (λ p. Walked s (F.compute origin p kernel) opens old flow new) (ea st tu) (met_walks s (F.compute origin at kernel) opens old new (E.Run at kernel ∷ []) o flow e (λ opener after around. (refl, refl)) m)

pub joint_walks : (s : R.Setting) (joint : W.Collective) (old new : Left) (o : Option Difference) (flow : Flow) → flow ≡ flow_of o → Met (all_do s joint old) old o new → (opens : List ℕ) (origin : Origin) → Walked s (F.together origin joint) opens old flow new
joint_walks s joint old new o flow e m opens origin =
    met_walks s (F.together origin joint) opens old new (all_do s joint old) o flow e
    (λ opener after around. (map-append _ (each s.total (λ r. W.Enter joint (entering s joint old r))) (each s.total (λ r. W.Leave joint (leaving s joint old r))), refl)) m

pub rooted : {X : Type 0} (site : Site) (i : ℤ) (make : ℕ → W.Collective) (old new : Left) (r : Result Flow X) (x y : ℕ) → (IsSite site → IsTurn i → x ≡ y) →
    IfOk r (λ flow. (opens : List ℕ) (origin : Origin) → Walked (setting_at site) (F.together origin (make x)) opens old flow new) → IfOk r (λ flow. SimpleWalks site i (λ origin. F.together origin (make y)) old flow new)
rooted site i make old new (Err e) x y same h = tt
rooted site i make old new (Ok flow) x y same h = λ opens origin st tu. subst (λ p. Walked (setting_at site) (F.together origin (make p)) opens old flow new) (same st tu) (h opens origin)
