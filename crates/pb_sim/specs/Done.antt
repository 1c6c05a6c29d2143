-- What a step answers, and the words of its kernels.
use Rattle.std.specs.Prelude.{◌≡◌, ℕ, ◌+◌, ◌%◌, ◌<◌, List, [], ◌∷◌, length, slice_index}
use Rattle.pb_text.specs.declared.action.Action.TheVariants as P
use Rattle.pb_world.specs.Actions.{Action, Choose, Run, Send, Recv, Enter, Leave}
use Rattle.pb_sim_collectives.specs.Calls.{joint_of}
use Rattle.pb_sim.specs.declared.outcomes.StepDone.{StepDone}
use Rattle.pb_sim.specs.declared.outcomes.StepDone.TheVariants as D

-- an action of rank r as it is told
abbrev pub done_of : ℕ → List Action → StepDone
done_of r [] = D.Silent
done_of r (Choose kernel branches branch ∷ acts) = D.Did (P.Choose r kernel branch)
done_of r (Run kernel ∷ acts) = D.Did (P.Run r kernel)
done_of r (Send to label words ∷ acts) = D.Did (P.Send r to label words)
done_of r (Recv from label words ∷ acts) = D.Did (P.Recv r from label words)
done_of r (Enter joint words ∷ acts) = D.Did (P.Enter r (joint_of joint) words)
done_of r (Leave joint words ∷ acts) = D.Did (P.Leave r (joint_of joint) words)

-- word number `first + k` of rank r is one that the function answers, by its relation for a rank, a number and a word
abbrev pub AreWords : (ℕ → ℕ → ℕ → Type 0) → ℕ → ℕ → List ℕ → Type 0
AreWords post r first words = (k : ℕ) → k < length words → post r (first + k) (slice_index words k)

abbrev pub AreAnswered : (ℕ → ℕ → ℕ → Type 0) → ℕ → ℕ → List Action → Type 0
AreAnswered post r first [] = Unit {0}
AreAnswered post r first (Choose kernel branches branch ∷ acts) = (word : ℕ) × post r first word × (branch ≡ word % branches)
AreAnswered post r first (Run kernel ∷ acts) = Unit {0}
AreAnswered post r first (Send to label words ∷ acts) = AreWords post r first words
AreAnswered post r first (Recv from label words ∷ acts) = Unit {0}
AreAnswered post r first (Enter joint words ∷ acts) = AreWords post r first words
AreAnswered post r first (Leave joint words ∷ acts) = Unit {0}
