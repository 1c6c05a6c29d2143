use Rattle.std.proofs.Common.{subst}
use Rattle.pb_cread_frame.specs.Rows.{bare}
use Rattle.pb_cread.specs.Reached.{Does}
use Rattle.pb_cread.specs.declared.statements.Step.{Step}
use Rattle.pb_cread.proofs.Faulted.{main_goes, main_stops, main_deepens, main_exceeds}
use Rattle.pb_cread.proofs.statements.fault_of.Goals as goal

pub returns-in-On : goal.returns-in-On
returns-in-On c = λ text rest n r p s u line more i first inner does a b. main_goes text rest n r p s u line more i first inner (subst (λ (x : Step). Does x p s (bare line) u) c.in-On.is does)

pub returns-in-Stops : goal.returns-in-Stops
returns-in-Stops c = λ text rest n r p s u line more i first inner does a b. main_stops text rest n r p s line more c.args.place i first inner (subst (λ (x : Step). Does x p s (bare line) u) c.in-Stops.is does) a b

pub returns-in-Deepens : goal.returns-in-Deepens
returns-in-Deepens c = λ text rest n r p s u line more i first inner does a b. main_deepens text rest n r p s u line more c.args.place i first (subst (λ (x : Step). Does x p s (bare line) u) c.in-Deepens.is does) a b

pub returns-in-Exceeds : goal.returns-in-Exceeds
returns-in-Exceeds c = λ text rest n r p s u line more i first inner does a b. main_exceeds text rest n r p s u line more c.args.place i first (subst (λ (x : Step). Does x p s (bare line) u) c.in-Exceeds.is does) a b
