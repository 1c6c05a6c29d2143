-- What holds of the stacks of a run.
use Rattle.std.proofs.Common.{◌≡◌, ℕ, Bool, true, false, ◌||◌, List, [], ◌∷◌}
use Rattle.pb_core_language.specs.Flat.{takes_part}
use Rattle.pb_core_language.specs.Run.{Opener, Top, Chosen, Body, Frame, Env, at_rank, env_over, env_of, live}
use Rattle.pb_core_endpoint.proofs.Kept.{Keeps}

-- a rank takes part in what is still to do
abbrev pub involved : ℕ → List Frame → Bool
involved r [] = false
involved r (f ∷ K) = takes_part (at_rank r (env_of (f ∷ K))) r f.rest || involved r K

-- whether a rank takes part in what the top frame stands in
abbrev pub top_live : ℕ → List Frame → Bool
top_live r [] = true
top_live r (f ∷ K) = live r f.opener (env_of K)

-- a rank takes part in what a frame stands in where it takes part in its rest, and then in all that is below
abbrev pub Clean : ℕ → List Frame → Type 0
Clean r [] = Unit {0}
Clean r (f ∷ K) = (takes_part (at_rank r (env_over f.opener (env_of K))) r f.rest ≡ true → live r f.opener (env_of K) ≡ true) × (live r f.opener (env_of K) ≡ true → top_live r K ≡ true) × Clean r K

abbrev pub Body_keeps : ℕ → Opener → Env → Type 0
Body_keeps T Top env = Unit {0}
Body_keeps T (Chosen p bs) env = Unit {0}
Body_keeps T (Body b) env = Keeps T (env_over (Body b) env) b

abbrev pub Stack_keeps : ℕ → List Frame → Type 0
Stack_keeps T [] = Unit {0}
Stack_keeps T (f ∷ K) = Keeps T (env_over f.opener (env_of K)) f.rest × Body_keeps T f.opener (env_of K) × Stack_keeps T K
