-- How many loops stand between a statement and a loop around it, and what is known of the loops around for every rank.
use Rattle.std.specs.Prelude.{ℕ, suc, [], ◌∷◌}
use Rattle.pb_core_language.specs.Lists.{nth}
use Rattle.pb_core_language.specs.Run.{Env}
use Rattle.pb_plain.specs.declared.held.Held.{Held, Held-F, fold-Held}
use Rattle.pb_plain.specs.declared.held.Held.TheOpen as L
use Rattle.pb_plain_rules.specs.declared.within.Within.{Within, Within-F, fold-Within}
use Rattle.pb_plain_rules.specs.declared.within.Within.TheOpen as W

abbrev pub depth_layer : Within-F ℕ → ℕ
depth_layer W.Body = 0
depth_layer (W.Deeper around) = suc around.now

abbrev pub depth_of : Within → ℕ
depth_of = fold-Within ℕ depth_layer

-- a loop of which one thing is known says it of every rank
abbrev pub env_layer : Held-F Env → Env
env_layer L.Top = []
env_layer (L.Just b rest) = (λ r. b) ∷ rest.now
env_layer (L.Each table rest) = (λ r. nth table.now r) ∷ rest.now

abbrev pub env_of : Held → Env
env_of = fold-Held Env env_layer
