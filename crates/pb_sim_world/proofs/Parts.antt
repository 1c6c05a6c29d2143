-- States and stands of the ranks once those of one rank are written.
use Rattle.std.proofs.Common.{◌≡◌, ◌<◌, ℕ, Bool, true, false, cond, nat_eq, Some, List, length, get_or, refl, ap, ◌∙◌}
use Rattle.std.specs.Global.{Vec}
use Rattle.std.specs.List.{slice_get, slice_set}
use Rattle.std.proofs.Math.Path.{fun_ext}
use Rattle.pb_world.specs.Counted.{Counted}
use Rattle.pb_text.specs.declared.mode.Mode.{Mode}
use Rattle.pb_world.specs.Actions.{Collective}
use Rattle.pb_world.specs.World as W
use Rattle.pb_local.specs.Machine as M
use Rattle.pb_chan.specs.Lists.{Entry, messages}
use Rattle.pb_sim_collectives.specs.Joined.{Joined, entries}
use Rattle.pb_machine.specs.declared.rank.Rank.{Rank}
use Rattle.pb_machine.specs.Steps.{state_of}
use Rattle.pb_sim_world.specs.declared.stand.Stand.{Stand}
use Rattle.pb_sim_world.specs.declared.state.State.{State}
use Rattle.pb_sim_world.specs.States.{fresh, stand, state_in, state_at}
use Rattle.pb_sim_world.specs.Worlds.{is_to, moded, world_of}
use Rattle.pb_sim_world.specs.Events.{remade}
use Rattle.pb_sim_world.proofs.Lists.{get_set, at_set}

module _ (s : State) (ranks : Vec Rank) (stands : Vec Stand) (channels : List Entry) (joins : Joined) where
  pub state_then : (r : ℕ) (rank : Rank) → r < length s.ranks.items → ranks.items ≡ slice_set s.ranks.items r rank → (q : ℕ) → state_at (remade s ranks stands channels joins) q ≡ W.updated (state_at s) r (state_of s.tree rank) q
  state_then r rank h e q = ap (λ xs. state_in s q (slice_get xs q)) e ∙ ap (state_in s q) (get_set s.ranks.items r rank q h) ∙ by_case (nat_eq q r) where
    by_case : (b : Bool) → state_in s q (cond b (Some rank) (slice_get s.ranks.items q)) ≡ cond b (state_of s.tree rank) (state_at s q)
    by_case true = refl
    by_case false = refl

  pub stand_then : (r : ℕ) (new : Stand) → r < length s.stands.items → stands.items ≡ slice_set s.stands.items r new → (q : ℕ) → stand (remade s ranks stands channels joins) q ≡ W.updated (stand s) r new q
  stand_then r new h e q = ap (λ xs. get_or xs q fresh) e ∙ at_set s.stands.items r new q fresh h

abbrev made : {S : Type 0} → (ℕ → S) → (ℕ → ℕ → List W.Message) → (ℕ → List (Collective × List ℕ)) → (ℕ → ℕ) → (ℕ → Mode) → W.World S
made a b c d e = record { state = a; channel = b; entered = c; left = d; mode = e }

same_parts : {S : Type 0} (V U : W.World S) → V.state ≡ U.state → V.channel ≡ U.channel → V.entered ≡ U.entered → V.left ≡ U.left → V.mode ≡ U.mode → V ≡ U
same_parts {S} V U a b c d e = by V.state U.state V.channel U.channel V.entered U.entered V.left U.left V.mode U.mode a b c d e where
  by : (a a' : ℕ → S) (b b' : ℕ → ℕ → List W.Message) (c c' : ℕ → List (Collective × List ℕ)) (d d' : ℕ → ℕ) (e e' : ℕ → Mode) → a ≡ a' → b ≡ b' → c ≡ c' → d ≡ d' → e ≡ e' → made a b c d e ≡ made a' b' c' d' e'
  by a a' b b' c c' d d' e e' f g h k l = cc

-- a world is that of a state where it has the same parts
pub same_world : (V : W.World (Counted M.Rank)) (t : State) → ((q : ℕ) → V.state q ≡ state_at t q) → ((p q : ℕ) → V.channel p q ≡ moded (is_to (stand t p).waits q) (messages t.channels p q)) → ((q : ℕ) → V.entered q ≡ entries t.joins q) → ((q : ℕ) → V.left q ≡ (stand t q).left) → ((q : ℕ) → V.mode q ≡ (stand t q).mode) → V ≡ world_of t
same_world V t a b c d e = same_parts V (world_of t) (fun_ext a) (fun_ext (λ p. fun_ext (b p))) (fun_ext c) (fun_ext d) (fun_ext e)
