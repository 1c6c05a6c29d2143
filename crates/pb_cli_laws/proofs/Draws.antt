-- A rank that is drawn from those with a step has one.
use Rattle.std.proofs.Common.{◌≡◌, ℕ, ◌*◌, ◌%◌, ◌<◌, ℤ, List, [], length, true, sym, ap, subst}
use Rattle.std.specs.Prelude.{Contains}
use Rattle.std.proofs.lemmas.List.Elements.{Contains-get_or}
use Rattle.std.proofs.lemmas.Nat.{mod_below}
use Rattle.pb_world.specs.World.{CanStep}
use Rattle.pb_local.specs.Family.{Sequence, family}
use Rattle.pb_local.specs.Tree.{program_of}
use Rattle.pb_ctree.specs.declared.tree.CTree.{CTree}
use Rattle.pb_sim_world.specs.Worlds.{world_of}
use Rattle.pb_sched.specs.Draws.{pick, word}
use Rattle.pb_sim.specs.declared.seen.Seen.{Seen}
use Rattle.pb_sim.specs.Made.{HasStep}
use Rattle.pb_sim.specs.Scheduled.{Turn}
use Rattle.pb_cli_laws.specs.Laws.{DrawnHasAStep}

some_sequence : Sequence
some_sequence = record { run = λ A k. []; over = λ A k. true }

-- a draw is one of the list
picked : (seed t : ℕ) (list : List ℕ) → 0 < length list → Contains list (pick seed t list)
picked seed t list some = Contains-get_or list (word seed (2 * t) % length list) 0 (mod_below (word seed (2 * t)) (length list) some)

abbrev CanGo : Seen → CTree → ℤ → ℕ → Type 0
CanGo x tree n r = CanStep (family (program_of tree.local) n some_sequence) (world_of x.state) r

has_step : (x : Seen) (tree : CTree) (n : ℤ) (r : ℕ) → x.state.tree ≡ tree → x.state.n ≡ n → CanGo x tree n r → HasStep x some_sequence r
has_step x tree n r tree_is n_is can = subst (λ (t : CTree). CanGo x t x.state.n r) (sym tree_is) (subst (λ (m : ℤ). CanGo x tree m r) (sym n_is) can)

pub drawn_has_a_step : DrawnHasAStep
drawn_has_a_step tree n seed modes t x tree_is n_is held =
    let may = held.may in
    let there : Contains may.list held.turn.0 = subst (Contains may.list) (sym (ap (λ (turn : Turn). turn.0) may.is)) (picked seed t may.list may.some) in
    held.why some_sequence (has_step x tree n held.turn.0 tree_is n_is ((may.ready some_sequence).ready held.turn.0 there).1)
