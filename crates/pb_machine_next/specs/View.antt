-- What a value of the program tells of a rank's next step.
use Rattle.std.specs.Prelude.{◌≡◌, map, ℕ, ℤ, ◌+ℤ◌, Bool, int_le, if◌then◌else◌, Option, Some, None, List, [], ◌∷◌, ◌++◌, take}
use Rattle.pb_affine.specs.declared.lin.Lin.{Lin}
use Rattle.pb_affine.specs.Values.{value}
use Rattle.pb_world.specs.Actions.{Collective, Barrier, Broadcast, Reduce, Allreduce, Runs, Sends, Receives, Enters, Leaves}
use Rattle.pb_local.specs.declared.stmt.Peer.{Peer}
use Rattle.pb_local.specs.declared.stmt.Test.{Test}
use Rattle.pb_local.specs.declared.stmt.Relay.{Relay}
use Rattle.pb_local.specs.Tree.{Code, when, for_each, own, loop, again, choice, send, recv, run, barrier, broadcast, reduce, allreduce, Codes, Program}
use Rattle.pb_local.specs.Ranks.{places_of, total}
use Rattle.pb_local.specs.WellMade.{count_parts}
use Rattle.pb_local.specs.Computed.{fits}
use Rattle.pb_local.specs.Collectives.{operation_of}
use Rattle.pb_local.specs.Machine.{Todo, finished, leave, Rank, Move, ends, undefined, silent, does, chooses, probes}
use Rattle.pb_ctree.specs.declared.tree.Formula.{Formula}
use Rattle.pb_ctree.specs.Trees.{sum_of}
use Rattle.pb_machine_next.specs.declared.step.Step.{Step}
use Rattle.pb_machine_next.specs.declared.me.Me.{Me}
use Rattle.pb_machine_next.specs.declared.ahead.Go.{Go}
use Rattle.pb_machine_next.specs.declared.ahead.Go.TheVariants.{Stay, Enter}
use Rattle.pb_machine_next.specs.declared.ahead.Ahead.{Ahead}
use Rattle.pb_machine_next.specs.declared.ahead.Ahead.TheVariants as A
use Rattle.pb_machine_next.specs.Numbers.{seat_of, int32, guard_holds, some_holds, source_at, tested}
use Rattle.pb_machine_next.specs.Peers.{peer_at}
use Rattle.pb_machine_next.specs.Place.{todo, tests_at}
use Rattle.pb_machine_next.specs.Calls.{collective_of}

-- a rank of the definition
abbrev pub rank_of : Me → ℤ → Todo → Rank
rank_of me i todo = record { seat = seat_of me; i = i; todo = todo }

-- where a step goes, from a path
abbrev pub goes : Codes → List Step → Go → Todo
goes b path (Stay d k) = todo b (take d path) k
goes b path (Enter d k p) = todo b (take d path ++ record { at = k; part = p } ∷ []) 0

-- the state behind a probe, by the branch that was read and where branches lead
abbrev pub told_to : Me → ℤ → (ℕ → Todo) → Option ℕ → Option Rank
told_to me i into None = None
told_to me i into (Some x) = Some (rank_of me i (into x))

abbrev pub enters : Me → ℤ → Collective → Todo → Move
enters me i joint rest = does (Enters joint) (rank_of me i (leave joint rest))

abbrev pub move_by : Codes → List Step → Me → ℤ → Ahead → Move
move_by b path me i A.Ended = ends
move_by b path me i A.Undefined = undefined
move_by b path me i (A.Silent j go) = silent (rank_of me j (goes b path go))
move_by b path me i (A.Choose kernel branches d k) = chooses kernel branches (λ x. rank_of me i (goes b path (Enter d k x)))
move_by b path me i (A.Run kernel go) = does (Runs kernel) (rank_of me i (goes b path go))
move_by b path me i (A.Send to label go) = does (Sends to label) (rank_of me i (goes b path go))
move_by b path me i (A.Recv from label go) = does (Receives from label) (rank_of me i (goes b path go))
move_by b path me i (A.Join call go) = enters me i (collective_of call) (goes b path go)
move_by b path me i (A.Leave call go) = does (Leaves (collective_of call)) (rank_of me i (goes b path go))
move_by b path me i (A.Probe from d k) = probes from (λ label. told_to me i (λ x. goes b path (Enter d k x)) (tested (tests_at b (take d path) k) label me i))

-- ---- one statement's step, by where its blocks, the statement behind it and a loop's body lead

abbrev pub when_some : {A : Type 0} → Option A → (A → Move) → Move
when_some None go = undefined
when_some (Some x) go = go x

-- a round begins where the variable isn't above the high end
abbrev pub begun : Me → ℤ → Lin → Todo → Todo → Move
begun me i high round over =
    if fits (value high me.n i) then silent (rank_of me i (if int_le i (value high me.n i) then round else over)) else undefined

abbrev pub turned : Me → ℤ → Lin → Todo → Todo → Move
turned me v high round over = when_some (int32 v) (λ i. begun me i high round over)

abbrev pub owned : Me → ℤ → Todo → Move
owned me v stay = when_some (int32 v) (λ i. silent (rank_of me i stay))

-- the probe of this source
abbrev pub probed : Me → ℤ → List Test → (ℕ → Todo) → Option ℕ → Move
probed me i tests into source = when_some source (λ q. probes q (λ label. told_to me i into (tested tests label me i)))

abbrev pub asked : List Formula → Me → ℤ → List Relay → Peer → List Test → (ℕ → Todo) → Move
asked places me i relays from [] into = undefined
asked places me i relays from (t ∷ ts) into = when_some (source_at relays from me i) (λ e. probed me i (t ∷ ts) into (peer_at places e me i))

abbrev pub chosen : List Formula → Me → ℤ → ℕ → ℕ → List Relay → Peer → List Test → (ℕ → Todo) → Option Bool → Move
chosen places me i kernel branches relays from tests into held =
    when_some held (λ b. if b then chooses kernel branches (λ x. rank_of me i (into x)) else asked places me i relays from tests into)

-- both parts of an If
abbrev pub branched : Me → ℤ → (ℕ → Todo) → Option Bool → Move
branched me i into held = when_some held (λ b. silent (rank_of me i (into (if b then 0 else 1))))

abbrev pub sends : Me → ℤ → ℕ → Todo → Option ℕ → Move
sends me i label stay to = when_some to (λ q. does (Sends q label) (rank_of me i stay))

abbrev pub receives : Me → ℤ → ℕ → Todo → Option ℕ → Move
receives me i label stay from = when_some from (λ q. does (Receives q label) (rank_of me i stay))

abbrev pub move_to : List Formula → Me → ℤ → Code → (ℕ → Todo) → Todo → (ℕ → Todo) → Move
move_to places me i (when guards first other) into stay back = branched me i into (some_holds guards me i)
move_to places me i (for_each low high body) into stay back = turned me (value low me.n i) high (into 0) stay
move_to places me i (own off) into stay back = owned me (me.index +ℤ off) stay
move_to places me i (loop id body) into stay back = silent (rank_of me i (into 0))
move_to places me i (again id) into stay back = silent (rank_of me i (back id))
move_to places me i (choice who kernel relays from tests branches) into stay back = chosen places me i kernel (count_parts branches) relays from tests into (guard_holds who me i)
move_to places me i (send label to) into stay back = sends me i label stay (peer_at places to me i)
move_to places me i (recv label from) into stay back = receives me i label stay (peer_at places from me i)
move_to places me i (run kernel) into stay back = does (Runs kernel) (rank_of me i stay)
move_to places me i barrier into stay back = enters me i Barrier stay
move_to places me i (broadcast label root) into stay back = when_some (peer_at places root me i) (λ q. enters me i (Broadcast label q) stay)
move_to places me i (reduce label op root) into stay back = when_some (peer_at places root me i) (λ q. enters me i (Reduce label (operation_of op) q) stay)
move_to places me i (allreduce label op) into stay back = enters me i (Allreduce label (operation_of op)) stay

abbrev pub back_by : Codes → List Step → Option ℕ → Todo
back_by b path None = finished
back_by b path (Some d) = goes b path (Stay d 0)

-- ---- what a rank knows of the program

-- the places of the roles and the number of ranks are those of the program
pub record Knows (p : Program) (places : List Formula) (me : Me) : Type 0 where
  pub placed : map sum_of places ≡ places_of p.roles
  pub numbered : me.total ≡ total p.roles me.n
