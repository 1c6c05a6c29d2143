-- The move of a rank that is seen, by its phase.
use Rattle.std.proofs.Common.{◌≡◌, List, ap, sym, ◌∙◌, refl, subst}
use Rattle.pb_world.specs.Actions.{Leaves}
use Rattle.pb_local.specs.declared.stmt.Stmt.{Stmt}
use Rattle.pb_local.specs.Tree.{Program, program_of, plain_all}
use Rattle.pb_local.specs.Machine.{Move, undefined, does, move_from}
use Rattle.pb_local.proofs.Moves.{move_is}
use Rattle.pb_ctree.specs.declared.tree.CTree.{CTree}
use Rattle.pb_ctree.specs.declared.tree.Formula.{Formula}
use Rattle.pb_ctree.specs.Trees.{IsTree}
use Rattle.pb_machine_next.specs.declared.step.Step.{Step}
use Rattle.pb_machine_next.specs.declared.ahead.Ahead.{Ahead}
use Rattle.pb_machine_next.specs.declared.ahead.Go.TheVariants.{Stay}
use Rattle.pb_machine_next.specs.declared.call.Call.{Call}
use Rattle.pb_machine.specs.declared.phase.Phase.{Phase}
use Rattle.pb_machine.specs.declared.phase.Phase.TheVariants.{Going, Joined, Misled}
use Rattle.pb_machine.specs.declared.rank.Rank.{Rank}
use Rattle.pb_machine_next.specs.Heights.{height_all}
use Rattle.pb_machine_next.specs.Safe.{IsSafe}
use Rattle.pb_machine_next.specs.Place.{todo}
use Rattle.pb_machine_next.specs.Calls.{collective_of}
use Rattle.pb_machine_next.specs.View.{rank_of, goes, move_by, Knows}
use Rattle.pb_machine.specs.Steps.{body_of, path_of, joined, shown_in, shown, param_of, IsPlaced, move_shown, Fits}
use Rattle.pb_machine.proofs.Moves.{stayed}

pub knows : (tree : CTree) (r : Rank) → IsTree tree → IsPlaced tree r → Knows (program_of tree.local) tree.places.items r.state.me
knows tree r is fits = record { placed = is.places; numbered = fits.total }

-- the move with another phase in its place
abbrev moved : CTree → Rank → Phase → Move
moved tree r phase =
    move_shown (program_of tree.local) (param_of r) (shown_in phase (record { state = rank_of r.state.me r.state.i (joined phase (todo (body_of tree) (path_of r) r.at)); count = r.silent }))

pub going_is : (tree : CTree) (r : Rank) → r.phase ≡ Going →
    move_from (program_of tree.local) (param_of r) (rank_of r.state.me r.state.i (todo (body_of tree) (path_of r) r.at)) (todo (body_of tree) (path_of r) r.at)
    ≡ move_shown (program_of tree.local) (param_of r) (shown tree r)
going_is tree r is =
    sym (move_is (program_of tree.local) (param_of r) (rank_of r.state.me r.state.i (todo (body_of tree) (path_of r) r.at))) ∙ ap (moved tree r) (sym is)

pub joined_is : (tree : CTree) (r : Rank) (call : Call) → r.phase ≡ Joined call →
    does (Leaves (collective_of call)) (rank_of r.state.me r.state.i (goes (body_of tree) (path_of r) (Stay r.depth r.at))) ≡ move_shown (program_of tree.local) (param_of r) (shown tree r)
joined_is tree r call is =
    ap (λ t. does (Leaves (collective_of call)) (rank_of r.state.me r.state.i t)) (stayed (body_of tree) r.path.items r.depth r.at)
    ∙ sym (move_is (program_of tree.local) (param_of r) (rank_of r.state.me r.state.i (joined (Joined call) (todo (body_of tree) (path_of r) r.at))))
    ∙ ap (moved tree r) (sym is)

pub misled_is : (tree : CTree) (r : Rank) → r.phase ≡ Misled → undefined ≡ move_shown (program_of tree.local) (param_of r) (shown tree r)
misled_is tree r is = ap (moved tree r) (sym is)

-- the same, over slices that are the tree's and the rank's
pub going_moves : (tree : CTree) (r : Rank) (body : List Stmt) (places : List Formula) (path : List Step) (x : Ahead) → r.phase ≡ Going →
    body ≡ tree.local.body.items → places ≡ tree.places.items → path ≡ path_of r → IsTree tree → IsPlaced tree r →
    ((p : Program) → Knows p places r.state.me →
    move_by (plain_all body) path r.state.me r.state.i x ≡ move_from p r.state.me.n (rank_of r.state.me r.state.i (todo (plain_all body) path r.at)) (todo (plain_all body) path r.at)) →
    move_by (body_of tree) (path_of r) r.state.me r.state.i x ≡ move_shown (program_of tree.local) (param_of r) (shown tree r)
going_moves tree r body places path x is e1 e2 e3 made fits h =
    let p : Program = program_of tree.local in
    let here : Knows p places r.state.me = subst (λ (z : List Formula). Knows p z r.state.me) (sym e2) (knows tree r made fits) in
    let by_body = subst (λ (z : List Stmt). move_by (plain_all z) path r.state.me r.state.i x ≡ move_from p r.state.me.n (rank_of r.state.me r.state.i (todo (plain_all z) path r.at)) (todo (plain_all z) path r.at)) e1 (h p here) in
    subst (λ (z : List Step). move_by (body_of tree) z r.state.me r.state.i x ≡ move_from p r.state.me.n (rank_of r.state.me r.state.i (todo (body_of tree) z r.at)) (todo (body_of tree) z r.at)) e3 by_body
    ∙ going_is tree r is

-- a rank that keeps what it saw
pub shown_again : (tree : CTree) (r s : Rank) → s ≡ record r { state = s.state } → s.state.me ≡ r.state.me → s.state.i ≡ r.state.i → shown tree s ≡ shown tree r
shown_again tree r s e me i = ap (shown tree) e ∙ (rw (me, i) refl)

pub kept : (tree : CTree) (r s : Rank) → s ≡ record r { state = s.state } → s.state.me ≡ r.state.me → s.state.i ≡ r.state.i → IsPlaced tree r →
    move_by (body_of tree) (path_of r) r.state.me r.state.i s.state.ahead ≡ move_shown (program_of tree.local) (param_of r) (shown tree r) →
    IsSafe r.depth (height_all (body_of tree)) s.state.ahead → Fits tree s
kept tree r s e me i placed moves safe = subst (λ (z : Rank). Fits tree z) (sym e) (record {
  placed = record { total = rw me placed.total; room = placed.room; inside = placed.inside; limit = placed.limit };
  moves = rw (me, i) moves;
  safe = safe;
})
