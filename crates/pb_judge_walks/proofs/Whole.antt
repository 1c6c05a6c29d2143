-- The end of the walk over a whole protocol.
use Rattle.std.proofs.Common.{ℕ, suc, List, [], ◌∷◌, refl}
use Rattle.pb_text.specs.declared.action.Action.{Action}
use Rattle.pb_core_language.specs.Flat.{Block, stop}
use Rattle.pb_core_language.specs.Run.{Setting, Top}
use Rattle.pb_judge_follow.specs.Follow.{Left, all_of, first_stack, Goes}
use Rattle.pb_judge_follow.proofs.Following.{goes_then}
use Rattle.pb_judge_follow.proofs.Rules.{breaks_rule, end_rules}
use Rattle.pb_judge_follow.proofs.Circling.{circle_rules}
use Rattle.pb_judge_walks.specs.declared.flow.Flow.TheVariants.{Passed, Back, Differs, Endless}
use Rattle.pb_judge_walks.specs.Walks.{frame}
use Rattle.pb_judge_walks.specs.Laws.{Rulings, WalksAreRuled}
use Rattle.pb_judge_walks.proofs.Blocks.{silent}

ended : (s : Setting) (protocol : Block) (log : List (ℕ × Action)) (n : ℕ) (left : Left) → Goes s n (first_stack protocol) (all_of log) [] left → Rulings s protocol log left
ended s protocol log n left g = let r = end_rules s protocol log n left g in record { beyond = r.0.beyond; covered = r.0.covered; whole = r.1 }

pub walks_are_ruled : WalksAreRuled
walks_are_ruled s f log Passed left w =
    let t = w Top stop [] in
    let u = goes_then s t.1 (silent s (frame Top stop ∷ []) [] left refl refl) in ended s (f stop) log u.0 left u.2
walks_are_ruled s f log (Back id) left w = let t = w Top stop [] in ended s (f stop) log (suc t.0) left t.1
walks_are_ruled s f log (Differs r line) left w = breaks_rule s (f stop) log r line (w Top stop [])
walks_are_ruled s f log Endless left w = let r = circle_rules s (f stop) log left (w Top stop []) in record { beyond = r.0; covered = r.1 }
