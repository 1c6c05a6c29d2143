-- With which words a rank leaves.
use Rattle.std.specs.Prelude.{ℕ, ◌==◌, cond, List, [], nat_lt, get_or}
use Rattle.pb_syntax.specs.declared.tree.Payload.{Payload}
use Rattle.pb_local.specs.Collectives.{operation_of, combine, combined_of}
use Rattle.pb_sim_collectives.specs.declared.call.Call.{Call}
use Rattle.pb_sim_collectives.specs.declared.call.Call.TheVariants as C
use Rattle.pb_sim_collectives.specs.Joined.{Joined, words_of}

-- with which words a rank has entered its k-th
abbrev pub words_at : Joined → ℕ → ℕ → List ℕ
words_at x k r = get_or (words_of x r) k []

-- by the payload of the collective's label and the number of ranks
abbrev pub outcome_of : Payload → ℕ → Call → ℕ → (ℕ → List ℕ) → List ℕ
outcome_of payload total C.Barrier r words = []
outcome_of payload total (C.Broadcast label root) r words = cond (nat_lt root total) (words root) []
outcome_of payload total (C.Reduce label op root) r words = cond (r == root) (combined_of (combine payload (operation_of op)) total words) []
outcome_of payload total (C.Allreduce label op) r words = combined_of (combine payload (operation_of op)) total words
