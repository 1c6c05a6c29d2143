-- What is written before the branches of a choice, for one branch, before the statements of main, and before main.
use Rattle.std.specs.Prelude.{ℕ, ◌+◌, Bool, List, [], ◌∷◌, ◌++◌}
use Rattle.pb_affine.specs.declared.guard.Guard.{Guard}
use Rattle.pb_local.specs.declared.stmt.Peer.{Peer}
use Rattle.pb_local.specs.declared.stmt.Test.{Test}
use Rattle.pb_local.specs.declared.stmt.Relay.{Relay}
use Rattle.pb_local.specs.Pieces.{line}
use Rattle.pb_local.specs.Ranks.{ranks_of, bases_of, places_of}
use Rattle.pb_local.specs.Tree.{Codes, Program}
use Rattle.pb_ctree.specs.Lines.{if_open, chooses}
use Rattle.pb_cprint_lines.specs.Printed.{bytes}
use Rattle.pb_cprint.specs.Framed.{start_written, size_written, seats_written, prelude_written, numbers_written}
use Rattle.pb_cprint.specs.Written.{branch_item, told_written}
use Rattle.pb_types.specs.declared.carried.Carried.{Carried}
use Rattle.pb_typed_types.specs.declared.types.Types.{Types}
use Rattle.pb_typed.specs.Frame.{head_pieces, functions_after}
use Rattle.pb_typed.specs.Hooks.{choose_hook, start_hook}
use Rattle.pb_typed.specs.Pieces.{same, added, pieces_text}
use Rattle.pb_typed.specs.Statements.{typed_all}

unfoldable pub choice_front : Program → ℕ → Guard → ℕ → ℕ → List Relay → Peer → List Test → List ℕ
choice_front p d who kernel branches relays from tests =
    bytes p d (if_open (who ∷ []))
    ++ pieces_text p (same (d + 1) (chooses kernel) ∷ added (d + 1) (choose_hook p kernel branches) ∷ [])
    ++ told_written p d relays from tests

abbrev pub part_text : Program → List Carried → ℕ → ℕ → Bool → Codes → List ℕ
part_text p t d number last body = bytes p d (branch_item number last) ++ pieces_text p (typed_all p t (d + 1) body)

unfoldable pub front_written : Program → List ℕ
front_written p =
    start_written ++ line 1 (start_hook p) ++ size_written p.range (ranks_of p.roles) ++ seats_written 0 (bases_of p.roles) (places_of p.roles)

unfoldable pub before_main : Program → Types → List ℕ → List (List ℕ) → List ℕ
before_main p types prelude bodies =
    pieces_text p (head_pieces p types.labels.items types.constants.items)
    ++ prelude_written prelude
    ++ numbers_written p.roles (places_of p.roles)
    ++ pieces_text p (functions_after p.labels types.labels.items p.kernels bodies)
