-- The endpoint's machine, which is lost where it goes back to a loop twice without an action between.
use Rattle.std.specs.Prelude.{Bool, true, false, List, [], ◌∷◌}
use Rattle.pb_world.specs.Theorem.{AllRanks}
use Rattle.pb_world.specs.Family.{Family, on_machine, Laws}
use Rattle.pb_world.specs.Once.{Once, once_start, once}
use Rattle.pb_core_language.specs.Flat.{Block}
use Rattle.pb_core_language.specs.Run.{Setting, Depends}
use Rattle.pb_core_endpoint.specs.Rules.{Accepted}
use Rattle.pb_core_endpoint.specs.Endpoint.{Code, done, send, receive, run, enter, leave, choose, told, loop, again, Part, machine, endpoint}
use Rattle.pb_core_endpoint.specs.Theorem.{family}

-- it goes back to a loop
abbrev pub is_again : Code → Bool
is_again (again n) = true
is_again done = false
is_again (send q l c) = false
is_again (receive p l c) = false
is_again (run k c) = false
is_again (enter j c) = false
is_again (leave j c) = false
is_again (choose k xs c) = false
is_again (told p xs c) = false
is_again (loop b c) = false

abbrev pub is_at_again : List Part → Bool
is_at_again [] = false
is_at_again (f ∷ K) = is_again f.code

abbrev pub once_family : Setting → Block → Family (Once (List Part))
once_family w protocol = on_machine (family w protocol) (once is_at_again machine) (λ r. once_start (endpoint protocol r))

-- the endpoints keep the law also on this machine
abbrev pub EndpointsDoOnce : Type 0
EndpointsDoOnce = (w : Setting) (protocol : Block) → Depends w → Accepted w protocol → Laws (once_family w protocol) × AllRanks (once_family w protocol)
