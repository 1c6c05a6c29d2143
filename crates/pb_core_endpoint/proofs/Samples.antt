-- Flat protocols that keep the rules, by computation, with their endpoints; and some that don't.
use Rattle.std.proofs.Common.{◌≡◌, ℕ, zero, suc, ◌<◌, true, false, [], ◌∷◌, refl, arith}
use Rattle.pb_world.specs.Actions.{Collective, Allreduce, Max, Run, Recv, Enter, Leave, Answers, of_rank}
use Rattle.pb_world.specs.Theorem.{AllRanks}
use Rattle.pb_core_language.specs.Tree.{Mark}
use Rattle.pb_core_language.specs.Flat.{Origin, Block, stop, message, compute, together, choice, looped, again, no_branch, branch}
use Rattle.pb_core_language.specs.Run.{Setting, Depends, seq}
use Rattle.pb_core_language.specs.Rules.{deserted, misfits, receives_only, keeps_source, keeps_labels}
use Rattle.pb_core_endpoint.specs.Rules.{Accepted, ends_before}
use Rattle.pb_core_endpoint.specs.Endpoint.{done, receive, send, enter, leave, choose, told, loop, no_arm, arm, code}
use Rattle.pb_core_endpoint.specs.Endpoint as E
use Rattle.pb_core_endpoint.specs.Theorem.{family}
use Rattle.pb_core_endpoint.proofs.Accepted.{bridge_is}

-- ---- short forms: places don't matter here

abbrev somewhere : Mark
somewhere = record { number = 0; place = record { line = 1; col = 1 } }

abbrev o : Origin
o = record { mark = somewhere; ends = [] }

-- the mark of the n-th branch
abbrev b : ℕ → Mark
b n = record { number = n; place = record { line = 1; col = 1 } }

abbrev greatest : Collective
greatest = Allreduce 9 Max

-- three ranks, labels without words, one word in a collective, which all leave with that of rank 0
abbrev three : Setting
three = record { total = 3; size = λ l. 0; weight = λ j r. 1; needs = λ j r p. true; outcome = λ j r f. f 0 }

three_depends : Depends three
three_depends j r f g h = h 0 (omega arith) refl

each_of_three : (P : ℕ → Type 0) → P 0 → P 1 → P 2 → (r : ℕ) → r < 3 → P r
each_of_three P x y z zero lt = x
each_of_three P x y z (suc zero) lt = y
each_of_three P x y z (suc (suc zero)) lt = z
each_of_three P x y z (suc (suc (suc r))) lt = absurd (omega arith)

-- ---- a relay: rank 0 chooses and tells rank 1, which tells rank 2

abbrev relayed : Block
relayed =
    looped o (choice o 0 5
    (branch (b 1) (message o 0 1 1 (message o 1 2 2 (together o greatest (again 0))))
    (branch (b 2) (message o 0 1 3 (message o 1 2 4 stop)) no_branch)) stop)
    (compute o 2 7 stop)

relayed_accepted : Accepted three relayed
relayed_accepted = record {
  formed = refl;
  ends = refl;
  peopled = refl;
  receives = each_of_three (λ r. misfits receives_only [] r relayed ≡ []) refl refl refl;
  sources = each_of_three (λ r. misfits keeps_source [] r relayed ≡ []) refl refl refl;
  labels = each_of_three (λ r. misfits keeps_labels [] r relayed ≡ []) refl refl refl;
}

relayed_0 : code [] 0 relayed
    ≡ loop (choose 5 (arm [] (send 1 1 (enter greatest (leave greatest (E.again 0)))) (arm [] (send 1 3 done) no_arm)) done) done
relayed_0 = refl

relayed_2 : code [] 2 relayed
    ≡ loop (told 1 (arm (2 ∷ []) (receive 1 2 (enter greatest (leave greatest (E.again 0)))) (arm (4 ∷ []) (receive 1 4 done) no_arm)) done) (E.run 7 done)
relayed_2 = refl

relayed_all : AllRanks (family three relayed)
relayed_all = (bridge_is three relayed three_depends relayed_accepted).1

-- the run, where the first answer goes on and the second isn't there
abbrev one_turn : ℕ → Answers
one_turn r = record { branches = 0 ∷ []; words = (r ∷ []) ∷ [] }

relayed_run : of_rank 2 (seq three relayed one_turn 12) ≡ Recv 1 2 [] ∷ Enter greatest (2 ∷ []) ∷ Leave greatest (0 ∷ []) ∷ Recv 1 4 [] ∷ Run 7 ∷ []
relayed_run = refl

-- ---- protocols that don't keep a rule

-- Two loops that continue each other: rank 2 takes part in `again 1`, and so in the inner choice, in which it isn't told.
abbrev nested : Block
nested =
    looped o (choice o 0 5
    (branch (b 1)
    (message o 0 1 1 (message o 0 2 2
    (looped o (choice o 0 6 (branch (b 2) (message o 0 1 3 (again 0)) (branch (b 3) (message o 0 1 4 (again 1)) (branch (b 4) (message o 0 1 5 stop) no_branch))) stop) (message o 1 2 8 (again 0)))))
    (branch (b 5) (message o 0 1 6 (message o 0 2 7 stop)) no_branch)) stop)
    stop

nested_refused : misfits receives_only [] 2 nested ≡ b 2 ∷ b 3 ∷ b 4 ∷ []
nested_refused = refl

-- rank 1 is told by rank 2 in one branch, and by the chooser in the other
abbrev two_sources : Block
two_sources = choice o 0 5 (branch (b 1) (message o 0 2 1 (message o 0 1 1 stop)) (branch (b 2) (message o 0 2 2 (message o 2 1 2 stop)) no_branch)) stop

two_sources_receive : misfits receives_only [] 1 two_sources ≡ []
two_sources_receive = refl

two_sources_refused : misfits keeps_source [] 1 two_sources ≡ b 2 ∷ []
two_sources_refused = refl

-- the same label in both branches
abbrev same_label : Block
same_label = choice o 0 5 (branch (b 1) (message o 0 1 1 stop) (branch (b 2) (message o 0 1 1 (compute o 1 3 stop)) no_branch)) stop

same_label_refused : misfits keeps_labels [] 1 same_label ≡ b 2 ∷ []
same_label_refused = refl

-- a loop that can't end, before another statement
abbrev for_ever : Block
for_ever = looped o (message o 0 1 1 (again 0)) (message o 1 2 2 stop)

for_ever_refused : ends_before for_ever ≡ false
for_ever_refused = refl

-- a loop that comes round with nobody in it
deserted_refused : deserted 3 [] (looped o (again 0) stop) ≡ somewhere ∷ []
deserted_refused = refl
