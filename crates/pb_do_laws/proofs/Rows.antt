-- Worked files with calls, by computation.
use Rattle.std.proofs.Common.{◌≡◌, ℤ, pos, negsuc, true, false, None, Some, List, [], ◌∷◌, refl}
use Rattle.pb_text.specs.declared.place.Place.{Place}
use Rattle.pb_text.specs.declared.place.Spot.{Spot}
use Rattle.pb_syntax.specs.declared.core_label.CoreLabel.{CoreLabel}
use Rattle.pb_syntax.specs.declared.core_label.KernelKind.TheVariants as kinds
use Rattle.pb_syntax.specs.declared.tree.High.TheVariants.{Max}
use Rattle.pb_syntax.specs.declared.tree.LinText.{LinText}
use Rattle.pb_syntax.specs.declared.tree.IndexText.{IndexText}
use Rattle.pb_syntax.specs.declared.tree.IndexText.TheVariants.{Zero, At}
use Rattle.pb_syntax.specs.declared.tree.End.{End}
use Rattle.pb_syntax.specs.declared.tree.Payload.TheVariants.{Unit as Signal}
use Rattle.pb_syntax.specs.Tree as tree
use Rattle.pb_world.specs.Actions.{Choose, Run, Send, Recv, AnswerTable}
use Rattle.pb_do_syntax.specs.Calls.{Call, plain, loop, choice, call, Calls, nothing, more, no_branch, branch, PlainSub, PlainCallFile}
use Rattle.pb_do_syntax.specs.Names.{Name}
use Rattle.pb_do_laws.specs.Ends.{call_can_end}
use Rattle.pb_do_laws.specs.Machine.{Numbering, calls, is_over}

-- ---- short forms

abbrev somewhere : Place
somewhere = record { line = 1; col = 1 }

abbrev spot : Name → Spot
spot x = record { name = x; place = somewhere }

abbrev fixed : ℤ → LinText
fixed c = record { base = None; off = c; place = somewhere }

abbrev n+ : ℤ → LinText
n+ c = record { base = Some (spot (78 ∷ [])); off = c; place = somewhere }

abbrev end_at : Name → IndexText → End
end_at x index = record { role = spot x; index = index }

abbrev message : Name → End → End → Call
message l from to = plain (tree.message (spot l) Signal from to)

abbrev call_of : Name → List Spot → Call
call_of f args = call somewhere (spot f) args

abbrev sub : Name → List Spot → Calls → PlainSub
sub f params body = record { name = spot f; params = params; body = record { place = somewhere; list = body } }

-- `global protocol P(role M, role W[0..N-1])`
abbrev file : List PlainSub → Calls → PlainCallFile
file subs body = record {
  subs = subs;
  constant = spot (78 ∷ []);
  low = 2;
  low_place = somewhere;
  high = Max;
  high_place = somewhere;
  protocol = spot (80 ∷ []);
  roles =
      record { role = spot (77 ∷ []); range = None }
      ∷ record { role = spot (87 ∷ []); range = Some (record { low = fixed (pos 0); high = n+ (negsuc 0) }) }
      ∷ [];
  body = record { place = somewhere; list = body };
}

abbrev label : Name → CoreLabel
label l = record { name = l; payload = Signal }

abbrev no_answers : AnswerTable
no_answers r = record { branches = []; words = [] }

-- ---- two calls of one subprotocol

-- protocol Ask(role A, role B) { Q() from A to B[0]; R() from B[0] to A; }
abbrev ask : PlainSub
ask = sub (1 ∷ []) (spot (65 ∷ []) ∷ spot (66 ∷ []) ∷ [])
    (more (message (81 ∷ []) (end_at (65 ∷ []) Zero) (end_at (66 ∷ []) (At (fixed (pos 0)))))
    (more (message (82 ∷ []) (end_at (66 ∷ []) (At (fixed (pos 0)))) (end_at (65 ∷ []) Zero)) nothing))

-- { do Ask(M, W); do Ask(W, M); }
abbrev both_ways : PlainCallFile
both_ways = file (ask ∷ [])
    (more (call_of (1 ∷ []) (spot (77 ∷ []) ∷ spot (87 ∷ []) ∷ []))
    (more (call_of (1 ∷ []) (spot (87 ∷ []) ∷ spot (77 ∷ []) ∷ [])) nothing))

abbrev numbers : Numbering
numbers = record { labels = label (81 ∷ []) ∷ label (82 ∷ []) ∷ []; kernels = record { name = 75 ∷ []; kind = kinds.Choice } ∷ record { name = 76 ∷ []; kind = kinds.Compute } ∷ [] }

-- M is rank 0, and W[0] is rank 1; each call takes six steps
asked_first : calls both_ways numbers (pos 2) no_answers 6 ≡ (0, Send 1 0 []) ∷ (1, Recv 0 0 []) ∷ (1, Send 0 1 []) ∷ (0, Recv 1 1 []) ∷ []
asked_first = refl

asked_back : calls both_ways numbers (pos 2) no_answers 20
    ≡ (0, Send 1 0 []) ∷ (1, Recv 0 0 []) ∷ (1, Send 0 1 []) ∷ (0, Recv 1 1 []) ∷ (1, Send 0 0 []) ∷ (0, Recv 1 0 []) ∷ (0, Send 1 1 []) ∷ (1, Recv 0 1 []) ∷ []
asked_back = refl

asked_over : is_over both_ways numbers (pos 2) no_answers 13 ≡ true
asked_over = refl

not_before : is_over both_ways numbers (pos 2) no_answers 12 ≡ false
not_before = refl

-- ---- a loop in a subprotocol, and a branch whose call can't end

-- protocol Never(role A) { rec X { compute L at A; continue X; } }
abbrev never : PlainSub
never = sub (2 ∷ []) (spot (65 ∷ []) ∷ [])
    (more (loop somewhere (spot (88 ∷ [])) somewhere
    (more (plain (tree.compute somewhere (spot (76 ∷ [])) (end_at (65 ∷ []) Zero))) (more (plain (tree.again somewhere (spot (88 ∷ [])))) nothing))) nothing)

-- protocol Twice(role B) { do Never(B); }
abbrev twice : PlainSub
twice = sub (3 ∷ []) (spot (66 ∷ []) ∷ []) (more (call_of (2 ∷ []) (spot (66 ∷ []) ∷ [])) nothing)

-- { choice K at M { do Twice(M); } or { do Ask(M, W); } }
abbrev some_end : PlainCallFile
some_end = file (twice ∷ ask ∷ never ∷ [])
    (more (choice somewhere (spot (75 ∷ [])) (end_at (77 ∷ []) Zero)
    (branch somewhere (more (call_of (3 ∷ []) (spot (77 ∷ []) ∷ [])) nothing)
    (branch somewhere (more (call_of (1 ∷ []) (spot (77 ∷ []) ∷ spot (87 ∷ []) ∷ [])) nothing) no_branch))) nothing)

twice_never : call_can_end (twice ∷ ask ∷ never ∷ []) (3 ∷ []) ≡ false
twice_never = refl

-- without an answer it is the second branch, whose call can end
ending_branch : calls some_end numbers (pos 2) no_answers 6 ≡ (0, Choose 0 2 1) ∷ (0, Send 1 0 []) ∷ (1, Recv 0 0 []) ∷ (1, Send 0 1 []) ∷ (0, Recv 1 1 []) ∷ []
ending_branch = refl

abbrev first_branch : AnswerTable
first_branch r = record { branches = 0 ∷ []; words = [] }

-- and with one it goes round in the loop of Never
round_and_round : calls some_end numbers (pos 2) first_branch 14 ≡ (0, Choose 0 2 0) ∷ (0, Run 1) ∷ (0, Run 1) ∷ (0, Run 1) ∷ []
round_and_round = refl
