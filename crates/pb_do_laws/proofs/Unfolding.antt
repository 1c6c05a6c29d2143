-- Statements with calls beside the flat block that they do, whatever the origins in it.
use Rattle.std.proofs.Common.{◌≡◌, ℕ, zero, suc, pos, Bool, cond, true, false, ◌&&◌, ◌||◌, Some, None, List, [], ◌∷◌, ◌++◌, nat_lt, refl, sym, ap, ap₂, ◌∙◌}
use Rattle.pb_text.specs.declared.place.Place.{Place}
use Rattle.pb_text.specs.declared.place.Spot.{Spot}
use Rattle.pb_syntax.specs.declared.tree.RangeText.{RangeText}
use Rattle.pb_syntax.specs.declared.tree.End.{End}
use Rattle.pb_syntax.specs.Tree as tree
use Rattle.pb_syntax.specs.Tree.{PlainStatement}
use Rattle.pb_world.specs.Actions.{Collective}
use Rattle.pb_core_language.specs.FileRules as file_rules
use Rattle.pb_core_language.specs.Flat as F
use Rattle.pb_core_language.specs.Flat.{Origin, Block, stop, message, compute, together, looped, again, Branches}
use Rattle.pb_core_language.specs.Meaning.{position_of}
use Rattle.pb_core_language.specs.Names.{is_named}
use Rattle.pb_core_language.specs.Tree.{Mark}
use Rattle.pb_do_syntax.specs.Calls.{plain, foreach, loop, choice, call, Calls, nothing, more, CallBranches, no_branch, branch, PlainSub}
use Rattle.pb_do_syntax.specs.Names.{Name, sub_named}
use Rattle.pb_do_syntax.specs.Inlining.{Roles}
use Rattle.pb_do_laws.specs.Deeds.{Deed, sends, runs, joins, deeds, foreach_deeds}
use Rattle.pb_do_laws.specs.Ends.{all_can_end, some_can_end, ending, count, first_ending, call_can_end}
use Rattle.pb_do_laws.specs.Machine.{Ground, called_roles, chooser, kernel_of, branch_at}
use Rattle.pb_do_laws.proofs.Ending.{calls_end}

-- ---- the relations

-- deeds in front of a block
pub data Puts : List Deed → Block → Block → Type 0 where
  none : {after : Block} → Puts [] after after
  sending : {from to label : ℕ} {ds : List Deed} {after mid : Block} (origin : Origin) → Puts ds after mid → Puts (sends from to label ∷ ds) after (message origin from to label mid)
  running : {at kernel : ℕ} {ds : List Deed} {after mid : Block} (origin : Origin) → Puts ds after mid → Puts (runs at kernel ∷ ds) after (compute origin at kernel mid)
  joining : {joint : Collective} {ds : List Deed} {after mid : Block} (origin : Origin) → Puts ds after mid → Puts (joins joint ∷ ds) after (together origin joint mid)

-- without braces, and no continue
abbrev pub is_simple : PlainStatement → Bool
is_simple (tree.message l p from to) = true
is_simple (tree.compute at k who) = true
is_simple (tree.barrier at) = true
is_simple (tree.broadcast at l p from) = true
is_simple (tree.reduce at l p o to) = true
is_simple (tree.allreduce at l p o) = true
is_simple (tree.again at x) = false
is_simple (tree.foreach at x over place items) = false
is_simple (tree.loop at x place body) = false
is_simple (tree.choice at k who bs) = false

-- statements under these roles, inside loops of these names, in front of what is done after them
mutual
  pub data Unfolds (g : Ground) : Roles → List Name → Calls → Block → Block → Type 0 where
    at_end : {r : Roles} {opens : List Name} {after : Block} → Unfolds g r opens nothing after after
    begun : {r : Roles} {opens : List Name} {s : PlainStatement} {rest : Calls} {after mid b : Block} →
        is_simple s ≡ true → Puts (deeds g.table g.roles g.n r (pos 0) s) mid b → Unfolds g r opens rest after mid → Unfolds g r opens (more (plain s) rest) after b
    goes_back : {r : Roles} {opens : List Name} {place : Place} {x : Spot} {rest : Calls} {after : Block} →
        is_named x.name opens ≡ true → Unfolds g r opens (more (plain (tree.again place x)) rest) after (again (position_of x.name opens))
    iterated : {r : Roles} {opens : List Name} {place : Place} {x : Spot} {range : RangeText} {at : Place} {items rest : Calls} {after mid b : Block} →
        Puts (foreach_deeds g.table g.roles g.n r range items) mid b → Unfolds g r opens rest after mid → Unfolds g r opens (more (foreach place x range at items) rest) after b
    loops : {r : Roles} {opens : List Name} {place : Place} {x : Spot} {at : Place} {body rest : Calls} {after mid inner : Block} (origin : Origin) →
        Unfolds g r (x.name ∷ opens) body stop inner → Unfolds g r opens rest after mid → Unfolds g r opens (more (loop place x at body) rest) after (looped origin inner mid)
    offered : {r : Roles} {opens : List Name} {place : Place} {k : Spot} {who : End} {bs : CallBranches} {rest : Calls} {after mid : Block} {blocks : Branches} (origin : Origin) →
        UnfoldsBranches g r opens bs blocks → Unfolds g r opens rest after mid → Unfolds g r opens (more (choice place k who bs) rest) after (F.choice origin (chooser g r who) (kernel_of g k) blocks mid)
    called : {r : Roles} {opens : List Name} {place : Place} {f : Spot} {args : List Spot} {rest : Calls} {after mid b : Block} (sub : PlainSub) →
        sub_named g.subs f.name ≡ Some sub → Unfolds g (called_roles sub r args) opens sub.body.list mid b → Unfolds g r opens rest after mid → Unfolds g r opens (more (call place f args) rest) after b
    lost : {r : Roles} {opens : List Name} {place : Place} {f : Spot} {args : List Spot} {rest : Calls} {after b : Block} →
        sub_named g.subs f.name ≡ None → Unfolds g r opens rest after b → Unfolds g r opens (more (call place f args) rest) after b

  pub data UnfoldsBranches (g : Ground) : Roles → List Name → CallBranches → Branches → Type 0 where
    no_more : {r : Roles} {opens : List Name} → UnfoldsBranches g r opens no_branch F.no_branch
    another : {r : Roles} {opens : List Name} {at : Place} {first : Calls} {rest : CallBranches} {b : Block} {blocks : Branches} (mark : Mark) →
        Unfolds g r opens first stop b → UnfoldsBranches g r opens rest blocks → UnfoldsBranches g r opens (branch at first rest) (F.branch mark b blocks)

pub puts_then : {ds es : List Deed} {after mid b : Block} → Puts ds mid b → Puts es after mid → Puts (ds ++ es) after b
puts_then none q = q
puts_then (sending origin p) q = sending origin (puts_then p q)
puts_then (running origin p) q = running origin (puts_then p q)
puts_then (joining origin p) q = joining origin (puts_then p q)

-- ---- what can end

and_end : (a : Bool) → a ≡ (a && true)
and_end true = refl
and_end false = refl

and_behind : (a b c : Bool) → (a && (b && c)) ≡ ((a && b) && c)
and_behind true b c = refl
and_behind false b c = refl

puts_end : {ds : List Deed} {after b : Block} → Puts ds after b → F.can_end b ≡ F.can_end after
puts_end none = refl
puts_end (sending origin p) = puts_end p
puts_end (running origin p) = puts_end p
puts_end (joining origin p) = puts_end p

simple_ends : (s : PlainStatement) → is_simple s ≡ true → true ≡ file_rules.can_end s
simple_ends (tree.message l p from to) h = refl
simple_ends (tree.compute at k who) h = refl
simple_ends (tree.barrier at) h = refl
simple_ends (tree.broadcast at l p from) h = refl
simple_ends (tree.reduce at l p o to) h = refl
simple_ends (tree.allreduce at l p o) h = refl
simple_ends (tree.again at x) h = cc
simple_ends (tree.foreach at x over place items) h = cc
simple_ends (tree.loop at x place body) h = cc
simple_ends (tree.choice at k who bs) h = cc

module _ (g : Ground) where
  abbrev ends : Name → Bool
  ends = call_can_end g.subs

  lost_ends : (f : Name) → sub_named g.subs f ≡ None → ends f ≡ true
  lost_ends f h = rw h refl

  mutual
    unfolds_end : {r : Roles} {opens : List Name} {c : Calls} {after b : Block} → Unfolds g r opens c after b → F.can_end b ≡ (all_can_end ends c && F.can_end after)
    unfolds_end at_end = refl
    unfolds_end {after = after} (begun {s = s} {rest = rest} h p u) =
        puts_end p ∙ unfolds_end u ∙ ap (λ a. (a && all_can_end ends rest) && F.can_end after) (simple_ends s h)
    unfolds_end (goes_back h) = refl
    unfolds_end (iterated p u) = puts_end p ∙ unfolds_end u
    unfolds_end {after = after} (loops {body = body} {rest = rest} origin i u) =
        ap₂ (λ a b. a && b) (unfolds_end i ∙ sym (and_end (all_can_end ends body))) (unfolds_end u) ∙ and_behind (all_can_end ends body) (all_can_end ends rest) (F.can_end after)
    unfolds_end {after = after} (offered {bs = bs} {rest = rest} origin i u) =
        ap₂ (λ a b. a && b) (branches_end i) (unfolds_end u) ∙ and_behind (some_can_end ends bs) (all_can_end ends rest) (F.can_end after)
    unfolds_end {after = after} (called {f = f} {rest = rest} sub there i u) =
        unfolds_end i
        ∙ ap₂ (λ a b. a && b) (sym (calls_end g.subs f.name sub there)) (unfolds_end u)
        ∙ and_behind (ends f.name) (all_can_end ends rest) (F.can_end after)
    unfolds_end {after = after} (lost {f = f} {rest = rest} absent u) =
        unfolds_end u ∙ ap (λ a. (a && all_can_end ends rest) && F.can_end after) (sym (lost_ends f.name absent))

    branches_end : {r : Roles} {opens : List Name} {bs : CallBranches} {blocks : Branches} → UnfoldsBranches g r opens bs blocks → F.some_can_end blocks ≡ some_can_end ends bs
    branches_end no_more = refl
    branches_end (another {first = first} mark i u) = ap₂ (λ a b. a || b) (unfolds_end i ∙ sym (and_end (all_can_end ends first))) (branches_end u)

  pub branches_count : {r : Roles} {opens : List Name} {bs : CallBranches} {blocks : Branches} → UnfoldsBranches g r opens bs blocks → count bs ≡ F.count blocks
  branches_count no_more = refl
  branches_count (another mark i u) = ap suc (branches_count u)

  branches_ending : {r : Roles} {opens : List Name} {bs : CallBranches} {blocks : Branches} → UnfoldsBranches g r opens bs blocks → ending ends bs ≡ F.ending blocks
  branches_ending no_more = refl
  branches_ending (another {first = first} mark i u) = ap₂ (λ a n. cond a 0 (suc n)) (sym (unfolds_end i ∙ sym (and_end (all_can_end ends first)))) (branches_ending u)

  -- the branch that is taken where nothing is answered
  pub branches_first : {r : Roles} {opens : List Name} {bs : CallBranches} {blocks : Branches} → UnfoldsBranches g r opens bs blocks → first_ending ends bs ≡ F.first_ending blocks
  branches_first u = ap₂ (λ e n. cond (nat_lt e n) e 0) (branches_ending u) (branches_count u)

  pub branch_unfolds : {r : Roles} {opens : List Name} {bs : CallBranches} {blocks : Branches} → UnfoldsBranches g r opens bs blocks → (k : ℕ) → Unfolds g r opens (branch_at k bs) stop (F.branch_at k blocks)
  branch_unfolds no_more zero = at_end
  branch_unfolds no_more (suc k) = at_end
  branch_unfolds (another mark i u) zero = i
  branch_unfolds (another mark i u) (suc k) = branch_unfolds u k
