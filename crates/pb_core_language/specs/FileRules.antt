-- The rules 1 to 5 of a file: the places at which each is broken, in the order of the file.
use Rattle.std.specs.Prelude.{ℕ, ◌<◌, ℤ, pos, ◌+ℤ◌, ◌-ℤ◌, int_le, Bool, true, false, ◌||◌, ◌&&◌, not, nat_eq, nat_lt, nat_le, if◌then◌else◌, Option, Some, None, List, [], ◌∷◌, ◌++◌}
use Rattle.pb_text.specs.declared.place.Place.{Place}
use Rattle.pb_text.specs.declared.place.Spot.{Spot}
use Rattle.pb_syntax.specs.declared.tree.High.{High}
use Rattle.pb_syntax.specs.declared.tree.High.TheVariants.{Upto, Max}
use Rattle.pb_syntax.specs.declared.tree.LinText.{LinText}
use Rattle.pb_syntax.specs.declared.tree.RangeText.{RangeText}
use Rattle.pb_syntax.specs.declared.tree.RoleText.{RoleText}
use Rattle.pb_syntax.specs.declared.tree.Op.{Op}
use Rattle.pb_syntax.specs.declared.tree.Op.TheVariants as O
use Rattle.pb_syntax.specs.declared.tree.Payload.{Payload}
use Rattle.pb_syntax.specs.declared.tree.Payload.TheVariants.{Unit as Signal, Int32, Uint32}
use Rattle.pb_syntax.specs.Tree.{PlainStatement, message, foreach, loop, again, choice, compute, barrier, broadcast, reduce, allreduce, PlainStatements, nothing, more, PlainBranches, no_branch, branch, PlainFile}
use Rattle.pb_core_language.specs.Names.{Name, same, is_named, Kind, the_constant, the_protocol, a_role, a_label, a_compute_kernel, a_choice_kernel, a_loop, a_variable, same_kind, Use, declared, bound, mentioned, Scope, Visit, visits}

-- ---- rule 1: names are declared once, used in scope, and have one kind each

abbrev pub is_visited : Name → List Visit → Bool
is_visited x [] = false
is_visited x (v ∷ vs) = same x v.spot.name || is_visited x vs

abbrev pub has_other_kind : Name → Kind → List Visit → Bool
has_other_kind x k [] = false
has_other_kind x k (v ∷ vs) = (same x v.spot.name && not (same_kind k v.kind)) || has_other_kind x k vs

abbrev pub role_names : List RoleText → List Name
role_names [] = []
role_names (r ∷ rs) = r.role.name ∷ role_names rs

-- a mentioned role is one of the roles, and a mentioned variable is in scope
abbrev pub is_unknown : List Name → Visit → Kind → Bool
is_unknown roles v the_constant = false
is_unknown roles v the_protocol = false
is_unknown roles v a_role = not (is_named v.spot.name roles)
is_unknown roles v a_label = false
is_unknown roles v a_compute_kernel = false
is_unknown roles v a_choice_kernel = false
is_unknown roles v a_loop = false
is_unknown roles v a_variable = not (is_named v.spot.name v.scope.variables)

-- what is declared wasn't visited before, and what is bound isn't in the scope of such a name
abbrev pub is_misused : List Name → List Visit → Visit → Use → Bool
is_misused roles before v declared = is_visited v.spot.name before
is_misused roles before v bound = is_named v.spot.name v.scope.loops || is_named v.spot.name v.scope.variables
is_misused roles before v mentioned = is_unknown roles v v.kind

abbrev pub misnamed : List Name → List Visit → List Visit → List Place
misnamed roles before [] = []
misnamed roles before (v ∷ vs) =
    (if has_other_kind v.spot.name v.kind before || is_misused roles before v v.how then v.spot.place ∷ [] else []) ++ misnamed roles (before ++ v ∷ []) vs

abbrev pub broken_1 : PlainFile → List Place
broken_1 f = misnamed (role_names f.roles) [] (visits f)

-- ---- rule 2: a label has one payload; a collective has one that isn't (); sum goes only with uint32

-- a label where it stands, with what goes with it
pub record Labelled : Type 0 where
  pub label : Spot
  pub payload : Payload
  pub is_fine : Bool

abbrev pub payload_eq : Payload → Payload → Bool
payload_eq Signal Signal = true
payload_eq (Int32 a) (Int32 b) = nat_eq a b
payload_eq (Uint32 a) (Uint32 b) = nat_eq a b
payload_eq Signal (Int32 b) = false
payload_eq Signal (Uint32 b) = false
payload_eq (Int32 a) Signal = false
payload_eq (Int32 a) (Uint32 b) = false
payload_eq (Uint32 a) Signal = false
payload_eq (Uint32 a) (Int32 b) = false

abbrev pub has_words : Payload → Bool
has_words Signal = false
has_words (Int32 n) = true
has_words (Uint32 n) = true

abbrev pub is_unsigned : Payload → Bool
is_unsigned Signal = false
is_unsigned (Int32 n) = false
is_unsigned (Uint32 n) = true

abbrev pub goes_with : Op → Payload → Bool
goes_with O.Min p = has_words p
goes_with O.Max p = has_words p
goes_with O.Sum p = is_unsigned p

abbrev mutual
  pub labels_at : PlainStatement → List Labelled
  labels_at (message l p f t) = record { label = l; payload = p; is_fine = true } ∷ []
  labels_at (foreach at x over place items) = labels_in items
  labels_at (loop at x place body) = labels_in body
  labels_at (again at x) = []
  labels_at (choice at k who bs) = labels_among bs
  labels_at (compute at k who) = []
  labels_at (barrier at) = []
  labels_at (broadcast at l p f) = record { label = l; payload = p; is_fine = has_words p } ∷ []
  labels_at (reduce at l p o t) = record { label = l; payload = p; is_fine = goes_with o p } ∷ []
  labels_at (allreduce at l p o) = record { label = l; payload = p; is_fine = goes_with o p } ∷ []

  pub labels_in : PlainStatements → List Labelled
  labels_in nothing = []
  labels_in (more s rest) = labels_at s ++ labels_in rest

  pub labels_among : PlainBranches → List Labelled
  labels_among no_branch = []
  labels_among (branch at b bs) = labels_in b ++ labels_among bs

-- the payload of the label's first appearance, where it has one in the list
abbrev pub first_payload : Name → Payload → List Labelled → Payload
first_payload x p [] = p
first_payload x p (l ∷ ls) = if same x l.label.name then l.payload else first_payload x p ls

abbrev pub mislabelled : List Labelled → List Labelled → List Place
mislabelled before [] = []
mislabelled before (l ∷ ls) =
    (if l.is_fine && payload_eq l.payload (first_payload l.label.name l.payload before) then [] else l.label.place ∷ []) ++ mislabelled (before ++ l ∷ []) ls

abbrev pub broken_2 : PlainFile → List Place
broken_2 f = mislabelled [] (labels_in f.body.list)

-- ---- rule 3: a continue is the last statement of its block and stands inside its loop

abbrev pub is_nothing : PlainStatements → Bool
is_nothing nothing = true
is_nothing (more s rest) = false

abbrev mutual
  -- `is_last` says whether the statement is the last of its block
  pub astray_at : List Name → Bool → PlainStatement → List Place
  astray_at loops is_last (again at x) = if is_last && is_named x.name loops then [] else at ∷ []
  astray_at loops is_last (foreach at x over place items) = astray_in loops items
  astray_at loops is_last (loop at x place body) = astray_in (x.name ∷ loops) body
  astray_at loops is_last (choice at k who bs) = astray_among loops bs
  astray_at loops is_last (message l p f t) = []
  astray_at loops is_last (compute at k who) = []
  astray_at loops is_last (barrier at) = []
  astray_at loops is_last (broadcast at l p f) = []
  astray_at loops is_last (reduce at l p o t) = []
  astray_at loops is_last (allreduce at l p o) = []

  pub astray_in : List Name → PlainStatements → List Place
  astray_in loops nothing = []
  astray_in loops (more s rest) = astray_at loops (is_nothing rest) s ++ astray_in loops rest

  pub astray_among : List Name → PlainBranches → List Place
  astray_among loops no_branch = []
  astray_among loops (branch at b bs) = astray_in loops b ++ astray_among loops bs

abbrev pub broken_3 : PlainFile → List Place
broken_3 f = astray_in [] f.body.list

-- ---- rule 4: what another statement follows can end, and so can each loop in it

abbrev mutual
  pub can_end : PlainStatement → Bool
  can_end (again at x) = false
  can_end (loop at x place body) = all_can_end body
  can_end (choice at k who bs) = some_can_end bs
  can_end (message l p f t) = true
  can_end (foreach at x over place items) = true
  can_end (compute at k who) = true
  can_end (barrier at) = true
  can_end (broadcast at l p f) = true
  can_end (reduce at l p o t) = true
  can_end (allreduce at l p o) = true

  pub all_can_end : PlainStatements → Bool
  all_can_end nothing = true
  all_can_end (more s rest) = can_end s && all_can_end rest

  pub some_can_end : PlainBranches → Bool
  some_can_end no_branch = false
  some_can_end (branch at b bs) = all_can_end b || some_can_end bs

abbrev mutual
  pub loops_can_end : PlainStatement → Bool
  loops_can_end (loop at x place body) = all_can_end body && all_loops_can_end body
  loops_can_end (choice at k who bs) = branches_loops_can_end bs
  loops_can_end (foreach at x over place items) = all_loops_can_end items
  loops_can_end (message l p f t) = true
  loops_can_end (again at x) = true
  loops_can_end (compute at k who) = true
  loops_can_end (barrier at) = true
  loops_can_end (broadcast at l p f) = true
  loops_can_end (reduce at l p o t) = true
  loops_can_end (allreduce at l p o) = true

  pub all_loops_can_end : PlainStatements → Bool
  all_loops_can_end nothing = true
  all_loops_can_end (more s rest) = loops_can_end s && all_loops_can_end rest

  pub branches_loops_can_end : PlainBranches → Bool
  branches_loops_can_end no_branch = true
  branches_loops_can_end (branch at b bs) = all_loops_can_end b && branches_loops_can_end bs

-- where a statement begins
abbrev pub place_of : PlainStatement → Place
place_of (message l p f t) = l.place
place_of (foreach at x over place items) = at
place_of (loop at x place body) = at
place_of (again at x) = at
place_of (choice at k who bs) = at
place_of (compute at k who) = at
place_of (barrier at) = at
place_of (broadcast at l p f) = at
place_of (reduce at l p o t) = at
place_of (allreduce at l p o) = at

abbrev mutual
  pub endless_at : PlainStatement → List Place
  endless_at (foreach at x over place items) = endless_in items
  endless_at (loop at x place body) = endless_in body
  endless_at (choice at k who bs) = endless_among bs
  endless_at (message l p f t) = []
  endless_at (again at x) = []
  endless_at (compute at k who) = []
  endless_at (barrier at) = []
  endless_at (broadcast at l p f) = []
  endless_at (reduce at l p o t) = []
  endless_at (allreduce at l p o) = []

  pub endless_in : PlainStatements → List Place
  endless_in nothing = []
  endless_in (more s rest) = (if is_nothing rest || (can_end s && loops_can_end s) then [] else place_of s ∷ []) ++ (endless_at s ++ endless_in rest)

  pub endless_among : PlainBranches → List Place
  endless_among no_branch = []
  endless_among (branch at b bs) = endless_in b ++ endless_among bs

abbrev pub broken_4 : PlainFile → List Place
broken_4 f = endless_in f.body.list

-- ---- rule 5: 1 <= lo, lo <= hi, and the number of ranks grows with N or there is one N

-- 1 where the lin is over the constant
abbrev pub growth : Name → LinText → ℤ
growth constant l = elim l.base [ None ↦ pos 0 | Some x ↦ if same x.name constant then pos 1 else pos 0 ]

abbrev pub role_growth : Name → RoleText → ℤ
role_growth constant r = elim r.range [ None ↦ pos 0 | Some over ↦ growth constant over.high -ℤ growth constant over.low ]

-- the coefficient of N in the number of ranks
abbrev pub total_growth : Name → List RoleText → ℤ
total_growth constant [] = pos 0
total_growth constant (r ∷ rs) = role_growth constant r +ℤ total_growth constant rs

abbrev pub is_below : High → ℕ → Bool
is_below (Upto hi) lo = nat_lt hi lo
is_below Max lo = false

abbrev pub is_just : High → ℕ → Bool
is_just (Upto hi) lo = nat_eq hi lo
is_just Max lo = false

abbrev pub broken_5 : PlainFile → List Place
broken_5 f =
    (if nat_lt f.low 1 then f.low_place ∷ [] else [])
    ++ ((if is_below f.high f.low then f.high_place ∷ [] else [])
    ++ (if int_le (pos 1) (total_growth f.constant.name f.roles) || is_just f.high f.low then [] else f.protocol.place ∷ []))

-- ---- the least rule that is broken, with its first place

abbrev pub first_or : ℕ → List Place → Option (ℕ × Place) → Option (ℕ × Place)
first_or k [] later = later
first_or k (p ∷ ps) later = Some (k, p)

abbrev pub broken : PlainFile → Option (ℕ × Place)
broken f = first_or 1 (broken_1 f) (first_or 2 (broken_2 f) (first_or 3 (broken_3 f) (first_or 4 (broken_4 f) (first_or 5 (broken_5 f) None))))
