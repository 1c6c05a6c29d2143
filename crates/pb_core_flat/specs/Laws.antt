-- What a flat protocol keeps of the core that it comes from.
use Rattle.std.specs.Prelude.{◌≡◌, ℕ, ℤ, ◌==◌, ◌<◌, Bool, true, false, not, ◌||◌, ◌&&◌, List, [], ◌∷◌, ◌++◌, cond, ◌-ℤ◌, neg_ℤ, ◌↔◌, int_le, if◌then◌else◌, take, drop}
use Rattle.std.specs.List.{Contains, prefix_len}
use Rattle.pb_affine.specs.Values.{value, put}
use Rattle.pb_affine.specs.declared.lin.Base.TheVariants.{Var}
use Rattle.pb_affine.specs.declared.lin.Lin.{Lin}
use Rattle.pb_core_language.specs.declared.protocol.CoreRole.{CoreRole}
use Rattle.pb_core_language.specs.declared.tree.CoreEnd.{CoreEnd}
use Rattle.pb_core_language.specs.Ranks.{Seat, seats, total, number_in, seat_at}
use Rattle.pb_core_language.specs.Tree.{Mark, StmtTree, foreach, BlockTree, more, is_again}
use Rattle.pb_core_language.specs.declared.tree.Bounds.{Bounds}
use Rattle.pb_core_language.specs.Flat.{Origin, Block, stop, choice, Branches, branch, takes_part}
use Rattle.pb_core_language.specs.FlatOf.{rank_of, flat_stmt, flat_block}
use Rattle.pb_core_language.specs.Run.{Env}
use Rattle.pb_core_language.specs.Lists.{some_below, over_below, is_among, none_shared}
use Rattle.pb_core_language.specs.Rules.{Breach, is_seat, misfits, deserted, holds_again}
use Rattle.pb_core_language.specs.Sound.{Rows, is_over_n, is_stmt, is_block}
use Rattle.pb_core_language.specs.Outcomes.{Outcome, nothing_first, receives, other_first, again_first, or_then, firsts, firsts_among, only_receives, comes_from_one, labels_of}
use Rattle.pb_core_flat.specs.Seated.{rank, is_rank, is_at}
use Rattle.pb_core_flat.specs.GoesOn.{goes_on, go_on, are_items, have_again}
use Rattle.pb_core_flat.specs.Meets.{meet}
use Rattle.pb_core_flat.specs.OutcomeSets.{is_nothing, is_outcome, found}
use Rattle.pb_core_flat.specs.Stops.{Visit, visits, off_of, moving, IsByFalling, by_falling, put_behind, Stop, first_of, stops, few_stops}

-- ---- ranks

-- an end is at a rank exactly where it asks for the rank's role and index
abbrev pub EndIsAt : Type 0
EndIsAt = (roles : List CoreRole) (n i : ℤ) (e : CoreEnd) (role : ℕ) (x : ℤ) → is_rank roles n role x ≡ true → (rank_of roles n e i == rank roles n role x) ≡ is_at e n i role x

-- the seat of a rank's number is the rank's, and the number of a number's seat is the number
abbrev pub SeatOfRank : Type 0
SeatOfRank = (roles : List CoreRole) (n : ℤ) (a : Seat) → is_seat a (seats roles n) ≡ true → (number_in a (seats roles n) < total roles n) × (seat_at (number_in a (seats roles n)) (seats roles n) ≡ a)

abbrev pub RankOfSeat : Type 0
RankOfSeat = (roles : List CoreRole) (n : ℤ) (r : ℕ) → r < total roles n → (is_seat (seat_at r (seats roles n)) (seats roles n) ≡ true) × (number_in (seat_at r (seats roles n)) (seats roles n) ≡ r)

-- ---- one statement at a time

-- a sound statement goes on if it is no continue
abbrev pub SoundGoesOn : Type 0
SoundGoesOn = (rows : Rows) (varies : Bool) (ids : List ℕ) (s : StmtTree) → is_stmt rows varies ids s ≡ true → goes_on s ≡ not (is_again s)

-- who takes part in a statement and what is done after it takes part in one of them
abbrev pub TakesOneByOne : Type 0
TakesOneByOne =
    (roles : List CoreRole) (n i : ℤ) (r : ℕ) (held : List Bool) (opens : List ℕ) (m : Mark) (s : StmtTree) (rest : Block) → goes_on s ≡ true →
    takes_part held r (flat_stmt roles n opens i m s rest) ≡ takes_part held r (flat_stmt roles n opens i m s stop) || takes_part held r rest

abbrev pub TakesInBlock : Type 0
TakesInBlock =
    (roles : List CoreRole) (n i : ℤ) (r : ℕ) (held : List Bool) (opens : List ℕ) (b : BlockTree) (rest : Block) → go_on b ≡ true →
    takes_part held r (flat_block roles n opens i b rest) ≡ takes_part held r (flat_block roles n opens i b stop) || takes_part held r rest

-- the first statement of a block, and the others, which are done where it is no continue
abbrev pub TakesFirst : Type 0
TakesFirst =
    (rows : Rows) (varies : Bool) (ids : List ℕ) (roles : List CoreRole) (n i : ℤ) (r : ℕ) (held : List Bool) (opens : List ℕ) (m : Mark) (s : StmtTree) (b : BlockTree) → is_stmt rows varies ids s ≡ true →
    takes_part held r (flat_block roles n opens i (more m s b) stop)
    ≡ takes_part held r (flat_stmt roles n opens i m s stop) || (if is_again s then false else takes_part held r (flat_block roles n opens i b stop))

-- what a rank finds first in a statement, and where that is nothing what it finds first after it
abbrev pub FindsOneByOne : Type 0
FindsOneByOne =
    (roles : List CoreRole) (n i : ℤ) (r : ℕ) (held : List Bool) (opens : List ℕ) (m : Mark) (s : StmtTree) (rest : Block) → goes_on s ≡ true →
    firsts held r (flat_stmt roles n opens i m s rest) ≡ or_then (firsts held r (flat_stmt roles n opens i m s stop)) (firsts held r rest)

abbrev pub FindsInBlock : Type 0
FindsInBlock =
    (roles : List CoreRole) (n i : ℤ) (r : ℕ) (held : List Bool) (opens : List ℕ) (b : BlockTree) (rest : Block) → go_on b ≡ true →
    firsts held r (flat_block roles n opens i b rest) ≡ or_then (firsts held r (flat_block roles n opens i b stop)) (firsts held r rest)

abbrev pub FindsFirst : Type 0
FindsFirst =
    (rows : Rows) (varies : Bool) (ids : List ℕ) (roles : List CoreRole) (n i : ℤ) (r : ℕ) (held : List Bool) (opens : List ℕ) (m : Mark) (s : StmtTree) (b : BlockTree) → is_stmt rows varies ids s ≡ true →
    firsts held r (flat_block roles n opens i (more m s b) stop)
    ≡ or_then (firsts held r (flat_stmt roles n opens i m s stop)) (if is_again s then nothing_first ∷ [] else firsts held r (flat_block roles n opens i b stop))

-- an outcome of the one and then the other
abbrev pub EitherOutcome : Type 0
EitherOutcome =
    (o : Outcome) (os rest : List Outcome) →
    is_outcome o (or_then os rest) ≡ (not (is_nothing o) && is_outcome o os) || (is_outcome nothing_first os && is_outcome o rest)

-- who takes no part finds nothing but Nothing
abbrev pub BystanderFinds : Type 0
BystanderFinds = (held : List Bool) (r : ℕ) (g : Block) → takes_part held r g ≡ false → firsts held r g ≡ nothing_first ∷ []

-- ---- what breaks a rule, one statement at a time

abbrev pub MisfitsOneByOne : Type 0
MisfitsOneByOne =
    (fits : List Outcome → List Outcome → Bool) (roles : List CoreRole) (n i : ℤ) (r : ℕ) (held : List Bool) (opens : List ℕ) (m : Mark) (s : StmtTree) (rest : Block) → goes_on s ≡ true →
    misfits fits held r (flat_stmt roles n opens i m s rest) ≡ misfits fits held r (flat_stmt roles n opens i m s stop) ++ misfits fits held r rest

abbrev pub DesertedOneByOne : Type 0
DesertedOneByOne =
    (T : ℕ) (env : Env) (roles : List CoreRole) (n i : ℤ) (opens : List ℕ) (m : Mark) (s : StmtTree) (rest : Block) → goes_on s ≡ true →
    deserted T env (flat_stmt roles n opens i m s rest) ≡ deserted T env (flat_stmt roles n opens i m s stop) ++ deserted T env rest

abbrev pub HoldsAgainOneByOne : Type 0
HoldsAgainOneByOne =
    (k : ℕ) (roles : List CoreRole) (n i : ℤ) (opens : List ℕ) (m : Mark) (s : StmtTree) (rest : Block) → goes_on s ≡ true →
    holds_again k (flat_stmt roles n opens i m s rest) ≡ holds_again k (flat_stmt roles n opens i m s stop) || holds_again k rest

-- ---- a foreach

-- a rank takes part in a foreach exactly where some end of its items asks for its role and index for some value of the variable
abbrev pub EachIsMet : Type 0
EachIsMet =
    (roles : List CoreRole) (n i : ℤ) (role : ℕ) (x : ℤ) (held : List Bool) (opens : List ℕ) (m : Mark) (b : Bounds) (k : Mark) (items : BlockTree) → is_rank roles n role x ≡ true → are_items items ≡ true →
    takes_part held (rank roles n role x) (flat_stmt roles n opens i m (foreach b k items) stop) ≡ meet items (value b.low n i) (value b.high n i) n role x

abbrev pub SortedByFalling : Type 0
SortedByFalling = (vs : List Visit) → IsByFalling (by_falling vs) vs

-- and so is an order with one more, put behind those with the same offset or a greater one
abbrev pub PutBehind : Type 0
PutBehind = (sorted vs : List Visit) (v : Visit) → IsByFalling sorted vs → IsByFalling (put_behind v sorted) (vs ++ v ∷ [])

abbrev pub PutBehindIs : Type 0
PutBehindIs =
    (test : Visit → Bool) (v : Visit) (vs : List Visit) → ((w : Visit) → test w ≡ int_le (off_of v) (off_of w)) →
    put_behind v vs ≡ take (prefix_len test vs) vs ++ v ∷ drop (prefix_len test vs) vs

-- the first stop and the others, one after the other
abbrev pub StopsInTurn : Type 0
StopsInTurn =
    (s : Stop) (ss : List Stop) (role : ℕ) (x : ℤ) → is_nothing (s.finds x) ≡ false →
    found (first_of (s ∷ ss) role x) ∷ [] ≡ or_then (if s.has role x then s.finds x ∷ [] else nothing_first ∷ []) (found (first_of ss role x) ∷ [])

-- what a rank finds first in a foreach is what the first stop that has it finds
abbrev pub EachStops : Type 0
EachStops =
    (roles : List CoreRole) (n i : ℤ) (role : ℕ) (x : ℤ) (held : List Bool) (opens : List ℕ) (m : Mark) (b : Bounds) (k : Mark) (items : BlockTree) (sorted : List Visit) →
    is_rank roles n role x ≡ true → are_items items ≡ true → IsByFalling sorted (moving (visits items)) →
    firsts held (rank roles n role x) (flat_stmt roles n opens i m (foreach b k items) stop)
    ≡ found (first_of (stops roles n (value b.low n i) (value b.high n i) (visits items) sorted) role x) ∷ []

abbrev pub EachFewStops : Type 0
EachFewStops =
    (roles : List CoreRole) (n i : ℤ) (role : ℕ) (x : ℤ) (held : List Bool) (opens : List ℕ) (m : Mark) (b : Bounds) (k : Mark) (items : BlockTree) (sorted : List Visit) →
    is_rank roles n role x ≡ true → are_items items ≡ true → IsByFalling sorted (moving (visits items)) →
    firsts held (rank roles n role x) (flat_stmt roles n opens i m (foreach b k items) stop)
    ≡ found (first_of (few_stops roles n (value b.low n i) (value b.high n i) (visits items) sorted) role x) ∷ []

abbrev pub MisfitsFirst : Type 0
MisfitsFirst =
    (fits : List Outcome → List Outcome → Bool) (rows : Rows) (varies : Bool) (ids : List ℕ) (roles : List CoreRole) (n i : ℤ) (r : ℕ) (held : List Bool) (opens : List ℕ) (m : Mark) (s : StmtTree) (b : BlockTree) → is_stmt rows varies ids s ≡ true →
    misfits fits held r (flat_block roles n opens i (more m s b) stop)
    ≡ misfits fits held r (flat_stmt roles n opens i m s stop) ++ (if is_again s then [] else misfits fits held r (flat_block roles n opens i b stop))

abbrev pub DesertedFirst : Type 0
DesertedFirst =
    (T : ℕ) (env : Env) (rows : Rows) (varies : Bool) (ids : List ℕ) (roles : List CoreRole) (n i : ℤ) (opens : List ℕ) (m : Mark) (s : StmtTree) (b : BlockTree) → is_stmt rows varies ids s ≡ true →
    deserted T env (flat_block roles n opens i (more m s b) stop)
    ≡ deserted T env (flat_stmt roles n opens i m s stop) ++ (if is_again s then [] else deserted T env (flat_block roles n opens i b stop))

-- nothing in a foreach breaks the rules 9 to 12, or is a continue
abbrev pub EachKeepsRules : Type 0
EachKeepsRules =
    (fits : List Outcome → List Outcome → Bool) (T : ℕ) (env : Env) (j : ℕ) (roles : List CoreRole) (n i : ℤ) (r : ℕ) (held : List Bool) (opens : List ℕ) (m : Mark) (b : Bounds) (k : Mark) (items : BlockTree) → are_items items ≡ true →
    (misfits fits held r (flat_stmt roles n opens i m (foreach b k items) stop) ≡ [])
    × (deserted T env (flat_stmt roles n opens i m (foreach b k items) stop) ≡ [])
    × (holds_again j (flat_stmt roles n opens i m (foreach b k items) stop) ≡ false)

-- whether a block has a continue of a loop around it is the same for every N, and read off the tree
abbrev pub HoldsAgainIs : Type 0
HoldsAgainIs =
    (rows : Rows) (varies : Bool) (ids : List ℕ) (k : ℕ) (roles : List CoreRole) (n i : ℤ) (opens : List ℕ) (b : BlockTree) → is_block rows varies ids b ≡ true →
    holds_again k (flat_block roles n opens i b stop) ≡ have_again k opens b

-- a choice's outcomes are those of its branches, for all but the chooser
abbrev pub ChoiceFinds : Type 0
ChoiceFinds =
    (held : List Bool) (r : ℕ) (a : Origin) (p k : ℕ) (m : Mark) (b : Block) (bs : Branches) (o : Outcome) →
    is_outcome o (firsts held r (choice a p k (branch m b bs) stop)) ≡ is_outcome o (cond (p == r) (other_first ∷ []) (firsts_among held r (branch m b bs)))

-- ---- senders, by lins over the receiver's index as the variable

abbrev pub PutIs : Type 0
PutIs = (l by : Lin) (n i : ℤ) → value (put l by) n i ≡ value l n (value by n i)

-- at the first value of a foreach
abbrev pub SourceAtFirst : Type 0
SourceAtFirst = (roles : List CoreRole) (n : ℤ) (f : CoreEnd) (low : Lin) (i x : ℤ) → is_over_n low.base ≡ true → rank_of roles n f (value low n i) ≡ rank roles n f.role (value (put f.at low) n x)

-- where the receiver's index is the variable and an offset
abbrev pub SourceAtSome : Type 0
SourceAtSome = (roles : List CoreRole) (n : ℤ) (f : CoreEnd) (off x : ℤ) → rank_of roles n f (x -ℤ off) ≡ rank roles n f.role (value (put f.at (record { base = Var; off = neg_ℤ off })) n x)

-- ---- the tests of the rules 9 to 12, on sets

abbrev pub OnlyReceivesIs : Type 0
OnlyReceivesIs = (os : List Outcome) → only_receives os ≡ not (is_outcome nothing_first os || (is_outcome other_first os || is_outcome again_first os))

abbrev pub FromOneIs : Type 0
FromOneIs = (os : List Outcome) → (comes_from_one os ≡ true) ↔ ((s l t k : ℕ) → is_outcome (receives s l) os ≡ true → is_outcome (receives t k) os ≡ true → s ≡ t)

abbrev pub LabelIs : Type 0
LabelIs = (os : List Outcome) (l : ℕ) → (is_among l (labels_of os) ≡ true) ↔ ((s : ℕ) × (is_outcome (receives s l) os ≡ true))

abbrev pub NoneSharedIs : Type 0
NoneSharedIs = (xs ys : List ℕ) → (none_shared xs ys ≡ true) ↔ ((l : ℕ) → is_among l xs ≡ true → is_among l ys ≡ true → ⊥)

abbrev pub SomeBelowIs : Type 0
SomeBelowIs = (T : ℕ) (f : ℕ → Bool) → (some_below T f ≡ true) ↔ ((r : ℕ) × (r < T) × (f r ≡ true))

abbrev pub OverBelowIs : Type 0
OverBelowIs = (T : ℕ) (f : ℕ → List Breach) (b : Breach) → Contains (over_below T f) b ↔ ((r : ℕ) × (r < T) × Contains (f r) b)
