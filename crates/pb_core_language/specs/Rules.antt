-- The rules 6 to 12 at one N: the places at which each is broken, in the order of the file, and for 10 to 12 rank by rank.
-- In docs/LANGUAGE.md: 'The twelve rules'.
--
-- With `role W[0..N-1]` the body
--     choice K at W[0] { A() from W[0] to W[i:1..N-1]; } or { }
-- breaks at N = 3 the rule 10 alone, in the second branch, by the ranks 1 and 2, which find no receive there:
--     breaches protocol (pos 3) ≡ ranked 10 W[1] mark ∷ ranked 10 W[2] mark ∷ []
-- where W[1] and W[2] stand for the two seats, and `mark` is the second branch's.
--
-- n is N, T the number of ranks, and r a rank.
use Rattle.std.specs.Prelude.{ℕ, suc, ℤ, pos, ◌==◌, Bool, false, ◌||◌, ◌&&◌, not, if◌then◌else◌, Option, Some, None, List, [], ◌∷◌, ◌++◌, map, filter}
use Rattle.pb_affine.specs.Values.{value, range}
use Rattle.pb_core_language.specs.declared.protocol.CoreRole.{CoreRole}
use Rattle.pb_core_language.specs.Ranks.{Seat, seat_eq, seats, total, seat_at}
use Rattle.pb_core_language.specs.Tree.{Mark}
use Rattle.pb_core_language.specs.Plain.{Protocol}
use Rattle.pb_core_language.specs.Flat.{Asked, Origin, Block, stop, message, compute, together, choice, looped, again, Branches, no_branch, branch, takes_part, takes_part_among}
use Rattle.pb_core_language.specs.FlatOf.{flat}
use Rattle.pb_core_language.specs.Run.{Env, at_rank}
use Rattle.pb_core_language.specs.Lists.{some_below, over_below, is_empty, none_shared}
use Rattle.pb_core_language.specs.Outcomes.{Outcome, firsts, only_receives, comes_from_one, labels_of}

-- ---- rule 6: each role has at least one index

-- the roles from this number on that have none
abbrev pub empty_roles : ℕ → List CoreRole → ℤ → List Mark
empty_roles number [] n = []
empty_roles number (role ∷ roles) n =
    (if is_empty (range (value role.low n (pos 0)) (value role.high n (pos 0))) then record { number = number; place = role.place } ∷ [] else []) ++ empty_roles (suc number) roles n

-- ---- rule 7: each end has an index in its role's range. Rule 8: sender and receiver of each message differ

abbrev pub is_seat : Seat → List Seat → Bool
is_seat seat [] = false
is_seat seat (other ∷ others) = seat_eq seat other || is_seat seat others

-- something of each statement of a block, in order
module _ {A : Type 0} (of_origin : Origin → List A) where
  abbrev mutual
    pub each_origin : Block → List A
    each_origin stop = []
    each_origin (message origin from to label rest) = of_origin origin ++ each_origin rest
    each_origin (compute origin at kernel rest) = of_origin origin ++ each_origin rest
    each_origin (together origin joint rest) = of_origin origin ++ each_origin rest
    each_origin (choice origin at kernel branches rest) = of_origin origin ++ (each_origin_among branches ++ each_origin rest)
    each_origin (looped origin body rest) = of_origin origin ++ (each_origin body ++ each_origin rest)
    each_origin (again between) = []

    pub each_origin_among : Branches → List A
    each_origin_among no_branch = []
    each_origin_among (branch mark first rest) = each_origin first ++ each_origin_among rest

-- the ends that ask for a seat that isn't there
abbrev pub strays : List Seat → Origin → List Asked
strays ranks origin = filter (λ asked. not (is_seat asked.seat ranks)) origin.ends

-- the seat that is sender and receiver, at the message's own mark
abbrev pub alike : Mark → List Asked → List Asked
alike mark [] = []
alike mark (from ∷ []) = []
alike mark (from ∷ to ∷ others) = if seat_eq from.seat to.seat then record { mark = mark; seat = from.seat } ∷ [] else []

abbrev pub loners : Origin → List Asked
loners origin = alike origin.mark origin.ends

-- ---- rule 9: a loop whose body holds its continue has a rank that takes part

-- the block holds a continue of the loop around it with so many loops between
abbrev mutual
  pub holds_again : ℕ → Block → Bool
  holds_again outward stop = false
  holds_again outward (message origin from to label rest) = holds_again outward rest
  holds_again outward (compute origin at kernel rest) = holds_again outward rest
  holds_again outward (together origin joint rest) = holds_again outward rest
  holds_again outward (choice origin at kernel branches rest) = holds_again_among outward branches || holds_again outward rest
  holds_again outward (looped origin body rest) = holds_again (suc outward) body || holds_again outward rest
  holds_again outward (again between) = between == outward

  pub holds_again_among : ℕ → Branches → Bool
  holds_again_among outward no_branch = false
  holds_again_among outward (branch mark first rest) = holds_again outward first || holds_again_among outward rest

-- the loops that come round with nobody in them. `env` says of each loop around who takes part in it
abbrev mutual
  pub deserted : ℕ → Env → Block → List Mark
  deserted T env stop = []
  deserted T env (message origin from to label rest) = deserted T env rest
  deserted T env (compute origin at kernel rest) = deserted T env rest
  deserted T env (together origin joint rest) = deserted T env rest
  deserted T env (choice origin at kernel branches rest) = deserted_among T env branches ++ deserted T env rest
  deserted T env (looped origin body rest) =
      (if holds_again 0 body && not (some_below T (λ r. takes_part (false ∷ at_rank r env) r body)) then origin.mark ∷ [] else [])
      ++ (deserted T ((λ r. takes_part (false ∷ at_rank r env) r body) ∷ env) body ++ deserted T env rest)
  deserted T env (again between) = []

  pub deserted_among : ℕ → Env → Branches → List Mark
  deserted_among T env no_branch = []
  deserted_among T env (branch mark first rest) = deserted T env first ++ deserted_among T env rest

-- ---- rules 10 to 12: what a rank that is told of a choice finds first in its branches

-- The branches in which what a rank finds first doesn't fit, beside what it finds first in the branches before. It is asked
-- of a rank that isn't the chooser and takes part in some branch.
module _ (fits : (before here : List Outcome) → Bool) where
  abbrev mutual
    pub misfits : List Bool → ℕ → Block → List Mark
    misfits held r stop = []
    misfits held r (message origin from to label rest) = misfits held r rest
    misfits held r (compute origin at kernel rest) = misfits held r rest
    misfits held r (together origin joint rest) = misfits held r rest
    misfits held r (choice origin at kernel branches rest) =
        misfits_among held r (not (at == r) && takes_part_among held r branches) [] branches ++ misfits held r rest
    misfits held r (looped origin body rest) = misfits (takes_part (false ∷ held) r body ∷ held) r body ++ misfits held r rest
    misfits held r (again between) = []

    pub misfits_among : List Bool → ℕ → Bool → List Outcome → Branches → List Mark
    misfits_among held r is_told before no_branch = []
    misfits_among held r is_told before (branch mark first rest) =
        (if is_told && not (fits before (firsts held r first)) then mark ∷ [] else [])
        ++ (misfits held r first ++ misfits_among held r is_told (before ++ firsts held r first) rest)

-- rule 10: it finds only receives
abbrev pub receives_only : List Outcome → List Outcome → Bool
receives_only before here = only_receives here

-- rule 11: all receives are from one rank; only the first branch with a second source is named
abbrev pub keeps_source : List Outcome → List Outcome → Bool
keeps_source before here = comes_from_one (before ++ here) || not (comes_from_one before)

-- rule 12: no label of theirs is one of an earlier branch
abbrev pub keeps_labels : List Outcome → List Outcome → Bool
keeps_labels before here = none_shared (labels_of here) (labels_of before)

-- ---- all of them

-- a rule that is broken: where, and by which rank or role with an index
pub record Breach : Type 0 where
  pub rule : ℕ
  pub mark : Mark
  pub at : Option Seat

abbrev pub nobody : ℕ → Mark → Breach
nobody rule mark = record { rule = rule; mark = mark; at = None }

abbrev pub somebody : ℕ → Asked → Breach
somebody rule asked = record { rule = rule; mark = asked.mark; at = Some asked.seat }

abbrev pub ranked : ℕ → Seat → Mark → Breach
ranked rule seat mark = record { rule = rule; mark = mark; at = Some seat }

module _ (protocol : Protocol) (n : ℤ) where
  abbrev pub flat_at : Block
  flat_at = flat protocol.roles n protocol.body.block

  abbrev pub total_at : ℕ
  total_at = total protocol.roles n

  abbrev pub ranks_at : List Seat
  ranks_at = seats protocol.roles n

  -- for each rank, ascending
  abbrev pub misfitting : ℕ → (List Outcome → List Outcome → Bool) → List Breach
  misfitting rule fits = over_below total_at (λ r. map (ranked rule (seat_at r ranks_at)) (misfits fits [] r flat_at))

  abbrev pub broken_6 : List Breach
  broken_6 = map (nobody 6) (empty_roles 0 protocol.roles n)

  abbrev pub broken_7 : List Breach
  broken_7 = map (somebody 7) (each_origin (strays ranks_at) flat_at)

  abbrev pub broken_8 : List Breach
  broken_8 = map (somebody 8) (each_origin loners flat_at)

  abbrev pub broken_9 : List Breach
  broken_9 = map (nobody 9) (deserted total_at [] flat_at)

  abbrev pub broken_10 : List Breach
  broken_10 = misfitting 10 receives_only

  abbrev pub broken_11 : List Breach
  broken_11 = misfitting 11 keeps_source

  abbrev pub broken_12 : List Breach
  broken_12 = misfitting 12 keeps_labels

  -- each rule's, one rule after the other
  abbrev pub breaches : List Breach
  breaches = broken_6 ++ (broken_7 ++ (broken_8 ++ (broken_9 ++ (broken_10 ++ (broken_11 ++ broken_12)))))
