-- The five faults of a file's calls: the places of each, in the order of the file.
use Rattle.std.specs.Prelude.{ℕ, Bool, false, not, nat_eq, is_none, if◌then◌else◌, Option, Some, None, List, [], ◌∷◌, ◌++◌, length}
use Rattle.pb_text.specs.declared.place.Place.{Place}
use Rattle.pb_text.specs.declared.place.Spot.{Spot}
use Rattle.pb_do_syntax.specs.Calls.{PlainSub, PlainCallFile}
use Rattle.pb_do_syntax.specs.Names.{Name, is_named, sub_at}
use Rattle.pb_do_faults.specs.declared.call_site.CallSite.{CallSite}
use Rattle.pb_do_faults.specs.CallSites.{bodies}

-- ---- twice: a subprotocol has the name of an earlier one, or a parameter that of an earlier one of its list

-- the names that stand among those before them
abbrev pub repeated : List Name → List Spot → List Place
repeated before [] = []
repeated before (s ∷ ss) = (if is_named s.name before then s.place ∷ [] else []) ++ repeated (before ++ (s.name ∷ [])) ss

abbrev pub twice_behind : List Name → List PlainSub → List Place
twice_behind before [] = []
twice_behind before (s ∷ ss) =
    (if is_named s.name.name before then s.name.place ∷ [] else []) ++ (repeated [] s.params ++ twice_behind (before ++ (s.name.name ∷ [])) ss)

abbrev pub twice : PlainCallFile → List Place
twice f = twice_behind [] f.subs

-- ---- unknown: a call names no subprotocol

abbrev pub unknown_in : List CallSite → List Place
unknown_in [] = []
unknown_in (d ∷ ds) = (if is_none d.callee then d.place ∷ [] else []) ++ unknown_in ds

abbrev pub unknown_among : List (List CallSite) → List Place
unknown_among [] = []
unknown_among (calls ∷ rest) = unknown_in calls ++ unknown_among rest

abbrev pub unknown : PlainCallFile → List Place
unknown f = unknown_among (bodies f)

-- ---- arity: a call has not as many arguments as the subprotocol that it names has parameters

abbrev pub has_other_count : ℕ → Option PlainSub → Bool
has_other_count args None = false
has_other_count args (Some sub) = not (nat_eq args (length sub.params))

abbrev pub arity_in : List PlainSub → List CallSite → List Place
arity_in subs [] = []
arity_in subs (d ∷ ds) = (if has_other_count d.args (sub_at subs d.callee) then d.place ∷ [] else []) ++ arity_in subs ds

abbrev pub arity_among : List PlainSub → List (List CallSite) → List Place
arity_among subs [] = []
arity_among subs (calls ∷ rest) = arity_in subs calls ++ arity_among subs rest

abbrev pub arity : PlainCallFile → List Place
arity f = arity_among f.subs (bodies f)
