-- How ranks are told the branch of a choice: the tests and relays of its text.
use Rattle.std.specs.Prelude.{◌≡◌, ℕ, ℤ, pos, Bool, true, false, ◌&&◌, not, ◌||◌, nat_eq, if◌then◌else◌, List, [], ◌∷◌, ◌++◌}
use Rattle.pb_affine.specs.declared.guard.Guard.{Guard}
use Rattle.std.specs.List.{All}
use Rattle.std.specs.Ordering.{int_eq}
use Rattle.pb_affine.specs.Values.{value, hold}
use Rattle.pb_core_language.specs.declared.tree.CoreEnd.{CoreEnd}
use Rattle.pb_core_language.specs.Tree.{BranchTrees}
use Rattle.pb_core_language.specs.Flat.{branch_at}
use Rattle.pb_core_language.specs.FlatOf.{flat_branches}
use Rattle.pb_core_language.specs.Lists.{is_among}
use Rattle.pb_core_language.specs.Outcomes.{labels_of, firsts, firsts_among, source_of}
use Rattle.pb_core_language.specs.Verdict.{IsIn}
use Rattle.pb_core_flat.specs.Seated.{rank, is_rank}
use Rattle.pb_local.specs.declared.stmt.Test.{Test}
use Rattle.pb_local.specs.declared.stmt.Peer.{Peer}
use Rattle.pb_local.specs.declared.stmt.Relay.{Relay}
use Rattle.pb_local.specs.Computed as C
use Rattle.pb_local.specs.Tree.{Code, Codes, more}
use Rattle.pb_local.specs.Tree as L
use Rattle.pb_shape.specs.Places.{Scope, Who, Here, is_end, peer_of}
use Rattle.pb_shape.specs.Guards.{alone, Names, Someone, Somebody}
use Rattle.pb_shape.specs.Loops.{Around}

-- a first outcome of the rank in branch k is a receive of this label
abbrev pub is_told : Scope → Around → BranchTrees → ℕ → ℕ → Who
is_told sc a bs k l n i role x = is_among l (labels_of (firsts (a.held n role x) (rank sc.roles n role x) (branch_at k (flat_branches sc.roles n a.opens (pos 0) bs))))

-- the source of the rank's first outcomes over all branches
abbrev pub teller : Scope → Around → BranchTrees → ℤ → ℕ → ℤ → ℕ
teller sc a bs n role x = source_of (firsts_among (a.held n role x) (rank sc.roles n role x) (flat_branches sc.roles n a.opens (pos 0) bs))

-- the guards of the tests of this branch and label
abbrev pub guards_of : ℕ → ℕ → List Test → List Guard
guards_of k l [] = []
guards_of k l (t ∷ ts) = if nat_eq k t.branch && nat_eq l t.label then t.guards ++ guards_of k l ts else guards_of k l ts

-- for each branch and label the tests hold of the ranks that are told the branch by the label
abbrev pub Tests : Scope → Here → Around → BranchTrees → List Test → Type 0
Tests sc h a bs tests = (k l : ℕ) → Names sc h (guards_of k l tests) (is_told sc a bs k l)

-- The first relay that holds for a rank that is told, or else the chooser, is the one source of its first outcomes; of the chooser itself nothing is
-- asked. Behind `Own` of 0 the variable is the own index
abbrev pub Relays : Scope → Around → CoreEnd → BranchTrees → List Relay → Type 0
Relays sc a at bs relays =
    (n : ℤ) (role : ℕ) (x : ℤ) (k l : ℕ) → IsIn sc.range n → is_rank sc.roles n role x ≡ true → is_end at n (pos 0) role x ≡ false → is_told sc a bs k l n (pos 0) role x ≡ true →
    rank sc.roles n (C.source_of n (record { role = role; index = x }) x relays (peer_of at)).role
    (value (C.source_of n (record { role = role; index = x }) x relays (peer_of at)).at n x) ≡ teller sc a bs n role x

-- Each test holds of somebody who comes to the choice
abbrev pub AreHeld : Scope → Here → List Test → Type 0
AreHeld sc h tests = All (λ t. Somebody sc h (λ n i role x. hold t.guards n i role x)) tests

-- the peer is the chooser, with the own index for the variable
abbrev pub is_chooser : Peer → CoreEnd → ℤ → ℤ → Bool
is_chooser p at n x = nat_eq p.role at.role && int_eq (value p.at n x) (value at.at n x)

-- and so does each relay, with the own index for the variable: of somebody other than the chooser, for whom it doesn't name the chooser
abbrev pub AreCalled : Scope → Here → CoreEnd → List Relay → Type 0
AreCalled sc h at relays = All (λ r. Someone sc h (λ n i role x. hold r.guards n x role x && not (is_chooser r.from at n x || is_end at n (pos 0) role x))) relays

-- where there are relays, `Own` of 0 stands before
abbrev pub told_by : List Relay → Code → Codes
told_by [] c = alone c
told_by (r ∷ rs) c = more (L.own (pos 0)) (alone c)
