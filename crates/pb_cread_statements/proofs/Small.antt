-- Tests that hold, and what they say.
use Rattle.std.proofs.Common.{◌≡◌, ℕ, ◌+◌, Bool, true, false, List, [], ◌∷◌, ◌++◌, length, Option, Some, None, refl, sym, ap, ◌∙◌, arith, eq-eqb, eqb-true, ℤ}
use Rattle.std.specs.Prelude.{nat_eq, ◌&&◌}
use Rattle.std.specs.Ordering.{int_eq}
use Rattle.std.proofs.lemmas.List.{length-append}
use Rattle.std.proofs.lemmas.Bool.{and_from}
use Rattle.pb_affine.specs.declared.lin.Base.{Base}
use Rattle.pb_affine.specs.declared.lin.Base.TheVariants.{Fixed, Param, Var}
use Rattle.pb_affine.specs.declared.lin.Lin.{Lin}
use Rattle.pb_affine.specs.declared.guard.Guard.{Guard}
use Rattle.pb_local.specs.declared.stmt.Peer.{Peer}
use Rattle.pb_local.specs.Layout.{is_same_base, is_same_lin}
use Rattle.pb_ctree.specs.Rules.{is_at, is_peer_of}
use Rattle.pb_cread_statements.specs.Reading.{is_same_peer}

pub left : (a b : Bool) → (a && b) ≡ true → a ≡ true
left true b e = refl
left false b e = absurd cc

pub right : (a b : Bool) → (a && b) ≡ true → b ≡ true
right true b e = e
right false b e = absurd cc

pub eq_self : (n : ℕ) → nat_eq n n ≡ true
eq_self n = eq-eqb n n refl

pub longer : {A : Type 0} (xs : List A) (x : A) → length (xs ++ x ∷ []) ≡ length xs + 1
longer xs x = length-append xs (x ∷ [])

int_same : (a b : ℤ) → int_eq a b ≡ true → a ≡ b
int_same a b e = grind (arith, e)

int_self : (a : ℤ) → int_eq a a ≡ true
int_self a = grind arith

base_same : (a b : Base) → is_same_base a b ≡ true → a ≡ b
base_same Fixed Fixed e = refl
base_same Fixed Param e = absurd cc
base_same Fixed Var e = absurd cc
base_same Param Fixed e = absurd cc
base_same Param Param e = refl
base_same Param Var e = absurd cc
base_same Var Fixed e = absurd cc
base_same Var Param e = absurd cc
base_same Var Var e = refl

base_self : (a : Base) → is_same_base a a ≡ true
base_self Fixed = refl
base_self Param = refl
base_self Var = refl

pub lin_same : (a b : Lin) → is_same_lin a b ≡ true → a ≡ b
lin_same a b e =
    let base = base_same a.base b.base (left (is_same_base a.base b.base) (int_eq a.off b.off) e) in
    let off = int_same a.off b.off (right (is_same_base a.base b.base) (int_eq a.off b.off) e) in
    ap (λ x. let l : Lin = record { base = x; off = a.off } in l) base ∙ ap (λ x. let l : Lin = record { base = b.base; off = x } in l) off

pub lin_self : (a : Lin) → is_same_lin a a ≡ true
lin_self a = and_from (is_same_base a.base a.base) (int_eq a.off a.off) (base_self a.base) (int_self a.off)

pub peer_same : (a b : Peer) → is_same_peer a b ≡ true → a ≡ b
peer_same a b e =
    let role = eqb-true a.role b.role (left (nat_eq a.role b.role) (is_same_lin a.at b.at) e) in
    let at = lin_same a.at b.at (right (nat_eq a.role b.role) (is_same_lin a.at b.at) e) in
    ap (λ x. let l : Peer = record { role = x; at = a.at } in l) role ∙ ap (λ x. let l : Peer = record { role = b.role; at = x } in l) at

pub peer_self : (a : Peer) → is_same_peer a a ≡ true
peer_self a = and_from (nat_eq a.role a.role) (is_same_lin a.at a.at) (eq_self a.role) (lin_self a.at)

pub at_same : (low : Option Lin) (at : Lin) → is_at low at ≡ true → low ≡ Some at
at_same None at e = absurd cc
at_same (Some low) at e = ap (λ x. Some x) (sym (lin_same at low e))

-- the peer that is the chooser
pub source_is : (from : Peer) (who : Guard) → is_peer_of from who ≡ true → (let e : Peer = record { role = who.role; at = from.at } in e) ≡ from
source_is from who e = ap (λ x. let l : Peer = record { role = x; at = from.at } in l) (sym (eqb-true from.role who.role (left (nat_eq from.role who.role) (is_at who.low from.at) e)))

pub source_at : (from : Peer) (who : Guard) → is_peer_of from who ≡ true → who.low ≡ Some from.at
source_at from who e = at_same who.low from.at (right (nat_eq from.role who.role) (is_at who.low from.at) e)
