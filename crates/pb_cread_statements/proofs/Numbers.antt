-- Parts that keep their rules have numbers that fit, and rows of the tables.
use Rattle.std.proofs.Common.{◌≡◌, ℕ, ◌+◌, ◌<◌, ◌≤◌, ℤ, pos, negsuc, Bool, true, false, List, [], ◌∷◌, length, Option, Some, None, refl, sym, subst, All, arith, eqb-true}
use Rattle.std.specs.Prelude.{nat_eq, nat_lt, nat_le, int_le, ◌&&◌, ◌||◌, not}
use Rattle.std.specs.List.{list_all, list_any}
use Rattle.std.proofs.lemmas.Bool.{leb-true, ltb-true}
use Rattle.std.proofs.lemmas.List.Elements.{All-nil, All-cons}
use Rattle.pb_affine.specs.declared.lin.Lin.{Lin}
use Rattle.pb_affine.specs.declared.guard.Guard.{Guard}
use Rattle.pb_local.specs.declared.stmt.Peer.{Peer}
use Rattle.pb_local.specs.Tables.{kernel_at}
use Rattle.pb_local.specs.Tree.{Program}
use Rattle.pb_ctree.specs.Rules.{is_offset, is_small_if, is_number_if, is_guard, are_guards, is_peer, is_label, is_choice_kind, computes, can_choose}
use Rattle.pb_cread_lines.specs.Fits.{FitsNumber, FitsNumberIf, FitsOffset, FitsLinIf, FitsGuard, FitsRoot, FitsPeer, HasLabel, HasKernel}
use Rattle.pb_cread_lines.specs.Head.{HasHead}
use Rattle.pb_cread_statements.specs.Reading.{is_same_peer}
use Rattle.pb_cread_statements.proofs.Small.{left, right, peer_same}

pub offset_fits : (off : ℤ) → is_offset off ≡ true → FitsOffset off
offset_fits (pos n) e = let h : int_le (pos n) (pos 1000000) ≡ true = right (int_le (negsuc 999999) (pos n)) (int_le (pos n) (pos 1000000)) e in let k : n ≤ 1000000 = leb-true n 1000000 h in omega (arith, k)
offset_fits (negsuc n) e = let h : int_le (negsuc 999999) (negsuc n) ≡ true = left (int_le (negsuc 999999) (negsuc n)) (int_le (negsuc n) (pos 1000000)) e in let k : n ≤ 999999 = leb-true n 999999 h in omega (arith, k)

small_fits : (l : Option Lin) → is_small_if l ≡ true → FitsLinIf l
small_fits None e = tt
small_fits (Some l) e = offset_fits l.off e

number_fits : (n : Option ℕ) → is_number_if n ≡ true → FitsNumberIf n
number_fits None e = tt
number_fits (Some n) e = let k : n ≤ 2000000000 = leb-true n 2000000000 e in omega (arith, k)

guard_fits : (p : Program) (g : Guard) → HasHead p → is_guard p g ≡ true → FitsGuard g
guard_fits p g head e =
    let role = nat_lt g.role (length p.roles) in
    let low = is_small_if g.low in
    let high = is_small_if g.high in
    let from = is_number_if g.from in
    let to = is_number_if g.to in
    let upto_from = left (role && low && high && from) to e in
    let upto_high = left (role && low && high) from upto_from in
    let upto_low = left (role && low) high upto_high in
    let there : g.role < length p.roles = ltb-true g.role (length p.roles) (left role low upto_low) in
    record {
      role = omega (arith, head.roles.most, there);
      low = small_fits g.low (right role low upto_low);
      high = small_fits g.high (right (role && low) high upto_high);
      from = number_fits g.from (right (role && low && high) from upto_from);
      to = number_fits g.to (right (role && low && high && from) to e);
    }

all_fit : (p : Program) (gs : List Guard) → HasHead p → list_all (is_guard p) gs ≡ true → All FitsGuard gs
all_fit p [] head e = All-nil FitsGuard
all_fit p (g ∷ gs) head e = All-cons FitsGuard g gs (guard_fits p g head (left (is_guard p g) (list_all (is_guard p) gs) e)) (all_fit p gs head (right (is_guard p g) (list_all (is_guard p) gs) e))

pub guards_fit : (p : Program) (gs : List Guard) → HasHead p → are_guards p gs ≡ true → All FitsGuard gs
guards_fit p [] head e = All-nil FitsGuard
guards_fit p (g ∷ gs) head e = all_fit p (g ∷ gs) head e

pub peer_fits : (p : Program) (e : Peer) → is_peer p e ≡ true → FitsPeer p e
peer_fits p e is = record {
  role = ltb-true e.role (length p.roles) (left (nat_lt e.role (length p.roles)) (is_offset e.at.off) is);
  at = offset_fits e.at.off (right (nat_lt e.role (length p.roles)) (is_offset e.at.off) is);
}

pub root_fits : (p : Program) (e : Peer) → HasHead p → FitsPeer p e → FitsRoot e
root_fits p e head h = let there : e.role < length p.roles = h.role in record { role = omega (arith, head.roles.most, there); at = h.at }

pub label_there : (p : Program) (label : ℕ) → is_label p label ≡ true → HasLabel p label
label_there p label e = ltb-true label (length p.labels) e

pub label_fits : (p : Program) (label : ℕ) → HasHead p → is_label p label ≡ true → FitsNumber label
label_fits p label head e = let there : label < length p.labels = label_there p label e in omega (arith, head.labels.most, there)

pub computing_there : (p : Program) (kernel : ℕ) → computes p kernel ≡ true → HasKernel p kernel
computing_there p kernel e = ltb-true kernel (length p.kernels) (left (nat_lt kernel (length p.kernels)) (not (is_choice_kind (kernel_at p kernel).kind)) e)

pub choosing_there : (p : Program) (kernel : ℕ) → can_choose p kernel ≡ true → HasKernel p kernel
choosing_there p kernel e = ltb-true kernel (length p.kernels) (left (nat_lt kernel (length p.kernels)) (is_choice_kind (kernel_at p kernel).kind) e)

-- ---- the same label, and the same peer

pub label_as : (p : Program) (label same : ℕ) → nat_eq label same ≡ true → HasLabel p same → HasLabel p label
label_as p label same e h = subst (HasLabel p) (sym (eqb-true label same e)) h

pub peer_as : (p : Program) (at root : Peer) → is_same_peer at root ≡ true → FitsPeer p root → FitsPeer p at
peer_as p at root e h = subst (FitsPeer p) (sym (peer_same at root e)) h

-- ---- numbers of loops

-- all are below this
abbrev pub Below : ℕ → List ℕ → Type 0
Below n [] = Unit {0}
Below n (id ∷ ids) = (id < n) × Below n ids

pub below_more : (n : ℕ) (ids : List ℕ) → Below n ids → Below (n + 1) ids
below_more n [] h = tt
below_more n (id ∷ ids) h = (omega (arith, h.0), below_more n ids h.1)

first_or_later : (n id other : ℕ) (rest b : Bool) → nat_eq id other ≡ b → (b || rest) ≡ true → other < n → (rest ≡ true → id < n) → id < n
first_or_later n id other rest true is e below later = let same : id ≡ other = eqb-true id other is in omega (arith, same, below)
first_or_later n id other rest false is e below later = later e

pub below_found : (n id : ℕ) (ids : List ℕ) → list_any (nat_eq id) ids ≡ true → Below n ids → id < n
below_found n id [] e h = absurd cc
below_found n id (other ∷ ids) e h = first_or_later n id other (list_any (nat_eq id) ids) (nat_eq id other) refl e h.0 (λ rest. below_found n id ids rest h.1)
