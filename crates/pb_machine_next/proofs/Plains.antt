-- Plain trees, and the statements of blocks.
use Rattle.std.proofs.Common.{◌≡◌, ◌≤◌, ◌<◌, ℕ, zero, suc, ◌+◌, List, [], ◌∷◌, map, length, ap, sym, ◌∙◌, Vec, refl, get_or, add-one, arith}
use Rattle.std.specs.declared.alloc.Global.{Global}
use Rattle.pb_affine.specs.declared.guard.Guard.{Guard}
use Rattle.pb_local.specs.declared.stmt.Peer.{Peer}
use Rattle.pb_local.specs.declared.stmt.Test.{Test}
use Rattle.pb_local.specs.declared.stmt.Relay.{Relay}
use Rattle.pb_local.specs.declared.stmt.Stmt.{Stmt}
use Rattle.pb_local.specs.declared.stmt.Stmt.TheVariants.{Choice}
use Rattle.pb_local.specs.Tree.{nothing, more, Parts, parts_of, plain, plain_all}
use Rattle.pb_local.proofs.Plains.{choice_plain}
use Rattle.pb_machine_next.specs.declared.step.Step.{Step}
use Rattle.pb_machine_next.specs.Place.{block_from, head, inside, part_at, tests_of, Found, at_or, round_or, better}

-- the branches of a choice
abbrev pub parts : List (Vec Stmt Global) → Parts
parts bs = parts_of (map (λ v. map plain v.items) bs)

pub of_choice : (s : Stmt) (who : Guard) (k : ℕ) (rs : Vec Relay Global) (from : Peer) (ts : Vec Test Global) (bs : Vec (Vec Stmt Global) Global) (n : ℕ) →
    s ≡ Choice who k rs from ts bs → inside n (plain s) ≡ part_at n (parts bs.items)
of_choice s who k rs from ts bs n h = ap (inside n) (ap plain h ∙ choice_plain who k rs from ts bs)

pub choice_tests : (s : Stmt) (who : Guard) (k : ℕ) (rs : Vec Relay Global) (from : Peer) (ts : Vec Test Global) (bs : Vec (Vec Stmt Global) Global) →
    s ≡ Choice who k rs from ts bs → tests_of (plain s) ≡ ts.items
choice_tests s who k rs from ts bs h = ap tests_of (ap plain h ∙ choice_plain who k rs from ts bs)

pub part_none : (bs : List (Vec Stmt Global)) (k : ℕ) → length bs ≤ k → part_at k (parts bs) ≡ nothing
part_none [] k h = refl
part_none (b ∷ bs) zero h = absurd (omega (arith, h))
part_none (b ∷ bs) (suc k) h = part_none bs k (omega (arith, h))

pub part_some : (bs : List (Vec Stmt Global)) (k : ℕ) (v : Vec Stmt Global) → k < length bs → v ≡ get_or bs k v → part_at k (parts bs) ≡ plain_all v.items
part_some [] k v lt h = absurd (omega (arith, lt))
part_some (b ∷ bs) zero v lt h = ap (λ (z : Vec Stmt Global). plain_all z.items) (sym h)
part_some (b ∷ bs) (suc k) v lt h = part_some bs k v (omega (arith, lt)) h

pub from_some : (xs : List Stmt) (k : ℕ) (x : Stmt) → k < length xs → x ≡ get_or xs k x → block_from k (plain_all xs) ≡ more (plain x) (block_from (suc k) (plain_all xs))
from_some [] k x lt h = absurd (omega (arith, lt))
from_some (y ∷ ys) zero x lt h = ap (λ z. more (plain z) (plain_all ys)) (sym h)
from_some (y ∷ ys) (suc k) x lt h = from_some ys k x (omega (arith, lt)) h

pub from_none : (xs : List Stmt) (k : ℕ) → length xs ≤ k → block_from k (plain_all xs) ≡ nothing
from_none [] zero h = refl
from_none [] (suc k) h = refl
from_none (y ∷ ys) zero h = absurd (omega (arith, h))
from_none (y ∷ ys) (suc k) h = from_none ys k (omega (arith, h))

-- a step taken: the statement is there, and what was found
pub stepped_best : (xs : List Stmt) (f : Step) (depth : ℕ) (x : Stmt) (best middle last : Found) → f.at < length xs → x ≡ get_or xs f.at x →
    middle ≡ at_or depth (f.at + 1) best (block_from (f.at + 1) (plain_all xs)) → last ≡ round_or depth (f.at + 1) middle (plain x) →
    last ≡ better (plain_all xs) f depth best
stepped_best xs f depth x best middle last lt h e1 e2 =
    e2 ∙ ap (λ z. round_or depth (f.at + 1) z (plain x)) e1
    ∙ ap (λ j. round_or depth j (at_or depth j best (block_from j (plain_all xs))) (plain x)) (add-one f.at)
    ∙ ap (λ z. round_or depth (suc f.at) (at_or depth (suc f.at) best (block_from (suc f.at) (plain_all xs))) (head z)) (sym (from_some xs f.at x lt h))

pub stepped_none : (xs : List Stmt) (f : Step) (depth : ℕ) (best : Found) → length xs ≤ f.at → best ≡ better (plain_all xs) f depth best
stepped_none xs f depth best le =
    let e1 : block_from f.at (plain_all xs) ≡ nothing = from_none xs f.at le in
    let e2 : block_from (suc f.at) (plain_all xs) ≡ nothing = from_none xs (suc f.at) (omega (arith, le)) in
    rw (e1, e2) refl
