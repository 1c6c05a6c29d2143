-- A step put on the path.
use Rattle.std.proofs.Common.{◌≡◌, ◌≤◌, ℕ, zero, suc, ◌+◌, List, [], ◌∷◌, ◌++◌, take, length, ap, ◌∙◌, refl, add-one, arith, Vec}
use Rattle.std.specs.declared.alloc.Global.{Global}
use Rattle.std.specs.Vec.{with_item}
use Rattle.std.proofs.Math.Seq.{take-suc-set}
use Rattle.pb_local.specs.Tree.{Codes}
use Rattle.pb_machine_next.specs.declared.step.Step.{Step}
use Rattle.pb_machine_next.specs.declared.ahead.Go.{Go}
use Rattle.pb_machine_next.specs.declared.ahead.Go.TheVariants.{Stay, Enter}
use Rattle.pb_machine_next.specs.Place.{todo}
use Rattle.pb_machine_next.specs.View.{goes}
use Rattle.pb_machine_next.specs.Safe.{IsRoom, IsIn}

pub take_front : (d n : ℕ) (xs : List Step) → d ≤ n → take d (take n xs) ≡ take d xs
take_front zero n xs h = refl
take_front (suc d) zero xs h = absurd (omega (arith, h))
take_front (suc d) (suc n) [] h = refl
take_front (suc d) (suc n) (x ∷ xs) h = ap (λ z. x ∷ z) (take_front d n xs (omega (arith, h)))

-- to the same place again
pub stayed : (b : Codes) (path : List Step) (d k : ℕ) → goes b (take d path) (Stay d k) ≡ todo b (take d path) k
stayed b path d k = ap (λ z. todo b z k) (take_front d d path (omega arith))

pub entered : (b : Codes) (v : Vec Step Global) (n d k p : ℕ) (go : Go) → go ≡ Enter d k p → IsRoom n (length v.items) go →
    todo b (take (d + 1) (with_item v d (record { at = k; part = p })).items) 0 ≡ goes b (take n v.items) go
entered b v n d k p go is room =
    let h : IsIn n (length v.items) d = rw is at room in
    let s : Step = record { at = k; part = p } in
    let e : take (d + 1) (with_item v d s).items ≡ take d v.items ++ s ∷ [] = ap (λ z. take z (with_item v d s).items) (add-one d) ∙ take-suc-set v.items d s h.below in
    let f : take d (take n v.items) ≡ take d v.items = take_front d n v.items h.inside in
    rw is (rw (e, f) refl)
