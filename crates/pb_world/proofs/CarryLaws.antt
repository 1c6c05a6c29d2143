-- What an upper machine follows, a lower one that simulates it does too.
use Rattle.std.proofs.Common.{◌≡◌, ℕ, zero, suc, ◌+◌, ◌-◌, ◌<◌, ◌≤◌, Bool, false, List, [], ◌∷◌, refl, sym, ap, ◌∙◌, subst, arith}
use Rattle.pb_world.specs.Actions.{Action, Recv, kind_of}
use Rattle.pb_world.specs.Machine.{Next, Silent, Does, Probe, Ended, Lost, Undefined, Machine, IsStanding, Follows}
use Rattle.pb_world.specs.Machine as M
use Rattle.pb_world.specs.Counted.{is_quiet, counted, counted_start, FollowsWithin, stands, ended, silent, act, probe}
use Rattle.pb_world.specs.Family.{Family, Laws}
use Rattle.pb_world.proofs.Counted.{counts}
use Rattle.pb_world.proofs.OnMachine.{laws_on}
use Rattle.pb_world.specs.Carry.{Quietly, here, further, Simulates, lowered}

module _ {D : Type 0} (down : Machine D) (allowed : Action → Bool) (bound : ℕ) where
  -- more silent steps left
  more : (d : ℕ) {k : ℕ} {y : D} {s : List Action} {ends : Bool} → FollowsWithin bound down allowed k y s ends → FollowsWithin bound down allowed (d + k) y s ends
  more d (stands {k = k} h room) = stands h (λ q. let r = room q in omega arith)
  more d (ended h) = ended h
  more d {y = y} {s = s} {ends = ends} (silent {k = k} h f) = let e : d + suc k ≡ suc (d + k) = omega arith in subst (λ n. FollowsWithin bound down allowed n y s ends) (sym e) (silent h (more d f))
  more d (act h al f) = act h al f
  more d {y = y} {ends = ends} (probe {k = k} {p = p} {label = l} {words = ws} {s = s} h rd f) = let e : d + suc k ≡ suc (d + k) = omega arith in subst (λ n. FollowsWithin bound down allowed n y (Recv p l ws ∷ s) ends) (sym e) (probe h rd (more d f))

  enough : (i k : ℕ) {y : D} {s : List Action} {ends : Bool} → i ≤ k → FollowsWithin bound down allowed i y s ends → FollowsWithin bound down allowed k y s ends
  enough i k {y = y} {s = s} {ends = ends} le f = let e : (k - i) + i ≡ k = omega arith in subst (λ n. FollowsWithin bound down allowed n y s ends) e (more (k - i) f)

  -- silent steps before
  before : {j : ℕ} {y z : D} {s : List Action} {ends : Bool} (i : ℕ) → Quietly down j y z → FollowsWithin bound down allowed i z s ends → FollowsWithin bound down allowed (j + i) y s ends
  before {y = y} {s = s} {ends = ends} i here f = let e : 0 + i ≡ i = omega arith in subst (λ n. FollowsWithin bound down allowed n y s ends) (sym e) f
  before {y = y} {s = s} {ends = ends} i (further {n = n} h q) f = let e : suc n + i ≡ suc (n + i) = omega arith in subst (λ n. FollowsWithin bound down allowed n y s ends) (sym e) (silent h (before i q f))

  module _ {U : Type 0} (up : Machine U) (Rel : ℕ → U → D → Type 0) (sim : Simulates up down allowed bound Rel) where
    stands_below : (n : Next) (x : U) (k : ℕ) (y : D) → up.next x ≡ n → IsStanding n → Rel k x y → FollowsWithin bound down allowed k y [] false
    stands_below Silent x k y e h rel = absurd h
    stands_below Lost x k y e h rel = absurd h
    stands_below Undefined x k y e h rel = absurd h
    stands_below (Does kind) x k y e h rel =
        let d = sim.does k x y kind rel e in
        let it = d.4 in
        enough (d.0 + 0) k (let le = d.3 in omega arith) (before 0 d.2 (stands (subst IsStanding (sym it) tt) (λ q. let no' = sym (ap is_quiet it) ∙ q in cc)))
    stands_below (Probe p) x k y e h rel =
        let d = sim.probes k x y p rel e in
        let it = d.4 in
        enough (d.0 + 1) k (let le = d.3 in omega arith) (before 1 d.2 (stands (subst IsStanding (sym it) tt) (λ q. omega arith)))
    stands_below Ended x k y e h rel =
        let d = sim.ends k x y rel e in
        let it = d.4 in
        enough (d.0 + 0) k (let le = d.3 in omega arith) (before 0 d.2 (stands (subst IsStanding (sym it) tt) (λ q. let no' = sym (ap is_quiet it) ∙ q in cc)))

    pub below : {x : U} {s : List Action} {ends : Bool} (k : ℕ) (y : D) → Rel k x y → Follows up allowed x s ends → FollowsWithin bound down allowed k y s ends
    below {x = x} k y rel (M.stands h) = stands_below (up.next x) x k y refl h rel
    below {x = x} k y rel (M.ended h) =
        let d = sim.ends k x y rel h in
        enough (d.0 + 0) k (let le = d.3 in omega arith) (before 0 d.2 (ended d.4))
    below {x = x} k y rel (M.silent h f) =
        let d = sim.quiet k x y rel h in
        enough (d.0 + d.1) k d.4 (before d.1 d.3 (below d.1 d.2 d.5 f))
    below {x = x} k y rel (M.act {a = a} h al f) =
        let d = sim.does k x y (kind_of a) rel h in
        enough (d.0 + 0) k (let le = d.3 in omega arith) (before 0 d.2 (act d.4 al (below bound (down.act d.1 a) (d.5 a refl al) f)))
    below {x = x} k y rel (M.probe {y = x'} {p = p} {label = l} h rd f) =
        let d = sim.probes k x y p rel h in
        let e = d.5 l x' rd in
        enough (d.0 + suc e.0) k e.3 (before (suc e.0) d.2 (probe d.4 e.2 (below e.0 e.1 e.4 f)))

-- the laws go down
pub carried : {U D : Type 0} (F : Family U) (down : Machine D) (bound : ℕ) (start : ℕ → D) (Rel : ℕ → ℕ → U → D → Type 0) →
    ((r : ℕ) → r < F.total → Simulates F.machine down (F.allowed r) bound (Rel r)) → ((r : ℕ) → r < F.total → Rel r bound (F.start r) (start r)) → Laws F → Laws (lowered F down bound start)
carried F down bound start Rel sim first laws = laws_on F (counted bound down) (λ r. counted_start (start r)) (λ r lt s ends f. counts bound down (F.allowed r) zero (omega arith) (below down (F.allowed r) bound F.machine (Rel r) (sim r lt) bound (start r) (first r lt) f)) laws
