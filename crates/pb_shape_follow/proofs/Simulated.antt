-- Where the text is known to do next what the endpoint does next, it simulates it.
use Rattle.std.proofs.Common.{◌≡◌, ◌≤◌, ℕ, ℤ, Bool, true, false, ◌&&◌, ◌||◌, cond, List, Option, Some, None, refl, sym, ap, ◌∙◌, subst}
use Rattle.pb_world.specs.Actions.{Action, Kind}
use Rattle.pb_world.specs.Machine.{Next, Silent, Does, Probe, Ended, Lost, Machine}
use Rattle.pb_world.specs.Once.{Once, once_read, once}
use Rattle.pb_world.specs.Carry.{Quietly, Simulates}
use Rattle.pb_core_language.specs.Plain.{Protocol}
use Rattle.pb_core_endpoint.specs.Endpoint.{Part, next_code, next_at, quiet_at, branch_of, act_at, read_at}
use Rattle.pb_core_endpoint.specs.Endpoint as E
use Rattle.pb_core_endpoint.specs.Once.{is_again, is_at_again}
use Rattle.pb_local.specs.Ranks.{Seat}
use Rattle.pb_local.specs.Tree.{Program}
use Rattle.pb_local.specs.Machine.{Rank}
use Rattle.pb_local.specs.Family.{most_silent}
use Rattle.pb_shape_follow.proofs.Fronts.{down, Rel, QuietTo, DoesTo, ProbeTo, Front, over, quiets, acts, asks}

-- the endpoint's machine, which is lost where it goes back twice without an action between
abbrev pub up : Machine (Once (List Part))
up = once is_at_again E.machine

module _ (p : Protocol) (l : Program) (n : ℤ) (me : Seat) where
  -- the next step, by whether it goes back again, and by what the code says
  abbrev next_by : Bool → Next → Next
  next_by b n = cond b Lost n

  by_no : (b c : Bool) (m : Next) → b ≡ false → next_by (b && c) m ≡ m
  by_no b c m e = ap (λ u. next_by (u && c) m) e

  quiet_by : (b c : Bool) (x : Next) → x ≡ Silent → next_by (b && c) x ≡ Silent → (b && c) ≡ false
  quiet_by false c x e h = refl
  quiet_by true false x e h = refl
  quiet_by true true x e h = cc

  quiet_front : {k : ℕ} {c : Bool} {y : Rank} {K : List Part} → Front p l n me k c y K → next_by (is_at_again K && c) (next_at K) ≡ Silent → QuietTo p l n me k (is_at_again K || c) (quiet_at K) y
  quiet_front (over j z steps few next) h = cc
  quiet_front {c = c} (quiets {f = f} s go) h = go (quiet_by (is_again f.code) c (next_code f.code) s h)
  quiet_front {c = c} (acts {f = f} kind s no' r) h = (let e : Does kind ≡ Silent = sym s ∙ sym (by_no (is_again f.code) c (next_code f.code) no') ∙ h in cc)
  quiet_front {c = c} (asks {f = f} q s no' r) h = (let e : Probe q ≡ Silent = sym s ∙ sym (by_no (is_again f.code) c (next_code f.code) no') ∙ h in cc)

  lost_or : (b : Bool) (x y : Next) → next_by b x ≡ y → (y ≡ Lost → ⊥) → x ≡ y
  lost_or true x y e h = absurd (h (sym e))
  lost_or false x y e h = e

  acts_front : {k : ℕ} {c : Bool} {y : Rank} {K : List Part} (kind : Kind) → Front p l n me k c y K → next_by (is_at_again K && c) (next_at K) ≡ Does kind → DoesTo p l n me k kind K y
  acts_front kind (over j z steps few next) h = cc
  acts_front {c = c} kind (quiets {f = f} s go) h = (let e : Silent ≡ Does kind = sym s ∙ lost_or (is_again f.code && c) (next_code f.code) (Does kind) h (λ e. cc) in cc)
  acts_front {k = k} {c = c} {y = y} {K = K} kind (acts {f = f} kind' s no' r) h =
      let e : Does kind' ≡ Does kind = sym s ∙ lost_or (is_again f.code && c) (next_code f.code) (Does kind) h (λ e. cc) in
      let e' : kind' ≡ kind = cc in
      subst (λ a. DoesTo p l n me k a K y) e' r
  acts_front {c = c} kind (asks {f = f} q s no' r) h = (let e : Probe q ≡ Does kind = sym s ∙ lost_or (is_again f.code && c) (next_code f.code) (Does kind) h (λ e. cc) in cc)

  ends_front : {k : ℕ} {c : Bool} {y : Rank} {K : List Part} → Front p l n me k c y K → next_by (is_at_again K && c) (next_at K) ≡ Ended → (j : ℕ) × (z : Rank) × Quietly (down p l n me) j y z × (j ≤ k) × ((down p l n me).next z ≡ Ended)
  ends_front (over j z steps few next) h = (j, z, steps, few, next)
  ends_front {c = c} (quiets {f = f} s go) h = (let e : Silent ≡ Ended = sym s ∙ lost_or (is_again f.code && c) (next_code f.code) Ended h (λ e. cc) in cc)
  ends_front {c = c} (acts {f = f} kind s no' r) h = (let e : Does kind ≡ Ended = sym s ∙ lost_or (is_again f.code && c) (next_code f.code) Ended h (λ e. cc) in cc)
  ends_front {c = c} (asks {f = f} q s no' r) h = (let e : Probe q ≡ Ended = sym s ∙ lost_or (is_again f.code && c) (next_code f.code) Ended h (λ e. cc) in cc)

  asks_front : {k : ℕ} {c : Bool} {y : Rank} {K : List Part} (q : ℕ) → Front p l n me k c y K → next_by (is_at_again K && c) (next_at K) ≡ Probe q → ProbeTo p l n me k c q K y
  asks_front q (over j z steps few next) h = cc
  asks_front {c = c} q (quiets {f = f} s go) h = (let e : Silent ≡ Probe q = sym s ∙ lost_or (is_again f.code && c) (next_code f.code) (Probe q) h (λ e. cc) in cc)
  asks_front {c = c} q (acts {f = f} kind s no' r) h = (let e : Does kind ≡ Probe q = sym s ∙ lost_or (is_again f.code && c) (next_code f.code) (Probe q) h (λ e. cc) in cc)
  asks_front {k = k} {c = c} {y = y} {K = K} q (asks {f = f} q' s no' r) h =
      let e : Probe q' ≡ Probe q = sym s ∙ lost_or (is_again f.code && c) (next_code f.code) (Probe q) h (λ e. cc) in
      let e' : q' ≡ q = cc in
      subst (λ a. ProbeTo p l n me k c a K y) e' r

  -- a label that the upper machine reads
  record IsRead (c : Bool) (K : List Part) (label : ℕ) (x : Once (List Part)) : Type 0 where
    state : List Part
    reads : read_at K label ≡ Some state
    is : x ≡ record { state = state; went_back = c }

  read_by : (c : Bool) (K : List Part) (label : ℕ) (x : Once (List Part)) (o : Option (List Part)) → read_at K label ≡ o → once_read c o ≡ Some x → IsRead c K label x
  read_by c K label x None e h = cc
  read_by c K label x (Some K') e h = record { state = K'; reads = e; is = cc }

  pub simulated : (allowed : Action → Bool) → ((k : ℕ) (x : Once (List Part)) (y : Rank) → Rel p l n me k x y → Front p l n me k x.went_back y x.state) → Simulates up (down p l n me) allowed (most_silent l) (Rel p l n me)
  simulated allowed front = record {
    quiet = λ k x y rel h. let r = quiet_front (front k x y rel) h in (r.j, r.i, r.z, r.steps, r.few, r.rel);
    does = λ k x y kind rel h. let r = acts_front kind (front k x y rel) h in (r.j, r.z, r.steps, r.few, r.next, λ a e al. r.act a e);
    ends = λ k x y rel h. ends_front (front k x y rel) h;
    probes = λ k x y q rel h.
        let r = asks_front q (front k x y rel) h in (
          r.j,
          r.z,
          r.steps,
          r.few,
          r.next,
          λ label x' e.
              let got = read_by x.went_back x.state label x' (read_at x.state label) refl e in
              let to = r.read label got.state got.reads in
              (to.i, to.behind, to.reads, to.few, subst (λ w. Rel p l n me to.i w to.behind) (sym got.is) to.rel),
        );
  }
