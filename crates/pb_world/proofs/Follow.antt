-- What a machine that follows a list does at a state.
use Rattle.std.proofs.Common.{◌≡◌, ◌≢◌, ℕ, Bool, true, List, [], ◌∷◌, Some, refl, ap, subst}
use Rattle.pb_world.specs.Actions.{Action, Recv, Kind, kind_of}
use Rattle.pb_world.specs.Machine.{Silent, Does, Probe, Lost, Undefined, Machine, IsStanding, Follows, stands, ended, silent, act, probe}

-- there is something to do: an action, or the end
abbrev pub IsReal : List Action → Bool → Type 0
IsReal [] ends = ends ≡ true
IsReal (a ∷ s) ends = Unit {0}

module _ {S : Type 0} (M : Machine S) (allowed : Action → Bool) where
  pub after_silent : {x : S} {s : List Action} {ends : Bool} → Follows M allowed x s ends → M.next x ≡ Silent → Follows M allowed (M.quiet x) s ends
  after_silent (stands h) e = absurd (subst IsStanding e h)
  after_silent (ended h) e = cc
  after_silent (silent h f) e = f
  after_silent (act h al f) e = cc
  after_silent (probe h r f) e = cc

  -- a probe is passed before a receive from its source
  pub record Probed (p : ℕ) (x : S) (s : List Action) (ends : Bool) : Type 0 where
    pub label : ℕ
    pub words : List ℕ
    pub rest : List Action
    pub is : s ≡ Recv p label words ∷ rest
    pub state : S
    pub reads : M.read x label ≡ Some state
    pub goes : Follows M allowed state s ends

  pub after_probe : {x : S} {s : List Action} {ends : Bool} (p : ℕ) → Follows M allowed x s ends → IsReal s ends → M.next x ≡ Probe p → Probed p x s ends
  after_probe p (stands h) r e = cc
  after_probe p (ended h) r e = cc
  after_probe p (silent h f) r e = cc
  after_probe p (act h al f) r e = cc
  after_probe {x = x} {ends = ends} p (probe {y = y} {p = q} {label = l} {words = ws} {s = s} h rd f) r e =
      let same : q ≡ p = cc in
      record { label = l; words = ws; rest = s; is = ap (λ n. Recv n l ws ∷ s) same; state = y; reads = rd; goes = f }

  -- an action of its kind is next
  pub record Acted (k : Kind) (x : S) (s : List Action) (ends : Bool) : Type 0 where
    pub action : Action
    pub rest : List Action
    pub is : s ≡ action ∷ rest
    pub kind : kind_of action ≡ k
    pub fine : allowed action ≡ true
    pub goes : Follows M allowed (M.act x action) rest ends

  pub after_act : {x : S} {s : List Action} {ends : Bool} (k : Kind) → Follows M allowed x s ends → IsReal s ends → M.next x ≡ Does k → Acted k x s ends
  after_act k (stands h) r e = cc
  after_act k (ended h) r e = cc
  after_act k (silent h f) r e = cc
  after_act k (act {a = a} {s = s} h al f) r e = let same : kind_of a ≡ k = cc in record { action = a; rest = s; is = refl; kind = same; fine = al; goes = f }
  after_act k (probe h rd f) r e = cc

  -- this action is next
  pub after_this : {x : S} {a : Action} {s : List Action} {ends : Bool} (k : Kind) → Follows M allowed x (a ∷ s) ends → M.next x ≡ Does k → Follows M allowed (M.act x a) s ends
  after_this k (silent h f) e = cc
  after_this k (act h al f) e = f
  after_this k (probe h rd f) e = cc

  -- the machine doesn't go wrong
  pub never_lost : {x : S} {s : List Action} {ends : Bool} → Follows M allowed x s ends → M.next x ≢ Lost
  never_lost (stands h) e = subst IsStanding e h
  never_lost (ended h) e = cc
  never_lost (silent h f) e = cc
  never_lost (act h al f) e = cc
  never_lost (probe h rd f) e = cc

  pub never_undefined : {x : S} {s : List Action} {ends : Bool} → Follows M allowed x s ends → M.next x ≢ Undefined
  never_undefined (stands h) e = subst IsStanding e h
  never_undefined (ended h) e = cc
  never_undefined (silent h f) e = cc
  never_undefined (act h al f) e = cc
  never_undefined (probe h rd f) e = cc
