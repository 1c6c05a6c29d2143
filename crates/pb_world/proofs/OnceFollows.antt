-- What a machine follows, it follows without going back twice, where an invariant keeps it from that.
use Rattle.std.proofs.Common.{◌≡◌, ℕ, Bool, cond, false, ◌||◌, ◌&&◌, List, Some, sym, ap, ◌∙◌, subst}
use Rattle.pb_world.specs.Actions.{Action, kind_of}
use Rattle.pb_world.specs.Machine.{Silent, Does, Lost, Machine, IsStanding, Follows, stands, ended, silent, act, probe}
use Rattle.pb_world.specs.Once.{once_read, once}

module _ {S : Type 0} (goes_back : S → Bool) (M : Machine S) (allowed : Action → Bool) (Inv : S → Bool → Type 0) where
  -- the invariant is kept, and where it holds the machine doesn't go back a second time
  pub record KeepsOnce : Type 0 where
    pub never_twice : (x : S) (b : Bool) → Inv x b → (goes_back x && b) ≡ false
    pub quiet : (x : S) (b : Bool) → Inv x b → M.next x ≡ Silent → Inv (M.quiet x) (goes_back x || b)
    pub act : (x : S) (b : Bool) (a : Action) → Inv x b → M.next x ≡ Does (kind_of a) → Inv (M.act x a) false
    pub read : (x y : S) (b : Bool) (l : ℕ) → Inv x b → M.read x l ≡ Some y → Inv y b

  module _ (keeps : KeepsOnce) where
    next_same : (x : S) (b : Bool) → Inv x b → (once goes_back M).next (record { state = x; went_back = b }) ≡ M.next x
    next_same x b i = ap (λ u. cond u Lost (M.next x)) (keeps.never_twice x b i)

    pub follows_once : {x : S} {s : List Action} {ends : Bool} (b : Bool) → Inv x b → Follows M allowed x s ends → Follows (once goes_back M) allowed (record { state = x; went_back = b }) s ends
    follows_once {x = x} b i (stands h) = stands (subst IsStanding (sym (next_same x b i)) h)
    follows_once {x = x} b i (ended h) = ended (next_same x b i ∙ h)
    follows_once {x = x} b i (silent h f) = silent (next_same x b i ∙ h) (follows_once (goes_back x || b) (keeps.quiet x b i h) f)
    follows_once {x = x} b i (act {a = a} h al f) = act (next_same x b i ∙ h) al (follows_once false (keeps.act x b a i h) f)
    follows_once {x = x} b i (probe {y = y} {label = l} h rd f) = probe (next_same x b i ∙ h) (ap (once_read b) rd) (follows_once b (keeps.read x y b l i rd) f)
