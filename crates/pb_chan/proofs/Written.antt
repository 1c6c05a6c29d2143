-- One list is written, and the others stay.
use Rattle.std.proofs.Common.{◌≡◌, ℕ, Bool, true, false, ◌&&◌, nat_eq, cond, if◌then◌else◌, Some, List, [], ◌∷◌, ◌++◌, OnErr, Result, Ok, Err, remove, refl, sym, ap, ap₂, ◌∙◌}
use Rattle.std.proofs.lemmas.Bool.{eqb-true, and_parts}
use Rattle.std.specs.HashMap.{get, HashMap}
use Rattle.std.specs.declared.alloc.Global.{Global}
use Rattle.std.specs.declared.collections.VecDeque.{VecDeque}
use Rattle.pb_chan.specs.declared.message.Message.{Message}
use Rattle.pb_chan.specs.Lists.{messages}
use Rattle.pb_chan.specs.Shown.{shown, items_of, list_at}
use Rattle.pb_chan.proofs.Seen.{seen}

pub on_err : {T E : Type 0} {P : Type 0} (r : Result T E) → P → OnErr r P
on_err (Ok x) h = tt
on_err (Err e) h = h

module _ {S : Type 0} (m n : HashMap (ℕ × ℕ) (VecDeque Message Global) S) (from to : ℕ) where
  -- n is m with this queue from the one rank to the other
  abbrev pub Updated : VecDeque Message Global → Type 0
  Updated queue = (k : ℕ × ℕ) → get (λ x y. nat_eq x.0 y.0 && nat_eq x.1 y.1) n k ≡ cond (nat_eq from k.0 && nat_eq to k.1) (Some queue) (get (λ x y. nat_eq x.0 y.0 && nat_eq x.1 y.1) m k)

  here : (p q : ℕ) → nat_eq from p && nat_eq to q ≡ true → list_at m from to ≡ list_at m p q
  here p q h = ap₂ (λ a b. list_at m a b) (eqb-true from p (and_parts (nat_eq from p) (nat_eq to q) h).0) (eqb-true to q (and_parts (nat_eq from p) (nat_eq to q) h).1)

  at-pushed : (new : VecDeque Message Global) (x : Message) → Updated new → new.items ≡ list_at m from to ++ x ∷ [] →
      (p q : ℕ) → list_at n p q ≡ (if nat_eq from p && nat_eq to q then list_at m p q ++ x ∷ [] else list_at m p q)
  at-pushed new x is items p q = ap items_of (is (p, q)) ∙ go (nat_eq from p && nat_eq to q) refl
    where
      go : (b : Bool) → nat_eq from p && nat_eq to q ≡ b → items_of (cond b (Some new) (get (λ x y. nat_eq x.0 y.0 && nat_eq x.1 y.1) m (p, q))) ≡ (if b then list_at m p q ++ x ∷ [] else list_at m p q)
      go true e = items ∙ ap (λ l. l ++ x ∷ []) (here p q e)
      go false e = refl

  at-kept : (new : VecDeque Message Global) → Updated new → new.items ≡ list_at m from to → (p q : ℕ) → list_at n p q ≡ list_at m p q
  at-kept new is items p q = ap items_of (is (p, q)) ∙ go (nat_eq from p && nat_eq to q) refl
    where
      go : (b : Bool) → nat_eq from p && nat_eq to q ≡ b → items_of (cond b (Some new) (get (λ x y. nat_eq x.0 y.0 && nat_eq x.1 y.1) m (p, q))) ≡ list_at m p q
      go true e = items ∙ here p q e
      go false e = refl

  at-removed : (new : VecDeque Message Global) (at : ℕ) → Updated new → new.items ≡ remove (list_at m from to) at →
      (p q : ℕ) → list_at n p q ≡ (if nat_eq from p && nat_eq to q then remove (list_at m p q) at else list_at m p q)
  at-removed new at is items p q = ap items_of (is (p, q)) ∙ go (nat_eq from p && nat_eq to q) refl
    where
      go : (b : Bool) → nat_eq from p && nat_eq to q ≡ b → items_of (cond b (Some new) (get (λ x y. nat_eq x.0 y.0 && nat_eq x.1 y.1) m (p, q))) ≡ (if b then remove (list_at m p q) at else list_at m p q)
      go true e = items ∙ ap (λ l. remove l at) (here p q e)
      go false e = refl

  pub pushed : (new : VecDeque Message Global) (x : Message) → Updated new → new.items ≡ list_at m from to ++ x ∷ [] →
      (p q : ℕ) → messages (shown n) p q ≡ (if nat_eq from p && nat_eq to q then messages (shown m) p q ++ x ∷ [] else messages (shown m) p q)
  pushed new x is items p q = seen n p q ∙ at-pushed new x is items p q ∙ ap (λ (z : List Message). (if nat_eq from p && nat_eq to q then z ++ x ∷ [] else z)) (sym (seen m p q))

  pub kept : (new : VecDeque Message Global) → Updated new → new.items ≡ list_at m from to →
      (p q : ℕ) → messages (shown n) p q ≡ messages (shown m) p q
  kept new is items p q = seen n p q ∙ at-kept new is items p q ∙ ap (λ (z : List Message). z) (sym (seen m p q))

  pub removed : (new : VecDeque Message Global) (at : ℕ) → Updated new → new.items ≡ remove (list_at m from to) at →
      (p q : ℕ) → messages (shown n) p q ≡ (if nat_eq from p && nat_eq to q then remove (messages (shown m) p q) at else messages (shown m) p q)
  removed new at is items p q = seen n p q ∙ at-removed new at is items p q ∙ ap (λ (z : List Message). (if nat_eq from p && nat_eq to q then remove (z) at else z)) (sym (seen m p q))
