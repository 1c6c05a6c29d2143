-- Loops over lists, step by step.
use Rattle.std.proofs.Common.{◌≡◌, ℕ, ◌+◌, ◌<◌, ◌≤◌, Bool, true, false, ◌||◌, List, [], ◌∷◌, ◌++◌, length, map, take, drop, get_or, Option, Some, None, Vec, refl, ap, sym, ◌∙◌, arith, add-one, drop_of_length-le}
use Rattle.std.proofs.Math.Seq.{take-suc}
use Rattle.std.proofs.lemmas.List.{drop_more}
use Rattle.std.specs.declared.alloc.Global.{Global}
use Rattle.pb_affine.specs.declared.guard.Guard.{Guard}
use Rattle.pb_local.specs.declared.stmt.Peer.{Peer}
use Rattle.pb_local.specs.declared.stmt.Test.{Test}
use Rattle.pb_local.specs.declared.stmt.Relay.{Relay}
use Rattle.pb_local.specs.declared.stmt.Stmt.{Stmt}
use Rattle.pb_local.specs.declared.stmt.Stmt.TheVariants.{Choice}
use Rattle.pb_local.specs.Tree.{Parts, parts_of, plain}
use Rattle.pb_local.proofs.Plains.{choice_plain}
use Rattle.pb_local.proofs.Steps.{one_more}
use Rattle.pb_types_fit.specs.declared.fault.FitFault.{FitFault}
use Rattle.pb_types_fit.specs.Faults.{first_wrong, ◌or_else◌}
use Rattle.pb_types_fit.specs.Orders.{orders, orders_parts}
use Rattle.pb_types_fit.specs.Taken.{stands_first, stands_in}

-- the branches of a choice
abbrev pub parts : List (Vec Stmt Global) → Parts
parts bs = parts_of (map (λ v. map plain v.items) bs)

or_none : (b : Bool) → (b || false) ≡ b
or_none true = refl
or_none false = refl

-- the whole choice was looked at
pub whole_orders : (s : Stmt) (who : Guard) (k : ℕ) (rs : Vec Relay Global) (e : Peer) (ts : Vec Test Global) (bs : Vec (Vec Stmt Global) Global) (items : List (Vec Stmt Global)) (i label : ℕ) (found : Bool) →
    s ≡ Choice who k rs e ts bs → items ≡ bs.items → (found || orders_parts label (parts (drop i items))) ≡ orders_parts label (parts items) → length items ≤ i → found ≡ orders label (plain s)
whole_orders s who k rs e ts bs items i label found is same so_far past =
    let f : orders label (plain s) ≡ orders_parts label (parts bs.items) = ap (orders label) (ap plain is ∙ choice_plain who k rs e ts bs) in
    let g : orders_parts label (parts items) ≡ orders_parts label (parts bs.items) = ap (λ z. orders_parts label (parts z)) same in
    let d : orders_parts label (parts (drop i items)) ≡ false = ap (λ z. orders_parts label (parts z)) (drop_of_length-le items past) in
    sym (or_none found) ∙ ap (λ b. found || b) (sym d) ∙ so_far ∙ g ∙ sym f

take_more : {A : Type 0} (xs : List A) (i : ℕ) (x : A) → i < length xs → x ≡ get_or xs i x → take (i + 1) xs ≡ take i xs ++ x ∷ []
take_more {A} [] i x lt e = absurd (omega arith)
take_more {A} (y ∷ xs) i x lt e = rw add-one (take-suc (y ∷ xs) i x lt) ∙ ap (λ (z : A). take i (y ∷ xs) ++ z ∷ []) (sym e)

module _ {A : Type 0} (fault_of : List A → A → Option FitFault) (xs : List A) where
  -- one item, and those behind it
  step : (i : ℕ) (x : A) → i < length xs → x ≡ get_or xs i x → first_wrong fault_of (take i xs) (drop i xs) ≡ (fault_of (take i xs) x or_else first_wrong fault_of (take (i + 1) xs) (drop (i + 1) xs))
  step i x lt is =
      ap (first_wrong fault_of (take i xs)) (one_more xs i x lt is)
      ∙ ap (λ (l : List A). fault_of (take i xs) x or_else first_wrong fault_of l (drop (i + 1) xs)) (sym (take_more xs i x lt is))

  -- the item has this fault
  pub here : (i : ℕ) (x : A) (f : FitFault) (all : Option FitFault) → i < length xs → x ≡ get_or xs i x → first_wrong fault_of (take i xs) (drop i xs) ≡ all → fault_of (take i xs) x ≡ Some f → Some f ≡ all
  here i x f all lt is so_far e = sym (step i x lt is ∙ ap (λ (o : Option FitFault). o or_else first_wrong fault_of (take (i + 1) xs) (drop (i + 1) xs)) e) ∙ so_far

  -- the item has none
  pub beyond : (i : ℕ) (x : A) (all : Option FitFault) → i < length xs → x ≡ get_or xs i x → first_wrong fault_of (take i xs) (drop i xs) ≡ all → fault_of (take i xs) x ≡ None → first_wrong fault_of (take (i + 1) xs) (drop (i + 1) xs) ≡ all
  beyond i x all lt is so_far e = sym (step i x lt is ∙ ap (λ (o : Option FitFault). o or_else first_wrong fault_of (take (i + 1) xs) (drop (i + 1) xs)) e) ∙ so_far

  -- no item is left
  pub past : (i : ℕ) (all : Option FitFault) → length xs ≤ i → first_wrong fault_of (take i xs) (drop i xs) ≡ all → None ≡ all
  past i all le so_far = sym (ap (first_wrong fault_of (take i xs)) (drop_of_length-le xs le)) ∙ so_far

-- the word doesn't stand first
pub stands_rest : (word text : List ℕ) (i : ℕ) (all : Bool) → i < length text → stands_first word (drop i text) ≡ false → stands_in word (drop i text) ≡ all → stands_in word (drop (i + 1) text) ≡ all
stands_rest word text i all lt e so_far =
    let d : drop i text ≡ get_or text i 0 ∷ drop (i + 1) text = drop_more text i 0 lt in
    let none : stands_first word (get_or text i 0 ∷ drop (i + 1) text) ≡ false = sym (ap (stands_first word) d) ∙ e in
    sym (ap (stands_in word) d ∙ ap (λ (b : Bool). b || stands_in word (drop (i + 1) text)) none) ∙ so_far
