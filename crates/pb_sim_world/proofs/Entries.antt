-- A collective is entered.
use Rattle.std.proofs.Common.{◌≡◌, ◌≤◌, ℕ, zero, suc, true, ◌&&◌, nat_eq, Option, Some, None, List, [], ◌∷◌, ◌++◌, length, refl, ap, sym, ◌∙◌, arith}
use Rattle.std.specs.List.{slice_get}
use Rattle.std.proofs.lemmas.Bool.{eq-eqb, and_parts}
use Rattle.std.proofs.lemmas.Bool.Decides.{nat_tests}
use Rattle.pb_world.specs.Actions.{Operation, Max, Min, Sum, Kind, Chooses, Runs, Sends, Receives, Enters, Leaves, Collective, Barrier, Broadcast, Reduce, Allreduce}
use Rattle.pb_world.specs.Machine as N
use Rattle.pb_syntax.specs.declared.tree.Op.{Op}
use Rattle.pb_text.specs.declared.action.Joint.{Joint}
use Rattle.pb_text.specs.declared.action.Joint.TheVariants as J
use Rattle.pb_local.specs.Collectives.{operation_of}
use Rattle.pb_sim_collectives.specs.Calls.{collective_of, call_of, kind_in, label_in, operation_in, operation_number, root_in, is_same}
use Rattle.pb_sim_collectives.specs.Joined.{paired}
use Rattle.pb_machine.specs.declared.act.Act.{Act}
use Rattle.pb_machine.specs.declared.act.Act.TheVariants as A
use Rattle.pb_machine.specs.declared.act.Next.TheVariants as X
use Rattle.pb_machine.specs.Acts.{act_of, entry_of, op_of}
use Rattle.pb_machine.specs.Steps.{next_of}
use Rattle.pb_sim_world.proofs.Alone.{acts_next}

-- ---- the collective that an entry names

pub operation_back : (o : Operation) → operation_of (op_of o) ≡ o
operation_back Max = refl
operation_back Min = refl
operation_back Sum = refl

entry_back : (j : Collective) (what : Joint) (root : Option ℕ) (op : Option Op) → entry_of j ≡ A.Enter what root op → collective_of (call_of what root op) ≡ j
entry_back Barrier what root op e = ap (λ (w : Joint). collective_of (call_of w root op)) (same J.Barrier what None root None op e) where
  same : (w v : Joint) (r q : Option ℕ) (o p : Option Op) → ◌≡◌ {A = Act} (A.Enter w r o) (A.Enter v q p) → v ≡ w
  same w v r q o p e = cc
entry_back (Broadcast label at) what root op e = sym (whole (J.Labelled label) what (Some at) root None op e) where
  whole : (w v : Joint) (r q : Option ℕ) (o p : Option Op) → ◌≡◌ {A = Act} (A.Enter w r o) (A.Enter v q p) → collective_of (call_of w r o) ≡ collective_of (call_of v q p)
  whole w v r q o p e = cc
entry_back (Reduce label operation at) what root op e = sym (whole (J.Labelled label) what (Some at) root (Some (op_of operation)) op e) ∙ ap (λ o. Reduce label o at) (operation_back operation) where
  whole : (w v : Joint) (r q : Option ℕ) (o p : Option Op) → ◌≡◌ {A = Act} (A.Enter w r o) (A.Enter v q p) → collective_of (call_of w r o) ≡ collective_of (call_of v q p)
  whole w v r q o p e = cc
entry_back (Allreduce label operation) what root op e = sym (whole (J.Labelled label) what None root (Some (op_of operation)) op e) ∙ ap (λ o. Allreduce label o) (operation_back operation) where
  whole : (w v : Joint) (r q : Option ℕ) (o p : Option Op) → ◌≡◌ {A = Act} (A.Enter w r o) (A.Enter v q p) → collective_of (call_of w r o) ≡ collective_of (call_of v q p)
  whole w v r q o p e = cc

enter_kind : (kind : Kind) (what : Joint) (root : Option ℕ) (op : Option Op) → act_of kind ≡ A.Enter what root op → kind ≡ Enters (collective_of (call_of what root op))
enter_kind (Chooses kernel branches) what root op e = cc
enter_kind (Runs kernel) what root op e = cc
enter_kind (Sends k l) what root op e = cc
enter_kind (Receives k l) what root op e = cc
enter_kind (Enters j) what root op e = ap Enters (sym (entry_back j what root op e))
enter_kind (Leaves joint) what root op e = cc

pub enter_next : (x : N.Next) (what : Joint) (root : Option ℕ) (op : Option Op) → next_of x ≡ X.Acts (A.Enter what root op) → x ≡ N.Does (Enters (collective_of (call_of what root op)))
enter_next x what root op e = let p = acts_next x (A.Enter what root op) e in p.1 ∙ ap N.Does (enter_kind p.0 what root op p.2)

-- ---- the same collective

equal_of : (a b : ℕ) → nat_eq a b ≡ true → a ≡ b
equal_of a b e = grind (arith, nat_tests)

same_operation : (a b : Operation) → operation_number a ≡ operation_number b → a ≡ b
same_operation Max Max e = refl
same_operation Min Min e = refl
same_operation Sum Sum e = refl
same_operation Max Min e = absurd (omega (arith, e))
same_operation Max Sum e = absurd (omega (arith, e))
same_operation Min Max e = absurd (omega (arith, e))
same_operation Min Sum e = absurd (omega (arith, e))
same_operation Sum Max e = absurd (omega (arith, e))
same_operation Sum Min e = absurd (omega (arith, e))

same_parts : (a b : Collective) → kind_in a ≡ kind_in b → label_in a ≡ label_in b → operation_in a ≡ operation_in b → root_in a ≡ root_in b → a ≡ b
same_parts Barrier Barrier k l o r = refl
same_parts Barrier (Broadcast y z) k l o r = absurd (omega (arith, k))
same_parts Barrier (Reduce y w z) k l o r = absurd (omega (arith, k))
same_parts Barrier (Allreduce y w) k l o r = absurd (omega (arith, k))
same_parts (Broadcast a b) Barrier k l o r = absurd (omega (arith, k))
same_parts (Broadcast a b) (Broadcast y z) k l o r = cc
same_parts (Broadcast a b) (Reduce y w z) k l o r = absurd (omega (arith, k))
same_parts (Broadcast a b) (Allreduce y w) k l o r = absurd (omega (arith, k))
same_parts (Reduce a c b) Barrier k l o r = absurd (omega (arith, k))
same_parts (Reduce a c b) (Broadcast y z) k l o r = absurd (omega (arith, k))
same_parts (Reduce a c b) (Reduce y w z) k l o r = let p : c ≡ w = same_operation c w o in cc
same_parts (Reduce a c b) (Allreduce y w) k l o r = absurd (omega (arith, k))
same_parts (Allreduce a c) Barrier k l o r = absurd (omega (arith, k))
same_parts (Allreduce a c) (Broadcast y z) k l o r = absurd (omega (arith, k))
same_parts (Allreduce a c) (Reduce y w z) k l o r = absurd (omega (arith, k))
same_parts (Allreduce a c) (Allreduce y w) k l o r = let p : c ≡ w = same_operation c w o in cc

pub same_of : (a b : Collective) → is_same a b ≡ true → a ≡ b
same_of a b e =
    let p = and_parts ((nat_eq (kind_in a) (kind_in b) && nat_eq (label_in a) (label_in b)) && nat_eq (operation_in a) (operation_in b)) (nat_eq (root_in a) (root_in b)) e in
    let q = and_parts (nat_eq (kind_in a) (kind_in b) && nat_eq (label_in a) (label_in b)) (nat_eq (operation_in a) (operation_in b)) p.0 in
    let k = and_parts (nat_eq (kind_in a) (kind_in b)) (nat_eq (label_in a) (label_in b)) q.0 in
    same_parts a b (equal_of _ _ k.0) (equal_of _ _ k.1) (equal_of _ _ q.1) (equal_of _ _ p.1)

pub same_it : (a : Collective) → is_same a a ≡ true
same_it a =
    let k : nat_eq (kind_in a) (kind_in a) ≡ true = eq-eqb _ _ refl in
    let l : nat_eq (label_in a) (label_in a) ≡ true = eq-eqb _ _ refl in
    let o : nat_eq (operation_in a) (operation_in a) ≡ true = eq-eqb _ _ refl in
    let r : nat_eq (root_in a) (root_in a) ≡ true = eq-eqb _ _ refl in
    rw (k, l, o, r) refl

-- ---- entries

pub paired_get : (js : List Collective) (ws : List (List ℕ)) (k : ℕ) (entry : Collective × List ℕ) → slice_get (paired js ws) k ≡ Some entry → (slice_get js k ≡ Some entry.0) × (slice_get ws k ≡ Some entry.1)
paired_get [] ws k entry e = absurd (clash e) where
  clash : ◌≡◌ {A = Option (Collective × List ℕ)} None (Some entry) → ⊥
  clash z = cc
paired_get (j ∷ js) [] k entry e = absurd (clash e) where
  clash : ◌≡◌ {A = Option (Collective × List ℕ)} None (Some entry) → ⊥
  clash z = cc
paired_get (j ∷ js) (w ∷ ws) zero entry e = (ap (λ x. Some x.0) (same e), ap (λ x. Some x.1) (same e)) where
  same : ◌≡◌ {A = Option (Collective × List ℕ)} (Some (j, w)) (Some entry) → (j, w) ≡ entry
  same z = cc
paired_get (j ∷ js) (w ∷ ws) (suc k) entry e = paired_get js ws k entry e

pub paired_there : (js : List Collective) (ws : List (List ℕ)) (k : ℕ) (j : Collective) (w : List ℕ) → slice_get js k ≡ Some j → slice_get ws k ≡ Some w → slice_get (paired js ws) k ≡ Some (j, w)
paired_there [] ws k j w e f = absurd (clash e) where
  clash : ◌≡◌ {A = Option Collective} None (Some j) → ⊥
  clash z = cc
paired_there (i ∷ js) [] k j w e f = absurd (clash f) where
  clash : ◌≡◌ {A = Option (List ℕ)} None (Some w) → ⊥
  clash z = cc
paired_there (i ∷ js) (v ∷ ws) zero j w e f = same e f where
  same : ◌≡◌ {A = Option Collective} (Some i) (Some j) → ◌≡◌ {A = Option (List ℕ)} (Some v) (Some w) → ◌≡◌ {A = Option (Collective × List ℕ)} (Some (i, v)) (Some (j, w))
  same y z = cc
paired_there (i ∷ js) (v ∷ ws) (suc k) j w e f = paired_there js ws k j w e f

pub paired_long : (js : List Collective) (ws : List (List ℕ)) → length ws ≤ length js → length (paired js ws) ≡ length ws
paired_long [] [] h = refl
paired_long [] (w ∷ ws) h = absurd (omega (arith, h))
paired_long (j ∷ js) [] h = refl
paired_long (j ∷ js) (w ∷ ws) h = ap suc (paired_long js ws (omega (arith, h)))

-- collectives behind those that a rank has entered don't count
pub paired_more : (js : List Collective) (ws : List (List ℕ)) (j : Collective) → length ws ≤ length js → paired (js ++ j ∷ []) ws ≡ paired js ws
paired_more [] [] j h = refl
paired_more [] (w ∷ ws) j h = absurd (omega (arith, h))
paired_more (i ∷ js) [] j h = refl
paired_more (i ∷ js) (w ∷ ws) j h = ap (λ xs. (i, w) ∷ xs) (paired_more js ws j (omega (arith, h)))

-- one entry more, where the next collective is this one
pub paired_next : (js : List Collective) (ws : List (List ℕ)) (j : Collective) (w : List ℕ) → slice_get js (length ws) ≡ Some j → paired js (ws ++ w ∷ []) ≡ paired js ws ++ (j, w) ∷ []
paired_next [] ws j w e = absurd (clash e) where
  clash : ◌≡◌ {A = Option Collective} None (Some j) → ⊥
  clash z = cc
paired_next (i ∷ js) [] j w e = one i j e where
  one : (i j : Collective) → ◌≡◌ {A = Option Collective} (Some i) (Some j) → ◌≡◌ {A = List (Collective × List ℕ)} ((i, w) ∷ paired js []) ((j, w) ∷ [])
  one i j z = let h : i ≡ j = cc in ap (λ x. (x, w) ∷ paired js []) h ∙ ap (λ xs. (j, w) ∷ xs) (nothing js) where
    nothing : (js : List Collective) → paired js [] ≡ []
    nothing [] = refl
    nothing (i ∷ js) = refl
paired_next (i ∷ js) (v ∷ ws) j w e = ap (λ xs. (i, v) ∷ xs) (paired_next js ws j w e)
