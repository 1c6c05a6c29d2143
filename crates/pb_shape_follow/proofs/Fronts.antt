-- What a rank's text does next, beside what its endpoint does next.
use Rattle.std.proofs.Common.{◌≡◌, ◌≤◌, ◌<◌, ℕ, zero, suc, ◌+◌, ◌*◌, ℤ, Bool, false, ◌&&◌, ◌||◌, cond, List, [], ◌∷◌, Option, Some, refl, sym, ap, ◌∙◌, subst, arith}
use Rattle.pb_world.specs.Actions.{Action, Kind, Sends, Receives, Runs, Enters, Leaves, Chooses, kind_of}
use Rattle.pb_world.specs.Machine.{Silent, Does, Probe, Ended, Machine}
use Rattle.pb_world.specs.Once.{Once}
use Rattle.pb_world.specs.Carry.{Quietly, here, further}
use Rattle.pb_core_language.specs.Plain.{Protocol}
use Rattle.pb_core_endpoint.specs.Endpoint.{Code, send, receive, run, enter, leave, Part, next_code, quiet_at, branch_of, act_at, read_at}
use Rattle.pb_core_endpoint.specs.Once.{is_again}
use Rattle.pb_local.specs.Ranks.{Seat}
use Rattle.pb_local.specs.Tree.{Program}
use Rattle.pb_local.specs.Machine.{Todo, Rank, Move, silent, does, chooses, probes, ends, undefined, move_from, move, next_in, quiet_in, read_in, act_in, machine}
use Rattle.pb_local.specs.Family.{most_silent}
use Rattle.pb_local.proofs.Moves.{move_is}
use Rattle.pb_shape.specs.Loops.{Around}
use Rattle.pb_shape.specs.Straight.{IsVariable, at_todo}
use Rattle.pb_shape.specs.Ways.{Way}
use Rattle.pb_shape_follow.proofs.Stacks.{weight, all, Sim}

-- ---- straight code of an endpoint

-- actions that are no choice
abbrev pub AreStraight : List Kind → Type 0
AreStraight [] = Unit {0}
AreStraight (Sends q l ∷ kinds) = AreStraight kinds
AreStraight (Receives q l ∷ kinds) = AreStraight kinds
AreStraight (Runs k ∷ kinds) = AreStraight kinds
AreStraight (Enters j ∷ kinds) = AreStraight kinds
AreStraight (Leaves j ∷ kinds) = AreStraight kinds
AreStraight (Chooses k m ∷ kinds) = ⊥

-- these actions, and then the rest
abbrev pub laid : List Kind → Code → Code
laid [] c = c
laid (Sends q l ∷ kinds) c = send q l (laid kinds c)
laid (Receives q l ∷ kinds) c = receive q l (laid kinds c)
laid (Runs k ∷ kinds) c = run k (laid kinds c)
laid (Enters j ∷ kinds) c = enter j (laid kinds c)
laid (Leaves j ∷ kinds) c = leave j (laid kinds c)
laid (Chooses k m ∷ kinds) c = laid kinds c

-- whether a rank has gone back since its last action, behind these
abbrev pub after : Bool → List Kind → Bool
after c [] = c
after c (kind ∷ kinds) = false

module _ (p : Protocol) (l : Program) (n : ℤ) (me : Seat) where
  abbrev pub down : Machine Rank
  down = machine l n

  -- what is left of the silent steps besides those for the statements that are still to do: the size of the text thrice, and twice where the rank has gone back since its last action
  abbrev pub debt : Bool → ℕ
  debt c = cond c (2 * all p l n me) (3 * all p l n me)

  pub record Budget (c : Bool) (k : ℕ) (t : Todo) : Type 0 where
    pub small : weight t ≤ all p l n me
    pub enough : weight t + debt c ≤ k

  -- ---- the relation

  -- the text stands between two statements, or is on its way through a straight one
  pub data Near : ℕ → Once (List Part) → Rank → Type 0 where
    stands : {k : ℕ} {c : Bool} {a : Around} {K : List Part} {i : ℤ} {t : Todo} → Sim p l n me a K t → IsVariable i → Budget c k t → Near k (record { state = K; went_back = c }) (at_todo me i t)
    moves : {k left : ℕ} {c : Bool} {a : Around} {o : Option Code} {rest : Code} {kinds : List Kind} {K : List Part} {y : Rank} {i : ℤ} {t : Todo} →
        Way down (most_silent l) (at_todo me i t) left k y kinds → AreStraight kinds → Sim p l n me a (record { body = o; code = rest } ∷ K) t → IsVariable i → Budget (after c kinds) left t →
        Near k (record { state = record { body = o; code = laid kinds rest } ∷ K; went_back = c }) y

  -- the text does the same as one that does
  pub record Rel (k : ℕ) (x : Once (List Part)) (y : Rank) : Type 0 where
    pub twin : Rank
    pub same : move l n y ≡ move l n twin
    pub near : Near k x twin

  pub same_rel : (k : ℕ) (x : Once (List Part)) (y z : Rank) → move l n y ≡ move l n z → Rel k x z → Rel k x y
  same_rel k x y z e h = record { twin = h.twin; same = e ∙ h.same; near = h.near }

  -- ---- what comes next

  pub record QuietTo (k : ℕ) (c : Bool) (K : List Part) (y : Rank) : Type 0 where
    pub j : ℕ
    pub i : ℕ
    pub z : Rank
    pub steps : Quietly down j y z
    pub few : j + i ≤ k
    pub rel : Rel i (record { state = K; went_back = c }) z

  pub record DoesTo (k : ℕ) (kind : Kind) (K : List Part) (y : Rank) : Type 0 where
    pub j : ℕ
    pub z : Rank
    pub steps : Quietly down j y z
    pub few : j ≤ k
    pub next : down.next z ≡ Does kind
    pub act : (a : Action) → kind_of a ≡ kind → Rel (most_silent l) (record { state = act_at K (branch_of a); went_back = false }) (down.act z a)

  pub record ReadTo (k j : ℕ) (c : Bool) (K : List Part) (z : Rank) (label : ℕ) : Type 0 where
    pub i : ℕ
    pub behind : Rank
    pub reads : down.read z label ≡ Some behind
    pub few : j + suc i ≤ k
    pub rel : Rel i (record { state = K; went_back = c }) behind

  pub record ProbeTo (k : ℕ) (c : Bool) (q : ℕ) (K : List Part) (y : Rank) : Type 0 where
    pub j : ℕ
    pub z : Rank
    pub steps : Quietly down j y z
    pub few : j < k
    pub next : down.next z ≡ Probe q
    pub read : (label : ℕ) (K' : List Part) → read_at K label ≡ Some K' → ReadTo k j c K' z label

  pub data Front (k : ℕ) (c : Bool) (y : Rank) : List Part → Type 0 where
    over : (j : ℕ) (z : Rank) → Quietly down j y z → j ≤ k → down.next z ≡ Ended → Front k c y []
    quiets : {f : Part} {K : List Part} → next_code f.code ≡ Silent → ((is_again f.code && c) ≡ false → QuietTo k (is_again f.code || c) (quiet_at (f ∷ K)) y) → Front k c y (f ∷ K)
    acts : {f : Part} {K : List Part} (kind : Kind) → next_code f.code ≡ Does kind → is_again f.code ≡ false → DoesTo k kind (f ∷ K) y → Front k c y (f ∷ K)
    asks : {f : Part} {K : List Part} (q : ℕ) → next_code f.code ≡ Probe q → is_again f.code ≡ false → ProbeTo k c q (f ∷ K) y → Front k c y (f ∷ K)

  -- ---- a silent step before

  later_read : {k j : ℕ} {c : Bool} {K : List Part} {z : Rank} {label : ℕ} → ReadTo k j c K z label → ReadTo (suc k) (suc j) c K z label
  later_read h = record { i = h.i; behind = h.behind; reads = h.reads; few = let le = h.few in omega arith; rel = h.rel }

  pub later : {k : ℕ} {c : Bool} {y : Rank} {K : List Part} → down.next y ≡ Silent → Front k c (down.quiet y) K → Front (suc k) c y K
  later e (over j z steps few next) = over (suc j) z (further e steps) (omega arith) next
  later e (quiets s go) = quiets s (λ h. let r = go h in record { j = suc r.j; i = r.i; z = r.z; steps = further e r.steps; few = (let le = r.few in omega arith); rel = r.rel })
  later e (acts kind s no' r) = acts kind s no' (record { j = suc r.j; z = r.z; steps = further e r.steps; few = (let le = r.few in omega arith); next = r.next; act = r.act })
  later e (asks q s no' r) = asks q s no' (record { j = suc r.j; z = r.z; steps = further e r.steps; few = (let le = r.few in omega arith); next = r.next; read = λ label K' h. later_read (r.read label K' h) })

  pub step : {k : ℕ} {c : Bool} {K : List Part} (x after' : Rank) → move_from l n x x.todo ≡ silent after' → Front k c after' K → Front (suc k) c x K
  step {k = k} {c = c} {K = K} x after' e f =
      let m : move l n x ≡ silent after' = move_is l n x ∙ e in
      later (ap next_in m) (subst (λ z. Front k c z K) (sym (ap (quiet_in x) m)) f)

  -- ---- what does the same

  quiet_same : (y z : Rank) (m : Move) → next_in m ≡ Silent → quiet_in y m ≡ quiet_in z m
  quiet_same y z ends e = cc
  quiet_same y z undefined e = cc
  quiet_same y z (silent w) e = refl
  quiet_same y z (does kind w) e = cc
  quiet_same y z (chooses k b f) e = cc
  quiet_same y z (probes q f) e = cc

  act_same : (y z : Rank) (m : Move) (kind : Kind) (a : Action) → next_in m ≡ Does kind → act_in y m a ≡ act_in z m a
  act_same y z ends kind a e = cc
  act_same y z undefined kind a e = cc
  act_same y z (silent w) kind a e = cc
  act_same y z (does kind' w) kind a e = refl
  act_same y z (chooses k b f) kind a e = refl
  act_same y z (probes q f) kind a e = cc

  module _ (y z : Rank) (same : move l n y ≡ move l n z) where
    next_is : down.next y ≡ down.next z
    next_is = ap next_in same

    quiet_is : down.next z ≡ Silent → down.quiet y ≡ down.quiet z
    quiet_is e = ap (quiet_in y) same ∙ quiet_same y z (move l n z) e

    act_is : (kind : Kind) (a : Action) → down.next z ≡ Does kind → down.act y a ≡ down.act z a
    act_is kind a e = ap (λ m. act_in y m a) same ∙ act_same y z (move l n z) kind a e

    read_is : (label : ℕ) → down.read y label ≡ down.read z label
    read_is label = ap (λ m. read_in m label) same

    -- so many steps from the one are so many from the other, or none
    data Walks : ℕ → Rank → Type 0 where
      at_once : Walks zero z
      steps : {j : ℕ} {w : Rank} → Quietly down (suc j) y w → Walks (suc j) w

    walks : {j : ℕ} {w : Rank} → Quietly down j z w → Walks j w
    walks here = at_once
    walks (further {n = j} {z = w} e q) = steps (further (next_is ∙ e) (subst (λ v. Quietly down j v w) (sym (quiet_is e)) q))

    same_over : {k : ℕ} {c : Bool} {j : ℕ} {w : Rank} → Walks j w → j ≤ k → down.next w ≡ Ended → Front k c y []
    same_over at_once few next = over zero y here few (next_is ∙ next)
    same_over (steps {j = j} {w = w} q) few next = over (suc j) w q few next

    same_quiets : {k i : ℕ} {c : Bool} {K : List Part} {j : ℕ} {w : Rank} → Walks j w → j + i ≤ k → Rel i (record { state = K; went_back = c }) w → QuietTo k c K y
    same_quiets {i = i} {c = c} {K = K} at_once few rel = record { j = zero; i = i; z = y; steps = here; few = few; rel = same_rel i (record { state = K; went_back = c }) y z same rel }
    same_quiets {i = i} (steps {j = j} {w = w} q) few rel = record { j = suc j; i = i; z = w; steps = q; few = few; rel = rel }

    same_acts : {k : ℕ} {kind : Kind} {K : List Part} {j : ℕ} {w : Rank} → Walks j w → j ≤ k → down.next w ≡ Does kind →
        ((a : Action) → kind_of a ≡ kind → Rel (most_silent l) (record { state = act_at K (branch_of a); went_back = false }) (down.act w a)) → DoesTo k kind K y
    same_acts {kind = kind} {K = K} at_once few next act =
        record { j = zero; z = y; steps = here; few = few; next = next_is ∙ next; act = λ a e. subst (λ w. Rel (most_silent l) (record { state = act_at K (branch_of a); went_back = false }) w) (sym (act_is kind a next)) (act a e) }
    same_acts (steps {j = j} {w = w} q) few next act = record { j = suc j; z = w; steps = q; few = few; next = next; act = act }

    same_read : {k j : ℕ} {c : Bool} {K : List Part} {label : ℕ} → ReadTo k j c K z label → ReadTo k j c K y label
    same_read {label = label} h = record { i = h.i; behind = h.behind; reads = read_is label ∙ h.reads; few = h.few; rel = h.rel }

    same_asks : {k : ℕ} {c : Bool} {q : ℕ} {K : List Part} {j : ℕ} {w : Rank} → Walks j w → j < k → down.next w ≡ Probe q → ((label : ℕ) (K' : List Part) → read_at K label ≡ Some K' → ReadTo k j c K' w label) → ProbeTo k c q K y
    same_asks at_once few next read = record { j = zero; z = y; steps = here; few = few; next = next_is ∙ next; read = λ label K' h. same_read (read label K' h) }
    same_asks (steps {j = j} {w = w} q) few next read = record { j = suc j; z = w; steps = q; few = few; next = next; read = read }

    pub same_front : {k : ℕ} {c : Bool} {K : List Part} → Front k c z K → Front k c y K
    same_front (over j w q few next) = same_over (walks q) few next
    same_front (quiets s go) = quiets s (λ h. let r = go h in same_quiets (walks r.steps) r.few r.rel)
    same_front (acts kind s no' r) = acts kind s no' (same_acts (walks r.steps) r.few r.next r.act)
    same_front (asks q s no' r) = asks q s no' (same_asks (walks r.steps) r.few r.next r.read)
