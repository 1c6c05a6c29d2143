-- What holds of the actions of whole steps.
use Rattle.std.proofs.Common.{◌≡◌, ◌≢◌, ℕ, zero, suc, ◌+◌, ◌-◌, ◌<◌, ◌≤◌, ◌==◌, cond, Bool, true, false, List, [], ◌∷◌, ◌++◌, map, filter_map, Option, Some, None, refl, sym, ap, ap₂, ◌∙◌, subst, inl, inr, zero-add, suc-add, arith}
use Rattle.std.proofs.Math.Decide.{dec_lt}
use Rattle.std.proofs.lemmas.Bool.{eq-eqb}
use Rattle.std.proofs.lemmas.List.{map-append}
use Rattle.std.proofs.lemmas.List.Elements.{filter_map-append}
use Rattle.pb_world.specs.Actions.{Action, Send, Recv, Enter, Leave, Collective, of_rank, sent_to, received_from, entered_in, left_in, AnswerTable, IsPrefixOf}
use Rattle.pb_world.specs.Family.{Family, IsSequential, IsInternal, choosing, running, each, Statement, nothing, internal, message, joint}
use Rattle.pb_world.proofs.Lists.{eqb_cases, not_eqb, of_append, prefix_refl, prefix_trans}

-- one action of each rank below n
each_past : (n : ℕ) (f : ℕ → Action) (r : ℕ) → n ≤ r → of_rank r (each n f) ≡ []
each_past zero f r h = refl
each_past (suc n) f r h =
    let ne : n ≢ r = omega arith in
    of_append r (each n f) ((n, f n) ∷ [])
    ∙ ap₂ (λ l b. l ++ filter_map (λ (x : ℕ × Action). cond b (Some x.1) None) ((n, f n) ∷ [])) (each_past n f r (omega arith)) (not_eqb n r ne)

each_of : (n : ℕ) (f : ℕ → Action) (r : ℕ) → r < n → of_rank r (each n f) ≡ f r ∷ []
each_of zero f r h = absurd (omega arith)
each_of (suc n) f r h =
    of_append r (each n f) ((n, f n) ∷ []) ∙
    (elim (eqb_cases n r) [
      | inl y ↦ ap₂ (λ l b. l ++ filter_map (λ (x : ℕ × Action). cond b (Some x.1) None) ((n, f n) ∷ [])) (each_past n f r (omega (arith, y.0))) y.1 ∙ ap (λ k. f k ∷ []) y.0
      | inr y ↦ ap₂ (λ l b. l ++ filter_map (λ (x : ℕ × Action). cond b (Some x.1) None) ((n, f n) ∷ [])) (each_of n f r (let ne = y.0 in omega arith)) y.1
    ])

-- an action that is internal, by rank
pub internal_self : (r : ℕ) (a : Action) → of_rank r ((r, a) ∷ []) ≡ a ∷ []
internal_self r a = ap (λ b. filter_map (λ (x : ℕ × Action). cond b (Some x.1) None) ((r, a) ∷ [])) (eq-eqb r r refl)

pub internal_other : (r q : ℕ) (a : Action) → r ≢ q → of_rank q ((r, a) ∷ []) ≡ []
internal_other r q a ne = ap (λ b. filter_map (λ (x : ℕ × Action). cond b (Some x.1) None) ((r, a) ∷ [])) (not_eqb r q ne)

-- where the action internal shows nothing, no rank does
internal_none : {B : Type 0} (f : Action → Option B) (r q : ℕ) (a : Action) → filter_map f (a ∷ []) ≡ [] → filter_map f (of_rank q ((r, a) ∷ [])) ≡ []
internal_none f r q a h =
    elim (eqb_cases r q) [
      | inl y ↦ subst (λ n. filter_map f (of_rank n ((r, a) ∷ [])) ≡ []) y.0 (ap (filter_map f) (internal_self r a) ∙ h)
      | inr y ↦ ap (filter_map f) (internal_other r q a y.0)
    ]

pub internal_sends : (a : Action) → IsInternal a → (q : ℕ) → filter_map (sent_to q) (a ∷ []) ≡ []
internal_sends a choosing q = refl
internal_sends a running q = refl

pub internal_receives : (a : Action) → IsInternal a → (q : ℕ) → filter_map (received_from q) (a ∷ []) ≡ []
internal_receives a choosing q = refl
internal_receives a running q = refl

internal_enters : (a : Action) → IsInternal a → filter_map entered_in (a ∷ []) ≡ []
internal_enters a choosing = refl
internal_enters a running = refl

internal_leaves : (a : Action) → IsInternal a → filter_map left_in (a ∷ []) ≡ []
internal_leaves a choosing = refl
internal_leaves a running = refl

-- what a rank does in a message
pub message_sender : (p q l : ℕ) (ws : List ℕ) → p ≢ q → of_rank p ((p, Send q l ws) ∷ (q, Recv p l ws) ∷ []) ≡ Send q l ws ∷ []
message_sender p q l ws ne = let ne' : q ≢ p = λ e. ne (sym e) in of_append p ((p, Send q l ws) ∷ []) ((q, Recv p l ws) ∷ []) ∙ ap₂ (λ x y. x ++ y) (internal_self p (Send q l ws)) (internal_other q p (Recv p l ws) ne')

pub message_receiver : (p q l : ℕ) (ws : List ℕ) → p ≢ q → of_rank q ((p, Send q l ws) ∷ (q, Recv p l ws) ∷ []) ≡ Recv p l ws ∷ []
message_receiver p q l ws ne = of_append q ((p, Send q l ws) ∷ []) ((q, Recv p l ws) ∷ []) ∙ ap₂ (λ x y. x ++ y) (internal_other p q (Send q l ws) ne) (internal_self q (Recv p l ws))

pub message_other : (p q l : ℕ) (ws : List ℕ) (r : ℕ) → p ≢ r → q ≢ r → of_rank r ((p, Send q l ws) ∷ (q, Recv p l ws) ∷ []) ≡ []
message_other p q l ws r np nq = of_append r ((p, Send q l ws) ∷ []) ((q, Recv p l ws) ∷ []) ∙ ap₂ (λ x y. x ++ y) (internal_other p r (Send q l ws) np) (internal_other q r (Recv p l ws) nq)

-- x, where both tests are true
abbrev pub one_if : {B : Type 0} → Bool → B → List B
one_if b x = filter_map (λ y. cond b (Some y) None) (x ∷ [])

-- what a receive from a rank shows, and a send to one
pub received_head : (p l : ℕ) (ws : List ℕ) (s : List Action) → filter_map (received_from p) (Recv p l ws ∷ s) ≡ (l, ws) ∷ filter_map (received_from p) s
received_head p l ws s = filter_map-append (received_from p) (Recv p l ws ∷ []) s ∙ ap (λ b. one_if b (l, ws) ++ filter_map (received_from p) s) (eq-eqb p p refl)

pub sent_head : (q l : ℕ) (ws : List ℕ) (s : List Action) → filter_map (sent_to q) (Send q l ws ∷ s) ≡ (l, ws) ∷ filter_map (sent_to q) s
sent_head q l ws s = filter_map-append (sent_to q) (Send q l ws ∷ []) s ∙ ap (λ b. one_if b (l, ws) ++ filter_map (sent_to q) s) (eq-eqb q q refl)

pub received_none : (p from l : ℕ) (ws : List ℕ) → from ≢ p → filter_map (received_from p) (Recv from l ws ∷ []) ≡ []
received_none p from l ws ne = ap (λ b. one_if b (l, ws)) (not_eqb from p ne)

pub sent_none : (q to l : ℕ) (ws : List ℕ) → to ≢ q → filter_map (sent_to q) (Send to l ws ∷ []) ≡ []
sent_none q to l ws ne = ap (λ b. one_if b (l, ws)) (not_eqb to q ne)

abbrev both : {B : Type 0} → Bool → Bool → B → List B
both b c x = cond b (one_if c x) []

both_comm : {B : Type 0} (b c : Bool) (x : B) → both b c x ≡ both c b x
both_comm true true x = refl
both_comm true false x = refl
both_comm false true x = refl
both_comm false false x = refl

message_received : (p' q' l : ℕ) (ws : List ℕ) → p' ≢ q' → (p q : ℕ) → filter_map (received_from p) (of_rank q ((p', Send q' l ws) ∷ (q', Recv p' l ws) ∷ [])) ≡ both (q' == q) (p' == p) (l, ws)
message_received p' q' l ws ne p q =
    let st : List (ℕ × Action) = (p', Send q' l ws) ∷ (q', Recv p' l ws) ∷ [] in
    elim (eqb_cases q' q) [
      | inl y ↦
          subst (λ n. filter_map (received_from p) (of_rank n st) ≡ one_if (p' == p) (l, ws)) y.0 (ap (filter_map (received_from p)) (message_receiver p' q' l ws ne))
          ∙ ap (λ b. both b (p' == p) (l, ws)) (sym y.1)
      | inr y ↦
          (elim (eqb_cases p' q) [
            | inl z ↦ subst (λ n. filter_map (received_from p) (of_rank n st) ≡ []) z.0 (ap (filter_map (received_from p)) (message_sender p' q' l ws ne))
            | inr z ↦ ap (filter_map (received_from p)) (message_other p' q' l ws q z.0 y.0)
          ]) ∙ ap (λ b. both b (p' == p) (l, ws)) (sym y.1)
    ]

message_sent : (p' q' l : ℕ) (ws : List ℕ) → p' ≢ q' → (p q : ℕ) → filter_map (sent_to q) (of_rank p ((p', Send q' l ws) ∷ (q', Recv p' l ws) ∷ [])) ≡ both (p' == p) (q' == q) (l, ws)
message_sent p' q' l ws ne p q =
    let st : List (ℕ × Action) = (p', Send q' l ws) ∷ (q', Recv p' l ws) ∷ [] in
    elim (eqb_cases p' p) [
      | inl y ↦
          subst (λ n. filter_map (sent_to q) (of_rank n st) ≡ one_if (q' == q) (l, ws)) y.0 (ap (filter_map (sent_to q)) (message_sender p' q' l ws ne))
          ∙ ap (λ b. both b (q' == q) (l, ws)) (sym y.1)
      | inr y ↦
          (elim (eqb_cases q' p) [
            | inl z ↦ subst (λ n. filter_map (sent_to q) (of_rank n st) ≡ []) z.0 (ap (filter_map (sent_to q)) (message_receiver p' q' l ws ne))
            | inr z ↦ ap (filter_map (sent_to q)) (message_other p' q' l ws p y.0 z.0)
          ]) ∙ ap (λ b. both b (q' == q) (l, ws)) (sym y.1)
    ]

message_none : {B : Type 0} (f : Action → Option B) (p q l : ℕ) (ws : List ℕ) → p ≢ q → filter_map f (Send q l ws ∷ []) ≡ [] → filter_map f (Recv p l ws ∷ []) ≡ [] → (r : ℕ) → filter_map f (of_rank r ((p, Send q l ws) ∷ (q, Recv p l ws) ∷ [])) ≡ []
message_none f p q l ws ne hs hr r =
    let st : List (ℕ × Action) = (p, Send q l ws) ∷ (q, Recv p l ws) ∷ [] in
    elim (eqb_cases p r) [
      | inl y ↦ subst (λ n. filter_map f (of_rank n st) ≡ []) y.0 (ap (filter_map f) (message_sender p q l ws ne) ∙ hs)
      | inr y ↦ elim (eqb_cases q r) [
        | inl z ↦ subst (λ n. filter_map f (of_rank n st) ≡ []) z.0 (ap (filter_map f) (message_receiver p q l ws ne) ∙ hr)
        | inr z ↦ ap (filter_map f) (message_other p q l ws r y.0 z.0)
      ]
    ]

-- a collective of all ranks, and the words that each enters with
abbrev pub Round : Type 0
Round = Collective × (ℕ → List ℕ)

abbrev pub entry_of : ℕ → Round → Collective × List ℕ
entry_of r x = (x.0, x.1 r)

module _ {S : Type 0} (F : Family S) where
  -- what a rank does in a collective
  pub joint_of : (j : Collective) (f : ℕ → List ℕ) (r : ℕ) → r < F.total → of_rank r (each F.total (λ p. Enter j (f p)) ++ each F.total (λ p. Leave j (F.outcome j p f))) ≡ Enter j (f r) ∷ Leave j (F.outcome j r f) ∷ []
  joint_of j f r h =
      of_append r (each F.total (λ p. Enter j (f p))) (each F.total (λ p. Leave j (F.outcome j p f)))
      ∙ ap₂ (λ x y. x ++ y) (each_of F.total (λ p. Enter j (f p)) r h) (each_of F.total (λ p. Leave j (F.outcome j p f)) r h)

  joint_past : (j : Collective) (f : ℕ → List ℕ) (r : ℕ) → F.total ≤ r → of_rank r (each F.total (λ p. Enter j (f p)) ++ each F.total (λ p. Leave j (F.outcome j p f))) ≡ []
  joint_past j f r h =
      of_append r (each F.total (λ p. Enter j (f p))) (each F.total (λ p. Leave j (F.outcome j p f)))
      ∙ ap₂ (λ x y. x ++ y) (each_past F.total (λ p. Enter j (f p)) r h) (each_past F.total (λ p. Leave j (F.outcome j p f)) r h)

  joint_none : {B : Type 0} (f : Action → Option B) (j : Collective) (g : ℕ → List ℕ) (r : ℕ) → ((u v : List ℕ) → filter_map f (Enter j u ∷ Leave j v ∷ []) ≡ []) → filter_map f (of_rank r (each F.total (λ p. Enter j (g p)) ++ each F.total (λ p. Leave j (F.outcome j p g)))) ≡ []
  joint_none f j g r h =
      elim (dec_lt r F.total) [
        | yes k ↦ ap (filter_map f) (joint_of j g r k) ∙ h (g r) (F.outcome j r g)
        | no k ↦ ap (filter_map f) (joint_past j g r (let h : ¬ (r < F.total) = k in omega arith))
      ]

  -- in a statement, what a rank receives from another is what that one sends to it
  statement_matched : {st : List (ℕ × Action)} → Statement F st → (p q : ℕ) → filter_map (received_from p) (of_rank q st) ≡ filter_map (sent_to q) (of_rank p st)
  statement_matched nothing p q = refl
  statement_matched (internal {r = r} {a = a} h al) p q = internal_none (received_from p) r q a (internal_receives a al p) ∙ sym (internal_none (sent_to q) r p a (internal_sends a al q))
  statement_matched (message {p = p'} {q = q'} {label = l} {words = ws} hp hq ne) p q =
      message_received p' q' l ws ne p q ∙ both_comm (q' == q) (p' == p) (l, ws) ∙ sym (message_sent p' q' l ws ne p q)
  statement_matched (joint j f) p q = joint_none (received_from p) j f q (λ u v. refl) ∙ sym (joint_none (sent_to q) j f p (λ u v. refl))

  -- what a rank leaves a collective with
  abbrev pub exit_of : ℕ → Round → Collective × List ℕ
  exit_of r x = (x.0, F.outcome x.0 r x.1)

  -- the collectives of a rank are these rounds
  pub record Rounds (rounds : List Round) (s : List Action) (r : ℕ) : Type 0 where
    pub enters : filter_map entered_in s ≡ map (entry_of r) rounds
    pub leaves : filter_map left_in s ≡ map (exit_of r) rounds

  -- a statement is at most one round
  statement_rounds : {st : List (ℕ × Action)} → Statement F st → (rounds : List Round) × ((r : ℕ) → r < F.total → Rounds rounds (of_rank r st) r)
  statement_rounds nothing = ([], λ r h. record { enters = refl; leaves = refl })
  statement_rounds (internal {r = q} {a = a} h al) = ([], λ r k. record { enters = internal_none entered_in q r a (internal_enters a al); leaves = internal_none left_in q r a (internal_leaves a al) })
  statement_rounds (message {p = p} {q = q} {label = l} {words = ws} hp hq ne) =
      ([], λ r k. record { enters = message_none entered_in p q l ws ne refl refl r; leaves = message_none left_in p q l ws ne refl refl r })
  statement_rounds (joint j f) = ((j, f) ∷ [], λ r k. record { enters = ap (filter_map entered_in) (joint_of j f r k); leaves = ap (filter_map left_in) (joint_of j f r k) })

  module _ (laws : IsSequential F) (A : AnswerTable) where
    -- one more step, of one rank
    pub rank_next : (r m : ℕ) → of_rank r (F.run A (suc m)) ≡ of_rank r (F.run A m) ++ of_rank r (laws.steps A m).0
    rank_next r m = ap (of_rank r) (laws.steps A m).2 ∙ of_append r (F.run A m) (laws.steps A m).0

    shown_next : {B : Type 0} (f : Action → Option B) (r m : ℕ) → filter_map f (of_rank r (F.run A (suc m))) ≡ filter_map f (of_rank r (F.run A m)) ++ filter_map f (of_rank r (laws.steps A m).0)
    shown_next f r m = ap (filter_map f) (rank_next r m) ∙ filter_map-append f (of_rank r (F.run A m)) (of_rank r (laws.steps A m).0)

    -- what was received is what was sent
    pub matched : (m p q : ℕ) → filter_map (received_from p) (of_rank q (F.run A m)) ≡ filter_map (sent_to q) (of_rank p (F.run A m))
    matched zero p q = ap (λ g. filter_map (received_from p) (of_rank q g)) (laws.starts A) ∙ sym (ap (λ g. filter_map (sent_to q) (of_rank p g)) (laws.starts A))
    matched (suc m) p q =
        let st = laws.steps A m in
        shown_next (received_from p) q m ∙ ap₂ (λ x y. x ++ y) (matched m p q) (statement_matched st.1 p q) ∙ sym (shown_next (sent_to q) p m)

    -- the collectives of all ranks are the same
    pub rounds : (m : ℕ) → (rounds : List Round) × ((r : ℕ) → r < F.total → Rounds rounds (of_rank r (F.run A m)) r)
    rounds zero = ([], λ r h. record { enters = ap (λ g. filter_map entered_in (of_rank r g)) (laws.starts A); leaves = ap (λ g. filter_map left_in (of_rank r g)) (laws.starts A) })
    rounds (suc m) =
        let st = laws.steps A m in
        let old = rounds m in
        let new = statement_rounds st.1 in (
          old.0 ++ new.0,
          λ r h. record {
            enters = shown_next entered_in r m ∙ ap₂ (λ x y. x ++ y) (old.1 r h).enters (new.1 r h).enters ∙ sym (map-append (entry_of r) old.0 new.0);
            leaves = shown_next left_in r m ∙ ap₂ (λ x y. x ++ y) (old.1 r h).leaves (new.1 r h).leaves ∙ sym (map-append (exit_of r) old.0 new.0);
          },
        )

    -- more steps have no fewer actions
    pub later_steps : (m k r : ℕ) → IsPrefixOf (of_rank r (F.run A m)) (of_rank r (F.run A (k + m)))
    later_steps m zero r = subst (λ n. IsPrefixOf (of_rank r (F.run A m)) (of_rank r (F.run A n))) (sym (zero-add m)) (prefix_refl _)
    later_steps m (suc k) r =
        let st = laws.steps A (k + m) in
        subst (λ n. IsPrefixOf (of_rank r (F.run A m)) (of_rank r (F.run A n))) (sym (suc-add k m))
        (prefix_trans _ _ _ (later_steps m k r) (of_rank r st.0, sym (rank_next r (k + m))))

  -- what a run has done, a longer run begins with
  pub runs_begin : IsSequential F → (A : AnswerTable) (m n : ℕ) → m ≤ n → IsPrefixOf (F.run A m) (F.run A n)
  runs_begin sequential A m n le = let e : n - m + m ≡ n = omega arith in subst (λ k. IsPrefixOf (F.run A m) (F.run A k)) e (go (n - m))
    where
      go : (d : ℕ) → IsPrefixOf (F.run A m) (F.run A (d + m))
      go zero = subst (λ k. IsPrefixOf (F.run A m) (F.run A k)) (sym (zero-add m)) (prefix_refl _)
      go (suc d) = let st = sequential.steps A (d + m) in subst (λ k. IsPrefixOf (F.run A m) (F.run A k)) (sym (suc-add d m)) (prefix_trans _ _ _ (go d) (st.0, sym st.2))
