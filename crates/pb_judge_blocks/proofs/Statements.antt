-- What holds of a statement of each kind.
use Rattle.std.proofs.Common.{◌≡◌, ℕ, Bool, true, List, Result, Ok, Err, IfOk, refl, sym, ap, ap₂, subst, ◌∙◌, ℤ, pos, negsuc, ◌+ℤ◌, ◌-ℤ◌, ◌≤ℤ◌, arith, suc, zero, ◌-◌, ◌^◌}
use Rattle.std.specs.List.{AllByRecursion}
use Rattle.std.proofs.lemmas.Int.{ints}
use Rattle.std.proofs.lemmas.Bool.{and_parts}
use Rattle.pb_syntax.specs.declared.tree.Op.{Op}
use Rattle.pb_affine.specs.declared.lin.Base.{Base}
use Rattle.pb_affine.specs.declared.lin.Base.TheVariants.{Fixed, Param, Var}
use Rattle.pb_affine.specs.declared.lin.Lin.{Lin}
use Rattle.pb_affine.specs.Values.{IsNear, value, base_value, count_of, count_from, range}
use Rattle.pb_world.specs.Actions as W
use Rattle.pb_core_language.specs.declared.tree.CoreBlock.{CoreBlock}
use Rattle.pb_core_language.specs.declared.tree.CoreStmt.{CoreStmt}
use Rattle.pb_core_language.specs.declared.tree.CoreEnd.{CoreEnd}
use Rattle.pb_core_language.specs.declared.tree.CoreKind.TheVariants as K
use Rattle.pb_core_language.specs.Tree as T
use Rattle.pb_core_language.specs.Plain.{plain_block, plain_stmt}
use Rattle.pb_core_language.proofs.Plains as P
use Rattle.pb_core_language.specs.Sound.{Rows, is_over_n, is_bound, is_stmt}
use Rattle.pb_core_language.specs.Flat as F
use Rattle.pb_core_language.specs.Flat.{Origin, Block, again}
use Rattle.pb_core_language.specs.FlatOf.{rank_of, flat_stmt, between, from_none, from_one, from_two, operation_of}
use Rattle.pb_judge_follow.specs.Follow.{Left}
use Rattle.pb_judge_walks.specs.declared.flow.Flow.{Flow}
use Rattle.pb_judge_walks.specs.declared.flow.Flow.TheVariants.{Back}
use Rattle.pb_judge_walks.specs.Walks.{Walked}
use Rattle.pb_judge_walks.proofs.Blocks.{steps_are_walked}
use Rattle.pb_judge_blocks.specs.declared.site.Site.{Site}
use Rattle.pb_judge_blocks.specs.Places.{IsTurn, IsSite, setting_at}
use Rattle.pb_judge_blocks.specs.Steps.{StmtWalks, SimpleWalks, TurnsWalk, RoundsWalk, items_for}

module _ (site : Site) (i : ℤ) (s : CoreStmt) (old new : Left) where
  abbrev Holds : Flow → T.StmtTree → Type 0
  Holds flow t = (rows : Rows) (varies : Bool) (opens : List ℕ) → IsSite site → IsTurn i → is_stmt rows varies opens t ≡ true → Walked (setting_at site) (flat_stmt site.roles.now site.n opens i (plain_stmt s).mark t) opens old flow new

  as_kind : (flow : Flow) (t : T.StmtTree) → (plain_stmt s).stmt ≡ t → Holds flow t → StmtWalks site i (plain_stmt s) old flow new
  as_kind flow t e h = λ rows varies opens st tu fine.
      subst (λ x. Walked (setting_at site) (flat_stmt site.roles.now site.n opens i (plain_stmt s).mark x) opens old flow new) (sym e) (h rows varies opens st tu (subst (λ x. is_stmt rows varies opens x ≡ true) e fine))

  pub message_stmt : (label : ℕ) (from to : CoreEnd) (flow : Flow) → s.what ≡ K.Message label from to →
      SimpleWalks site i (λ origin. F.message origin (rank_of site.roles.now site.n from i) (rank_of site.roles.now site.n to i) label) old flow new → StmtWalks site i (plain_stmt s) old flow new
  message_stmt label from to flow is h = as_kind flow (T.message label from to) (P.plain_message s label from to is) (λ rows varies opens st tu fine. h opens (from_two (plain_stmt s).mark from to site.n i) st tu)

  pub run_stmt : (kernel : ℕ) (at : CoreEnd) (flow : Flow) → s.what ≡ K.Run kernel at → SimpleWalks site i (λ origin. F.compute origin (rank_of site.roles.now site.n at i) kernel) old flow new → StmtWalks site i (plain_stmt s) old flow new
  run_stmt kernel at flow is h = as_kind flow (T.run kernel at) (P.plain_run s kernel at is) (λ rows varies opens st tu fine. h opens (from_one (plain_stmt s).mark at site.n i) st tu)

  pub again_stmt : (id : ℕ) → s.what ≡ K.Again id → old ≡ new → StmtWalks site i (plain_stmt s) old (Back id) new
  again_stmt id is same = as_kind (Back id) (T.again id) (P.plain_again s id is)
      (λ rows varies opens st tu fine. subst (λ l. Walked (setting_at site) (λ after. again (between id opens)) opens old (Back id) l) same (steps_are_walked.goes_back (setting_at site) opens id old))

  module _ {X : Type 0} (r : Result Flow X) where
    abbrev Result_is : Type 0
    Result_is = IfOk r (λ flow. StmtWalks site i (plain_stmt s) old flow new)

    abbrev Plainly : W.Collective → Type 0
    Plainly joint = IfOk r (λ flow. (opens : List ℕ) (origin : Origin) → Walked (setting_at site) (F.together origin joint) opens old flow new)

    pub loop_stmt : (id : ℕ) (body : CoreBlock) → s.what ≡ K.Loop id body → IfOk r (λ flow. RoundsWalk site i id (plain_block body).block old flow new) → Result_is
    loop_stmt id body is h = go r h
      where
        go : (q : Result Flow X) → IfOk q (λ flow. RoundsWalk site i id (plain_block body).block old flow new) → IfOk q (λ flow. StmtWalks site i (plain_stmt s) old flow new)
        go (Err e) k = tt
        go (Ok flow) k = as_kind flow (T.loop id (plain_block body).mark (plain_block body).block) (P.plain_loop s id body is) (λ rows varies opens st tu fine. k rows opens (from_none (plain_stmt s).mark) st tu (and_parts _ _ fine).1)

    pub barrier_stmt : s.what ≡ K.Barrier → Plainly W.Barrier → Result_is
    barrier_stmt is h = go r h
      where
        go : (q : Result Flow X) → IfOk q (λ flow. (opens : List ℕ) (origin : Origin) → Walked (setting_at site) (F.together origin W.Barrier) opens old flow new) → IfOk q (λ flow. StmtWalks site i (plain_stmt s) old flow new)
        go (Err e) k = tt
        go (Ok flow) k = as_kind flow T.barrier (P.plain_barrier s is) (λ rows varies opens st tu fine. k opens (from_none (plain_stmt s).mark))

    pub allreduce_stmt : (label : ℕ) (op : Op) → s.what ≡ K.Allreduce label op → Plainly (W.Allreduce label (operation_of op)) → Result_is
    allreduce_stmt label op is h = go r h
      where
        go : (q : Result Flow X) → IfOk q (λ flow. (opens : List ℕ) (origin : Origin) → Walked (setting_at site) (F.together origin (W.Allreduce label (operation_of op))) opens old flow new) → IfOk q (λ flow. StmtWalks site i (plain_stmt s) old flow new)
        go (Err e) k = tt
        go (Ok flow) k = as_kind flow (T.allreduce label op) (P.plain_allreduce s label op is) (λ rows varies opens st tu fine. k opens (from_none (plain_stmt s).mark))

    pub broadcast_stmt : (label : ℕ) (root : CoreEnd) → s.what ≡ K.Broadcast label root → IfOk r (λ flow. SimpleWalks site i (λ origin. F.together origin (W.Broadcast label (rank_of site.roles.now site.n root i))) old flow new) → Result_is
    broadcast_stmt label root is h = go r h
      where
        go : (q : Result Flow X) → IfOk q (λ flow. SimpleWalks site i (λ origin. F.together origin (W.Broadcast label (rank_of site.roles.now site.n root i))) old flow new) → IfOk q (λ flow. StmtWalks site i (plain_stmt s) old flow new)
        go (Err e) k = tt
        go (Ok flow) k = as_kind flow (T.broadcast label root) (P.plain_broadcast s label root is) (λ rows varies opens st tu fine. k opens (from_one (plain_stmt s).mark root site.n i) st tu)

    pub reduce_stmt : (label : ℕ) (op : Op) (root : CoreEnd) → s.what ≡ K.Reduce label op root → IfOk r (λ flow. SimpleWalks site i (λ origin. F.together origin (W.Reduce label (operation_of op) (rank_of site.roles.now site.n root i))) old flow new) → Result_is
    reduce_stmt label op root is h = go r h
      where
        go : (q : Result Flow X) → IfOk q (λ flow. SimpleWalks site i (λ origin. F.together origin (W.Reduce label (operation_of op) (rank_of site.roles.now site.n root i))) old flow new) → IfOk q (λ flow. StmtWalks site i (plain_stmt s) old flow new)
        go (Err e) k = tt
        go (Ok flow) k = as_kind flow (T.reduce label op root) (P.plain_reduce s label op root is) (λ rows varies opens st tu fine. k opens (from_one (plain_stmt s).mark root site.n i) st tu)

-- ---- foreach

over_n : (b : Base) (n i : ℤ) → is_over_n b ≡ true → base_value b n (pos 0) ≡ base_value b n i
over_n Fixed n i h = refl
over_n Param n i h = refl
over_n Var n i h = absurd cc

bound_is : (l : Lin) (n i : ℤ) → is_bound l ≡ true → value l n (pos 0) ≡ value l n i
bound_is l n i h = ap (λ x. l.off +ℤ x) (over_n l.base n i (and_parts _ _ h).0)

-- from a turn on, so many more are turns
turns_from : (k : ℕ) (a : ℤ) → (negsuc (2 ^ 41 - 1) ≤ℤ a) → ((a +ℤ pos k) ≤ℤ (pos (2 ^ 41) +ℤ pos 1)) → AllByRecursion IsTurn (count_from k a)
turns_from zero a low high = tt
turns_from (suc k) a low high = (record { low = low; high = omega (arith, ints, high) }, turns_from k (a +ℤ pos 1) (omega (arith, ints, low)) (omega (arith, ints, high)))

ends_at : (low high : ℤ) → (low ≤ℤ pos (2 ^ 41)) → (high ≤ℤ pos (2 ^ 41)) → ((low +ℤ pos (count_of (high +ℤ pos 1 -ℤ low))) ≤ℤ (pos (2 ^ 41) +ℤ pos 1))
ends_at low high h k = grind (arith, ints)

range_turns : (low high : ℤ) → IsTurn low → IsTurn high → AllByRecursion IsTurn (range low high)
range_turns low high l h = turns_from (count_of (high +ℤ pos 1 -ℤ low)) low l.low (ends_at low high l.high h.high)

pub foreach_stmt : {X : Type 0} (site : Site) (i : ℤ) (s : CoreStmt) (low high : Lin) (items : CoreBlock) (first last : ℤ) (many : ℕ) (old new : Left) (r : Result Flow X) → s.what ≡ K.Foreach low high items →
    (IsNear site.n → first ≡ value low site.n (pos 0)) → (IsNear site.n → IsTurn first) → (IsNear site.n → last ≡ value high site.n (pos 0)) → (IsNear site.n → IsTurn last) → (IsNear site.n → many ≡ count_of (last +ℤ pos 1 -ℤ first)) →
    IfOk r (λ flow. TurnsWalk site (count_from many first) (plain_block items).block old flow new) → IfOk r (λ flow. StmtWalks site i (plain_stmt s) old flow new)
foreach_stmt site i s low high items first last many old new (Err e) is ef tf el tl em h = tt
foreach_stmt site i s low high items first last many old new (Ok flow) is ef tf el tl em h = λ rows varies opens st tu fine.
    let near = st.near in
    let e = P.plain_foreach s low high items is in
    let all = subst (λ x. is_stmt rows varies opens x ≡ true) e fine in
    let one = and_parts _ _ all in
    let two = and_parts _ _ one.1 in
    let same : count_from many first ≡ range (value low site.n i) (value high site.n i) =
    ap (λ k. count_from k first) (em near) ∙ ap₂ (λ a b. range a b) (ef near ∙ bound_is low site.n i one.0) (el near ∙ bound_is high site.n i two.0) in
    let turns = subst (λ k. AllByRecursion IsTurn (count_from k first)) (sym (em near)) (range_turns first last (tf near) (tl near)) in
    let walked = h rows opens st turns two.1 in
    subst (λ x. Walked (setting_at site) (flat_stmt site.roles.now site.n opens i (plain_stmt s).mark x) opens old flow new) (sym e)
    (subst (λ l. Walked (setting_at site) (items_for site opens l (plain_block items).block) opens old flow new) same walked)
