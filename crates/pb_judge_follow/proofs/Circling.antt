-- A round of the run that uses no entry and begins anew goes round for ever.
use Rattle.std.proofs.Common.{◌≡◌, ℕ, zero, suc, ◌+◌, ◌-◌, ◌≤◌, true, false, inl, inr, List, [], ◌∷◌, ◌++◌, length, drop, slice_get, refl, sym, ap, ap₂, ◌∙◌, arith, append-nil, length-drop}
use Rattle.std.proofs.lemmas.Option.{slice_get_within, slice_get_cases}
use Rattle.std.proofs.lemmas.List.{map-append}
use Rattle.std.proofs.lemmas.List.Elements.{filter_map-append}
use Rattle.pb_text.specs.declared.action.Action.{Action}
use Rattle.pb_world.specs.Actions.{AnswerTable}
use Rattle.pb_world.specs.Log.{recorded, log_of, entry_by, log_of_rank}
use Rattle.pb_world.specs.Sequencer.{state_after, emitted}
use Rattle.pb_world.proofs.Lists.{no_elements, prefix_get, prefix_filter, prefix_length}
use Rattle.pb_core_language.specs.Flat.{Block}
use Rattle.pb_core_language.specs.Run.{Setting, State, Frame, emit, next, is_over_at}
use Rattle.pb_judge_ruling.specs.Ruling.{actions_of, entries_of, Agrees, run, AllAgree, IsWhole, IsRuling}
use Rattle.pb_judge_ruling.specs.declared.ruling.Ruling.TheVariants.{Covered, Beyond}
use Rattle.pb_judge_ruling.proofs.Runs.{split, longer, either}
use Rattle.pb_judge_ruling.proofs.Rulings.{some_same, agrees_front}
use Rattle.pb_judge_follow.specs.Follow.{Left, all_of, first_stack, Goes, Circles, IsLeastLeft, IsUsedUp}
use Rattle.pb_judge_follow.specs.Laws.{CircleRules}
use Rattle.pb_judge_follow.proofs.Passing.{drop_none, left_is}
use Rattle.pb_judge_follow.proofs.Following.{answers_in, state, done, goes_state, goes_passed}
use Rattle.pb_judge_follow.proofs.Rules.{begins, Reached, reached, agrees, left_at, has_all, beyond, entries_length}

-- nothing was dropped where something is left, and as much as before
none_dropped : {A : Type 0} (k : ℕ) (es : List A) (e : A) (rest : List A) → es ≡ e ∷ rest → drop k es ≡ es → k ≡ 0
none_dropped k es e rest h d =
    let u = ap length h in
    let v = ap length d in
    let x = length-drop k es in omega (arith, u, v, x)

-- so many rounds have so many steps
pub steps_of : ℕ → ℕ → ℕ
steps_of round zero = zero
steps_of round (suc j) = suc round + steps_of round j

many : (round j : ℕ) → j ≤ steps_of round j
unfolding steps_of
many round zero = omega arith
many round (suc j) = let le = many round j in omega (arith, le)

-- what is over stays over
over_stays : (s : Setting) (n : ℕ) (K : List Frame) (A : AnswerTable) → is_over_at K ≡ true → is_over_at (state_after (emit s) (next s) n (record { stack = K; left = A })).stack ≡ true
over_stays s zero K A h = h
over_stays s (suc n) [] A h = over_stays s n [] (next s (record { stack = []; left = A })).left refl
over_stays s (suc n) (f ∷ K) A h = absurd cc

module _ (s : Setting) (K : List Frame) (there end : Left) (round : ℕ) (again : Goes s (suc round) K there K end) (same : (r : ℕ) → end.entries r ≡ there.entries r) where
  abbrev q : State
  q = state K there

  one_round : state_after (emit s) (next s) (suc round) q ≡ q
  one_round = goes_state s again ∙ (λ i. record { stack = K; left = λ r. ap (λ es. answers_in (actions_of es)) (same r) i })

  after_more : (m n : ℕ) (x : State) → state_after (emit s) (next s) (m + n) x ≡ state_after (emit s) (next s) n (state_after (emit s) (next s) m x)
  after_more zero n x = let e : 0 + n ≡ n = omega arith in ap (λ k. state_after (emit s) (next s) k x) e
  after_more (suc m) n x = let e : suc m + n ≡ suc (m + n) = omega arith in ap (λ k. state_after (emit s) (next s) k x) e ∙ after_more m n (next s x)

  pub rounds : (j : ℕ) → state_after (emit s) (next s) (steps_of round j) q ≡ q
  unfolding steps_of
  rounds zero = refl
  rounds (suc j) = after_more (suc round) (steps_of round j) q ∙ ap (state_after (emit s) (next s) (steps_of round j)) one_round ∙ rounds j

  pub done_append : (m n : ℕ) (x : State) → done s (m + n) x ≡ done s m x ++ done s n (state_after (emit s) (next s) m x)
  done_append m n x = ap log_of (split s m n x) ∙ map-append (λ step. recorded step.0 step.1) (emitted (emit s) (next s) m x) (emitted (emit s) (next s) n (state_after (emit s) (next s) m x))

  -- a rank that has entries left does nothing
  module _ (r : ℕ) (e : ℕ × Action) (rest : List (ℕ × Action)) (some : there.entries r ≡ e ∷ rest) where
    quiet_round : log_of_rank r (done s (suc round) q) ≡ []
    quiet_round =
        let l = sym (left_is (done s (suc round) q) there r) ∙ ap (λ l. l.entries r) (sym (goes_passed s again)) ∙ same r in
        no_elements _ (none_dropped (length (log_of_rank r (done s (suc round) q))) (there.entries r) e rest some l)

    quiet_rounds : (j : ℕ) → log_of_rank r (done s (steps_of round j) q) ≡ []
    unfolding steps_of
    quiet_rounds zero = refl
    quiet_rounds (suc j) =
        ap (log_of_rank r) (done_append (suc round) (steps_of round j) q) ∙ filter_map-append (entry_by r) (done s (suc round) q) (done s (steps_of round j) (state_after (emit s) (next s) (suc round) q))
        ∙ ap₂ (λ xs x. xs ++ log_of_rank r (done s (steps_of round j) x)) quiet_round one_round ∙ quiet_rounds j

    pub quiet : (k : ℕ) → log_of_rank r (done s k q) ≡ []
    quiet k =
        let le = many round k in
        let e : k + (steps_of round k - k) ≡ steps_of round k = omega (arith, le) in
        let all = sym (ap (λ n. log_of_rank r (done s n q)) e) in
        front (log_of_rank r (done s k q)) (log_of_rank r (done s (steps_of round k - k) (state_after (emit s) (next s) k q)))
        (sym (filter_map-append (entry_by r) (done s k q) (done s (steps_of round k - k) (state_after (emit s) (next s) k q))) ∙ ap (log_of_rank r) (sym (done_append k (steps_of round k - k) q)) ∙ sym all ∙ quiet_rounds k)
      where
        front : (xs ys : List Action) → xs ++ ys ≡ [] → xs ≡ []
        front [] ys h = refl
        front (x ∷ xs) ys h = absurd cc

module _ (s : Setting) (protocol : Block) (log : List (ℕ × Action)) (end : Left) (c : Circles s (first_stack protocol) (all_of log) end) where
  abbrev h : Reached s protocol log c.steps c.stack c.there
  h = reached s protocol log c.goes

  abbrev before : List Action
  before = run s protocol log c.steps

  -- what is done later
  later : (m : ℕ) → c.steps ≤ m → run s protocol log m ≡ before ++ done s (m - c.steps) (state c.stack c.there)
  later m le =
      let e : c.steps + (m - c.steps) ≡ m = omega (arith, le) in
      ap (run s protocol log) (sym e) ∙ done_append s c.stack c.there end c.round c.again c.same c.steps (m - c.steps) (begins s protocol log)
      ∙ ap (λ x. before ++ done s (m - c.steps) x) h.at

  later_rank : (r m : ℕ) → c.steps ≤ m → (e : ℕ × Action) (rest : List (ℕ × Action)) → c.there.entries r ≡ e ∷ rest → log_of_rank r (run s protocol log m) ≡ log_of_rank r before
  later_rank r m le e rest some =
      ap (log_of_rank r) (later m le) ∙ filter_map-append (entry_by r) before (done s (m - c.steps) (state c.stack c.there))
      ∙ ap (λ xs. log_of_rank r before ++ xs) (quiet s c.stack c.there end c.round c.again c.same r e rest some (m - c.steps)) ∙ append-nil (log_of_rank r before)

  later_agrees : (m : ℕ) → c.steps ≤ m → Agrees (run s protocol log m) (actions_of log)
  later_agrees m le r k x y a b = go (c.there.entries r) refl
    where
      go : (es : List (ℕ × Action)) → c.there.entries r ≡ es → x ≡ y
      go (e ∷ es) some = agrees s protocol log before h.fits r k x y (ap (λ xs. slice_get xs k) (sym (later_rank r m le e es some)) ∙ a) b
      go [] none = elim (slice_get_cases (log_of_rank r before) k).1 [
        | inl z ↦ (let p = prefix_filter (entry_by r) before (run s protocol log m) (longer s protocol log c.steps m le) in
            let same : z.0 ≡ x = some_same (sym (prefix_get _ _ k z.0 p z.2) ∙ a) in sym same ∙ agrees s protocol log before h.fits r k z.0 y z.2 b)
        | inr z ↦ (let behind = z.0 in
            let within = slice_get_within _ k y b in
            let all = drop_none (length (log_of_rank r before)) (entries_of r log) (sym (left_at s protocol log c.steps c.stack c.there r h) ∙ none) in
            let long = entries_length s protocol log r in absurd (omega (arith, behind, within, all, long)))
      ]

  circle_agrees : AllAgree s protocol log
  circle_agrees m = elim (either s protocol log c.steps m) [
    | inl le ↦ later_agrees m le
    | inr le ↦ agrees_front (run s protocol log m) before (actions_of log) (longer s protocol log m c.steps le) (agrees s protocol log before h.fits)
  ]

  most : (r : ℕ) (e : ℕ × Action) (rest : List (ℕ × Action)) → c.there.entries r ≡ e ∷ rest → (m : ℕ) → length (log_of_rank r (run s protocol log m)) ≤ length (log_of_rank r before)
  most r e rest some m = elim (either s protocol log c.steps m) [
    | inl le ↦ (let same = ap length (later_rank r m le e rest some) in omega (arith, same))
    | inr le ↦ prefix_length _ _ (prefix_filter (entry_by r) (run s protocol log m) before (longer s protocol log m c.steps le))
  ]

  not_whole : IsWhole s protocol log → ⊥
  not_whole v =
      let m = v.0 in
      let le = many c.round m in
      let far = c.steps + steps_of c.round m in
      let e : m + (far - m) ≡ far = omega (arith, le) in
      let x = state_after (emit s) (next s) m (begins s protocol log) in
      let over : is_over_at (state_after (emit s) (next s) far (begins s protocol log)).stack ≡ true =
      ap (λ k. is_over_at (state_after (emit s) (next s) k (begins s protocol log)).stack) (sym e)
      ∙ ap (λ y. is_over_at y.stack) (after_more s c.stack c.there end c.round c.again c.same m (far - m) (begins s protocol log)) ∙ over_stays s (far - m) x.stack x.left v.1 in
      let open_still : is_over_at (state_after (emit s) (next s) far (begins s protocol log)).stack ≡ false =
      ap (λ y. is_over_at y.stack) (after_more s c.stack c.there end c.round c.again c.same c.steps (steps_of c.round m) (begins s protocol log) ∙ ap (state_after (emit s) (next s) (steps_of c.round m)) h.at ∙ rounds s c.stack c.there end c.round c.again c.same m)
      ∙ c.goes_on in
      apart (sym over ∙ open_still)
    where
      apart : true ≡ false → ⊥
      apart e = cc

  circling : ((r line : ℕ) → IsLeastLeft end r line → IsRuling s protocol log (Beyond r line)) × (IsUsedUp end → IsRuling s protocol log Covered)
  circling = (
    λ r line least. beyond s protocol log c.steps c.stack c.there r line h
        (record { entry = least.entry; entries = least.entries; is = sym (c.same r) ∙ least.is; least = λ p lt. sym (c.same p) ∙ least.least p lt }) circle_agrees
        (most r (line, least.entry) least.entries (sym (c.same r) ∙ least.is)),
    λ up. (circle_agrees, λ r. has_all s protocol log c.steps c.stack c.there r h (sym (c.same r) ∙ up r), not_whole),
  )

pub circle_rules : CircleRules
circle_rules s protocol log left c = circling s protocol log left c
