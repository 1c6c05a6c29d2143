-- How following the run ends tells the ruling.
use Rattle.std.proofs.Common.{◌≡◌, ℕ, suc, ◌+◌, ◌≤◌, true, false, List, [], ◌∷◌, ◌++◌, length, drop, slice_get, refl, sym, ap, subst, ◌∙◌, arith, append-nil, append_assoc}
use Rattle.std.proofs.lemmas.List.{map-append}
use Rattle.pb_text.specs.declared.action.Action.{Action}
use Rattle.pb_world.specs.Log.{recorded, log_of, entry_by, log_of_rank, log_answers}
use Rattle.pb_world.specs.Sequencer.{state_after, emitted}
use Rattle.pb_world.proofs.Lists.{prefix_filter, prefix_length}
use Rattle.pb_core_language.specs.Flat.{Block}
use Rattle.pb_core_language.specs.Run.{Setting, State, Frame, emit, next, first_state, is_over_at}
use Rattle.pb_judge_ruling.specs.Ruling.{actions_of, entries_of, Agrees, run, ends_by, DiffersAt, AllAgree, HasAll, GoesBeyond, IsWhole, IsRuling}
use Rattle.pb_judge_ruling.specs.declared.ruling.Ruling.TheVariants.{Whole, Beyond}
use Rattle.pb_judge_ruling.proofs.Runs.{entries_actions, split, ended_longest}
use Rattle.pb_judge_ruling.proofs.Rulings.{agrees_front}
use Rattle.pb_judge_follow.specs.Follow.{Left, all_of, AllFit, all_passed, first_stack, doing, Goes, Breaks, IsLeastLeft, IsUsedUp}
use Rattle.pb_judge_follow.specs.Laws.{Rules, BreaksRule, EndRules}
use Rattle.pb_judge_follow.proofs.Passing.{fits_append, passed_append, drop_get, drop_none, left_is, fits_agree, part_is, owed_some}
use Rattle.pb_judge_follow.proofs.Following.{answers_in, state, done, goes_state, goes_fits, goes_passed}

module _ (s : Setting) (protocol : Block) (log : List (ℕ × Action)) where
  abbrev pub w : List Action
  w = actions_of log

  abbrev pub begins : State
  begins = first_state s protocol (log_answers w)

  pub first_is : begins ≡ state (first_stack protocol) (all_of log)
  first_is = λ i. record { stack = first_stack protocol; left = λ r. ap answers_in (sym (entries_actions r log)) i }

  pub run_is : (n : ℕ) → run s protocol log n ≡ done s n (state (first_stack protocol) (all_of log))
  run_is n = ap (done s n) first_is

  -- what was followed so far
  pub record Reached (n : ℕ) (K : List Frame) (left : Left) : Type 0 where
    pub at : state_after (emit s) (next s) n begins ≡ state K left
    pub fits : AllFit (run s protocol log n) (all_of log)
    pub passed : left ≡ all_passed (run s protocol log n) (all_of log)

  pub reached : {n : ℕ} {K : List Frame} {left : Left} → Goes s n (first_stack protocol) (all_of log) K left → Reached n K left
  reached {n = n} g = record {
    at = ap (state_after (emit s) (next s) n) first_is ∙ goes_state s g;
    fits = subst (λ g. AllFit g (all_of log)) (sym (run_is n)) (goes_fits s g);
    passed = goes_passed s g ∙ ap (λ g. all_passed g (all_of log)) (sym (run_is n));
  }

  pub agrees : (g : List Action) → AllFit g (all_of log) → Agrees g w
  agrees g f r k x y a b = fits_agree g (all_of log) r k x y f a (ap (λ xs. slice_get xs k) (entries_actions r log) ∙ b)

  pub entries_length : (r : ℕ) → length (entries_of r log) ≡ length (log_of_rank r w)
  entries_length r = same (entries_of r log) ∙ ap length (entries_actions r log)
    where
      same : (es : List (ℕ × Action)) → length es ≡ length (actions_of es)
      same [] = refl
      same (e ∷ es) = ap suc (same es)

  -- ---- an action that doesn't fit

  step_is : (n : ℕ) (K : List Frame) (left : Left) → Reached n K left → run s protocol log (n + 1) ≡ run s protocol log n ++ doing s K left
  step_is n K left h =
      let q = state_after (emit s) (next s) n begins in
      ap log_of (split s n 1 begins) ∙ map-append (λ step. recorded step.0 step.1) (emitted (emit s) (next s) n begins) (emit s q ++ [])
      ∙ ap (λ xs. run s protocol log n ++ log_of xs) (append-nil (emit s q)) ∙ ap (λ x. run s protocol log n ++ log_of (emit s x)) h.at

  pub breaks : (r line : ℕ) → Breaks s (first_stack protocol) (all_of log) r line → DiffersAt s protocol log r line
  breaks r line b =
      let h = reached b.goes in
      let m = b.misfits in
      let g = run s protocol log b.steps in
      let at : all_passed (g ++ m.before) (all_of log) ≡ all_passed m.before b.there = passed_append g m.before (all_of log) ∙ ap (all_passed m.before) (sym h.passed) in
      let k = length (log_of_rank r (g ++ m.before)) in
      record {
        steps = b.steps + 1;
        before = g ++ m.before;
        action = m.action;
        after = m.after;
        other = m.other;
        is = step_is b.steps b.stack b.there h ∙ ap (λ xs. g ++ xs) m.is ∙ sym (append_assoc g m.before (m.action ∷ m.after));
        agrees = agrees (g ++ m.before) (fits_append g m.before (all_of log) h.fits (subst (λ l. AllFit m.before l) h.passed m.fits));
        by = m.by;
        there = drop_get k (entries_of r log) (line, m.other) m.others (sym (left_is (g ++ m.before) (all_of log) r) ∙ ap (λ l. l.entries r) at ∙ m.first);
        apart = m.apart;
      }

  -- ---- what is left

  pub left_at : (n : ℕ) (K : List Frame) (left : Left) (r : ℕ) → Reached n K left → left.entries r ≡ drop (length (log_of_rank r (run s protocol log n))) (entries_of r log)
  left_at n K left r h = ap (λ l. l.entries r) h.passed ∙ left_is (run s protocol log n) (all_of log) r

  pub has_all : (n : ℕ) (K : List Frame) (left : Left) (r : ℕ) → Reached n K left → left.entries r ≡ [] → HasAll s protocol log r
  has_all n K left r h e =
      let le = drop_none (length (log_of_rank r (run s protocol log n))) (entries_of r log) (sym (left_at n K left r h) ∙ e) in
      let same = entries_length r in (n, omega (arith, le, same))

  goes_beyond : (n : ℕ) (K : List Frame) (left : Left) (r line : ℕ) → Reached n K left → (least : IsLeastLeft left r line) →
      ((m : ℕ) → length (log_of_rank r (run s protocol log m)) ≤ length (log_of_rank r (run s protocol log n))) → GoesBeyond s protocol log r line
  goes_beyond n K left r line h least most = record {
    many = length (log_of_rank r (run s protocol log n));
    steps = n;
    other = least.entry;
    reached = refl;
    most = most;
    there = drop_get (length (log_of_rank r (run s protocol log n))) (entries_of r log) (line, least.entry) least.entries (sym (left_at n K left r h) ∙ least.is);
  }

  pub beyond : (n : ℕ) (K : List Frame) (left : Left) (r line : ℕ) → Reached n K left → (least : IsLeastLeft left r line) → AllAgree s protocol log →
      ((m : ℕ) → length (log_of_rank r (run s protocol log m)) ≤ length (log_of_rank r (run s protocol log n))) → IsRuling s protocol log (Beyond r line)
  beyond n K left r line h least all most = (all, goes_beyond n K left r line h least most, λ q lt. has_all n K left q h (least.least q lt))

  -- ---- the run's end

  module _ (n : ℕ) (left : Left) (h : Reached n [] left) where
    ended : ends_by s protocol log n
    ended = ap (λ q. is_over_at q.stack) h.at

    all_agree : AllAgree s protocol log
    all_agree m = agrees_front (run s protocol log m) (run s protocol log n) w (ended_longest s protocol log n m ended) (agrees (run s protocol log n) h.fits)

    longest : (r m : ℕ) → length (log_of_rank r (run s protocol log m)) ≤ length (log_of_rank r (run s protocol log n))
    longest r m = prefix_length _ _ (prefix_filter (entry_by r) (run s protocol log m) (run s protocol log n) (ended_longest s protocol log n m ended))

    owing_not_whole : left.owes ≡ true → IsWhole s protocol log → ⊥
    owing_not_whole o v =
        let more = owed_some (run s protocol log n) (all_of log) refl (sym (ap (λ l. l.owes) h.passed) ∙ o) in
        let r = more.0 in
        let lt = more.1 in
        let le = prefix_length _ _ (prefix_filter (entry_by r) (run s protocol log n) (run s protocol log v.0) (ended_longest s protocol log v.0 n v.1)) in
        let same = entries_length r in
        let all = ap length (v.2 r) in omega (arith, lt, le, same, all)

    at_end : Rules s protocol log left × (IsUsedUp left → left.owes ≡ false → IsRuling s protocol log Whole)
    at_end = (
      record {
        beyond = λ r line least. beyond n [] left r line h least all_agree (longest r);
        covered = λ up o. (all_agree, λ r. has_all n [] left r h (up r), owing_not_whole o);
      },
      λ up o. (
        n,
        ended,
        λ r. sym (entries_actions r log) ∙ part_is (run s protocol log n) (all_of log) r h.fits (sym (ap (λ l. l.owes) h.passed) ∙ o) (sym (ap (λ l. l.entries r) h.passed) ∙ up r),
      ),
    )

pub breaks_rule : BreaksRule
breaks_rule s protocol log r line b = breaks s protocol log r line b

pub end_rules : EndRules
end_rules s protocol log steps left g = at_end s protocol log steps left (reached s protocol log g)
