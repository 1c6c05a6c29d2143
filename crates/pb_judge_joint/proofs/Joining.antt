-- Ranks enter and leave one after the other.
use Rattle.std.proofs.Common.{◌≡◌, ◌≢◌, ◌<◌, ◌≤◌, ◌==◌, ℕ, zero, suc, ◌+◌, ◌-◌, cond, true, false, Bool, List, [], ◌∷◌, ◌++◌, length, replicate, Option, Some, None, Ok, Err, refl, sym, ap, subst, ◌∙◌, arith, filter_map, Bor, MatchOption, append_assoc}
use Rattle.std.proofs.lemmas.List.{map-append, append-nil}
use Rattle.pb_text.specs.declared.action.Action.{Action}
use Rattle.pb_text.specs.declared.action.Action.TheVariants as E
use Rattle.pb_text.specs.declared.action.Joint.{Joint}
use Rattle.pb_world.specs.Actions as W
use Rattle.pb_world.specs.Family.{each}
use Rattle.pb_world.specs.Log as L
use Rattle.pb_world.specs.Log.{rank_of, words_recorded, log_of}
use Rattle.pb_world.specs.Sequencer.{first_or}
use Rattle.pb_world.proofs.Lists.{not_eqb}
use Rattle.pb_core_language.specs.Run as R
use Rattle.pb_core_language.specs.Run.{enter_words, entered_now}
use Rattle.pb_core_language.specs.Collectives.{setting}
use Rattle.pb_judge_ruling.specs.Ruling.{actions_of}
use Rattle.pb_judge_follow.specs.Follow.{Left, all_passed, answers_left}
use Rattle.pb_judge_follow.proofs.Passing.{passed_append, entries_other}
use Rattle.pb_judge_lists.specs.Places.{Begins}
use Rattle.pb_judge_steps.specs.declared.meeting.Difference.{Difference}
use Rattle.pb_judge_steps.specs.declared.made.Made.{Made}
use Rattle.pb_judge_steps.specs.Made.{list_of, sized_or, made_by}
use Rattle.pb_judge_steps.specs.Met.{Met, words_sent}
use Rattle.pb_judge_steps.proofs.Meetings.{met_then, met_stops, other_answer, made_is, made_none}
use Rattle.pb_judge_joint.specs.Joined.{all_enter, all_leave, entering, leaving, all_do, joined, share, Enters}

-- ---- one more rank

-- actions of each rank, one for each
module _ (joint : W.Collective) (make : ℕ → W.Action) where
  abbrev all : ℕ → List Action
  all k = log_of (each k make)

  all_more : (k : ℕ) → all (suc k) ≡ all k ++ L.recorded k (make k) ∷ []
  all_more k = map-append _ (each k make) ((k, make k) ∷ [])

  -- those of lower ranks leave a rank's entries as they are
  pub lower_pass : ((k : ℕ) → rank_of (L.recorded k (make k)) ≡ k) → (k r : ℕ) (left : Left) → k ≤ r → (all_passed (all k) left).entries r ≡ left.entries r
  lower_pass own zero r left le = refl
  lower_pass own (suc k) r left le =
      ap (λ g. (all_passed g left).entries r) (all_more k) ∙ ap (λ l. l.entries r) (passed_append (all k) (L.recorded k (make k) ∷ []) left)
      ∙ entries_other (L.recorded k (make k)) (all_passed (all k) left) r (not_eqb (rank_of (L.recorded k (make k))) r (apart (own k)))
      ∙ lower_pass own k r left (omega (arith, le))
    where
      apart : {q : ℕ} → q ≡ k → q ≢ r
      apart e h = absurd (omega (arith, le, e, h))

  pub one_more : (k : ℕ) (old mid new : Left) (o : Option Difference) → Met (all k) old None mid → Met (L.recorded k (make k) ∷ []) mid o new → Met (all (k + 1)) old o new
  one_more k old mid new o h m =
      let n : suc k ≡ k + 1 = omega arith in
      subst (λ g. Met g old o new) (sym (all_more k) ∙ ap all n) (met_then (all k) (L.recorded k (make k) ∷ []) old mid new o h m)

  -- so many stand before the rest
  before_rest : (k more : ℕ) → (rest : List Action) × (all (k + more) ≡ all k ++ rest)
  before_rest k zero = let n : k + 0 ≡ k = omega arith in ([], ap all n ∙ sym (append-nil (all k)))
  before_rest k (suc more) =
      let w = before_rest k more in
      let n : k + suc more ≡ suc (k + more) = omega arith in
      let last = L.recorded (k + more) (make (k + more)) ∷ [] in
      (w.0 ++ last, ap all n ∙ all_more (k + more) ∙ ap (λ l. l ++ last) w.1 ∙ append_assoc (all k) w.0 last)

  -- where one rank's action doesn't fit
  stops_within : (k total : ℕ) (old mid new : Left) (d : Difference) → k < total → Met (all (k + 1)) old (Some d) mid → Met (all total) old (Some d) new
  stops_within k total old mid new d lt m =
      let n : (k + 1) + (total - (k + 1)) ≡ total = omega (arith, lt) in
      let w = before_rest (k + 1) (total - (k + 1)) in
      subst (λ g. Met g old (Some d) new) (sym w.1 ∙ ap all n) (met_stops (all (k + 1)) w.0 old mid new d m)

-- ---- one rank enters

not_none : (n : ℕ) → suc n ≢ 0
not_none n e = absurd (omega (arith, e))

not_some : (n : ℕ) → 0 ≢ suc n
not_some n e = absurd (omega (arith, e))

-- with no words it enters with those, and else with its first answer
enters_with : (size : ℕ) (answers : List (List ℕ)) → enter_words size (λ words. length words == size) answers ≡ first_or answers (λ words. length words == size) (replicate size 0)
enters_with zero [] = refl
enters_with zero ([] ∷ others) = refl
enters_with zero ((x ∷ xs) ∷ others) = sym (ap (λ b. cond b (x ∷ xs) []) (not_eqb (suc (length xs)) 0 (not_none (length xs))))
enters_with (suc n) answers = refl

abbrev split : Option (List ℕ) → Option (ℕ × List ℕ)
split None = None
split (Some []) = None
split (Some (x ∷ xs)) = Some (x, xs)

abbrev IsSome : List ℕ → Type 0
IsSome words = (x : ℕ) × (xs : List ℕ) × (words ≡ x ∷ xs)

one_of : (n : ℕ) (x : ℕ) (xs : List ℕ) (b : Bool) → IsSome (cond b (x ∷ xs) (replicate (suc n) 0))
one_of n x xs true = (x, xs, refl)
one_of n x xs false = (0, replicate n 0, refl)

-- words of a size that isn't zero
some_sent : (n : ℕ) (answers : List (List ℕ)) → IsSome (first_or answers (λ words. length words == suc n) (replicate (suc n) 0))
some_sent n [] = (0, replicate n 0, refl)
some_sent n ([] ∷ others) = (0, replicate n 0, ap (λ b. cond b [] (replicate (suc n) 0)) (not_eqb 0 (suc n) (not_some n)))
some_sent n ((x ∷ xs) ∷ others) = one_of n x xs (length (x ∷ xs) == suc n)

none_sent : (answers : List (List ℕ)) → first_or answers (λ words. length words == 0) [] ≡ []
none_sent answers = sym (enters_with zero answers)

module _ (left mid : Left) (rank : ℕ) (what : Joint) where
  abbrev pub Same : ℕ → List ℕ → Option Difference → Type 0
  Same size ws r = Met (E.Enter rank what (words_sent left rank size) ∷ []) left r mid × (r ≡ None → ws ≡ words_sent left rank size)

  same_words : (size : ℕ) (ws : List ℕ) (r : Option Difference) → ws ≡ words_sent left rank size → Met (E.Enter rank what ws ∷ []) left r mid → Same size ws r
  same_words size ws r e m = (subst (λ x. Met (E.Enter rank what x ∷ []) left r mid) e m, λ h. e)

  -- an entry that shows no words
  without_words : (size : ℕ) (ws : List ℕ) (r : Option Difference) (entry : ℕ × Action) → Begins (left.entries rank) entry → words_recorded entry.1 ≡ None → ws ≡ replicate size 0 → Met (E.Enter rank what ws ∷ []) left r mid → Same size ws r
  without_words zero ws r entry b none e m = same_words zero ws r (e ∙ sym (none_sent (answers_left left rank).words)) m
  without_words (suc n) ws r entry b none e m =
      let w = some_sent n (answers_left left rank).words in
      let o = other_answer (λ a. split (words_recorded a)) (λ (x : ℕ × List ℕ). E.Enter rank what (x.0 ∷ x.1)) (λ x. refl) left rank entry (0, replicate n 0) (w.0, w.1) r mid refl refl b (ap split none)
      (subst (λ x. Met (E.Enter rank what x ∷ []) left r mid) e m) in
      (subst (λ x. Met (E.Enter rank what x ∷ []) left r mid) (sym w.2) o.0, λ h. absurd (o.1 h))

  pub entered : (size : ℕ) (first : Option (Bor (ℕ × Action))) (ws : List ℕ) (r : Option Difference) → MatchOption first (left.entries rank ≡ []) (λ entry. Begins (left.entries rank) entry.now) →
      MatchOption first (ws ≡ replicate size 0) (λ entry. ws ≡ made_by entry.now.1 size) → Met (E.Enter rank what ws ∷ []) left r mid → Same size ws r
  entered size None ws r none is m = same_words size ws r (is ∙ made_none left rank size none) m
  entered size (Some entry) ws r b is m = go (words_recorded entry.now.1) refl
    where
      go : (o : Option (List ℕ)) → words_recorded entry.now.1 ≡ o → Same size ws r
      go (Some vs) some = same_words size ws r (is ∙ made_is left rank size (Some vs) entry.now vs b some refl) m
      go None none = without_words size ws r entry.now b none (is ∙ ap (λ o. sized_or o size) none) m

module _ (s : R.Setting) (joint : W.Collective) where
  pub entering_is : (left : Left) (rank : ℕ) → words_sent left rank (s.weight joint rank) ≡ entering s joint left rank
  entering_is left rank = sym (enters_with (s.weight joint rank) (answers_left left rank).words)

  abbrev entry : ℕ → List ℕ → Action
  entry rank words = E.Enter rank (L.known_by joint) words

  same_as : (left mid : Left) (rank size : ℕ) (what : Joint) (ws : List ℕ) (r o : Option Difference) → what ≡ L.known_by joint → size ≡ s.weight joint rank → r ≡ o → Same left mid rank what size ws r → Same left mid rank (L.known_by joint) (s.weight joint rank) ws o
  same_as left mid rank size what ws r o w n e h =
      subst (λ x. Same left mid rank (L.known_by joint) (s.weight joint rank) ws x) e (subst (λ k. Same left mid rank (L.known_by joint) k ws r) n (subst (λ j. Same left mid rank j size ws r) w h))

  -- what the function gives
  pub enters_ok : (left mid : Left) (rank size : ℕ) (what : Joint) (made : Made) (r : Option Difference) → what ≡ L.known_by joint → size ≡ s.weight joint rank → r ≡ None → Same left mid rank what size (list_of made) r →
      Enters (entry rank (entering s joint left rank)) (entering s joint left rank) left (Ok made) mid
  enters_ok left mid rank size what made r w n e same =
      let h = same_as left mid rank size what (list_of made) r None w n e same in
      let is = entering_is left rank in
      (h.1 refl ∙ is, subst (λ x. Met (entry rank x ∷ []) left None mid) is h.0)

  pub enters_not : (left mid : Left) (rank size : ℕ) (what : Joint) (ws : List ℕ) (r : Option Difference) (d : Difference) → what ≡ L.known_by joint → size ≡ s.weight joint rank → r ≡ Some d → Same left mid rank what size ws r →
      Enters (entry rank (entering s joint left rank)) (entering s joint left rank) left (Err d) mid
  enters_not left mid rank size what ws r d w n e same =
      let h = same_as left mid rank size what ws r (Some d) w n e same in subst (λ x. Met (entry rank x ∷ []) left (Some d) mid) (entering_is left rank) h.0

  -- ---- all enter

  module _ (old : Left) where
    abbrev words : ℕ → List ℕ
    words = entering s joint old

    -- the ranks before leave a rank its words
    words_kept : (k : ℕ) (mid : Left) → Met (all_enter joint k words) old None mid → entering s joint mid k ≡ words k
    words_kept k mid m =
        ap (λ es. enter_words (s.weight joint k) (λ ws. length ws == s.weight joint k) (filter_map words_recorded (actions_of es)))
        (ap (λ l. l.entries k) m.1 ∙ lower_pass joint (λ r. W.Enter joint (words r)) (λ r. refl) k k old (omega arith))

    pub enter_more : (k : ℕ) (mid new : Left) (made : Made) → Met (all_enter joint k words) old None mid → Enters (entry k (entering s joint mid k)) (entering s joint mid k) mid (Ok made) new →
        Met (all_enter joint (k + 1) words) old None new × (list_of made ≡ words k)
    enter_more k mid new made m h =
        let e = words_kept k mid m in
        (one_more joint (λ r. W.Enter joint (words r)) k old mid new None m (subst (λ x. Met (entry k x ∷ []) mid None new) e h.1), h.0 ∙ e)

    pub enter_stops : (k : ℕ) (mid new : Left) (d : Difference) → k < s.total → Met (all_enter joint k words) old None mid → Enters (entry k (entering s joint mid k)) (entering s joint mid k) mid (Err d) new →
        Met (all_do s joint old) old (Some d) new
    enter_stops k mid new d lt m h =
        let e = words_kept k mid m in
        let first = one_more joint (λ r. W.Enter joint (words r)) k old mid new (Some d) m (subst (λ x. Met (entry k x ∷ []) mid (Some d) new) e h) in
        met_stops (all_enter joint s.total words) (all_leave joint s.total (leaving s joint old)) old new new d (stops_within joint (λ r. W.Enter joint (words r)) k s.total old new new d lt first)

-- ---- all leave

module _ (joint : W.Collective) (words : ℕ → List ℕ) where
  pub leave_more : (k : ℕ) (old mid new : Left) → Met (all_leave joint k words) old None mid → Met (E.Leave k (L.known_by joint) (words k) ∷ []) mid None new → Met (all_leave joint (k + 1) words) old None new
  leave_more k old mid new m h = one_more joint (λ r. W.Leave joint (words r)) k old mid new None m h

  pub leave_stops : (k total : ℕ) (old mid new : Left) (d : Difference) → k < total → Met (all_leave joint k words) old None mid → Met (E.Leave k (L.known_by joint) (words k) ∷ []) mid (Some d) new →
      Met (all_leave joint total words) old (Some d) new
  leave_stops k total old mid new d lt m h =
      stops_within joint (λ r. W.Leave joint (words r)) k total old new new d lt (one_more joint (λ r. W.Leave joint (words r)) k old mid new (Some d) m h)

-- ---- what is shared

module _ (total : ℕ) (size : ℕ → ℕ) (operate : W.Operation → ℕ → ℕ → ℕ → ℕ) where
  abbrev s : R.Setting
  s = setting total size operate

  shares : (joint : W.Collective) (words : ℕ → List ℕ) (r : ℕ) → share joint (joined operate joint total words) r ≡ s.outcome joint r words
  shares W.Barrier words r = refl
  shares (W.Broadcast label root) words r = refl
  shares (W.Reduce label operation root) words r = refl
  shares (W.Allreduce label operation) words r = refl

  pub all_done : (joint : W.Collective) (all : List ℕ) (old mid new : Left) (o : Option Difference) → all ≡ joined operate joint total (entering s joint old) → Met (all_enter joint total (entering s joint old)) old None mid →
      Met (all_leave joint total (share joint all)) mid o new → Met (all_do s joint old) old o new
  all_done joint all old mid new o e m h =
      let same : share joint all ≡ leaving s joint old = λ i r. (ap (λ x. share joint x r) e ∙ shares joint (entering s joint old) r) i in
      met_then (all_enter joint total (entering s joint old)) (all_leave joint total (leaving s joint old)) old mid new o m (subst (λ f. Met (all_leave joint total f) mid o new) same h)
