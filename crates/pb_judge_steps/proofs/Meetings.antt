-- What is done is met, one action after the other.
use Rattle.std.proofs.Common.{◌≡◌, ◌≢◌, ℕ, suc, ◌==◌, List, [], ◌∷◌, ◌++◌, length, replicate, Option, Some, None, refl, sym, ap, subst, ◌∙◌, arith, filter_map, Bor, MatchOption, append_assoc}
use Rattle.std.specs.Prelude.{nat_lt}
use Rattle.std.specs.List.{cons_option}
use Rattle.pb_text.specs.declared.action.Action.{Action}
use Rattle.pb_text.specs.declared.action.Action.TheVariants as E
use Rattle.pb_world.specs.Log.{rank_of, branch_recorded, words_recorded}
use Rattle.pb_world.specs.Sequencer.{first_or}
use Rattle.pb_judge_ruling.specs.Ruling.{actions_of}
use Rattle.pb_judge_follow.specs.Follow.{Left, Fits, AllFit, passed_by, all_passed, Misfits}
use Rattle.pb_judge_follow.proofs.Passing.{fits_append, passed_append}
use Rattle.pb_judge_lists.specs.Places.{Begins}
use Rattle.pb_judge_steps.specs.declared.meeting.Difference.{Difference}
use Rattle.pb_judge_steps.specs.Made.{sized_or, made_by, chosen_or}
use Rattle.pb_judge_steps.specs.Met.{Told, Met, words_sent, branch_taken}

-- ---- one rank's first entry

pub no_entry : (entries : List (ℕ × Action)) (a : Action) → entries ≡ [] → Fits entries a
no_entry entries a e = subst (λ es. Fits es a) (sym e) tt

pub one_entry : (entries : List (ℕ × Action)) (a : Action) (entry : ℕ × Action) (r : Option ℕ) → Begins entries entry → MatchOption r (entry.1 ≡ a) (λ line. (line ≡ entry.0) × (a ≢ entry.1)) → Told entries a r
one_entry entries a entry None b h = subst (λ es. Fits es a) (sym b.1) h
one_entry entries a entry (Some line) b h = (entry.1, b.0, b.1 ∙ ap (with_line entry.1 b.0) (sym h.0), h.1)
  where
    with_line : Action → List (ℕ × Action) → ℕ → List (ℕ × Action)
    with_line x others n = (n, x) ∷ others

pub met_fits : (a : Action) (rank : ℕ) (old new : Left) → rank_of a ≡ rank → Fits (old.entries rank) a → new ≡ passed_by rank old → Met (a ∷ []) old None new
met_fits a rank old new e f n = ((subst (λ r. Fits (old.entries r) a) (sym e) f, tt), n ∙ ap (λ r. passed_by r old) (sym e))

pub met_differs : (a : Action) (rank line : ℕ) (old new : Left) (d : Difference) → d.rank ≡ rank → d.line ≡ line → rank_of a ≡ rank → Told (old.entries rank) a (Some line) → Met (a ∷ []) old (Some d) new
met_differs a rank line old new d is at e t = record {
  before = [];
  action = a;
  after = [];
  other = t.0;
  others = t.1;
  is = refl;
  fits = tt;
  by = e ∙ sym is;
  first = ap (λ r. old.entries r) is ∙ t.2 ∙ ap (with_line t.0 t.1) (sym at);
  apart = t.3;
} where
  with_line : Action → List (ℕ × Action) → ℕ → List (ℕ × Action)
  with_line x others n = (n, x) ∷ others

-- ---- two actions, one behind the other

pub met_then : (xs ys : List Action) (old mid new : Left) (r : Option Difference) → Met xs old None mid → Met ys mid r new → Met (xs ++ ys) old r new
met_then xs ys old mid new None h k = (fits_append xs ys old h.0 (subst (λ l. AllFit ys l) h.1 k.0), k.1 ∙ ap (all_passed ys) h.1 ∙ sym (passed_append xs ys old))
met_then xs ys old mid new (Some d) h k = record {
  before = xs ++ k.before;
  action = k.action;
  after = k.after;
  other = k.other;
  others = k.others;
  is = ap (λ l. xs ++ l) k.is ∙ sym (append_assoc xs k.before (k.action ∷ k.after));
  fits = fits_append xs k.before old h.0 (subst (λ l. AllFit k.before l) h.1 k.fits);
  by = k.by;
  first = ap (λ l. l.entries d.rank) (passed_append xs k.before old) ∙ ap (λ l. (all_passed k.before l).entries d.rank) (sym h.1) ∙ k.first;
  apart = k.apart;
}

pub met_stops : (xs ys : List Action) (old mid new : Left) (d : Difference) → Met xs old (Some d) mid → Met (xs ++ ys) old (Some d) new
met_stops xs ys old mid new d h = record {
  before = h.before;
  action = h.action;
  after = h.after ++ ys;
  other = h.other;
  others = h.others;
  is = ap (λ l. l ++ ys) h.is ∙ append_assoc h.before (h.action ∷ h.after) ys;
  fits = h.fits;
  by = h.by;
  first = h.first;
  apart = h.apart;
}

-- ---- what a rank does by its own answer

-- of one action that doesn't fit
first_of : (a : Action) (left : Left) (r line : ℕ) → Misfits (a ∷ []) left r line → (other : Action) × (others : List (ℕ × Action)) × (left.entries r ≡ (line, other) ∷ others) × (a ≢ other) × (rank_of a ≡ r)
first_of a left r line m = go m.before m.is m.fits m.first
  where
    go : (before : List Action) → a ∷ [] ≡ before ++ m.action ∷ m.after → AllFit before left → (all_passed before left).entries r ≡ (line, m.other) ∷ m.others → (other : Action) × (others : List (ℕ × Action)) × (left.entries r ≡ (line, other) ∷ others) × (a ≢ other) × (rank_of a ≡ r)
    go [] is f first = let same : a ≡ m.action = cc in (m.other, m.others, first, (λ e. m.apart (sym same ∙ e)), ap rank_of same ∙ m.by)
    go (b ∷ []) is f first = absurd (none (ap length is))
      where
        none : 1 ≡ suc (suc (length m.after)) → ⊥
        none e = absurd (omega (arith, e))
    go (b ∷ c ∷ before) is f first = absurd (none (ap length is))
      where
        none : 1 ≡ suc (suc (length (before ++ m.action ∷ m.after))) → ⊥
        none e = absurd (omega (arith, e))

-- Where a rank's first entry shows an answer by `shows`, what it does by that answer is known. Where it shows none, what it
-- does doesn't fit, with whatever answer
module _ {X : Type 0} (shows : Action → Option X) (make : X → Action) (shown : (x : X) → shows (make x) ≡ Some x) where
  pub other_answer : (left : Left) (rank : ℕ) (entry : ℕ × Action) (x y : X) (d : Option Difference) (mid : Left) → rank_of (make x) ≡ rank → rank_of (make y) ≡ rank → Begins (left.entries rank) entry → shows entry.1 ≡ None →
      Met (make x ∷ []) left d mid → Met (make y ∷ []) left d mid × (d ≡ None → ⊥)
  other_answer left rank entry x y None mid e f b none m =
      absurd (apart (sym none ∙ ap shows (subst (λ es. Fits es (make x)) b.1 (subst (λ r. Fits (left.entries r) (make x)) e m.0.0)) ∙ shown x))
    where
      apart : ◌≡◌ {A = Option X} None (Some x) → ⊥
      apart h = cc
  other_answer left rank entry x y (Some d) mid e f b none m =
      let o = first_of (make x) left d.rank d.line m in
      let same : rank ≡ d.rank = sym e ∙ o.4 in
      let head : entry.1 ≡ o.0 = heads (sym b.1 ∙ ap (λ r. left.entries r) same ∙ o.2) in (
        met_differs (make y) rank d.line left mid d (sym same) refl f (o.0, o.1, ap (λ r. left.entries r) same ∙ o.2, λ h. apart (sym none ∙ ap shows (head ∙ sym h) ∙ shown y)),
        λ h. some h,
      )
    where
      apart : ◌≡◌ {A = Option X} None (Some y) → ⊥
      apart h = cc

      some : ◌≡◌ {A = Option Difference} (Some d) None → ⊥
      some h = cc

      heads : {line : ℕ} {other : Action} {us vs : List (ℕ × Action)} → ◌≡◌ {A = List (ℕ × Action)} (entry ∷ us) ((line, other) ∷ vs) → entry.1 ≡ other
      heads {line} {other} h = let same : ◌≡◌ {A = ℕ × Action} entry (line, other) = cc in ap (λ (p : ℕ × Action). p.1) same

-- ---- sending

-- a rank's first words
pub made_is : (left : Left) (from size : ℕ) (o : Option (List ℕ)) (entry : ℕ × Action) (ws : List ℕ) → Begins (left.entries from) entry → words_recorded entry.1 ≡ o → o ≡ Some ws → sized_or (words_recorded entry.1) size ≡ words_sent left from size
made_is left from size o entry ws b is some =
    ap (λ p. sized_or p size) (is ∙ some)
    ∙ sym (ap (λ es. first_or (filter_map words_recorded (actions_of es)) (λ words. length words == size) (replicate size 0)) b.1 ∙ ap (λ p. first_or (cons_option p (filter_map words_recorded (actions_of b.0))) (λ words. length words == size) (replicate size 0)) (is ∙ some))

pub made_none : (left : Left) (from size : ℕ) → left.entries from ≡ [] → replicate size 0 ≡ words_sent left from size
made_none left from size e = sym (ap (λ es. first_or (filter_map words_recorded (actions_of es)) (λ words. length words == size) (replicate size 0)) e)

pub sent : (left mid : Left) (from to label size : ℕ) (first : Option (Bor (ℕ × Action))) (ws : List ℕ) (r : Option Difference) → MatchOption first (left.entries from ≡ []) (λ entry. Begins (left.entries from) entry.now) → MatchOption first (ws ≡ replicate size 0) (λ entry. ws ≡ made_by entry.now.1 size) →
    Met (E.Send from to label ws ∷ []) left r mid → Met (E.Send from to label (words_sent left from size) ∷ []) left r mid × (r ≡ None → ws ≡ words_sent left from size)
sent left mid from to label size None ws r none is m =
    let e = is ∙ made_none left from size none in (subst (λ x. Met (E.Send from to label x ∷ []) left r mid) e m, λ h. e)
sent left mid from to label size (Some entry) ws r b is m = go (words_recorded entry.now.1) refl
  where
    go : (o : Option (List ℕ)) → words_recorded entry.now.1 ≡ o → Met (E.Send from to label (words_sent left from size) ∷ []) left r mid × (r ≡ None → ws ≡ words_sent left from size)
    go (Some vs) some = let e = is ∙ made_is left from size (Some vs) entry.now vs b some refl in (subst (λ x. Met (E.Send from to label x ∷ []) left r mid) e m, λ h. e)
    go None none =
        let o = other_answer words_recorded (λ x. E.Send from to label x) (λ x. refl) left from entry.now ws (words_sent left from size) r mid refl refl b none m in
        (o.0, λ h. absurd (o.1 h))

-- a message
pub message_met : (old mid new : Left) (from to label size : ℕ) (ws : List ℕ) (r : Option Difference) → Met (E.Send from to label (words_sent old from size) ∷ []) old None mid → ws ≡ words_sent old from size → Met (E.Recv to from label ws ∷ []) mid r new →
    Met (E.Send from to label (words_sent old from size) ∷ E.Recv to from label (words_sent old from size) ∷ []) old r new
message_met old mid new from to label size ws r h e k = met_then (E.Send from to label (words_sent old from size) ∷ []) (E.Recv to from label (words_sent old from size) ∷ []) old mid new r h (subst (λ x. Met (E.Recv to from label x ∷ []) mid r new) e k)

-- ---- choosing

taken_is : (left : Left) (at count otherwise : ℕ) (entry : ℕ × Action) (x : ℕ) → Begins (left.entries at) entry → branch_recorded entry.1 ≡ Some x → chosen_or (branch_recorded entry.1) count otherwise ≡ branch_taken left at count otherwise
taken_is left at count otherwise entry x b is =
    ap (λ p. chosen_or p count otherwise) is
    ∙ sym (ap (λ es. first_or (filter_map branch_recorded (actions_of es)) (λ branch. nat_lt branch count) otherwise) b.1 ∙ ap (λ p. first_or (cons_option p (filter_map branch_recorded (actions_of b.0))) (λ branch. nat_lt branch count) otherwise) is)

taken_none : (left : Left) (at count otherwise : ℕ) → left.entries at ≡ [] → otherwise ≡ branch_taken left at count otherwise
taken_none left at count otherwise e = sym (ap (λ es. first_or (filter_map branch_recorded (actions_of es)) (λ branch. nat_lt branch count) otherwise) e)

pub chose : (left mid : Left) (at kernel count otherwise : ℕ) (first : Option (Bor (ℕ × Action))) (x : ℕ) (r : Option Difference) → MatchOption first (left.entries at ≡ []) (λ entry. Begins (left.entries at) entry.now) → MatchOption first (x ≡ otherwise) (λ entry. x ≡ chosen_or (branch_recorded entry.now.1) count otherwise) →
    Met (E.Choose at kernel x ∷ []) left r mid → Met (E.Choose at kernel (branch_taken left at count otherwise) ∷ []) left r mid × (r ≡ None → x ≡ branch_taken left at count otherwise)
chose left mid at kernel count otherwise None x r none is m =
    let e = is ∙ taken_none left at count otherwise none in (subst (λ y. Met (E.Choose at kernel y ∷ []) left r mid) e m, λ h. e)
chose left mid at kernel count otherwise (Some entry) x r b is m = go (branch_recorded entry.now.1) refl
  where
    go : (o : Option ℕ) → branch_recorded entry.now.1 ≡ o → Met (E.Choose at kernel (branch_taken left at count otherwise) ∷ []) left r mid × (r ≡ None → x ≡ branch_taken left at count otherwise)
    go (Some y) some = let e = is ∙ taken_is left at count otherwise entry.now y b some in (subst (λ z. Met (E.Choose at kernel z ∷ []) left r mid) e m, λ h. e)
    go None none =
        let o = other_answer branch_recorded (λ y. E.Choose at kernel y) (λ y. refl) left at entry.now x (branch_taken left at count otherwise) r mid refl refl b none m in
        (o.0, λ h. absurd (o.1 h))
