-- The map from actions to their log keeps what is said of one rank.
use Rattle.std.proofs.Common.{◌≡◌, ℕ, ◌==◌, cond, Bool, List, [], ◌∷◌, ◌++◌, map, filter_map, Option, Some, None, refl, sym, ap, ap₂, ◌∙◌, inl, inr}
use Rattle.std.proofs.lemmas.List.{map-append}
use Rattle.std.specs.List.{cons_option}
use Rattle.pb_world.specs.Actions.{Action, Choose, Run, Send, Recv, Enter, Leave, of_rank, branch_in, words_in, answers_of, Covers}
use Rattle.pb_world.specs.Log.{recorded, log_of, rank_of, log_of_rank, LogCovers, branch_recorded, words_recorded, log_answers, LogLaws}
use Rattle.pb_world.proofs.Lists.{eqb_cases}

rank_recorded : (r : ℕ) (a : Action) → rank_of (recorded r a) ≡ r
rank_recorded r (Choose kernel branches branch) = refl
rank_recorded r (Run kernel) = refl
rank_recorded r (Send to label words) = refl
rank_recorded r (Recv from label words) = refl
rank_recorded r (Enter collective words) = refl
rank_recorded r (Leave collective words) = refl

-- one rank's part
log_rank : (w : List (ℕ × Action)) (r : ℕ) → log_of_rank r (log_of w) ≡ map (recorded r) (of_rank r w)
log_rank [] r = refl
log_rank (step ∷ w) r =
    let ih = log_rank w r in
    let test : (rank_of (recorded step.0 step.1) == r) ≡ (step.0 == r) = ap (λ n. n == r) (rank_recorded step.0 step.1) in
    let entry = λ (b : Bool). cons_option (cond b (Some (recorded step.0 step.1)) None) (log_of_rank r (log_of w)) in
    let action = λ (b : Bool). map (recorded r) (cons_option (cond b (Some step.1) None) (of_rank r w)) in
    elim (eqb_cases step.0 r) [
      | inl y ↦ ap entry (test ∙ y.1) ∙ ap₂ (λ n l. recorded n step.1 ∷ l) y.0 ih ∙ sym (ap action y.1)
      | inr y ↦ ap entry (test ∙ y.1) ∙ ih ∙ sym (ap action y.1)
    ]

log_covers : (g w : List (ℕ × Action)) → Covers g w → LogCovers (log_of g) (log_of w)
log_covers g w cov r =
    let more = (cov r).0 in (
      map (recorded r) more,
      ap (λ l. l ++ map (recorded r) more) (log_rank w r) ∙ sym (map-append (recorded r) (of_rank r w) more) ∙ ap (map (recorded r)) (cov r).1 ∙ sym (log_rank g r),
    )

-- what is picked from a mapped list is picked from the list
picked_same : {A B C : Type 0} (f : B → Option C) (g : A → B) (h : A → Option C) → ((x : A) → f (g x) ≡ h x) → (xs : List A) → filter_map f (map g xs) ≡ filter_map h xs
picked_same f g h e [] = refl
picked_same f g h e (x ∷ xs) = ap₂ (λ o l. cons_option o l) (e x) (picked_same f g h e xs)

branch_same : (r : ℕ) (a : Action) → branch_recorded (recorded r a) ≡ branch_in a
branch_same r (Choose kernel branches branch) = refl
branch_same r (Run kernel) = refl
branch_same r (Send to label words) = refl
branch_same r (Recv from label words) = refl
branch_same r (Enter collective words) = refl
branch_same r (Leave collective words) = refl

words_same : (r : ℕ) (a : Action) → words_recorded (recorded r a) ≡ words_in a
words_same r (Choose kernel branches branch) = refl
words_same r (Run kernel) = refl
words_same r (Send to label words) = refl
words_same r (Recv from label words) = refl
words_same r (Enter collective words) = refl
words_same r (Leave collective words) = refl

same_answers : (w : List (ℕ × Action)) (r : ℕ) → log_answers (log_of w) r ≡ answers_of w r
same_answers w r =
    let s = of_rank r w in
    ap₂ (λ (b : List ℕ) (ws : List (List ℕ)). record { branches = b; words = ws })
    (ap (filter_map branch_recorded) (log_rank w r) ∙ picked_same branch_recorded (recorded r) branch_in (branch_same r) s)
    (ap (filter_map words_recorded) (log_rank w r) ∙ picked_same words_recorded (recorded r) words_in (words_same r) s)

pub log_laws : LogLaws
log_laws = record { rank = log_rank; covers = log_covers; answers = same_answers }
