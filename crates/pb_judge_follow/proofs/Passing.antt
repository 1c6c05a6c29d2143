-- What actions that fit leave of a log's entries.
use Rattle.std.proofs.Common.{◌≡◌, ℕ, zero, suc, ◌+◌, ◌≤◌, ◌<◌, ◌==◌, cond, Bool, true, false, ◌||◌, inl, inr, List, [], ◌∷◌, ◌++◌, length, drop, slice_get, Some, None, refl, sym, ap, ap₂, subst, ◌∙◌, arith}
use Rattle.std.specs.List.{cons_option}
use Rattle.std.proofs.lemmas.Bool.{eq-eqb}
use Rattle.pb_text.specs.declared.action.Action.{Action}
use Rattle.pb_world.specs.Log.{rank_of, log_of_rank}
use Rattle.pb_world.specs.Sequencer.{behind_first}
use Rattle.pb_world.proofs.Lists.{eqb_cases}
use Rattle.pb_judge_ruling.specs.Ruling.{actions_of}
use Rattle.pb_judge_follow.specs.Follow.{Left, is_none, Fits, passed, AllFit, all_passed}

-- ---- two lists, one behind the other

pub fits_append : (xs ys : List Action) (left : Left) → AllFit xs left → AllFit ys (all_passed xs left) → AllFit (xs ++ ys) left
fits_append [] ys left h k = k
fits_append (x ∷ xs) ys left h k = (h.0, fits_append xs ys (passed x left) h.1 k)

pub passed_append : (xs ys : List Action) (left : Left) → all_passed (xs ++ ys) left ≡ all_passed ys (all_passed xs left)
passed_append [] ys left = refl
passed_append (x ∷ xs) ys left = passed_append xs ys (passed x left)

-- ---- one action of a rank, and of another

pub rank_same : (a : Action) (g : List Action) (r : ℕ) → (rank_of a == r) ≡ true → log_of_rank r (a ∷ g) ≡ a ∷ log_of_rank r g
rank_same a g r e = ap (λ b. cons_option (cond b (Some a) None) (log_of_rank r g)) e

pub rank_other : (a : Action) (g : List Action) (r : ℕ) → (rank_of a == r) ≡ false → log_of_rank r (a ∷ g) ≡ log_of_rank r g
rank_other a g r e = ap (λ b. cons_option (cond b (Some a) None) (log_of_rank r g)) e

pub entries_same : (a : Action) (left : Left) (r : ℕ) → (rank_of a == r) ≡ true → (passed a left).entries r ≡ behind_first (left.entries r)
entries_same a left r e = ap (λ b. cond b (behind_first (left.entries r)) (left.entries r)) e

pub entries_other : (a : Action) (left : Left) (r : ℕ) → (rank_of a == r) ≡ false → (passed a left).entries r ≡ left.entries r
entries_other a left r e = ap (λ b. cond b (behind_first (left.entries r)) (left.entries r)) e

-- ---- lists

drop_first : {A : Type 0} (k : ℕ) (es : List A) → drop k (behind_first es) ≡ drop (suc k) es
drop_first zero [] = refl
drop_first (suc k) [] = refl
drop_first k (e ∷ es) = refl

pub drop_get : {A : Type 0} (k : ℕ) (es : List A) (e : A) (rest : List A) → drop k es ≡ e ∷ rest → slice_get es k ≡ Some e
drop_get zero [] e rest h = absurd cc
drop_get zero (x ∷ es) e rest h = let same : x ≡ e = cc in ap Some same
drop_get (suc k) [] e rest h = absurd cc
drop_get (suc k) (x ∷ es) e rest h = drop_get k es e rest h

pub drop_none : {A : Type 0} (k : ℕ) (es : List A) → drop k es ≡ [] → length es ≤ k
drop_none zero [] h = omega arith
drop_none zero (x ∷ es) h = absurd cc
drop_none (suc k) [] h = omega arith
drop_none (suc k) (x ∷ es) h = let le = drop_none k es h in omega (arith, le)

behind_length : {A : Type 0} (es : List A) → length es ≤ suc (length (behind_first es))
behind_length [] = omega arith
behind_length (e ∷ es) = omega arith

or_parts : (a b : Bool) → (a || b) ≡ false → (a ≡ false) × (b ≡ false)
or_parts true b h = absurd cc
or_parts false b h = (refl, h)

-- ---- what is left

pub left_is : (g : List Action) (left : Left) (r : ℕ) → (all_passed g left).entries r ≡ drop (length (log_of_rank r g)) (left.entries r)
left_is [] left r = refl
left_is (a ∷ g) left r = elim (eqb_cases (rank_of a) r) [
  | inl y ↦ left_is g (passed a left) r ∙ ap (drop (length (log_of_rank r g))) (entries_same a left r y.1) ∙ drop_first (length (log_of_rank r g)) (left.entries r)
      ∙ ap (λ xs. drop (length xs) (left.entries r)) (sym (rank_same a g r y.1))
  | inr y ↦ left_is g (passed a left) r ∙ ap (drop (length (log_of_rank r g))) (entries_other a left r y.1) ∙ ap (λ xs. drop (length xs) (left.entries r)) (sym (rank_other a g r y.1))
]

-- ---- agreeing

one_place : (es : List (ℕ × Action)) (xs : List Action) (a : Action) (k : ℕ) (x y : Action) → Fits es a → slice_get (a ∷ xs) k ≡ Some x → slice_get (actions_of es) k ≡ Some y →
    ((i : ℕ) → slice_get xs i ≡ Some x → slice_get (actions_of (behind_first es)) i ≡ Some y → x ≡ y) → x ≡ y
one_place [] xs a k x y f h i more = absurd cc
one_place (e ∷ es) xs a zero x y f h i more = let u : a ≡ x = cc in let v : e.1 ≡ y = cc in sym u ∙ sym f ∙ v
one_place (e ∷ es) xs a (suc k) x y f h i more = more k h i

pub fits_agree : (g : List Action) (left : Left) (r k : ℕ) (x y : Action) → AllFit g left → slice_get (log_of_rank r g) k ≡ Some x → slice_get (actions_of (left.entries r)) k ≡ Some y → x ≡ y
fits_agree [] left r k x y f h i = absurd cc
fits_agree (a ∷ g) left r k x y f h i = elim (eqb_cases (rank_of a) r) [
  | inl t ↦ one_place (left.entries r) (log_of_rank r g) a k x y (subst (λ q. Fits (left.entries q) a) t.0 f.0) (ap (λ xs. slice_get xs k) (sym (rank_same a g r t.1)) ∙ h) i
      (λ j u v. fits_agree g (passed a left) r j x y f.1 u (ap (λ es. slice_get (actions_of es) j) (entries_same a left r t.1) ∙ v))
  | inr t ↦ fits_agree g (passed a left) r k x y f.1 (ap (λ xs. slice_get xs k) (sym (rank_other a g r t.1)) ∙ h) (ap (λ es. slice_get (actions_of es) k) (entries_other a left r t.1) ∙ i)
]

-- ---- what is owed

pub owed_before : (g : List Action) (left : Left) → (all_passed g left).owes ≡ false → left.owes ≡ false
owed_before [] left h = h
owed_before (a ∷ g) left h = (or_parts left.owes (is_none (left.entries (rank_of a))) (owed_before g (passed a left) h)).0

rebuilt : (es : List (ℕ × Action)) (a : Action) (xs : List Action) → Fits es a → is_none es ≡ false → actions_of (behind_first es) ≡ xs → actions_of es ≡ a ∷ xs
rebuilt [] a xs f n h = absurd cc
rebuilt (e ∷ es) a xs f n h = ap₂ (λ z zs. z ∷ zs) f h

-- where nothing is owed and nothing left, a rank has done its part
pub part_is : (g : List Action) (left : Left) (r : ℕ) → AllFit g left → (all_passed g left).owes ≡ false → (all_passed g left).entries r ≡ [] → actions_of (left.entries r) ≡ log_of_rank r g
part_is [] left r f o h = ap actions_of h
part_is (a ∷ g) left r f o h =
    let more = part_is g (passed a left) r f.1 o h in
    let some = (or_parts left.owes (is_none (left.entries (rank_of a))) (owed_before g (passed a left) o)).1 in
    elim (eqb_cases (rank_of a) r) [
      | inl t ↦ rebuilt (left.entries r) a (log_of_rank r g) (subst (λ q. Fits (left.entries q) a) t.0 f.0) (subst (λ q. is_none (left.entries q) ≡ false) t.0 some) (ap actions_of (sym (entries_same a left r t.1)) ∙ more) ∙ sym (rank_same a g r t.1)
      | inr t ↦ ap actions_of (sym (entries_other a left r t.1)) ∙ more ∙ sym (rank_other a g r t.1)
    ]

-- where something is owed, the run has more of some rank than the log
pub owed_some : (g : List Action) (left : Left) → left.owes ≡ false → (all_passed g left).owes ≡ true → (r : ℕ) × (length (left.entries r) < length (log_of_rank r g))
owed_some [] left o h = absurd cc
owed_some (a ∷ g) left o h = go (left.entries (rank_of a)) refl (λ p. owed_some g (passed a left) p h)
  where
    longer : ((r : ℕ) × (length ((passed a left).entries r) < length (log_of_rank r g))) → (r : ℕ) × (length (left.entries r) < length (log_of_rank r (a ∷ g)))
    longer m =
        let lt = m.1 in
        let r = m.0 in (
          r,
          elim (eqb_cases (rank_of a) r) [
            | inl t ↦ (let u = ap length (entries_same a left r t.1) in
                let v = ap length (rank_same a g r t.1) in
                let w = behind_length (left.entries r) in omega (arith, lt, u, v, w))
            | inr t ↦ (let u = ap length (entries_other a left r t.1) in
                let v = ap length (rank_other a g r t.1) in omega (arith, lt, u, v))
          ],
        )

    go : (es : List (ℕ × Action)) → left.entries (rank_of a) ≡ es → ((passed a left).owes ≡ false → (r : ℕ) × (length ((passed a left).entries r) < length (log_of_rank r g))) → (r : ℕ) × (length (left.entries r) < length (log_of_rank r (a ∷ g)))
    go [] e more = (
      rank_of a,
      let u = ap length e in
          let v = ap length (rank_same a g (rank_of a) (eq-eqb (rank_of a) (rank_of a) refl)) in omega (arith, u, v),
    )
    go (x ∷ es) e more = longer (more (ap₂ (λ p q. p || q) o (ap is_none e)))

-- ---- what is used

pub used_most : (g : List Action) (left : Left) → left.used ≤ (all_passed g left).used
used_most [] left = omega arith
used_most (a ∷ g) left = let le = used_most g (passed a left) in omega (arith, le)

same_entries : (a : Action) (left : Left) (r : ℕ) (es : List (ℕ × Action)) → left.entries (rank_of a) ≡ es → left.used + cond (is_none es) 0 1 ≤ left.used → (passed a left).entries r ≡ left.entries r
same_entries a left r (e ∷ es) is le = absurd (omega (arith, le))
same_entries a left r [] is le = elim (eqb_cases (rank_of a) r) [
  | inl t ↦ (let none : left.entries r ≡ [] = subst (λ q. left.entries q ≡ []) t.0 is in entries_same a left r t.1 ∙ ap behind_first none ∙ sym none)
  | inr t ↦ entries_other a left r t.1
]

-- where no more are used, as much is left
pub used_same : (g : List Action) (left : Left) → (all_passed g left).used ≡ left.used → (r : ℕ) → (all_passed g left).entries r ≡ left.entries r
used_same [] left h r = refl
used_same (a ∷ g) left h r =
    let most = used_most g (passed a left) in
    let first = used_most (a ∷ []) left in
    let le : (passed a left).used ≤ left.used = omega (arith, most, h) in
    used_same g (passed a left) (omega (arith, most, first, h)) r ∙ same_entries a left r (left.entries (rank_of a)) refl le
