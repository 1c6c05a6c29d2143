-- One of many branches.
use Rattle.std.proofs.Common.{◌≡◌, ℕ, zero, suc, ◌<◌, ◌==◌, Bool, cond, true, false, ◌||◌, MatchBool, List, ◌∷◌, refl, sym, ap, ap₂, ◌∙◌, subst, inl, inr, nat_lt, lt-ltb, arith}
use Rattle.std.proofs.lemmas.Bool.{or_cases, or_right, or_left, cases_Bool, or_parts}
use Rattle.pb_core_language.specs.Flat.{Block, stop, message, compute, together, choice, looped, again, Branches, no_branch, branch, takes_part, takes_part_among, count, branch_at, can_end, some_can_end, ending, first_ending}
use Rattle.pb_core_language.specs.Run.{Env}
use Rattle.pb_core_endpoint.proofs.Kept.{Receives_first, Receives_each, first_label, first_label_among, Keeps, Keeps_each, Loops_end, Loops_end_each, Ends_before, Ends_before_each}

pub keeps_at : (T : ℕ) (env : Env) (bs : Branches) (x : ℕ) → Keeps_each T env bs → Keeps T env (branch_at x bs)
keeps_at T env no_branch x k = tt
keeps_at T env (branch mark b bs) zero k = k.0
keeps_at T env (branch mark b bs) (suc x) k = keeps_at T env bs x k.1

pub loops_end_at : (bs : Branches) (x : ℕ) → Loops_end_each bs → Loops_end (branch_at x bs)
loops_end_at no_branch x k = tt
loops_end_at (branch mark b bs) zero k = k.0
loops_end_at (branch mark b bs) (suc x) k = loops_end_at bs x k.1

pub ends_before_at : (bs : Branches) (x : ℕ) → Ends_before_each bs → Ends_before (branch_at x bs)
ends_before_at no_branch x k = tt
ends_before_at (branch mark b bs) zero k = k.0
ends_before_at (branch mark b bs) (suc x) k = ends_before_at bs x k.1

pub part_at : (held : List Bool) (r : ℕ) (bs : Branches) (x : ℕ) → takes_part held r (branch_at x bs) ≡ true → takes_part_among held r bs ≡ true
part_at held r no_branch x h = h
part_at held r (branch mark b bs) zero h = or_left (takes_part held r b) (takes_part_among held r bs) h
part_at held r (branch mark b bs) (suc x) h = or_right (takes_part held r b) (takes_part_among held r bs) (part_at held r bs x h)

pub no_part_at : (held : List Bool) (r : ℕ) (bs : Branches) (x : ℕ) → takes_part_among held r bs ≡ false → takes_part held r (branch_at x bs) ≡ false
no_part_at held r no_branch x h = refl
no_part_at held r (branch mark b bs) zero h = (or_parts (takes_part held r b) (takes_part_among held r bs) h).0
no_part_at held r (branch mark b bs) (suc x) h = no_part_at held r bs x (or_parts (takes_part held r b) (takes_part_among held r bs) h).1

pub receives_in : (held : List Bool) (r p : ℕ) (bs : Branches) (x : ℕ) → x < count bs → Receives_each held r p bs → Receives_first held r p (branch_at x bs)
receives_in held r p no_branch x lt h = absurd (omega arith)
receives_in held r p (branch mark b bs) zero lt h = h.0
receives_in held r p (branch mark b bs) (suc x) lt h = receives_in held r p bs x (omega arith) h.1

pub label_at : (held : List Bool) (r : ℕ) (bs : Branches) (x l : ℕ) → first_label held r (branch_at x bs) l ≡ true → first_label_among held r bs l ≡ true
label_at held r no_branch x l h = h
label_at held r (branch mark b bs) zero l h = or_left (first_label held r b l) (first_label_among held r bs l) h
label_at held r (branch mark b bs) (suc x) l h = or_right (first_label held r b l) (first_label_among held r bs l) (label_at held r bs x l h)

-- the first branch that can end
ending_at : (bs : Branches) → some_can_end bs ≡ true → (ending bs < count bs) × (can_end (branch_at (ending bs) bs) ≡ true)
ending_at no_branch h = cc
ending_at (branch mark b bs) h = go (can_end b) refl (ending_at bs)
  where
    go : (c : Bool) → can_end b ≡ c → (some_can_end bs ≡ true → (ending bs < count bs) × (can_end (branch_at (ending bs) bs) ≡ true)) → (cond c 0 (suc (ending bs)) < suc (count bs)) × (can_end (branch_at (cond c 0 (suc (ending bs))) (branch mark b bs)) ≡ true)
    go true e more = (omega arith, e)
    go false e more =
        let it = more (elim (or_cases (can_end b) (some_can_end bs) h) [ inl y ↦ (let z = e in cc) | inr y ↦ y ]) in
        ((let lt = it.0 in omega arith), it.1)

pub first_ending_fine : (bs : Branches) → 0 < count bs → nat_lt (first_ending bs) (count bs) ≡ true
first_ending_fine bs lt = go (nat_lt (ending bs) (count bs)) refl
  where
    go : (c : Bool) → nat_lt (ending bs) (count bs) ≡ c → nat_lt (cond c (ending bs) 0) (count bs) ≡ true
    go true e = e
    go false e = lt-ltb 0 (count bs) lt

pub first_ending_ends : (bs : Branches) → some_can_end bs ≡ true → can_end (branch_at (first_ending bs) bs) ≡ true
first_ending_ends bs h =
    let it = ending_at bs h in
    subst (λ c. can_end (branch_at (cond c (ending bs) 0) bs) ≡ true) (sym (lt-ltb (ending bs) (count bs) it.0)) it.1

-- where no branch can end, none of them can
pub none_ends : (bs : Branches) (x : ℕ) → x < count bs → some_can_end bs ≡ false → can_end (branch_at x bs) ≡ false
none_ends no_branch x lt h = absurd (omega arith)
none_ends (branch mark b bs) zero lt h = (or_parts (can_end b) (some_can_end bs) h).0
none_ends (branch mark b bs) (suc x) lt h = none_ends bs x (omega arith) (or_parts (can_end b) (some_can_end bs) h).1

-- who receives first takes part
mutual
  pub part_first : (held : List Bool) (r p : ℕ) (g : Block) → Receives_first held r p g → takes_part held r g ≡ true
  part_first held r p stop h = absurd h
  part_first held r p (message origin p' q' l g) h =
      elim (cases_Bool (p' == r)) [
        | inl y ↦ ap (λ u. u || ((q' == r) || takes_part held r g)) y
        | inr y ↦
            let h' = subst (λ u. MatchBool u ⊥ (MatchBool (q' == r) (p' ≡ p) (Receives_first held r p g))) y h in
            elim (cases_Bool (q' == r)) [
              | inl z ↦ ap₂ (λ u v. u || (v || takes_part held r g)) y z
              | inr z ↦ ap₂ (λ u v. u || (v || takes_part held r g)) y z ∙ part_first held r p g (subst (λ u. MatchBool u (p' ≡ p) (Receives_first held r p g)) z h')
            ]
      ]
  part_first held r p (compute origin p' k g) h =
      elim (cases_Bool (p' == r)) [
        | inl y ↦ ap (λ u. u || takes_part held r g) y
        | inr y ↦ ap (λ u. u || takes_part held r g) y ∙ part_first held r p g (subst (λ u. MatchBool u ⊥ (Receives_first held r p g)) y h)
      ]
  part_first held r p (together origin j g) h = refl
  part_first held r p (choice origin p' k bs g) h =
      elim (cases_Bool (p' == r)) [
        | inl y ↦ ap (λ u. (u || takes_part_among held r bs) || takes_part held r g) y
        | inr y ↦
            let h' = subst (λ u. MatchBool u ⊥ (MatchBool (takes_part_among held r bs) (Receives_each held r p bs) (Receives_first held r p g))) y h in
            elim (cases_Bool (takes_part_among held r bs)) [
              | inl z ↦ ap₂ (λ u v. (u || v) || takes_part held r g) y z
              | inr z ↦ ap₂ (λ u v. (u || v) || takes_part held r g) y z ∙ part_first held r p g (subst (λ u. MatchBool u (Receives_each held r p bs) (Receives_first held r p g)) z h')
            ]
      ]
  part_first held r p (looped origin b g) h =
      elim (cases_Bool (takes_part (false ∷ held) r b)) [
        | inl z ↦ ap (λ u. u || takes_part held r g) z
        | inr z ↦ ap (λ u. u || takes_part held r g) z ∙ part_first held r p g (subst (λ u. MatchBool u (Receives_first (true ∷ held) r p b) (Receives_first held r p g)) z h)
      ]
  part_first held r p (again n) h = absurd h
