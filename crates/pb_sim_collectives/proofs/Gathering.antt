-- What all have entered together stays as it is, and one more is added.
use Rattle.std.proofs.Common.{◌≡◌, ◌≢◌, ◌<◌, ◌≤◌, ℕ, zero, suc, ◌+◌, true, nat_eq, ◌⊎◌, inl, inr, Option, Some, None, List, [], ◌∷◌, ◌++◌, length, get_or, ap, ◌∙◌, sym, refl, subst, arith, length-append, length-set, get_or-set_same, get_or-set_other}
use Rattle.std.specs.List.{slice_set}
use Rattle.std.proofs.Math.ListN.{set}
use Rattle.std.proofs.Math.Path.{fun_ext}
use Rattle.std.proofs.lemmas.Bool.{cases_eq}
use Rattle.std.proofs.lemmas.Bool.Decides.{nat_tests}
use Rattle.std.specs.Option.{IfSome}
use Rattle.pb_syntax.specs.declared.tree.Op.{Op}
use Rattle.pb_syntax.specs.declared.tree.Payload.{Payload}
use Rattle.pb_local.specs.Collectives.{operation_of, combine, combined_of}
use Rattle.pb_sim_collectives.specs.declared.results.Combination.{Combination}
use Rattle.pb_sim_collectives.specs.declared.rounds.Rounds.{Rounds}
use Rattle.pb_sim_collectives.specs.declared.lists.Lists.{Lists}
use Rattle.pb_sim_collectives.specs.Joined.{came, all_entered}
use Rattle.pb_sim_collectives.specs.Lists.{items_of, words_in}
use Rattle.pb_sim_collectives.specs.Seen.{shown}
use Rattle.pb_sim_collectives.specs.Results.{IsDone, AreResults}
use Rattle.pb_sim_collectives.proofs.Entering.{each_came}

in_front : {A : Type 0} (xs : List A) (y : A) (k : ℕ) (d : A) → k < length xs → get_or (xs ++ y ∷ []) k d ≡ get_or xs k d
in_front [] y k d h = absurd (omega (arith, h))
in_front (x ∷ xs) y zero d h = refl
in_front (x ∷ xs) y (suc k) d h = in_front xs y k d (omega (arith, h))

-- ---- one entry more

module _ (lists : List (List (List ℕ))) (r : ℕ) (w : List ℕ) (h : r < length lists) where
  more : List (List (List ℕ))
  more = slice_set lists r (get_or lists r [] ++ w ∷ [])

  pub it : get_or (slice_set lists r (get_or lists r [] ++ w ∷ [])) r [] ≡ get_or lists r [] ++ w ∷ []
  it = get_or-set_same lists r (get_or lists r [] ++ w ∷ []) [] h

  other : (q : ℕ) → q ≢ r → get_or (slice_set lists r (get_or lists r [] ++ w ∷ [])) q [] ≡ get_or lists q []
  other q n = get_or-set_other lists r q (get_or lists r [] ++ w ∷ []) [] n

  long : length (slice_set lists r (get_or lists r [] ++ w ∷ [])) ≡ length lists
  long = length-set lists r (get_or lists r [] ++ w ∷ [])

  pub longer : (q : ℕ) → length (get_or lists q []) ≤ length (get_or (slice_set lists r (get_or lists r [] ++ w ∷ [])) q [])
  longer q = by_case (cases_eq q r) where
    by_case : (q ≡ r) ⊎ (q ≡ r → ⊥) → length (get_or lists q []) ≤ length (get_or (slice_set lists r (get_or lists r [] ++ w ∷ [])) q [])
    by_case (inl e) =
        let n : length (get_or (slice_set lists r (get_or lists r [] ++ w ∷ [])) q []) ≡ length (get_or lists r []) + 1 = ap (λ (k : ℕ). length (get_or (slice_set lists r (get_or lists r [] ++ w ∷ [])) k [])) e ∙ ap length it ∙ length-append (get_or lists r []) (w ∷ []) in
        let m : length (get_or lists q []) ≡ length (get_or lists r []) = ap (λ (k : ℕ). length (get_or lists k [])) e in
        omega (arith, n, m)
    by_case (inr e) = let n : length (get_or (slice_set lists r (get_or lists r [] ++ w ∷ [])) q []) ≡ length (get_or lists q []) = ap length (other q e) in omega (arith, n)

  same_words : (k q : ℕ) → k < length (get_or lists r []) → words_in (slice_set lists r (get_or lists r [] ++ w ∷ [])) k q ≡ words_in lists k q
  same_words k q lt = by_case (cases_eq q r) where
    by_case : (q ≡ r) ⊎ (q ≡ r → ⊥) → words_in (slice_set lists r (get_or lists r [] ++ w ∷ [])) k q ≡ words_in lists k q
    by_case (inl e) = ap (λ (i : ℕ). get_or (get_or (slice_set lists r (get_or lists r [] ++ w ∷ [])) i []) k []) e ∙ ap (λ xs. get_or xs k []) it ∙ in_front (get_or lists r []) w k [] lt ∙ ap (λ (i : ℕ). get_or (get_or lists i []) k []) (sym e)
    by_case (inr e) = ap (λ xs. get_or xs k []) (other q e)

  pub results_then : (last : Option Combination) → AreResults lists last → AreResults (slice_set lists r (get_or lists r [] ++ w ∷ [])) last
  results_then None a = tt
  results_then (Some x) a = record {
    closed = λ q lt. let c : x.number < length (get_or lists q []) = a.closed q (subst (λ (k : ℕ). q < k) long lt) in let m = longer q in omega (arith, c, m);
    is =
        a.is ∙ ap (λ (n : ℕ). combined_of (combine x.payload (operation_of x.op)) n (words_in lists x.number)) (sym long)
        ∙ ap (combined_of (combine x.payload (operation_of x.op)) (length (slice_set lists r (get_or lists r [] ++ w ∷ [])))) (sym (fun_ext (λ q. same_words x.number q (a.closed r h))));
  }

-- all have entered
pub all_closed : (rounds : Rounds) (lists : Lists) (k : ℕ) → all_entered (shown rounds lists) k ≡ true → (r : ℕ) → r < length (items_of lists) → k < length (get_or (items_of lists) r [])
all_closed rounds lists k e r h = each_came k (items_of lists) (equal_of e) r h where
  equal_of : nat_eq (came (shown rounds lists) k) (length (items_of lists)) ≡ true → came (shown rounds lists) k ≡ length (items_of lists)
  equal_of e = grind (arith, nat_tests)

-- the words that were found
pub found_some : {T : Type 0} (now : T → List ℕ) (last : Option Combination) (payload : Payload) (op : Op) (k : ℕ) (x : Combination) (o : Option T) → last ≡ Some x → IfSome o (λ words. (now words ≡ x.words.items) × (x.payload ≡ payload) × (x.op ≡ op) × (x.number ≡ k)) →
    IfSome o (λ words. (lists : List (List (List ℕ))) → AreResults lists last → now words ≡ combined_of (combine payload (operation_of op)) (length lists) (words_in lists k))
found_some now last payload op k x None e h = tt
found_some now last payload op k x (Some words) e h = λ lists a. found_is lists (subst (AreResults lists) e a) where
  found_is : (lists : List (List (List ℕ))) → IsDone lists x → now words ≡ combined_of (combine payload (operation_of op)) (length lists) (words_in lists k)
  found_is lists d =
      h.0 ∙ d.is ∙ ap (λ (p : Payload). combined_of (combine p (operation_of x.op)) (length lists) (words_in lists x.number)) h.1
      ∙ ap (λ (o : Op). combined_of (combine payload (operation_of o)) (length lists) (words_in lists x.number)) h.2
      ∙ ap (λ (n : ℕ). combined_of (combine payload (operation_of op)) (length lists) (words_in lists n)) h.3
