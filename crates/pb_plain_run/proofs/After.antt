-- What lists of actions leave of a table.
use Rattle.std.proofs.Common.{◌≡◌, ℕ, zero, suc, ◌+◌, ◌==◌, cond, Bool, true, false, List, [], ◌∷◌, ◌++◌, Option, Some, None, filter_map, refl, ap, ◌∙◌, arith}
use Rattle.std.proofs.lemmas.List.Elements.{filter_map-append}
use Rattle.pb_world.specs.Actions.{Action, Choose, Run, Send, Recv, Enter, Leave, Collective, Answers, AnswerTable, done_by, of_rank}
use Rattle.pb_world.specs.Family.{each}
use Rattle.pb_world.specs.Sequencer.{answers_after, answers_after_all}
use Rattle.pb_plain_run.specs.Used.{branch_used, words_used, left_after}
use Rattle.pb_plain_run.proofs.Tables.{same_table}

abbrev pick : {X : Type 0} → Option X → List X → List X
pick None xs = xs
pick (Some x) xs = x ∷ xs

pick_first : {X Y : Type 0} (f : X → Option Y) (x : X) (xs : List X) → filter_map f (x ∷ xs) ≡ pick (f x) (filter_map f xs)
pick_first {X} {Y} f x xs = at (f x) refl
  where
    at : (o : Option Y) → f x ≡ o → filter_map f (x ∷ xs) ≡ pick o (filter_map f xs)
    at None e = rw e refl
    at (Some y) e = rw e refl

-- one action, and more behind it
first_used : (c : Bool) (a : Action) (s : List Action) (x : Answers) → answers_after_all (pick (cond c (Some a) None) s) x ≡ answers_after_all s (cond c (answers_after a x) x)
first_used true a s x = refl
first_used false a s x = refl

one_used : (r p : ℕ) (a : Action) (s : List (ℕ × Action)) (x : Answers) → answers_after_all (of_rank r ((p, a) ∷ s)) x ≡ answers_after_all (of_rank r s) (cond (p == r) (answers_after a x) x)
one_used r p a s x = ap (λ t. answers_after_all t x) (pick_first (done_by r) (p, a) s) ∙ first_used (p == r) a (of_rank r s) x

either_way : {X : Type 0} (c : Bool) (x : X) → cond c x x ≡ x
either_way true x = refl
either_way false x = refl

pub after_message : (p q l : ℕ) (us vs : List ℕ) (A : AnswerTable) → left_after ((p, Send q l us) ∷ (q, Recv p l vs) ∷ []) A ≡ words_used p A
after_message p q l us vs A = same_table (left_after ((p, Send q l us) ∷ (q, Recv p l vs) ∷ []) A) (words_used p A) (λ r.
    one_used r p (Send q l us) ((q, Recv p l vs) ∷ []) (A r)
    ∙ one_used r q (Recv p l vs) [] (words_used p A r)
    ∙ either_way (q == r) (words_used p A r))

pub after_compute : (p k : ℕ) (A : AnswerTable) → left_after ((p, Run k) ∷ []) A ≡ A
after_compute p k A = same_table (left_after ((p, Run k) ∷ []) A) A (λ r. one_used r p (Run k) [] (A r) ∙ either_way (p == r) (A r))

pub after_choice : (p k n b : ℕ) (A : AnswerTable) → left_after ((p, Choose k n b) ∷ []) A ≡ branch_used p A
after_choice p k n b A = same_table (left_after ((p, Choose k n b) ∷ []) A) (branch_used p A) (λ r. one_used r p (Choose k n b) [] (A r))

-- ---- collectives

answers_append : (s t : List Action) (x : Answers) → answers_after_all (s ++ t) x ≡ answers_after_all t (answers_after_all s x)
answers_append [] t x = refl
answers_append (a ∷ s) t x = answers_append s t (answers_after a x)

pub after_append : (s t : List (ℕ × Action)) (A : AnswerTable) → left_after (s ++ t) A ≡ left_after t (left_after s A)
after_append s t A = same_table (left_after (s ++ t) A) (left_after t (left_after s A)) (λ r.
    ap (λ u. answers_after_all u (A r)) (filter_map-append (done_by r) s t) ∙ answers_append (of_rank r s) (of_rank r t) (A r))

pub after_entry : (p : ℕ) (j : Collective) (x : ℕ) (ws : List ℕ) (A : AnswerTable) → left_after ((p, Enter j (x ∷ ws)) ∷ []) A ≡ words_used p A
after_entry p j x ws A = same_table (left_after ((p, Enter j (x ∷ ws)) ∷ []) A) (words_used p A) (λ r. one_used r p (Enter j (x ∷ ws)) [] (A r))

pub after_empty_entry : (p : ℕ) (j : Collective) (A : AnswerTable) → left_after ((p, Enter j []) ∷ []) A ≡ A
after_empty_entry p j A = same_table (left_after ((p, Enter j []) ∷ []) A) A (λ r. one_used r p (Enter j []) [] (A r) ∙ either_way (p == r) (A r))

after_leave : (p : ℕ) (j : Collective) (ws : List ℕ) (A : AnswerTable) → left_after ((p, Leave j ws) ∷ []) A ≡ A
after_leave p j ws A = same_table (left_after ((p, Leave j ws) ∷ []) A) A (λ r. one_used r p (Leave j ws) [] (A r) ∙ either_way (p == r) (A r))

pub after_leaves : (n : ℕ) (j : Collective) (f : ℕ → List ℕ) (A : AnswerTable) → left_after (each n (λ p. Leave j (f p))) A ≡ A
after_leaves zero j f A = refl
after_leaves (suc n) j f A =
    after_append (each n (λ p. Leave j (f p))) ((n, Leave j (f n)) ∷ []) A
    ∙ after_leave n j (f n) (left_after (each n (λ p. Leave j (f p))) A)
    ∙ after_leaves n j f A

pub each_next : (n : ℕ) (f : ℕ → Action) → each (n + 1) f ≡ each n f ++ (n, f n) ∷ []
each_next n f = let e : n + 1 ≡ suc n = omega arith in ap (λ k. each k f) e

pub each_same : (n : ℕ) (f g : ℕ → Action) → ((p : ℕ) → f p ≡ g p) → each n f ≡ each n g
each_same n f g h = ap (each n) (λ i p. h p i)
