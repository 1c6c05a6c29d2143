-- What the parts of a step add to the list of actions, and use up.
use Rattle.std.proofs.Common.{◌≡◌, ◌≢◌, ℕ, zero, suc, ◌+◌, ◌==◌, cond, Bool, true, false, List, [], ◌∷◌, ◌++◌, length, replicate, append_assoc, Result, Ok, Err, IfOk, refl, sym, ap, ap₂, ◌∙◌, arith}
use Rattle.std.proofs.lemmas.Bool.{eqb-true}
use Rattle.pb_world.specs.Actions.{Action, Choose, Run, Send, Recv, Enter, Leave, Collective, AnswerTable}
use Rattle.pb_world.specs.Family.{each}
use Rattle.pb_world.specs.Sequencer.{first_or}
use Rattle.pb_core_language.specs.Run.{enter_words}
use Rattle.pb_plain_run.specs.declared.setting.Setting.{Setting}
use Rattle.pb_plain_run.specs.Used.{Adds, left_after, words_used, branch_used, entry_used}
use Rattle.pb_plain_run.specs.Setting.{setting_of, shared, leaves_with_words, entries}
use Rattle.pb_plain_run.proofs.After.{after_message, after_compute, after_choice, after_append, after_entry, after_empty_entry, after_leaves, each_next, each_same}
use Rattle.pb_plain_run.proofs.Shares.{outcome_is}

-- what an Ok holds has a property where it has one that is stronger
pub if_ok : {X E : Type 0} (r : Result X E) (P Q : X → Type 0) → ((x : X) → P x → Q x) → IfOk r P → IfOk r Q
if_ok (Ok x) P Q more h = more x h
if_ok (Err e) P Q more h = tt

pub sized : (xs : List (List ℕ)) (s n : ℕ) (v : List ℕ) → s ≡ n → v ≡ first_or xs (λ ws. length ws == s) (replicate s 0) → v ≡ first_or xs (λ ws. length ws == n) (replicate n 0)
sized xs s n v e h = h ∙ ap (λ k. first_or xs (λ ws. length ws == k) (replicate k 0)) e

pub message_adds : (p q l : ℕ) (us vs ws : List ℕ) (old mid new : List (ℕ × Action)) (A B : AnswerTable) → us ≡ ws → vs ≡ us → mid ≡ old ++ (p, Send q l us) ∷ [] → new ≡ mid ++ (q, Recv p l vs) ∷ [] → B ≡ words_used p A →
    Adds ((p, Send q l ws) ∷ (q, Recv p l ws) ∷ []) old new A B
message_adds p q l us vs ws old mid new A B u v a b left = record {
  actions =
      b ∙ ap₂ (λ m x. m ++ (q, Recv p l x) ∷ []) (a ∙ ap (λ x. old ++ (p, Send q l x) ∷ []) u) (v ∙ u)
      ∙ append_assoc old ((p, Send q l ws) ∷ []) ((q, Recv p l ws) ∷ []);
  left = left ∙ sym (after_message p q l ws ws A);
}

pub compute_adds : (p k : ℕ) (old new : List (ℕ × Action)) (A : AnswerTable) → new ≡ old ++ (p, Run k) ∷ [] → Adds ((p, Run k) ∷ []) old new A A
compute_adds p k old new A e = record { actions = e; left = sym (after_compute p k A) }

pub choice_adds : (p k n m b x : ℕ) (old new : List (ℕ × Action)) (A B : AnswerTable) → n ≡ m → b ≡ x → new ≡ old ++ (p, Choose k n b) ∷ [] → B ≡ branch_used p A → Adds ((p, Choose k m x) ∷ []) old new A B
choice_adds p k n m b x old new A B e f g left = record { actions = g ∙ ap₂ (λ y z. old ++ (p, Choose k y z) ∷ []) e f; left = left ∙ sym (after_choice p k m x A) }

-- ---- collectives

-- a loop's step, which adds the action of rank p
pub entry_added : (F : ℕ → Action) (base old new : List (ℕ × Action)) (p : ℕ) (a : Action) → old ≡ base ++ each p F → a ≡ F p → new ≡ old ++ (p, a) ∷ [] → new ≡ base ++ each (p + 1) F
entry_added F base old new p a so_far is pushed =
    pushed ∙ ap₂ (λ l x. l ++ (p, x) ∷ []) so_far is ∙ append_assoc base (each p F) ((p, F p) ∷ []) ∙ ap (λ l. base ++ l) (sym (each_next p F))

pub entered_is : (s : Setting) (A : AnswerTable) (j : Collective) (p n : ℕ) (v : List ℕ) → n ≡ (setting_of s).weight j p → v ≡ enter_words n (λ ws. length ws == n) (A p).words → v ≡ entries s A j p
entered_is s A j p n v e h = h ∙ ap (λ k. enter_words k (λ ws. length ws == k) (A p).words) e

pub entry_more : (n p : ℕ) (A : AnswerTable) → n ≢ 0 → entry_used n p A ≡ words_used p A
entry_more zero p A h = absurd (h refl)
entry_more (suc n) p A h = refl

entry_after : (p n : ℕ) (j : Collective) (xs : List (List ℕ)) (A : AnswerTable) → left_after ((p, Enter j (enter_words n (λ ws. length ws == n) xs)) ∷ []) A ≡ entry_used n p A
entry_after p zero j xs A = after_empty_entry p j A
entry_after p (suc n) j [] A = after_entry p j 0 (replicate n 0) A
entry_after p (suc n) j (y ∷ ys) A = go (length y == suc n) refl
  where
    some : (z : List ℕ) → length z ≡ suc n → left_after ((p, Enter j z) ∷ []) A ≡ words_used p A
    some [] e = absurd (omega arith)
    some (x ∷ z) e = after_entry p j x z A

    go : (c : Bool) → (length y == suc n) ≡ c → left_after ((p, Enter j (cond c y (replicate (suc n) 0))) ∷ []) A ≡ words_used p A
    go true is = some y (eqb-true (length y) (suc n) is)
    go false is = after_entry p j 0 (replicate n 0) A

pub entries_step : (s : Setting) (j : Collective) (A B C : AnswerTable) (p n : ℕ) → B ≡ left_after (each p (λ q. Enter j (entries s A j q))) A → n ≡ (setting_of s).weight j p → C ≡ entry_used n p B →
    C ≡ left_after (each (p + 1) (λ q. Enter j (entries s A j q))) A
entries_step s j A B C p n so_far is used =
    used ∙ ap₂ (λ k X. entry_used k p X) is so_far
    ∙ sym (entry_after p ((setting_of s).weight j p) j (A p).words (left_after (each p (λ q. Enter j (entries s A j q))) A))
    ∙ sym (after_append (each p (λ q. Enter j (entries s A j q))) ((p, Enter j (entries s A j p)) ∷ []) A)
    ∙ ap (λ l. left_after l A) (sym (each_next p (λ q. Enter j (entries s A j q))))

pub together_adds : (s : Setting) (j : Collective) (words : List ℕ) (old mid new : List (ℕ × Action)) (A B : AnswerTable) →
    mid ≡ old ++ each s.total (λ p. Enter j (entries s A j p)) →
    words ≡ shared s.total s.labels.now j (entries s A j) →
    new ≡ mid ++ each s.total (λ p. Leave j (cond (leaves_with_words j p) words [])) →
    B ≡ left_after (each s.total (λ p. Enter j (entries s A j p))) A →
    Adds (each s.total (λ p. Enter j (entries s A j p)) ++ each s.total (λ p. Leave j ((setting_of s).outcome j p (entries s A j)))) old new A B
together_adds s j words old mid new A B entered is left used =
    let enters = each s.total (λ p. Enter j (entries s A j p)) in
    let same : each s.total (λ p. Leave j (cond (leaves_with_words j p) words [])) ≡ each s.total (λ p. Leave j ((setting_of s).outcome j p (entries s A j))) =
    each_same s.total (λ p. Leave j (cond (leaves_with_words j p) words [])) (λ p. Leave j ((setting_of s).outcome j p (entries s A j)))
    (λ p. ap (λ x. Leave j (cond (leaves_with_words j p) x [])) is ∙ ap (Leave j) (sym (outcome_is s.total s.labels.now j p (entries s A j)))) in
    record {
      actions = left ∙ ap₂ (λ x y. x ++ y) entered same ∙ append_assoc old enters (each s.total (λ p. Leave j ((setting_of s).outcome j p (entries s A j))));
      left = used ∙ sym (after_leaves s.total j (λ p. (setting_of s).outcome j p (entries s A j)) (left_after enters A)) ∙ sym (after_append enters (each s.total (λ p. Leave j ((setting_of s).outcome j p (entries s A j)))) A);
    }
