-- The list of ready ranks is exact again, and the counts stay small.
use Rattle.std.proofs.Common.{◌≡◌, ◌<◌, ◌≤◌, ℕ, zero, suc, ◌+◌, ◌*◌, Bool, true, false, ◌||◌, cond, nat_eq, nat_lt, if◌then◌else◌, ◌⊎◌, inl, inr, List, [], ◌∷◌, map, length, refl, ap, sym, ◌∙◌, subst, arith, get_or, add-one, Result, Ok, Err}
use Rattle.std.specs.Result.{OnErr}
use Rattle.std.specs.List.{sum}
use Rattle.std.proofs.lemmas.Bool.{cases_eq, cases_lt, eq-eqb}
use Rattle.std.proofs.lemmas.List.{get_or_past}
use Rattle.std.proofs.lemmas.Bool.Decides.{nat_tests}
use Rattle.pb_syntax.specs.declared.tree.Payload.{Payload}
use Rattle.pb_syntax.specs.declared.tree.Payload.TheVariants.{Unit as NoWords, Int32, Uint32}
use Rattle.pb_local.specs.WellMade.{IsPayload}
use Rattle.pb_local.specs.Tables.{label_at}
use Rattle.pb_local.specs.Collectives.{word_count, words_of, weight}
use Rattle.pb_world.specs.Actions.{Action, Choose, Run, Send, Recv, Enter, Leave, Collective, Barrier, Broadcast, Reduce, Allreduce}
use Rattle.pb_sim_ready.specs.Kept.{kept, put}
use Rattle.pb_sim_ready.specs.Listed.{Listed, Lists}
use Rattle.pb_sim.specs.declared.counts.Counts.{Counts}
use Rattle.pb_sim_world.specs.declared.state.State.{State}
use Rattle.pb_sim_world.specs.States.{program, total_of, fresh, stand}
use Rattle.pb_sim.specs.declared.seen.Seen.{Seen}
use Rattle.pb_sim_world.specs.Can.{can}
use Rattle.pb_sim_world.specs.Sound.{IsState}
use Rattle.pb_sim_world.specs.Events.{IsEvent, IsOther, IsOtherThan, IsAsked, IsSame}
use Rattle.pb_sim.specs.Scheduled.{words_asked}
use Rattle.pb_sim.specs.Seen.{AreFew, counted, counted_all, IsSeen, IsStepped, IsUnchanged}
use Rattle.pb_sim_world.proofs.Lists.{not_same}

pick : (c d : Bool) (xs ys : List ℕ) (s : ℕ) → c ≡ d → xs ≡ ys → (if c then s ∷ xs else xs) ≡ (if d then s ∷ ys else ys)
pick c d xs ys s e h = cc

same_kept : (f g : ℕ → Bool) (a s : ℕ) → ((k : ℕ) → s ≤ k → k < a + s → f k ≡ g k) → kept f a s ≡ kept g a s
same_kept f g zero s h = refl
same_kept f g (suc a) s h =
    pick (f s) (g s) (kept f a (suc s)) (kept g a (suc s)) s (h s (omega arith) (omega arith))
    (same_kept f g a (suc s) (λ (k : ℕ) (l : suc s ≤ k) (u : k < a + suc s). h k (omega (arith, l)) (omega (arith, u))))

-- marks that agree below the total list the same numbers
pub same_lists : (x : Listed) (f g : ℕ → Bool) → ((k : ℕ) → k < x.total → f k ≡ g k) → Lists x f → Lists x g
same_lists x f g h e = e ∙ same_kept f g x.total 0 (λ k l u. h k (omega (arith, u)))

one_mark : (old new : State) (r : ℕ) → IsOther old r new → (k : ℕ) → put (can old) r (can new r) k ≡ can new k
one_mark old new r others k = by_case (cases_eq k r) where
  by_case : (k ≡ r) ⊎ (k ≡ r → ⊥) → put (can old) r (can new r) k ≡ can new k
  by_case (inl e) = let b : nat_eq k r ≡ true = eq-eqb k r e in rw b (ap (can new) (sym e))
  by_case (inr e) = let b : nat_eq k r ≡ false = not_same k r e in rw b (sym (others k e))

two_marks : (old new : State) (r p : ℕ) → IsOtherThan old r p new → (k : ℕ) → put (put (can old) r (can new r)) p (can new p) k ≡ can new k
two_marks old new r p others k = by_case (cases_eq k p) (cases_eq k r) where
  by_case : (k ≡ p) ⊎ (k ≡ p → ⊥) → (k ≡ r) ⊎ (k ≡ r → ⊥) → put (put (can old) r (can new r)) p (can new p) k ≡ can new k
  by_case (inl e) f = let b : nat_eq k p ≡ true = eq-eqb k p e in rw b (ap (can new) (sym e))
  by_case (inr e) (inl f) = let b : nat_eq k p ≡ false = not_same k p e in let d : nat_eq k r ≡ true = eq-eqb k r f in rw (b, d) (ap (can new) (sym f))
  by_case (inr e) (inr f) = let b : nat_eq k p ≡ false = not_same k p e in let d : nat_eq k r ≡ false = not_same k r f in rw (b, d) (sym (others k f e))

pub exact_one : (old new : State) (a b : Listed) (r : ℕ) → Lists a (can old) → ((f : ℕ → Bool) → Lists a f → Lists b (put f r (can new r))) → IsOther old r new → Lists b (can new)
exact_one old new a b r e set others = same_lists b (put (can old) r (can new r)) (can new) (λ k l. one_mark old new r others k) (set (can old) e)

pub exact_two : (old new : State) (a b c : Listed) (r p : ℕ) → Lists a (can old) → ((f : ℕ → Bool) → Lists a f → Lists b (put f r (can new r))) → ((f : ℕ → Bool) → Lists b f → Lists c (put f p (can new p))) → IsOtherThan old r p new → Lists c (can new)
exact_two old new a b c r p e set again others = same_lists c (put (put (can old) r (can new r)) p (can new p)) (can new) (λ k l. two_marks old new r p others k) (again (put (can old) r (can new r)) (set (can old) e))

-- ---- counts

pub few_silent : (c : Counts) (k : ℕ) → AreFew c k → AreFew c (suc k)
few_silent c k h =
    let a : c.sends ≤ k = h.sends in let b : c.receives ≤ k = h.receives in let d : c.runs ≤ k = h.runs in let e : c.chooses ≤ k = h.chooses in let f : c.enters ≤ k = h.enters in let g : c.leaves ≤ k = h.leaves in let i : c.words ≤ 1024 * k = h.words in
    record { sends = omega (arith, a); receives = omega (arith, b); runs = omega (arith, d); chooses = omega (arith, e); enters = omega (arith, f); leaves = omega (arith, g); words = omega (arith, i) }

module _ (c : Counts) (k : ℕ) (h : AreFew c k) where
  pub few_choose : (kernel branches branch : ℕ) → AreFew (counted (Choose kernel branches branch) c) (suc k)
  few_choose kernel branches branch = let m = few_silent c k h in let e : c.chooses ≤ k = h.chooses in record { sends = m.sends; receives = m.receives; runs = m.runs; chooses = omega (arith, e); enters = m.enters; leaves = m.leaves; words = m.words }

  pub few_run : (kernel : ℕ) → AreFew (counted (Run kernel) c) (suc k)
  few_run kernel = let m = few_silent c k h in let e : c.runs ≤ k = h.runs in record { sends = m.sends; receives = m.receives; runs = omega (arith, e); chooses = m.chooses; enters = m.enters; leaves = m.leaves; words = m.words }

  pub few_receive : (from label : ℕ) (words : List ℕ) → AreFew (counted (Recv from label words) c) (suc k)
  few_receive from label words = let m = few_silent c k h in let e : c.receives ≤ k = h.receives in record { sends = m.sends; receives = omega (arith, e); runs = m.runs; chooses = m.chooses; enters = m.enters; leaves = m.leaves; words = m.words }

  pub few_leave : (joint : Collective) (words : List ℕ) → AreFew (counted (Leave joint words) c) (suc k)
  few_leave joint words = let m = few_silent c k h in let e : c.leaves ≤ k = h.leaves in record { sends = m.sends; receives = m.receives; runs = m.runs; chooses = m.chooses; enters = m.enters; leaves = omega (arith, e); words = m.words }

  pub few_send : (to label : ℕ) (words : List ℕ) → length words ≤ 1024 → AreFew (counted (Send to label words) c) (suc k)
  few_send to label words l = let m = few_silent c k h in let e : c.sends ≤ k = h.sends in let i : c.words ≤ 1024 * k = h.words in record { sends = omega (arith, e); receives = m.receives; runs = m.runs; chooses = m.chooses; enters = m.enters; leaves = m.leaves; words = omega (arith, i, l) }

-- how many words were asked
asked_few : (old new : State) (r count k : ℕ) → IsAsked old r count new → count ≤ 1024 → total_of new ≡ total_of old → ((q : ℕ) → q < total_of old → (stand old q).asked ≤ 1024 * k) → (q : ℕ) → q < total_of new → (stand new q).asked ≤ 1024 * suc k
asked_few old new r count k a few same h q lt = let b : (stand old q).asked ≤ 1024 * k = h q (subst (λ (t : ℕ). q < t) same lt) in by_case (nat_eq q r) (a q) b where
  by_case : (v : Bool) → (stand new q).asked ≡ (if v then (stand old q).asked + count else (stand old q).asked) → (stand old q).asked ≤ 1024 * k → (stand new q).asked ≤ 1024 * suc k
  by_case true e b = omega (arith, e, b, few)
  by_case false e b = omega (arith, e, b)

pub same_total : (old new : State) → new.tree ≡ old.tree → new.n ≡ old.n → total_of new ≡ total_of old
same_total old new e f = cc

-- ---- a step of the simulation

pub total_kept : (old new : State) (r : ℕ) (acts : List Action) → IsEvent old r acts new → total_of new ≡ total_of old
total_kept old new r acts e = same_total old new e.tree e.n

-- so many words were asked for these actions, and not many
pub record IsAskedFor (old : State) (r : ℕ) (acts : List Action) (new : State) : Type 0 where
  pub asked : IsAsked old r (sum (map words_asked acts)) new
  pub few : sum (map words_asked acts) ≤ 1024

pub one_asked : (count : ℕ) → count ≡ sum (count ∷ [])
one_asked count = omega arith

pub asked_many : (old new : State) (r count : ℕ) (acts : List Action) → IsAsked old r count new → count ≤ 1024 → count ≡ sum (map words_asked acts) → IsAskedFor old r acts new
asked_many old new r count acts a few e = record { asked = subst (λ (k : ℕ). IsAsked old r k new) e a; few = subst (λ (k : ℕ). k ≤ 1024) e few }

pub asked_none : (old new : State) (r : ℕ) (acts : List Action) → new.stands ≡ old.stands → 0 ≡ sum (map words_asked acts) → IsAskedFor old r acts new
asked_none old new r acts e none = asked_many old new r 0 acts (λ q. ap (λ v. (get_or v.items q fresh).asked) e ∙ same (nat_eq q r) (stand old q).asked) (omega arith) none where
  same : (b : Bool) (k : ℕ) → k ≡ (if b then k + 0 else k)
  same true k = omega arith
  same false k = refl

module _ (x y : Seen) (t : State) (r : ℕ) (acts : List Action) where
  stepped : IsEvent x.state r acts t → y.state ≡ t → y.counts ≡ counted_all acts x.counts → y.steps ≡ x.steps + 1 → IsAskedFor x.state r acts t → IsStepped x r acts y
  stepped e s c n asked = record { event = subst (IsEvent x.state r acts) (sym s) e; counts = c; steps = n ∙ add-one x.steps; asked = subst (IsAsked x.state r (sum (map words_asked acts))) (sym s) asked.asked }

  pub seen_by : IsSeen x → IsEvent x.state r acts t → y.state ≡ t → y.counts ≡ counted_all acts x.counts → y.steps ≡ x.steps + 1 → y.ready.total ≡ x.ready.total → Lists y.ready (can t) → AreFew (counted_all acts x.counts) (suc x.steps) → IsAskedFor x.state r acts t → IsStepped x r acts y × IsSeen y
  seen_by h e s c n total exact few asked =
      let k : y.steps ≡ suc x.steps = n ∙ add-one x.steps in (
        stepped e s c n asked,
        record {
          readied = record {
            state = subst IsState (sym s) e.sound;
            total = total ∙ h.readied.total ∙ sym (total_kept x.state t r acts e) ∙ ap total_of (sym s);
            exact = subst (λ (u : State). Lists y.ready (can u)) (sym s) exact;
          };
          few = subst (AreFew y.counts) (sym k) (subst (λ (d : Counts). AreFew d (suc x.steps)) (sym c) few);
          asked = λ q lt. subst (λ (m : ℕ). (stand y.state q).asked ≤ 1024 * m) (sym k) (subst (λ (u : State). q < total_of u → (stand u q).asked ≤ 1024 * suc x.steps) (sym s) (asked_few x.state t r (sum (map words_asked acts)) x.steps asked.asked asked.few (total_kept x.state t r acts e) h.asked q) lt);
        },
      )

  pub seen_one : IsSeen x → IsEvent x.state r acts t → IsOther x.state r t → y.state ≡ t → y.counts ≡ counted_all acts x.counts → y.steps ≡ x.steps + 1 → y.ready.total ≡ x.ready.total → ((f : ℕ → Bool) → Lists x.ready f → Lists y.ready (put f r (can t r))) → AreFew (counted_all acts x.counts) (suc x.steps) → IsAskedFor x.state r acts t → IsStepped x r acts y × IsSeen y
  seen_one h e o s c n total set few asked = seen_by h e s c n total (exact_one x.state t x.ready y.ready r h.readied.exact set o) few asked

  pub seen_two : (p : ℕ) (mid : Listed) → IsSeen x → IsEvent x.state r acts t → IsOtherThan x.state r p t → y.state ≡ t → y.counts ≡ counted_all acts x.counts → y.steps ≡ x.steps + 1 → y.ready.total ≡ x.ready.total → ((f : ℕ → Bool) → Lists x.ready f → Lists mid (put f r (can t r))) → ((f : ℕ → Bool) → Lists mid f → Lists y.ready (put f p (can t p))) → AreFew (counted_all acts x.counts) (suc x.steps) → IsAskedFor x.state r acts t → IsStepped x r acts y × IsSeen y
  seen_two p mid h e o s c n total set again few asked = seen_by h e s c n total (exact_two x.state t x.ready mid y.ready r p h.readied.exact set again o) few asked

-- a refusal
pub unchanged : (x : Seen) (t : State) → IsSame x.state t → IsUnchanged x (record x { state = t })
unchanged x t same = record { state = record { world = same.world; tree = same.tree; n = same.n; stands = same.stands; words = same.words }; ready = refl; counts = refl; steps = refl }

pub still_seen : (x : Seen) (t : State) → IsSeen x → IsSame x.state t → IsSeen (record x { state = t })
still_seen x t h same =
    let n : total_of t ≡ total_of x.state = same_total x.state t same.tree same.n in
    record {
      readied = record { state = same.sound; total = h.readied.total ∙ sym n; exact = same_lists x.ready (can x.state) (can t) (λ k l. sym (same.can k)) h.readied.exact };
      few = h.few;
      asked = λ q lt. subst (λ v. (get_or v.items q fresh).asked ≤ 1024 * x.steps) (sym same.stands) (h.asked q (subst (λ (k : ℕ). q < k) n lt));
    }

pub unchanged_by : (x y : Seen) → y ≡ x → IsUnchanged x y
unchanged_by x y e = subst (λ (z : Seen). IsUnchanged x z) (sym e) (record { state = record { world = refl; tree = refl; n = refl; stands = refl; words = refl }; ready = refl; counts = refl; steps = refl })

-- ---- the words of a label

few_words : (y : Payload) → IsPayload y → word_count y ≤ 1024
few_words NoWords h = omega arith
few_words (Int32 count) h = h.1
few_words (Uint32 count) h = h.1

pub label_few : (s : State) (label : ℕ) → IsState s → words_of (program s) s.n label ≤ 1024
label_few s label sound = by_place (cases_lt label (length s.tree.local.labels.items)) where
  by_place : (label < length s.tree.local.labels.items) ⊎ (length s.tree.local.labels.items ≤ label) → words_of (program s) s.n label ≤ 1024
  by_place (inl lt) = few_words (label_at (program s) label).payload (sound.tree.made.labels.each label _ lt).payload
  by_place (inr le) =
      let e : label_at (program s) label ≡ record { name = []; payload = NoWords } = get_or_past s.tree.local.labels.items label (record { name = []; payload = NoWords }) le in
      rw e (omega arith)

-- ---- all ranks, one after the other

none_yet : (f g : ℕ → Bool) (k : ℕ) → g k ≡ (if nat_lt k 0 then f k else g k)
none_yet f g k = let e : nat_lt k 0 ≡ false = grind (arith, nat_tests) in rw e refl

pub all_begun : (x : Listed) (f g : ℕ → Bool) → Lists x g → Lists x (λ k. if nat_lt k 0 then f k else g k)
all_begun x f g e = same_lists x g (λ k. if nat_lt k 0 then f k else g k) (λ k l. none_yet f g k) e

pub one_further : (x y : Listed) (f g : ℕ → Bool) (r : ℕ) → ((h : ℕ → Bool) → Lists x h → Lists y (put h r (f r))) → Lists x (λ k. if nat_lt k r then f k else g k) → Lists y (λ k. if nat_lt k (r + 1) then f k else g k)
one_further x y f g r set e = same_lists y (put (λ k. if nat_lt k r then f k else g k) r (f r)) (λ k. if nat_lt k (r + 1) then f k else g k) (λ k l. at k) (set (λ k. if nat_lt k r then f k else g k) e) where
  at : (k : ℕ) → put (λ k. if nat_lt k r then f k else g k) r (f r) k ≡ (if nat_lt k (r + 1) then f k else g k)
  at k = by_case (cases_eq k r) where
    by_case : (k ≡ r) ⊎ (k ≡ r → ⊥) → put (λ k. if nat_lt k r then f k else g k) r (f r) k ≡ (if nat_lt k (r + 1) then f k else g k)
    by_case (inl h) = let b : nat_eq k r ≡ true = eq-eqb k r h in let d : nat_lt k (r + 1) ≡ true = grind (arith, nat_tests, h) in rw (b, d) (ap f (sym h))
    by_case (inr h) = let b : nat_eq k r ≡ false = not_same k r h in let d : nat_lt k r ≡ nat_lt k (r + 1) = grind (arith, nat_tests, h) in rw b (ap (λ v. if v then f k else g k) d)

pub all_done : (x : Listed) (f g : ℕ → Bool) (total : ℕ) → x.total ≡ total → Lists x (λ k. if nat_lt k total then f k else g k) → Lists x f
all_done x f g total n e = same_lists x (λ k. if nat_lt k total then f k else g k) f (λ k l. at k (subst (λ (t : ℕ). k < t) n l)) e where
  at : (k : ℕ) → k < total → (if nat_lt k total then f k else g k) ≡ f k
  at k l = let b : nat_lt k total ≡ true = grind (arith, nat_tests, l) in rw b refl

-- ---- entries

pub few_enter : (c : Counts) (k : ℕ) → AreFew c k → (joint : Collective) (words : List ℕ) → length words ≤ 1024 → AreFew (counted (Enter joint words) c) (suc k)
few_enter c k h joint words l = let m = few_silent c k h in let e : c.enters ≤ k = h.enters in let i : c.words ≤ 1024 * k = h.words in record { sends = m.sends; receives = m.receives; runs = m.runs; chooses = m.chooses; enters = omega (arith, e); leaves = m.leaves; words = omega (arith, i, l) }

pub weight_few : (s : State) (j : Collective) (r : ℕ) → IsState s → weight (program s) s.n j r ≤ 1024
weight_few s Barrier r sound = omega arith
weight_few s (Broadcast label root) r sound = by (nat_eq r root) (label_few s label sound) where
  by : (b : Bool) → words_of (program s) s.n label ≤ 1024 → cond b (words_of (program s) s.n label) 0 ≤ 1024
  by true h = h
  by false h = omega arith
weight_few s (Reduce label operation root) r sound = label_few s label sound
weight_few s (Allreduce label operation) r sound = label_few s label sound

pub exact_enter : (old new : State) (a b : Listed) (r : ℕ) (first last : Bool) → Lists a (can old) → ((first || last) ≡ true → (f : ℕ → Bool) → Lists a f → Lists b (can new)) → ((first || last) ≡ false → (f : ℕ → Bool) → Lists a f → Lists b (put f r (can new r))) → (first ≡ false → last ≡ false → IsOther old r new) → Lists b (can new)
exact_enter old new a b r true last e all one others = all refl (can old) e
exact_enter old new a b r false true e all one others = all refl (can old) e
exact_enter old new a b r false false e all one others = exact_one old new a b r e (one refl) (others refl refl)

pub err_gives : {T E : Type 0} (r : Result T E) (P : Type 0) → P → OnErr r P
err_gives (Ok x) P h = tt
err_gives (Err x) P h = h
