-- The reading of a whole text: what was read so far, how it goes on and how it ends.
use Rattle.std.proofs.Common.{◌≡◌, ℕ, suc, ◌+◌, ◌-◌, ◌<◌, ◌≤◌, ◌^◌, ◌⊎◌, inl, inr, Bool, true, false, List, [], ◌∷◌, ◌++◌, length, Option, Some, None, refl, sym, ap, ap₂, subst, ◌∙◌, append-nil, append_assoc, arith}
use Rattle.std.specs.Prelude.{nat_eq, min, codes, decimal, ◌||◌, Result, Ok, Err, IfOk, IfErr}
use Rattle.pb_judge_log.specs.declared.fault.LogFault.{LogFault}
use Rattle.pb_judge_log.specs.declared.fault.LogFault.TheVariants.{BadLine, NoMemory}
use Rattle.std.specs.List.{AllByRecursion, flat_map, list_all}
use Rattle.std.specs.Cmp.Lexicographic.{pointwise}
use Rattle.std.proofs.lemmas.Slice.Eq.{bytes_eq-Decides}
use Rattle.pb_text.specs.declared.action.Action.{Action}
use Rattle.pb_text.specs.declared.action.Action.TheVariants as A
use Rattle.pb_text.specs.declared.action.Joint.TheVariants.{Barrier, Labelled}
use Rattle.pb_syntax.specs.declared.tree.Payload.TheVariants.{Unit as NoWords}
use Rattle.pb_local.specs.Tree.{Program}
use Rattle.pb_local.specs.WellMade.{AreLabels, AreKernels}
use Rattle.pb_text_read.specs.Fronts.{◌>>=◌, strip}
use Rattle.pb_text_read.proofs.Strips.{strip_sound}
use Rattle.pb_sched.specs.Logged.{action_text, log_line}
use Rattle.pb_judge_log.specs.Entries.{IsTold, BeginsWith, BeginsLine, IsEnding, IsLog, IsBadLine, numbered_from, numbered, is_within}
use Rattle.pb_judge_log.specs.Reading.{is_inside, is_within_line, fields, line_at, entry_in}
use Rattle.pb_judge_log.specs.Outcomes.{IsFault, IsReadAs, entry_at, Reads, Stops, is_last, told, ends}
use Rattle.pb_judge_log.proofs.Names.{IsSpelled}
use Rattle.pb_judge_log.proofs.Spelled.{decimal_inside, decimal_within, words_all}
use Rattle.pb_judge_log.proofs.Splits.{line_of, joined, line_fields, line_within, line_again, line_sound}
use Rattle.pb_judge_log.proofs.Told.{bind_some, deed_of, rank_of, deed_fields, word_fields, told_fields, text_is, label_spelled, kernel_spelled, entry_again}
use Rattle.pb_judge_log.proofs.Heard.{entry_sound}

some_same : {A : Type 0} {a b : A} → ◌≡◌ {A = Option A} (Some a) (Some b) → a ≡ b
some_same {A} {a} {b} e = cc

-- ---- what the fields of a line pass

record Passes (test : ℕ → Bool) : Type 0 where
  minus : test 45 ≡ true
  digits : (n : ℕ) → n < 2 ^ 64 → list_all test (decimal n) ≡ true
  names : (w : List ℕ) → IsSpelled w → list_all test w ≡ true
  choose : list_all test (codes "choose") ≡ true
  run : list_all test (codes "run") ≡ true
  send : list_all test (codes "send") ≡ true
  recv : list_all test (codes "recv") ≡ true
  enter : list_all test (codes "enter") ≡ true
  leave : list_all test (codes "leave") ≡ true
  barrier : list_all test (codes "barrier") ≡ true

inside_passes : Passes is_inside
inside_passes = record { minus = refl; digits = decimal_inside; names = λ w h. h.inside; choose = refl; run = refl; send = refl; recv = refl; enter = refl; leave = refl; barrier = refl }

within_passes : Passes is_within_line
within_passes = record { minus = refl; digits = decimal_within; names = λ w h. h.within; choose = refl; run = refl; send = refl; recv = refl; enter = refl; leave = refl; barrier = refl }

-- ---- numbers of lines

numbered_last : (k : ℕ) (us : List Action) (a : Action) → numbered_from k (us ++ a ∷ []) ≡ numbered_from k us ++ (min (k + length us + 1) (2 ^ 32 - 1), a) ∷ []
numbered_last k [] a = let e : k + 1 ≡ k + 0 + 1 = omega arith in ap (λ n. (min n (2 ^ 32 - 1), a) ∷ []) e
numbered_last k (b ∷ us) a =
    let e : suc k + length us + 1 ≡ k + suc (length us) + 1 = omega arith in
    ap (λ xs. (min (k + 1) (2 ^ 32 - 1), b) ∷ xs) (numbered_last (suc k) us a ∙ ap (λ n. numbered_from (suc k) us ++ (min n (2 ^ 32 - 1), a) ∷ []) e)

min_is : (a b : ℕ) → ((a ≤ b) × (min a b ≡ a)) ⊎ ((b ≤ a) × (min a b ≡ b))
min_is a b = grind arith

saturates : (n m : ℕ) → min (min n m + 1) m ≡ min (n + 1) m
saturates n m = grind arith

length_last : (us : List Action) (a : Action) → length (us ++ a ∷ []) ≡ length us + 1
length_last [] a = refl
length_last (b ∷ us) a = let e : suc (length us + 1) ≡ suc (length us) + 1 = omega arith in ap suc (length_last us a) ∙ e

flat_last : {B : Type 0} (f : Action → List B) (us : List Action) (a : Action) → flat_map f (us ++ a ∷ []) ≡ flat_map f us ++ f a
flat_last f [] a = append-nil (f a)
flat_last f (b ∷ us) a = ap (λ xs. f b ++ xs) (flat_last f us a) ∙ sym (append_assoc (f b) (flat_map f us) (f a))

each_last : (P : Action → Type 0) (us : List Action) (a : Action) → AllByRecursion P us → P a → AllByRecursion P (us ++ a ∷ [])
each_last P [] a h k = (k, tt)
each_last P (b ∷ us) a h k = (h.0, each_last P us a h.1 k)

module _ (p : Program) (total : ℕ) where
  line_is : (a : Action) (rest : List ℕ) → log_line p a ++ rest ≡ action_text p a ++ 10 ∷ rest
  line_is a rest = append_assoc (action_text p a) (codes "\n") rest

  pub record IsEntry (text : List ℕ) (a : Action) (rest : List ℕ) : Type 0 where
    pub is : text ≡ log_line p a ++ rest
    pub told : IsTold p total a

  entry_is : (text line rest : List ℕ) (a : Action) → line_at text ≡ Some (line, rest) → entry_in p total (fields line) ≡ Some a → IsEntry text a rest
  entry_is text line rest a l e =
      let s = line_sound text (line, rest) l in
      let h = entry_sound p total (fields line) a e in
      let same : line ≡ action_text p a = joined line ∙ ap line_of h.is ∙ sym (text_is p total a) in
      record { is = s.is ∙ ap (λ xs. xs ++ 10 ∷ rest) same ∙ sym (line_is a rest); told = h.told }

  -- ---- so far

  pub begun : (text : List ℕ) (entries : List (ℕ × Action)) (number : ℕ) → entries ≡ [] → number ≡ 1 → Reads p total text entries number text
  begun text entries number e n = record { actions = []; begins = record { is = refl; each = tt }; entries_are = e; number_is = n }

  pub goes_on : (text line rest after : List ℕ) (entries more : List (ℕ × Action)) (number next : ℕ) (a : Action) → Reads p total text entries number rest → line_at rest ≡ Some (line, after) → entry_in p total (fields line) ≡ Some a
      → more ≡ entries ++ (number, a) ∷ [] → next ≡ min (number + 1) (2 ^ 32 - 1) → Reads p total text more next after
  goes_on text line rest after entries more number next a r l e m n =
      let h = entry_is rest line after a l e in
      let first : 0 + length r.actions + 1 ≡ length r.actions + 1 = omega arith in
      record {
        actions = r.actions ++ a ∷ [];
        begins = record {
          is = r.begins.is ∙ ap (λ xs. flat_map (log_line p) r.actions ++ xs) h.is ∙ sym (ap (λ xs. xs ++ after) (flat_last (log_line p) r.actions a) ∙ append_assoc (flat_map (log_line p) r.actions) (log_line p a) after);
          each = each_last (IsTold p total) r.actions a r.begins.each h.told;
        };
        entries_are = m ∙ ap₂ (λ xs k. xs ++ (k, a) ∷ []) r.entries_are r.number_is ∙ sym (numbered_last 0 r.actions a ∙ ap (λ k. numbered r.actions ++ (min k (2 ^ 32 - 1), a) ∷ []) first);
        number_is = n ∙ ap (λ k. min (k + 1) (2 ^ 32 - 1)) r.number_is ∙ saturates (length r.actions + 1) (2 ^ 32 - 1) ∙ sym (ap (λ k. min (k + 1) (2 ^ 32 - 1)) (length_last r.actions a));
      }

  pub stops_line : (text rest : List ℕ) (entries : List (ℕ × Action)) (number : ℕ) → Reads p total text entries number rest → line_at rest ≡ None → Stops p total text entries number rest
  stops_line text rest entries number r l = record { reads = r; none = ap (λ o. o >>= λ l. entry_in p total (fields l.0) >>= λ x. Some (x, l.1)) l }

  pub stops_entry : (text line rest after : List ℕ) (entries : List (ℕ × Action)) (number : ℕ) → Reads p total text entries number rest → line_at rest ≡ Some (line, after) → entry_in p total (fields line) ≡ None → Stops p total text entries number rest
  stops_entry text line rest after entries number r l e =
      record { reads = r; none = ap (λ o. o >>= λ l. entry_in p total (fields l.0) >>= λ x. Some (x, l.1)) l ∙ ap (λ o. o >>= λ x. Some (x, after)) e }

-- equal tables read alike
pub stops_there : (q p : Program) (k total : ℕ) (text rest : List ℕ) (entries : List (ℕ × Action)) (number : ℕ) → q ≡ p → k ≡ total → Stops q k text entries number rest → Stops p total text entries number rest
stops_there q p k total text rest entries number e f s = subst (λ t. Stops p t text entries number rest) f (subst (λ z. Stops z k text entries number rest) e s)

module _ (p : Program) (total : ℕ) (labels : AreLabels p.labels) (kernels : AreKernels p.kernels) (few : total ≤ 2 ^ 32) where
  told_all : (test : ℕ → Bool) → Passes test → (a : Action) → IsTold p total a → AllByRecursion (λ f. list_all test f ≡ true) (told_fields p total a)
  told_all test h (A.Choose rank kernel answer) t = (h.digits rank (omega (arith, t.0, few)), (h.choose, (h.names _ (kernel_spelled p total labels kernels kernel t.1.0), (h.digits answer (omega (arith, t.2)), tt))))
  told_all test h (A.Run rank kernel) t = (h.digits rank (omega (arith, t.0, few)), (h.run, (h.names _ (kernel_spelled p total labels kernels kernel t.1.0), tt)))
  told_all test h (A.Send rank to label ws) t =
      (h.digits rank (omega (arith, t.0, few)), (h.send, (h.digits to (omega (arith, t.1, few)), (h.names _ (label_spelled p total labels kernels label t.2), words_all test h.minus h.digits _ ws t.3))))
  told_all test h (A.Recv rank from label ws) t =
      (h.digits rank (omega (arith, t.0, few)), (h.recv, (h.digits from (omega (arith, t.1, few)), (h.names _ (label_spelled p total labels kernels label t.2), words_all test h.minus h.digits _ ws t.3))))
  told_all test h (A.Enter rank Barrier ws) t = (h.digits rank (omega (arith, t.0, few)), (h.enter, (h.barrier, words_all test h.minus h.digits NoWords ws t.2)))
  told_all test h (A.Enter rank (Labelled label) ws) t = (h.digits rank (omega (arith, t.0, few)), (h.enter, (h.names _ (label_spelled p total labels kernels label t.1), words_all test h.minus h.digits _ ws t.2)))
  told_all test h (A.Leave rank Barrier ws) t = (h.digits rank (omega (arith, t.0, few)), (h.leave, (h.barrier, words_all test h.minus h.digits NoWords ws t.2)))
  told_all test h (A.Leave rank (Labelled label) ws) t = (h.digits rank (omega (arith, t.0, few)), (h.leave, (h.names _ (label_spelled p total labels kernels label t.1), words_all test h.minus h.digits _ ws t.2)))

  -- ---- one line

  text_fields : (a : Action) → IsTold p total a → fields (action_text p a) ≡ told_fields p total a
  text_fields a t = ap fields (text_is p total a) ∙ line_fields (decimal (rank_of a)) (deed_fields p total (deed_of a) ++ word_fields p total a) (told_all is_inside inside_passes a t)

  text_within : (a : Action) → IsTold p total a → list_all is_within_line (action_text p a) ≡ true
  text_within a t = ap (list_all is_within_line) (text_is p total a) ∙ line_within (told_fields p total a) (told_all is_within_line within_passes a t)

  pub at_again : (a : Action) (rest : List ℕ) → IsTold p total a → entry_at p total (log_line p a ++ rest) ≡ Some (a, rest)
  at_again a rest t =
      let line : line_at (log_line p a ++ rest) ≡ Some (action_text p a, rest) = ap line_at (line_is p total a rest) ∙ line_again (action_text p a) rest (text_within a t) in
      let entry : entry_in p total (fields (action_text p a)) ≡ Some a = ap (entry_in p total) (text_fields a t) ∙ entry_again p total labels kernels few a t in
      ap (λ o. o >>= λ l. entry_in p total (fields l.0) >>= λ x. Some (x, l.1)) line ∙ ap (λ o. o >>= λ x. Some (x, rest)) entry

  pub not_begun : (rest : List ℕ) → entry_at p total rest ≡ None → BeginsLine p total rest → ⊥
  not_begun rest e b = let z : entry_at p total rest ≡ Some (b.0, b.1) = ap (entry_at p total) b.3 ∙ at_again b.0 b.1 b.2 in absurd cc

  -- ---- the end

  last_sound : (text : List ℕ) → is_last (line_at text) ≡ true → (line : List ℕ) × is_within p total line × (text ≡ line ++ codes "\n")
  last_sound text h = go (line_at text) refl h where
    go : (o : Option (List ℕ × List ℕ)) → line_at text ≡ o → is_last o ≡ true → (line : List ℕ) × is_within p total line × (text ≡ line ++ codes "\n")
    go None e g = absurd cc
    go (Some (line, [])) e g = let s = line_sound text (line, []) e in (line, s.within, s.is)
    go (Some (line, c ∷ cs)) e g = absurd cc

  told_sound : (rest : List ℕ) → told (strip (codes "pabble: ") rest) ≡ true → IsEnding p total rest
  told_sound rest h = go (strip (codes "pabble: ") rest) refl h where
    go : (o : Option (List ℕ)) → strip (codes "pabble: ") rest ≡ o → told o ≡ true → IsEnding p total rest
    go None e g = absurd cc
    go (Some text) e g = let k = last_sound text g in inr (inr (k.0, k.1, strip_sound (codes "pabble: ") rest text e ∙ ap (λ xs. codes "pabble: " ++ xs) k.2))

  ended_sound : (rest : List ℕ) (b : Bool) → pointwise nat_eq rest (codes "ended\n") ≡ b → (b || told (strip (codes "pabble: ") rest)) ≡ true → IsEnding p total rest
  ended_sound rest true e h = inr (inl ((bytes_eq-Decides rest (codes "ended\n")).0 e))
  ended_sound rest false e h = told_sound rest h

  ends_sound : (rest : List ℕ) → ends rest ≡ true → IsEnding p total rest
  ends_sound [] h = inl refl
  ends_sound (c ∷ cs) h = ended_sound (c ∷ cs) (pointwise nat_eq (c ∷ cs) (codes "ended\n")) refl h

  last_again : (line : List ℕ) → is_within p total line → is_last (line_at (line ++ codes "\n")) ≡ true
  last_again line w = ap is_last (line_again line [] w)

  ends_again : (rest : List ℕ) → IsEnding p total rest → ends rest ≡ true
  ends_again rest (inl e) = ap ends e
  ends_again rest (inr (inl e)) = ap ends e
  ends_again rest (inr (inr k)) = ap ends k.2 ∙ last_again k.0 k.1

  none_at_ending : (rest : List ℕ) → IsEnding p total rest → entry_at p total rest ≡ None
  none_at_ending rest (inl e) = ap (entry_at p total) e
  none_at_ending rest (inr (inl e)) = ap (entry_at p total) e
  none_at_ending rest (inr (inr k)) =
      let line : line_at (codes "pabble: " ++ (k.0 ++ codes "\n")) ≡ Some (codes "pabble: " ++ k.0, []) = line_again (codes "pabble: " ++ k.0) [] k.1 in
      ap (entry_at p total) k.2 ∙ ap (λ o. o >>= λ l. entry_in p total (fields l.0) >>= λ x. Some (x, l.1)) line

  pub is_log : (text rest : List ℕ) (entries : List (ℕ × Action)) (number : ℕ) → Stops p total text entries number rest → ends rest ≡ true → (actions : List Action) × IsLog p total text actions × (entries ≡ numbered actions)
  is_log text rest entries number s e = (s.reads.actions, (rest, s.reads.begins, ends_sound rest e), s.reads.entries_are)

  pub is_bad : (text rest : List ℕ) (entries : List (ℕ × Action)) (number : ℕ) → Stops p total text entries number rest → ends rest ≡ false → IsBadLine p total text number
  is_bad text rest entries number s e =
      (s.reads.actions, rest, s.reads.begins, s.reads.number_is, not_ended, not_begun rest s.none) where
        not_ended : IsEnding p total rest → ⊥
        not_ended k = let z = ends_again rest k in absurd cc

  -- ---- one reading

  record Same (us bs : List Action) (x y : List ℕ) : Type 0 where
    actions : us ≡ bs
    rest : x ≡ y

  same_front : (text : List ℕ) (us bs : List Action) (x y : List ℕ) → BeginsWith p total text us x → BeginsWith p total text bs y → entry_at p total x ≡ None → entry_at p total y ≡ None → Same us bs x y
  same_front text [] [] x y a b e f = record { actions = refl; rest = sym a.is ∙ b.is }
  same_front text [] (b ∷ bs) x y s t e f =
      let z : entry_at p total x ≡ Some (b, flat_map (log_line p) bs ++ y) = ap (entry_at p total) (sym s.is ∙ t.is ∙ append_assoc (log_line p b) (flat_map (log_line p) bs) y) ∙ at_again b _ t.each.0 in absurd cc
  same_front text (a ∷ us) [] x y s t e f =
      let z : entry_at p total y ≡ Some (a, flat_map (log_line p) us ++ x) = ap (entry_at p total) (sym t.is ∙ s.is ∙ append_assoc (log_line p a) (flat_map (log_line p) us) x) ∙ at_again a _ s.each.0 in absurd cc
  same_front text (a ∷ us) (b ∷ bs) x y s t e f =
      let u : entry_at p total text ≡ Some (a, flat_map (log_line p) us ++ x) = ap (entry_at p total) (s.is ∙ append_assoc (log_line p a) (flat_map (log_line p) us) x) ∙ at_again a _ s.each.0 in
      let v : entry_at p total text ≡ Some (b, flat_map (log_line p) bs ++ y) = ap (entry_at p total) (t.is ∙ append_assoc (log_line p b) (flat_map (log_line p) bs) y) ∙ at_again b _ t.each.0 in
      let w : ◌≡◌ {A = Action × List ℕ} (a, flat_map (log_line p) us ++ x) (b, flat_map (log_line p) bs ++ y) = some_same (sym u ∙ v) in
      let m = same_front (flat_map (log_line p) us ++ x) us bs x y (record { is = refl; each = s.each.1 }) (record { is = ap (λ (q : Action × List ℕ). q.1) w; each = t.each.1 }) e f in
      record { actions = ap₂ (λ z zs. z ∷ zs) (ap (λ (q : Action × List ℕ). q.0) w) m.actions; rest = m.rest }

  none_of : (rest : List ℕ) → (BeginsLine p total rest → ⊥) → entry_at p total rest ≡ None
  none_of rest h = go (entry_at p total rest) refl where
    go : (o : Option (Action × List ℕ)) → entry_at p total rest ≡ o → o ≡ None
    go None e = refl
    go (Some x) e =
        let l = bind_some (line_at rest) (λ l. entry_in p total (fields l.0) >>= λ a. Some (a, l.1)) x e in
        let a = bind_some (entry_in p total (fields l.0.0)) (λ a. Some (a, l.0.1)) x l.2 in
        let k = entry_is p total rest l.0.0 l.0.1 a.0 l.1 a.1 in
        absurd (h (a.0, l.0.1, k.told, k.is))

  pub one_log : (text : List ℕ) (us bs : List Action) → IsLog p total text us → IsLog p total text bs → us ≡ bs
  one_log text us bs a b = (same_front text us bs a.0 b.0 a.1 b.1 (none_at_ending a.0 a.2) (none_at_ending b.0 b.2)).actions

  pub no_bad : (text : List ℕ) (us : List Action) (n : ℕ) → IsLog p total text us → IsBadLine p total text n → ⊥
  no_bad text us n a b =
      let s = same_front text us b.0 a.0 b.1 a.1 b.2 (none_at_ending a.0 a.2) (none_of b.1 b.5) in
      b.4 (subst (IsEnding p total) s.rest a.2)

  pub one_bad : (text : List ℕ) (n m : ℕ) → IsBadLine p total text n → IsBadLine p total text m → n ≡ m
  one_bad text n m a b =
      let s = same_front text a.0 b.0 a.1 b.1 a.2 b.2 (none_of a.1 a.5) (none_of b.1 b.5) in
      a.3 ∙ ap (λ us. min (length us + 1) (2 ^ 32 - 1)) s.actions ∙ sym b.3

  pub read_as : (text : List ℕ) (r : Result (List (ℕ × Action)) LogFault) → IfOk r (λ log. (actions : List Action) × IsLog p total text actions × (log ≡ numbered actions)) → IfErr r (λ fault. IsFault p total text fault)
      → (us : List Action) → IsLog p total text us → IsReadAs (numbered us) r
  read_as text (Ok log) ok err us l = ok.2 ∙ ap numbered (one_log text ok.0 us ok.1 l)
  read_as text (Err (BadLine n)) ok err us l = absurd (no_bad text us n l err)
  read_as text (Err NoMemory) ok err us l = refl
