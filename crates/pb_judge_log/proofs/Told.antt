-- The fields of an action's line: they are read as that action, and what is read as an action has its fields.
use Rattle.std.proofs.Common.{◌≡◌, ℕ, ◌<◌, ◌≤◌, ◌^◌, true, cond, List, [], ◌∷◌, ◌++◌, length, map, get_or, Option, Some, None, refl, sym, ap, subst, ◌∙◌, append-nil, append_assoc, arith}
use Rattle.std.specs.Prelude.{codes, decimal, IsTrue}
use Rattle.std.proofs.lemmas.List.{get_or-map, length-map}
use Rattle.std.proofs.lemmas.List.Elements.{All-get_or}
use Rattle.pb_text.specs.declared.action.Action.{Action}
use Rattle.pb_text.specs.declared.action.Action.TheVariants as A
use Rattle.pb_text.specs.declared.action.Joint.{Joint}
use Rattle.pb_text.specs.declared.action.Joint.TheVariants.{Barrier, Labelled}
use Rattle.pb_syntax.specs.declared.core_label.CoreLabel.{CoreLabel}
use Rattle.pb_syntax.specs.declared.core_label.CoreKernel.{CoreKernel}
use Rattle.pb_syntax.specs.declared.core_label.KernelKind.{KernelKind}
use Rattle.pb_syntax.specs.declared.core_label.KernelKind.TheVariants.{Compute, Choice}
use Rattle.pb_syntax.specs.declared.tree.Payload.{Payload}
use Rattle.pb_syntax.specs.declared.tree.Payload.TheVariants.{Unit as NoWords}
use Rattle.pb_local.specs.Tables.{label_at, kernel_at}
use Rattle.pb_local.specs.Tree.{Program}
use Rattle.pb_local.specs.Names.{is_name}
use Rattle.pb_local.specs.WellMade.{IsLabelRow, AreLabels, AreKernels}
use Rattle.pb_text_read.specs.Fronts.{◌>>=◌}
use Rattle.pb_sched.specs.Logged.{word_text, label_text, joint_text, action_text}
use Rattle.pb_judge_log.specs.declared.actions.Deed.{Deed}
use Rattle.pb_judge_log.specs.declared.actions.Deed.TheVariants as D
use Rattle.pb_judge_log.specs.Entries.{IsKernel, IsJoint, AreWords, IsTold}
use Rattle.pb_judge_log.specs.Reading.{find_in, is_kind, label_in, kernel_in, rank_in, answer_in, choose_in, labelled_in, message_in, joint_in, done_in, by_rank, begun_in, payload_of, completed, entry_in}
use Rattle.pb_judge_log.proofs.Names.{IsSpelled, spelled, find_again}
use Rattle.pb_judge_log.proofs.Spelled.{whole_again, words_again, words_tail}
use Rattle.pb_judge_log.proofs.Splits.{line_of, tail_of}

-- what was found first, and then next
pub bind_some : {A B : Type 0} (o : Option A) (f : A → Option B) (y : B) → (o >>= f) ≡ Some y → (x : A) × (o ≡ Some x) × (f x ≡ Some y)
bind_some None f y h = absurd cc
bind_some (Some x) f y h = (x, refl, h)

some_same : {A : Type 0} {a b : A} → ◌≡◌ {A = Option A} (Some a) (Some b) → a ≡ b
some_same {A} {a} {b} e = cc

-- ---- the fields

abbrev pub deed_of : Action → Deed
deed_of (A.Choose rank kernel answer) = D.Choose kernel answer
deed_of (A.Run rank kernel) = D.Run kernel
deed_of (A.Send rank to label words) = D.Send to label
deed_of (A.Recv rank from label words) = D.Recv from label
deed_of (A.Enter rank what words) = D.Enter what
deed_of (A.Leave rank what words) = D.Leave what

abbrev pub rank_of : Action → ℕ
rank_of (A.Choose rank kernel answer) = rank
rank_of (A.Run rank kernel) = rank
rank_of (A.Send rank to label words) = rank
rank_of (A.Recv rank from label words) = rank
rank_of (A.Enter rank what words) = rank
rank_of (A.Leave rank what words) = rank

abbrev pub words_of : Action → List ℕ
words_of (A.Choose rank kernel answer) = []
words_of (A.Run rank kernel) = []
words_of (A.Send rank to label words) = words
words_of (A.Recv rank from label words) = words
words_of (A.Enter rank what words) = words
words_of (A.Leave rank what words) = words

module _ (p : Program) (total : ℕ) where
  abbrev pub joint_name : Joint → List ℕ
  joint_name Barrier = codes "barrier"
  joint_name (Labelled label) = (label_at p label).name

  abbrev pub carried_by : Deed → Payload
  carried_by (D.Choose kernel answer) = NoWords
  carried_by (D.Run kernel) = NoWords
  carried_by (D.Send to label) = (label_at p label).payload
  carried_by (D.Recv from label) = (label_at p label).payload
  carried_by (D.Enter what) = payload_of p total what
  carried_by (D.Leave what) = payload_of p total what

  abbrev pub deed_fields : Deed → List (List ℕ)
  deed_fields (D.Choose kernel answer) = codes "choose" ∷ (kernel_at p kernel).name ∷ decimal answer ∷ []
  deed_fields (D.Run kernel) = codes "run" ∷ (kernel_at p kernel).name ∷ []
  deed_fields (D.Send to label) = codes "send" ∷ decimal to ∷ (label_at p label).name ∷ []
  deed_fields (D.Recv from label) = codes "recv" ∷ decimal from ∷ (label_at p label).name ∷ []
  deed_fields (D.Enter what) = codes "enter" ∷ joint_name what ∷ []
  deed_fields (D.Leave what) = codes "leave" ∷ joint_name what ∷ []

  abbrev pub word_fields : Action → List (List ℕ)
  word_fields a = map (word_text (carried_by (deed_of a))) (words_of a)

  abbrev pub told_fields : Action → List (List ℕ)
  told_fields a = decimal (rank_of a) ∷ (deed_fields (deed_of a) ++ word_fields a)

  abbrev pub IsDeed : Deed → Type 0
  IsDeed (D.Choose kernel answer) = IsKernel p total Choice kernel × (answer < 2 ^ 32)
  IsDeed (D.Run kernel) = IsKernel p total Compute kernel
  IsDeed (D.Send to label) = (to < total) × (label < length p.labels)
  IsDeed (D.Recv from label) = (from < total) × (label < length p.labels)
  IsDeed (D.Enter what) = IsJoint p total what
  IsDeed (D.Leave what) = IsJoint p total what

  -- ---- the text

  four : (a b c d e : List ℕ) → a ++ b ++ c ++ d ++ e ≡ a ++ (b ++ (c ++ (d ++ e)))
  four a b c d e = append_assoc (a ++ b ++ c) d e ∙ append_assoc (a ++ b) c (d ++ e) ∙ append_assoc a b (c ++ (d ++ e))

  labelled : (label : CoreLabel) (ws : List ℕ) → label_text label ws ≡ label.name ++ tail_of (map (word_text label.payload) ws)
  labelled label ws = ap (λ xs. label.name ++ xs) (words_tail label.payload ws)

  joined_text : (what : Joint) (ws : List ℕ) → joint_text p what ws ≡ joint_name what ++ tail_of (map (word_text (payload_of p total what)) ws)
  joined_text Barrier ws = ap (λ xs. codes "barrier" ++ xs) (words_tail NoWords ws)
  joined_text (Labelled label) ws = labelled (label_at p label) ws

  pub text_is : (a : Action) → action_text p a ≡ line_of (told_fields a)
  text_is (A.Choose rank kernel answer) =
      four (decimal rank) (codes " choose ") (kernel_at p kernel).name (codes " ") (decimal answer)
      ∙ ap (λ xs. decimal rank ++ (codes " choose " ++ ((kernel_at p kernel).name ++ (codes " " ++ xs)))) (sym (append-nil (decimal answer)))
  text_is (A.Run rank kernel) =
      append_assoc (decimal rank) (codes " run ") (kernel_at p kernel).name ∙ ap (λ xs. decimal rank ++ (codes " run " ++ xs)) (sym (append-nil (kernel_at p kernel).name))
  text_is (A.Send rank to label ws) =
      four (decimal rank) (codes " send ") (decimal to) (codes " ") (label_text (label_at p label) ws) ∙ ap (λ xs. decimal rank ++ (codes " send " ++ (decimal to ++ (codes " " ++ xs)))) (labelled (label_at p label) ws)
  text_is (A.Recv rank from label ws) =
      four (decimal rank) (codes " recv ") (decimal from) (codes " ") (label_text (label_at p label) ws) ∙ ap (λ xs. decimal rank ++ (codes " recv " ++ (decimal from ++ (codes " " ++ xs)))) (labelled (label_at p label) ws)
  text_is (A.Enter rank what ws) = append_assoc (decimal rank) (codes " enter ") (joint_text p what ws) ∙ ap (λ xs. decimal rank ++ (codes " enter " ++ xs)) (joined_text what ws)
  text_is (A.Leave rank what ws) = append_assoc (decimal rank) (codes " leave ") (joint_text p what ws) ∙ ap (λ xs. decimal rank ++ (codes " leave " ++ xs)) (joined_text what ws)

  -- ---- names

  module _ (labels : AreLabels p.labels) (kernels : AreKernels p.kernels) where
    label_name : (label : ℕ) → label < length p.labels → get_or (map (λ (l : CoreLabel). l.name) p.labels) label [] ≡ (label_at p label).name
    label_name label lt = get_or-map (λ (l : CoreLabel). l.name) p.labels label (record { name = []; payload = NoWords }) [] lt

    kernel_name : (kernel : ℕ) → kernel < length p.kernels → get_or (map (λ (k : CoreKernel). k.name) p.kernels) kernel [] ≡ (kernel_at p kernel).name
    kernel_name kernel lt = get_or-map (λ (k : CoreKernel). k.name) p.kernels kernel (record { name = []; kind = Compute }) [] lt

    pub label_spelled : (label : ℕ) → label < length p.labels → IsSpelled (label_at p label).name
    label_spelled label lt = spelled (label_at p label).name (All-get_or IsLabelRow p.labels label (record { name = []; payload = NoWords }) lt labels.each).name

    pub kernel_spelled : (kernel : ℕ) → kernel < length p.kernels → IsSpelled (kernel_at p kernel).name
    kernel_spelled kernel lt = spelled (kernel_at p kernel).name (All-get_or (λ (k : CoreKernel). IsTrue (is_name k.name)) p.kernels kernel (record { name = []; kind = Compute }) lt kernels.each)

    label_again : (label : ℕ) → label < length p.labels → label_in p total (label_at p label).name ≡ Some label
    label_again label lt =
        let e = label_name label lt in
        subst (λ x. label_in p total x ≡ Some label) e (find_again (map (λ (l : CoreLabel). l.name) p.labels) label labels.distinct (omega (arith, lt, length-map p.labels (λ (l : CoreLabel). l.name))) (subst IsSpelled (sym e) (label_spelled label lt)))

    same_kind : (kind : KernelKind) → is_kind kind kind ≡ true
    same_kind Compute = refl
    same_kind Choice = refl

    kernel_again : (kind : KernelKind) (kernel : ℕ) → IsKernel p total kind kernel → kernel_in p total kind (kernel_at p kernel).name ≡ Some kernel
    kernel_again kind kernel h =
        let e = kernel_name kernel h.0 in
        let at = subst (λ x. find_in (map (λ (k : CoreKernel). k.name) p.kernels) x ≡ Some kernel) e (find_again (map (λ (k : CoreKernel). k.name) p.kernels) kernel kernels.distinct (omega (arith, h.0, length-map p.kernels (λ (k : CoreKernel). k.name))) (subst IsSpelled (sym e) (kernel_spelled kernel h.0))) in
        ap (λ o. o >>= λ k. cond (is_kind (kernel_at p k).kind kind) (Some k) None) at ∙ ap (λ b. cond b (Some kernel) None) (ap (λ x. is_kind x kind) h.1 ∙ same_kind kind)

    -- ---- again

    module _ (few : total ≤ 2 ^ 32) where
      rank_again : (rank : ℕ) → rank < total → rank_in p total (decimal rank) ≡ Some rank
      rank_again rank lt = whole_again total rank lt (omega (arith, few))

      choose_again : (kernel answer : ℕ) (more : List (List ℕ)) → IsKernel p total Choice kernel → answer < 2 ^ 32 → choose_in p total ((kernel_at p kernel).name ∷ decimal answer ∷ more) ≡ Some (D.Choose kernel answer, more)
      choose_again kernel answer more h lt =
          ap (λ o. o >>= λ k. answer_in p total k (decimal answer ∷ more)) (kernel_again Choice kernel h) ∙ ap (λ o. o >>= λ a. Some (D.Choose kernel a, more)) (whole_again (2 ^ 32) answer lt (omega arith))

      message_again : (peer label : ℕ) (more : List (List ℕ)) → peer < total → label < length p.labels → message_in p total (decimal peer ∷ (label_at p label).name ∷ more) ≡ Some ((peer, label), more)
      message_again peer label more lt l =
          ap (λ o. o >>= λ q. labelled_in p total q ((label_at p label).name ∷ more)) (rank_again peer lt) ∙ ap (λ o. o >>= λ x. Some ((peer, x), more)) (label_again label l)

      joint_again : (what : Joint) (more : List (List ℕ)) → IsJoint p total what → joint_in p total (joint_name what ∷ more) ≡ Some (what, more)
      joint_again Barrier more h = refl
      joint_again (Labelled label) more h =
          ap (λ b. cond b (Some (Barrier, more)) (label_in p total (label_at p label).name >>= λ l. Some (Labelled l, more))) (label_spelled label h).other
          ∙ ap (λ o. o >>= λ l. Some (Labelled l, more)) (label_again label h)

      done_again : (deed : Deed) (more : List (List ℕ)) → IsDeed deed → done_in p total (deed_fields deed ++ more) ≡ Some (deed, more)
      done_again (D.Choose kernel answer) more h = choose_again kernel answer more h.0 h.1
      done_again (D.Run kernel) more h = ap (λ o. o >>= λ k. Some (D.Run k, more)) (kernel_again Compute kernel h)
      done_again (D.Send to label) more h = ap (λ o. o >>= λ m. Some (D.Send m.0.0 m.0.1, m.1)) (message_again to label more h.0 h.1)
      done_again (D.Recv from label) more h = ap (λ o. o >>= λ m. Some (D.Recv m.0.0 m.0.1, m.1)) (message_again from label more h.0 h.1)
      done_again (D.Enter what) more h = ap (λ o. o >>= λ j. Some (D.Enter j.0, j.1)) (joint_again what more h)
      done_again (D.Leave what) more h = ap (λ o. o >>= λ j. Some (D.Leave j.0, j.1)) (joint_again what more h)

      begun_again : (rank : ℕ) (deed : Deed) (more : List (List ℕ)) → rank < total → IsDeed deed → begun_in p total (decimal rank ∷ (deed_fields deed ++ more)) ≡ Some ((rank, deed), more)
      begun_again rank deed more lt h =
          ap (λ o. o >>= λ r. by_rank p total r (done_in p total (deed_fields deed ++ more))) (rank_again rank lt) ∙ ap (by_rank p total rank) (done_again deed more h)

      completed_again : (a : Action) → AreWords p total (words_of a) → completed p total (rank_of a) (deed_of a) (word_fields a) ≡ Some a
      completed_again (A.Choose rank kernel answer) h = refl
      completed_again (A.Run rank kernel) h = refl
      completed_again (A.Send rank to label ws) h = ap (λ o. o >>= λ xs. Some (A.Send rank to label xs)) (words_again (label_at p label).payload ws h)
      completed_again (A.Recv rank from label ws) h = ap (λ o. o >>= λ xs. Some (A.Recv rank from label xs)) (words_again (label_at p label).payload ws h)
      completed_again (A.Enter rank what ws) h = ap (λ o. o >>= λ xs. Some (A.Enter rank what xs)) (words_again (payload_of p total what) ws h)
      completed_again (A.Leave rank what ws) h = ap (λ o. o >>= λ xs. Some (A.Leave rank what xs)) (words_again (payload_of p total what) ws h)

      told_again : (a : Action) → rank_of a < total → IsDeed (deed_of a) → AreWords p total (words_of a) → entry_in p total (told_fields a) ≡ Some a
      told_again a lt h ws =
          ap (λ o. o >>= λ x. completed p total x.0.0 x.0.1 x.1) (begun_again (rank_of a) (deed_of a) (word_fields a) lt h) ∙ completed_again a ws

      pub record Parts (a : Action) : Type 0 where
        pub rank : rank_of a < total
        pub deed : IsDeed (deed_of a)
        pub words : AreWords p total (words_of a)

      pub parts : (a : Action) → IsTold p total a → Parts a
      parts (A.Choose rank kernel answer) h = record { rank = h.0; deed = (h.1, h.2); words = tt }
      parts (A.Run rank kernel) h = record { rank = h.0; deed = h.1; words = tt }
      parts (A.Send rank to label ws) h = record { rank = h.0; deed = (h.1, h.2); words = h.3 }
      parts (A.Recv rank from label ws) h = record { rank = h.0; deed = (h.1, h.2); words = h.3 }
      parts (A.Enter rank what ws) h = record { rank = h.0; deed = h.1; words = h.2 }
      parts (A.Leave rank what ws) h = record { rank = h.0; deed = h.1; words = h.2 }

      pub entry_again : (a : Action) → IsTold p total a → entry_in p total (told_fields a) ≡ Some a
      entry_again a h = let q = parts a h in told_again a q.rank q.deed q.words
