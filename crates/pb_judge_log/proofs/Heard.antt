-- What is read as an action has the fields of that action's line.
use Rattle.std.proofs.Common.{◌≡◌, ℕ, ◌<◌, ◌^◌, Bool, true, false, cond, List, [], ◌∷◌, ◌++◌, length, map, Option, Some, None, refl, sym, ap, ap₂, subst, ◌∙◌, arith}
use Rattle.std.specs.Prelude.{nat_eq, codes, decimal}
use Rattle.std.specs.Cmp.Lexicographic.{pointwise}
use Rattle.std.proofs.lemmas.List.{get_or-map, length-map}
use Rattle.std.proofs.lemmas.Slice.Eq.{bytes_eq-Decides}
use Rattle.pb_text.specs.declared.action.Action.{Action}
use Rattle.pb_text.specs.declared.action.Action.TheVariants as A
use Rattle.pb_text.specs.declared.action.Joint.{Joint}
use Rattle.pb_text.specs.declared.action.Joint.TheVariants.{Barrier, Labelled}
use Rattle.pb_syntax.specs.declared.core_label.CoreLabel.{CoreLabel}
use Rattle.pb_syntax.specs.declared.core_label.CoreKernel.{CoreKernel}
use Rattle.pb_syntax.specs.declared.core_label.KernelKind.{KernelKind}
use Rattle.pb_syntax.specs.declared.core_label.KernelKind.TheVariants.{Compute, Choice}
use Rattle.pb_syntax.specs.declared.tree.Payload.TheVariants.{Unit as NoWords}
use Rattle.pb_local.specs.Tables.{label_at, kernel_at}
use Rattle.pb_local.specs.Tree.{Program}
use Rattle.pb_text_read.specs.Fronts.{◌>>=◌}
use Rattle.pb_judge_log.specs.declared.actions.Verb.{Verb}
use Rattle.pb_judge_log.specs.declared.actions.Verb.TheVariants as V
use Rattle.pb_judge_log.specs.declared.actions.Deed.{Deed}
use Rattle.pb_judge_log.specs.declared.actions.Deed.TheVariants as D
use Rattle.pb_judge_log.specs.Entries.{IsKernel, IsJoint, IsTold}
use Rattle.pb_judge_log.specs.Reading.{whole_number, words_in, find_in, is_kind, verb_in, label_in, kernel_in, rank_in, answer_in, choose_in, run_in, labelled_in, message_in, joint_in, deed_in, done_in, by_rank, begun_in, alone, payload_of, completed, entry_in}
use Rattle.pb_judge_log.proofs.Interning.{IsPlaced}
use Rattle.pb_judge_log.proofs.Names.{find_sound}
use Rattle.pb_judge_log.proofs.Spelled.{whole_sound, IsNumber, words_sound}
use Rattle.pb_judge_log.proofs.Told.{bind_some, joint_name, deed_fields, told_fields, IsDeed}

some_same : {A : Type 0} {a b : A} → ◌≡◌ {A = Option A} (Some a) (Some b) → a ≡ b
some_same {A} {a} {b} e = cc

-- ---- verbs

abbrev verb_text : Verb → List ℕ
verb_text V.Choose = codes "choose"
verb_text V.Run = codes "run"
verb_text V.Send = codes "send"
verb_text V.Recv = codes "recv"
verb_text V.Enter = codes "enter"
verb_text V.Leave = codes "leave"

-- a word that is tested first, and others
tested : (word text : List ℕ) (v : Verb) (o : Option Verb) (w : Verb) → text ≡ verb_text v → (o ≡ Some w → word ≡ verb_text w) → cond (pointwise nat_eq word text) (Some v) o ≡ Some w → word ≡ verb_text w
tested word text v o w e more h = by_test (pointwise nat_eq word text) refl h where
  by_test : (b : Bool) → pointwise nat_eq word text ≡ b → cond b (Some v) o ≡ Some w → word ≡ verb_text w
  by_test true t g = (bytes_eq-Decides word text).0 t ∙ e ∙ ap verb_text (some_same g)
  by_test false t g = more g

no_verb : (word : List ℕ) (w : Verb) → ◌≡◌ {A = Option Verb} None (Some w) → word ≡ verb_text w
no_verb word w h = absurd cc

verb_sound : (word : List ℕ) (w : Verb) → verb_in word ≡ Some w → word ≡ verb_text w
verb_sound word w h =
    tested word (codes "choose") V.Choose _ w refl (tested word (codes "run") V.Run _ w refl (tested word (codes "send") V.Send _ w refl
    (tested word (codes "recv") V.Recv _ w refl (tested word (codes "enter") V.Enter _ w refl (tested word (codes "leave") V.Leave None w refl (no_verb word w)))))) h

module _ (p : Program) (total : ℕ) where
  -- ---- names

  record IsLabelled (field : List ℕ) (label : ℕ) : Type 0 where
    is : field ≡ (label_at p label).name
    there : label < length p.labels

  label_sound : (field : List ℕ) (label : ℕ) → label_in p total field ≡ Some label → IsLabelled field label
  label_sound field label h =
      let k = find_sound (map (λ (l : CoreLabel). l.name) p.labels) field label h in
      let lt : label < length p.labels = omega (arith, k.there, length-map p.labels (λ (l : CoreLabel). l.name)) in
      record { is = k.same ∙ get_or-map (λ (l : CoreLabel). l.name) p.labels label (record { name = []; payload = NoWords }) [] lt; there = lt }

  is_same_kind : (a b : KernelKind) → is_kind a b ≡ true → a ≡ b
  is_same_kind Compute Compute e = refl
  is_same_kind Compute Choice e = absurd cc
  is_same_kind Choice Compute e = absurd cc
  is_same_kind Choice Choice e = refl

  record IsNamed (kind : KernelKind) (field : List ℕ) (kernel : ℕ) : Type 0 where
    is : field ≡ (kernel_at p kernel).name
    there : IsKernel p total kind kernel

  kernel_sound : (kind : KernelKind) (field : List ℕ) (kernel : ℕ) → kernel_in p total kind field ≡ Some kernel → IsNamed kind field kernel
  kernel_sound kind field kernel h = go (find_in (map (λ (k : CoreKernel). k.name) p.kernels) field) refl h where
    named : (k : ℕ) → IsPlaced (map (λ (k : CoreKernel). k.name) p.kernels) field k → (b : Bool) → is_kind (kernel_at p k).kind kind ≡ b → cond b (Some k) None ≡ Some kernel → IsNamed kind field kernel
    named k at true e g =
        let lt : k < length p.kernels = omega (arith, at.there, length-map p.kernels (λ (k : CoreKernel). k.name)) in
        subst (IsNamed kind field) (some_same g) (record { is = at.same ∙ get_or-map (λ (k : CoreKernel). k.name) p.kernels k (record { name = []; kind = Compute }) [] lt; there = (lt, is_same_kind _ kind e) })
    named k at false e g = absurd cc

    go : (o : Option ℕ) → find_in (map (λ (k : CoreKernel). k.name) p.kernels) field ≡ o → (o >>= λ k. cond (is_kind (kernel_at p k).kind kind) (Some k) None) ≡ Some kernel → IsNamed kind field kernel
    go None e g = absurd cc
    go (Some k) e g = named k (find_sound (map (λ (k : CoreKernel). k.name) p.kernels) field k e) (is_kind (kernel_at p k).kind kind) refl g

  -- ---- what a rank does

  record IsDone (fields : List (List ℕ)) (x : Deed × List (List ℕ)) : Type 0 where
    is : fields ≡ deed_fields p total x.0 ++ x.1
    deed : IsDeed p total x.0

  choose_sound : (rest : List (List ℕ)) (x : Deed × List (List ℕ)) → choose_in p total rest ≡ Some x → IsDone (codes "choose" ∷ rest) x
  choose_sound [] x h = absurd cc
  choose_sound (name ∷ rest) x h =
      let k = bind_some (kernel_in p total Choice name) (λ kernel. answer_in p total kernel rest) x h in
      answered rest k.0 (kernel_sound Choice name k.0 k.1) k.2
    where
      answered : (rest : List (List ℕ)) (kernel : ℕ) → IsNamed Choice name kernel → answer_in p total kernel rest ≡ Some x → IsDone (codes "choose" ∷ name ∷ rest) x
      answered [] kernel named g = absurd cc
      answered (field ∷ more) kernel named g =
          let a = bind_some (whole_number (2 ^ 32) field) (λ answer. Some (D.Choose kernel answer, more)) x g in
          let n = whole_sound (2 ^ 32) field a.0 a.1 in
          subst (IsDone (codes "choose" ∷ name ∷ field ∷ more)) (some_same a.2) (record {
            is = ap₂ (λ y z. codes "choose" ∷ y ∷ z ∷ more) named.is n.is;
            deed = (named.there, n.small);
          })

  run_sound : (rest : List (List ℕ)) (x : Deed × List (List ℕ)) → run_in p total rest ≡ Some x → IsDone (codes "run" ∷ rest) x
  run_sound [] x h = absurd cc
  run_sound (name ∷ rest) x h =
      let k = bind_some (kernel_in p total Compute name) (λ kernel. Some (D.Run kernel, rest)) x h in
      let named = kernel_sound Compute name k.0 k.1 in
      subst (IsDone (codes "run" ∷ name ∷ rest)) (some_same k.2) (record { is = ap (λ y. codes "run" ∷ y ∷ rest) named.is; deed = named.there })

  record IsMessage (rest : List (List ℕ)) (x : (ℕ × ℕ) × List (List ℕ)) : Type 0 where
    is : rest ≡ decimal x.0.0 ∷ (label_at p x.0.1).name ∷ x.1
    peer : x.0.0 < total
    label : x.0.1 < length p.labels

  message_sound : (rest : List (List ℕ)) (x : (ℕ × ℕ) × List (List ℕ)) → message_in p total rest ≡ Some x → IsMessage rest x
  message_sound [] x h = absurd cc
  message_sound (field ∷ rest) x h =
      let r = bind_some (rank_in p total field) (λ peer. labelled_in p total peer rest) x h in
      labelled rest r.0 (whole_sound total field r.0 r.1) r.2
    where
      labelled : (rest : List (List ℕ)) (peer : ℕ) → IsNumber total field peer → labelled_in p total peer rest ≡ Some x → IsMessage (field ∷ rest) x
      labelled [] peer n g = absurd cc
      labelled (name ∷ more) peer n g =
          let l = bind_some (label_in p total name) (λ label. Some ((peer, label), more)) x g in
          let k = label_sound name l.0 l.1 in
          subst (IsMessage (field ∷ name ∷ more)) (some_same l.2) (record { is = ap₂ (λ y z. y ∷ z ∷ more) n.is k.is; peer = n.small; label = k.there })

  record IsJoined (rest : List (List ℕ)) (x : Joint × List (List ℕ)) : Type 0 where
    is : rest ≡ joint_name p total x.0 ∷ x.1
    joint : IsJoint p total x.0

  joint_sound : (rest : List (List ℕ)) (x : Joint × List (List ℕ)) → joint_in p total rest ≡ Some x → IsJoined rest x
  joint_sound [] x h = absurd cc
  joint_sound (name ∷ rest) x h = by_test (pointwise nat_eq name (codes "barrier")) refl h where
    by_test : (b : Bool) → pointwise nat_eq name (codes "barrier") ≡ b → cond b (Some (Barrier, rest)) (label_in p total name >>= λ label. Some (Labelled label, rest)) ≡ Some x → IsJoined (name ∷ rest) x
    by_test true e g = subst (IsJoined (name ∷ rest)) (some_same g) (record { is = ap (λ y. y ∷ rest) ((bytes_eq-Decides name (codes "barrier")).0 e); joint = tt })
    by_test false e g =
        let l = bind_some (label_in p total name) (λ label. Some (Labelled label, rest)) x g in
        let k = label_sound name l.0 l.1 in
        subst (IsJoined (name ∷ rest)) (some_same l.2) (record { is = ap (λ y. y ∷ rest) k.is; joint = k.there })

  deed_sound : (v : Verb) (rest : List (List ℕ)) (x : Deed × List (List ℕ)) → deed_in p total v rest ≡ Some x → IsDone (verb_text v ∷ rest) x
  deed_sound V.Choose rest x h = choose_sound rest x h
  deed_sound V.Run rest x h = run_sound rest x h
  deed_sound V.Send rest x h =
      let m = bind_some (message_in p total rest) (λ m. Some (D.Send m.0.0 m.0.1, m.1)) x h in
      let k = message_sound rest m.0 m.1 in
      subst (IsDone (codes "send" ∷ rest)) (some_same m.2) (record { is = ap (λ y. codes "send" ∷ y) k.is; deed = (k.peer, k.label) })
  deed_sound V.Recv rest x h =
      let m = bind_some (message_in p total rest) (λ m. Some (D.Recv m.0.0 m.0.1, m.1)) x h in
      let k = message_sound rest m.0 m.1 in
      subst (IsDone (codes "recv" ∷ rest)) (some_same m.2) (record { is = ap (λ y. codes "recv" ∷ y) k.is; deed = (k.peer, k.label) })
  deed_sound V.Enter rest x h =
      let j = bind_some (joint_in p total rest) (λ j. Some (D.Enter j.0, j.1)) x h in
      let k = joint_sound rest j.0 j.1 in
      subst (IsDone (codes "enter" ∷ rest)) (some_same j.2) (record { is = ap (λ y. codes "enter" ∷ y) k.is; deed = k.joint })
  deed_sound V.Leave rest x h =
      let j = bind_some (joint_in p total rest) (λ j. Some (D.Leave j.0, j.1)) x h in
      let k = joint_sound rest j.0 j.1 in
      subst (IsDone (codes "leave" ∷ rest)) (some_same j.2) (record { is = ap (λ y. codes "leave" ∷ y) k.is; deed = k.joint })

  done_sound : (rest : List (List ℕ)) (x : Deed × List (List ℕ)) → done_in p total rest ≡ Some x → IsDone rest x
  done_sound [] x h = absurd cc
  done_sound (field ∷ rest) x h =
      let v = bind_some (verb_in field) (λ verb. deed_in p total verb rest) x h in
      subst (λ f. IsDone (f ∷ rest) x) (sym (verb_sound field v.0 v.1)) (deed_sound v.0 rest x v.2)

  -- ---- the whole line

  pub record IsHeard (fields : List (List ℕ)) (a : Action) : Type 0 where
    pub is : fields ≡ told_fields p total a
    pub told : IsTold p total a

  no_fields : (action : Action) (more : List (List ℕ)) (a : Action) → alone action more ≡ Some a → (action ≡ a) × (more ≡ [])
  no_fields action [] a h = (some_same h, refl)
  no_fields action (f ∷ fs) a h = absurd cc

  completed_sound : (rank : ℕ) (deed : Deed) (more : List (List ℕ)) (a : Action) → rank < total → IsDeed p total deed → completed p total rank deed more ≡ Some a → IsHeard (decimal rank ∷ (deed_fields p total deed ++ more)) a
  completed_sound rank (D.Choose kernel answer) more a lt d h =
      let n = no_fields (A.Choose rank kernel answer) more a h in
      subst (IsHeard (decimal rank ∷ (deed_fields p total (D.Choose kernel answer) ++ more))) n.0 (record { is = ap (λ fs. decimal rank ∷ (deed_fields p total (D.Choose kernel answer) ++ fs)) n.1; told = (lt, d.0, d.1) })
  completed_sound rank (D.Run kernel) more a lt d h =
      let n = no_fields (A.Run rank kernel) more a h in
      subst (IsHeard (decimal rank ∷ (deed_fields p total (D.Run kernel) ++ more))) n.0 (record { is = ap (λ fs. decimal rank ∷ (deed_fields p total (D.Run kernel) ++ fs)) n.1; told = (lt, d) })
  completed_sound rank (D.Send to label) more a lt d h =
      let w = bind_some (words_in (label_at p label).payload more) (λ ws. Some (A.Send rank to label ws)) a h in
      let k = words_sound (label_at p label).payload more w.0 w.1 in
      subst (IsHeard (decimal rank ∷ (deed_fields p total (D.Send to label) ++ more))) (some_same w.2) (record { is = ap (λ fs. decimal rank ∷ (deed_fields p total (D.Send to label) ++ fs)) k.is; told = (lt, d.0, d.1, k.each) })
  completed_sound rank (D.Recv from label) more a lt d h =
      let w = bind_some (words_in (label_at p label).payload more) (λ ws. Some (A.Recv rank from label ws)) a h in
      let k = words_sound (label_at p label).payload more w.0 w.1 in
      subst (IsHeard (decimal rank ∷ (deed_fields p total (D.Recv from label) ++ more))) (some_same w.2) (record { is = ap (λ fs. decimal rank ∷ (deed_fields p total (D.Recv from label) ++ fs)) k.is; told = (lt, d.0, d.1, k.each) })
  completed_sound rank (D.Enter what) more a lt d h =
      let w = bind_some (words_in (payload_of p total what) more) (λ ws. Some (A.Enter rank what ws)) a h in
      let k = words_sound (payload_of p total what) more w.0 w.1 in
      subst (IsHeard (decimal rank ∷ (deed_fields p total (D.Enter what) ++ more))) (some_same w.2) (record { is = ap (λ fs. decimal rank ∷ (deed_fields p total (D.Enter what) ++ fs)) k.is; told = (lt, d, k.each) })
  completed_sound rank (D.Leave what) more a lt d h =
      let w = bind_some (words_in (payload_of p total what) more) (λ ws. Some (A.Leave rank what ws)) a h in
      let k = words_sound (payload_of p total what) more w.0 w.1 in
      subst (IsHeard (decimal rank ∷ (deed_fields p total (D.Leave what) ++ more))) (some_same w.2) (record { is = ap (λ fs. decimal rank ∷ (deed_fields p total (D.Leave what) ++ fs)) k.is; told = (lt, d, k.each) })

  by_rank_some : (rank : ℕ) (o : Option (Deed × List (List ℕ))) (x : (ℕ × Deed) × List (List ℕ)) → by_rank p total rank o ≡ Some x → (d : Deed × List (List ℕ)) × (o ≡ Some d) × (((rank, d.0), d.1) ≡ x)
  by_rank_some rank None x h = absurd cc
  by_rank_some rank (Some d) x h = (d, refl, some_same h)

  pub entry_sound : (fields : List (List ℕ)) (a : Action) → entry_in p total fields ≡ Some a → IsHeard fields a
  entry_sound [] a h = absurd cc
  entry_sound (field ∷ rest) a h =
      let b = bind_some (begun_in p total (field ∷ rest)) (λ x. completed p total x.0.0 x.0.1 x.1) a h in
      let r = bind_some (rank_in p total field) (λ rank. by_rank p total rank (done_in p total rest)) b.0 b.1 in
      let n = whole_sound total field r.0 r.1 in
      let d = by_rank_some r.0 (done_in p total rest) b.0 r.2 in
      let k = done_sound rest d.0 d.1 in
      let c : completed p total r.0 d.0.0 d.0.1 ≡ Some a = ap (λ (x : (ℕ × Deed) × List (List ℕ)). completed p total x.0.0 x.0.1 x.1) d.2 ∙ b.2 in
      subst (λ fs. IsHeard fs a) (sym (ap₂ (λ f fs. f ∷ fs) n.is k.is)) (completed_sound r.0 d.0.0 d.0.1 a n.small k.deed c)
