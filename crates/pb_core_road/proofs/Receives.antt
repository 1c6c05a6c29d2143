-- A rank that receives first does so on some way.
use Rattle.std.proofs.Common.{◌≡◌, ◌≢◌, ℕ, zero, suc, ◌<◌, ◌==◌, Bool, true, false, cond, ◌&&◌, ◌||◌, MatchBool, List, [], ◌∷◌, ◌++◌, refl, sym, ap, ◌∙◌, subst, inl, inr, append-nil, arith}
use Rattle.std.proofs.lemmas.Bool.{and_parts, cases_Bool}
use Rattle.pb_world.specs.Actions.{Action, Recv, of_rank}
use Rattle.pb_world.proofs.Lists.{eqb_cases, of_append}
use Rattle.pb_world.proofs.Sequential.{message_receiver}
use Rattle.pb_core_language.specs.Flat.{Origin, Block, stop, message, compute, together, choice, looped, again, Branches, no_branch, branch, takes_part, takes_part_among, count, branch_at, can_end, some_can_end}
use Rattle.pb_core_language.specs.Run.{Setting, Opener, Chosen, Body, Frame, words_now, emit_at}
use Rattle.pb_core_endpoint.specs.Rules.{is_stop}
use Rattle.pb_core_endpoint.proofs.Kept.{Receives_first, Receives_each, Ends_before, Ends_before_each}
use Rattle.pb_core_road.specs.Roads.{mute, none, Road, here, goes, chooses, Across, at_once, by_message, by_compute, by_together, by_choice, by_loop}
use Rattle.pb_core_road.proofs.Roads.{road_on, across_road}

module _ (w : Setting) where
  -- ---- what can end is passed

  pub record Ending (bs : Branches) : Type 0 where
    pub number : ℕ
    pub there : number < count bs
    pub does : List (ℕ × Action)
    pub across : Across w (branch_at number bs) does stop

  mutual
    pub can_pass : (g : Block) → can_end g ≡ true → (s : List (ℕ × Action)) × Across w g s stop
    can_pass stop h = ([], at_once)
    can_pass (message origin p q l g) h = let r = can_pass g h in (_, by_message r.1)
    can_pass (compute origin p k g) h = let r = can_pass g h in (_, by_compute r.1)
    can_pass (together origin j g) h = let r = can_pass g h in (_, by_together r.1)
    can_pass (choice origin p k bs g) h = let x = and_parts (some_can_end bs) (can_end g) h in let b = some_passes bs x.0 in let r = can_pass g x.1 in (_, by_choice b.number b.there b.across r.1)
    can_pass (looped origin b g) h = let x = and_parts (can_end b) (can_end g) h in let i = can_pass b x.0 in let r = can_pass g x.1 in (_, by_loop i.1 r.1)
    can_pass (again n) h = cc

    some_passes : (bs : Branches) → some_can_end bs ≡ true → Ending bs
    some_passes no_branch h = cc
    some_passes (branch mark b bs) h =
        elim (cases_Bool (can_end b)) [
          | inl e ↦ (let r = can_pass b e in record { number = 0; there = omega arith; does = r.0; across = r.1 })
          | inr e ↦ (let r = some_passes bs (other (can_end b) (some_can_end bs) h e) in record { number = suc r.number; there = (let lt = r.there in omega arith); does = r.does; across = r.across })
        ]
      where
        other : (x y : Bool) → x || y ≡ true → x ≡ false → y ≡ true
        other x y h e = grind arith

  module _ (r : ℕ) where
    -- a way on which the rank does something
    pub record Acts (K : List Frame) : Type 0 where
      pub does : List (ℕ × Action)
      pub to : List Frame
      pub road : Road w K does to
      pub action : Action
      pub rest : List Action
      pub is : of_rank r does ≡ action ∷ rest

    acts_after : (K K1 : List Frame) (s : List (ℕ × Action)) → Road w K s K1 → Acts K1 → Acts K
    acts_after K K1 s road a = by (of_rank r s) refl
      where
        by : (t : List Action) → of_rank r s ≡ t → Acts K
        by [] e = record { does = s ++ a.does; to = a.to; road = road_on w road a.road; action = a.action; rest = a.rest; is = of_append r s a.does ∙ ap (λ l. l ++ of_rank r a.does) e ∙ a.is }
        by (x ∷ t) e = record { does = s; to = K1; road = road; action = x; rest = t; is = e }

    not_last : (held : List Bool) (p : ℕ) (g : Block) → Receives_first held r p g → is_stop g ≡ false
    not_last held p stop h = absurd h
    not_last held p (message origin p' q l g) h = refl
    not_last held p (compute origin p' k g) h = refl
    not_last held p (together origin j g) h = refl
    not_last held p (choice origin p' k bs g) h = refl
    not_last held p (looped origin b g) h = refl
    not_last held p (again n) h = absurd h

    mutual
      pub receives_acts : (held : List Bool) (p : ℕ) (g : Block) → Receives_first held r p g → Ends_before g → (o : Opener) (K : List Frame) → Acts (record { opener = o; rest = g } ∷ K)
      receives_acts held p stop h ends o K = absurd h
      receives_acts held p (message origin p' q' l g) h ends o K =
          elim (eqb_cases p' r) [
            | inl y ↦ absurd (subst (λ u. MatchBool u ⊥ (MatchBool (q' == r) (p' ≡ p) (Receives_first held r p g))) y.1 h)
            | inr y ↦
                let h' = subst (λ b. MatchBool b ⊥ (MatchBool (q' == r) (p' ≡ p) (Receives_first held r p g))) y.1 h in
                let ws = words_now w (mute none) p' q' l in
                let road : Road w (record { opener = o; rest = message origin p' q' l g } ∷ K) (emit_at w (message origin p' q' l g) (mute none) ++ []) (record { opener = o; rest = g } ∷ K) = goes (message origin p' q' l g) refl here in
                elim (eqb_cases q' r) [
                  | inl z ↦
                      let ne : p' ≢ q' = λ e. y.0 (e ∙ z.0) in
                      record {
                        does = emit_at w (message origin p' q' l g) (mute none) ++ [];
                        to = record { opener = o; rest = g } ∷ K;
                        road = road;
                        action = Recv p' l ws;
                        rest = [];
                        is = subst (λ k. of_rank k (emit_at w (message origin p' q' l g) (mute none)) ≡ Recv p' l ws ∷ []) z.0 (message_receiver p' q' l ws ne);
                      }
                  | inr z ↦ acts_after _ _ _ road (receives_acts held p g (subst (λ b. MatchBool b (p' ≡ p) (Receives_first held r p g)) z.1 h') ends o K)
                ]
          ]
      receives_acts held p (compute origin p' k g) h ends o K =
          elim (eqb_cases p' r) [
            | inl y ↦ absurd (subst (λ u. MatchBool u ⊥ (Receives_first held r p g)) y.1 h)
            | inr y ↦ acts_after _ _ _ (goes (compute origin p' k g) refl here) (receives_acts held p g (subst (λ b. MatchBool b ⊥ (Receives_first held r p g)) y.1 h) ends o K)
          ]
      receives_acts held p (together origin j g) h ends o K = absurd h
      receives_acts held p (choice origin p' k bs g) h ends o K =
          elim (eqb_cases p' r) [
            | inl v ↦ absurd (subst (λ u. MatchBool u ⊥ (MatchBool (takes_part_among held r bs) (Receives_each held r p bs) (Receives_first held r p g))) v.1 h)
            | inr v ↦
                let h' = subst (λ u. MatchBool u ⊥ (MatchBool (takes_part_among held r bs) (Receives_each held r p bs) (Receives_first held r p g))) v.1 h in
                elim (cases_Bool (takes_part_among held r bs)) [
                  | inl z ↦ branch_acts held p bs z (subst (λ u. MatchBool u (Receives_each held r p bs) (Receives_first held r p g)) z h') ends.1 origin p' k g o K
                  | inr z ↦
                      let later = subst (λ u. MatchBool u (Receives_each held r p bs) (Receives_first held r p g)) z h' in
                      let b = some_passes bs (ends.0 (not_last held p g later)).0 in
                      acts_after _ _ _ (across_road w (by_choice {origin = origin} {p = p'} {k = k} {bs = bs} {g = g} b.number b.there b.across at_once) o K) (receives_acts held p g later ends.2 o K)
                ]
          ]
      receives_acts held p (looped origin b g) h ends o K =
          elim (cases_Bool (takes_part (false ∷ held) r b)) [
            | inl z ↦
                let inner = subst (λ u. MatchBool u (Receives_first (true ∷ held) r p b) (Receives_first held r p g)) z h in
                acts_after _ _ _ (goes (looped origin b g) refl here) (receives_acts (true ∷ held) p b inner ends.1 (Body b) (record { opener = o; rest = g } ∷ K))
            | inr z ↦
                let later = subst (λ u. MatchBool u (Receives_first (true ∷ held) r p b) (Receives_first held r p g)) z h in
                let i = can_pass b (ends.0 (not_last held p g later)).0 in
                acts_after _ _ _ (across_road w (by_loop {origin = origin} {b = b} {g = g} i.1 at_once) o K) (receives_acts held p g later ends.2 o K)
          ]
      receives_acts held p (again n) h ends o K = absurd h

      branch_acts : (held : List Bool) (p : ℕ) (bs : Branches) → takes_part_among held r bs ≡ true → Receives_each held r p bs → Ends_before_each bs → (origin : Origin) (p' k : ℕ) (g : Block) (o : Opener) (K : List Frame) → Acts (record { opener = o; rest = choice origin p' k bs g } ∷ K)
      branch_acts held p no_branch some h ends origin p' k g o K = cc
      branch_acts held p (branch mark b bs) some h ends origin p' k g o K =
          acts_after _ _ _ (chooses 0 (omega arith) here) (receives_acts held p b h.0 ends.0 (Chosen p' (branch mark b bs)) (record { opener = o; rest = g } ∷ K))
