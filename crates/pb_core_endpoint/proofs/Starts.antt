-- With what an endpoint starts.
use Rattle.std.proofs.Common.{◌≡◌, ℕ, zero, suc, ◌<◌, ◌==◌, Bool, cond, true, false, ◌||◌, ◌&&◌, MatchBool, List, ◌∷◌, refl, sym, ap, ap₂, ◌∙◌, subst, inl, inr}
use Rattle.std.proofs.lemmas.Bool.{eqb-true, or_cases, cases_Bool, and_right}
use Rattle.pb_core_language.specs.Lists.{nth}
use Rattle.pb_core_language.specs.Flat.{Block, stop, message, compute, together, choice, looped, again, Branches, no_branch, branch, takes_part, takes_part_among, can_end, some_can_end}
use Rattle.pb_core_language.specs.Run.{Env, at_rank}
use Rattle.pb_core_language.specs.Outcomes.{firsts_among, source_of}
use Rattle.pb_core_endpoint.specs.Rules.{is_stop}
use Rattle.pb_core_endpoint.specs.Endpoint.{Code, done, send, receive, run, enter, leave, choose, told, loop, Arms, no_arm, arm, code, arms}
use Rattle.pb_core_endpoint.specs.Endpoint as E
use Rattle.pb_core_endpoint.proofs.Kept.{Receives_first, Receives_each, Keeps, Keeps_each, Ends_before, Ends_before_each}
use Rattle.pb_core_endpoint.proofs.Progress.{Le, le_under, part_more, part_more_among}

-- an action or a probe, a way back to the n-th open loop, or nothing
pub data Start : Type 0 where
  Acts : Start
  Returns : (n : ℕ) → Start
  Ends : Start

-- one loop further out
abbrev pub lower : Start → Start
lower Acts = Acts
lower (Returns zero) = Returns zero
lower (Returns (suc n)) = Returns n
lower Ends = Ends

abbrev pub then_start : Start → Start → Start
then_start Acts s = Acts
then_start (Returns n) s = Returns n
then_start Ends s = s

abbrev pub start_of : Code → Start
start_of done = Ends
start_of (send q l c) = Acts
start_of (receive p l c) = Acts
start_of (run k c) = Acts
start_of (enter j c) = Acts
start_of (leave j c) = Acts
start_of (choose k xs c) = Acts
start_of (told p xs c) = Acts
start_of (loop b c) = then_start (lower (start_of b)) (start_of c)
start_of (E.again n) = Returns n

-- there is a way back to the n-th open loop
abbrev mutual
  pub has_again : ℕ → Code → Bool
  has_again n done = false
  has_again n (send q l c) = has_again n c
  has_again n (receive p l c) = has_again n c
  has_again n (run k c) = has_again n c
  has_again n (enter j c) = has_again n c
  has_again n (leave j c) = has_again n c
  has_again n (choose k xs c) = has_again_arms n xs || has_again n c
  has_again n (told p xs c) = has_again_arms n xs || has_again n c
  has_again n (loop b c) = has_again (suc n) b || has_again n c
  has_again n (E.again m) = m == n

  pub has_again_arms : ℕ → Arms → Bool
  has_again_arms n no_arm = false
  has_again_arms n (arm ls c xs) = has_again n c || has_again_arms n xs

-- each arm starts with an action
abbrev pub Acting_arms : Arms → Type 0
Acting_arms no_arm = Unit {0}
Acting_arms (arm ls c xs) = (start_of c ≡ Acts) × Acting_arms xs

-- a loop to whose body there is a way back from inside starts with an action, and so does each arm of one that is told
abbrev mutual
  pub Fine : Code → Type 0
  Fine done = Unit {0}
  Fine (send q l c) = Fine c
  Fine (receive p l c) = Fine c
  Fine (run k c) = Fine c
  Fine (enter j c) = Fine c
  Fine (leave j c) = Fine c
  Fine (choose k xs c) = Fine_arms xs × Fine c
  Fine (told p xs c) = Acting_arms xs × Fine_arms xs × Fine c
  Fine (loop b c) = (has_again 0 b ≡ true → start_of b ≡ Acts) × Fine b × Fine c
  Fine (E.again n) = Unit {0}

  pub Fine_arms : Arms → Type 0
  Fine_arms no_arm = Unit {0}
  Fine_arms (arm ls c xs) = Fine c × Fine_arms xs

or_rest : (a b : Bool) → (a || b) ≡ true → a ≡ false → b ≡ true
or_rest false b h e = h
or_rest true b h e = cc

stop_is : (g : Block) → is_stop g ≡ true → g ≡ stop
stop_is stop h = refl
stop_is (message origin p q l g) h = cc
stop_is (compute origin p k g) h = cc
stop_is (together origin j g) h = cc
stop_is (choice origin p k bs g) h = cc
stop_is (looped origin b g) h = cc
stop_is (again n) h = cc

-- the shapes of a statement's code
abbrev pub message_code : Bool → Bool → ℕ → ℕ → ℕ → Code → Code
message_code u v p q l c = cond u (send q l c) (cond v (receive p l c) c)

abbrev pub choice_code : Bool → Bool → List Bool → ℕ → ℕ → Branches → Code → Code
choice_code u v held r k bs c = cond u (choose k (arms held r bs) c) (cond v (told (source_of (firsts_among held r bs)) (arms held r bs) c) c)

abbrev pub loop_code : Bool → Code → Code → Code
loop_code u cb c = cond u (loop cb c) c

module _ (r : ℕ) where
  inside : (held : List Bool) (b : Block) → takes_part (false ∷ held) r b ≡ true → takes_part (takes_part (false ∷ held) r b ∷ held) r b ≡ true
  inside held b h = part_more (false ∷ held) (takes_part (false ∷ held) r b ∷ held) r b (le_under false (takes_part (false ∷ held) r b) held held (λ n. cc) (λ n t. t)) h

  -- a rank that takes part has something
  not_ends : (held : List Bool) (g : Block) → takes_part held r g ≡ true → start_of (code held r g) ≡ Ends → ⊥
  not_ends held stop h e = cc
  not_ends held (message origin p q l g) h e =
      let c = code held r g in
      elim (cases_Bool (p == r)) [
        | inl y ↦ (let no' = sym (ap (λ u. start_of (message_code u (q == r) p q l c)) y) ∙ e in cc)
        | inr y ↦ elim (cases_Bool (q == r)) [
          | inl z ↦ (let no' = sym (ap₂ (λ u v. start_of (message_code u v p q l c)) y z) ∙ e in cc)
          | inr z ↦ not_ends held g (or_rest _ _ (or_rest _ _ h y) z) (sym (ap₂ (λ u v. start_of (message_code u v p q l c)) y z) ∙ e)
        ]
      ]
  not_ends held (compute origin p k g) h e =
      let c = code held r g in
      elim (cases_Bool (p == r)) [
        | inl y ↦ (let no' = sym (ap (λ u. start_of (cond u (run k c) c)) y) ∙ e in cc)
        | inr y ↦ not_ends held g (or_rest _ _ h y) (sym (ap (λ u. start_of (cond u (run k c) c)) y) ∙ e)
      ]
  not_ends held (together origin j g) h e = cc
  not_ends held (choice origin p k bs g) h e =
      let c = code held r g in
      elim (cases_Bool (p == r)) [
        | inl y ↦ (let no' = sym (ap (λ u. start_of (choice_code u (takes_part_among held r bs) held r k bs c)) y) ∙ e in cc)
        | inr y ↦ elim (cases_Bool (takes_part_among held r bs)) [
          | inl z ↦ (let no' = sym (ap₂ (λ u v. start_of (choice_code u v held r k bs c)) y z) ∙ e in cc)
          | inr z ↦ not_ends held g (or_rest _ _ h (ap₂ (λ u v. u || v) y z)) (sym (ap₂ (λ u v. start_of (choice_code u v held r k bs c)) y z) ∙ e)
        ]
      ]
  not_ends held (looped origin b g) h e =
      let c = code held r g in
      let t = takes_part (false ∷ held) r b in
      let cb = code (t ∷ held) r b in
      elim (cases_Bool t) [
        | inl z ↦ live (start_of cb) refl (not_ends (t ∷ held) b (inside held b z)) (sym (ap (λ u. start_of (loop_code u cb c)) z) ∙ e)
        | inr z ↦ not_ends held g (or_rest _ _ h z) (sym (ap (λ u. start_of (loop_code u cb c)) z) ∙ e)
      ]
    where
      live : (s : Start) → start_of (code (takes_part (false ∷ held) r b ∷ held) r b) ≡ s → (start_of (code (takes_part (false ∷ held) r b ∷ held) r b) ≡ Ends → ⊥) → then_start (lower (start_of (code (takes_part (false ∷ held) r b ∷ held) r b))) (start_of (code held r g)) ≡ Ends → ⊥
      live Acts i n f = (let x = sym (ap (λ s. then_start (lower s) (start_of (code held r g))) i) ∙ f in cc)
      live (Returns zero) i n f = (let x = sym (ap (λ s. then_start (lower s) (start_of (code held r g))) i) ∙ f in cc)
      live (Returns (suc m)) i n f = (let x = sym (ap (λ s. then_start (lower s) (start_of (code held r g))) i) ∙ f in cc)
      live Ends i n f = n i
  not_ends held (again n) h e = (let x = sym (ap (λ u. start_of (cond u (E.again n) done)) h) ∙ e in cc)

  -- what starts with a way back can't end
  not_end : (held : List Bool) (g : Block) (m : ℕ) → start_of (code held r g) ≡ Returns m → can_end g ≡ false
  not_end held stop m e = cc
  not_end held (message origin p q l g) m e =
      let c = code held r g in
      elim (cases_Bool (p == r)) [
        | inl y ↦ (let no' = sym (ap (λ u. start_of (message_code u (q == r) p q l c)) y) ∙ e in cc)
        | inr y ↦ elim (cases_Bool (q == r)) [
          | inl z ↦ (let no' = sym (ap₂ (λ u v. start_of (message_code u v p q l c)) y z) ∙ e in cc)
          | inr z ↦ not_end held g m (sym (ap₂ (λ u v. start_of (message_code u v p q l c)) y z) ∙ e)
        ]
      ]
  not_end held (compute origin p k g) m e =
      let c = code held r g in
      elim (cases_Bool (p == r)) [
        | inl y ↦ (let no' = sym (ap (λ u. start_of (cond u (run k c) c)) y) ∙ e in cc)
        | inr y ↦ not_end held g m (sym (ap (λ u. start_of (cond u (run k c) c)) y) ∙ e)
      ]
  not_end held (together origin j g) m e = cc
  not_end held (choice origin p k bs g) m e =
      let c = code held r g in
      elim (cases_Bool (p == r)) [
        | inl y ↦ (let no' = sym (ap (λ u. start_of (choice_code u (takes_part_among held r bs) held r k bs c)) y) ∙ e in cc)
        | inr y ↦ elim (cases_Bool (takes_part_among held r bs)) [
          | inl z ↦ (let no' = sym (ap₂ (λ u v. start_of (choice_code u v held r k bs c)) y z) ∙ e in cc)
          | inr z ↦ and_right (some_can_end bs) (can_end g) (not_end held g m (sym (ap₂ (λ u v. start_of (choice_code u v held r k bs c)) y z) ∙ e))
        ]
      ]
  not_end held (looped origin b g) m e =
      let c = code held r g in
      let t = takes_part (false ∷ held) r b in
      let cb = code (t ∷ held) r b in
      elim (cases_Bool t) [
        | inl z ↦ live (start_of cb) refl (λ i. not_end (t ∷ held) b i) (λ f. not_end held g m f) (sym (ap (λ u. start_of (loop_code u cb c)) z) ∙ e)
        | inr z ↦ and_right (can_end b) (can_end g) (not_end held g m (sym (ap (λ u. start_of (loop_code u cb c)) z) ∙ e))
      ]
    where
      live : (s : Start) → start_of (code (takes_part (false ∷ held) r b ∷ held) r b) ≡ s → ((i : ℕ) → start_of (code (takes_part (false ∷ held) r b ∷ held) r b) ≡ Returns i → can_end b ≡ false) → (start_of (code held r g) ≡ Returns m → can_end g ≡ false) → then_start (lower (start_of (code (takes_part (false ∷ held) r b ∷ held) r b))) (start_of (code held r g)) ≡ Returns m → (can_end b && can_end g) ≡ false
      live Acts i n k f = (let x = sym (ap (λ s. then_start (lower s) (start_of (code held r g))) i) ∙ f in cc)
      live (Returns j) i n k f = ap (λ u. u && can_end g) (n j i)
      live Ends i n k f = and_right (can_end b) (can_end g) (k (sym (ap (λ s. then_start (lower s) (start_of (code held r g))) i) ∙ f))
  not_end held (again n) m e = refl

  -- what starts with a way back to a loop has no other way back, and the rank takes part in it for no other reason
  pub record Only (held : List Bool) (g : Block) (m : ℕ) : Type 0 where
    pub reason : (u : List Bool) → Le u held → takes_part u r g ≡ true → nth u m ≡ true
    pub way : (k : ℕ) → has_again k (code held r g) ≡ true → k ≡ m

  only : (held : List Bool) (g : Block) (m : ℕ) → Ends_before g → start_of (code held r g) ≡ Returns m → Only held g m
  only held stop m f e = cc
  only held (message origin p q l g) m f e =
      let c = code held r g in
      elim (cases_Bool (p == r)) [
        | inl y ↦ (let no' = sym (ap (λ u. start_of (message_code u (q == r) p q l c)) y) ∙ e in cc)
        | inr y ↦ elim (cases_Bool (q == r)) [
          | inl z ↦ (let no' = sym (ap₂ (λ u v. start_of (message_code u v p q l c)) y z) ∙ e in cc)
          | inr z ↦
              let ih = only held g m f (sym (ap₂ (λ u v. start_of (message_code u v p q l c)) y z) ∙ e) in
              record { reason = λ u le h. ih.reason u le (or_rest _ _ (or_rest _ _ h y) z); way = λ k h. ih.way k (sym (ap₂ (λ u v. has_again k (message_code u v p q l c)) y z) ∙ h) }
        ]
      ]
  only held (compute origin p j g) m f e =
      let c = code held r g in
      elim (cases_Bool (p == r)) [
        | inl y ↦ (let no' = sym (ap (λ u. start_of (cond u (run j c) c)) y) ∙ e in cc)
        | inr y ↦
            let ih = only held g m f (sym (ap (λ u. start_of (cond u (run j c) c)) y) ∙ e) in
            record { reason = λ u le h. ih.reason u le (or_rest _ _ h y); way = λ k h. ih.way k (sym (ap (λ u. has_again k (cond u (run j c) c)) y) ∙ h) }
      ]
  only held (together origin j g) m f e = cc
  only held (choice origin p j bs g) m f e =
      let c = code held r g in
      elim (cases_Bool (p == r)) [
        | inl y ↦ (let no' = sym (ap (λ u. start_of (choice_code u (takes_part_among held r bs) held r j bs c)) y) ∙ e in cc)
        | inr y ↦ elim (cases_Bool (takes_part_among held r bs)) [
          | inl z ↦ (let no' = sym (ap₂ (λ u v. start_of (choice_code u v held r j bs c)) y z) ∙ e in cc)
          | inr z ↦
              let ih = only held g m f.2 (sym (ap₂ (λ u v. start_of (choice_code u v held r j bs c)) y z) ∙ e) in
              record {
                reason = λ u le h. elim (or_cases ((p == r) || takes_part_among u r bs) (takes_part u r g) h) [
                  | inl x ↦ (let a = part_more_among u held r bs le (or_rest _ _ x y) in cc)
                  | inr x ↦ ih.reason u le x
                ];
                way = λ k h. ih.way k (sym (ap₂ (λ u v. has_again k (choice_code u v held r j bs c)) y z) ∙ h);
              }
        ]
      ]
  only held (looped origin b g) m f e =
      let c = code held r g in
      let t = takes_part (false ∷ held) r b in
      let cb = code (t ∷ held) r b in
      elim (cases_Bool t) [
        | inl z ↦ live z (start_of cb) refl (λ i. only (t ∷ held) b i f.1) (sym (ap (λ u. start_of (loop_code u cb c)) z) ∙ e)
        | inr z ↦
            let ih = only held g m f.2 (sym (ap (λ u. start_of (loop_code u cb c)) z) ∙ e) in
            record {
              reason = λ u le h. elim (or_cases (takes_part (false ∷ u) r b) (takes_part u r g) h) [
                | inl x ↦ (let a = part_more (false ∷ u) (false ∷ held) r b (le_under false false u held (λ i. i) le) x in cc)
                | inr x ↦ ih.reason u le x
              ];
              way = λ k h. ih.way k (sym (ap (λ u. has_again k (loop_code u cb c)) z) ∙ h);
            }
      ]
    where
      live : takes_part (false ∷ held) r b ≡ true → (s : Start) → start_of (code (takes_part (false ∷ held) r b ∷ held) r b) ≡ s → ((i : ℕ) → start_of (code (takes_part (false ∷ held) r b ∷ held) r b) ≡ Returns i → Only (takes_part (false ∷ held) r b ∷ held) b i) → then_start (lower (start_of (code (takes_part (false ∷ held) r b ∷ held) r b))) (start_of (code held r g)) ≡ Returns m → Only held (looped origin b g) m
      live z Acts i n x = (let y = sym (ap (λ s. then_start (lower s) (start_of (code held r g))) i) ∙ x in cc)
      live z Ends i n x = absurd (not_ends (takes_part (false ∷ held) r b ∷ held) b (inside held b z) i)
      live z (Returns zero) i n x = (let no' = (n zero i).reason (false ∷ held) (le_under false (takes_part (false ∷ held) r b) held held (λ n. cc) (λ n t. t)) z in cc)
      live z (Returns (suc j)) i n x =
          let t = takes_part (false ∷ held) r b in
          let cb = code (t ∷ held) r b in
          let y : Returns j ≡ Returns m = sym (ap (λ s. then_start (lower s) (start_of (code held r g))) i) ∙ x in
          let same : j ≡ m = cc in
          let last : is_stop g ≡ true = elim (cases_Bool (is_stop g)) [ inl v ↦ v | inr v ↦ (let a = (f.0 v).0 in let b' = not_end (t ∷ held) b (suc j) i in cc) ] in
          let g_is = stop_is g last in
          record {
            reason = λ u le h. elim (or_cases (takes_part (false ∷ u) r b) (takes_part u r g) h) [
              | inl v ↦ subst (λ k. nth u k ≡ true) same ((n (suc j) i).reason (false ∷ u) (le_under false t u held (λ n. cc) le) v)
              | inr v ↦ (let no' = sym (ap (takes_part u r) g_is) ∙ v in cc)
            ];
            way = λ k h. (let h' = sym (ap (λ u. has_again k (loop_code u cb (code held r g))) z) ∙ h in
                elim (or_cases (has_again (suc k) cb) (has_again k (code held r g)) h') [
                  | inl v ↦ (let up = (n (suc j) i).way (suc k) v in cc)
                  | inr v ↦ (let no' = sym (ap (λ x. has_again k (code held r x)) g_is) ∙ v in cc)
                ]);
          }
  only held (again n) m f e =
      elim (cases_Bool (nth held n)) [
        | inl y ↦
            let e' : Returns n ≡ Returns m = sym (ap (λ u. start_of (cond u (E.again n) done)) y) ∙ e in
            let same : n ≡ m = cc in
            record {
              reason = λ u le h. subst (λ k. nth u k ≡ true) same h;
              way = λ k h. sym (eqb-true n k (sym (ap (λ u. has_again k (cond u (E.again n) done)) y) ∙ h)) ∙ same;
            }
        | inr y ↦ (let no' = sym (ap (λ u. start_of (cond u (E.again n) done)) y) ∙ e in cc)
      ]

  -- a loop to which there is a way back starts with an action
  pub loop_starts : (held : List Bool) (b : Block) → Ends_before b → takes_part (false ∷ held) r b ≡ true → has_again 0 (code (takes_part (false ∷ held) r b ∷ held) r b) ≡ true → start_of (code (takes_part (false ∷ held) r b ∷ held) r b) ≡ Acts
  loop_starts held b f h back = go (start_of (code (takes_part (false ∷ held) r b ∷ held) r b)) refl
    where
      go : (s : Start) → start_of (code (takes_part (false ∷ held) r b ∷ held) r b) ≡ s → start_of (code (takes_part (false ∷ held) r b ∷ held) r b) ≡ Acts
      go Acts i = i
      go Ends i = absurd (not_ends (takes_part (false ∷ held) r b ∷ held) b (inside held b h) i)
      go (Returns m) i =
          let it = only (takes_part (false ∷ held) r b ∷ held) b m f i in
          let zero_is : 0 ≡ m = it.way 0 back in
          let out = subst (λ k. nth (false ∷ held) k ≡ true) (sym zero_is) (it.reason (false ∷ held) (le_under false (takes_part (false ∷ held) r b) held held (λ n. cc) (λ n t. t)) h) in
          cc

  -- who receives first starts with an action
  pub receives_start : (held : List Bool) (p : ℕ) (g : Block) → Receives_first held r p g → start_of (code held r g) ≡ Acts
  receives_start held p stop h = absurd h
  receives_start held p (message origin p' q l g) h =
      let c = code held r g in
      let goal : Bool → Bool → Type 0 = λ u v. MatchBool u ⊥ (MatchBool v (p' ≡ p) (Receives_first held r p g)) in
      elim (cases_Bool (p' == r)) [
        | inl y ↦ absurd (subst (λ u. goal u (q == r)) y h)
        | inr y ↦
            let h' = subst (λ u. goal u (q == r)) y h in
            elim (cases_Bool (q == r)) [
              | inl z ↦ ap₂ (λ u v. start_of (message_code u v p' q l c)) y z
              | inr z ↦ ap₂ (λ u v. start_of (message_code u v p' q l c)) y z ∙ receives_start held p g (subst (λ v. goal false v) z h')
            ]
      ]
  receives_start held p (compute origin p' k g) h =
      let c = code held r g in
      elim (cases_Bool (p' == r)) [
        | inl y ↦ absurd (subst (λ u. MatchBool u ⊥ (Receives_first held r p g)) y h)
        | inr y ↦ ap (λ u. start_of (cond u (run k c) c)) y ∙ receives_start held p g (subst (λ u. MatchBool u ⊥ (Receives_first held r p g)) y h)
      ]
  receives_start held p (together origin j g) h = absurd h
  receives_start held p (choice origin p' k bs g) h =
      let c = code held r g in
      let goal : Bool → Bool → Type 0 = λ u v. MatchBool u ⊥ (MatchBool v (Receives_each held r p bs) (Receives_first held r p g)) in
      elim (cases_Bool (p' == r)) [
        | inl y ↦ absurd (subst (λ u. goal u (takes_part_among held r bs)) y h)
        | inr y ↦
            let h' = subst (λ u. goal u (takes_part_among held r bs)) y h in
            elim (cases_Bool (takes_part_among held r bs)) [
              | inl z ↦ ap₂ (λ u v. start_of (choice_code u v held r k bs c)) y z
              | inr z ↦ ap₂ (λ u v. start_of (choice_code u v held r k bs c)) y z ∙ receives_start held p g (subst (λ v. goal false v) z h')
            ]
      ]
  receives_start held p (looped origin b g) h =
      let c = code held r g in
      let t = takes_part (false ∷ held) r b in
      let cb = code (t ∷ held) r b in
      let goal : Bool → Type 0 = λ u. MatchBool u (Receives_first (true ∷ held) r p b) (Receives_first held r p g) in
      elim (cases_Bool t) [
        | inl z ↦
            let ih = receives_start (t ∷ held) p b (subst (λ u. Receives_first (u ∷ held) r p b) (sym z) (subst goal z h)) in
            ap (λ u. start_of (loop_code u cb c)) z ∙ ap (λ s. then_start (lower s) (start_of c)) ih
        | inr z ↦ ap (λ u. start_of (loop_code u cb c)) z ∙ receives_start held p g (subst goal z h)
      ]
  receives_start held p (again n) h = absurd h

  acting_arms : (held : List Bool) (p : ℕ) (bs : Branches) → Receives_each held r p bs → Acting_arms (arms held r bs)
  acting_arms held p no_branch h = tt
  acting_arms held p (branch mark b bs) h = (receives_start held p b h.0, acting_arms held p bs h.1)

  -- the code of a protocol that keeps the rules
  module _ (T : ℕ) (is_rank : r < T) where
    mutual
      pub fine : (env : Env) (g : Block) → Keeps T env g → Ends_before g → Fine (code (at_rank r env) r g)
      fine env stop k f = tt
      fine env (message origin p q l g) k f =
          let c = code (at_rank r env) r g in
          let ih = fine env g k.3 f in
          elim (p == r) as (λ u. Fine (message_code u (q == r) p q l c)) [
            | true ↦ ih
            | false ↦ elim (q == r) as (λ v. Fine (message_code false v p q l c)) [ true ↦ ih | false ↦ ih ]
          ]
      fine env (compute origin p j g) k f =
          let c = code (at_rank r env) r g in
          let ih = fine env g k.1 f in
          elim (p == r) as (λ u. Fine (cond u (run j c) c)) [ true ↦ ih | false ↦ ih ]
      fine env (together origin j g) k f = fine env g k.1 f
      fine env (choice origin p j bs g) k f =
          let e = at_rank r env in
          let c = code e r g in
          let ih = fine env g k.4 f.2 in
          let all = fine_arms env bs k.3 f.1 in
          elim (cases_Bool (p == r)) [
            | inl y ↦ subst (λ u. Fine (choice_code u (takes_part_among e r bs) e r j bs c)) (sym y) (all, ih)
            | inr y ↦ subst (λ u. Fine (choice_code u (takes_part_among e r bs) e r j bs c)) (sym y)
                (elim (cases_Bool (takes_part_among e r bs)) [
                  | inl z ↦ subst (λ v. Fine (choice_code false v e r j bs c)) (sym z) (acting_arms e (source_of (firsts_among e r bs)) bs (k.2 r is_rank y z).receives, all, ih)
                  | inr z ↦ subst (λ v. Fine (choice_code false v e r j bs c)) (sym z) ih
                ])
          ]
      fine env (looped origin b g) k f =
          let e = at_rank r env in
          let c = code e r g in
          let t = takes_part (false ∷ e) r b in
          let cb = code (t ∷ e) r b in
          let ih = fine env g k.1 f.2 in
          let ib = fine ((λ r. takes_part (false ∷ at_rank r env) r b) ∷ env) b k.0 f.1 in
          elim (cases_Bool t) [
            | inl z ↦ subst (λ u. Fine (loop_code u cb c)) (sym z) (loop_starts e b f.1 z, ib, ih)
            | inr z ↦ subst (λ u. Fine (loop_code u cb c)) (sym z) ih
          ]
      fine env (again n) k f = elim (nth (at_rank r env) n) as (λ u. Fine (cond u (E.again n) done)) [ true ↦ tt | false ↦ tt ]

      fine_arms : (env : Env) (bs : Branches) → Keeps_each T env bs → Ends_before_each bs → Fine_arms (arms (at_rank r env) r bs)
      fine_arms env no_branch k f = tt
      fine_arms env (branch mark b bs) k f = (fine env b k.0 f.0, fine_arms env bs k.1 f.1)
