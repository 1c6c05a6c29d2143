-- Stacks of the protocol and of a rank.
use Rattle.std.proofs.Common.{◌≡◌, ℕ, zero, suc, ◌<◌, cond, true, false, List, [], ◌∷◌, length, Some, None, refl, sym, ap, ◌∙◌, inl, inr, arith}
use Rattle.std.proofs.lemmas.Bool.{cases_Bool, or_parts}
use Rattle.pb_core_language.specs.Lists.{nth}
use Rattle.pb_core_language.specs.Flat.{Block, stop, message, compute, together, choice, looped, again, takes_part, branch_at}
use Rattle.pb_core_language.specs.Run.{Opener, Top, Chosen, Body, Frame, at_rank, env_over, env_of, live, back, back_over, move}
use Rattle.pb_core_endpoint.specs.Endpoint.{code, return_to, shadow}
use Rattle.pb_core_endpoint.proofs.Clean.{top_live, Clean}

module _ (r : ℕ) where
  pub live_env : (K : List Frame) → Clean r K → top_live r K ≡ true → (n : ℕ) → n < length (env_of K) → nth (at_rank r (env_of K)) n ≡ true
  live_env [] c h n lt = absurd (omega arith)
  live_env (f ∷ K) c h n lt = go f.opener n h (c.1 h) lt (live_env K c.2)
    where
      go : (o : Opener) (n : ℕ) → live r o (env_of K) ≡ true → top_live r K ≡ true → n < length (env_over o (env_of K)) → (top_live r K ≡ true → (n : ℕ) → n < length (env_of K) → nth (at_rank r (env_of K)) n ≡ true) → nth (at_rank r (env_over o (env_of K))) n ≡ true
      go Top n h d lt ih = ih d n lt
      go (Chosen p bs) n h d lt ih = ih d n lt
      go (Body b) zero h d lt ih = h
      go (Body b) (suc n) h d lt ih = ih d n (omega arith)

  -- a rank that takes part goes back with the protocol
  pub back_live : (K : List Frame) → Clean r K → top_live r K ≡ true → (n : ℕ) → shadow r (back K n) ≡ return_to (shadow r K) n
  back_live [] c h n = refl
  back_live (f ∷ K) c h n = go f.opener n h (back_live K c.2 (c.1 h))
    where
      go : (o : Opener) (n : ℕ) → live r o (env_of K) ≡ true → ((n : ℕ) → shadow r (back K n) ≡ return_to (shadow r K) n) → shadow r (back_over o n K (back K)) ≡ return_to (shadow r (record { opener = o; rest = f.rest } ∷ K)) n
      go Top n h ih = ih n
      go (Chosen p bs) n h ih =
          let e = at_rank r (env_of K) in
          ih n ∙ ap (λ t. return_to (cond t (record { body = None; code = code e r f.rest } ∷ shadow r K) (shadow r K)) n) (sym h)
      go (Body b) zero h ih =
          let c = code (at_rank r (env_over (Body b) (env_of K))) r in
          ap (λ t. cond t (record { body = Some (c b); code = c b } ∷ shadow r K) (shadow r K)) h
          ∙ ap (λ t. return_to (cond t (record { body = Some (c b); code = c f.rest } ∷ shadow r K) (shadow r K)) 0) (sym h)
      go (Body b) (suc n) h ih =
          let c = code (at_rank r (env_over (Body b) (env_of K))) r in
          ih n ∙ ap (λ t. return_to (cond t (record { body = Some (c b); code = c f.rest } ∷ shadow r K) (shadow r K)) (suc n)) (sym h)

  -- What doesn't look at frames in which the rank takes no part isn't changed where the protocol goes back over such frames
  module _ (P : List Frame → Type 0) (put : (f : Frame) (K : List Frame) → live r f.opener (env_of K) ≡ false → P K → P (f ∷ K)) (drop : (f : Frame) (K : List Frame) → live r f.opener (env_of K) ≡ false → P (f ∷ K) → P K) where
    pub back_dead : (K : List Frame) → Clean r K → (n : ℕ) → n < length (env_of K) → nth (at_rank r (env_of K)) n ≡ false → P K → P (back K n)
    back_dead [] c n lt out h = absurd (omega arith)
    back_dead (f ∷ K) c n lt out h =
        elim (cases_Bool (live r f.opener (env_of K))) [
          | inl l ↦ (let yes = live_env (f ∷ K) c l n lt in cc)
          | inr l ↦ go f.opener n l out lt (drop f K l h) (λ m lt' out'. back_dead K c.2 m lt' out' (drop f K l h))
        ]
      where
        go : (o : Opener) (n : ℕ) → live r o (env_of K) ≡ false → nth (at_rank r (env_over o (env_of K))) n ≡ false → n < length (env_over o (env_of K)) → P K → ((n : ℕ) → n < length (env_of K) → nth (at_rank r (env_of K)) n ≡ false → P (back K n)) → P (back_over o n K (back K))
        go Top n l out lt h ih = cc
        go (Chosen p bs) n l out lt h ih = ih n lt out
        go (Body b) zero l out lt h ih = put (record { opener = Body b; rest = b }) K l h
        go (Body b) (suc n) l out lt h ih = ih n (omega arith) out

    -- no more is it where the protocol moves in such a frame
    pub move_dead : (f : Frame) (K : List Frame) (x : ℕ) → Clean r (f ∷ K) → ((n : ℕ) → f.rest ≡ again n → n < length (env_of (f ∷ K))) → live r f.opener (env_of K) ≡ false → P K → P (move f.opener K f.rest x)
    move_dead f K x c scope l h =
        go f.rest refl (elim (cases_Bool (takes_part (at_rank r (env_of (f ∷ K))) r f.rest)) [ inl y ↦ (let z = c.0 y in cc) | inr n ↦ n ])
      where
        top : (g : Block) → P (record { opener = f.opener; rest = g } ∷ K)
        top g = put (record { opener = f.opener; rest = g }) K l h

        go : (g : Block) → f.rest ≡ g → takes_part (at_rank r (env_of (f ∷ K))) r g ≡ false → P (move f.opener K g x)
        go stop e out = h
        go (message origin p q m g) e out = top g
        go (compute origin p k g) e out = top g
        go (together origin j g) e out = cc
        go (choice origin p k bs g) e out = put (record { opener = Chosen p bs; rest = branch_at x bs }) (record { opener = f.opener; rest = g } ∷ K) (or_parts _ _ out).0 (top g)
        go (looped origin b g) e out = put (record { opener = Body b; rest = b }) (record { opener = f.opener; rest = g } ∷ K) (or_parts _ _ out).0 (top g)
        go (again n) e out = back_dead (f ∷ K) c n (scope n e) out (put f K l h)
