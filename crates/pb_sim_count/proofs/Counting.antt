-- The counts once a rank did one thing more.
use Rattle.std.proofs.Common.{◌≡◌, ℕ, ◌+◌, ◌⊎◌, inl, inr, List, [], ◌∷◌, ◌++◌, map, refl, sym, ap, subst, ◌∙◌, append-nil, arith}
use Rattle.std.specs.List.{sum}
use Rattle.std.proofs.lemmas.List.{map-append}
use Rattle.std.proofs.lemmas.List.Sums.{sum_by-append}
use Rattle.pb_world.specs.Actions.{Action, Choose, Run, Send, Recv, Enter, Leave}
use Rattle.pb_sim.specs.Seen.{counted, counted_all}
use Rattle.pb_sim_play.specs.Plays.{done_by}
use Rattle.pb_sim_count.specs.Counted.{total, counts_of, sends, receives, runs, chooses, enters, leaves, words}

module _ (w : List (ℕ × Action)) (r : ℕ) where
  more : (f : Action → ℕ) (a : Action) → total f (w ++ (r, a) ∷ []) ≡ total f w + f a
  more f a =
      ap sum (map-append (λ (step : ℕ × Action). f step.1) w ((r, a) ∷ []))
      ∙ (sum_by-append (λ k. k) (map (λ (step : ℕ × Action). f step.1) w) (f a ∷ []) ∙ ap (λ (k : ℕ). total f w + k) (one (f a)))
    where
      one : (k : ℕ) → sum (k ∷ []) ≡ k
      one k = omega arith

  none : (f : Action → ℕ) (a : Action) → f a ≡ 0 → total f (w ++ (r, a) ∷ []) ≡ total f w
  none f a e = let m = more f a in omega (arith, m, e)

  one_more : (a : Action) → counts_of (w ++ (r, a) ∷ []) ≡ counted a (counts_of w)
  one_more (Choose kernel branches branch) =
      let a = Choose kernel branches branch in
      λ i. record { sends = none sends a refl i; receives = none receives a refl i; runs = none runs a refl i; chooses = more chooses a i; enters = none enters a refl i; leaves = none leaves a refl i; words = none words a refl i }
  one_more (Run kernel) =
      let a = Run kernel in
      λ i. record { sends = none sends a refl i; receives = none receives a refl i; runs = more runs a i; chooses = none chooses a refl i; enters = none enters a refl i; leaves = none leaves a refl i; words = none words a refl i }
  one_more (Send to label made) =
      let a = Send to label made in
      λ i. record { sends = more sends a i; receives = none receives a refl i; runs = none runs a refl i; chooses = none chooses a refl i; enters = none enters a refl i; leaves = none leaves a refl i; words = more words a i }
  one_more (Recv from label made) =
      let a = Recv from label made in
      λ i. record { sends = none sends a refl i; receives = more receives a i; runs = none runs a refl i; chooses = none chooses a refl i; enters = none enters a refl i; leaves = none leaves a refl i; words = none words a refl i }
  one_more (Enter joint made) =
      let a = Enter joint made in
      λ i. record { sends = none sends a refl i; receives = none receives a refl i; runs = none runs a refl i; chooses = none chooses a refl i; enters = more enters a i; leaves = none leaves a refl i; words = more words a i }
  one_more (Leave joint made) =
      let a = Leave joint made in
      λ i. record { sends = none sends a refl i; receives = none receives a refl i; runs = none runs a refl i; chooses = none chooses a refl i; enters = none enters a refl i; leaves = more leaves a i; words = none words a refl i }

  pub counts_more : (acts : List Action) → (acts ≡ []) ⊎ ((a : Action) × (acts ≡ a ∷ [])) → counts_of (w ++ done_by r acts) ≡ counted_all acts (counts_of w)
  counts_more acts (inl e) = subst (λ (l : List Action). counts_of (w ++ done_by r l) ≡ counted_all l (counts_of w)) (sym e) (ap counts_of (append-nil w))
  counts_more acts (inr (a, e)) = subst (λ (l : List Action). counts_of (w ++ done_by r l) ≡ counted_all l (counts_of w)) (sym e) (one_more a)
