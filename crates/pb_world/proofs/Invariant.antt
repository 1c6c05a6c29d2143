-- What holds of each world that is reached, with the actions that led there.
use Rattle.std.proofs.Common.{◌≡◌, ℕ, zero, ◌+◌, ◌<◌, Bool, true, false, List, [], ◌∷◌, ◌++◌, length, filter_map, refl, sym, ap, ◌∙◌, subst, inl, inr, append_assoc, append-nil, add_comm}
use Rattle.pb_world.specs.Actions.{Action, of_rank, entered_in, left_in, AnswerTable, IsAnswered, IsPrefixOf, Covers}
use Rattle.pb_world.specs.Machine.{Follows}
use Rattle.pb_world.specs.Family.{Family, Laws}
use Rattle.pb_world.specs.World.{World, beginning, IsInFlight}
use Rattle.pb_world.proofs.Lists.{prefix_trans}
use Rattle.pb_world.proofs.Follow.{IsReal}
use Rattle.pb_world.proofs.Channels.{FitsFirst, FitsAt, fits_covered}
use Rattle.pb_world.proofs.Sequential.{later_steps}

module _ {S : Type 0} (F : Family S) where
  abbrev pub IsAnsweredBy : List (ℕ × Action) → AnswerTable → Type 0
  IsAnsweredBy w A = (r : ℕ) → IsAnswered (of_rank r w) (A r)

  abbrev pub Goes : ℕ → S → List Action → Bool → Type 0
  Goes r x s ends = Follows F.machine (F.allowed r) x s ends

  pub record Holds (w : List (ℕ × Action)) (W : World S) : Type 0 where
    -- under all answers that begin so, the sequential run begins so
    pub covered : (A : AnswerTable) → IsAnsweredBy w A → (m : ℕ) × Covers (F.run A m) w
    -- what a machine can do after its actions, it can do from its state
    pub stood : (r : ℕ) → r < F.total → (s : List Action) (ends : Bool) → IsReal s ends → FitsAt W.channel r s → Goes r (F.start r) (of_rank r w ++ s) ends → Goes r (W.state r) s ends
    -- messages are what was sent and not received
    pub held : IsInFlight w W.channel
    pub entries : (p : ℕ) → W.entered p ≡ filter_map entered_in (of_rank p w)
    pub exits : (r : ℕ) → W.left r ≡ length (filter_map left_in (of_rank r w))

  pub holds_first : Laws F → Holds [] (beginning F)
  holds_first laws = record {
    covered = λ A h. (zero, λ r. (of_rank r (F.run A zero), refl));
    stood = λ r h s ends real fits f. f;
    held = λ p q. refl;
    entries = λ p. refl;
    exits = λ r. refl;
  }

  module _ (laws : Laws F) (w : List (ℕ × Action)) (W : World S) (inv : Holds w W) where
    -- what a rank does next in a sequential run: something more, or it has ended
    pub data Ahead (A : AnswerTable) (r : ℕ) (m : ℕ) : Type 0 where
      over : of_rank r (F.run A m) ≡ of_rank r w → Goes r (W.state r) [] true → Ahead A r m
      more : (a : Action) (s : List Action) → of_rank r (F.run A m) ≡ of_rank r w ++ a ∷ s → FitsFirst W.channel r a → Goes r (W.state r) (a ∷ s) false → Ahead A r m

    ahead_more : (A : AnswerTable) (r : ℕ) → r < F.total → (m : ℕ) → Covers (F.run A m) w → (a : Action) (s : List Action) → of_rank r (F.run A m) ≡ of_rank r w ++ a ∷ s → Ahead A r m
    ahead_more A r lt m cov a s e =
        let fits = fits_covered w W.channel inv.held F laws.sequential A m r a s cov e in
        more a s e fits (inv.stood r lt (a ∷ s) false tt fits (subst (λ l. Goes r (F.start r) l false) e (laws.follows A m r lt)))

    ahead_from : (A : AnswerTable) (r : ℕ) → r < F.total → (m : ℕ) → Covers (F.run A m) w → (s : List Action) → of_rank r (F.run A m) ≡ of_rank r w ++ s → (n : ℕ) × Covers (F.run A n) w × Ahead A r n
    ahead_from A r lt m cov (a ∷ s) e = (m, cov, ahead_more A r lt m cov a s e)
    ahead_from A r lt m cov [] e =
        let same = e ∙ append-nil (of_rank r w) in
        elim (laws.goes_on A m r lt) [
          | inl f ↦ (m, cov, over same (inv.stood r lt [] true refl tt (subst (λ l. Goes r (F.start r) l true) e f)))
          | inr h ↦
              let n = h.0 in
              let big = later_steps F laws.sequential A n m r in
              let e' : of_rank r (F.run A (m + n)) ≡ of_rank r w ++ h.1 ∷ (h.2 ++ big.0) =
              sym big.1 ∙ ap (λ l. l ++ big.0) (h.3 ∙ ap (λ l. l ++ h.1 ∷ h.2) same) ∙ append_assoc (of_rank r w) (h.1 ∷ h.2) big.0 in
              let cov' : Covers (F.run A (m + n)) w = λ q. subst (λ k. IsPrefixOf (of_rank q w) (of_rank q (F.run A k))) (add_comm n m) (prefix_trans _ _ _ (cov q) (later_steps F laws.sequential A m n q)) in
              (m + n, cov', ahead_more A r lt (m + n) cov' h.1 (h.2 ++ big.0) e')
        ]

    pub ahead : (A : AnswerTable) → IsAnsweredBy w A → (r : ℕ) → r < F.total → (m : ℕ) × Covers (F.run A m) w × Ahead A r m
    ahead A h r lt = let c = inv.covered A h in ahead_from A r lt c.0 c.1 (c.1 r).0 (sym (c.1 r).1)
