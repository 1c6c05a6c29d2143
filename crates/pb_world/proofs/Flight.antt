-- Channels in a run that a sequential run covers.
use Rattle.std.proofs.Common.{◌≡◌, ℕ, List, [], ◌∷◌, ◌++◌, map, refl, sym, ap, ◌∙◌, subst, append-nil}
use Rattle.pb_world.specs.Actions.{Action, AnswerTable, Recv, of_rank, Covers}
use Rattle.pb_world.specs.Family.{Family, IsSequential}
use Rattle.pb_world.specs.World.{World, Step, silent, probe, internal, send, receive, enter, leave, Reached, start, event, IsInFlight}
use Rattle.pb_world.proofs.Lists.{prefix_trans, prefix_append, of_append, of_more, last_first}
use Rattle.pb_world.proofs.Sequential.{internal_sends, internal_receives}
use Rattle.pb_world.proofs.Channels.{Channels, takes_first, fits_covered, kept_unseen, kept_send, kept_receive}

-- what covers more covers less
covers_before : (g v u : List (ℕ × Action)) → Covers g (v ++ u) → Covers g v
covers_before g v u cov r = prefix_trans _ _ _ (subst (λ l. ((rest : List Action) × (of_rank r v ++ rest ≡ l))) (sym (of_append r v u)) (prefix_append (of_rank r v) (of_rank r u))) (cov r)

silently : (w : List (ℕ × Action)) (C : Channels) → IsInFlight w C → IsInFlight (w ++ []) C
silently w C held = subst (λ u. IsInFlight u C) (sym (append-nil w)) held

module _ {S : Type 0} (F : Family S) (sequential : IsSequential F) where
  -- the next action of a covered run, in the run that covers it
  next_covered : (g w : List (ℕ × Action)) (r : ℕ) (a : Action) → Covers g (w ++ (r, a) ∷ []) → (s : List Action) × (of_rank r g ≡ of_rank r w ++ a ∷ s)
  next_covered g w r a cov = ((cov r).0, sym (cov r).1 ∙ ap (λ l. l ++ (cov r).0) (of_more w r a) ∙ last_first (of_rank r w) a (cov r).0)

  pub in_flight : (A : AnswerTable) (m : ℕ) (w : List (ℕ × Action)) (W : World S) → Reached F w W → Covers (F.run A m) w → IsInFlight w W.channel
  in_flight A m w W start cov = λ p q. refl
  in_flight A m w W (event {w = v} {W = V} {r = r} {acts = acts} before step) cov = go r acts W step cov (in_flight A m v V before (covers_before (F.run A m) v (map (λ a. (r, a)) acts) cov))
    where
      go : (r : ℕ) (acts : List Action) (U : World S) → Step F V r acts U → Covers (F.run A m) (v ++ map (λ a. (r, a)) acts) → IsInFlight v V.channel → IsInFlight (v ++ map (λ a. (r, a)) acts) U.channel
      go r acts U (silent free is) cov held = silently v U.channel held
      go r acts U (probe free is has reads) cov held = silently v U.channel held
      go r acts U (internal {a = a} free is al fine) cov held = kept_unseen v V.channel held r a (internal_sends a al) (internal_receives a al)
      go r acts U (send {q = q} {label = l} {words = ws} mode free is fine) cov held = kept_send v V.channel held r q l ws _ refl
      go r acts U (enter {j = j} {words = ws} mode free is agrees fine) cov held = kept_unseen v V.channel held r _ (λ q. refl) (λ p. refl)
      go r acts U (leave {j = j} words free is has waits) cov held = kept_unseen v V.channel held r _ (λ q. refl) (λ p. refl)
      go r acts U (receive {p = p} {label = l} {m = msg} {rest = rest} free is takes) cov held =
          let next = next_covered (F.run A m) v r (Recv p l msg.words) cov in
          let fits = fits_covered v V.channel held F sequential A m r (Recv p l msg.words) next.0 (covers_before (F.run A m) v ((r, Recv p l msg.words) ∷ []) cov) next.1 in
          let is_first = takes_first l (V.channel p r) msg rest takes (λ n ns e. ap (λ (c : ℕ × List ℕ). c.0) (fits n ns e)) in
          kept_receive v V.channel held r p l msg.words msg rest is_first.0 (ap (λ x. (x, msg.words)) is_first.1)
