-- The ranks of a program of the shape at their starts, and what they follow.
use Rattle.std.proofs.Common.{◌≡◌, ◌≤◌, ◌<◌, ℕ, zero, suc, ◌++◌, ℤ, pos, Bool, true, List, [], ◌∷◌, length, map, refl, sym, ap, ◌∙◌, subst, arith}
use Rattle.std.proofs.lemmas.Int.{ints}
use Rattle.pb_world.specs.Actions.{Action}
use Rattle.pb_world.specs.Once.{once_start}
use Rattle.pb_world.specs.Carry.{Simulates}
use Rattle.pb_world.proofs.CarryLaws.{below}
use Rattle.pb_core_language.specs.Collectives.{setting_of}
use Rattle.pb_core_language.specs.Laws.{Numbered, Totalled}
use Rattle.pb_core_language.specs.Plain.{Protocol}
use Rattle.pb_core_language.specs.Ranks as CR
use Rattle.pb_core_language.specs.Ranks.{total}
use Rattle.pb_core_language.specs.Rules.{breaches, flat_at}
use Rattle.pb_core_language.specs.Sound.{is_sound}
use Rattle.pb_core_language.specs.Verdict.{IsIn}
use Rattle.pb_core_flat.proofs.Seats.{rank_of_seat}
use Rattle.pb_core_endpoint.specs.Core.{IsProper}
use Rattle.pb_core_endpoint.specs.Endpoint.{endpoint}
use Rattle.pb_core_endpoint.proofs.Derive.{obeyed}
use Rattle.pb_core_endpoint.proofs.CoreDone.{accepted}
use Rattle.pb_local.specs.Family.{most_silent}
use Rattle.pb_local.specs.Machine.{pushed, finished, machine, start}
use Rattle.pb_local.specs.Ranks as LR
use Rattle.pb_local.specs.Ranks.{Seat}
use Rattle.pb_local.specs.Tree.{Program}
use Rattle.pb_local.specs.WellMade as W
use Rattle.pb_local.specs.WellMade.{IsWellMade}
use Rattle.pb_shape.specs.Places.{everywhere, role_of}
use Rattle.pb_shape.specs.Loops.{outermost}
use Rattle.pb_shape.specs.Shape.{HasShape}
use Rattle.pb_shape.specs.Straight.{IsSeated, at_todo}
use Rattle.pb_shape_straight.proofs.Ends.{ends_are_fine}
use Rattle.pb_shape_straight.proofs.Fits.{guard_fits, guards_fit}
use Rattle.pb_shape_straight.proofs.Pieces.{straight_passes}
use Rattle.pb_shape_straight.proofs.Peers.{world, index_is_near, peer_is}
use Rattle.pb_shape_follow.specs.Follow.{RankFollows}
use Rattle.pb_shape_follow.proofs.Stacks.{weight_pushed, me_rank, empty, block}
use Rattle.pb_shape_follow.proofs.Fronts.{Rel, stands}
use Rattle.pb_shape_follow.proofs.Steps.{Given}
use Rattle.pb_shape_follow.proofs.Walks.{simulates}
use Rattle.pb_shape_follow.proofs.Simulated.{up}
use Rattle.std.proofs.lemmas.List.{length-map}
use Rattle.pb_core_language.specs.declared.protocol.CoreRole.{CoreRole}
use Rattle.pb_affine.specs.Values.{value, range}

-- ---- ranks

abbrev pub seat_to : CR.Seat → LR.Seat
seat_to s = record { role = s.role; index = s.index }

seats_step : (k : ℕ) (xs : List ℤ) (ys : List LR.Seat) (zs : List CR.Seat) → ys ≡ map seat_to zs → map (λ x. record { role = k; index = x }) xs ++ ys ≡ map seat_to (map (λ x. record { role = k; index = x }) xs ++ zs)
seats_step k [] ys zs e = e
seats_step k (x ∷ xs) ys zs e = ap (λ more. record { role = k; index = x } ∷ more) (seats_step k xs ys zs e)

seats_from_same : (roles : List CoreRole) (k : ℕ) (n : ℤ) → LR.seats_from k (map role_of roles) n ≡ map seat_to (CR.seats_from k roles n)
seats_from_same [] k n = refl
seats_from_same (r ∷ rs) k n = seats_step k (range (value r.low n (pos 0)) (value r.high n (pos 0))) (LR.seats_from (suc k) (map role_of rs) n) (CR.seats_from (suc k) rs n) (seats_from_same rs (suc k) n)

seat_at_same : (r : ℕ) (xs : List CR.Seat) → LR.seat_at r (map seat_to xs) ≡ seat_to (CR.seat_at r xs)
seat_at_same r [] = refl
seat_at_same zero (x ∷ xs) = refl
seat_at_same (suc r) (x ∷ xs) = seat_at_same r xs

module _ (p : Protocol) (l : Program) (n : ℤ) (shape : HasShape p l) where
  pub seats_same : LR.seats l.roles n ≡ map seat_to (CR.seats p.roles n)
  seats_same = ap (λ roles. LR.seats roles n) shape.roles ∙ seats_from_same p.roles 0 n

  pub seat_same : (r : ℕ) → LR.seat_at r (LR.seats l.roles n) ≡ seat_to (CR.seat_at r (CR.seats p.roles n))
  seat_same r = ap (LR.seat_at r) seats_same ∙ seat_at_same r (CR.seats p.roles n)

  pub total_same : CR.total p.roles n ≡ LR.total l.roles n
  total_same = sym (ap length seats_same ∙ length-map (CR.seats p.roles n) seat_to)

-- ---- what each rank does

module _ (numbered : Numbered) (totalled : Totalled) where
  module _ (p : Protocol) (l : Program) (n : ℤ) (sound : is_sound p ≡ true) (proper : IsProper p) (shape : HasShape p l) (made : IsWellMade l) (within : IsIn p.range n) (few : total p.roles n ≤ 2000000000) (keeps : breaches p n ≡ []) where
    abbrev pub me_at : ℕ → Seat
    me_at r = LR.seat_at r (LR.seats l.roles n)

    pub seated : (r : ℕ) → r < total p.roles n → IsSeated p l n r (me_at r)
    seated r lt =
        let h = rank_of_seat p.roles n r lt in
        subst (λ me. IsSeated p l n r me) (sym (seat_same p l n shape r)) (record { sound = sound; shape = shape; made = made; within = within; few = few; is = h.0; number = h.1 })

    pub given : (me : Seat) → IsSeated p l n (me_rank p l n me) me → Given p l n me
    given me seat =
        let size = (world numbered totalled p l n sound shape made within few).size in
        record {
          passes = straight_passes numbered totalled;
          seated = seat;
          index = index_is_near numbered totalled p l n sound shape made within few me.role me.index seat.is;
          guards = λ i near gs h. guards_fit l n me i size near gs h;
          guard = λ i near g h. guard_fits l n me i size near g h;
          peer = λ i near e h is. let it = peer_is numbered totalled p l n sound shape made within few me e i is in (it.there, it.same);
        }

    -- at its start
    begins : (me : Seat) → IsSeated p l n (me_rank p l n me) me → Rel p l n me (most_silent l) (once_start (endpoint (flat_at p n) (me_rank p l n me))) (at_todo me (pos 0) (pushed 0 l.body finished))
    begins me seat =
        let w = weight_pushed 0 l.body finished in
        record {
          twin = at_todo me (pos 0) (pushed 0 l.body finished);
          same = refl;
          near = stands (block {h = everywhere} {a = outermost} {core = p.body.block} 0 (record {
            shape = shape.body;
            sits = record {
              fine = ends_are_fine p n sound within keeps;
              here = record { at = λ i. refl; comes = λ i. refl };
              simple = proper.simple;
              around = record { env = []; same = refl; deep = refl; is_held = λ k lt. absurd (omega (arith, lt)) };
              keeps = (obeyed (setting_of p n) (flat_at p n) (accepted p n keeps proper)).keeps;
              made = record { at = W.outermost; made = made.body; below = λ k lt. absurd (omega (arith, lt)) };
            };
          }) empty) (record { low = omega (arith, ints); high = omega (arith, ints) }) (record { small = omega arith; enough = omega arith });
        }

    pub rank_simulates : (r : ℕ) → r < total p.roles n → (allowed : Action → Bool) → Simulates up (machine l n) allowed (most_silent l) (Rel p l n (me_at r))
    rank_simulates r lt allowed = let s = seated r lt in simulates p l n (me_at r) (given (me_at r) (subst (λ q. IsSeated p l n q (me_at r)) (sym s.number) s)) allowed

    pub rank_begins : (r : ℕ) → r < total p.roles n → Rel p l n (me_at r) (most_silent l) (once_start (endpoint (flat_at p n) r)) (start l n r)
    rank_begins r lt = let s = seated r lt in subst (λ q. Rel p l n (me_at r) (most_silent l) (once_start (endpoint (flat_at p n) q)) (start l n r)) s.number (begins (me_at r) (subst (λ q. IsSeated p l n q (me_at r)) (sym s.number) s))

  pub rank_follows : RankFollows
  rank_follows p l n sound proper shape made within few keeps r lt allowed s ends follows =
      below (machine l n) allowed (most_silent l) up (Rel p l n (me_at p l n sound proper shape made within few keeps r)) (rank_simulates p l n sound proper shape made within few keeps r lt allowed) (most_silent l) (start l n r)
      (rank_begins p l n sound proper shape made within few keeps r lt) follows
