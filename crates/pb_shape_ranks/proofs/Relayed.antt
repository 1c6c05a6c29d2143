-- A loop, a choice and a relay: the worked text has the shape.
use Rattle.std.proofs.Common.{not, ◌≡◌, ℕ, zero, suc, ℤ, pos, negsuc, ◌+ℤ◌, ◌≤ℤ◌, Bool, true, false, ◌&&◌, ◌||◌, nat_eq, int_le, if◌then◌else◌, List, [], ◌∷◌, refl, sym, ◌∙◌, subst, arith}
use Rattle.std.proofs.lemmas.Int.{ints}
use Rattle.std.proofs.lemmas.Bool.Decides.{nat_tests}
use Rattle.pb_affine.specs.declared.guard.Guard.{Guard}
use Rattle.pb_affine.specs.Values.{value, holds, hold}
use Rattle.pb_core_language.specs.Tree as T
use Rattle.pb_core_language.specs.Verdict.{IsIn}
use Rattle.pb_core_flat.specs.Seated.{rank, is_rank}
use Rattle.pb_core_flat.proofs.Seats.{seat_in_role}
use Rattle.std.proofs.lemmas.List.Elements.{All-cons, All-nil}
use Rattle.pb_local.specs.declared.stmt.Relay.{Relay}
use Rattle.pb_local.specs.declared.stmt.Test.{Test}
use Rattle.pb_local.specs.Computed.{source_of}
use Rattle.pb_local.specs.Tree as L
use Rattle.pb_local.specs.Tree.{nothing, more}
use Rattle.pb_shape.specs.Guards as G
use Rattle.pb_shape.specs.Items as I
use Rattle.pb_shape.specs.Pieces as Q
use Rattle.pb_shape.specs.Shape as S
use Rattle.pb_shape.specs.Places.{Here, Who, everyone, inside, is_end, peer_of, scope_of, everywhere}
use Rattle.pb_shape.specs.Guards.{Names, Someone, Somebody, One}
use Rattle.pb_shape.specs.Loops.{Around, outermost, in_loop, takers}
use Rattle.pb_shape.specs.Choices.{AreHeld, is_chooser, AreCalled, is_told, teller, guards_of, Tests, Relays}
use Rattle.pb_shape.specs.Shape.{Shape, Shapes, HasShape}
use Rattle.pb_shape_ranks.specs.Worked.{mark_of, w, workers}
use Rattle.pb_shape_ranks.specs.Rounds.{three, end_at, told_on, both_ways, round, rounds, everybody, just, at_second, on_from_second, at_third, told_text, relays, test_of, tests, round_text, rounds_text}

-- ---- the three ranks

in_three : (P : ℤ → Type 0) (x : ℤ) → pos 0 ≤ℤ x → x ≤ℤ pos 2 → P (pos 0) → P (pos 1) → P (pos 2) → P x
in_three P (pos zero) l u a b c = a
in_three P (pos (suc zero)) l u a b c = b
in_three P (pos (suc (suc zero))) l u a b c = c
in_three P (pos (suc (suc (suc k)))) l u a b c = absurd (omega (arith, ints, u))
in_three P (negsuc k) l u a b c = absurd (omega (arith, ints, l))

record IsWorker (n : ℤ) (role : ℕ) (x : ℤ) : Type 0 where
  size : n ≡ pos 3
  only_role : role ≡ 0
  low : pos 0 ≤ℤ x
  high : x ≤ℤ pos 2

sits : (n : ℤ) (role : ℕ) (x : ℤ) → IsIn three n → (nat_eq role 0 && (int_le (pos 0 +ℤ pos 0) x && int_le x (negsuc 0 +ℤ n))) || false ≡ true → IsWorker n role x
sits n role x within h =
    let l = within.low in
    let u = within.high in
    let e : n ≡ pos 3 = omega (arith, ints, l, u) in
    let r : nat_eq role 0 ≡ true = grind arith in
    let a : int_le (pos 0 +ℤ pos 0) x ≡ true = grind arith in
    let b : int_le x (negsuc 0 +ℤ n) ≡ true = grind arith in
    record { size = e; only_role = grind (arith, nat_tests); low = grind (arith, ints); high = grind (arith, ints) }

by_rank : (P : ℤ → ℕ → ℤ → Type 0) (n : ℤ) (role : ℕ) (x : ℤ) → IsIn three n → is_rank workers n role x ≡ true → P (pos 3) 0 (pos 0) → P (pos 3) 0 (pos 1) → P (pos 3) 0 (pos 2) → P n role x
by_rank P n role x within is a b c =
    let seat = sits n role x within (sym (seat_in_role 0 w [] n role x) ∙ is) in
    let at = in_three (P (pos 3) 0) x seat.low seat.high a b c in
    subst (λ n. P n role x) (sym seat.size) (subst (λ r. P (pos 3) r x) (sym seat.only_role) at)

-- a guard list names these ranks where it does so for each of the three
each_names : (h : Here) (gs : List Guard) (who : Who) → ((i : ℤ) → hold gs (pos 3) i 0 (pos 0) ≡ who (pos 3) i 0 (pos 0)) → ((i : ℤ) → hold gs (pos 3) i 0 (pos 1) ≡ who (pos 3) i 0 (pos 1)) →
    ((i : ℤ) → hold gs (pos 3) i 0 (pos 2) ≡ who (pos 3) i 0 (pos 2)) → Names (scope_of rounds) h gs who
each_names h gs who a b c n i role x within is at = by_rank (λ n role x. hold gs n i role x ≡ who n i role x) n role x within is (a i) (b i) (c i)

somebody : (h : Here) (who : Who) (k : ℕ) → is_rank workers (pos 3) 0 (pos k) ≡ true → h.at (pos 3) (pos 0) ≡ true → h.comes (pos 3) (pos 0) 0 (pos k) ≡ true → who (pos 3) (pos 0) 0 (pos k) ≡ true → Somebody (scope_of rounds) h who
somebody h who k is at comes so = record { n = pos 3; i = pos 0; role = 0; index = pos k; within = record { low = omega (arith, ints); high = omega (arith, ints) }; few = omega arith; rank = is; at = at; comes = comes; is = so }

-- each of the three comes here, where the variable may be 0
record IsForAll (h : Here) : Type 0 where
  at : h.at (pos 3) (pos 0) ≡ true
  first : h.comes (pos 3) (pos 0) 0 (pos 0) ≡ true
  second : h.comes (pos 3) (pos 0) 0 (pos 1) ≡ true
  third : h.comes (pos 3) (pos 0) 0 (pos 2) ≡ true

someone : (h : Here) (who : Who) → Somebody (scope_of rounds) h who → Someone (scope_of rounds) h who
someone h who s = record { n = s.n; i = s.i; role = s.role; index = s.index; within = s.within; rank = s.rank; at = s.at; comes = s.comes; is = s.is }

anyone : {h : Here} → IsForAll h → Somebody (scope_of rounds) h everyone
anyone {h = h} at = somebody h everyone 0 refl at.at at.first refl

-- ---- the messages

one_first : {h : Here} {first tail : _} → IsForAll h → One (scope_of rounds) h (is_end (end_at 0)) first tail (more (L.when (just 0 ∷ []) first nothing) tail)
one_first {h = h} at = G.there (each_names h (just 0 ∷ []) (is_end (end_at 0)) (λ i. refl) (λ i. refl) (λ i. refl)) (somebody h _ 0 refl at.at at.first refl)

one_second : {h : Here} {first tail : _} → IsForAll h → One (scope_of rounds) h (is_end (end_at 1)) first tail (more (L.when (just 1 ∷ []) first nothing) tail)
one_second {h = h} at = G.there (each_names h (just 1 ∷ []) (is_end (end_at 1)) (λ i. refl) (λ i. refl) (λ i. refl)) (somebody h _ 1 refl at.at at.second refl)

one_third : {h : Here} {first tail : _} → IsForAll h → One (scope_of rounds) h (is_end (end_at 2)) first tail (more (L.when (just 2 ∷ []) first nothing) tail)
one_third {h = h} at = G.there (each_names h (just 2 ∷ []) (is_end (end_at 2)) (λ i. refl) (λ i. refl) (λ i. refl)) (somebody h _ 2 refl at.at at.third refl)

told_shape : {h : Here} {a : Around} {rest : T.BlockTree} {tail : L.Codes} (j k : ℕ) → IsForAll h → Shape (scope_of rounds) h a rest tail → Shape (scope_of rounds) h a (told_on j k rest) (told_text j k tail)
told_shape {tail = tail} j k at shape =
    S.piece {tail = on_from_second k (at_third k tail)} (anyone at) (Q.item (I.message {middle = at_second j (on_from_second k (at_third k tail))} (one_first at) (one_second at)))
    (S.piece {tail = tail} (anyone at) (Q.item (I.message {middle = at_third k tail} (one_second at) (one_third at))) shape)

-- ---- the tests

abbrev in_round : Around
in_round = in_loop (scope_of rounds) outermost 0 0 round

hold_if : (b : Bool) (g : Guard) (gs : List Guard) (n i : ℤ) (role : ℕ) (x : ℤ) → hold (if b then g ∷ gs else gs) n i role x ≡ (b && holds g n i role x) || hold gs n i role x
hold_if true g gs n i role x = refl
hold_if false g gs n i role x = refl

tests_hold : (k m : ℕ) (i : ℤ) (x : ℤ) →
    hold (guards_of k m tests) (pos 3) i 0 x ≡
    (nat_eq k 0 && nat_eq m 0 && holds (just 1) (pos 3) i 0 x) || ((nat_eq k 0 && nat_eq m 1 && holds (just 2) (pos 3) i 0 x) || ((nat_eq k 1 && nat_eq m 2 && holds (just 1) (pos 3) i 0 x) || ((nat_eq k 1 && nat_eq m 3 && holds (just 2) (pos 3) i 0 x) || false)))
tests_hold k m i x =
    let d = hold_if (nat_eq k 1 && nat_eq m 3) (just 2) [] (pos 3) i 0 x in
    rw (
      hold_if (nat_eq k 0 && nat_eq m 0) (just 1) (guards_of k m (test_of 0 1 2 ∷ test_of 1 2 1 ∷ test_of 1 3 2 ∷ [])) (pos 3) i 0 x,
      hold_if (nat_eq k 0 && nat_eq m 1) (just 2) (guards_of k m (test_of 1 2 1 ∷ test_of 1 3 2 ∷ [])) (pos 3) i 0 x,
      hold_if (nat_eq k 1 && nat_eq m 2) (just 1) (guards_of k m (test_of 1 3 2 ∷ [])) (pos 3) i 0 x,
      d,
    ) refl

told_first : (k m : ℕ) → is_told (scope_of rounds) in_round both_ways k m (pos 3) (pos 0) 0 (pos 0) ≡ false
told_first zero m = refl
told_first (suc zero) m = refl
told_first (suc (suc k)) m = refl

told_second : (k m : ℕ) → (nat_eq k 0 && nat_eq m 0 && true) || ((nat_eq k 0 && nat_eq m 1 && false) || ((nat_eq k 1 && nat_eq m 2 && true) || ((nat_eq k 1 && nat_eq m 3 && false) || false))) ≡ is_told (scope_of rounds) in_round both_ways k m (pos 3) (pos 0) 0 (pos 1)
told_second zero m = grind (arith, nat_tests)
told_second (suc zero) m = grind (arith, nat_tests)
told_second (suc (suc k)) m = grind (arith, nat_tests)

told_third : (k m : ℕ) → (nat_eq k 0 && nat_eq m 0 && false) || ((nat_eq k 0 && nat_eq m 1 && true) || ((nat_eq k 1 && nat_eq m 2 && false) || ((nat_eq k 1 && nat_eq m 3 && true) || false))) ≡ is_told (scope_of rounds) in_round both_ways k m (pos 3) (pos 0) 0 (pos 2)
told_third zero m = grind (arith, nat_tests)
told_third (suc zero) m = grind (arith, nat_tests)
told_third (suc (suc k)) m = grind (arith, nat_tests)

no_test : (k m : ℕ) → (nat_eq k 0 && nat_eq m 0 && false) || ((nat_eq k 0 && nat_eq m 1 && false) || ((nat_eq k 1 && nat_eq m 2 && false) || ((nat_eq k 1 && nat_eq m 3 && false) || false))) ≡ false
no_test k m = grind arith

tested : (h : Here) → Tests (scope_of rounds) h in_round both_ways tests
tested h k m =
    each_names h (guards_of k m tests) (is_told (scope_of rounds) in_round both_ways k m) (λ i. tests_hold k m i (pos 0) ∙ no_test k m ∙ sym (told_first k m)) (λ i. tests_hold k m i (pos 1) ∙ told_second k m)
    (λ i. tests_hold k m i (pos 2) ∙ told_third k m)

nobody_told : (k m : ℕ) (P : Type 0) → is_told (scope_of rounds) in_round both_ways k m (pos 3) (pos 0) 0 (pos 0) ≡ true → P
nobody_told k m P h = (let e : true ≡ false = sym h ∙ told_first k m in cc)

relayed : Relays (scope_of rounds) in_round (end_at 0) both_ways relays
relayed n role x k m within is = by_rank (λ n role x. is_end (end_at 0) n (pos 0) role x ≡ false → is_told (scope_of rounds) in_round both_ways k m n (pos 0) role x ≡ true → rank workers n (source_of n (record { role = role; index = x }) x relays (peer_of (end_at 0))).role (value (source_of n (record { role = role; index = x }) x relays (peer_of (end_at 0))).at n x) ≡ teller (scope_of rounds) in_round both_ways n role x) n role x within is (λ other h. nobody_told k m _ h) (λ other h. refl) (λ other h. refl)

-- ---- the shape

abbrev in_loop_here : Here
in_loop_here = inside everywhere (takers (scope_of rounds) outermost (mark_of 6) (T.loop 0 (mark_of 3) round))

abbrev in_choice_here : Here
in_choice_here = inside in_loop_here (takers (scope_of rounds) in_round (mark_of 5) (T.choice 0 (end_at 0) both_ways))

for_all : IsForAll in_choice_here
for_all = record { at = refl; first = refl; second = refl; third = refl }

-- the ranks 1 and 2 are told
held_by : (k : ℕ) (t : Test) → is_rank workers (pos 3) 0 (pos k) ≡ true → in_choice_here.comes (pos 3) (pos 0) 0 (pos k) ≡ true → hold t.guards (pos 3) (pos 0) 0 (pos k) ≡ true →
    Somebody (scope_of rounds) in_choice_here (λ n i role x. hold t.guards n i role x)
held_by k t is comes so = somebody in_choice_here _ k is refl comes so

held : AreHeld (scope_of rounds) in_choice_here tests
held =
    All-cons (λ (t : Test). Somebody (scope_of rounds) in_choice_here (λ n i role x. hold t.guards n i role x)) (test_of 0 0 1) (test_of 0 1 2 ∷ test_of 1 2 1 ∷ test_of 1 3 2 ∷ []) (held_by 1 (test_of 0 0 1) refl refl refl)
    (All-cons (λ (t : Test). Somebody (scope_of rounds) in_choice_here (λ n i role x. hold t.guards n i role x)) (test_of 0 1 2) (test_of 1 2 1 ∷ test_of 1 3 2 ∷ []) (held_by 2 (test_of 0 1 2) refl refl refl)
    (All-cons (λ (t : Test). Somebody (scope_of rounds) in_choice_here (λ n i role x. hold t.guards n i role x)) (test_of 1 2 1) (test_of 1 3 2 ∷ []) (held_by 1 (test_of 1 2 1) refl refl refl)
    (All-cons (λ (t : Test). Somebody (scope_of rounds) in_choice_here (λ n i role x. hold t.guards n i role x)) (test_of 1 3 2) [] (held_by 2 (test_of 1 3 2) refl refl refl) (All-nil (λ (t : Test). Somebody (scope_of rounds) in_choice_here (λ n i role x. hold t.guards n i role x))))))

called : AreCalled (scope_of rounds) in_choice_here (end_at 0) relays
called = All-cons (λ (r : Relay). Someone (scope_of rounds) in_choice_here (λ n i role x. hold r.guards n x role x && not (is_chooser r.from (end_at 0) n x || is_end (end_at 0) n (pos 0) role x))) (record { guards = just 2 ∷ []; from = peer_of (end_at 1) }) [] (someone in_choice_here _ (somebody in_choice_here _ 2 refl refl refl refl)) (All-nil (λ (r : Relay). Someone (scope_of rounds) in_choice_here (λ n i role x. hold r.guards n x role x && not (is_chooser r.from (end_at 0) n x || is_end (end_at 0) n (pos 0) role x))))

round_shape : Shape (scope_of rounds) in_loop_here in_round round round_text
round_shape =
    S.choice (just 0) relays tests (somebody in_loop_here everyone 0 refl refl refl refl) (G.there (each_names in_loop_here (everybody ∷ []) (takers (scope_of rounds) in_round (mark_of 5) (T.choice 0 (end_at 0) both_ways)) (λ i. refl) (λ i. refl) (λ i. refl)) (somebody in_loop_here _ 0 refl refl refl refl)) (each_names in_loop_here (just 0 ∷ []) (is_end (end_at 0)) (λ i. refl) (λ i. refl) (λ i. refl)) (tested in_loop_here) held relayed called
    (S.branch (told_shape 0 1 for_all (S.again (anyone for_all))) (S.branch (told_shape 2 3 for_all S.none) S.no_shape)) S.none

pub rounds_shape : HasShape rounds rounds_text
rounds_shape = record {
  protocol = refl;
  range = refl;
  roles = refl;
  labels = refl;
  kernels = refl;
  body = S.loop (somebody everywhere everyone 0 refl refl refl refl) (G.there (each_names everywhere (everybody ∷ []) (takers (scope_of rounds) outermost (mark_of 6) (T.loop 0 (mark_of 3) round)) (λ i. refl) (λ i. refl) (λ i. refl)) (somebody everywhere _ 0 refl refl refl refl)) round_shape S.none;
}
