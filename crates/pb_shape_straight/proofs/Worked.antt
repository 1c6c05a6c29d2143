-- The laws on a worked protocol, for every N: `foreach (i: 0..N-2) { A from W[i] to W[i+1]; }`, where W has the indices 0..N-1.
use Rattle.std.proofs.Common.{◌≡◌, ℕ, ℤ, pos, negsuc, ◌+ℤ◌, ◌-ℤ◌, ◌≤ℤ◌, Bool, true, false, ◌&&◌, ◌||◌, nat_eq, int_le, inl, [], ◌∷◌, Some, None, codes, refl, sym, ◌∙◌, arith}
use Rattle.std.proofs.lemmas.Int.{ints}
use Rattle.std.proofs.lemmas.Bool.Decides.{nat_tests}
use Rattle.std.proofs.lemmas.List.Elements.{All-nil, All-cons}
use Rattle.pb_text.specs.Spellings as spellings
use Rattle.pb_affine.specs.declared.lin.Base.TheVariants.{Fixed, Param, Var}
use Rattle.pb_affine.specs.declared.guard.Guard.{Guard}
use Rattle.pb_affine.specs.Values.{IsSmall}
use Rattle.pb_text.specs.declared.place.Place.{Place}
use Rattle.pb_syntax.specs.declared.tree.Payload.TheVariants.{Unit as NoWords}
use Rattle.pb_world.specs.Actions.{Sends, Receives}
use Rattle.pb_core_language.specs.declared.tree.CoreEnd.{CoreEnd}
use Rattle.pb_core_language.specs.Laws.{Numbered, Totalled}
use Rattle.pb_core_language.specs.Tree as T
use Rattle.pb_core_language.specs.Tree.{Mark, StmtTree, BlockTree}
use Rattle.pb_core_language.specs.declared.tree.Bounds.{Bounds}
use Rattle.pb_core_language.specs.Plain.{Protocol}
use Rattle.pb_core_flat.specs.Seated.{is_rank}
use Rattle.pb_core_flat.proofs.Seats.{seat_in_role}
use Rattle.pb_local.specs.Ranks.{Seat}
use Rattle.pb_local.specs.Tree as L
use Rattle.pb_local.specs.Tree.{Codes, nothing, more, Program}
use Rattle.pb_local.specs.Machine.{finished}
use Rattle.pb_local.specs.WellMade.{IsRole, IsGuard, AreGuards, IsMade, IsWellMade, IsLabelRow, outermost}
use Rattle.pb_shape.specs.Guards as G
use Rattle.pb_shape.specs.Segments as E
use Rattle.pb_shape.specs.Pieces as P
use Rattle.pb_shape.specs.Shape as S
use Rattle.pb_shape.specs.Places.{peer_of, scope_of, everyone, everywhere}
use Rattle.pb_shape.specs.Guards.{Names, Somebody, One, alone}
use Rattle.pb_shape.specs.Segments.{in_segment, Segments, OfRole}
use Rattle.pb_shape.specs.Pieces.{ForEach, Piece}
use Rattle.pb_shape.specs.Shape.{HasShape}
use Rattle.pb_shape.specs.Straight.{IsSeated, IsFine, IsItem, Passes, AreFine}
use Rattle.pb_shape_straight.proofs.Peers.{same_rank}
use Rattle.pb_shape_straight.proofs.Pieces.{straight_passes}
use Rattle.pb_shape_straight.proofs.Ends.{ends_are_fine}

abbrev somewhere : Place
somewhere = record { line = 1; col = 1 }

abbrev mark_of : ℕ → Mark
mark_of k = record { number = k; place = somewhere }

abbrev source : CoreEnd
source = record { role = 0; at = record { base = Var; off = pos 0 }; place = somewhere }

abbrev target : CoreEnd
target = record { role = 0; at = record { base = Var; off = pos 1 }; place = somewhere }

abbrev items : BlockTree
items = T.more (mark_of 1) (T.message 0 source target) T.nothing

abbrev bounds : Bounds
bounds = record { low = record { base = Fixed; off = pos 0 }; high = record { base = Param; off = negsuc 1 } }

abbrev passed_on : StmtTree
passed_on = T.foreach bounds (mark_of 1) items

abbrev protocol : Protocol
protocol = record {
  name = codes "P";
  range = record { low = 2; high = None };
  roles = record { name = codes "W"; place = somewhere; low = record { base = Fixed; off = pos 0 }; high = record { base = Param; off = negsuc 0 } } ∷ [];
  labels = record { name = codes "A"; payload = NoWords } ∷ [];
  kernels = [];
  body = record { mark = mark_of 0; block = T.more (mark_of 0) passed_on T.nothing };
  statements = 2;
  blocks = 2;
}

-- W[from..N+to]
abbrev between : ℤ → ℤ → Guard
between from to = record { role = 0; low = Some (record { base = Fixed; off = from }); high = Some (record { base = Param; off = to }); from = None; to = None }

abbrev senders : Codes
senders = more (L.when (between (pos 0) (negsuc 1) ∷ []) (more (L.own (pos 0 -ℤ pos 0)) (more (L.send 0 (peer_of target)) nothing)) nothing) nothing

abbrev text : Codes
text = more (L.when (between (pos 1) (negsuc 0) ∷ []) (more (L.own (pos 0 -ℤ pos 1)) (more (L.recv 0 (peer_of source)) nothing)) nothing) senders

abbrev program : Program
program = record {
  protocol = codes "P";
  range = record { low = 2; high = None };
  roles = record { name = codes "W"; low = record { base = Fixed; off = pos 0 }; high = record { base = Param; off = negsuc 0 } } ∷ [];
  labels = record { name = codes "A"; payload = NoWords } ∷ [];
  kernels = [];
  body = text;
}

-- ---- the ranks

is_worker : (n : ℤ) (role : ℕ) (x : ℤ) → is_rank protocol.roles n role x ≡ (nat_eq role 0 && (int_le (pos 0 +ℤ pos 0) x && int_le x (negsuc 0 +ℤ n))) || false
is_worker n role x = seat_in_role 0 (record { name = codes "W"; place = somewhere; low = record { base = Fixed; off = pos 0 }; high = record { base = Param; off = negsuc 0 } }) [] n role x

worker : (n x : ℤ) → pos 0 ≤ℤ x → x ≤ℤ (n -ℤ pos 1) → is_rank protocol.roles n 0 x ≡ true
worker n x l u = is_worker n 0 x ∙ by
  where
    by : (nat_eq 0 0 && (int_le (pos 0 +ℤ pos 0) x && int_le x (negsuc 0 +ℤ n))) || false ≡ true
    by = grind (arith, ints, nat_tests)

-- ---- the shape

lower : (c x : ℤ) → int_le (c +ℤ pos 0) x ≡ int_le (pos 0 +ℤ pos 0 +ℤ c) x
lower c x = grind (arith, ints)

upper : (c to n x : ℤ) → negsuc 1 +ℤ c ≡ to → int_le x (to +ℤ n) ≡ int_le x (negsuc 1 +ℤ n +ℤ c)
upper c to n x e = grind (arith, ints)

turned : (role : ℕ) (s t : Bool) → (nat_eq role 0 && s && t && true && true) || false ≡ nat_eq 0 role && (s && t)
turned role s t = grind (arith, nat_tests)

names : (c to : ℤ) → negsuc 1 +ℤ c ≡ to → Names (scope_of protocol) everywhere (between c to ∷ []) (in_segment bounds 0 c)
names c to e n i role x within is at =
    rw (lower c x, upper c to n x e) (turned role (int_le (pos 0 +ℤ pos 0 +ℤ c) x) (int_le x (negsuc 1 +ℤ n +ℤ c)))

somebody : (c : ℤ) → pos 0 ≤ℤ c → c ≤ℤ pos 1 → Somebody (scope_of protocol) everywhere (in_segment bounds 0 c)
somebody c l u = record {
  n = pos 2;
  i = pos 0;
  role = 0;
  index = c;
  within = record { low = omega (arith, ints); high = tt };
  few = omega arith;
  rank = worker (pos 2) c l (omega (arith, ints, u));
  at = refl;
  comes = refl;
  is = by;
}
  where
    by : nat_eq 0 0 && (int_le (pos 0 +ℤ pos 0 +ℤ c) c && int_le c (negsuc 1 +ℤ pos 2 +ℤ c)) ≡ true
    by = grind (arith, ints, nat_tests)

piece : Piece (scope_of protocol) everywhere nothing passed_on text
piece = P.foreach (P.segments (λ n i role x within is at comes. sym comes)
    (E.of_role {middle = nothing} (E.segment {middle = senders} (G.there (names (pos 1) (negsuc 0) refl) (somebody (pos 1) (omega (arith, ints)) (omega (arith, ints))))
    (E.segment {middle = nothing} (G.there (names (pos 0) (negsuc 1) refl) (somebody (pos 0) (omega (arith, ints)) (omega (arith, ints)))) E.none)) E.none))

anyone : Somebody (scope_of protocol) everywhere everyone
anyone = record {
  n = pos 2;
  i = pos 0;
  role = 0;
  index = pos 0;
  within = record { low = omega (arith, ints); high = tt };
  few = omega arith;
  rank = worker (pos 2) (pos 0) (omega (arith, ints)) (omega (arith, ints));
  at = refl;
  comes = refl;
  is = refl;
}

shape : HasShape protocol program
shape = record { protocol = refl; range = refl; roles = refl; labels = refl; kernels = refl; body = S.piece anyone piece S.none }

-- ---- it is well made

guard_made : (c to : ℤ) → pos 0 ≤ℤ c → c ≤ℤ pos 1 → negsuc 1 ≤ℤ to → to ≤ℤ negsuc 0 → AreGuards program (between c to ∷ [])
guard_made c to a b d e = record {
  some = omega arith;
  each = All-cons (IsGuard program) (between c to) []
      (record {
        role = omega arith;
        small = record { low = record { low = omega (arith, ints, a); high = omega (arith, ints, b) }; high = record { low = omega (arith, ints, d); high = omega (arith, ints, e) } };
        from = tt;
        to = tt;
      })
      (All-nil (IsGuard program));
}

made : IsWellMade program
unfolding spellings.keys
made = record {
  protocol = refl;
  range = record { some = omega arith; most = omega arith; high = tt };
  roles = record {
    some = omega arith;
    most = omega arith;
    distinct = λ i j a b. absurd (omega (arith, a, b));
    each = All-cons (IsRole program.range) _ []
        (record {
          name = refl;
          low = record { low = omega (arith, ints); high = omega (arith, ints) };
          high = record { low = omega (arith, ints); high = omega (arith, ints) };
          low_fixed = λ e. cc;
          high_fixed = λ e. cc;
          some = λ n h. omega (arith, ints, h.low);
        })
        (All-nil (IsRole program.range));
    size = inl (omega (arith, ints));
  };
  labels = record {
    most = omega arith;
    distinct = λ i j a b. absurd (omega (arith, a, b));
    each = All-cons IsLabelRow (record { name = codes "A"; payload = NoWords }) [] (record { name = refl; payload = tt }) (All-nil IsLabelRow);
  };
  kernels = record { most = omega arith; distinct = λ i j a b. absurd (omega (arith, a, b)); each = All-nil _ };
  body = (first_made, (others_made, tt));
}
  where
    small : (x : ℤ) → negsuc 1 ≤ℤ x → x ≤ℤ pos 1 → IsSmall x
    small x a b = record { low = omega (arith, ints, a); high = omega (arith, ints, b) }

    first_made : IsMade program outermost (L.when (between (pos 1) (negsuc 0) ∷ []) (more (L.own (pos 0 -ℤ pos 1)) (more (L.recv 0 (peer_of source)) nothing)) nothing)
    first_made = (
      guard_made (pos 1) (negsuc 0) (omega (arith, ints)) (omega (arith, ints)) (omega (arith, ints)) (omega (arith, ints)),
      (small (negsuc 0) (omega (arith, ints)) (omega (arith, ints)), ((omega arith, record { role = omega arith; off = small (pos 0) (omega (arith, ints)) (omega (arith, ints)) }), tt)),
      tt,
    )

    others_made : IsMade program outermost (L.when (between (pos 0) (negsuc 1) ∷ []) (more (L.own (pos 0 -ℤ pos 0)) (more (L.send 0 (peer_of target)) nothing)) nothing)
    others_made = (
      guard_made (pos 0) (negsuc 1) (omega (arith, ints)) (omega (arith, ints)) (omega (arith, ints)) (omega (arith, ints)),
      (small (pos 0) (omega (arith, ints)) (omega (arith, ints)), ((omega arith, record { role = omega arith; off = small (pos 1) (omega (arith, ints)) (omega (arith, ints)) }), tt)),
      tt,
    )

-- ---- the laws, for it

fine : (n : ℤ) → IsFine protocol n passed_on
fine n = record { low = refl; high = refl; each = λ i l u. (item i (omega (arith, ints, l)) (omega (arith, ints, u)), tt) }
  where
    item : (i : ℤ) → pos 0 ≤ℤ i → i ≤ℤ (n -ℤ pos 2) → IsItem protocol n true i (T.message 0 source target)
    item i l u =
        let from = worker n (pos 0 +ℤ i) (omega (arith, ints, l)) (omega (arith, ints, u)) in
        let to = worker n (pos 1 +ℤ i) (omega (arith, ints, l)) (omega (arith, ints, u)) in
        (record { sound = refl; is = from }, record { sound = refl; is = to }, λ e. apart i (same_rank protocol.roles n 0 (pos 0 +ℤ i) 0 (pos 1 +ℤ i) to e).1)
      where
        apart : (i : ℤ) → pos 0 +ℤ i ≡ pos 1 +ℤ i → ⊥
        apart i e = omega (arith, ints, e)

abbrev second : Seat
second = record { role = 0; index = pos 1 }

seated : IsSeated protocol program (pos 3) 1 second
seated = record { sound = refl; shape = shape; made = made; within = record { low = omega (arith, ints); high = tt }; few = omega arith; is = refl; number = refl }

-- at N = 3 the second rank receives from the first and then sends to the third
passes : Numbered → Totalled → Passes program (pos 3) second 8 0 (pos 0) text nothing finished (Receives 0 0 ∷ Sends 2 0 ∷ [])
passes numbered totalled =
    straight_passes numbered totalled protocol program (pos 3) 1 second seated everywhere (record { at = λ i. refl; comes = λ i. refl }) [] (mark_of 0) passed_on nothing text piece (fine (pos 3)) outermost made.body
    finished 8 0 (pos 0) (record { low = omega (arith, ints); high = omega (arith, ints) }) (omega arith) (omega arith)

-- no rule is broken at N = 3
kept : AreFine protocol (pos 3) protocol.body.block
kept = ends_are_fine protocol (pos 3) refl (record { low = omega (arith, ints); high = tt }) refl
