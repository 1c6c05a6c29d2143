-- The worked text has the shape, is well made, and its ranks do the run.
use Rattle.std.proofs.Common.{◌≡◌, ℕ, ℤ, pos, negsuc, ◌≤ℤ◌, true, false, ◌&&◌, ◌||◌, nat_eq, int_le, inl, [], ◌∷◌, codes, refl, arith}
use Rattle.std.proofs.lemmas.Int.{ints}
use Rattle.std.proofs.lemmas.Bool.Decides.{nat_tests}
use Rattle.std.proofs.lemmas.List.Elements.{All-nil, All-cons}
use Rattle.std.specs.Ordering.{int_eq}
use Rattle.pb_text.specs.Spellings as spellings
use Rattle.pb_affine.specs.declared.lin.Lin.{Lin}
use Rattle.pb_affine.specs.Values.{value, IsSmall}
use Rattle.pb_core_language.specs.Laws.{Numbered, Totalled}
use Rattle.pb_core_endpoint.specs.Core.{IsProper}
use Rattle.pb_local.specs.Tree as L
use Rattle.pb_local.specs.Tree.{nothing, more}
use Rattle.pb_local.specs.WellMade.{IsRole, IsGuard, AreGuards, IsMade, IsWellMade, IsLabelRow, outermost}
use Rattle.pb_shape.specs.Guards as G
use Rattle.pb_shape.specs.Items as I
use Rattle.pb_shape.specs.Pieces as P
use Rattle.pb_shape.specs.Shape as S
use Rattle.pb_shape.specs.Places.{everyone, is_end, peer_of, scope_of, everywhere}
use Rattle.pb_shape.specs.Guards.{Names, Somebody}
use Rattle.pb_shape.specs.Shape.{HasShape}
use Rattle.pb_shape.specs.Theorem.{DoesRun}
use Rattle.pb_shape_ranks.specs.Worked.{number, from_n, worker, only, signal, first_to_last, receiver, first_to_last_text}
use Rattle.pb_shape_ranks.proofs.Theorem.{text_ranks}

-- ---- the shape

one_only : (role : ℕ) (v x : ℤ) → (nat_eq role 0 && int_le v x && int_le x v && true && true) || false ≡ nat_eq 0 role && int_eq v x
one_only role v x = grind (arith, ints, nat_tests)

names : (x : Lin) → Names (scope_of first_to_last) everywhere (only x ∷ []) (is_end (worker x))
names x n i role index within is at = one_only role (value x n i) index

-- at N = 2
first_is : Somebody (scope_of first_to_last) everywhere (is_end (worker (number (pos 0))))
first_is = record { n = pos 2; i = pos 0; role = 0; index = pos 0; within = record { low = omega (arith, ints); high = tt }; few = omega arith; rank = refl; at = refl; comes = refl; is = refl }

last_is : Somebody (scope_of first_to_last) everywhere (is_end (worker (from_n (negsuc 0))))
last_is = record { n = pos 2; i = pos 0; role = 0; index = pos 1; within = record { low = omega (arith, ints); high = tt }; few = omega arith; rank = refl; at = refl; comes = refl; is = refl }

anyone : Somebody (scope_of first_to_last) everywhere everyone
anyone = record { n = pos 2; i = pos 0; role = 0; index = pos 0; within = record { low = omega (arith, ints); high = tt }; few = omega arith; rank = refl; at = refl; comes = refl; is = refl }

pub shape : HasShape first_to_last first_to_last_text
shape = record {
  protocol = refl;
  range = refl;
  roles = refl;
  labels = refl;
  kernels = refl;
  body = S.piece anyone (P.item (I.message {middle = receiver} (G.there (names (number (pos 0))) first_is) (G.there (names (from_n (negsuc 0))) last_is))) S.none;
}

-- ---- it is well made

small : (x : ℤ) → negsuc 1 ≤ℤ x → x ≤ℤ pos 1 → IsSmall x
small x a b = record { low = omega (arith, ints, a); high = omega (arith, ints, b) }

guard_made : (x : Lin) → IsSmall x.off → AreGuards first_to_last_text (only x ∷ [])
guard_made x h = record { some = omega arith; each = All-cons (IsGuard first_to_last_text) (only x) [] (record { role = omega arith; small = record { low = h; high = h }; from = tt; to = tt }) (All-nil (IsGuard first_to_last_text)) }

made : IsWellMade first_to_last_text
unfolding spellings.keys
made = record {
  protocol = refl;
  range = record { some = omega arith; most = omega arith; high = tt };
  roles = record {
    some = omega arith;
    most = omega arith;
    distinct = λ i j a b. absurd (omega (arith, a, b));
    each = All-cons (IsRole first_to_last_text.range) _ []
        (record {
          name = refl;
          low = small (pos 0) (omega (arith, ints)) (omega (arith, ints));
          high = small (negsuc 0) (omega (arith, ints)) (omega (arith, ints));
          low_fixed = λ e. cc;
          high_fixed = λ e. cc;
          some = λ n h. omega (arith, ints, h.low);
        })
        (All-nil (IsRole first_to_last_text.range));
    size = inl (omega (arith, ints));
  };
  labels = record {
    most = omega arith;
    distinct = λ i j a b. absurd (omega (arith, a, b));
    each = All-cons IsLabelRow (signal (codes "A")) [] (record { name = refl; payload = tt }) (All-nil IsLabelRow);
  };
  kernels = record { most = omega arith; distinct = λ i j a b. absurd (omega (arith, a, b)); each = All-nil _ };
  body = (sends, (receives, tt));
}
  where
    sends : IsMade first_to_last_text outermost (L.when (only (number (pos 0)) ∷ []) (more (L.send 0 (peer_of (worker (from_n (negsuc 0))))) nothing) nothing)
    sends = (
      guard_made (number (pos 0)) (small (pos 0) (omega (arith, ints)) (omega (arith, ints))),
      ((omega arith, record { role = omega arith; off = small (negsuc 0) (omega (arith, ints)) (omega (arith, ints)) }), tt),
      tt,
    )

    receives : IsMade first_to_last_text outermost (L.when (only (from_n (negsuc 0)) ∷ []) (more (L.recv 0 (peer_of (worker (number (pos 0))))) nothing) nothing)
    receives = (
      guard_made (from_n (negsuc 0)) (small (negsuc 0) (omega (arith, ints)) (omega (arith, ints))),
      ((omega arith, record { role = omega arith; off = small (pos 0) (omega (arith, ints)) (omega (arith, ints)) }), tt),
      tt,
    )

-- ---- and its ranks do the run

proper : IsProper first_to_last
proper = record { roles = λ e. cc; simple = refl; scoped = refl; ends = refl }

-- at N = 4
pub runs : Numbered → Totalled → DoesRun first_to_last first_to_last_text (pos 4)
runs numbered totalled = text_ranks numbered totalled first_to_last first_to_last_text (pos 4) refl proper shape made (record { low = omega (arith, ints); high = tt }) (omega arith) refl
