-- The worked text with a loop, a choice and a relay is well made, and its ranks do the run.
use Rattle.std.proofs.Common.{◌≡◌, ◌≢◌, ℕ, zero, suc, ◌+◌, ◌<◌, ℤ, pos, negsuc, ◌≤ℤ◌, inl, inr, Contains, List, [], ◌∷◌, slice_index_or, IsTrue, codes, refl, sym, ap, ◌∙◌, arith}
use Rattle.std.proofs.lemmas.Int.{ints}
use Rattle.std.proofs.lemmas.List.Elements.{All-nil, All-cons}
use Rattle.pb_text.specs.Spellings as spellings
use Rattle.pb_affine.specs.declared.guard.Guard.{Guard}
use Rattle.pb_affine.specs.Values.{IsSmall}
use Rattle.pb_syntax.specs.declared.core_label.CoreKernel.{CoreKernel}
use Rattle.pb_syntax.specs.declared.core_label.KernelKind.TheVariants.{Choice}
use Rattle.pb_core_language.specs.Laws.{Numbered, Totalled}
use Rattle.pb_core_endpoint.specs.Core.{IsProper}
use Rattle.pb_local.specs.Names.{is_name}
use Rattle.pb_local.specs.Tree as L
use Rattle.pb_local.specs.Tree.{Codes, nothing, more}
use Rattle.pb_local.specs.WellMade as W
use Rattle.pb_local.specs.WellMade.{Scope, IsRole, IsGuard, AreGuards, IsPeer, IsRelay, IsTest, IsChoice, IsMade, AreMade, IsWellMade, IsLabelRow, AreLabels}
use Rattle.pb_shape.specs.Places.{peer_of}
use Rattle.pb_shape.specs.Guards.{alone}
use Rattle.pb_shape.specs.Theorem.{DoesRun}
use Rattle.pb_shape_ranks.specs.Worked.{signal}
use Rattle.pb_shape_ranks.specs.Rounds.{end_at, rounds, everybody, just, told_text, relays, test_of, tests, choosing, rounds_text}
use Rattle.pb_shape_ranks.proofs.Relayed.{rounds_shape}
use Rattle.pb_shape_ranks.proofs.Theorem.{text_ranks}

small : (x : ℤ) → negsuc 1 ≤ℤ x → x ≤ℤ pos 2 → IsSmall x
small x a b = record { low = omega (arith, ints, a); high = omega (arith, ints, b) }

small_at : (k : ℕ) → k < 3 → IsSmall (pos k)
small_at k lt = record { low = omega (arith, ints); high = omega (arith, ints, lt) }

guard_made : (k : ℕ) → k < 3 → IsGuard rounds_text (just k)
guard_made k lt = record { role = omega arith; small = record { low = small_at k lt; high = small_at k lt }; from = tt; to = tt }

guards_made : (g : Guard) → IsGuard rounds_text g → AreGuards rounds_text (g ∷ [])
guards_made g h = record { some = omega arith; each = All-cons (IsGuard rounds_text) g [] h (All-nil (IsGuard rounds_text)) }

everybody_made : AreGuards rounds_text (everybody ∷ [])
everybody_made = guards_made everybody (record { role = omega arith; small = record { low = small (pos 0) (omega (arith, ints)) (omega (arith, ints)); high = small (negsuc 0) (omega (arith, ints)) (omega (arith, ints)) }; from = tt; to = tt })

peer_made : (k : ℕ) → k < 3 → IsPeer rounds_text (peer_of (end_at k))
peer_made k lt = record { role = omega arith; off = small_at k lt }

-- two messages, and then the rest
told_made : (s : Scope) (a b : ℕ) (rest : Codes) → a < 4 → b < 4 → AreMade rounds_text (W.behind (W.behind (W.behind (W.behind s 0) 0) 0) 0) rest → AreMade rounds_text s (told_text a b rest)
told_made s a b rest x y h = (
  (guards_made (just 0) (guard_made 0 (omega arith)), ((x, peer_made 1 (omega arith)), tt), tt),
  (
    (guards_made (just 1) (guard_made 1 (omega arith)), ((x, peer_made 0 (omega arith)), tt), tt),
    ((guards_made (just 1) (guard_made 1 (omega arith)), ((y, peer_made 2 (omega arith)), tt), tt), ((guards_made (just 2) (guard_made 2 (omega arith)), ((y, peer_made 1 (omega arith)), tt), tt), h)),
  ),
)

-- ---- the tables

abbrev names : List (List ℕ)
names = codes "A" ∷ codes "B" ∷ codes "C" ∷ codes "D" ∷ []

letter : (i : ℕ) → i < 4 → slice_index_or (slice_index_or names i []) 0 0 ≡ 65 + i
letter zero lt = refl
letter (suc zero) lt = refl
letter (suc (suc zero)) lt = refl
letter (suc (suc (suc zero))) lt = refl
letter (suc (suc (suc (suc k)))) lt = absurd (omega (arith, lt))

apart : (i j : ℕ) → i < j → j < 4 → slice_index_or names i [] ≢ slice_index_or names j []
apart i j less lt e =
    let same : 65 + i ≡ 65 + j = sym (letter i (omega arith)) ∙ ap (λ name. slice_index_or name 0 0) e ∙ letter j lt in
    omega arith

labels_made : AreLabels rounds_text.labels
unfolding spellings.keys
labels_made = record {
  most = omega arith;
  distinct = apart;
  each = All-cons IsLabelRow (signal (codes "A")) (signal (codes "B") ∷ signal (codes "C") ∷ signal (codes "D") ∷ []) (record { name = refl; payload = tt })
      (All-cons IsLabelRow (signal (codes "B")) (signal (codes "C") ∷ signal (codes "D") ∷ []) (record { name = refl; payload = tt })
      (All-cons IsLabelRow (signal (codes "C")) (signal (codes "D") ∷ []) (record { name = refl; payload = tt })
      (All-cons IsLabelRow (signal (codes "D")) [] (record { name = refl; payload = tt }) (All-nil IsLabelRow))));
}

-- ---- the choice

test_made : (b label k : ℕ) → b < 2 → label < 4 → k < 3 → IsTest rounds_text 2 (test_of b label k)
test_made b label k x y z = record { branch = x; label = y; guards = guards_made (just k) (guard_made k z) }

choice_made : IsChoice rounds_text (just 0) 0 relays (peer_of (end_at 0)) tests 2
choice_made = record {
  guard = guard_made 0 (omega arith);
  chooser = record { one = (refl, λ e. cc); from = refl; to = refl };
  known = omega arith;
  chooses = refl;
  each_relay = All-cons (IsRelay rounds_text) _ [] (record { guards = guards_made (just 2) (guard_made 2 (omega arith)); from = peer_made 1 (omega arith) }) (All-nil (IsRelay rounds_text));
  source = peer_made 0 (omega arith);
  each_test = All-cons (IsTest rounds_text 2) (test_of 0 0 1) (test_of 0 1 2 ∷ test_of 1 2 1 ∷ test_of 1 3 2 ∷ []) (test_made 0 0 1 (omega arith) (omega arith) (omega arith))
      (All-cons (IsTest rounds_text 2) (test_of 0 1 2) (test_of 1 2 1 ∷ test_of 1 3 2 ∷ []) (test_made 0 1 2 (omega arith) (omega arith) (omega arith))
      (All-cons (IsTest rounds_text 2) (test_of 1 2 1) (test_of 1 3 2 ∷ []) (test_made 1 2 1 (omega arith) (omega arith) (omega arith))
      (All-cons (IsTest rounds_text 2) (test_of 1 3 2) [] (test_made 1 3 2 (omega arith) (omega arith) (omega arith)) (All-nil (IsTest rounds_text 2)))));
  ascend = (inr (refl, omega arith), (inl (omega arith), (inr (refl, omega arith), tt)));
  told = tt;
  some = omega arith;
  most = omega arith;
}

abbrev IsNamed : CoreKernel → Type 0
IsNamed k = IsTrue (is_name k.name)

made : IsWellMade rounds_text
unfolding spellings.keys
made = record {
  protocol = refl;
  range = record { some = omega arith; most = omega arith; high = (omega arith, omega arith) };
  roles = record {
    some = omega arith;
    most = omega arith;
    distinct = λ i j a b. absurd (omega (arith, a, b));
    each = All-cons (IsRole rounds_text.range) _ []
        (record {
          name = refl;
          low = small (pos 0) (omega (arith, ints)) (omega (arith, ints));
          high = small (negsuc 0) (omega (arith, ints)) (omega (arith, ints));
          low_fixed = λ e. cc;
          high_fixed = λ e. cc;
          some = λ n h. omega (arith, ints, h.low);
        })
        (All-nil (IsRole rounds_text.range));
    size = inr refl;
  };
  labels = labels_made;
  kernels = record { most = omega arith; distinct = λ i j a b. absurd (omega (arith, a, b)); each = All-cons IsNamed (record { name = codes "k"; kind = Choice }) [] refl (All-nil IsNamed) };
  body = ((everybody_made, ((refl, (round_made, tt)), tt), tt), tt);
}
  where
    round_made : IsMade rounds_text (W.in_loop W.outermost 0) (L.when (everybody ∷ []) (more (L.own (pos 0)) (alone choosing)) nothing)
    round_made = (
      everybody_made,
      (small (pos 0) (omega (arith, ints)) (omega (arith, ints)), ((choice_made, (told_made inside 0 1 (alone (L.again 0)) (omega arith) (omega arith) (here, tt), (told_made inside 2 3 nothing (omega arith) (omega arith) tt, tt))), tt)),
      tt,
    )
      where
        inside : Scope
        inside = W.behind (W.in_loop W.outermost 0) 0

        here : Contains {X = ℕ} (0 ∷ []) 0
        here = (0, omega arith, refl)

-- ---- the run

proper : IsProper rounds
proper = record { roles = λ e. cc; simple = refl; scoped = refl; ends = refl }

pub rounds_run : Numbered → Totalled → DoesRun rounds rounds_text (pos 3)
rounds_run numbered totalled = text_ranks numbered totalled rounds rounds_text (pos 3) refl proper rounds_shape made (record { low = omega (arith, ints); high = omega (arith, ints) }) (omega arith) refl
