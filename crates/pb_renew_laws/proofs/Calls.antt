-- All calls at once, turn by turn.
use Rattle.std.proofs.Common.{◌≡◌, ◌≢◌, ◌⊎◌, inl, inr, ℕ, Bool, true, false, cond, ◌&&◌, List, [], ◌∷◌, map, Option, None, Some, IsSome, nat_eq, refl, sym, subst, ap, ◌∙◌}
use Rattle.std.proofs.lemmas.Bool.Decides.{Decides-eqb}
use Rattle.std.proofs.lemmas.Option.{same_Some}
use Rattle.pb_io.specs.Files.{File, file_of}
use Rattle.pb_renew_store.specs.Changes.{KeepsFile}
use Rattle.pb_renew_store.specs.Deeds.{Deed}
use Rattle.pb_renew_put.specs.Jobs.{Task}
use Rattle.pb_renew_put.specs.Names.{left_name, new_name, spare_name}
use Rattle.pb_renew_put.specs.Phases.{DoesAll, Own, nothing, has, broken, Phase, is_own, next, start, then_go, walk}
use Rattle.pb_renew_laws.specs.Bodies.{Sound}
use Rattle.pb_renew_laws.specs.Calls.{AreOf, AtOnce, CallsLoseNothing, OneHasTheLock, Turn, deeds_of}
use Rattle.pb_renew_laws.proofs.Holds.{At, Changes, Kept, OwnHas, Steps, at_start, left_stays, own_stays, own_there}
use Rattle.pb_renew_laws.proofs.Steps.{step}
use Rattle.pb_renew_laws.proofs.Tests.{false_true, missing}

-- ---- a call, where another one does a deed

other_own : (own : Own) (name : List ℕ) (old new : List File) → (is_own own ≡ true → IsSome (file_of old name) → KeepsFile name old new) → OwnHas own (file_of old name) → OwnHas own (file_of new name)
other_own nothing name old new keep held = tt
other_own (has bytes disk) name old new keep held = own_stays (has bytes disk) name old new (keep refl (own_there (has bytes disk) _ refl held)) held
other_own broken name old new keep held = own_stays broken name old new (keep refl (own_there broken _ refl held)) held

other_holds : (t : Task) (p : Phase) (fresh spare fresh_then spare_then : Own) (old new : List File) → Changes t.out fresh spare fresh_then spare_then old new
    → (is_own p.fresh ≡ true → is_own fresh ≡ false) → (is_own p.spare ≡ true → is_own spare ≡ false) → At t p old → At t p new
other_holds t p fresh spare fresh_then spare_then old new changes lock extra at = record {
  lock = other_own p.fresh (new_name t.out) old new (λ own there. changes.lock (lock own) there) at.lock;
  extra = other_own p.spare (spare_name t.out) old new (λ own there. changes.extra (extra own) there) at.extra;
  out_locked = at.out_locked;
  left_locked = at.left_locked;
  seen = λ e. changes.text (lock (at.out_locked e)) ∙ at.seen e;
  stood = λ own. left_stays p.left t.behind p.saw_out p.saw_left (left_name t.out) old new (changes.left (lock own)) (at.stood own);
}

-- ---- tests

not_own : (own : Own) → (is_own own ≡ true → ⊥) → is_own own ≡ false
not_own nothing no_way = refl
not_own (has bytes disk) no_way = absurd (no_way refl)
not_own broken no_way = absurd (no_way refl)

same_call : (a b : ℕ) → nat_eq a b ≡ true → a ≡ b
same_call a b e = (Decides-eqb a b).0 e

other_call : (a b : ℕ) → nat_eq a b ≡ false → a ≢ b
other_call a b e same = false_true (sym e ∙ (Decides-eqb a b).1 same)

then_some : (then_next : Phase → Option Phase) (before : Option Phase) → IsSome (then_go then_next before) → (q : Phase) × (before ≡ Some q) × IsSome (then_next q)
then_some then_next None some = false_true some
then_some then_next (Some q) some = (q, refl, some)

both_not : (a b : Bool) → (a ≡ true → b ≡ false) → (a && b) ≡ false
both_not true b e = e refl
both_not false b e = refl

module _ (out : List ℕ) (tasks : ℕ → Task) (are : AreOf out tasks) where
  -- no two calls own one file
  abbrev OneOwner : (Phase → Own) → (ℕ → Phase) → Type 0
  OneOwner own_of phases = (one other : ℕ) → one ≢ other → is_own (own_of (phases one)) ≡ true → is_own (own_of (phases other)) ≡ false

  record Together (phases : ℕ → Phase) (files : List File) : Type 0 where
    at : (call : ℕ) → At (tasks call) (phases call) files
    one_lock : OneOwner (λ p. p.fresh) phases
    one_extra : OneOwner (λ p. p.spare) phases

  -- all calls behind all turns
  record Ends (turns : List Turn) (phases : ℕ → Phase) (old new : List File) : Type 0 where
    final : ℕ → Phase
    together : Together final new
    walks : (call : ℕ) → walk (tasks call) (deeds_of call turns) (phases call) ≡ Some (final call)
    kept : ((call : ℕ) → Sound (tasks call)) → Kept out old new

  -- ---- one turn

  module _ (turns : List Turn) (call : ℕ) (deed : Deed) (phases : ℕ → Phase) (q : Phase) (old new : List File) (now : Together phases old)
      (goes : next (tasks call) (phases call) deed ≡ Some q) (steps : Steps (tasks call) (phases call) old new q) where
    changes : Changes out (phases call).fresh (phases call).spare q.fresh q.spare old new
    changes = subst (λ o. Changes o (phases call).fresh (phases call).spare q.fresh q.spare old new) (are call) steps.changes

    at_next : (other : ℕ) (test : Bool) → nat_eq call other ≡ test → At (tasks other) (cond test q (phases other)) new
    at_next other true e = subst (λ c. At (tasks c) q new) (same_call call other e) steps.holds
    at_next other false e =
        let apart : other ≢ call = λ same. other_call call other e (sym same) in
        other_holds (tasks other) (phases other) (phases call).fresh (phases call).spare q.fresh q.spare old new
        (subst (λ o. Changes o (phases call).fresh (phases call).spare q.fresh q.spare old new) (sym (are other)) changes)
        (now.one_lock other call apart) (now.one_extra other call apart) (now.at other)

    -- whoever takes a file takes it from nobody
    one_owner : (own_of : Phase → Own) (name : List ℕ) → OneOwner own_of phases → ((other : ℕ) → is_own (own_of (phases other)) ≡ true → IsSome (file_of old name))
        → (is_own (own_of q) ≡ true → (is_own (own_of (phases call)) ≡ true) ⊎ (file_of old name ≡ None))
        → (one other : ℕ) (a b : Bool) → one ≢ other → nat_eq call one ≡ a → nat_eq call other ≡ b → is_own (own_of (cond a q (phases one))) ≡ true → is_own (own_of (cond b q (phases other))) ≡ false
    one_owner own_of name alone there takes one other true true apart e f own = absurd (apart (sym (same_call call one e) ∙ same_call call other f))
    one_owner own_of name alone there takes one other true false apart e f own = by_takes (takes own) where
      by_takes : (is_own (own_of (phases call)) ≡ true) ⊎ (file_of old name ≡ None) → is_own (own_of (phases other)) ≡ false
      by_takes (inl mine) = alone call other (other_call call other f) mine
      by_takes (inr free) = not_own (own_of (phases other)) (λ theirs. missing (file_of old name) free (there other theirs))
    one_owner own_of name alone there takes one other false true apart e f own = not_own (own_of q) (λ mine. by_takes (takes mine)) where
      by_takes : (is_own (own_of (phases call)) ≡ true) ⊎ (file_of old name ≡ None) → ⊥
      by_takes (inl mine) = false_true (sym (alone call one (other_call call one e) mine) ∙ own)
      by_takes (inr free) = missing (file_of old name) free (there one own)
    one_owner own_of name alone there takes one other false false apart e f own = alone one other apart own

    lock_there : (other : ℕ) → is_own (phases other).fresh ≡ true → IsSome (file_of old (new_name out))
    lock_there other own = subst (λ o. IsSome (file_of old (new_name o))) (are other) (own_there (phases other).fresh _ own (now.at other).lock)

    extra_there : (other : ℕ) → is_own (phases other).spare ≡ true → IsSome (file_of old (spare_name out))
    extra_there other own = subst (λ o. IsSome (file_of old (spare_name o))) (are other) (own_there (phases other).spare _ own (now.at other).extra)

    abbrev then_phases : ℕ → Phase
    then_phases other = cond (nat_eq call other) q (phases other)

    together_next : Together then_phases new
    together_next = record {
      at = λ other. at_next other (nat_eq call other) refl;
      one_lock = λ one other apart. one_owner (λ p. p.fresh) (new_name out) now.one_lock lock_there changes.takes_lock one other _ _ apart refl refl;
      one_extra = λ one other apart. one_owner (λ p. p.spare) (spare_name out) now.one_extra extra_there changes.takes_extra one other _ _ apart refl refl;
    }

    may_next : IsSome (walk (tasks call) (deeds_of call turns) q) → (other : ℕ) (test : Bool) → nat_eq call other ≡ test
        → IsSome (walk (tasks other) (cond test (deed ∷ deeds_of other turns) (deeds_of other turns)) (phases other)) → IsSome (walk (tasks other) (deeds_of other turns) (cond test q (phases other)))
    may_next may other true e some = subst (λ c. IsSome (walk (tasks c) (deeds_of c turns) q)) (same_call call other e) may
    may_next may other false e some = some

    walks_next : (final : ℕ → Phase) (other : ℕ) (test : Bool) → nat_eq call other ≡ test → walk (tasks other) (deeds_of other turns) (cond test q (phases other)) ≡ Some (final other)
        → walk (tasks other) (cond test (deed ∷ deeds_of other turns) (deeds_of other turns)) (phases other) ≡ Some (final other)
    walks_next final other true e rest =
        subst (λ c. next (tasks c) (phases c) deed ≡ Some q → walk (tasks c) (deeds_of c turns) q ≡ Some (final c) → then_go (walk (tasks c) (deeds_of c turns)) (next (tasks c) (phases c) deed) ≡ Some (final c))
        (same_call call other e) (λ one more_of. ap (then_go (walk (tasks call) (deeds_of call turns))) one ∙ more_of)
        (subst (λ c. next (tasks c) (phases c) deed ≡ Some q) (same_call call other e) goes) rest
    walks_next final other false e rest = rest

  -- ---- all turns

  run : (turns : List Turn) (phases : ℕ → Phase) (old new : List File) → Together phases old → ((call : ℕ) → IsSome (walk (tasks call) (deeds_of call turns) (phases call)))
      → DoesAll (map (λ turn. turn.deed) turns) old new → Ends turns phases old new
  run [] phases old new now may does = subst (λ f. Ends [] phases old f) (sym does) (record { final = phases; together = now; walks = λ call. refl; kept = λ sound name body stands. stands })
  run (turn ∷ turns) phases old new now may does =
      let call : ℕ = turn.call in
      let first : IsSome (then_go (walk (tasks call) (deeds_of call turns)) (next (tasks call) (phases call) turn.deed)) =
      subst (λ test. IsSome (walk (tasks call) (cond test (turn.deed ∷ deeds_of call turns) (deeds_of call turns)) (phases call))) ((Decides-eqb call call).1 refl) (may call) in
      let took = then_some (walk (tasks call) (deeds_of call turns)) (next (tasks call) (phases call) turn.deed) first in
      let steps : Steps (tasks call) (phases call) old does.0 took.0 = step (tasks call) (phases call) old does.0 (now.at call) took.0 turn.deed took.1 does.1 in
      let rest : Ends turns (then_phases turns call turn.deed phases took.0 old does.0 now took.1 steps) does.0 new =
      run turns _ does.0 new (together_next turns call turn.deed phases took.0 old does.0 now took.1 steps)
      (λ other. may_next turns call turn.deed phases took.0 old does.0 now took.1 steps took.2 other (nat_eq call other) refl (may other)) does.2 in
      record {
        final = rest.final;
        together = rest.together;
        walks = λ other. walks_next turns call turn.deed phases took.0 old does.0 now took.1 steps rest.final other (nat_eq call other) refl (rest.walks other);
        kept = λ sound name body stands. rest.kept sound name body (subst (λ o. Kept o old does.0) (are call) (steps.kept (sound call)) name body stands);
      }

  all_at_start : (files : List File) → Together (λ call. start) files
  all_at_start files = record { at = λ call. at_start (tasks call) files; one_lock = λ one other apart own. refl; one_extra = λ one other apart own. refl }

  ended : (turns : List Turn) (old new : List File) → AtOnce tasks turns old new → Ends turns (λ call. start) old new
  ended turns old new once = run turns (λ call. start) old new (all_at_start old) once.may once.files

pub lose_nothing : CallsLoseNothing
lose_nothing out tasks are sound turns old new once = (ended out tasks are turns old new once).kept sound

pub one_lock : OneHasTheLock
one_lock out tasks are turns old new once one other apart p q walks_p walks_q =
    let ends = ended out tasks are turns old new once in
    let is_p : ends.final one ≡ p = same_Some _ _ (sym (ends.walks one) ∙ walks_p) in
    let is_q : ends.final other ≡ q = same_Some _ _ (sym (ends.walks other) ∙ walks_q) in
    both_not (is_own p.fresh) (is_own q.fresh)
    (subst (λ a. is_own a.fresh ≡ true → is_own q.fresh ≡ false) is_p (subst (λ b. is_own (ends.final one).fresh ≡ true → is_own b.fresh ≡ false) is_q (ends.together.one_lock one other apart)))
