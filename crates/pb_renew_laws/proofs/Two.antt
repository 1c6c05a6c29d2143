-- Two calls are calls at once.
use Rattle.std.proofs.Common.{◌≡◌, ℕ, Bool, true, false, cond, List, [], ◌∷◌, map, IsSome, nat_eq, inl, refl, sym, subst, ap, ◌∙◌}
use Rattle.std.proofs.lemmas.Bool.Decides.{Decides-eqb}
use Rattle.pb_io.specs.Files.{File}
use Rattle.pb_kernels.specs.Names.{body_of}
use Rattle.pb_renew_store.specs.Deeds.{Deed}
use Rattle.pb_renew_put.specs.Jobs.{Task}
use Rattle.pb_renew_put.specs.Phases.{DoesAll, start, walk}
use Rattle.pb_renew_laws.specs.Bodies.{Sound}
use Rattle.pb_renew_laws.specs.Calls.{Turn, deeds_of}
use Rattle.pb_renew_laws.specs.TwoCalls.{AreTwo, LoseNothing, Mixes, TwoCallsLoseNothing, none, one, other}
use Rattle.pb_renew_laws.proofs.Calls.{lose_nothing}

-- the turns of a call 0 and a call 1
record InTurns (a b : List Deed) (old new : List File) : Type 0 where
  turns : List Turn
  first : deeds_of 0 turns ≡ a
  second : deeds_of 1 turns ≡ b
  rest : (call : ℕ) → nat_eq 0 call ≡ false → nat_eq 1 call ≡ false → deeds_of call turns ≡ []
  does : DoesAll (map (λ turn. turn.deed) turns) old new

passed : (test : Bool) (x y : List Deed) → test ≡ false → cond test x y ≡ y
passed test x y e = ap (λ (b : Bool). cond b x y) e

in_turns : (a b : List Deed) (old new : List File) → Mixes a b old new → InTurns a b old new
in_turns [] [] old new (none files) = record { turns = []; first = refl; second = refl; rest = λ call e f. refl; does = refl }
in_turns (deed ∷ a) b old new (one d x y f between g does mixed) =
    let r = in_turns a b between new mixed in
    record {
      turns = record { call = 0; deed = deed } ∷ r.turns;
      first = ap (λ (l : List Deed). deed ∷ l) r.first;
      second = r.second;
      rest = λ call e f. passed (nat_eq 0 call) _ _ e ∙ r.rest call e f;
      does = (between, does, r.does);
    }
in_turns a (deed ∷ b) old new (other d x y f between g does mixed) =
    let r = in_turns a b between new mixed in
    record {
      turns = record { call = 1; deed = deed } ∷ r.turns;
      first = r.first;
      second = ap (λ (l : List Deed). deed ∷ l) r.second;
      rest = λ call e f. passed (nat_eq 1 call) _ _ f ∙ r.rest call e f;
      does = (between, does, r.does);
    }

either_of : (P : Task → Type 0) (s t : Task) (test : Bool) → P s → P t → P (cond test s t)
either_of P s t true x y = x
either_of P s t false x y = y

module _ (s t : Task) (a b : List Deed) (old new : List File) (two : AreTwo s t a b old new) where
  in_order : InTurns a b old new
  in_order = in_turns a b old new two.mixed

  may_other : (call : ℕ) (test : Bool) → nat_eq 0 call ≡ false → nat_eq 1 call ≡ test → IsSome (walk t (deeds_of call in_order.turns) start)
  may_other call true e f = subst (λ n. IsSome (walk t (deeds_of n in_order.turns) start)) ((Decides-eqb 1 call).0 f) (subst (λ l. IsSome (walk t l start)) (sym in_order.second) two.may_second)
  may_other call false e f = subst (λ l. IsSome (walk t l start)) (sym (in_order.rest call e f)) refl

  may : (call : ℕ) (test : Bool) → nat_eq 0 call ≡ test → IsSome (walk (cond test s t) (deeds_of call in_order.turns) start)
  may call true e = subst (λ n. IsSome (walk s (deeds_of n in_order.turns) start)) ((Decides-eqb 0 call).0 e) (subst (λ l. IsSome (walk s l start)) (sym in_order.first) two.may_first)
  may call false e = may_other call (nat_eq 1 call) e refl

  lose : LoseNothing s.out old new
  lose =
      let stand = lose_nothing s.out (λ call. cond (nat_eq 0 call) s t) (λ call. either_of (λ x. x.out ≡ s.out) s t (nat_eq 0 call) refl two.one_out) (λ call. either_of Sound s t (nat_eq 0 call) two.first two.second)
      in_order.turns old new (record { may = λ call. may call (nat_eq 0 call) refl; files = in_order.does }) in
      record { stand = stand; old_out = λ list read name among. stand name (body_of name list) (inl (record { list = list; read = read; there = among; same = refl })) }

pub two_lose_nothing : TwoCallsLoseNothing
two_lose_nothing = lose
