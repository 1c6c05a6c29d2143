-- What is kept of ranks once it was written, and what a refusal leaves.
use Rattle.std.proofs.Common.{◌≡◌, ◌<◌, ◌≤◌, ◌+◌, get_or, arith, get_or-set_same, ℕ, Bool, true, false, cond, nat_eq, if◌then◌else◌, Option, Some, None, List, length, refl, ap, sym, ◌∙◌, subst, Result, Ok, Err}
use Rattle.std.specs.Global.{Vec}
use Rattle.std.specs.List.{slice_set}
use Rattle.std.proofs.lemmas.Bool.Decides.{nat_tests}
use Rattle.std.specs.Option.{is_some}
use Rattle.pb_machine.specs.Steps.{is_there}
use Rattle.std.specs.Result.{is_ok, OnOk, OnErr}
use Rattle.pb_chan.specs.Lists.{Entry, messages, words_in}
use Rattle.pb_sim_world.specs.declared.stand.Stand.{Stand}
use Rattle.pb_sim_world.specs.declared.stand.Waits.{Waits}
use Rattle.pb_sim_world.specs.declared.state.State.{State}
use Rattle.pb_sim_world.specs.States.{fresh, stand}
use Rattle.pb_sim_world.specs.Worlds.{moded, is_to, world_of}
use Rattle.pb_sim_world.specs.Sound.{IsLast, IsWaiting, IsState}
use Rattle.pb_sim_world.specs.Events.{remade, IsAsked, IsSame}
use Rattle.pb_sim_world.proofs.Lists.{at_set}
use Rattle.pb_sim_world.proofs.Parts.{same_world}
use Rattle.pb_sim_world.proofs.Kept.{can_same}

pub ok_of : {T E : Type 0} (r : Result T E) (P : Type 0) → is_ok r ≡ true → OnOk r P → P
ok_of (Ok x) P e h = h
ok_of (Err x) P e h = absurd (clash e) where
  clash : false ≡ true → ⊥
  clash z = cc

pub err_of : {T E : Type 0} (r : Result T E) (P : Type 0) → is_ok r ≡ false → OnErr r P → P
err_of (Err x) P e h = h
err_of (Ok x) P e h = absurd (clash e) where
  clash : true ≡ false → ⊥
  clash z = cc

pub asked_then : (s t : State) (r count : ℕ) (new : Stand) → r < length s.stands.items → t.stands.items ≡ slice_set s.stands.items r new → new.asked ≡ (stand s r).asked + count → IsAsked s r count t
asked_then s t r count new h e a q = ap (λ (xs : List Stand). (get_or xs q fresh).asked) e ∙ ap (λ (v : Stand). v.asked) (at_set s.stands.items r new q fresh h) ∙ by_case (nat_eq q r) refl where
  by_case : (b : Bool) → nat_eq q r ≡ b → (cond b new (stand s q)).asked ≡ (if b then (stand s q).asked + count else (stand s q).asked)
  by_case true f = a ∙ ap (λ (k : ℕ). (stand s k).asked + count) (sym (equal f)) where
    equal : nat_eq q r ≡ true → q ≡ r
    equal f = grind (arith, nat_tests)
  by_case false f = refl

pub stand_it : (s t : State) (r : ℕ) (new : Stand) → r < length s.stands.items → t.stands.items ≡ slice_set s.stands.items r new → stand t r ≡ new
stand_it s t r new h e = ap (λ (xs : List Stand). get_or xs r fresh) e ∙ get_or-set_same s.stands.items r new fresh h

pub as_before : (s : State) (channels : List Entry) → IsState s → ((p q : ℕ) → messages channels p q ≡ messages s.channels p q) → words_in channels ≡ words_in s.channels → IsSame s (remade s s.ranks s.stands channels s.joins)
as_before s channels sound m w = record {
  world = sym (same_world (world_of s) (remade s s.ranks s.stands channels s.joins) (λ q. refl) (λ p q. ap (moded (is_to (stand s p).waits q)) (sym (m p q))) (λ q. refl) (λ q. refl) (λ q. refl));
  sound = record {
    tree = sound.tree;
    some = sound.some;
    range = sound.range;
    few = sound.few;
    ranks = sound.ranks;
    stands = sound.stands;
    joins = sound.joins;
    joined = sound.joined;
    each = sound.each;
    words = subst (λ (k : ℕ). k ≤ 16777216) (sym w) sound.words;
    within = λ p q h. sound.within p q (λ e. h (m p q ∙ e));
    opened = sound.opened;
    waits = λ r lt. waits r (stand s r).waits (sound.waits r lt);
    joining = sound.joining;
  };
  can = λ q. can_same s s.ranks s.stands channels q refl refl (λ p. m p q);
  tree = refl;
  n = refl;
  stands = refl;
  words = w;
} where
  waits : (r : ℕ) (v : Option Waits) → IsWaiting s r v → IsWaiting (remade s s.ranks s.stands channels s.joins) r v
  waits r None h = tt
  waits r (Some v) h = (h.0, subst (IsLast v.label) (sym (m r v.by)) h.1)

-- an element is written in a list that is another one's
pub written : (a b : Vec Stand) (xs : List Stand) (r : ℕ) (new : Stand) → a ≡ b → xs ≡ slice_set a.items r new → xs ≡ slice_set b.items r new
written a b xs r new e h = h ∙ ap (λ (v : Vec Stand). slice_set v.items r new) e

pub there_is : (o : Option ℕ) → is_some o ≡ is_there o
there_is None = refl
there_is (Some x) = refl
