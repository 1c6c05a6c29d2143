-- All ranks at their starts.
use Rattle.std.proofs.Common.{◌≡◌, ◌<◌, ◌≤◌, ℕ, zero, suc, ◌+◌, ℤ, pos, ◌≤ℤ◌, ◌⊎◌, inl, inr, Option, Some, None, List, [], ◌∷◌, ◌++◌, length, get_or, refl, ap, sym, ◌∙◌, subst, arith, length-append}
use Rattle.std.specs.List.{slice_get}
use Rattle.std.proofs.lemmas.Option.{slice_get-get_or}
use Rattle.pb_affine.specs.Values.{count_of}
use Rattle.pb_world.specs.World as W
use Rattle.pb_world.specs.Counted.{Counted}
use Rattle.pb_local.specs.Machine as M
use Rattle.pb_local.specs.Tree.{program_of}
use Rattle.pb_local.specs.WellMade.{IsInRange}
use Rattle.pb_local.specs.Family.{text_start, Sequence, family}
use Rattle.pb_ctree.specs.declared.tree.CTree.{CTree}
use Rattle.pb_ctree.specs.Trees.{IsTree}
use Rattle.pb_chan.specs.Lists.{messages, words_in}
use Rattle.pb_sim_collectives.specs.Joined.{words_of, number, collectives, paired}
use Rattle.pb_sim_collectives.specs.Lists.{replicated}
use Rattle.pb_sim_collectives.proofs.Entering.{none_there, so_many}
use Rattle.pb_machine.specs.declared.rank.Rank.{Rank}
use Rattle.pb_machine.specs.Steps.{going, shown, param_of, Fits}
use Rattle.pb_sim_world.specs.declared.stand.Stand.{Stand}
use Rattle.pb_sim_world.specs.declared.state.State.{State}
use Rattle.pb_sim_world.specs.States.{program, total_of, fresh, stand, state_in, state_at}
use Rattle.pb_sim_world.specs.Worlds.{moded, is_to, world_of}
use Rattle.pb_sim_world.specs.Sound.{IsWaiting, IsJoining, AreOpened}
use Rattle.pb_sim_world.specs.Starts.{IsAtStart, AreStarts, AreFresh, IsStart}
use Rattle.pb_sim_world.proofs.Lists.{get_pushed}
use Rattle.pb_sim_world.proofs.Advancing.{led}
use Rattle.pb_sim_world.proofs.Leaving.{out_pushed}
use Rattle.pb_sim_world.proofs.Kept.{joining_out}
use Rattle.pb_sim_world.proofs.Parts.{same_world}

never : {A : Type 0} (k : ℕ) (x : A) → slice_get [] k ≡ Some x → ⊥
never {A} k x e = clash e where
  clash : ◌≡◌ {A = Option A} None (Some x) → ⊥
  clash z = cc

pub no_starts : (tree : CTree) (n : ℤ) → AreStarts tree n 0 []
no_starts tree n = record { long = refl; each = λ r rank e. absurd (never r rank e) }

pub at_start : (tree : CTree) (n : ℤ) (r : ℕ) (rank : Rank) → Fits tree rank → param_of rank ≡ n → shown tree rank ≡ going (text_start (program_of tree.local) n r) → IsAtStart tree n r rank
at_start tree n r rank fits param e =
    let p = led tree rank (text_start (program_of tree.local) n r) e in
    record { is_rank = record { fits = fits; param = param; led = p.0 }; state = p.1 }

pub one_start : (tree : CTree) (n : ℤ) (count : ℕ) (ranks : List Rank) (rank : Rank) → AreStarts tree n count ranks → IsAtStart tree n count rank → AreStarts tree n (count + 1) (ranks ++ rank ∷ [])
one_start tree n count ranks rank starts it = record {
  long = length-append ranks (rank ∷ []) ∙ ap (λ (k : ℕ). k + 1) starts.long;
  each = λ r other e. by_place r other (get_pushed ranks rank r other e);
} where
  by_place : (r : ℕ) (other : Rank) → (slice_get ranks r ≡ Some other) ⊎ ((r ≡ length ranks) × (rank ≡ other)) → IsAtStart tree n r other
  by_place r other (inl e) = starts.each r other e
  by_place r other (inr e) = subst (λ (k : ℕ). IsAtStart tree n k other) (sym (e.0 ∙ starts.long)) (subst (IsAtStart tree n count) e.1 it)

pub no_fresh : AreFresh 0 []
no_fresh = record { long = refl; each = λ r. refl }

fresh_more : (stands : List Stand) → ((r : ℕ) → get_or stands r fresh ≡ fresh) → (r : ℕ) → get_or (stands ++ fresh ∷ []) r fresh ≡ fresh
fresh_more [] h zero = refl
fresh_more [] h (suc r) = refl
fresh_more (x ∷ xs) h zero = h 0
fresh_more (x ∷ xs) h (suc r) = fresh_more xs (λ k. h (suc k)) r

pub one_fresh : (count : ℕ) (stands : List Stand) → AreFresh count stands → AreFresh (count + 1) (stands ++ fresh ∷ [])
one_fresh count stands are = record { long = length-append stands (fresh ∷ []) ∙ ap (λ (k : ℕ). k + 1) are.long; each = fresh_more stands are.each }

-- a state in which nothing was done
module _ (s : State) (stands : (r : ℕ) → stand s r ≡ fresh) (starts : AreStarts s.tree s.n (total_of s) s.ranks.items) (empty : (p q : ℕ) → messages s.channels p q ≡ []) (calls : s.joins.calls ≡ []) (words : s.joins.words ≡ replicated (total_of s)) where
  state_is : (q : ℕ) → text_start (program s) s.n q ≡ state_at s q
  state_is q = by_rank (slice_get s.ranks.items q) refl where
    by_rank : (o : Option Rank) → slice_get s.ranks.items q ≡ o → text_start (program s) s.n q ≡ state_at s q
    by_rank None e = sym (ap (state_in s q) e)
    by_rank (Some rank) e = sym (ap (state_in s q) e ∙ (starts.each q rank e).state)

  none_entered : (q : ℕ) → number s.joins q ≡ 0
  none_entered q = ap (λ xs. length (get_or xs q [])) words ∙ ap length (none_there (total_of s) q)

  world_is : (sequence : Sequence) → world_of s ≡ W.beginning (family (program s) s.n sequence)
  world_is sequence =
      sym (same_world (W.beginning (family (program s) s.n sequence)) s state_is (λ p q. sym (ap (moded (is_to (stand s p).waits q)) (empty p q)))
      (λ q. sym (ap (λ x. paired (collectives (record { calls = x; words = s.joins.words })) (words_of s.joins q)) calls))
      (λ q. ap (λ (v : Stand). v.left) (sym (stands q))) (λ q. ap (λ (v : Stand). v.mode) (sym (stands q))))

  opened : AreOpened s.joins (total_of s)
  opened = record {
    some = λ k lt. absurd (none k (subst (λ xs. k < length xs) calls lt));
    rooted = λ k call e. absurd (never k call (ap (λ xs. slice_get xs k) (sym calls) ∙ e));
  } where
    none : (k : ℕ) → k < 0 → ⊥
    none k lt = omega (arith, lt)

  out : (r : ℕ) → IsJoining s.joins r 0 (state_at s r).state.todo
  out r =
      subst (λ (x : Counted M.Rank). IsJoining s.joins r 0 x.state.todo) (state_is r)
      (joining_out s.joins r 0 (M.pushed 0 (program s).body M.finished) (out_pushed 0 (program s).body M.finished tt) (none_entered r))

  pub is_start : (tree : CTree) (n : ℤ) → s.tree ≡ tree → s.n ≡ n → IsTree s.tree → pos 0 ≤ℤ s.n → IsInRange s.tree.local.range (count_of s.n) → total_of s ≤ 1024 → length s.stands.items ≡ total_of s → words_in s.channels ≡ 0 → IsStart tree n s
  is_start tree n tree_is n_is made some range few long nothing = record {
    tree_is = tree_is;
    n_is = n_is;
    sound = record {
      tree = made;
      some = some;
      range = range;
      few = few;
      ranks = starts.long;
      stands = long;
      joins = ap length words ∙ so_many (total_of s);
      joined = λ r. let z : number s.joins r ≡ 0 = none_entered r in omega (arith, z);
      each = λ i d lt. (starts.each i (get_or s.ranks.items i d) (slice_get-get_or s.ranks.items i d lt)).is_rank;
      words = subst (λ (k : ℕ). k ≤ 16777216) (sym nothing) (omega arith);
      within = λ p q h. absurd (h (empty p q));
      opened = opened;
      waits = λ r lt. subst (λ (v : Stand). IsWaiting s r v.waits) (sym (stands r)) tt;
      joining = λ r lt. subst (λ (v : Stand). IsJoining s.joins r v.left (state_at s r).state.todo) (sym (stands r)) (out r);
    };
    world = world_is;
    stands = stands;
    none = nothing;
  }
