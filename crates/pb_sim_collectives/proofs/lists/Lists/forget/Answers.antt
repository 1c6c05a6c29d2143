use Rattle.std.proofs.Common.{◌≡◌, ◌<◌, ◌≤◌, ◌+◌, ◌∙◌, ℕ, List, length, map, take, All, sym, subst, rules, arith, length-set}
use Rattle.std.proofs.lemmas.List.{length-map, take_all}
use Rattle.pb_sim_collectives.specs.Lists.{starts_of}
use Rattle.pb_sim_collectives.proofs.Pushing.{kept_in}
use Rattle.pb_sim_collectives.proofs.Forgetting.{kept_at, there_at, begins_at, still_kept, one_more_forgotten}
use Rattle.pb_sim_collectives.proofs.lists.Lists.forget.Goals as goal

pub forget-requires-clause-order : goal.forget-requires-clause-order
forget-requires-clause-order c =
    kept_at (λ w. w.from) c.loop-rank.self.list.items c.loop-rank.rank c.args.k c.index_mut-window.result.now (search rules) c.index_mut-window.ensures.value c.loop-rank.invariant.kept

pub forget-requires-clause-there : goal.forget-requires-clause-there
forget-requires-clause-there c =
    there_at (λ w. w.all) c.loop-rank.self.list.items _ c.loop-rank.rank c.args.k c.index_mut-window.result.now (search rules) c.index_mut-window.ensures.value c.loop-rank.invariant.same c.requires.there

pub loop-rank-preserved : goal.loop-rank-preserved
loop-rank-preserved c =
    let h : c.loop-rank.rank < length c.loop-rank.self.list.items = search rules in
    let n : length (map (λ w. w.from) c.loop-rank.self.list.items) ≡ length c.loop-rank.self.list.items = length-map c.loop-rank.self.list.items (λ w. w.from) in
    let e = begins_at (λ w. w.from) c.loop-rank.self.list.items c.loop-rank.rank c.args.k c.forget.new.self c.forget.ensures.from in
    record {
      long = length-set c.loop-rank.self.list.items c.loop-rank.rank c.forget.new.self ∙ c.loop-rank.invariant.long;
      same = kept_in (λ w. w.all) c.loop-rank.self.list.items c.loop-rank.rank c.forget.new.self c.index_mut-window.result.now c.index_mut-window.ensures.value c.forget.ensures.all ∙ c.loop-rank.invariant.same;
      kept = λ q. rw e (still_kept (map (λ w. w.from) c.loop-rank.self.list.items) c.loop-rank.rank c.args.k c.loop-rank.invariant.kept q);
      done = subst (λ (ns : List ℕ). All (λ n. n ≡ c.args.k) (take (c.loop-rank.rank + 1) ns)) (sym e) (one_more_forgotten (map (λ w. w.from) c.loop-rank.self.list.items) c.loop-rank.rank c.args.k (omega (arith, h, n)) c.loop-rank.invariant.done);
    }

pub returns-clause-starts : goal.returns-clause-starts
returns-clause-starts c =
    let n : length (starts_of c.loop-rank.self) ≡ length c.loop-rank.self.list.items = length-map c.loop-rank.self.list.items (λ w. w.from) in
    let m : length c.loop-rank.self.list.items ≤ c.loop-rank.rank = search rules in
    subst (λ (ns : List ℕ). All (λ n. n ≡ c.args.k) ns) (take_all c.loop-rank.rank (starts_of c.loop-rank.self) (omega (arith, n, m))) c.loop-rank.invariant.done
