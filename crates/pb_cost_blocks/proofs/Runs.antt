-- The statements so far in two counts, and one statement more.
use Rattle.std.proofs.Common.{◌≡◌, ◌≤◌, ◌+◌, inl, inr, ℕ, ℤ, pos, ◌+ℤ◌, ◌<ℤ◌, ◌≤ℤ◌, true, length, refl, sym, ◌∙◌, subst, arith}
use Rattle.std.proofs.lemmas.Int.{ints}
use Rattle.pb_cost_pieces.specs.declared.join.Join.TheVariants.{Sum}
use Rattle.pb_cost_pieces.specs.Lines.{value_in, AreStretches}
use Rattle.pb_cost_joins.specs.declared.count.Count.{Count}
use Rattle.pb_cost_joins.specs.declared.span.Span.{Span}
use Rattle.pb_cost_joins.specs.Counts.{IsCount}
use Rattle.pb_cost_joins.specs.Merging.{both_in}
use Rattle.pb_cost_joins.proofs.Counts.{stretches_as}
use Rattle.pb_cost_blocks.specs.declared.running.Running.{Running}
use Rattle.pb_cost_blocks.specs.declared.stop.Stop.{Stop}
use Rattle.pb_cost_blocks.specs.declared.stop.Stop.TheVariants.{TooManyPieces, Unfit, NoMemory}
use Rattle.pb_cost_blocks.specs.Answers.{IsTold, IsStopped, IsJoined, FewJoined, JoinStopped}
use Rattle.pb_cost_blocks.specs.Few.{nothing_sent, IsFew, IsMany}
use Rattle.pb_cost_blocks.specs.Running.{HasFew, HasMany, total, total_weight, AreCounts, IsRunning, RunningStopped, IsAlone, IsLight, HeavyStopped}
use Rattle.pb_cost_blocks.proofs.Together.{few_together}

-- ---- a function that is the same on the span

few_like : (span : Span) (f g : ℤ → ℤ) → ((n : ℤ) → span.from ≤ℤ n → n ≤ℤ span.to → g n ≡ f n) → HasFew span f → HasFew span g
few_like span f g same h = record { list = h.list; are = stretches_as f g span.to span.from h.list same h.are; few = h.few }

many_like : (span : Span) (f g : ℤ → ℤ) → ((n : ℤ) → span.from ≤ℤ n → n ≤ℤ span.to → g n ≡ f n) → HasMany span f → HasMany span g
many_like span f g same h = record { list = h.list; are = stretches_as f g span.to span.from h.list same h.are; many = h.many }

pub few_numbers : (span : Span) (f : ℤ → ℤ) (g : ℤ → ℕ) → ((n : ℤ) → span.from ≤ℤ n → n ≤ℤ span.to → pos (g n) ≡ f n) → HasFew span f → IsFew span g
few_numbers span f g same h = record { list = h.list; are = stretches_as f (λ n. pos (g n)) span.to span.from h.list same h.are; few = h.few }

pub many_numbers : (span : Span) (f : ℤ → ℤ) (g : ℤ → ℕ) → ((n : ℤ) → span.from ≤ℤ n → n ≤ℤ span.to → pos (g n) ≡ f n) → HasMany span f → IsMany span g
many_numbers span f g same h = record { list = h.list; are = stretches_as f (λ n. pos (g n)) span.to span.from h.list same h.are; many = h.many }

running_like : (span : Span) (f g : ℤ → ℤ) (w v : ℤ) (r : Running) → ((n : ℤ) → span.from ≤ℤ n → n ≤ℤ span.to → g n ≡ f n) → w ≡ v → IsRunning span f w r → IsRunning span g v r
running_like span f g w v r same e is = record {
  counts = is.counts;
  on = is.on;
  says = λ n low high. is.says n low high ∙ sym (same n low high);
  weighs = is.weighs ∙ e;
  few = few_like span f g same is.few;
}

stopped_like : (span : Span) (f g : ℤ → ℤ) (w v : ℤ) (e : Stop) → ((n : ℤ) → span.from ≤ℤ n → n ≤ℤ span.to → g n ≡ f n) → w ≡ v → RunningStopped span f w e → RunningStopped span g v e
stopped_like span f g w v TooManyPieces same e h = elim h [ inl many ↦ inl (many_like span f g same many) | inr many ↦ inr many ]
stopped_like span f g w v Unfit same e h = subst (λ x. pos 4100000 <ℤ x) e h
stopped_like span f g w v NoMemory same e h = tt

-- ---- weights and numbers

plus_nothing : (x y a : ℤ) → x ≡ a → y ≡ pos 0 → x +ℤ y ≡ a
plus_nothing x y a e h = omega (arith, ints, e, h)

nothing_heavy : 0 ≤ 4100000
nothing_heavy = omega arith

sum_moved : (s r n c : ℤ) → c ≡ r +ℤ n → s +ℤ c ≡ (s +ℤ r) +ℤ n
sum_moved s r n c e = omega (arith, ints, e)

-- ---- the latest statements and one more

pub light_ok : (sum recent next count c : Count) → IsJoined Sum recent next count → c ≡ count → (sum.weight +ℤ count.weight) ≤ℤ pos 4100000 → IsLight sum recent next c
light_ok sum recent next count c j same h = subst (λ x. IsLight sum recent next x) (sym same) (record { is = j; light = h })

pub light_not : (sum recent next count : Count) (e : Stop) → IsJoined Sum recent next count → e ≡ Unfit → pos 4100000 <ℤ (sum.weight +ℤ count.weight) → HeavyStopped (sum.weight +ℤ (recent.weight +ℤ next.weight)) e
light_not sum recent next count e j same h = subst (λ x. HeavyStopped (sum.weight +ℤ (recent.weight +ℤ next.weight)) x) (sym same) (subst (λ x. pos 4100000 <ℤ (sum.weight +ℤ x)) j.weighs h)

-- ---- both counts, as they are or as one

module _ (sum recent : Count) where
  -- they stay as they are
  pub stays : IsCount sum → IsCount recent → recent.span ≡ sum.span → (sum.weight +ℤ recent.weight) ≤ℤ pos 4100000 → (length sum.list.items + length recent.list.items) ≤ 4097 →
      IsRunning sum.span (both_in Sum sum.list.items recent.list.items) (sum.weight +ℤ recent.weight) (record { sum = sum; recent = recent })
  stays is_sum is_recent same light short = record {
    counts = record { sum = is_sum; recent = is_recent; same = same };
    on = refl;
    says = λ n low high. refl;
    weighs = refl;
    few = few_together sum recent is_sum is_recent same light short;
  }

  -- they are joined
  module _ (new : Count) (j : FewJoined Sum sum recent new) where
    new_says : (n : ℤ) → sum.span.from ≤ℤ n → n ≤ℤ sum.span.to → value_in new.list.items n ≡ both_in Sum sum.list.items recent.list.items n
    new_says n low high = j.0.says.is n (subst (λ s. s.from ≤ℤ n) (sym j.0.on) low) (subst (λ s. n ≤ℤ s.to) (sym j.0.on) high)

    new_are : AreStretches (both_in Sum sum.list.items recent.list.items) sum.span.to sum.span.from new.list.items
    new_are = stretches_as (value_in new.list.items) (both_in Sum sum.list.items recent.list.items) sum.span.to sum.span.from new.list.items (λ n low high. sym (new_says n low high))
        (subst (λ s. AreStretches (value_in new.list.items) s.to s.from new.list.items) j.0.on j.0.count.stretches)

    one : (none : Count) → IsTold new.span nothing_sent 0 (IsFew new.span nothing_sent) none → IsRunning sum.span (both_in Sum sum.list.items recent.list.items) (sum.weight +ℤ recent.weight) (record { sum = new; recent = none })
    one none told = record {
      counts = record { sum = j.0.count; recent = told.count; same = told.on };
      on = j.0.on;
      says = λ n low high.
          plus_nothing (value_in new.list.items n) (value_in none.list.items n) (both_in Sum sum.list.items recent.list.items n) (new_says n low high)
          (told.says.is n (subst (λ s. s.from ≤ℤ n) (sym (told.on ∙ j.0.on)) low) (subst (λ s. n ≤ℤ s.to) (sym (told.on ∙ j.0.on)) high));
      weighs = plus_nothing new.weight none.weight (sum.weight +ℤ recent.weight) j.0.weighs told.weighs;
      few = record { list = new.list.items; are = new_are; few = j.1 };
    }

    pub becomes_one : (r : Running) → IsAlone new r → IsRunning sum.span (both_in Sum sum.list.items recent.list.items) (sum.weight +ℤ recent.weight) r
    becomes_one r alone = subst (λ x. IsRunning sum.span (both_in Sum sum.list.items recent.list.items) (sum.weight +ℤ recent.weight) (record { sum = x; recent = r.recent })) (sym alone.sum_is) (one r.recent alone.none)

    pub none_stops : (e : Stop) → IsStopped true 0 (IsMany new.span nothing_sent) e → RunningStopped sum.span (both_in Sum sum.list.items recent.list.items) (sum.weight +ℤ recent.weight) e
    none_stops TooManyPieces h = inr (subst (λ s. IsMany s nothing_sent) j.0.on h)
    none_stops Unfit h = absurd (h refl nothing_heavy)
    none_stops NoMemory h = tt

  pub one_stops : (e : Stop) → JoinStopped Sum sum recent e → RunningStopped sum.span (both_in Sum sum.list.items recent.list.items) (sum.weight +ℤ recent.weight) e
  one_stops TooManyPieces h =
      let says = λ (n : ℤ) (low : sum.span.from ≤ℤ n) (high : n ≤ℤ sum.span.to). sym (h.1.says.is n (subst (λ s. s.from ≤ℤ n) (sym h.1.on) low) (subst (λ s. n ≤ℤ s.to) (sym h.1.on) high)) in
      inl (record {
        list = h.0.list.items;
        are = stretches_as (value_in h.0.list.items) (both_in Sum sum.list.items recent.list.items) sum.span.to sum.span.from h.0.list.items says
            (subst (λ s. AreStretches (value_in h.0.list.items) s.to s.from h.0.list.items) h.1.on h.1.count.stretches);
        many = h.2;
      })
  one_stops Unfit h = h
  one_stops NoMemory h = tt

-- ---- one statement more

module _ (r : Running) (next c : Count) (counts : AreCounts r) (l : IsLight r.sum r.recent next c) where
  recent_says : (n : ℤ) → r.sum.span.from ≤ℤ n → n ≤ℤ r.sum.span.to → value_in c.list.items n ≡ value_in r.recent.list.items n +ℤ value_in next.list.items n
  recent_says n low high = l.is.says.is n (subst (λ s. s.from ≤ℤ n) (sym (l.is.on ∙ counts.same)) low) (subst (λ s. n ≤ℤ s.to) (sym (l.is.on ∙ counts.same)) high)

  with_next : (n : ℤ) → r.sum.span.from ≤ℤ n → n ≤ℤ r.sum.span.to → total r n +ℤ value_in next.list.items n ≡ both_in Sum r.sum.list.items c.list.items n
  with_next n low high = sym (sum_moved (value_in r.sum.list.items n) (value_in r.recent.list.items n) (value_in next.list.items n) (value_in c.list.items n) (recent_says n low high))

  weight_with : r.sum.weight +ℤ c.weight ≡ total_weight r +ℤ next.weight
  weight_with = sum_moved r.sum.weight r.recent.weight next.weight c.weight l.is.weighs

  pub plus_runs : (new : Running) → IsRunning r.sum.span (both_in Sum r.sum.list.items c.list.items) (r.sum.weight +ℤ c.weight) new → IsRunning r.sum.span (λ n. total r n +ℤ value_in next.list.items n) (total_weight r +ℤ next.weight) new
  plus_runs new is = running_like r.sum.span (both_in Sum r.sum.list.items c.list.items) (λ n. total r n +ℤ value_in next.list.items n) (r.sum.weight +ℤ c.weight) (total_weight r +ℤ next.weight) new with_next weight_with is

  pub plus_stops : (e : Stop) → RunningStopped r.sum.span (both_in Sum r.sum.list.items c.list.items) (r.sum.weight +ℤ c.weight) e → RunningStopped r.sum.span (λ n. total r n +ℤ value_in next.list.items n) (total_weight r +ℤ next.weight) e
  plus_stops e h = stopped_like r.sum.span (both_in Sum r.sum.list.items c.list.items) (λ n. total r n +ℤ value_in next.list.items n) (r.sum.weight +ℤ c.weight) (total_weight r +ℤ next.weight) e with_next weight_with h
