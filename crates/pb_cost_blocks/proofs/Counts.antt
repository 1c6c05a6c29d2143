-- Counts, and whether they have few stretches.
use Rattle.std.proofs.Common.{◌≡◌, ◌<◌, ◌≤◌, ℕ, ℤ, pos, ◌≤ℤ◌, length, sym, ap, ap₂, ◌∙◌, subst, arith}
use Rattle.std.proofs.lemmas.Int.{ints, clamps}
use Rattle.std.specs.Int.{int_min, int_max}
use Rattle.pb_cost_pieces.specs.declared.join.Join.{Join}
use Rattle.pb_cost_pieces.specs.Lines.{value_in, joined, AreStretches}
use Rattle.pb_cost_joins.specs.declared.count.Count.{Count}
use Rattle.pb_cost_joins.specs.declared.span.Span.{Span}
use Rattle.pb_cost_joins.specs.Counts.{IsCount, Says}
use Rattle.pb_cost_joins.proofs.Counts.{stretches_as}
use Rattle.pb_cost_laws.specs.Sent as S
use Rattle.pb_cost_laws.specs.Sent.{picked}
use Rattle.pb_cost_blocks.specs.declared.asked.Way.{Way}
use Rattle.pb_cost_blocks.specs.declared.asked.Way.TheVariants.{Least, Most}
use Rattle.pb_cost_blocks.specs.Asked.{way_of, choosing}
use Rattle.pb_cost_blocks.specs.Answers.{IsJoined}
use Rattle.pb_cost_blocks.specs.Few.{IsFew, IsMany}

says_on : (c : Count) (span : Span) (f : ℤ → ℕ) → c.span ≡ span → Says c (λ n. pos (f n)) → (n : ℤ) → span.from ≤ℤ n → n ≤ℤ span.to → value_in c.list.items n ≡ pos (f n)
says_on c span f on says n low high = says.is n (subst (λ s. s.from ≤ℤ n) (sym on) low) (subst (λ s. n ≤ℤ s.to) (sym on) high)

-- what two counts joined say
pub joined_says : (join : Join) (a b c : Count) (span : Span) (f g h : ℤ → ℕ) → a.span ≡ span → b.span ≡ span → Says a (λ n. pos (f n)) → Says b (λ n. pos (g n)) → IsJoined join a b c → ((n : ℤ) → joined join (pos (f n)) (pos (g n)) ≡ pos (h n)) → Says c (λ n. pos (h n))
joined_says join a b c span f g h on_a on_b says_a says_b j e = record {
  is = λ n low high.
      let first = subst (λ s. s.from ≤ℤ n) (j.on ∙ on_a) low in
      let last = subst (λ s. n ≤ℤ s.to) (j.on ∙ on_a) high in
      j.says.is n low high ∙ ap₂ (λ x y. joined join x y) (says_on a span f on_a says_a n first last) (says_on b span g on_b says_b n first last) ∙ e n;
}

own_are : (c : Count) (span : Span) (f : ℤ → ℕ) → IsCount c → c.span ≡ span → Says c (λ n. pos (f n)) → AreStretches (λ n. pos (f n)) span.to span.from c.list.items
own_are c span f count on says = subst (λ s. AreStretches (λ n. pos (f n)) s.to s.from c.list.items) on (stretches_as (value_in c.list.items) (λ n. pos (f n)) c.span.to c.span.from c.list.items (λ n low high. sym (says.is n low high)) count.stretches)

pub few_of : (c : Count) (span : Span) (f : ℤ → ℕ) → IsCount c → c.span ≡ span → Says c (λ n. pos (f n)) → length c.list.items ≤ 4096 → IsFew span f
few_of c span f count on says few = record { list = c.list.items; are = own_are c span f count on says; few = few }

pub many_of : (c : Count) (span : Span) (f : ℤ → ℕ) → IsCount c → c.span ≡ span → Says c (λ n. pos (f n)) → 4096 < length c.list.items → IsMany span f
many_of c span f count on says many = record { list = c.list.items; are = own_are c span f count on says; many = many }

pub few_as : (span : Span) (f g : ℤ → ℕ) → ((n : ℤ) → g n ≡ f n) → IsFew span f → IsFew span g
few_as span f g same few = record {
  list = few.list;
  are = stretches_as (λ n. pos (f n)) (λ n. pos (g n)) span.to span.from few.list (λ n low high. ap pos (same n)) few.are;
  few = few.few;
}

least_is : (x y : ℕ) → int_min (pos x) (pos y) ≡ pos (picked S.Least x y)
least_is x y = grind (arith, ints, clamps)

most_is : (x y : ℕ) → int_max (pos x) (pos y) ≡ pos (picked S.Most x y)
most_is x y = grind (arith, ints, clamps)

pub picked_is : (way : Way) (x y : ℕ) → joined (choosing way) (pos x) (pos y) ≡ pos (picked (way_of way) x y)
picked_is Least x y = least_is x y
picked_is Most x y = most_is x y
