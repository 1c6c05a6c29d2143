-- How many braces are open behind each line of a program's statements.
use Rattle.std.proofs.Common.{◌≡◌, ℕ, zero, suc, ◌+◌, ◌-◌, ◌≤◌, Bool, true, false, if◌then◌else◌, List, [], ◌∷◌, ◌++◌, take, arith}
use Rattle.pb_affine.specs.declared.guard.Guard.{Guard}
use Rattle.pb_local.specs.declared.stmt.Peer.{Peer}
use Rattle.pb_local.specs.declared.stmt.Relay.{Relay}
use Rattle.pb_local.specs.declared.stmt.Test.{Test}
use Rattle.pb_local.specs.Tree.{Code, when, for_each, own, loop, again, choice, send, recv, run, barrier, broadcast, reduce, allreduce, Codes, nothing, more, Parts, no_part, part, Program}
use Rattle.pb_local.specs.WellMade.{Scope, outermost, behind, in_loop, loops_at, loops_in}
use Rattle.pb_ctree.specs.Lines.{Line, line, makes, takes}
use Rattle.pb_ctree.specs.Small.{incoming}
use Rattle.pb_ctree.specs.Rules.{is_label, is_wordy}
use Rattle.pb_ctree.specs.Spelling.{relay_lines, probe_lines, next_tests, test_lines, abort_lines, told_lines, spelled, spelled_all, spelled_other, spelled_parts}
use Rattle.pb_cread_statements.specs.Marks.{counted, opens, closes}
use Rattle.pb_cread_statements.specs.Fronts.{main_lines}
use Rattle.pb_cread.specs.Limits.{opened, closed}
use Rattle.pb_shape.specs.Sizes.{braces, braces_all, braces_among}
use Rattle.pb_cread_small.specs.Laws.{SmallKeepsLimits}

abbrev number : Bool → ℕ
number b = counted b 0

-- from at most i open braces to at most j, with at most n behind each of these lines
data Holds (n j : ℕ) : ℕ → List Line → Type 0 where
  here : {i : ℕ} → i ≤ j → i ≤ n → Holds n j i []
  on : {i : ℕ} {l : Line} {ls : List Line} (m : ℕ) → i ≤ n → i + number (opens l.item) ≤ m + number (closes l.item) → Holds n j m ls → Holds n j i (l ∷ ls)

starts : {n j i : ℕ} {ls : List Line} → Holds n j i ls → i ≤ n
starts (here le few) = few
starts (on m few le h) = few

lower : {n j i k : ℕ} {ls : List Line} → k ≤ i → Holds n j i ls → Holds n j k ls
lower less (here le few) = here (omega (arith, less, le)) (omega (arith, less, few))
lower less (on m few le h) = on m (omega (arith, less, few)) (omega (arith, less, le)) h

joined : {n j k i : ℕ} {xs ys : List Line} → Holds n j i xs → Holds n k j ys → Holds n k i (xs ++ ys)
joined (here le few) g = lower le g
joined (on m few le h) g = on m few le (joined h g)

counted_is : (b : Bool) (n : ℕ) → counted b n ≡ number b + n
counted_is true n = omega arith
counted_is false n = omega arith

behind_each : {n j i : ℕ} {ls : List Line} (k : ℕ) → Holds n j i ls → i + opened (take k ls) ≤ n + closed (take k ls)
behind_each zero h = omega (arith, starts h)
behind_each (suc k) (here le few) = omega (arith, few)
behind_each (suc k) (on {l = l} {ls = ls} m few le h) = omega (arith, le, behind_each k h, counted_is (opens l.item) (opened (take k ls)), counted_is (closes l.item) (closed (take k ls)))

-- ---- how the branch of a choice is told

module _ (p : Program) (n : ℕ) where
  relays_hold : (i d : ℕ) (relays : List Relay) (from : Peer) → suc i ≤ n → Holds n i (suc i) (relay_lines p d relays from)
  relays_hold i d [] from few = on (suc i) few (omega arith) (on (suc i) few (omega arith) (on i few (omega arith) (here (omega arith) (omega (arith, few)))))
  relays_hold i d (r ∷ rs) from few = on (suc i) few (omega arith) (on (suc i) few (omega arith) (relays_hold i d rs from few))

  probes_hold : (i d : ℕ) (relays : List Relay) (from : Peer) → suc i ≤ n → Holds n i i (probe_lines p d relays from)
  probes_hold i d [] from few = on i (omega (arith, few)) (omega arith) (here (omega arith) (omega (arith, few)))
  probes_hold i d (r ∷ rs) from few = on (suc i) (omega (arith, few)) (omega arith) (on (suc i) few (omega arith) (relays_hold i d rs from few))

  next_hold : (i d : ℕ) (before : Test) (ts : List Test) → suc i ≤ n → Holds n (suc i) (suc i) (next_tests p d before ts)
  next_hold i d before [] few = here (omega arith) few
  next_hold i d before (t ∷ ts) few = on (suc i) few (omega arith) (on (suc i) few (omega arith) (next_hold i d t ts few))

  tests_hold : (i d : ℕ) (t : Test) (ts : List Test) → suc i ≤ n → Holds n (suc i) i (test_lines p d t ts)
  tests_hold i d t ts few = on (suc i) (omega (arith, few)) (omega arith) (on (suc i) few (omega arith) (next_hold i d t ts few))

  abort_holds : (i d : ℕ) → suc i ≤ n → Holds n i (suc i) (abort_lines d)
  abort_holds i d few = on (suc i) few (omega arith) (on (suc i) few (omega arith) (on i few (omega arith) (here (omega arith) (omega (arith, few)))))

  told_hold : (i d : ℕ) (who : Guard) (relays : List Relay) (from : Peer) (tests : List Test) → suc (suc i) ≤ n → Holds n i (suc i) (told_lines p d who relays from tests)
  told_hold i d who relays from [] few = on i (omega (arith, few)) (omega arith) (here (omega arith) (omega (arith, few)))
  told_hold i d who relays from (t ∷ ts) few =
      (on (suc i) (omega (arith, few)) (omega arith) (joined
      (joined (joined (probes_hold (suc i) (d + 1) relays from few) (tests_hold (suc i) (d + 1) t ts few)) (abort_holds (suc i) (d + 1) few))
      (on i (omega (arith, few)) (omega arith) (here (omega arith) (omega (arith, few))))))

  -- ---- statements

  -- a line that stands only for a label with words
  if_holds : (i label d : ℕ) (b kept : Bool) → i ≤ n → Holds n i i (if b then line d (makes label) kept ∷ [] else [])
  if_holds i label d true kept few = on i few (omega arith) (here (omega arith) few)
  if_holds i label d false kept few = here (omega arith) few

  then_holds : (i label d : ℕ) (b : Bool) → i ≤ n → Holds n i i (if b then line d (takes label incoming) true ∷ [] else [])
  then_holds i label d true few = on i few (omega arith) (here (omega arith) few)
  then_holds i label d false few = here (omega arith) few

  mutual
    code_holds : (i d : ℕ) (s : Scope) (c : Code) → i + braces c ≤ n → Holds n i i (spelled p d s c)
    code_holds i d s (when guards first other) few =
        (on (suc i) (omega (arith, few)) (omega arith) (joined (codes_hold (suc i) (d + 1) s first (omega (arith, few))) (other_holds i d (behind s (loops_in first)) other (omega (arith, few)))))
    code_holds i d s (for_each low high body) few =
        (on (suc i) (omega (arith, few)) (omega arith) (joined (codes_hold (suc i) (d + 1) s body (omega (arith, few))) (on i (omega (arith, few)) (omega arith) (here (omega arith) (omega (arith, few))))))
    code_holds i d s (own off) few = on i (omega (arith, few)) (omega arith) (here (omega arith) (omega (arith, few)))
    code_holds i d s (loop id body) few =
        (on (suc i) (omega (arith, few)) (omega arith) (joined (codes_hold (suc i) (d + 1) (in_loop s id) body (omega (arith, few))) (on i (omega (arith, few)) (omega arith) (here (omega arith) (omega (arith, few))))))
    code_holds i d s (again id) few = on i (omega (arith, few)) (omega arith) (here (omega arith) (omega (arith, few)))
    code_holds i d s (choice who kernel relays from tests branches) few =
        (on (suc i) (omega (arith, few)) (omega arith) (on (suc i) (omega (arith, few)) (omega arith) (joined (told_hold i d who relays from tests (omega (arith, few))) (first_holds i d s tests branches (omega (arith, few))))))
    code_holds i d s (send label to) few =
        joined (if_holds i label d (is_wordy p label) (is_label p label) (omega (arith, few))) (on i (omega (arith, few)) (omega arith) (here (omega arith) (omega (arith, few))))
    code_holds i d s (recv label from) few = on i (omega (arith, few)) (omega arith) (then_holds i label d (is_wordy p label) (omega (arith, few)))
    code_holds i d s (run kernel) few = on i (omega (arith, few)) (omega arith) (here (omega arith) (omega (arith, few)))
    code_holds i d s barrier few = on i (omega (arith, few)) (omega arith) (here (omega arith) (omega (arith, few)))
    code_holds i d s (broadcast label root) few = let f : i ≤ n = omega (arith, few) in (on i f (omega arith) (on i f (omega arith) (on i f (omega arith) (here (omega arith) f))))
    code_holds i d s (reduce label op root) few = let f : i ≤ n = omega (arith, few) in (on i f (omega arith) (on i f (omega arith) (on i f (omega arith) (here (omega arith) f))))
    code_holds i d s (allreduce label op) few = let f : i ≤ n = omega (arith, few) in (on i f (omega arith) (on i f (omega arith) (on i f (omega arith) (here (omega arith) f))))

    codes_hold : (i d : ℕ) (s : Scope) (cs : Codes) → i + braces_all cs ≤ n → Holds n i i (spelled_all p d s cs)
    codes_hold i d s nothing few = here (omega arith) (omega (arith, few))
    codes_hold i d s (more c rest) few = joined (code_holds i d s c (omega (arith, few))) (codes_hold i d (behind s (loops_at c)) rest (omega (arith, few)))

    other_holds : (i d : ℕ) (s : Scope) (cs : Codes) → suc i + braces_all cs ≤ n → Holds n i (suc i) (spelled_other p d s cs)
    other_holds i d s nothing few = on i (omega (arith, few)) (omega arith) (here (omega arith) (omega (arith, few)))
    other_holds i d s (more c rest) few =
        (on (suc i) (omega (arith, few)) (omega arith) (joined
        (joined (code_holds (suc i) (d + 1) s c (omega (arith, few))) (codes_hold (suc i) (d + 1) (behind s (loops_at c)) rest (omega (arith, few))))
        (on i (omega (arith, few)) (omega arith) (here (omega arith) (omega (arith, few))))))

    first_holds : (i d : ℕ) (s : Scope) (tests : List Test) (bs : Parts) → suc i + braces_among bs ≤ n → Holds n i i (spelled_parts p d s 0 tests bs)
    first_holds i d s tests no_part few = on i (omega (arith, few)) (omega arith) (here (omega arith) (omega (arith, few)))
    first_holds i d s tests (part b rest) few =
        (on (suc i) (omega (arith, few)) (omega arith) (joined (codes_hold (suc i) (d + 1) s b (omega (arith, few))) (later_hold i d (behind s (loops_in b)) (0 + 1) tests rest (omega arith) (omega (arith, few)))))

    later_hold : (i d : ℕ) (s : Scope) (k : ℕ) (tests : List Test) (bs : Parts) → 1 ≤ k → suc i + braces_among bs ≤ n → Holds n i (suc i) (spelled_parts p d s k tests bs)
    later_hold i d s k tests no_part some few = on i (omega (arith, few)) (omega arith) (here (omega arith) (omega (arith, few)))
    later_hold i d s zero tests (part b rest) some few = absurd (omega (arith, some))
    later_hold i d s (suc k) tests (part b no_part) some few =
        on (suc i) (omega (arith, few)) (omega arith) (joined (codes_hold (suc i) (d + 1) s b (omega (arith, few))) (later_hold i d (behind s (loops_in b)) (suc k + 1) tests no_part (omega arith) (omega (arith, few))))
    later_hold i d s (suc k) tests (part b (part c rest)) some few =
        on (suc i) (omega (arith, few)) (omega arith) (joined (codes_hold (suc i) (d + 1) s b (omega (arith, few))) (later_hold i d (behind s (loops_in b)) (suc k + 1) tests (part c rest) (omega arith) (omega (arith, few))))

difference : (a b : ℕ) → 1 + a ≤ 256 + b → (1 + a) - b ≤ 256
difference a b h = omega (arith, h)

pub small_keeps_limits : SmallKeepsLimits
small_keeps_limits p many deep = record {
  deep = λ k.
      difference (opened (take k (main_lines p p.body))) (closed (take k (main_lines p p.body))) (behind_each k (codes_hold p 256 1 1 outermost p.body (omega (arith, deep))));
  many = many;
}
