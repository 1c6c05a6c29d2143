-- A path to a statement is no longer than the tree is high.
use Rattle.std.proofs.Common.{◌≡◌, ◌≤◌, ℕ, zero, suc, ◌+◌, max, List, [], ◌∷◌, length, ap, sym, ◌∙◌, refl, zero-add, arith, subst}
use Rattle.pb_local.specs.Tree.{Code, when, for_each, own, loop, again, choice, send, recv, run, barrier, broadcast, reduce, allreduce, Codes, nothing, more, Parts, no_part, part}
use Rattle.pb_machine_next.specs.declared.step.Step.{Step}
use Rattle.pb_machine_next.specs.Heights.{height, height_all, height_parts}
use Rattle.pb_machine_next.specs.Place.{block_from, head, side, part_at, inside, Spot, enter, spot, root}

-- nothing stands in the block, or it isn't too high
data IsLow (most : ℕ) (b : Codes) (n : ℕ) : Type 0 where
  empty : b ≡ nothing → IsLow most b n
  low : n + height_all b ≤ most → IsLow most b n

part_low : (k : ℕ) (bs : Parts) → height_all (part_at k bs) ≤ height_parts bs
part_low k no_part = omega arith
part_low zero (part a rest) = omega arith
part_low (suc k) (part a rest) = let h = part_low k rest in omega (arith, h)

head_low : (k : ℕ) (b : Codes) → height (head (block_from k b)) ≤ height_all b
head_low zero nothing = omega arith
head_low zero (more c cs) = omega arith
head_low (suc k) nothing = omega arith
head_low (suc k) (more c cs) = let h = head_low k cs in omega (arith, h)

side_low : (k : ℕ) (a b : Codes) → height_all (side k a b) ≤ max (height_all a) (height_all b)
side_low zero a b = omega arith
side_low (suc k) a b = omega arith

inside_low : (most n k : ℕ) (c : Code) → n + height c ≤ most → IsLow most (inside k c) (suc n)
inside_low most n k (when gs a b) h = let e = side_low k a b in low (omega (arith, h, e))
inside_low most n k (for_each l u body) h = low (omega (arith, h))
inside_low most n k (loop id body) h = low (omega (arith, h))
inside_low most n k (choice who kernel rs e ts bs) h = let e = part_low k bs in low (omega (arith, h, e))
inside_low most n k (own off) h = empty refl
inside_low most n k (again id) h = empty refl
inside_low most n k (send l e) h = empty refl
inside_low most n k (recv l e) h = empty refl
inside_low most n k (run kernel) h = empty refl
inside_low most n k barrier h = empty refl
inside_low most n k (broadcast l e) h = empty refl
inside_low most n k (reduce l op e) h = empty refl
inside_low most n k (allreduce l op) h = empty refl

from-nothing : (k : ℕ) → block_from k nothing ≡ nothing
from-nothing zero = refl
from-nothing (suc k) = refl

enter_low : (most n : ℕ) (s : Spot) (f : Step) → IsLow most s.block n → IsLow most (enter s f).block (suc n)
enter_low most n s f (empty e) = empty (ap (λ z. inside f.part (head (block_from f.at z))) e ∙ ap (λ z. inside f.part (head z)) (from-nothing f.at))
enter_low most n s f (low h) = let e = head_low f.at s.block in inside_low most n f.part (head (block_from f.at s.block)) (omega (arith, h, e))

more_suc : (a b : ℕ) → suc a + b ≡ a + suc b
more_suc a b = omega arith

spot_low : (most n : ℕ) (s : Spot) (fs : List Step) → IsLow most s.block n → IsLow most (spot s fs).block (length fs + n)
spot_low most n s [] h = subst (λ z. IsLow most s.block z) (sym (zero-add n)) h
spot_low most n s (f ∷ fs) h = subst (λ z. IsLow most (spot (enter s f) fs).block z) (sym (more_suc (length fs) n)) (spot_low most (suc n) (enter s f) fs (enter_low most n s f h))

there_low : (most n k : ℕ) (b : Codes) (c : Code) (cs : Codes) → IsLow most b n → block_from k b ≡ more c cs → n + height c ≤ most
there_low most n k b c cs (empty e) h = absurd (clash (sym (from-nothing k) ∙ sym (ap (block_from k) e) ∙ h)) where
  clash : nothing ≡ more c cs → ⊥
  clash z = cc
there_low most n k b c cs (low l) h = let e = head_low k b in let same : height (head (block_from k b)) ≡ height c = ap (λ z. height (head z)) h in omega (arith, l, e, same)

-- a statement at the end of a path
pub path_low : (b : Codes) (path : List Step) (k : ℕ) (c : Code) (cs : Codes) → block_from k (spot (root b) path).block ≡ more c cs → length path + height c ≤ height_all b
path_low b path k c cs h =
    let e = there_low (height_all b) (length path + 0) k (spot (root b) path).block c cs (spot_low (height_all b) 0 (root b) path (low (omega arith))) h in omega (arith, e)
