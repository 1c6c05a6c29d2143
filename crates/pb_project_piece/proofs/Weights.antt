-- How large pieces are, and whether they are made.
use Rattle.std.proofs.Common.{◌≡◌, ◌<◌, ◌≤◌, ◌+◌, ℕ, suc, ℤ, pos, negsuc, ◌≤ℤ◌, nat_lt, Bool, true, false, ◌&&◌, List, [], ◌∷◌, ◌++◌, length, get_or, max, refl, sym, ap, ◌∙◌, subst, arith}
use Rattle.std.proofs.lemmas.Int.{ints}
use Rattle.std.proofs.lemmas.List.Elements.{All-cons, All-nil}
use Rattle.std.proofs.lemmas.Bool.{and_parts, and_from}
use Rattle.std.proofs.lemmas.Bool.Decides.{nat_tests}
use Rattle.pb_affine.specs.declared.guard.Guard.{Guard}
use Rattle.pb_affine.specs.Values.{IsSmall}
use Rattle.pb_core_language.specs.declared.tree.CoreEnd.{CoreEnd}
use Rattle.pb_core_language.specs.Plain.{Protocol}
use Rattle.pb_core_language.specs.Tree as T
use Rattle.pb_core_language.specs.Tree.{BlockTree}
use Rattle.pb_core_language.specs.Sound.{Rows, rows_of, is_end, is_small, is_over_n}
use Rattle.pb_part_takers.proofs.Among.{near}
use Rattle.pb_syntax.specs.declared.core_label.CoreKernel.{CoreKernel}
use Rattle.pb_syntax.specs.declared.core_label.KernelKind.TheVariants.{Compute}
use Rattle.pb_local.specs.declared.stmt.Peer.{Peer}
use Rattle.pb_local.specs.Tables.{kernel_at}
use Rattle.pb_shape.specs.Tabled as P
use Rattle.pb_local.specs.Tree as L
use Rattle.pb_local.specs.Tree.{Code, Codes, Program, size, size_all}
use Rattle.pb_local.specs.WellMade as W
use Rattle.pb_local.specs.WellMade.{IsMade, AreMade, IsGuard, AreGuards, IsPeer, behind, loops_at, loops_in}
use Rattle.pb_shape.specs.Sizes.{braces, braces_all}
use Rattle.pb_shape.specs.Places.{peer_of}
use Rattle.pb_shape.specs.Guards.{alone}
use Rattle.pb_project_piece.specs.Adding.{onto}
use Rattle.pb_project_piece.specs.Weights.{sizes, depths, loop_count, AreFlat, IsWeighed, AreWeighed, IsSimple, IsTabledAs, each_room}
use Rattle.pb_project_piece.specs.Ones.{end_guard, only_when}

-- ---- numbers

add_up : (s a b : ℕ) → s + (a + b) ≡ (s + a) + b
add_up s a b = omega arith

sizes_append : (a b : List Code) → sizes (a ++ b) ≡ sizes a + sizes b
sizes_append [] b = omega arith
sizes_append (c ∷ cs) b = ap (λ z. size c + z) (sizes_append cs b) ∙ add_up (size c) (sizes cs) (sizes b)

loops_append : (a b : List Code) → loop_count (a ++ b) ≡ loop_count a + loop_count b
loops_append [] b = omega arith
loops_append (c ∷ cs) b = ap (λ z. loops_at c + z) (loops_append cs b) ∙ add_up (loops_at c) (loop_count cs) (loop_count b)

max_parts : (a b d : ℕ) → max a b ≤ d → (a ≤ d) × (b ≤ d)
max_parts a b d h = (omega (arith, h), omega (arith, h))

max_both : (a b d : ℕ) → a ≤ d → b ≤ d → max a b ≤ d
max_both a b d h k = omega (arith, h, k)

depths_append : (a b : List Code) (d : ℕ) → depths a ≤ d → depths b ≤ d → depths (a ++ b) ≤ d
depths_append [] b d h k = k
depths_append (c ∷ cs) b d h k = let z = max_parts (braces c) (depths cs) d h in max_both (braces c) (depths (cs ++ b)) d z.0 (depths_append cs b d z.1 k)

two_few : (a b m n k : ℕ) → a ≤ m → b ≤ n → k ≡ a + b → k ≤ m + n
two_few a b m n k h g e = omega (arith, h, g, e)

two_none : (a b k : ℕ) → a ≡ 0 → b ≡ 0 → k ≡ a + b → k ≡ 0
two_none a b k h g e = omega (arith, h, g, e)

pub weighed_two : (m n d : ℕ) (a b : List Code) → IsWeighed m d a → IsWeighed n d b → IsWeighed (m + n) d (a ++ b)
weighed_two m n d a b x y = record {
  few = two_few (sizes a) (sizes b) m n (sizes (a ++ b)) x.few y.few (sizes_append a b);
  shallow = depths_append a b d x.shallow y.shallow;
  none = two_none (loop_count a) (loop_count b) (loop_count (a ++ b)) x.none y.none (loops_append a b);
}

up_to : (a b c : ℕ) → a ≤ b → b ≤ c → a ≤ c
up_to a b c h k = omega (arith, h, k)

pub weighed_less : (m n d e : ℕ) (a : List Code) → m ≤ n → d ≤ e → IsWeighed m d a → IsWeighed n e a
weighed_less m n d e a h k x = record { few = up_to (sizes a) m n x.few h; shallow = up_to (depths a) d e x.shallow k; none = x.none }

from_nothing : (m : ℕ) → 0 ≤ m
from_nothing m = omega arith

pub weighed_none : (m d : ℕ) → IsWeighed m d []
weighed_none m d = record { few = from_nothing m; shallow = from_nothing d; none = refl }

-- ---- before what follows

pub sizes_onto : (a : List Code) (tail : Codes) → size_all (onto a tail) ≡ sizes a + size_all tail
sizes_onto [] tail = omega arith
sizes_onto (c ∷ cs) tail = ap (λ z. size c + z) (sizes_onto cs tail) ∙ add_up (size c) (sizes cs) (size_all tail)

pub loops_onto : (a : List Code) (tail : Codes) → loops_in (onto a tail) ≡ loop_count a + loops_in tail
loops_onto [] tail = omega arith
loops_onto (c ∷ cs) tail = ap (λ z. loops_at c + z) (loops_onto cs tail) ∙ add_up (loops_at c) (loop_count cs) (loops_in tail)

max_once : (a b c : ℕ) → max a (max b c) ≡ max (max a b) c
max_once a b c = omega arith

pub braces_onto : (a : List Code) (tail : Codes) → braces_all (onto a tail) ≡ max (depths a) (braces_all tail)
braces_onto [] tail = omega arith
braces_onto (c ∷ cs) tail = ap (max (braces c)) (braces_onto cs tail) ∙ max_once (braces c) (depths cs) (braces_all tail)

plus_none : (n : ℕ) → n + 0 ≡ n
plus_none n = omega arith

none_first : (a b : ℕ) → a + b ≡ 0 → a ≡ 0
none_first a b h = omega (arith, h)

none_second : (a b : ℕ) → a + b ≡ 0 → b ≡ 0
none_second a b h = omega (arith, h)

stays : (at : W.Scope) (k : ℕ) → k ≡ 0 → behind at k ≡ at
stays at k is = ap (behind at) is ∙ ap (λ n. record { loops = n; around = at.around }) (plus_none at.loops)

pub made_onto : (l : Program) (a : List Code) (at : W.Scope) (tail : Codes) → loop_count a ≡ 0 → AreFlat l a → AreMade l at tail → AreMade l at (onto a tail)
made_onto l [] at tail none flat made = made
made_onto l (c ∷ cs) at tail none flat made =
    (flat.0 at, subst (λ s. AreMade l s (onto cs tail)) (sym (stays at (loops_at c) (none_first (loops_at c) (loop_count cs) none))) (made_onto l cs at tail (none_second (loops_at c) (loop_count cs) none) flat.1 made))

pub flat_append : (l : Program) (a b : List Code) → AreFlat l a → AreFlat l b → AreFlat l (a ++ b)
flat_append l [] b h k = k
flat_append l (c ∷ cs) b h k = (h.0, flat_append l cs b h.1 k)

-- ---- an `If` of one statement

below : (a b : ℕ) → nat_lt a b ≡ true → a < b
below a b h = grind (arith, nat_tests, h)

small_ints : (c : ℤ) → negsuc 99999 ≤ℤ c → c ≤ℤ pos 100000 → (negsuc 999999 ≤ℤ c) × (c ≤ℤ pos 1000000)
small_ints c low high = (omega (arith, ints, low), omega (arith, ints, high))

pub small_is : (c : ℤ) → is_small c ≡ true → IsSmall c
small_is c h = let z = near c h in let y = small_ints c z.low z.high in record { low = y.0; high = y.1 }

pub role_below : (p : Protocol) (l : Program) (k : ℕ) → IsTabledAs p l → nat_lt k (length p.roles) ≡ true → k < length l.roles
role_below p l k tabled h = subst (λ n. k < n) (sym tabled.roles) (below k (length p.roles) h)

pub peer_made : (p : Protocol) (l : Program) (e : CoreEnd) → IsTabledAs p l → is_end (rows_of p) true e ≡ true → IsPeer l (peer_of e)
peer_made p l e tabled h =
    let z = and_parts (nat_lt e.role (length p.roles)) (is_small e.at.off) h in
    record { role = role_below p l e.role tabled z.0; off = small_is e.at.off z.1 }

pub guard_made : (l : Program) (e : CoreEnd) → IsPeer l (peer_of e) → IsGuard l (end_guard e)
guard_made l e peer = record { role = peer.role; small = record { low = peer.off; high = peer.off }; from = tt; to = tt }

one_most : 1 ≤ 1
one_most = omega arith

pub one_guard : (l : Program) (g : Guard) → IsGuard l g → AreGuards l (g ∷ [])
one_guard l g h = record { some = one_most; each = All-cons (IsGuard l) g [] h (All-nil (IsGuard l)) }

if_few : (s : ℕ) → s ≡ 1 → suc ((s + 0) + 0) + 0 ≤ 2
if_few s h = omega (arith, h)

if_shallow : (s : ℕ) → s ≡ 0 → max (suc (max (max s 0) 0)) 0 ≤ 1
if_shallow s h = omega (arith, h)

if_none : (s : ℕ) → s ≡ 0 → ((s + 0) + 0) + 0 ≡ 0
if_none s h = omega (arith, h)

pub one_weighed : (gs : List Guard) (c : Code) → IsSimple c → IsWeighed 2 1 (only_when gs (alone c) ∷ [])
one_weighed gs c simple = record { few = if_few (size c) simple.one; shallow = if_shallow (braces c) simple.flat; none = if_none (loops_at c) simple.none }

pub one_flat : (l : Program) (gs : List Guard) (c : Code) → AreGuards l gs → ((at : W.Scope) → IsMade l at c) → AreFlat l (only_when gs (alone c) ∷ [])
one_flat l gs c guards made = (λ at. (guards, (made at, tt), tt), tt)

pub weaker_end : (rows : Rows) (varies : Bool) (e : CoreEnd) → is_end rows varies e ≡ true → is_end rows true e ≡ true
weaker_end rows true e h = h
weaker_end rows false e h =
    let z = and_parts (nat_lt e.role rows.roles) (is_over_n e.at.base && is_small e.at.off) h in
    and_from (nat_lt e.role rows.roles) (is_small e.at.off) z.0 (and_parts (is_over_n e.at.base) (is_small e.at.off) z.1).1

-- ---- a block, an item at a time

-- what the items so far have added, and how much those from here on may
pub record FewSoFar (w deep : ℕ) (all now : BlockTree) (piece : List Code) : Type 0 where
  pub few : sizes piece + each_room w now ≤ each_room w all
  pub shallow : depths piece ≤ deep
  pub none : loop_count piece ≡ 0

itself : (n : ℕ) → 0 + n ≤ n
itself n = omega arith

without_more : (a b : ℕ) → a + 0 ≤ b → a ≤ b
without_more a b h = omega (arith, h)

codes_few : (a b k : ℕ) → a ≤ b → k ≡ a + 0 → k ≤ b
codes_few a b k h e = omega (arith, h, e)

codes_shallow : (a b k : ℕ) → a ≤ b → k ≡ max a 0 → k ≤ b
codes_shallow a b k h e = omega (arith, h, e)

codes_none : (a k : ℕ) → a ≡ 0 → k ≡ a + 0 → k ≡ 0
codes_none a k h e = omega (arith, h, e)

few_ints : (s a w r all k : ℕ) → s + (w + r) ≤ all → a ≤ w → k ≡ s + a → k + r ≤ all
few_ints s a w r all k h g e = omega (arith, h, g, e)

pub few_start : (w deep : ℕ) (all : BlockTree) → FewSoFar w deep all all []
few_start w deep all = record { few = itself (each_room w all); shallow = from_nothing deep; none = refl }

pub few_step : (w deep : ℕ) (all rest : BlockTree) (m : T.Mark) (s : T.StmtTree) (old a : List Code) → FewSoFar w deep all (T.more m s rest) old → IsWeighed w deep a → FewSoFar w deep all rest (old ++ a)
few_step w deep all rest m s old a x y = record {
  few = few_ints (sizes old) (sizes a) w (each_room w rest) (each_room w all) (sizes (old ++ a)) x.few y.few (sizes_append old a);
  shallow = depths_append old a deep x.shallow y.shallow;
  none = two_none (loop_count old) (loop_count a) (loop_count (old ++ a)) x.none y.none (loops_append old a);
}

pub few_done : (w deep : ℕ) (all : BlockTree) (piece : List Code) → FewSoFar w deep all T.nothing piece → IsWeighed (each_room w all) deep piece
few_done w deep all piece x = record { few = without_more (sizes piece) (each_room w all) x.few; shallow = x.shallow; none = x.none }

pub weighed_codes : (most deep : ℕ) (a : List Code) → IsWeighed most deep a → AreWeighed most deep (onto a L.nothing)
weighed_codes most deep a x = record {
  few = codes_few (sizes a) most (size_all (onto a L.nothing)) x.few (sizes_onto a L.nothing);
  shallow = codes_shallow (depths a) deep (braces_all (onto a L.nothing)) x.shallow (braces_onto a L.nothing);
  none = codes_none (loop_count a) (loops_in (onto a L.nothing)) x.none (loops_onto a L.nothing);
}

-- ---- statements with a label or a kernel

pub label_below : (p : Protocol) (l : Program) (k : ℕ) → IsTabledAs p l → nat_lt k (length p.labels) ≡ true → k < length l.labels
label_below p l k tabled h = subst (λ x. k < length x) (sym tabled.labels) (below k (length p.labels) h)

pub kernel_below : (p : Protocol) (l : Program) (k : ℕ) → IsTabledAs p l → nat_lt k (length p.kernels) ≡ true → k < length l.kernels
kernel_below p l k tabled h = subst (λ x. k < length x) (sym tabled.kernels) (below k (length p.kernels) h)

pub kind_is : (p : Protocol) (l : Program) (k : ℕ) → IsTabledAs p l → (P.kernel_at p k).kind ≡ Compute → (kernel_at l k).kind ≡ Compute
kind_is p l k tabled h = ap (λ (x : List CoreKernel). (get_or {A = CoreKernel} x k (record { name = []; kind = Compute })).kind) tabled.kernels ∙ h

pub send_simple : (l : ℕ) (e : Peer) → IsSimple (L.send l e)
send_simple l e = record { one = refl; flat = refl; none = refl }

pub recv_simple : (l : ℕ) (e : Peer) → IsSimple (L.recv l e)
recv_simple l e = record { one = refl; flat = refl; none = refl }

pub run_simple : (k : ℕ) → IsSimple (L.run k)
run_simple k = record { one = refl; flat = refl; none = refl }
