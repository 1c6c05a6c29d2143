-- The rules on guards, peers, labels and kernels decide what is well made.
use Rattle.std.proofs.Common.{◌≡◌, ◌≢◌, ℕ, ◌<◌, ℤ, pos, negsuc, true, not, List, [], ◌∷◌, length, Option, Some, None, refl, ap, ap₂, arith, Decides, int_le, nat_lt}
use Rattle.std.specs.List.{list_all}
use Rattle.std.specs.Ordering.{int_eq}
use Rattle.std.proofs.lemmas.Bool.Decides.{Decides-and, Decides-like, Decides-ltb, Decides-int_eq}
use Rattle.std.proofs.lemmas.List.Elements.{All-cons, All-head, All-tail}
use Rattle.pb_affine.specs.declared.lin.Base.{Base}
use Rattle.pb_affine.specs.declared.lin.Base.TheVariants.{Fixed, Param, Var}
use Rattle.pb_affine.specs.declared.lin.Lin.{Lin}
use Rattle.pb_affine.specs.declared.guard.Guard.{Guard}
use Rattle.pb_affine.specs.Values.{IsSmall, IsSmallIf}
use Rattle.pb_syntax.specs.declared.tree.Payload.{Payload}
use Rattle.pb_syntax.specs.declared.tree.Payload.TheVariants.{Unit as NoWords, Int32, Uint32}
use Rattle.pb_syntax.specs.declared.tree.Op.{Op}
use Rattle.pb_syntax.specs.declared.tree.Op.TheVariants.{Min, Max, Sum}
use Rattle.pb_syntax.specs.declared.core_label.KernelKind.{KernelKind}
use Rattle.pb_syntax.specs.declared.core_label.KernelKind.TheVariants.{Compute as Computes, Choice as Chooses}
use Rattle.pb_local.specs.declared.stmt.Peer.{Peer}
use Rattle.pb_local.specs.Layout.{is_same_base, is_same_lin}
use Rattle.pb_local.specs.Tables.{kernel_at}
use Rattle.pb_local.specs.Tree.{Program}
use Rattle.pb_local.specs.WellMade.{IsPeer, IsBoundIf, IsGuard, AreGuards, IsLabel, HasWords, GoesWith, IsOne, IsChooser}
use Rattle.pb_ctree.specs.Functions.{has_words}
use Rattle.pb_ctree.specs.Rules.{is_offset, is_var, is_small_if, is_number_if, is_guard, are_guards, is_peer, is_label, goes_with, is_choice_kind, computes, can_choose, is_one, is_absent, is_chooser}
use Rattle.pb_ctree_laws.proofs.Tests.{always, int_le_is, nat_le_is, all_is}

pub offset_is : (off : ℤ) → Decides (is_offset off) (IsSmall off)
offset_is off =
    Decides-like _ (λ w. record { low = w.0; high = w.1 }) (λ s. (s.low, s.high))
    (Decides-and (int_le (negsuc 999999) off) (int_le off (pos 1000000)) (int_le_is (negsuc 999999) off) (int_le_is off (pos 1000000)))

pub not_var : (b : Base) → Decides (not (is_var b)) (b ≢ Var)
not_var Fixed = (λ e. λ same. cc, λ h. refl)
not_var Param = (λ e. λ same. cc, λ h. refl)
not_var Var = (λ e. cc, λ h. absurd (h refl))

small_if : (l : Option Lin) → Decides (is_small_if l) (IsSmallIf l)
small_if None = always true refl
small_if (Some l) = offset_is l.off

number_if : (n : Option ℕ) → Decides (is_number_if n) (IsBoundIf n)
number_if None = always true refl
number_if (Some n) = nat_le_is n 2000000000

pub guard_is : (p : Program) (g : Guard) → Decides (is_guard p g) (IsGuard p g)
guard_is p g =
    Decides-like _
    (λ w. record { role = w.0.0.0.0; small = record { low = w.0.0.0.1; high = w.0.0.1 }; from = w.0.1; to = w.1 })
    (λ h. ((((h.role, h.small.low), h.small.high), h.from), h.to))
    (Decides-and _ (is_number_if g.to)
    (Decides-and _ (is_number_if g.from)
    (Decides-and _ (is_small_if g.high)
    (Decides-and (nat_lt g.role (length p.roles)) (is_small_if g.low) (Decides-ltb g.role (length p.roles)) (small_if g.low))
    (small_if g.high))
    (number_if g.from))
    (number_if g.to))

pub guards_are : (p : Program) (gs : List Guard) → Decides (are_guards p gs) (AreGuards p gs)
guards_are p [] = (λ e. cc, λ h. absurd (omega (arith, h.some)))
guards_are p (g ∷ gs) =
    Decides-like _
    (λ w. record { some = omega arith; each = All-cons (IsGuard p) g gs w.0 w.1 })
    (λ h. (All-head (IsGuard p) g gs h.each, All-tail (IsGuard p) g gs h.each))
    (Decides-and (is_guard p g) (list_all (is_guard p) gs) (guard_is p g) (all_is (is_guard p) (IsGuard p) (guard_is p) gs))

pub peer_is : (p : Program) (e : Peer) → Decides (is_peer p e) (IsPeer p e)
peer_is p e =
    Decides-like _ (λ w. record { role = w.0; off = w.1 }) (λ h. (h.role, h.off))
    (Decides-and (nat_lt e.role (length p.roles)) (is_offset e.at.off) (Decides-ltb e.role (length p.roles)) (offset_is e.at.off))

pub label_is : (p : Program) (label : ℕ) → Decides (is_label p label) (IsLabel p label)
label_is p label = Decides-ltb label (length p.labels)

-- ---- words and kernels

pub words_are : (payload : Payload) → Decides (has_words payload) (HasWords payload)
words_are NoWords = (λ e. cc, λ h. absurd h)
words_are (Int32 count) = always true refl
words_are (Uint32 count) = always true refl

pub goes_is : (op : Op) (payload : Payload) → Decides (goes_with op payload) (GoesWith op payload)
goes_is Sum NoWords = (λ e. cc, λ h. absurd h)
goes_is Sum (Int32 count) = (λ e. cc, λ h. absurd h)
goes_is Sum (Uint32 count) = always true refl
goes_is Min payload = words_are payload
goes_is Max payload = words_are payload

-- what an operation goes with has words
pub goes_wordy : (op : Op) (payload : Payload) → GoesWith op payload → HasWords payload
goes_wordy Sum NoWords h = absurd h
goes_wordy Sum (Int32 count) h = absurd h
goes_wordy Sum (Uint32 count) h = tt
goes_wordy Min payload h = h
goes_wordy Max payload h = h

is_compute : (kind : KernelKind) → Decides (not (is_choice_kind kind)) (kind ≡ Computes)
is_compute Computes = (λ e. refl, λ h. refl)
is_compute Chooses = (λ e. cc, λ h. absurd cc)

is_choice : (kind : KernelKind) → Decides (is_choice_kind kind) (kind ≡ Chooses)
is_choice Computes = (λ e. cc, λ h. absurd cc)
is_choice Chooses = (λ e. refl, λ h. refl)

pub computes_is : (p : Program) (k : ℕ) → Decides (computes p k) ((k < length p.kernels) × ((kernel_at p k).kind ≡ Computes))
computes_is p k = Decides-and (nat_lt k (length p.kernels)) _ (Decides-ltb k (length p.kernels)) (is_compute (kernel_at p k).kind)

pub can_choose_is : (p : Program) (k : ℕ) → Decides (can_choose p k) ((k < length p.kernels) × ((kernel_at p k).kind ≡ Chooses))
can_choose_is p k = Decides-and (nat_lt k (length p.kernels)) _ (Decides-ltb k (length p.kernels)) (is_choice (kernel_at p k).kind)

-- ---- choosers

same_base : (a b : Base) → Decides (is_same_base a b) (a ≡ b)
same_base Fixed Fixed = (λ e. refl, λ h. refl)
same_base Fixed Param = (λ e. cc, λ h. absurd cc)
same_base Fixed Var = (λ e. cc, λ h. absurd cc)
same_base Param Fixed = (λ e. cc, λ h. absurd cc)
same_base Param Param = (λ e. refl, λ h. refl)
same_base Param Var = (λ e. cc, λ h. absurd cc)
same_base Var Fixed = (λ e. cc, λ h. absurd cc)
same_base Var Param = (λ e. cc, λ h. absurd cc)
same_base Var Var = (λ e. refl, λ h. refl)

pub same_lin : (a b : Lin) → Decides (is_same_lin a b) (a ≡ b)
same_lin a b =
    Decides-like _ (λ w. made a b w.0 w.1) (λ h. (ap (λ (l : Lin). l.base) h, ap (λ (l : Lin). l.off) h))
    (Decides-and (is_same_base a.base b.base) (int_eq a.off b.off) (same_base a.base b.base) (Decides-int_eq a.off b.off)) where
      made : (a b : Lin) → a.base ≡ b.base → a.off ≡ b.off → a ≡ b
      made a b e f = ap₂ (λ (x : Base) (y : ℤ). record { base = x; off = y }) e f

one_is : (low high : Option Lin) → Decides (is_one low high) (IsOne low high)
one_is None high = (λ e. cc, λ h. absurd h)
one_is (Some low) None = (λ e. cc, λ h. absurd h)
one_is (Some low) (Some high) = Decides-and (is_same_lin low high) (not (is_var low.base)) (same_lin low high) (not_var low.base)

absent_is : (n : Option ℕ) → Decides (is_absent n) (n ≡ None)
absent_is None = (λ e. refl, λ h. refl)
absent_is (Some n) = (λ e. cc, λ h. absurd cc)

pub chooser_is : (g : Guard) → Decides (is_chooser g) (IsChooser g)
chooser_is g =
    Decides-like _ (λ w. record { one = w.0.0; from = w.0.1; to = w.1 }) (λ h. ((h.one, h.from), h.to))
    (Decides-and _ (is_absent g.to) (Decides-and (is_one g.low g.high) (is_absent g.from) (one_is g.low g.high) (absent_is g.from)) (absent_is g.to))
