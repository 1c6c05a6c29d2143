-- Whether a part has a continue of a loop around, a statement at a time.
use Rattle.std.proofs.Common.{◌≡◌, ◌<◌, ◌≤◌, ◌+◌, ◌-◌, ℕ, suc, ◌==◌, Bool, true, false, not, ◌&&◌, ◌||◌, nat_eq, List, ◌∷◌, map, drop, get_or, length, sym, ap, ◌∙◌, subst, drop_of_length-le, arith}
use Rattle.std.proofs.lemmas.Bool.Decides.{nat_tests}
use Rattle.pb_core_language.specs.declared.tree.CoreBlock.{CoreBlock, out-CoreBlock}
use Rattle.pb_core_language.specs.declared.tree.CoreStmt.{CoreStmt}
use Rattle.pb_core_language.specs.Tree.{Mark, StmtTree, loop, again, BlockTree, is_again}
use Rattle.pb_core_language.specs.FlatOf.{between}
use Rattle.pb_core_language.specs.Plain.{plain_block, plain_stmt, block_of, branches_of}
use Rattle.pb_core_flat.specs.GoesOn.{has_again, have_again, some_have_again}
use Rattle.pb_choice.specs.Rounds.{Rounds}
use Rattle.pb_core_language.proofs.Plains.{plain_list}
use Rattle.pb_choice.proofs.Lists.{drop_is}

of_count : (len p o k : ℕ) → p ≤ len → k + o ≡ len → nat_eq (len - p) o ≡ (p == k)
of_count len p o k h e = grind (arith, nat_tests)

pub of_loop : (opens : List ℕ) (outer p id len : ℕ) (t : Bool) → len ≡ length opens → p ≡ between id opens → p ≤ length opens → t ≡ nat_eq (len - p) outer → Rounds outer opens t (λ k. between id opens == k)
of_loop opens outer p id len t el ep le et = record {
  is = λ k e. et ∙ of_count len p outer k (subst (λ z. p ≤ z) (sym el) le) (e ∙ sym el) ∙ ap (λ z. z == k) ep;
}

pub no_round : (outer : ℕ) (opens : List ℕ) (test : ℕ → Bool) → ((k : ℕ) → test k ≡ false) → Rounds outer opens false test
no_round outer opens test none = record { is = λ k e. sym (none k) }

pub round_loop : (outer : ℕ) (opens inner : List ℕ) (id : ℕ) (k : Mark) (body : BlockTree) (t : Bool) (s : StmtTree) → s ≡ loop id k body → inner ≡ id ∷ opens → Rounds outer inner t (λ k. have_again k inner body) →
    Rounds outer opens t (λ k. has_again k opens s)
round_loop outer opens inner id k body t s is same r = subst (λ z. Rounds outer opens t (λ k. has_again k opens z)) (sym is) (record {
  is = λ k e. let q : Rounds outer (id ∷ opens) t (λ k. have_again k (id ∷ opens) body) = subst (λ l. Rounds outer l t (λ k. have_again k l body)) same r in q.is (suc k) (one_more k outer (length opens) e);
}) where
  one_more : (k o l : ℕ) → k + o ≡ l → suc k + o ≡ suc l
  one_more k o l e = omega arith

pub round_again : (outer : ℕ) (opens : List ℕ) (id : ℕ) (t : Bool) (s : StmtTree) → s ≡ again id → Rounds outer opens t (λ k. between id opens == k) → Rounds outer opens t (λ k. has_again k opens s)
round_again outer opens id t s is r = subst (λ z. Rounds outer opens t (λ k. has_again k opens z)) (sym is) (record { is = r.is })

pub record RoundsNow (outer : ℕ) (opens : List ℕ) (all now : ℕ → Bool) : Type 0 where
  pub is : (k : ℕ) → k + outer ≡ length opens → all k ≡ now k

abbrev pub of_items : List ℕ → List CoreStmt → ℕ → Bool
of_items opens items k = have_again k opens (block_of (map plain_stmt items))

abbrev pub of_branches : List ℕ → List CoreBlock → ℕ → Bool
of_branches opens items k = some_have_again k opens (branches_of (map plain_block items))

skip : (a g b c : Bool) → c ≡ a || (not g && b) → a ≡ false → g ≡ false → c ≡ b
skip a g b c e h k = grind (arith, nat_tests)

halt : (a g b c : Bool) → c ≡ a || (not g && b) → a ≡ false → g ≡ true → c ≡ false
halt a g b c e h k = grind (arith, nat_tests)

hit : (a r c : Bool) → c ≡ a || r → a ≡ true → c ≡ true
hit a r c e h = grind (arith, nat_tests)

module _ (outer : ℕ) (opens : List ℕ) (items : List CoreStmt) where
  split : (i : ℕ) (x : CoreStmt) → i < length items → x ≡ get_or items i x → (k : ℕ) →
      of_items opens (drop i items) k ≡ has_again k opens (plain_stmt x).stmt || (not (is_again (plain_stmt x).stmt) && of_items opens (drop (i + 1) items) k)
  split i x lt is k = ap (λ l. of_items opens l k) (drop_is items i x lt is)

  pub items_step : (i : ℕ) (x : CoreStmt) (t : Bool) → i < length items → x ≡ get_or items i x → Rounds outer opens t (λ k. has_again k opens (plain_stmt x).stmt) → t ≡ false → is_again (plain_stmt x).stmt ≡ false →
      RoundsNow outer opens (of_items opens items) (of_items opens (drop i items)) → RoundsNow outer opens (of_items opens items) (of_items opens (drop (i + 1) items))
  items_step i x t lt is r f g s = record {
    is = λ k e. s.is k e ∙ skip (has_again k opens (plain_stmt x).stmt) (is_again (plain_stmt x).stmt) (of_items opens (drop (i + 1) items) k) (of_items opens (drop i items) k) (split i x lt is k) (sym (r.is k e) ∙ f) g;
  }

  pub items_hit : (b : CoreBlock) (i : ℕ) (x : CoreStmt) (t : Bool) → items ≡ (out-CoreBlock b).list.items → i < length items → x ≡ get_or items i x → Rounds outer opens t (λ k. has_again k opens (plain_stmt x).stmt) → t ≡ true →
      RoundsNow outer opens (of_items opens items) (of_items opens (drop i items)) → Rounds outer opens true (λ k. have_again k opens (plain_block b).block)
  items_hit b i x t same lt is r y s = subst (λ z. Rounds outer opens true (λ k. have_again k opens z)) (ap (λ l. block_of (map plain_stmt l)) same ∙ sym (plain_list b)) (record {
    is = λ k e. sym (s.is k e ∙ hit (has_again k opens (plain_stmt x).stmt) _ (of_items opens (drop i items) k) (split i x lt is k) (sym (r.is k e) ∙ y));
  })

  pub items_halt : (b : CoreBlock) (i : ℕ) (x : CoreStmt) (t : Bool) → items ≡ (out-CoreBlock b).list.items → i < length items → x ≡ get_or items i x → Rounds outer opens t (λ k. has_again k opens (plain_stmt x).stmt) → t ≡ false → is_again (plain_stmt x).stmt ≡ true →
      RoundsNow outer opens (of_items opens items) (of_items opens (drop i items)) → Rounds outer opens false (λ k. have_again k opens (plain_block b).block)
  items_halt b i x t same lt is r f g s = subst (λ z. Rounds outer opens false (λ k. have_again k opens z)) (ap (λ l. block_of (map plain_stmt l)) same ∙ sym (plain_list b)) (record {
    is = λ k e. sym (s.is k e ∙ halt (has_again k opens (plain_stmt x).stmt) (is_again (plain_stmt x).stmt) (of_items opens (drop (i + 1) items) k) (of_items opens (drop i items) k) (split i x lt is k) (sym (r.is k e) ∙ f) g);
  })

  pub items_done : (b : CoreBlock) (i : ℕ) → items ≡ (out-CoreBlock b).list.items → length items ≤ i →
      RoundsNow outer opens (of_items opens items) (of_items opens (drop i items)) → Rounds outer opens false (λ k. have_again k opens (plain_block b).block)
  items_done b i same le s = subst (λ z. Rounds outer opens false (λ k. have_again k opens z)) (ap (λ l. block_of (map plain_stmt l)) same ∙ sym (plain_list b)) (record {
    is = λ k e. sym (s.is k e ∙ ap (λ l. of_items opens l k) (drop_of_length-le items le));
  })

module _ (outer : ℕ) (opens : List ℕ) (items : List CoreBlock) where
  split_branch : (i : ℕ) (x : CoreBlock) → i < length items → x ≡ get_or items i x → (k : ℕ) →
      of_branches opens (drop i items) k ≡ have_again k opens (plain_block x).block || of_branches opens (drop (i + 1) items) k
  split_branch i x lt is k = ap (λ l. of_branches opens l k) (drop_is items i x lt is)

  pass : (a b c : Bool) → c ≡ a || b → a ≡ false → c ≡ b
  pass a b c e h = grind (arith, nat_tests)

  pub branches_step : (i : ℕ) (x : CoreBlock) (t : Bool) → i < length items → x ≡ get_or items i x → Rounds outer opens t (λ k. have_again k opens (plain_block x).block) → t ≡ false →
      RoundsNow outer opens (of_branches opens items) (of_branches opens (drop i items)) → RoundsNow outer opens (of_branches opens items) (of_branches opens (drop (i + 1) items))
  branches_step i x t lt is r f s = record {
    is = λ k e. s.is k e ∙ pass (have_again k opens (plain_block x).block) (of_branches opens (drop (i + 1) items) k) (of_branches opens (drop i items) k) (split_branch i x lt is k) (sym (r.is k e) ∙ f);
  }

  pub branches_hit : (i : ℕ) (x : CoreBlock) (t : Bool) → i < length items → x ≡ get_or items i x → Rounds outer opens t (λ k. have_again k opens (plain_block x).block) → t ≡ true →
      RoundsNow outer opens (of_branches opens items) (of_branches opens (drop i items)) → Rounds outer opens true (of_branches opens items)
  branches_hit i x t lt is r y s = record {
    is = λ k e. sym (s.is k e ∙ hit (have_again k opens (plain_block x).block) _ (of_branches opens (drop i items) k) (split_branch i x lt is k) (sym (r.is k e) ∙ y));
  }

  pub branches_done : (i : ℕ) → length items ≤ i → RoundsNow outer opens (of_branches opens items) (of_branches opens (drop i items)) → Rounds outer opens false (of_branches opens items)
  branches_done i le s = record { is = λ k e. sym (s.is k e ∙ ap (λ l. of_branches opens l k) (drop_of_length-le items le)) }

pub choice_round : (outer : ℕ) (opens : List ℕ) (items branches : List CoreBlock) (t : Bool) (s rest : StmtTree) → ((k : ℕ) → has_again k opens s ≡ some_have_again k opens (branches_of (map plain_block items))) → branches ≡ items →
    Rounds outer opens t (of_branches opens branches) → Rounds outer opens t (λ k. has_again k opens s)
choice_round outer opens items branches t s rest is same r = record { is = λ k e. r.is k e ∙ ap (λ l. of_branches opens l k) same ∙ sym (is k) }

pub round_is : (opens : List ℕ) (outer : ℕ) (t : Bool) (body : BlockTree) (whole : List ℕ) → opens ≡ whole → outer ≡ length opens → Rounds outer opens t (λ k. have_again k opens body) → t ≡ have_again 0 whole body
round_is opens outer t body whole same e r = r.is 0 (none outer (length opens) e) ∙ ap (λ l. have_again 0 l body) same where
  none : (o l : ℕ) → o ≡ l → 0 + o ≡ l
  none o l e = omega arith
