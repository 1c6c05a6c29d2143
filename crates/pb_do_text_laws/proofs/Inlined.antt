-- What is written where calls are replaced is said and fits, and is no more than was counted.
use Rattle.std.proofs.Common.{◌≡◌, ℕ, zero, suc, ◌+◌, ◌-◌, ◌<◌, ◌≤◌, Bool, true, false, ◌&&◌, nat_eq, nat_le, if◌then◌else◌, Option, Some, None, List, [], ◌∷◌, ◌++◌, length, length-append, Result, Ok, Err, refl, subst, arith}
use Rattle.std.specs.List.{slice_get}
use Rattle.std.proofs.lemmas.Bool.Decides.{nat_tests}
use Rattle.pb_text.specs.Tables.{position_of}
use Rattle.pb_text.specs.declared.quantity.Quantity.TheVariants.{Nesting, Statements}
use Rattle.pb_syntax.specs.Form.{Form}
use Rattle.pb_syntax.specs.Tree as tree
use Rattle.pb_syntax.specs.Tree.{PlainStatement, PlainBlock, statements_of, branches_of}
use Rattle.pb_syntax.specs.Grammar.{item, block}
use Rattle.pb_do_syntax.specs.Calls.{Call, Calls, CallBranches, PlainSub}
use Rattle.pb_do_syntax.specs.Names.{sub_names, sub_at}
use Rattle.pb_do_syntax.specs.Inlining.{Written, WrittenBranches, Outcome, Site, Excess, over_limit, counted, with_statement, block_behind, closed, chosen, renamed, renamed_end, Inlines, too_many, copied, iterated, looped, offered, called, lost, InlinesAll, ended, next, stopped, InlinesBranches, no_more, another, branch_stopped}
use Rattle.pb_do_text_laws.specs.Limits.{branch_count, IsSmall, IsSmallPlain, AreSmall, AreSmallBranches, AreSmallSubs}
use Rattle.pb_do_text_laws.proofs.Said.{Said, AllSaid}
use Rattle.pb_do_text_laws.proofs.Renamed.{AreWords, passed_words, renamed_leaf, renamed_item, renamed_plain}
use Rattle.pb_do_text_laws.proofs.Spoken.{IsItem, AreItems, IsSpoken, AreSpoken, AreSpokenBranches, AreSpokenSubs}
use Rattle.pb_do_text_laws.proofs.Fits.{IsLeaf, Fits, AllFit, BranchesFit, size_at, size_in, size_among, count_is, fit_last, size_last, fit_last_branch, size_last_branch, leaf_fits, leaf_size}
use Rattle.pb_do_text_laws.proofs.Built.{within, leaf_said, leaf_is, item_is_leaf, block_said, foreach_said, loop_said, choice_said}

-- what is written so far, behind so many that were counted
pub record Holds (form : Form PlainStatement) (l k : ℕ) (w : Written) : Type 0 where
  pub said : AllSaid form w.list
  pub fits : AllFit l (statements_of w.list)
  pub few : size_in (statements_of w.list) + k ≤ w.count
  pub most : w.count ≤ 4000

record BranchesHold (l k : ℕ) (w : WrittenBranches) : Type 0 where
  said : AllSaid (block (suc l)) w.list
  fits : BranchesFit l (branches_of w.list)
  few : size_among (branches_of w.list) + k ≤ w.count
  most : w.count ≤ 4000

said_last : {A : Type 0} (form : Form A) (xs : List A) (x : A) → AllSaid form xs → Said form x → AllSaid form (xs ++ x ∷ [])
said_last form [] x all is = (is, tt)
said_last form (y ∷ ys) x all is = (all.0, said_last form ys x all.1 is)

added : (form : Form PlainStatement) (l k n : ℕ) (before : Written) (s : PlainStatement) → Holds form l k before → Said form s → Fits l s → size_at s + before.count ≤ n → n ≤ 4000
    → Holds form l k (record { list = before.list ++ s ∷ []; count = n })
added form l k n before s h said fits few most = record {
  said = said_last form before.list s h.said said;
  fits = fit_last l before.list s h.fits fits;
  few = omega (arith, h.few, few, size_last before.list s);
  most = most;
}

pub begun : (form : Form PlainStatement) (l n : ℕ) → n ≤ 4000 → Holds form l n (block_behind n)
begun form l n most = record { said = tt; fits = tt; few = omega arith; most = most }

-- ---- limits

opened : (left n : ℕ) → over_limit true left n ≡ None → 0 < left
opened zero n e = absurd (grind arith)
opened (suc left) n e = omega arith

counted_few : (opens : Bool) (left n : ℕ) → over_limit opens left n ≡ None → n < 4000
counted_few opens left n e = at (opens && nat_eq left 0) (nat_le 4000 n) refl e
  where
    at : (a b : Bool) → nat_le 4000 n ≡ b → (if a then Some Nesting else (if b then Some Statements else None)) ≡ None → n < 4000
    at true b h f = absurd (grind arith)
    at false true h f = absurd (grind arith)
    at false false h f = grind (arith, nat_tests)

-- ---- outcomes

same_ok : (r : Outcome) (a b : Written) → r ≡ Ok a → r ≡ Ok b → a ≡ b
same_ok r a b e f = cc

same_branches : (r : Result WrittenBranches Excess) (a b : WrittenBranches) → r ≡ Ok a → r ≡ Ok b → a ≡ b
same_branches r a b e f = cc

no_ok : (r : Outcome) (e : Excess) (w : Written) → r ≡ Err e → r ≡ Ok w → ⊥
no_ok r e w f g = cc

no_branches : (r : Result WrittenBranches Excess) (e : Excess) (w : WrittenBranches) → r ≡ Err e → r ≡ Ok w → ⊥
no_branches r e w f g = cc

-- the block inside, and what is written behind it
record Closed (before : Written) (around : List PlainStatement → PlainStatement) (inner : Outcome) (w : Written) : Type 0 where
  block : Written
  is : inner ≡ Ok block
  same : record { list = before.list ++ around block.list ∷ []; count = block.count } ≡ w

closed_ok : (before : Written) (around : List PlainStatement → PlainStatement) (inner after : Outcome) (w : Written) → after ≡ closed before around inner → after ≡ Ok w → Closed before around inner w
closed_ok before around (Ok i) after w e f = record { block = i; is = refl; same = same_ok after _ w e f }
closed_ok before around (Err x) after w e f = absurd (no_ok after x w e f)

record Chosen (before : Written) (around : List PlainBlock → PlainStatement) (inner : Result WrittenBranches Excess) (w : Written) : Type 0 where
  blocks : WrittenBranches
  is : inner ≡ Ok blocks
  same : record { list = before.list ++ around blocks.list ∷ []; count = blocks.count } ≡ w

chosen_ok : (before : Written) (around : List PlainBlock → PlainStatement) (inner : Result WrittenBranches Excess) (after : Outcome) (w : Written) → after ≡ chosen before around inner → after ≡ Ok w → Chosen before around inner w
chosen_ok before around (Ok i) after w e f = record { blocks = i; is = refl; same = same_ok after _ w e f }
chosen_ok before around (Err x) after w e f = absurd (no_ok after x w e f)

-- ---- subprotocols

sub_spoken : (subs : List PlainSub) (i : ℕ) (sub : PlainSub) → AreSpokenSubs subs → AreSmallSubs subs → slice_get subs i ≡ Some sub → AreSpoken sub.body.list × AreSmall sub.body.list
sub_spoken [] i sub spoken small e = absurd (grind arith)
sub_spoken (s ∷ ss) zero sub spoken small e = let same : s ≡ sub = cc in subst (λ (x : PlainSub). AreSpoken x.body.list × AreSmall x.body.list) same (spoken.0, small.0)
sub_spoken (s ∷ ss) (suc i) sub spoken small e = sub_spoken ss i sub spoken.1 small.1 e

sub_found : (subs : List PlainSub) (o : Option ℕ) (sub : PlainSub) → AreSpokenSubs subs → AreSmallSubs subs → sub_at subs o ≡ Some sub → AreSpoken sub.body.list × AreSmall sub.body.list
sub_found subs None sub spoken small e = absurd (grind arith)
sub_found subs (Some i) sub spoken small e = sub_spoken subs i sub spoken small e

-- ---- leaves

leaf_holds : (site : Site) (form : Form PlainStatement) (before : Written) (s : PlainStatement) (w : Written) (after : Outcome) (k : ℕ) → over_limit false site.left before.count ≡ None
    → after ≡ Ok (with_statement (counted before) (renamed site.roles s)) → after ≡ Ok w → Said form (renamed site.roles s) → IsLeaf s → IsSmallPlain s → Holds form site.left k before → Holds form site.left k w
leaf_holds site form before s w after k none e f said is small h =
    subst (Holds form site.left k) (same_ok after _ w e f)
    (added form site.left k (before.count + 1) before (renamed site.roles s) h said (leaf_fits site.left site.roles s is small)
    (omega (arith, leaf_size site.roles s is)) (omega (arith, counted_few false site.left before.count none)))

module _ (subs : List PlainSub) where
  item_holds : {site : Site} {s : Call} {before : Written} {after : Outcome} → Inlines subs site s before after → (w : Written) → after ≡ Ok w → AreWords site.roles.names → IsItem s → IsSmall s → (k : ℕ)
      → Holds item site.left k before → Holds item site.left k w
  item_holds {after = after} (too_many limit e is) w f words item_s small k h = absurd (no_ok after _ w is f)
  item_holds {site = site} {before = before} {after = after} (copied {statement = s} none is) w f words item_s small k h =
      leaf_holds site item before s w after k none is f (renamed_item site.roles words s item_s) (item_is_leaf s item_s) small h
  item_holds (iterated inner none way is) w f words item_s small k h = absurd item_s
  item_holds (looped inner none way is) w f words item_s small k h = absurd item_s
  item_holds (offered inner none way is) w f words item_s small k h = absurd item_s
  item_holds (called sub none found way) w f words item_s small k h = absurd item_s
  item_holds (lost none found is) w f words item_s small k h = absurd item_s

  items_hold : {site : Site} {items : Calls} {before : Written} {after : Outcome} → InlinesAll subs site items before after → (w : Written) → after ≡ Ok w → AreWords site.roles.names → AreItems items → AreSmall items → (k : ℕ)
      → Holds item site.left k before → Holds item site.left k w
  items_hold {site = site} {before = before} {after = after} (ended is) w f words are small k h = subst (Holds item site.left k) (same_ok after before w is f) h
  items_hold (next mid first rest) w f words are small k h = items_hold rest w f words are.1 small.1 k (item_holds first mid refl words are.0 small.0 k h)
  items_hold {after = after} (stopped e first is) w f words are small k h = absurd (no_ok after e w is f)

-- ---- statements

module _ (subs : List PlainSub) (spoken_subs : AreSpokenSubs subs) (small_subs : AreSmallSubs subs) where
  mutual
    one_holds : {site : Site} {s : Call} {before : Written} {after : Outcome} → Inlines subs site s before after → (w : Written) → after ≡ Ok w → AreWords site.roles.names → IsSpoken s → IsSmall s → (k : ℕ)
        → Holds (within site.left) site.left k before → Holds (within site.left) site.left k w
    one_holds {after = after} (too_many limit e is) w f words spoken small k h = absurd (no_ok after _ w is f)
    one_holds {site = site} {before = before} {after = after} (copied {statement = s} none is) w f words spoken small k h =
        leaf_holds site (within site.left) before s w after k none is f (leaf_said site.left (renamed site.roles s) (renamed_leaf site.roles words s spoken)) (leaf_is s spoken) small h
    one_holds {site = site} {before = before} {after = after} (iterated {place = place} {var = var} {over = over} {at = at} inner none way is) w f words spoken small k h =
        let c = closed_ok before _ inner after w is f in
        let few = counted_few true site.left before.count none in
        let i = items_hold subs way c.block c.is words spoken.1.1 small.1 (before.count + 1) (begun item (site.left - 1) (before.count + 1) (omega (arith, few))) in
        subst (Holds (within site.left) site.left k) c.same
        (added (within site.left) site.left k c.block.count before (tree.foreach place var over at (statements_of c.block.list)) h
        (foreach_said site.left place var over at c.block.list spoken.0 spoken.1.0 i.said) (opened site.left before.count none, (small.0, i.fits)) (omega (arith, i.few)) i.most)
    one_holds {site = site} {before = before} {after = after} (looped {place = place} {name = name} {at = at} inner none way is) w f words spoken small k h =
        let c = closed_ok before _ inner after w is f in
        let few = counted_few true site.left before.count none in
        let i = all_hold way c.block c.is words spoken.1 small (before.count + 1) (begun (within (site.left - 1)) (site.left - 1) (before.count + 1) (omega (arith, few))) in
        subst (Holds (within site.left) site.left k) c.same
        (added (within site.left) site.left k c.block.count before (tree.loop place name at (statements_of c.block.list)) h
        (loop_said site.left place name at c.block.list (opened site.left before.count none) spoken.0 i.said) (opened site.left before.count none, i.fits) (omega (arith, i.few)) i.most)
    one_holds {site = site} {before = before} {after = after} (offered {place = place} {kernel = kernel} {who = who} {branches = branches} inner none way is) w f words spoken small k h =
        let c = chosen_ok before _ inner after w is f in
        let few = counted_few true site.left before.count none in
        let none_yet : BranchesHold (site.left - 1) (before.count + 1) (record { list = []; count = before.count + 1 }) = record { said = tt; fits = tt; few = omega arith; most = omega (arith, few) } in
        let p = branches_hold way c.blocks c.is words spoken.1.1.1 small.1.1 (before.count + 1) none_yet in
        let b = p.0 in
        let many : length c.blocks.list ≡ branch_count branches = omega (arith, p.1) in
        let some = opened site.left before.count none in
        subst (Holds (within site.left) site.left k) c.same
        (added (within site.left) site.left k c.blocks.count before (tree.choice place kernel (renamed_end site.roles who) (branches_of c.blocks.list)) h
        (choice_said site.left place kernel (renamed_end site.roles who) c.blocks.list some spoken.0 (renamed_plain site.roles words who spoken.1.0) (omega (arith, many, spoken.1.1.0)) b.said)
        (some, (small.0, (omega (arith, many, spoken.1.1.0, count_is c.blocks.list), (omega (arith, many, small.1.0, count_is c.blocks.list), b.fits))))
        (omega (arith, b.few)) b.most)
    one_holds {site = site} {before = before} (called {f = name} {args = args} sub none found way) w f words spoken small k h =
        let s = sub_found subs (position_of name.name (sub_names subs)) sub spoken_subs small_subs found in
        let few = counted_few false site.left before.count none in
        all_hold way w f (passed_words site.roles args words spoken) s.0 s.1 k (record { said = h.said; fits = h.fits; few = omega (arith, h.few); most = omega (arith, few) })
    one_holds {site = site} {before = before} {after = after} (lost none found is) w f words spoken small k h =
        let few = counted_few false site.left before.count none in
        subst (Holds (within site.left) site.left k) (same_ok after _ w is f) (record { said = h.said; fits = h.fits; few = omega (arith, h.few); most = omega (arith, few) })

    pub all_hold : {site : Site} {list : Calls} {before : Written} {after : Outcome} → InlinesAll subs site list before after → (w : Written) → after ≡ Ok w → AreWords site.roles.names → AreSpoken list → AreSmall list → (k : ℕ)
        → Holds (within site.left) site.left k before → Holds (within site.left) site.left k w
    all_hold {site = site} {before = before} {after = after} (ended is) w f words spoken small k h = subst (Holds (within site.left) site.left k) (same_ok after before w is f) h
    all_hold (next mid first rest) w f words spoken small k h = all_hold rest w f words spoken.1 small.1 k (one_holds first mid refl words spoken.0 small.0 k h)
    all_hold {after = after} (stopped e first is) w f words spoken small k h = absurd (no_ok after e w is f)

    branches_hold : {site : Site} {branches : CallBranches} {before : WrittenBranches} {after : Result WrittenBranches Excess} → InlinesBranches subs site branches before after → (w : WrittenBranches) → after ≡ Ok w → AreWords site.roles.names
        → AreSpokenBranches branches → AreSmallBranches branches → (k : ℕ) → BranchesHold site.left k before → BranchesHold site.left k w × (length w.list ≡ length before.list + branch_count branches)
    branches_hold {site = site} {before = before} {after = after} (no_more is) w f words spoken small k h =
        let same : before ≡ w = same_branches after before w is f in
        (subst (BranchesHold site.left k) same h, subst (λ (x : WrittenBranches). length x.list ≡ length before.list + 0) same (omega arith))
    branches_hold {site = site} {before = before} (another {at = at} inner way rest) w f words spoken small k h =
        let i = all_hold way inner refl words spoken.0 small.0 before.count (begun (within site.left) site.left before.count h.most) in
        let b : PlainBlock = record { place = at; list = statements_of inner.list } in
        let p = branches_hold rest w f words spoken.1 small.1 k (record {
          said = said_last (block (suc site.left)) before.list b h.said (block_said site.left at inner.list i.said);
          fits = fit_last_branch site.left before.list b h.fits i.fits;
          few = omega (arith, h.few, i.few, size_last_branch before.list b);
          most = i.most;
        }) in
        (p.0, omega (arith, p.1, length-append before.list (b ∷ [])))
    branches_hold {after = after} (branch_stopped e way is) w f words spoken small k h = absurd (no_branches after e w is f)
