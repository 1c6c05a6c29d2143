-- What a file with calls becomes, without the limits: each statement in front of what stands behind it.
use Rattle.std.proofs.Common.{◌≡◌, ℕ, ◌+◌, Some, None, List, [], ◌∷◌, ◌++◌, Result, Ok, Err, refl, sym, ap, ◌∙◌, subst}
use Rattle.std.proofs.lemmas.List.{append_assoc, append-nil}
use Rattle.pb_text.specs.declared.place.Place.{Place}
use Rattle.pb_text.specs.declared.place.Spot.{Spot}
use Rattle.pb_syntax.specs.declared.tree.RangeText.{RangeText}
use Rattle.pb_syntax.specs.declared.tree.End.{End}
use Rattle.pb_syntax.specs.Tree as tree
use Rattle.pb_syntax.specs.Tree.{PlainStatement, PlainStatements, PlainBranches, PlainBlock, statements_of}
use Rattle.pb_do_syntax.specs.Calls.{Call, plain, foreach, loop, choice, call, Calls, nothing, more, CallBranches, no_branch, branch, PlainSub}
use Rattle.pb_do_syntax.specs.Names.{sub_named}
use Rattle.pb_do_syntax.specs.Inlining as I
use Rattle.pb_do_syntax.specs.Inlining.{Roles, Site, Written, WrittenBranches, Excess, Outcome, Inlines, InlinesAll, InlinesBranches, renamed, renamed_end, closed, chosen}
use Rattle.pb_do_laws.specs.Machine.{called_roles}

-- Statements under these roles, in front of what stands behind them.
mutual
  pub data Becomes (subs : List PlainSub) : Roles → Calls → PlainStatements → PlainStatements → Type 0 where
    ended : {r : Roles} {tail out : PlainStatements} → out ≡ tail → Becomes subs r nothing tail out
    copied : {r : Roles} {s : PlainStatement} {rest : Calls} {tail mid out : PlainStatements} →
        Becomes subs r rest tail mid → out ≡ tree.more (renamed r s) mid → Becomes subs r (more (plain s) rest) tail out
    iterated : {r : Roles} {place : Place} {var : Spot} {over : RangeText} {at : Place} {items : Calls} {rest : Calls} {inner tail mid out : PlainStatements} →
        Becomes subs r items tree.nothing inner → Becomes subs r rest tail mid → out ≡ tree.more (tree.foreach place var over at inner) mid → Becomes subs r (more (foreach place var over at items) rest) tail out
    looped : {r : Roles} {place : Place} {name : Spot} {at : Place} {body : Calls} {rest : Calls} {inner tail mid out : PlainStatements} →
        Becomes subs r body tree.nothing inner → Becomes subs r rest tail mid → out ≡ tree.more (tree.loop place name at inner) mid → Becomes subs r (more (loop place name at body) rest) tail out
    offered : {r : Roles} {place : Place} {kernel : Spot} {who : End} {branches : CallBranches} {rest : Calls} {inner : PlainBranches} {tail mid out : PlainStatements} →
        BecomesBranches subs r branches inner → Becomes subs r rest tail mid → out ≡ tree.more (tree.choice place kernel (renamed_end r who) inner) mid → Becomes subs r (more (choice place kernel who branches) rest) tail out
    called : {r : Roles} {place : Place} {f : Spot} {args : List Spot} {rest : Calls} {tail mid out : PlainStatements} (sub : PlainSub) →
        sub_named subs f.name ≡ Some sub → Becomes subs (called_roles sub r args) sub.body.list mid out → Becomes subs r rest tail mid → Becomes subs r (more (call place f args) rest) tail out
    lost : {r : Roles} {place : Place} {f : Spot} {args : List Spot} {rest : Calls} {tail out : PlainStatements} →
        sub_named subs f.name ≡ None → Becomes subs r rest tail out → Becomes subs r (more (call place f args) rest) tail out

  pub data BecomesBranches (subs : List PlainSub) : Roles → CallBranches → PlainBranches → Type 0 where
    no_more : {r : Roles} {out : PlainBranches} → out ≡ tree.no_branch → BecomesBranches subs r no_branch out
    another : {r : Roles} {at : Place} {first : Calls} {rest : CallBranches} {inner : PlainStatements} {others out : PlainBranches} →
        Becomes subs r first tree.nothing inner → BecomesBranches subs r rest others → out ≡ tree.branch at inner others → BecomesBranches subs r (branch at first rest) out

-- ---- from the relation with limits

written_is : {a b : Written} → let x : Outcome = Ok a in x ≡ Ok b → a ≡ b
written_is e = cc

branches_are : {a b : WrittenBranches} → let x : Result WrittenBranches Excess = Ok a in x ≡ Ok b → a ≡ b
branches_are e = cc

module _ (subs : List PlainSub) where
  -- new statements are written, and whatever stands behind them
  abbrev Adds : Roles → Calls → Written → Written → Type 0
  Adds r c before w = (new : List PlainStatement) × (w.list ≡ before.list ++ new) × ((tail : List PlainStatement) → Becomes subs r c (statements_of tail) (statements_of (new ++ tail)))

  abbrev AddsOne : Roles → Call → Written → Written → Type 0
  AddsOne r s before w =
      (new : List PlainStatement) × (w.list ≡ before.list ++ new)
      × ((rest : Calls) (tail : PlainStatements) (mid : List PlainStatement) → Becomes subs r rest tail (statements_of mid) → Becomes subs r (more s rest) tail (statements_of (new ++ mid)))

  abbrev AddsBranches : Roles → CallBranches → WrittenBranches → WrittenBranches → Type 0
  AddsBranches r bs before w = (new : List PlainBlock) × (w.list ≡ before.list ++ new) × BecomesBranches subs r bs (tree.branches_of new)

  -- a block of its own
  whole : {r : Roles} {c : Calls} (n : ℕ) (w : Written) → Adds r c (I.block_behind n) w → Becomes subs r c tree.nothing (statements_of w.list)
  whole {r = r} {c = c} n w a = subst (λ ss. Becomes subs r c tree.nothing (statements_of ss)) (append-nil a.0 ∙ sym a.1) (a.2 [])

  mutual
    adds_one : {site : Site} {s : Call} {before : Written} {after : Outcome} → Inlines subs site s before after → (w : Written) → after ≡ Ok w → AddsOne site.roles s before w
    adds_one (I.too_many limit passed e) w is = let no' = sym e ∙ is in cc
    adds_one {site = site} {before = before} (I.copied {statement = statement} none e) w is =
        let same = written_is (sym e ∙ is) in
        (renamed site.roles statement ∷ [], sym (ap (λ x. x.list) same), λ rest tail mid b. copied b refl)
    adds_one {site = site} {before = before} (I.iterated (Ok inner) none d e) w is =
        let same = written_is (sym e ∙ is) in
        let b = whole (before.count + 1) inner (adds_all d inner refl) in
        (tree.foreach _ _ _ _ (statements_of inner.list) ∷ [], sym (ap (λ x. x.list) same), λ rest tail mid r. iterated b r refl)
    adds_one (I.iterated (Err x) none d e) w is = let no' = sym e ∙ is in cc
    adds_one {site = site} {before = before} (I.looped (Ok inner) none d e) w is =
        let same = written_is (sym e ∙ is) in
        let b = whole (before.count + 1) inner (adds_all d inner refl) in
        (tree.loop _ _ _ (statements_of inner.list) ∷ [], sym (ap (λ x. x.list) same), λ rest tail mid r. looped b r refl)
    adds_one (I.looped (Err x) none d e) w is = let no' = sym e ∙ is in cc
    adds_one {site = site} {before = before} (I.offered {branches = branches} (Ok inner) none d e) w is =
        let same = written_is (sym e ∙ is) in
        let b = adds_branches d inner refl in
        let bs = subst (λ xs. BecomesBranches subs site.roles branches (tree.branches_of xs)) (sym b.1) b.2 in
        (tree.choice _ _ _ (tree.branches_of inner.list) ∷ [], sym (ap (λ x. x.list) same), λ rest tail mid r. offered bs r refl)
    adds_one (I.offered (Err x) none d e) w is = let no' = sym e ∙ is in cc
    adds_one (I.called sub none there d) w is =
        let b = adds_all d w is in
        (b.0, b.1, λ rest tail mid r. called sub there (b.2 mid) r)
    adds_one (I.lost none absent e) w is =
        let same = written_is (sym e ∙ is) in
        ([], sym (ap (λ x. x.list) same) ∙ sym (append-nil _), λ rest tail mid r. lost absent r)

    adds_all : {site : Site} {c : Calls} {before : Written} {after : Outcome} → InlinesAll subs site c before after → (w : Written) → after ≡ Ok w → Adds site.roles c before w
    adds_all (I.ended e) w is =
        let same = written_is (sym e ∙ is) in
        ([], sym (ap (λ x. x.list) same) ∙ sym (append-nil _), λ tail. ended refl)
    adds_all {site = site} {before = before} (I.next {first = first} {rest = rest} mid d ds) w is =
        let a = adds_one d mid refl in
        let b = adds_all ds w is in (
          a.0 ++ b.0,
          b.1 ∙ ap (λ xs. xs ++ b.0) a.1 ∙ append_assoc before.list a.0 b.0,
          λ tail. subst (λ xs. Becomes subs site.roles (more first rest) (statements_of tail) (statements_of xs)) (sym (append_assoc a.0 b.0 tail)) (a.2 rest (statements_of tail) (b.0 ++ tail) (b.2 tail)),
        )
    adds_all (I.stopped x d e) w is = let no' = sym e ∙ is in cc

    adds_branches : {site : Site} {bs : CallBranches} {before : WrittenBranches} {after : Result WrittenBranches Excess} → InlinesBranches subs site bs before after → (w : WrittenBranches) → after ≡ Ok w → AddsBranches site.roles bs before w
    adds_branches (I.no_more e) w is =
        let same = branches_are (sym e ∙ is) in
        ([], sym (ap (λ x. x.list) same) ∙ sym (append-nil _), no_more refl)
    adds_branches {site = site} {before = before} (I.another {at = at} inner d ds) w is =
        let a = whole before.count inner (adds_all d inner refl) in
        let b = adds_branches ds w is in
        let block : PlainBlock = record { place = at; list = statements_of inner.list } in
        (block ∷ b.0, b.1 ∙ append_assoc before.list (block ∷ []) b.0, another a b.2 refl)
    adds_branches (I.branch_stopped x d e) w is = let no' = sym e ∙ is in cc

pub becomes_of : (subs : List PlainSub) (site : Site) (c : Calls) (n : ℕ) (w : Written) → InlinesAll subs site c (I.block_behind n) (Ok w) → Becomes subs site.roles c tree.nothing (statements_of w.list)
becomes_of subs site c n w d = whole subs n w (adds_all subs d w refl)
