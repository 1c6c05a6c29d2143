-- What comes of a file whose calls are each replaced by the statements of their subprotocol, with arguments in place of
-- parameters. Calls and statements are counted on the way, in the order of the file that comes out, a call before its
-- statements.
use Rattle.std.specs.Prelude.{◌≡◌, ℕ, ◌+◌, Bool, true, false, ◌&&◌, nat_eq, nat_le, ◌-◌, if◌then◌else◌, Option, Some, None, List, [], ◌∷◌, ◌++◌, map, slice_index_or, Result, Ok, Err}
use Rattle.pb_text.specs.declared.place.Place.{Place}
use Rattle.pb_text.specs.declared.place.Spot.{Spot}
use Rattle.pb_text.specs.declared.quantity.Quantity.{Quantity}
use Rattle.pb_text.specs.declared.quantity.Quantity.TheVariants.{Nesting, Statements}
use Rattle.pb_text.specs.Tables.{position_of}
use Rattle.pb_syntax.specs.declared.tree.RangeText.{RangeText}
use Rattle.pb_syntax.specs.declared.tree.End.{End}
use Rattle.pb_syntax.specs.Tree as tree
use Rattle.pb_syntax.specs.Tree.{PlainStatement, PlainBlock, PlainFile, statements_of, branches_of}
use Rattle.pb_do_syntax.specs.Calls.{Call, plain, foreach, loop, choice, call, Calls, nothing, more, CallBranches, no_branch, branch, PlainSub, PlainCallFile}
use Rattle.pb_do_syntax.specs.Names.{Name, names, sub_named}

-- ---- roles

-- the roles that the parameters of a subprotocol stand for in a call, in their order
pub record Roles : Type 0 where
  pub params : List Name
  pub names : List Name

abbrev pub name_at : Option ℕ → List Name → Name → Name
name_at None roles x = x
name_at (Some i) roles x = slice_index_or roles i x

-- the role that a name stands for: itself, where it is no parameter
abbrev pub stands_for : Roles → Name → Name
stands_for r x = name_at (position_of x r.params) r.names x

abbrev pub renamed_spot : Roles → Spot → Spot
renamed_spot r s = record { name = stands_for r s.name; place = s.place }

abbrev pub renamed_end : Roles → End → End
renamed_end r e = record { role = renamed_spot r e.role; index = e.index }

-- a statement without braces
abbrev pub renamed : Roles → PlainStatement → PlainStatement
renamed r (tree.message label carries from to) = tree.message label carries (renamed_end r from) (renamed_end r to)
renamed r (tree.compute place kernel who) = tree.compute place kernel (renamed_end r who)
renamed r (tree.broadcast place label carries from) = tree.broadcast place label carries (renamed_end r from)
renamed r (tree.reduce place label carries by to) = tree.reduce place label carries by (renamed_end r to)
renamed r other = other

-- the roles that arguments stand for
abbrev pub passed_on : Roles → List Spot → List Name
passed_on r [] = []
passed_on r (a ∷ as_) = stands_for r a.name ∷ passed_on r as_

-- ---- limits

abbrev pub plain_place : PlainStatement → Place
plain_place (tree.message label carries from to) = label.place
plain_place (tree.foreach place var over at items) = place
plain_place (tree.loop place name at body) = place
plain_place (tree.again place name) = place
plain_place (tree.choice place kernel who branches) = place
plain_place (tree.compute place kernel who) = place
plain_place (tree.barrier place) = place
plain_place (tree.broadcast place label carries from) = place
plain_place (tree.reduce place label carries by to) = place
plain_place (tree.allreduce place label carries by) = place

abbrev pub place_of : Call → Place
place_of (plain statement) = plain_place statement
place_of (foreach place var over at items) = place
place_of (loop place name at body) = place
place_of (choice place kernel who branches) = place
place_of (call place sub args) = place

abbrev pub opens_brace : Call → Bool
opens_brace (plain statement) = false
opens_brace (foreach place var over at items) = true
opens_brace (loop place name at body) = true
opens_brace (choice place kernel who branches) = true
opens_brace (call place sub args) = false

-- Where statements stand: what names stand for, how many more braces may be opened, and the call of the protocol that
-- they come from.
pub record Site : Type 0 where
  pub roles : Roles
  pub left : ℕ
  pub root : Option Place

abbrev pub place_or : Option Place → Place → Place
place_or None p = p
place_or (Some root) p = root

-- the limit that one more passes: of braces, if it opens one and none may be opened, and of statements behind so many
abbrev pub over_limit : Bool → ℕ → ℕ → Option Quantity
over_limit opens left count = if opens && nat_eq left 0 then Some Nesting else (if nat_le 4000 count then Some Statements else None)

abbrev pub limit_passed : Site → ℕ → Call → Option Quantity
limit_passed site count s = over_limit (opens_brace s) site.left count

-- a limit that is passed, and the statement of the protocol that the excess is or comes from
pub record Excess : Type 0 where
  pub limit : Quantity
  pub place : Place

abbrev pub excess_at : Site → Call → Quantity → Excess
excess_at site s q = record { limit = q; place = place_or site.root (place_of s) }

-- ---- what is written

-- the statements of a block so far, and all that was counted so far
pub record Written : Type 0 where
  pub list : List PlainStatement
  pub count : ℕ

pub record WrittenBranches : Type 0 where
  pub list : List PlainBlock
  pub count : ℕ

abbrev pub Outcome : Type 0
Outcome = Result Written Excess

abbrev pub counted : Written → Written
counted w = record { list = w.list; count = w.count + 1 }

abbrev pub with_statement : Written → PlainStatement → Written
with_statement w s = record { list = w.list ++ s ∷ []; count = w.count }

-- a block that begins here
abbrev pub block_behind : ℕ → Written
block_behind count = record { list = []; count = count }

-- the statement around a block
abbrev pub closed : Written → (List PlainStatement → PlainStatement) → Outcome → Outcome
closed before around (Ok inner) = Ok (record { list = before.list ++ around inner.list ∷ []; count = inner.count })
closed before around (Err e) = Err e

abbrev pub chosen : Written → (List PlainBlock → PlainStatement) → Result WrittenBranches Excess → Outcome
chosen before around (Ok inner) = Ok (record { list = before.list ++ around inner.list ∷ []; count = inner.count })
chosen before around (Err e) = Err e

abbrev pub with_branch : WrittenBranches → Place → Written → WrittenBranches
with_branch before at inner = record { list = before.list ++ (record { place = at; list = statements_of inner.list }) ∷ []; count = inner.count }

-- ---- the rules

abbrev pub deeper : Site → Site
deeper site = record site { left = site.left - 1 }

-- the statements of a subprotocol that is called here
abbrev pub inside : Site → Place → PlainSub → List Spot → Site
inside site place sub args = record {
  roles = record { params = names sub.params; names = passed_on site.roles args };
  left = site.left;
  root = Some (place_or site.root place);
}

-- Behind what is written before, a statement, statements or branches give what is written then, or pass a limit.
mutual
  pub data Inlines (subs : List PlainSub) : Site → Call → Written → Outcome → Type 0 where
    too_many : {site : Site} {s : Call} {before : Written} {after : Outcome} (limit : Quantity) →
        limit_passed site before.count s ≡ Some limit → after ≡ Err (excess_at site s limit) → Inlines subs site s before after
    copied : {site : Site} {statement : PlainStatement} {before : Written} {after : Outcome} →
        limit_passed site before.count (plain statement) ≡ None →
        after ≡ Ok (with_statement (counted before) (renamed site.roles statement)) → Inlines subs site (plain statement) before after
    iterated : {site : Site} {place : Place} {var : Spot} {over : RangeText} {at : Place} {items : Calls} {before : Written} {after : Outcome} (inner : Outcome) →
        limit_passed site before.count (foreach place var over at items) ≡ None →
        InlinesAll subs (deeper site) items (block_behind (before.count + 1)) inner →
        after ≡ closed before (λ ss. tree.foreach place var over at (statements_of ss)) inner → Inlines subs site (foreach place var over at items) before after
    looped : {site : Site} {place : Place} {name : Spot} {at : Place} {body : Calls} {before : Written} {after : Outcome} (inner : Outcome) →
        limit_passed site before.count (loop place name at body) ≡ None →
        InlinesAll subs (deeper site) body (block_behind (before.count + 1)) inner →
        after ≡ closed before (λ ss. tree.loop place name at (statements_of ss)) inner → Inlines subs site (loop place name at body) before after
    offered : {site : Site} {place : Place} {kernel : Spot} {who : End} {branches : CallBranches} {before : Written} {after : Outcome} (inner : Result WrittenBranches Excess) →
        limit_passed site before.count (choice place kernel who branches) ≡ None →
        InlinesBranches subs (deeper site) branches (record { list = []; count = before.count + 1 }) inner →
        after ≡ chosen before (λ bs. tree.choice place kernel (renamed_end site.roles who) (branches_of bs)) inner → Inlines subs site (choice place kernel who branches) before after
    called : {site : Site} {place : Place} {f : Spot} {args : List Spot} {before : Written} {after : Outcome} (sub : PlainSub) →
        limit_passed site before.count (call place f args) ≡ None → sub_named subs f.name ≡ Some sub →
        InlinesAll subs (inside site place sub args) sub.body.list (counted before) after → Inlines subs site (call place f args) before after
    -- there is no such subprotocol, which is a fault of its own
    lost : {site : Site} {place : Place} {f : Spot} {args : List Spot} {before : Written} {after : Outcome} →
        limit_passed site before.count (call place f args) ≡ None → sub_named subs f.name ≡ None →
        after ≡ Ok (counted before) → Inlines subs site (call place f args) before after

  pub data InlinesAll (subs : List PlainSub) : Site → Calls → Written → Outcome → Type 0 where
    ended : {site : Site} {before : Written} {after : Outcome} → after ≡ Ok before → InlinesAll subs site nothing before after
    next : {site : Site} {first : Call} {rest : Calls} {before : Written} {after : Outcome} (mid : Written) →
        Inlines subs site first before (Ok mid) → InlinesAll subs site rest mid after → InlinesAll subs site (more first rest) before after
    stopped : {site : Site} {first : Call} {rest : Calls} {before : Written} {after : Outcome} (e : Excess) →
        Inlines subs site first before (Err e) → after ≡ Err e → InlinesAll subs site (more first rest) before after

  pub data InlinesBranches (subs : List PlainSub) : Site → CallBranches → WrittenBranches → Result WrittenBranches Excess → Type 0 where
    no_more : {site : Site} {before : WrittenBranches} {after : Result WrittenBranches Excess} → after ≡ Ok before → InlinesBranches subs site no_branch before after
    another : {site : Site} {at : Place} {first : Calls} {rest : CallBranches} {before : WrittenBranches} {after : Result WrittenBranches Excess} (inner : Written) →
        InlinesAll subs site first (block_behind before.count) (Ok inner) →
        InlinesBranches subs site rest (with_branch before at inner) after → InlinesBranches subs site (branch at first rest) before after
    branch_stopped : {site : Site} {at : Place} {first : Calls} {rest : CallBranches} {before : WrittenBranches} {after : Result WrittenBranches Excess} (e : Excess) →
        InlinesAll subs site first (block_behind before.count) (Err e) → after ≡ Err e → InlinesBranches subs site (branch at first rest) before after

-- ---- a file

-- the brace of the protocol is open, so 63 more may be
abbrev pub top_site : Site
top_site = record { roles = record { params = []; names = [] }; left = 63; root = None }

abbrev pub InlinesFile : PlainCallFile → Outcome → Type 0
InlinesFile f outcome = InlinesAll f.subs top_site f.body.list (block_behind 0) outcome

-- the file with these statements in place of the protocol's
abbrev pub file_with : PlainCallFile → List PlainStatement → PlainFile
file_with f list = record {
  constant = f.constant;
  low = f.low;
  low_place = f.low_place;
  high = f.high;
  high_place = f.high_place;
  protocol = f.protocol;
  roles = f.roles;
  body = record { place = f.body.place; list = statements_of list };
}

-- the tree in which each call is replaced
pub record IsInlined (f : PlainCallFile) (file : PlainFile) : Type 0 where
  pub written : Written
  pub inlines : InlinesFile f (Ok written)
  pub same : file ≡ file_with f written.list
