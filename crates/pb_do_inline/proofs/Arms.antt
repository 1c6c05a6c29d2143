-- What a statement gives, by its parts.
use Rattle.std.proofs.Common.{◌≡◌, ℕ, false, Option, Some, None, List, [], Result, Ok, Err, refl, sym, ap, ◌∙◌, subst}
use Rattle.pb_text.specs.declared.place.Place.{Place}
use Rattle.pb_text.specs.declared.place.Spot.{Spot}
use Rattle.pb_text.specs.declared.quantity.Quantity.{Quantity}
use Rattle.pb_syntax.specs.declared.tree.RangeText.{RangeText}
use Rattle.pb_syntax.specs.declared.tree.End.{End}
use Rattle.pb_syntax.specs.Tree as tree
use Rattle.pb_syntax.specs.Tree.{PlainStatement, PlainBlock, statements_of, branches_of}
use Rattle.pb_do_syntax.specs.Calls as C
use Rattle.pb_do_syntax.specs.Calls.{Call, Calls, CallBranches, PlainSub}
use Rattle.pb_do_syntax.specs.Inlining.{Site, Written, WrittenBranches, Excess, Outcome, limit_passed, over_limit, place_of, plain_place, place_or, renamed, renamed_end, counted, with_branch, block_behind, deeper, Inlines, too_many, copied, iterated, looped, offered, InlinesAll, InlinesBranches, another, branch_stopped}
use Rattle.pb_do_inline.specs.declared.halt.Halt.{Halt}
use Rattle.pb_do_inline.specs.declared.halt.Halt.TheVariants.{TooMany, NoMemory}
use Rattle.pb_do_inline.specs.declared.frame.Frame.{Frame}
use Rattle.pb_do_syntax.specs.declared.tree.Sub.{Sub}
use Rattle.pb_do_inline.specs.Ends.{Stops, HaltsAs, Adds, closed_with}
use Rattle.pb_do_inline.specs.Frames.{Steps}

abbrev excess : Quantity → Place → Outcome
excess q p = Err (record { limit = q; place = p })

pub stops : (subs : List PlainSub) (site : Site) (s : Call) (before : Written) (h : Halt) →
    Stops h (limit_passed site before.count s) (place_or site.root (place_of s)) → HaltsAs h (Inlines subs site s before)
stops subs site s before (TooMany q p) e = too_many q e.0 (ap (λ (x : Place). excess q x) e.1)
stops subs site s before NoMemory e = tt

pub added : (list : List Sub) (left : ℕ) (r : Result (Option Frame) Halt) (subs : List PlainSub) (site : Site) (s : PlainStatement) (before after : Written) →
    Adds r (over_limit false site.left before.count) (place_or site.root (plain_place s)) (renamed site.roles s) before after →
    Steps list left r after (Inlines subs site (C.plain s) before)
added list left (Ok None) subs site s before after e = copied e.0 (ap Ok e.1)
added list left (Ok (Some frame)) subs site s before after e = absurd e
added list left (Err h) subs site s before after e = stops subs site (C.plain s) before h e

pub added_as : (list : List Sub) (left : ℕ) (r : Result (Option Frame) Halt) (subs : List PlainSub) (site : Site) (x : Call) (s : PlainStatement) (before after : Written) → x ≡ C.plain s →
    Adds r (over_limit false site.left before.count) (place_or site.root (plain_place s)) (renamed site.roles s) before after →
    Steps list left r after (Inlines subs site x before)
added_as list left r subs site x s before after e h =
    subst (λ (y : Call). Steps list left r after (Inlines subs site y before)) (sym e) (added list left r subs site s before after h)

-- ---- a foreach

pub foreach_halts : (subs : List PlainSub) (site : Site) (place : Place) (var : Spot) (over : RangeText) (at : Place) (items : Calls) (before now : Written) (h : Halt) →
    limit_passed site before.count (C.foreach place var over at items) ≡ None → now ≡ counted before →
    HaltsAs h (InlinesAll subs (deeper site) items (block_behind now.count)) → HaltsAs h (Inlines subs site (C.foreach place var over at items) before)
foreach_halts subs site place var over at items before now (TooMany q p) none e x =
    iterated (excess q p) none (subst (λ (w : Written). InlinesAll subs (deeper site) items (block_behind w.count) (excess q p)) e x) refl
foreach_halts subs site place var over at items before now NoMemory none e x = tt

pub foreach_gives : (subs : List PlainSub) (site : Site) (place : Place) (var : Spot) (over : RangeText) (at : Place) (items : Calls) (before now inner after : Written) →
    limit_passed site before.count (C.foreach place var over at items) ≡ None → now ≡ counted before →
    InlinesAll subs (deeper site) items (block_behind now.count) (Ok inner) →
    after ≡ closed_with now (tree.foreach place var over at (statements_of inner.list)) inner.count → Inlines subs site (C.foreach place var over at items) before (Ok after)
foreach_gives subs site place var over at items before now inner after none e x f =
    iterated (Ok inner) none (subst (λ (w : Written). InlinesAll subs (deeper site) items (block_behind w.count) (Ok inner)) e x)
    (ap Ok (f ∙ ap (λ (w : Written). closed_with w (tree.foreach place var over at (statements_of inner.list)) inner.count) e))

-- ---- a loop

pub loop_halts : (subs : List PlainSub) (site : Site) (place : Place) (name : Spot) (at : Place) (body : Calls) (before now : Written) (h : Halt) →
    limit_passed site before.count (C.loop place name at body) ≡ None → now ≡ counted before →
    HaltsAs h (InlinesAll subs (deeper site) body (block_behind now.count)) → HaltsAs h (Inlines subs site (C.loop place name at body) before)
loop_halts subs site place name at body before now (TooMany q p) none e x =
    looped (excess q p) none (subst (λ (w : Written). InlinesAll subs (deeper site) body (block_behind w.count) (excess q p)) e x) refl
loop_halts subs site place name at body before now NoMemory none e x = tt

pub loop_gives : (subs : List PlainSub) (site : Site) (place : Place) (name : Spot) (at : Place) (body : Calls) (before now inner after : Written) →
    limit_passed site before.count (C.loop place name at body) ≡ None → now ≡ counted before →
    InlinesAll subs (deeper site) body (block_behind now.count) (Ok inner) →
    after ≡ closed_with now (tree.loop place name at (statements_of inner.list)) inner.count → Inlines subs site (C.loop place name at body) before (Ok after)
loop_gives subs site place name at body before now inner after none e x f =
    looped (Ok inner) none (subst (λ (w : Written). InlinesAll subs (deeper site) body (block_behind w.count) (Ok inner)) e x)
    (ap Ok (f ∙ ap (λ (w : Written). closed_with w (tree.loop place name at (statements_of inner.list)) inner.count) e))

-- ---- a choice

abbrev no_branches : ℕ → WrittenBranches
no_branches count = record { list = []; count = count }

pub choice_halts : (subs : List PlainSub) (site : Site) (place : Place) (kernel : Spot) (who : End) (branches : CallBranches) (before now : Written) (h : Halt) →
    limit_passed site before.count (C.choice place kernel who branches) ≡ None → now ≡ counted before →
    HaltsAs h (InlinesBranches subs (deeper site) branches (record { list = []; count = now.count })) → HaltsAs h (Inlines subs site (C.choice place kernel who branches) before)
choice_halts subs site place kernel who branches before now (TooMany q p) none e x =
    offered (Err (record { limit = q; place = p })) none
    (subst (λ (w : Written). InlinesBranches subs (deeper site) branches (no_branches w.count) (Err (record { limit = q; place = p }))) e x) refl
choice_halts subs site place kernel who branches before now NoMemory none e x = tt

pub choice_gives : (subs : List PlainSub) (site : Site) (place : Place) (kernel : Spot) (who : End) (branches : CallBranches) (before now : Written) (inner : WrittenBranches) (after : Written) →
    limit_passed site before.count (C.choice place kernel who branches) ≡ None → now ≡ counted before →
    InlinesBranches subs (deeper site) branches (record { list = []; count = now.count }) (Ok inner) →
    after ≡ closed_with now (tree.choice place kernel (renamed_end site.roles who) (branches_of inner.list)) inner.count → Inlines subs site (C.choice place kernel who branches) before (Ok after)
choice_gives subs site place kernel who branches before now inner after none e x f =
    offered (Ok inner) none (subst (λ (w : Written). InlinesBranches subs (deeper site) branches (no_branches w.count) (Ok inner)) e x)
    (ap Ok (f ∙ ap (λ (w : Written). closed_with w (tree.choice place kernel (renamed_end site.roles who) (branches_of inner.list)) inner.count) e))

-- ---- the branches of a choice, from one on

pub branch_halts : (subs : List PlainSub) (site : Site) (branches rest : CallBranches) (at : Place) (first : Calls) (before : WrittenBranches) (h : Halt) (P : Result WrittenBranches Excess → Type 0) →
    branches ≡ C.branch at first rest → HaltsAs h (InlinesAll subs site first (block_behind before.count)) →
    ((o : Result WrittenBranches Excess) → InlinesBranches subs site branches before o → P o) → HaltsAs h P
branch_halts subs site branches rest at first before (TooMany q p) P e x so_far =
    so_far (Err (record { limit = q; place = p })) (subst (λ (b : CallBranches). InlinesBranches subs site b before (Err (record { limit = q; place = p }))) (sym e) (branch_stopped (record { limit = q; place = p }) x refl))
branch_halts subs site branches rest at first before NoMemory P e x so_far = tt

pub branch_goes_on : (subs : List PlainSub) (site : Site) (branches rest : CallBranches) (at : Place) (first : Calls) (before now : WrittenBranches) (inner : Written) (P : Result WrittenBranches Excess → Type 0) →
    branches ≡ C.branch at first rest → InlinesAll subs site first (block_behind before.count) (Ok inner) → now ≡ with_branch before at inner →
    ((o : Result WrittenBranches Excess) → InlinesBranches subs site branches before o → P o) →
    (o : Result WrittenBranches Excess) → InlinesBranches subs site rest now o → P o
branch_goes_on subs site branches rest at first before now inner P e x f so_far o y =
    so_far o (subst (λ (b : CallBranches). InlinesBranches subs site b before o) (sym e)
    (another inner x (subst (λ (w : WrittenBranches). InlinesBranches subs site rest w o) f y)))
