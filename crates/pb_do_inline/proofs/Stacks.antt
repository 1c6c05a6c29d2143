-- Calls that are under way, one statement and one call at a time.
use Rattle.std.proofs.Common.{◌≡◌, inl, inr, ℕ, ◌+◌, ◌<◌, ◌≤◌, zero, suc, Option, Some, None, List, [], ◌∷◌, ◌++◌, length, map, drop, slice_index_or, Result, Ok, Err, refl, sym, ap, ◌∙◌, subst, arith}
use Rattle.std.specs.List.{slice_get}
use Rattle.pb_do_syntax.specs.declared.tree.CallStatement.{CallStatement}
use Rattle.pb_do_syntax.specs.declared.tree.CallBlock.{CallBlock, out-CallBlock}
use Rattle.pb_do_syntax.specs.declared.tree.Sub.{Sub}
use Rattle.pb_do_syntax.specs.Calls as C
use Rattle.pb_do_syntax.specs.Calls.{Call, Calls, PlainSub, calls_of, CallBranches, branches_of}
use Rattle.pb_do_syntax.specs.Plain.{plain_sub, plain_statement, plain_block}
use Rattle.pb_do_syntax.specs.Inlining.{Site, Written, WrittenBranches, Excess, Outcome, Inlines, InlinesAll, ended, next, stopped, InlinesBranches, no_more}
use Rattle.pb_do_inline.specs.declared.halt.Halt.{Halt}
use Rattle.pb_do_inline.specs.declared.halt.Halt.TheVariants.{TooMany, NoMemory}
use Rattle.pb_do_inline.specs.declared.frame.Frame.{Frame}
use Rattle.pb_do_inline.specs.Ends.{HaltsAs, Ends, site_of}
use Rattle.pb_do_inline.specs.Frames.{list_of, FrameInlines, Runs, Advances, Steps}

-- ---- one statement of a list

more_left : (list : List CallStatement) (i : ℕ) (x : CallStatement) → i < length list → x ≡ slice_index_or list i x →
    calls_of (map plain_statement (drop i list)) ≡ C.more (plain_statement x) (calls_of (map plain_statement (drop (suc i) list)))
more_left [] i x h e = absurd (omega (arith, h))
more_left (y ∷ ys) zero x h e = ap (λ (z : CallStatement). C.more (plain_statement z) (calls_of (map plain_statement ys))) (sym e)
more_left (y ∷ ys) (suc i) x h e = more_left ys i x (omega (arith, h)) e

pub unrolled : (list : List CallStatement) (i : ℕ) (x : CallStatement) → i < length list → x ≡ slice_index_or list i x →
    calls_of (map plain_statement (drop i list)) ≡ C.more (plain_statement x) (calls_of (map plain_statement (drop (i + 1) list)))
unrolled list i x h e =
    let one : suc i ≡ i + 1 = omega arith in
    subst (λ (n : ℕ). calls_of (map plain_statement (drop i list)) ≡ C.more (plain_statement x) (calls_of (map plain_statement (drop n list)))) one (more_left list i x h e)

more_branches : (list : List CallBlock) (i : ℕ) (x : CallBlock) → i < length list → x ≡ slice_index_or list i x →
    branches_of (map plain_block (drop i list)) ≡ C.branch (plain_block x).place (plain_block x).list (branches_of (map plain_block (drop (suc i) list)))
more_branches [] i x h e = absurd (omega (arith, h))
more_branches (y ∷ ys) zero x h e = ap (λ (z : CallBlock). C.branch (plain_block z).place (plain_block z).list (branches_of (map plain_block ys))) (sym e)
more_branches (y ∷ ys) (suc i) x h e = more_branches ys i x (omega (arith, h)) e

pub branches_unrolled : (list : List CallBlock) (i : ℕ) (x : CallBlock) → i < length list → x ≡ slice_index_or list i x →
    branches_of (map plain_block (drop i list)) ≡ C.branch (plain_block x).place (plain_block x).list (branches_of (map plain_block (drop (i + 1) list)))
branches_unrolled list i x h e =
    let one : suc i ≡ i + 1 = omega arith in
    subst (λ (n : ℕ). branches_of (map plain_block (drop i list)) ≡ C.branch (plain_block x).place (plain_block x).list (branches_of (map plain_block (drop n list)))) one (more_branches list i x h e)

pub goes_on : (subs : List PlainSub) (site : Site) (list rest : Calls) (x : Call) (w now : Written) (P : Outcome → Type 0) →
    list ≡ C.more x rest → Inlines subs site x w (Ok now) → ((o : Outcome) → InlinesAll subs site list w o → P o) →
    (o : Outcome) → InlinesAll subs site rest now o → P o
goes_on subs site list rest x w now P e s so_far o h =
    so_far o (subst (λ (l : Calls). InlinesAll subs site l w o) (sym e) (next now s h))

pub halts : (subs : List PlainSub) (site : Site) (list rest : Calls) (x : Call) (w : Written) (h : Halt) (P : Outcome → Type 0) →
    list ≡ C.more x rest → HaltsAs h (Inlines subs site x w) → ((o : Outcome) → InlinesAll subs site list w o → P o) → HaltsAs h P
halts subs site list rest x w (TooMany q p) P e s so_far =
    so_far (Err (record { limit = q; place = p })) (subst (λ (l : Calls). InlinesAll subs site l w (Err (record { limit = q; place = p }))) (sym e) (stopped (record { limit = q; place = p }) s refl))
halts subs site list rest x w NoMemory P e s so_far = tt

-- ---- calls

abbrev written_or : Written → Outcome → Written
written_or d (Ok w) = w
written_or d (Err e) = d

abbrev IsWritten : Outcome → Type 0
IsWritten (Ok w) = Unit {0}
IsWritten (Err e) = ⊥

pub one_call : (subs : List Sub) (left : ℕ) (f : Frame) (w : Written) (o : Outcome) → Runs subs left (f ∷ []) w o → FrameInlines subs left f w o
one_call subs left f w o (inl h) = subst (λ (v : Written). FrameInlines subs left f v o) (ap (written_or w) h.1) h.2
one_call subs left f w o (inr h) = absurd (subst IsWritten (sym h.1) tt)

pub a_call : (subs : List Sub) (left : ℕ) (f : Frame) (w : Written) (o : Outcome) → FrameInlines subs left f w o → Runs subs left (f ∷ []) w o
a_call subs left f w o h = inl (w, refl, h)

-- the last of the calls goes on
replaced : (subs : List Sub) (left : ℕ) (below : List Frame) (f : Frame) (above : List Frame) (w now : Written) →
    ((o : Outcome) → Runs subs left above now o → Runs subs left (f ∷ []) w o) →
    (o : Outcome) → Runs subs left (below ++ above) now o → Runs subs left (below ++ f ∷ []) w o
replaced subs left [] f above w now k o h = k o h
replaced subs left (b ∷ below) f above w now k o (inl h) = inl (h.0, replaced subs left below f above w now k (Ok h.0) h.1, h.2)
replaced subs left (b ∷ below) f above w now k o (inr h) = inr (h.0, replaced subs left below f above w now k (Err h.0) h.1, h.2)

stopped_below : (subs : List Sub) (left : ℕ) (below : List Frame) (f : Frame) (w : Written) (e : Excess) → FrameInlines subs left f w (Err e) → Runs subs left (below ++ f ∷ []) w (Err e)
stopped_below subs left [] f w e h = a_call subs left f w (Err e) h
stopped_below subs left (b ∷ below) f w e h = inr (e, stopped_below subs left below f w e h, refl)

none_above : (below : List Frame) → below ++ [] ≡ below
none_above [] = refl
none_above (b ∷ below) = ap (λ (l : List Frame). b ∷ l) (none_above below)

both_above : (below : List Frame) (f g : Frame) → (below ++ f ∷ []) ++ g ∷ [] ≡ below ++ f ∷ g ∷ []
both_above [] f g = refl
both_above (b ∷ below) f g = ap (λ (l : List Frame). b ∷ l) (both_above below f g)

-- it came to the next call in it
pub calls_next : (subs : List Sub) (left : ℕ) (frames below one two : List Frame) (old new callee : Frame) (w now : Written) (P : Outcome → Type 0) →
    frames ≡ below ++ old ∷ [] → one ≡ below ++ new ∷ [] → two ≡ one ++ callee ∷ [] →
    Advances subs left (Ok (Some callee)) old new w now → ((o : Outcome) → Runs subs left frames w o → P o) →
    (o : Outcome) → Runs subs left two now o → P o
calls_next subs left frames below one two old new callee w now P e f g adv so_far o h =
    so_far o (subst (λ (l : List Frame). Runs subs left l w o) (sym e)
    (replaced subs left below old (new ∷ callee ∷ []) w now (λ (p : Outcome) (r : Runs subs left (new ∷ callee ∷ []) now p). a_call subs left old w p (adv p r)) o
    (subst (λ (l : List Frame). Runs subs left l now o) (g ∙ ap (λ (l : List Frame). l ++ callee ∷ []) f ∙ both_above below new callee) h)))

-- it came to its end
pub call_ends : (subs : List Sub) (left : ℕ) (frames below : List Frame) (old new : Frame) (w now : Written) (P : Outcome → Type 0) →
    frames ≡ below ++ old ∷ [] → Advances subs left (Ok None) old new w now → ((o : Outcome) → Runs subs left frames w o → P o) →
    (o : Outcome) → Runs subs left below now o → P o
call_ends subs left frames below old new w now P e adv so_far o h =
    so_far o (subst (λ (l : List Frame). Runs subs left l w o) (sym e)
    (replaced subs left below old [] w now (λ (p : Outcome) (r : Runs subs left [] now p). a_call subs left old w p (subst (λ (q : Outcome). FrameInlines subs left old w q) (sym r) adv)) o
    (subst (λ (l : List Frame). Runs subs left l now o) (sym (none_above below)) h)))

pub call_halts : (subs : List Sub) (left : ℕ) (frames below : List Frame) (old : Frame) (w : Written) (h : Halt) (P : Outcome → Type 0) →
    frames ≡ below ++ old ∷ [] → HaltsAs h (FrameInlines subs left old w) → ((o : Outcome) → Runs subs left frames w o → P o) → HaltsAs h P
call_halts subs left frames below old w (TooMany q p) P e adv so_far =
    so_far (Err (record { limit = q; place = p })) (subst (λ (l : List Frame). Runs subs left l w (Err (record { limit = q; place = p }))) (sym e) (stopped_below subs left below old w (record { limit = q; place = p }) adv))
call_halts subs left frames below old w NoMemory P e adv so_far = tt

pub all_ended : (subs : List Sub) (left : ℕ) (frames : List Frame) (w : Written) (P : Outcome → Type 0) → length frames ≡ 0 → ((o : Outcome) → Runs subs left frames w o → P o) → P (Ok w)
all_ended subs left [] w P e so_far = so_far (Ok w) refl
all_ended subs left (f ∷ frames) w P e so_far = absurd (omega (arith, e))

-- a call in the middle of a call
pub begins : (subs : List Sub) (left : ℕ) (site : Site) (list rest : Calls) (x : Call) (w now : Written) (new callee : Frame) (P : Outcome → Type 0) →
    list ≡ C.more x rest → Steps subs left (Ok (Some callee)) now (Inlines (map plain_sub subs) site x w) →
    ((o : Outcome) → InlinesAll (map plain_sub subs) site list w o → P o) →
    ((v : Written) (o : Outcome) → FrameInlines subs left new v o → InlinesAll (map plain_sub subs) site rest v o) →
    (o : Outcome) → Runs subs left (new ∷ callee ∷ []) now o → P o
begins subs left site list rest x w now new callee P e s so_far is o (inl h) =
    so_far o (subst (λ (l : Calls). InlinesAll (map plain_sub subs) site l w o) (sym e) (next h.0 (s (Ok h.0) (one_call subs left callee now (Ok h.0) h.1)) (is h.0 o h.2)))
begins subs left site list rest x w now new callee P e s so_far is o (inr h) =
    so_far o (subst (λ (l : Calls). InlinesAll (map plain_sub subs) site l w o) (sym e) (stopped h.0 (s (Err h.0) (one_call subs left callee now (Err h.0) h.1)) h.2))

-- what stops a part stops the whole
pub halts_in : (P Q : Outcome → Type 0) (h : Halt) → ((o : Outcome) → P o → Q o) → HaltsAs h P → HaltsAs h Q
halts_in P Q (TooMany q p) k x = k (Err (record { limit = q; place = p })) x
halts_in P Q NoMemory k x = tt

-- the statements of a call, from the one that is next in it
pub at_statement : (subs : List Sub) (left : ℕ) (f : Frame) (s : Sub) (w : Written) (o : Outcome) → slice_get subs f.body ≡ Some s →
    InlinesAll (map plain_sub subs) (site_of (map plain_sub subs) f.site left) (calls_of (map plain_statement (drop f.next (out-CallBlock s.body).list.items))) w o → FrameInlines subs left f w o
at_statement subs left f s w o e h =
    subst (λ (t : Option Sub). InlinesAll (map plain_sub subs) (site_of (map plain_sub subs) f.site left) (calls_of (map plain_statement (drop f.next (list_of t)))) w o) (sym e) h

pub from_frame : (subs : List Sub) (left : ℕ) (f : Frame) (s : Sub) (w : Written) (o : Outcome) → slice_get subs f.body ≡ Some s →
    FrameInlines subs left f w o → InlinesAll (map plain_sub subs) (site_of (map plain_sub subs) f.site left) (calls_of (map plain_statement (drop f.next (out-CallBlock s.body).list.items))) w o
from_frame subs left f s w o e h =
    subst (λ (t : Option Sub). InlinesAll (map plain_sub subs) (site_of (map plain_sub subs) f.site left) (calls_of (map plain_statement (drop f.next (list_of t)))) w o) e h

none_left : (list : List CallStatement) (i : ℕ) → length list ≤ i → calls_of (map plain_statement (drop i list)) ≡ C.nothing
none_left [] zero h = refl
none_left [] (suc i) h = refl
none_left (x ∷ xs) zero h = absurd (omega (arith, h))
none_left (x ∷ xs) (suc i) h = none_left xs i (omega (arith, h))

pub all_done : (subs : List PlainSub) (site : Site) (list : List CallStatement) (i : ℕ) (w : Written) (P : Outcome → Type 0) → length list ≤ i →
    ((o : Outcome) → InlinesAll subs site (calls_of (map plain_statement (drop i list))) w o → P o) → P (Ok w)
all_done subs site list i w P h so_far = so_far (Ok w) (subst (λ (l : Calls). InlinesAll subs site l w (Ok w)) (sym (none_left list i h)) (ended refl))

pub no_statement : (subs : List Sub) (left : ℕ) (f : Frame) (w : Written) → slice_get subs f.body ≡ None → FrameInlines subs left f w (Ok w)
no_statement subs left f w e =
    subst (λ (l : Calls). InlinesAll (map plain_sub subs) (site_of (map plain_sub subs) f.site left) l w (Ok w)) (sym (ap (λ (t : Option Sub). calls_of (map plain_statement (drop f.next (list_of t)))) e ∙ none_left [] f.next (omega arith))) (ended refl)

no_branch_left : (list : List CallBlock) (i : ℕ) → length list ≤ i → branches_of (map plain_block (drop i list)) ≡ C.no_branch
no_branch_left [] zero h = refl
no_branch_left [] (suc i) h = refl
no_branch_left (x ∷ xs) zero h = absurd (omega (arith, h))
no_branch_left (x ∷ xs) (suc i) h = no_branch_left xs i (omega (arith, h))

pub all_offered : (subs : List PlainSub) (site : Site) (list : List CallBlock) (i : ℕ) (w : WrittenBranches) (P : Result WrittenBranches Excess → Type 0) → length list ≤ i →
    ((o : Result WrittenBranches Excess) → InlinesBranches subs site (branches_of (map plain_block (drop i list))) w o → P o) → P (Ok w)
all_offered subs site list i w P h so_far = so_far (Ok w) (subst (λ (l : CallBranches). InlinesBranches subs site l w (Ok w)) (sym (no_branch_left list i h)) (no_more refl))

pub ends_in : (P Q : Outcome → Type 0) (r : Result (Unit {0}) Halt) (now : Written) → ((o : Outcome) → P o → Q o) → Ends r (λ (u : Unit {0}). now) P → Ends r (λ (u : Unit {0}). now) Q
ends_in P Q (Ok u) now k x = k (Ok now) x
ends_in P Q (Err h) now k x = halts_in P Q h k x
