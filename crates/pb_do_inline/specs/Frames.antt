-- Calls that are under way, and what is left to do of them.
use Rattle.std.specs.Prelude.{◌≡◌, ◌⊎◌, ℕ, ◌+◌, Option, Some, None, List, [], ◌∷◌, map, drop, slice_get, Result, Ok, Err}
use Rattle.pb_do_syntax.specs.declared.tree.CallBlock.{out-CallBlock}
use Rattle.pb_do_syntax.specs.declared.tree.CallStatement.{CallStatement}
use Rattle.pb_do_syntax.specs.declared.tree.Sub.{Sub}
use Rattle.pb_do_syntax.specs.Calls.{Calls, calls_of}
use Rattle.pb_do_syntax.specs.Plain.{plain_statement, plain_sub}
use Rattle.pb_do_syntax.specs.Inlining.{Written, Excess, Outcome, InlinesAll}
use Rattle.pb_do_inline.specs.declared.halt.Halt.{Halt}
use Rattle.pb_do_inline.specs.declared.frame.Frame.{Frame}
use Rattle.pb_do_inline.specs.Ends.{site_of, HaltsAs}

abbrev pub list_of : Option Sub → List CallStatement
list_of None = []
list_of (Some sub) = (out-CallBlock sub.body).list.items

abbrev pub rest_of : List Sub → Frame → Calls
rest_of subs f = calls_of (map plain_statement (drop f.next (list_of (slice_get subs f.body))))

-- what the rest of a call gives
abbrev pub FrameInlines : List Sub → ℕ → Frame → Written → Outcome → Type 0
FrameInlines subs left f before after = InlinesAll (map plain_sub subs) (site_of (map plain_sub subs) f.site left) (rest_of subs f) before after

-- one after the other, where the first doesn't stop
abbrev pub Then : (Outcome → Type 0) → (Written → Outcome → Type 0) → Outcome → Type 0
Then first second after = ((mid : Written) × first (Ok mid) × second mid after) ⊎ ((e : Excess) × first (Err e) × (after ≡ Err e))

-- what calls give of which each was begun by the one before it, so that the last ends first
abbrev pub Runs : List Sub → ℕ → List Frame → Written → Outcome → Type 0
Runs subs left [] before after = after ≡ Ok before
Runs subs left (f ∷ above) before after = Then (Runs subs left above before) (FrameInlines subs left f) after

-- a statement, which may begin a call
abbrev pub Steps : List Sub → ℕ → Result (Option Frame) Halt → Written → (Outcome → Type 0) → Type 0
Steps subs left (Ok None) now P = P (Ok now)
Steps subs left (Ok (Some frame)) now P = (after : Outcome) → FrameInlines subs left frame now after → P after
Steps subs left (Err h) now P = HaltsAs h P

-- a call goes on up to the next one in it
abbrev pub Advances : List Sub → ℕ → Result (Option Frame) Halt → Frame → Frame → Written → Written → Type 0
Advances subs left (Ok None) old new before now = FrameInlines subs left old before (Ok now)
Advances subs left (Ok (Some callee)) old new before now = (after : Outcome) → Runs subs left (new ∷ callee ∷ []) now after → FrameInlines subs left old before after
Advances subs left (Err h) old new before now = HaltsAs h (FrameInlines subs left old before)

-- the count, with one more where a call begins
abbrev pub grown_by : Option Frame → ℕ → ℕ
grown_by None n = n
grown_by (Some frame) n = n + 1
