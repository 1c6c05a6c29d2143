-- What of a file with calls can end: a call if the body of its subprotocol can.
--
-- In a file with
--     protocol Twice(role A, role B) { Q() from A to B[0]; do Never(A); }
--     protocol Never(role A) { rec X { compute K at A; continue X; } }
-- no call of Never can end, and so none of Twice.
use Rattle.std.specs.Prelude.{ℕ, zero, suc, cond, nat_lt, Bool, true, false, ◌||◌, ◌&&◌, Option, Some, None, List, length}
use Rattle.pb_core_language.specs.FileRules as file_rules
use Rattle.pb_do_syntax.specs.Calls.{Call, plain, foreach, loop, choice, call, Calls, nothing, more, CallBranches, no_branch, branch, PlainSub}
use Rattle.pb_do_syntax.specs.Names.{Name, sub_named}

-- where this says of which subprotocols a call can end
module _ (called : Name → Bool) where
  abbrev mutual
    pub can_end : Call → Bool
    can_end (plain statement) = file_rules.can_end statement
    can_end (foreach place var range at items) = true
    can_end (loop place name at body) = all_can_end body
    can_end (choice place kernel who branches) = some_can_end branches
    can_end (call place sub args) = called sub.name

    pub all_can_end : Calls → Bool
    all_can_end nothing = true
    all_can_end (more s rest) = can_end s && all_can_end rest

    pub some_can_end : CallBranches → Bool
    some_can_end no_branch = false
    some_can_end (branch at first rest) = all_can_end first || some_can_end rest

  -- a call does nothing where there is no such subprotocol, which is a fault of the file
  abbrev pub body_can_end : Option PlainSub → Bool
  body_can_end None = true
  body_can_end (Some sub) = all_can_end sub.body.list

  -- the first branch that can end, or as many as there are
  abbrev pub ending : CallBranches → ℕ
  ending no_branch = 0
  ending (branch at first rest) = cond (all_can_end first) 0 (suc (ending rest))

abbrev pub count : CallBranches → ℕ
count no_branch = 0
count (branch at first rest) = suc (count rest)

-- the first branch that can end, or branch 0 where none can
abbrev pub first_ending : (Name → Bool) → CallBranches → ℕ
first_ending called branches = cond (nat_lt (ending called branches) (count branches)) (ending called branches) 0

-- a call of this subprotocol can end, by less than so many calls in one another
abbrev pub ends_within : List PlainSub → ℕ → Name → Bool
ends_within subs zero f = false
ends_within subs (suc k) f = body_can_end (ends_within subs k) (sub_named subs f)

-- a call can end; where it can, then by calls in which no subprotocol stands in itself
abbrev pub call_can_end : List PlainSub → Name → Bool
call_can_end subs = ends_within subs (suc (length subs))
