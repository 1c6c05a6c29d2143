-- The calls of a file, in the order of the file.
use Rattle.std.specs.Prelude.{List, [], ◌∷◌, ◌++◌, length}
use Rattle.pb_text.specs.declared.place.Spot.{Spot}
use Rattle.pb_text.specs.Tables.{position_of}
use Rattle.pb_do_syntax.specs.Calls.{Call, plain, foreach, loop, choice, call, Calls, nothing, more, CallBranches, no_branch, branch, PlainSub, PlainCallFile}
use Rattle.pb_do_syntax.specs.Names.{Name, sub_names}
use Rattle.pb_do_faults.specs.declared.call_site.CallSite.{CallSite}

-- A call names the first subprotocol with this name, if there is one.
abbrev pub call_site : List Name → Spot → List Spot → CallSite
call_site subs sub args = record { callee = position_of sub.name subs; args = length args; place = sub.place }

abbrev mutual
  pub calls_at : List Name → Call → List CallSite
  calls_at subs (plain statement) = []
  calls_at subs (foreach place var over at items) = calls_in subs items
  calls_at subs (loop place name at body) = calls_in subs body
  calls_at subs (choice place kernel who branches) = calls_among subs branches
  calls_at subs (call place sub args) = call_site subs sub args ∷ []

  pub calls_in : List Name → Calls → List CallSite
  calls_in subs nothing = []
  calls_in subs (more s rest) = calls_at subs s ++ calls_in subs rest

  pub calls_among : List Name → CallBranches → List CallSite
  calls_among subs no_branch = []
  calls_among subs (branch at b bs) = calls_in subs b ++ calls_among subs bs

abbrev pub bodies_of : List Name → List PlainSub → List (List CallSite)
bodies_of subs [] = []
bodies_of subs (s ∷ ss) = calls_in subs s.body.list ∷ bodies_of subs ss

-- The calls of each subprotocol, and last those of the protocol. So the number of a subprotocol is that of its calls, and
-- what stands last is called by nobody.
abbrev pub bodies : PlainCallFile → List (List CallSite)
bodies f = bodies_of (sub_names f.subs) f.subs ++ (calls_in (sub_names f.subs) f.body.list ∷ [])
