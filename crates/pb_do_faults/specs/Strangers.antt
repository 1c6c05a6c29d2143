-- Names in calls and ends that stand for nothing there.
use Rattle.std.specs.Prelude.{if◌then◌else◌, List, [], ◌∷◌, ◌++◌}
use Rattle.pb_text.specs.declared.place.Place.{Place}
use Rattle.pb_text.specs.declared.place.Spot.{Spot}
use Rattle.pb_syntax.specs.Tree as tree
use Rattle.pb_syntax.specs.Tree.{PlainStatement}
use Rattle.pb_do_syntax.specs.Calls.{Call, plain, foreach, loop, choice, call, Calls, nothing, more, CallBranches, no_branch, branch, PlainSub, PlainCallFile}
use Rattle.pb_do_syntax.specs.Names.{Name, is_named, names, role_names}

abbrev pub unless_named : Name → List Name → Place → List Place
unless_named x known place = if is_named x known then [] else place ∷ []

abbrev pub unless_known : List Name → Spot → List Place
unless_known known s = unless_named s.name known s.place

abbrev pub all_unless_known : List Name → List Spot → List Place
all_unless_known known [] = []
all_unless_known known (s ∷ ss) = unless_known known s ++ all_unless_known known ss

-- ---- in a subprotocol: the roles of ends and the arguments that are no parameters, and each `continue` without a `rec` of
-- its name around it

abbrev pub plain_strangers : List Name → List Name → PlainStatement → List Place
plain_strangers params loops (tree.message label carries from to) = unless_known params from.role ++ unless_known params to.role
plain_strangers params loops (tree.again place name) = unless_known loops name
plain_strangers params loops (tree.compute place kernel who) = unless_known params who.role
plain_strangers params loops (tree.broadcast place label carries from) = unless_known params from.role
plain_strangers params loops (tree.reduce place label carries by to) = unless_known params to.role
plain_strangers params loops (tree.foreach place var over at items) = []
plain_strangers params loops (tree.loop place name at body) = []
plain_strangers params loops (tree.choice place kernel who branches) = []
plain_strangers params loops (tree.barrier place) = []
plain_strangers params loops (tree.allreduce place label carries by) = []

abbrev mutual
  pub strangers_at : List Name → List Name → Call → List Place
  strangers_at params loops (plain statement) = plain_strangers params loops statement
  strangers_at params loops (foreach place var over at items) = strangers_in params loops items
  strangers_at params loops (loop place name at body) = strangers_in params (name.name ∷ loops) body
  strangers_at params loops (choice place kernel who branches) = unless_known params who.role ++ strangers_among params loops branches
  strangers_at params loops (call place sub args) = all_unless_known params args

  pub strangers_in : List Name → List Name → Calls → List Place
  strangers_in params loops nothing = []
  strangers_in params loops (more s rest) = strangers_at params loops s ++ strangers_in params loops rest

  pub strangers_among : List Name → List Name → CallBranches → List Place
  strangers_among params loops no_branch = []
  strangers_among params loops (branch at b bs) = strangers_in params loops b ++ strangers_among params loops bs

-- ---- in the protocol: the arguments that are no roles

abbrev mutual
  pub outsiders_at : List Name → Call → List Place
  outsiders_at roles (plain statement) = []
  outsiders_at roles (foreach place var over at items) = outsiders_in roles items
  outsiders_at roles (loop place name at body) = outsiders_in roles body
  outsiders_at roles (choice place kernel who branches) = outsiders_among roles branches
  outsiders_at roles (call place sub args) = all_unless_known roles args

  pub outsiders_in : List Name → Calls → List Place
  outsiders_in roles nothing = []
  outsiders_in roles (more s rest) = outsiders_at roles s ++ outsiders_in roles rest

  pub outsiders_among : List Name → CallBranches → List Place
  outsiders_among roles no_branch = []
  outsiders_among roles (branch at b bs) = outsiders_in roles b ++ outsiders_among roles bs

-- ---- in a file

abbrev pub subs_strangers : List PlainSub → List Place
subs_strangers [] = []
subs_strangers (s ∷ ss) = strangers_in (names s.params) [] s.body.list ++ subs_strangers ss

abbrev pub strangers : PlainCallFile → List Place
strangers f = subs_strangers f.subs ++ outsiders_in (role_names f.roles) f.body.list
