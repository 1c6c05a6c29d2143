-- What a step of inlining returned, and what is written then.
use Rattle.std.specs.Prelude.{◌≡◌, ℕ, Option, Some, None, List, [], ◌∷◌, ◌++◌, map, Result, Ok, Err}
use Rattle.pb_text.specs.declared.place.Place.{Place}
use Rattle.pb_text.specs.declared.quantity.Quantity.{Quantity}
use Rattle.pb_syntax.specs.Tree.{PlainStatement}
use Rattle.pb_syntax.specs.Plain.{plain_statement, plain_block}
use Rattle.pb_do_syntax.specs.Calls.{PlainSub}
use Rattle.pb_do_syntax.specs.Names.{sub_at, params_of}
use Rattle.pb_do_syntax.specs.Inlining as I
use Rattle.pb_do_syntax.specs.Inlining.{Roles, Written, WrittenBranches, Excess, counted, with_statement}
use Rattle.pb_do_inline.specs.declared.halt.Halt.{Halt}
use Rattle.pb_do_inline.specs.declared.halt.Halt.TheVariants.{TooMany, NoMemory}
use Rattle.pb_do_inline.specs.declared.output.Output.{Output}
use Rattle.pb_do_inline.specs.declared.output.Offer.{Offer}
use Rattle.pb_do_inline.specs.declared.site.Site.{Site}
use Rattle.pb_do_inline.specs.declared.frame.Frame.{Frame}

abbrev pub written : Output → Written
written o = record { list = map plain_statement o.list.items; count = o.count.n }

abbrev pub offered : Offer → WrittenBranches
offered o = record { list = map plain_block o.list.items; count = o.count.n }

abbrev pub closed_with : Written → PlainStatement → ℕ → Written
closed_with before s count = record { list = before.list ++ s ∷ []; count = count }

abbrev pub roles_of : List PlainSub → Site → Roles
roles_of subs site = record { params = params_of (sub_at subs site.sub); names = site.names.items }

abbrev pub site_of : List PlainSub → Site → ℕ → I.Site
site_of subs site left = record { roles = roles_of subs site; left = left; root = site.root }

-- a limit that was passed at this place
abbrev pub Stops : Halt → Option Quantity → Place → Type 0
Stops (TooMany q p) limit place = (limit ≡ Some q) × (p ≡ place)
Stops NoMemory limit place = Unit {0}

abbrev pub Counts : Result (Unit {0}) Halt → Option Quantity → Place → Written → Written → Type 0
Counts (Ok u) limit place before after = (limit ≡ None) × (after ≡ counted before)
Counts (Err h) limit place before after = Stops h limit place

-- a statement was counted and written, or stopped
abbrev pub Adds : Result (Option Frame) Halt → Option Quantity → Place → PlainStatement → Written → Written → Type 0
Adds (Ok None) limit place s before after = (limit ≡ None) × (after ≡ with_statement (counted before) s)
Adds (Ok (Some frame)) limit place s before after = ⊥
Adds (Err h) limit place s before after = Stops h limit place

-- it stopped with an outcome like this, unless memory ran out
abbrev pub HaltsAs : {B : Type 0} → Halt → (Result B Excess → Type 0) → Type 0
HaltsAs (TooMany q p) P = P (Err (record { limit = q; place = p }))
HaltsAs NoMemory P = Unit {0}

abbrev pub Ends : {A B : Type 0} → Result A Halt → (A → B) → (Result B Excess → Type 0) → Type 0
Ends (Ok x) now P = P (Ok (now x))
Ends (Err h) now P = HaltsAs h P
