-- What a call that puts texts may do next, by what it has done so far. OUT.new is its lock: who made it alone may touch OUT and
-- OUT.left, and renaming it to OUT gives the lock back.
use Rattle.std.specs.Prelude.{◌≡◌, ℕ, Bool, true, false, not, ◌&&◌, ◌||◌, List, [], ◌∷◌, ◌++◌, Option, None, Some, nat_eq, if◌then◌else◌}
use Rattle.std.specs.Cmp.Lexicographic.{pointwise}
use Rattle.pb_io.specs.Files.{File}
use Rattle.pb_renew_store.specs.Changes.{Turns}
use Rattle.pb_renew_store.specs.Deeds.{Deed, Does, made, met, wrote, spoiled, compared, synced, settled, renamed, removed, same_content}
use Rattle.pb_renew_put.specs.Jobs.{Behind, Task}
use Rattle.pb_renew_put.specs.Names.{is_old_name, left_name, new_name, spare_name}

-- a file that the call made and that has its first name still
pub data Own : Type 0 where
  nothing : Own
  has : (bytes : List ℕ) (on_disk : Bool) → Own
  broken : Own

-- the copy of the old OUT that the call made, under a name that no file had
pub data Kept : Type 0 where
  unkept : Kept
  keeps : (name : List ℕ) (own : Own) → Kept

-- OUT.left: not touched; with the bodies; with them, and its name is on the disk; as before again
pub data LeftIs : Type 0 where
  untouched : LeftIs
  grown : LeftIs
  sure : LeftIs
  undone : LeftIs

pub record Phase : Type 0 where
  pub fresh : Own
  pub spare : Own
  -- what was looked at since OUT.new was made, and was as the task says
  pub saw_file : Bool
  pub saw_out : Bool
  pub saw_left : Bool
  pub left : LeftIs
  pub is_put : Bool
  pub kept : Kept
  -- the names of files that stood where one was to be made
  pub taken : List (List ℕ)
  -- something was looked at since OUT.new was made, and wasn't as the task says
  pub differs : Bool
  -- OUT.left.new is the call's own, and stands there still when the lock is given back
  pub strays : Bool

abbrev pub start : Phase
start = record {
  fresh = nothing;
  spare = nothing;
  saw_file = false;
  saw_out = false;
  saw_left = false;
  left = untouched;
  is_put = false;
  kept = unkept;
  taken = [];
  differs = false;
  strays = false;
}

abbrev pub same_name : List ℕ → List ℕ → Bool
same_name a b = pointwise nat_eq a b

-- ---- one deed

abbrev pub is_own : Own → Bool
is_own nothing = false
is_own (has bytes on_disk) = true
is_own broken = true

abbrev pub with_fresh : Phase → Own → Phase
with_fresh p own = record p { fresh = own }

abbrev pub with_spare : Phase → Own → Phase
with_spare p own = record p { spare = own }

abbrev pub with_kept : Phase → Kept → Phase
with_kept p kept = record p { kept = kept }

-- the file is given up, and what was seen under its lock counts no more
abbrev pub unlocked : Phase → Phase
unlocked p = record {
  fresh = nothing;
  spare = nothing;
  saw_file = false;
  saw_out = false;
  saw_left = false;
  left = p.left;
  is_put = p.is_put;
  kept = p.kept;
  taken = p.taken;
  differs = p.differs;
  strays = p.strays || is_own p.spare;
}

abbrev pub is_untouched : LeftIs → Bool
is_untouched untouched = true
is_untouched grown = false
is_untouched sure = false
is_untouched undone = false

abbrev pub is_unkept : Kept → Bool
is_unkept unkept = true
is_unkept (keeps name own) = false

-- OUT.new is made before anything is put; OUT.left.new under its lock, and one copy of the old OUT, when FILE was seen
abbrev pub on_made : Task → Phase → List ℕ → Option Phase
on_made t p name =
    if same_name name (new_name t.out) then (if is_own p.fresh || p.is_put || not (is_untouched p.left) then None else Some (with_fresh p (has [] false)))
    else if same_name name (spare_name t.out) then (if is_own p.fresh && not (is_own p.spare) then Some (with_spare p (has [] false)) else None)
    else if is_old_name t.out name
    then (if t.keeps_old && is_own p.fresh && p.saw_file && is_unkept p.kept then Some (with_kept p (keeps name (has [] false))) else None)
    else None

abbrev pub is_copy : Kept → List ℕ → Bool
is_copy unkept name = false
is_copy (keeps other own) name = same_name name other

-- a file stood where one was to be made, and isn't the call's own
abbrev pub on_met : Task → Phase → List ℕ → Phase
on_met t p name =
    if same_name name (new_name t.out) then (if is_own p.fresh then p else record p { taken = name ∷ p.taken })
    else if same_name name (spare_name t.out) then (if is_own p.spare || p.strays then p else record p { taken = name ∷ p.taken })
    else if is_old_name t.out name then (if is_copy p.kept name then p else record p { taken = name ∷ p.taken })
    else p

abbrev pub more : List ℕ → Own → Option Own
more bytes nothing = None
more bytes (has before on_disk) = Some (has (before ++ bytes) false)
more bytes broken = Some broken

abbrev pub lost : Own → Option Own
lost nothing = None
lost (has before on_disk) = Some broken
lost broken = Some broken

abbrev pub on_disk : Own → Option Own
on_disk nothing = None
on_disk (has bytes before) = Some (has bytes true)
on_disk broken = Some broken

abbrev pub then_set : (Own → Phase) → Option Own → Option Phase
then_set set None = None
then_set set (Some own) = Some (set own)

-- something is done to the copy, under the lock
abbrev pub on_copy : Phase → Kept → List ℕ → (Own → Option Own) → Option Phase
on_copy p unkept name change = None
on_copy p (keeps other own) name change =
    if same_name name other && is_own p.fresh then then_set (λ new. with_kept p (keeps other new)) (change own) else None

-- something is done to a file of the call's own
abbrev pub on_own : Task → Phase → List ℕ → (Own → Option Own) → Option Phase
on_own t p name change =
    if same_name name (new_name t.out) then then_set (with_fresh p) (change p.fresh)
    else if same_name name (spare_name t.out) then then_set (with_spare p) (change p.spare)
    else if is_old_name t.out name then on_copy p p.kept name change
    else None

abbrev pub before_of : Option Behind → Option (List ℕ)
before_of None = None
before_of (Some b) = b.before

abbrev pub is_before : Option (List ℕ) → Option Behind → Bool
is_before bytes None = false
is_before bytes (Some b) = same_content bytes b.before

-- a file was as it was told, when OUT.new was there
abbrev pub on_seen : Task → Phase → List ℕ → Option (List ℕ) → Phase
on_seen t p name bytes =
    if same_name name t.file && same_content bytes (Some t.source) then record p { saw_file = true }
    else if same_name name t.out && same_content bytes t.old then record p { saw_out = true }
    else if same_name name (left_name t.out) && same_content bytes (before_of t.behind) then record p { saw_left = true }
    else p

-- a file wasn't as it was told
abbrev pub on_differs : Task → Phase → List ℕ → Option (List ℕ) → Phase
on_differs t p name bytes =
    if same_name name t.file && same_content bytes (Some t.source) then record p { differs = true }
    else if same_name name t.out && same_content bytes t.old then record p { differs = true }
    else if same_name name (left_name t.out) && is_untouched p.left && is_before bytes t.behind then record p { differs = true }
    else p

abbrev pub on_compared : Task → Phase → List ℕ → Option (List ℕ) → Bool → Option Phase
on_compared t p name bytes same = Some (if is_own p.fresh then (if same then on_seen t p name bytes else on_differs t p name bytes) else p)

abbrev pub on_settled : Phase → LeftIs → Phase
on_settled p untouched = p
on_settled p grown = record p { left = sure }
on_settled p sure = p
on_settled p undone = p

abbrev pub has_bytes : List ℕ → Own → Bool
has_bytes bytes nothing = false
has_bytes bytes (has other on_disk) = same_name other bytes && on_disk
has_bytes bytes broken = false

abbrev pub has_before : Option (List ℕ) → Own → Bool
has_before None own = false
has_before (Some bytes) own = has_bytes bytes own

-- OUT.left gets the bodies where all three files are as told; and what it had, where OUT couldn't be put then
abbrev pub on_left : Phase → Option Behind → LeftIs → Option Phase
on_left p None left = None
on_left p (Some b) untouched =
    if p.saw_file && p.saw_out && p.saw_left && has_bytes b.bodies p.spare then Some (record p { spare = nothing; left = grown }) else None
on_left p (Some b) grown = if has_before b.before p.spare then Some (record p { spare = nothing; left = undone }) else None
on_left p (Some b) sure = if has_before b.before p.spare then Some (record p { spare = nothing; left = undone }) else None
on_left p (Some b) undone = None

-- OUT.left is done with
abbrev pub is_left_done : Option Behind → LeftIs → Bool
is_left_done None untouched = true
is_left_done None other = false
is_left_done (Some b) sure = true
is_left_done (Some b) other = false

-- where the old OUT is to be kept, a copy of it is on the disk
abbrev pub is_kept : Bool → Option (List ℕ) → Kept → Bool
is_kept false old kept = true
is_kept true None kept = true
is_kept true (Some bytes) unkept = false
is_kept true (Some bytes) (keeps name own) = has_bytes bytes own

-- OUT has the text
abbrev pub with_out : Phase → Phase
with_out p = record {
  fresh = nothing;
  spare = p.spare;
  saw_file = false;
  saw_out = false;
  saw_left = false;
  left = p.left;
  is_put = true;
  kept = p.kept;
  taken = p.taken;
  differs = p.differs;
  strays = p.strays;
}

-- OUT gets the text where FILE and OUT are as told, OUT.left has its bodies, and the old OUT is kept
abbrev pub on_out : Task → Phase → Option Phase
on_out t p =
    if p.saw_file && p.saw_out && is_left_done t.behind p.left && has_bytes t.text p.fresh && not p.is_put && is_kept t.keeps_old t.old p.kept
    then Some (with_out p)
    else None

abbrev pub on_renamed : Task → Phase → List ℕ → List ℕ → Option Phase
on_renamed t p from to =
    if same_name from (spare_name t.out) && same_name to (left_name t.out) then (if is_own p.fresh then on_left p t.behind p.left else None)
    else if same_name from (new_name t.out) && same_name to t.out then on_out t p
    else None

-- OUT.left is taken away where it wasn't there before, and OUT couldn't be put
abbrev pub on_left_removed : Phase → Option Behind → LeftIs → Option Phase
on_left_removed p None left = None
on_left_removed p (Some b) untouched = None
on_left_removed p (Some b) undone = None
on_left_removed p (Some b) left = if is_own p.fresh && same_content b.before None then Some (record p { left = undone }) else None

-- and the copy, before OUT is put
abbrev pub on_copy_removed : Phase → Kept → List ℕ → Option Phase
on_copy_removed p unkept name = None
on_copy_removed p (keeps other own) name = if same_name name other && is_own p.fresh then Some (with_kept p unkept) else None

abbrev pub on_removed : Task → Phase → List ℕ → Option Phase
on_removed t p name =
    if same_name name (new_name t.out) then (if is_own p.fresh then Some (unlocked p) else None)
    else if same_name name (spare_name t.out) then (if is_own p.fresh && is_own p.spare then Some (with_spare p nothing) else None)
    else if same_name name (left_name t.out) then on_left_removed p t.behind p.left
    else if is_old_name t.out name then on_copy_removed p p.kept name
    else None

-- the phase behind a deed; none where the call doesn't do it
abbrev pub next : Task → Phase → Deed → Option Phase
next t p (made name) = on_made t p name
next t p (met name) = Some (on_met t p name)
next t p (wrote name bytes) = on_own t p name (more bytes)
next t p (spoiled name) = on_own t p name lost
next t p (compared name bytes same) = on_compared t p name bytes same
next t p (synced name) = on_own t p name on_disk
next t p (settled name) = Some (if same_name name (left_name t.out) then on_settled p p.left else p)
next t p (renamed from to) = on_renamed t p from to
next t p (removed name) = on_removed t p name

abbrev pub then_go : (Phase → Option Phase) → Option Phase → Option Phase
then_go go None = None
then_go go (Some p) = go p

-- and behind several, one after the other
abbrev pub walk : Task → List Deed → Phase → Option Phase
walk t [] p = Some p
walk t (deed ∷ deeds) p = then_go (walk t deeds) (next t p deed)

-- ---- all that a call did

abbrev pub DoesAll : List Deed → List File → List File → Type 0
DoesAll [] old new = new ≡ old
DoesAll (deed ∷ deeds) old new = (between : List File) × Does deed old between × DoesAll deeds between new

-- of a store that tells its deeds: these were done
abbrev pub TellsAll : Option (List Deed) → Option (List Deed) → List Deed → Type 0
TellsAll None after deeds = Unit {0}
TellsAll (Some before) after deeds = after ≡ Some (before ++ deeds)

-- a call in this phase did what it may, and is in a phase that ends so
pub record Leads (t : Task) (p : Phase) (before after : Option (List Deed)) (old new : Option (List File)) (End : Phase → Type 0) : Type 0 where
  pub deeds : List Deed
  pub told : TellsAll before after deeds
  pub files : Turns old new (DoesAll deeds)
  pub phase : Phase
  pub walks : walk t deeds p ≡ Some phase
  pub end : End phase
