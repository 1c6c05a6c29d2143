-- What stands in the files in each phase.
use Rattle.std.proofs.Common.{◌≡◌, ◌≢◌, ◌⊎◌, ℕ, Bool, true, false, List, [], ◌∷◌, Option, None, Some, IsSome, refl}
use Rattle.pb_io.specs.Files.{File, file_of}
use Rattle.pb_renew_store.specs.Changes.{KeepsFile}
use Rattle.pb_renew_put.specs.Jobs.{Behind, Task}
use Rattle.pb_renew_put.specs.Names.{is_old_name, is_written, left_name, new_name, spare_name}
use Rattle.pb_renew_put.specs.Phases.{Kept, unkept, keeps, LeftIs, untouched, grown, sure, undone, Own, nothing, has, broken, Phase, before_of, is_copy, is_kept, is_left_done, start}
use Rattle.pb_renew_put.specs.Puts.{IsLeftOther}

-- ---- by what stands under a name, and what stood there at the start

abbrev pub OutHas : Bool → Task → Option (List ℕ) → Option (List ℕ) → Type 0
OutHas true t was is = is ≡ Some t.text
OutHas false t was is = is ≡ was

pub record Grown (b : Behind) (spare was is : Option (List ℕ)) : Type 0 where
  pub before : was ≡ b.before
  pub bodies : is ≡ Some b.bodies
  pub free : spare ≡ None

abbrev pub GrownIf : Option Behind → Option (List ℕ) → Option (List ℕ) → Option (List ℕ) → Type 0
GrownIf None spare was is = ⊥
GrownIf (Some b) spare was is = Grown b spare was is

abbrev pub LeftHas : LeftIs → Option Behind → Option (List ℕ) → Option (List ℕ) → Option (List ℕ) → Type 0
LeftHas untouched behind spare was is = is ≡ was
LeftHas grown behind spare was is = GrownIf behind spare was is
LeftHas sure behind spare was is = GrownIf behind spare was is
LeftHas undone behind spare was is = is ≡ was

abbrev pub OwnHas : Own → Option (List ℕ) → Option (List ℕ) → Type 0
OwnHas nothing was is = is ≡ was
OwnHas (has bytes on_disk) was is = (was ≡ None) × (is ≡ Some bytes)
OwnHas broken was is = was ≡ None

-- OUT.left.new, which may have been left behind
abbrev pub SpareHas : Own → Bool → Option (List ℕ) → Option (List ℕ) → Type 0
SpareHas nothing true was is = was ≡ None
SpareHas nothing false was is = is ≡ was
SpareHas (has bytes on_disk) strays was is = (was ≡ None) × (is ≡ Some bytes)
SpareHas broken strays was is = was ≡ None

abbrev pub BytesHas : Own → Option (List ℕ) → Type 0
BytesHas nothing is = Unit {0}
BytesHas (has bytes on_disk) is = is ≡ Some bytes
BytesHas broken is = Unit {0}

-- the copy of the old OUT
pub record Copy (t : Task) (name : List ℕ) (own : Own) (old new : List File) : Type 0 where
  pub old_name : is_old_name t.out name ≡ true
  pub keeps_old : t.keeps_old ≡ true
  pub file : name ≢ t.file
  pub free : file_of old name ≡ None
  pub bytes : BytesHas own (file_of new name)

abbrev pub CopyHas : Kept → Task → List File → List File → Type 0
CopyHas unkept t old new = Unit {0}
CopyHas (keeps name own) t old new = Copy t name own old new

abbrev pub AllThere : List (List ℕ) → List File → Type 0
AllThere [] old = Unit {0}
AllThere (name ∷ names) old = IsSome (file_of old name) × AllThere names old

-- a file isn't as it was told
abbrev pub IsOther : Task → List File → Type 0
IsOther t old = (file_of old t.file ≢ Some t.source) ⊎ (file_of old t.out ≢ t.old) ⊎ IsLeftOther t.behind t.out old

-- OUT has the text
pub record IsPut (t : Task) (fresh : Own) (left : LeftIs) (kept : Kept) (old : List File) : Type 0 where
  pub fresh_is : fresh ≡ nothing
  pub source : file_of old t.file ≡ Some t.source
  pub was : file_of old t.out ≡ t.old
  pub free : file_of old (new_name t.out) ≡ None
  pub done : is_left_done t.behind left ≡ true
  pub copied : is_kept t.keeps_old t.old kept ≡ true

-- what stands
pub record Has (t : Task) (put : Bool) (behind : LeftIs) (fresh spare : Own) (strays : Bool) (kept : Kept) (old new : List File) : Type 0 where
  pub out : OutHas put t (file_of old t.out) (file_of new t.out)
  pub left : LeftHas behind t.behind (file_of old (spare_name t.out)) (file_of old (left_name t.out)) (file_of new (left_name t.out))
  pub lock : OwnHas fresh (file_of old (new_name t.out)) (file_of new (new_name t.out))
  pub extra : SpareHas spare strays (file_of old (spare_name t.out)) (file_of new (spare_name t.out))
  pub copy : CopyHas kept t old new
  pub others : (other : List ℕ) → is_written t.out other ≡ false → is_copy kept other ≡ false → KeepsFile other old new

-- and what was seen
pub record At (t : Task) (old : List File) (p : Phase) (new : List File) : Type 0 where
  pub file : p.saw_file ≡ true → file_of old t.file ≡ Some t.source
  pub out : p.saw_out ≡ true → file_of old t.out ≡ t.old
  pub left : p.saw_left ≡ true → file_of old (left_name t.out) ≡ before_of t.behind
  pub other : p.differs ≡ true → IsOther t old
  pub there : AllThere p.taken old
  pub put : p.is_put ≡ true → IsPut t p.fresh p.left p.kept old
  pub stands : Has t p.is_put p.left p.fresh p.spare p.strays p.kept old new

pub at_start : (t : Task) (old : List File) → At t old start old
at_start t old = record {
  file = λ e. cc;
  out = λ e. cc;
  left = λ e. cc;
  other = λ e. absurd (not_true e);
  there = tt;
  put = λ e. absurd (not_true e);
  stands = record { out = refl; left = refl; lock = refl; extra = refl; copy = tt; others = λ other unwritten uncopied. refl };
} where
  not_true : false ≡ true → ⊥
  not_true e = cc
