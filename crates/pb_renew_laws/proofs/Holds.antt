-- What holds of the files while a call is in some phase, and what its deeds change of them.
use Rattle.std.proofs.Common.{◌≡◌, ◌⊎◌, inl, inr, ℕ, Bool, true, false, List, Option, None, Some, IsSome, sym, subst, ap, ◌∙◌}
use Rattle.pb_ctree.specs.declared.kernel.KName.{KName}
use Rattle.pb_io.specs.Files.{File, content_of, file_of}
use Rattle.pb_renew_merge.specs.Lost.{Keeps}
use Rattle.pb_renew_store.specs.Changes.{KeepsFile}
use Rattle.pb_renew_put.specs.Jobs.{Behind, Task}
use Rattle.pb_renew_put.specs.Names.{left_name, new_name, spare_name}
use Rattle.pb_renew_put.specs.Phases.{LeftIs, untouched, grown, sure, undone, Own, nothing, has, broken, Phase, before_of, is_own, start}
use Rattle.pb_renew_laws.specs.Bodies.{Sound, Stands, content}
use Rattle.pb_renew_laws.proofs.Tests.{false_true}

-- ---- while a call is in some phase

abbrev pub OwnHas : Own → Option (List ℕ) → Type 0
OwnHas nothing is = Unit {0}
OwnHas (has bytes on_disk) is = is ≡ Some bytes
OwnHas broken is = IsSome is

-- OUT.left has the bodies, and OUT was seen
abbrev pub GrownIf : Option Behind → Bool → Option (List ℕ) → Type 0
GrownIf None saw_out is = ⊥
GrownIf (Some b) saw_out is = (saw_out ≡ true) × (is ≡ Some b.bodies)

abbrev pub LeftHas : LeftIs → Option Behind → Bool → Bool → Option (List ℕ) → Type 0
LeftHas untouched behind saw_out saw_left is = saw_left ≡ true → is ≡ before_of behind
LeftHas grown behind saw_out saw_left is = GrownIf behind saw_out is
LeftHas sure behind saw_out saw_left is = GrownIf behind saw_out is
LeftHas undone behind saw_out saw_left is = Unit {0}

pub record Holds (t : Task) (fresh spare : Own) (saw_out saw_left : Bool) (left : LeftIs) (files : List File) : Type 0 where
  pub lock : OwnHas fresh (file_of files (new_name t.out))
  pub extra : OwnHas spare (file_of files (spare_name t.out))
  pub out_locked : saw_out ≡ true → is_own fresh ≡ true
  pub left_locked : saw_left ≡ true → is_own fresh ≡ true
  pub seen : saw_out ≡ true → file_of files t.out ≡ t.old
  pub stood : is_own fresh ≡ true → LeftHas left t.behind saw_out saw_left (file_of files (left_name t.out))

abbrev pub At : Task → Phase → List File → Type 0
At t p files = Holds t p.fresh p.spare p.saw_out p.saw_left p.left files

pub at_start : (t : Task) (files : List File) → At t start files
at_start t files = record {
  lock = tt;
  extra = tt;
  out_locked = λ e. false_true e;
  left_locked = λ e. false_true e;
  seen = λ e. false_true e;
  stood = λ e. false_true e;
}

-- a file that is a call's own is there
pub own_there : (own : Own) (is : Option (List ℕ)) → is_own own ≡ true → OwnHas own is → IsSome is
own_there nothing is own has_it = false_true own
own_there (has bytes disk) is own has_it = ap (λ (o : Option (List ℕ)). Rattle.std.specs.Option.is_some o) has_it
own_there broken is own has_it = has_it

-- ---- what a deed changes

-- a call that doesn't own OUT.new or OUT.left.new leaves one that is there; without OUT.new it touches neither OUT nor OUT.left
pub record Changes (out : List ℕ) (fresh spare fresh_then spare_then : Own) (old new : List File) : Type 0 where
  pub text : is_own fresh ≡ false → KeepsFile out old new
  pub left : is_own fresh ≡ false → KeepsFile (left_name out) old new
  pub lock : is_own fresh ≡ false → IsSome (file_of old (new_name out)) → KeepsFile (new_name out) old new
  pub extra : is_own spare ≡ false → IsSome (file_of old (spare_name out)) → KeepsFile (spare_name out) old new
  pub takes_lock : is_own fresh_then ≡ true → (is_own fresh ≡ true) ⊎ (file_of old (new_name out) ≡ None)
  pub takes_extra : is_own spare_then ≡ true → (is_own spare ≡ true) ⊎ (file_of old (spare_name out) ≡ None)

abbrev pub Kept : List ℕ → List File → List File → Type 0
Kept out old new = (name : KName) (body : List ℕ) → Stands name body out old → Stands name body out new

-- a deed goes from one phase to another
pub record Goes (t : Task) (fresh spare : Own) (old new : List File) (fresh_then spare_then : Own) (saw_out saw_left : Bool) (left : LeftIs) : Type 0 where
  pub changes : Changes t.out fresh spare fresh_then spare_then old new
  pub holds : Holds t fresh_then spare_then saw_out saw_left left new
  pub kept : Sound t → Kept t.out old new

abbrev pub Steps : Task → Phase → List File → List File → Phase → Type 0
Steps t p old new q = Goes t p.fresh p.spare old new q.fresh q.spare q.saw_out q.saw_left q.left

-- ---- where files stay

pub own_stays : (own : Own) (name : List ℕ) (f g : List File) → KeepsFile name f g → OwnHas own (file_of f name) → OwnHas own (file_of g name)
own_stays own name f g stay held = subst (λ v. OwnHas own v) (sym stay) held

pub left_stays : (left : LeftIs) (behind : Option Behind) (saw_out saw_left : Bool) (name : List ℕ) (f g : List File) → KeepsFile name f g → LeftHas left behind saw_out saw_left (file_of f name) → LeftHas left behind saw_out saw_left (file_of g name)
left_stays left behind saw_out saw_left name f g stay held = subst (λ v. LeftHas left behind saw_out saw_left v) (sym stay) held

pub body_stays : (name : KName) (body : List ℕ) (file : List ℕ) (f g : List File) → KeepsFile file f g → Keeps name body (content_of f file) → Keeps name body (content_of g file)
body_stays name body file f g stay held = subst (λ v. Keeps name body (content v)) (sym stay) held

pub bodies_stay : (out : List ℕ) (f g : List File) → KeepsFile out f g → KeepsFile (left_name out) f g → Kept out f g
bodies_stay out f g text left name body (inl held) = inl (body_stays name body out f g text held)
bodies_stay out f g text left name body (inr held) = inr (body_stays name body (left_name out) f g left held)

-- each of the four files stays
pub record Still (out : List ℕ) (old new : List File) : Type 0 where
  pub text : KeepsFile out old new
  pub left : KeepsFile (left_name out) old new
  pub lock : KeepsFile (new_name out) old new
  pub extra : KeepsFile (spare_name out) old new

pub still_holds : (t : Task) (p : Phase) (old new : List File) → Still t.out old new → At t p old → At t p new
still_holds t p old new still at = record {
  lock = own_stays p.fresh (new_name t.out) old new still.lock at.lock;
  extra = own_stays p.spare (spare_name t.out) old new still.extra at.extra;
  out_locked = at.out_locked;
  left_locked = at.left_locked;
  seen = λ e. still.text ∙ at.seen e;
  stood = λ e. left_stays p.left t.behind p.saw_out p.saw_left (left_name t.out) old new still.left (at.stood e);
}

-- then only what was seen may change
pub still_goes : (t : Task) (p : Phase) (old new : List File) (saw_out saw_left : Bool) (left : LeftIs) → Still t.out old new
    → Holds t p.fresh p.spare saw_out saw_left left new → Goes t p.fresh p.spare old new p.fresh p.spare saw_out saw_left left
still_goes t p old new saw_out saw_left left still holds = record {
  changes = record {
    text = λ e. still.text;
    left = λ e. still.left;
    lock = λ e there. still.lock;
    extra = λ e there. still.extra;
    takes_lock = λ e. inl e;
    takes_extra = λ e. inl e;
  };
  holds = holds;
  kept = λ sound. bodies_stay t.out old new still.text still.left;
}
