-- What is put is what renewing is to leave.
use Rattle.std.proofs.Common.{◌≡◌, ℕ, ◌⊎◌, inl, inr, Bool, true, false, List, [], ◌∷◌, Option, None, Some, IsSome, refl, sym, ap, subst, ◌∙◌, Ok, Err, Result, true≢false}
use Rattle.pb_io.specs.Files.{File, content_of, file_of}
use Rattle.pb_renew_text.specs.declared.wanted.Wanted.{Wanted}
use Rattle.pb_ctree.specs.declared.kernel.KName.{KName}
use Rattle.pb_kernels.specs.declared.fault.KernelFault.{KernelFault}
use Rattle.pb_kernels.specs.declared.file.NamedBody.{NamedBody}
use Rattle.pb_kernels.specs.Files.{program_file, lines, read_from}
use Rattle.pb_kernels.specs.Names.{body_of, is_among}
use Rattle.pb_renew.specs.Plans.{Fits, LeavesAs, SparesLines, bytes_of, left_bytes}
use Rattle.pb_renew.specs.Renewing.{Grows, GrowsBy, KeepsLines, Renews}
use Rattle.pb_renew_laws.specs.Bodies.{SavesIn, StandsIn}
use Rattle.pb_renew_merge.specs.declared.renewed.Renewed.{Renewed}
use Rattle.pb_renew_merge.specs.Lost.{Keeps, NothingLost}
use Rattle.pb_renew_merge.specs.Renewed.{IsLeft, IsRenewal}
use Rattle.pb_renew_put.specs.Jobs.{Behind, Task}
use Rattle.pb_renew_put.specs.Names.{left_name}
use Rattle.pb_renew_put.specs.Puts.{ClearsSpare, KeepsOldIf, Puts, PutsLeft}

-- ---- no body stands in no bytes

no_bodies : program_file [] ≡ Ok []
unfolding program_file lines read_from
no_bodies = refl

abbrev list_of : Result (List NamedBody) KernelFault → List NamedBody
list_of (Ok list) = list
list_of (Err fault) = []

keeps_none : {P : Type 0} (name : KName) (body : List ℕ) → Keeps name body [] → P
keeps_none name body is =
    let none : is.list ≡ [] = ap list_of (sym is.read ∙ no_bodies) in
    absurd (true≢false (sym is.there ∙ ap (λ (l : List NamedBody). is_among name l) none))

-- so all old bodies stand in the text
lost_none : (old text left : List ℕ) → NothingLost old text [] → NothingLost old text left
lost_none old text left is = λ list read name there. stands list name (is list read name there) where
  stands : (list : List NamedBody) (name : KName) → Keeps name (body_of name list) text ⊎ Keeps name (body_of name list) [] → Keeps name (body_of name list) text ⊎ Keeps name (body_of name list) left
  stands list name (inl there) = inl there
  stands list name (inr there) = keeps_none name (body_of name list) there

-- ---- OUT.left

content_is : (files : List File) (name : List ℕ) (o : Option (List ℕ)) → file_of files name ≡ o → content_of files name ≡ bytes_of o
content_is files name o e = ap bytes_of e

lost_left : (was text out : List ℕ) (behind : Option Behind) (old new : List File) → PutsLeft behind out old new → NothingLost was text (left_bytes behind) → NothingLost was text (content_of new (left_name out))
lost_left was text out None old new put lost = lost_none was text _ lost
lost_left was text out (Some b) old new put lost = subst (λ (l : List ℕ). NothingLost was text l) (sym (content_is new (left_name out) (Some b.bodies) put.1)) lost

-- where a task is sound, OUT.left keeps what it had, and gets no more than the old OUT had
lost_of : (behind : Option Behind) (was text : List ℕ) → SavesIn behind was text → NothingLost was text (left_bytes behind)
lost_of None was text is = is
lost_of (Some b) was text is = is.whole

stands_there : (bytes out : List ℕ) → NothingLost bytes bytes out
stands_there bytes out = λ list read name there. inl (record { list = list; read = read; there = there; same = refl })

had_so : (behind : Option Behind) (was text out : List ℕ) (old new : List File) → SavesIn behind was text → PutsLeft behind out old new → StandsIn (content_of old (left_name out)) (content_of new (left_name out))
had_so None was text out old new is put =
    subst (λ (l : List ℕ). StandsIn (content_of old (left_name out)) l) (sym (content_is new (left_name out) (file_of old (left_name out)) put)) (stands_there (content_of old (left_name out)) [])
had_so (Some b) was text out old new is put =
    subst (λ (l : List ℕ). StandsIn l (content_of new (left_name out))) (sym (content_is old (left_name out) b.before put.0))
    (subst (λ (l : List ℕ). StandsIn (bytes_of b.before) l) (sym (content_is new (left_name out) (Some b.bodies) put.1)) is.grows)

known_so : (behind : Option Behind) (was text out : List ℕ) (old new : List File) → SavesIn behind was text → PutsLeft behind out old new → NothingLost (content_of new (left_name out)) (content_of old (left_name out)) was
known_so None was text out old new is put =
    subst (λ (l : List ℕ). NothingLost l (content_of old (left_name out)) was) (sym (content_is new (left_name out) (file_of old (left_name out)) put)) (stands_there (content_of old (left_name out)) was)
known_so (Some b) was text out old new is put =
    subst (λ (l : List ℕ). NothingLost (content_of new (left_name out)) l was) (sym (content_is old (left_name out) b.before put.0))
    (subst (λ (l : List ℕ). NothingLost l (bytes_of b.before) was) (sym (content_is new (left_name out) (Some b.bodies) put.1)) is.known)

is_some_of : (o : Option (List ℕ)) (bytes : List ℕ) → o ≡ Some bytes → IsSome o
is_some_of o bytes e = subst (λ (p : Option (List ℕ)). IsSome p) (sym e) refl

grows : (renewed : Renewed) (out : List ℕ) (b : Behind) (old new : List File) → IsLeft renewed (bytes_of b.before) b.bodies → PutsLeft (Some b) out old new → ClearsSpare (Some b) out old new → Grows renewed out old new
grows renewed out b old new is put clear = record {
  there = is_some_of _ b.bodies put.1;
  bytes = subst (λ (l : List ℕ). IsLeft renewed (content_of old (left_name out)) l) (sym (content_is new (left_name out) (Some b.bodies) put.1))
      (subst (λ (l : List ℕ). IsLeft renewed l b.bodies) (sym (content_is old (left_name out) b.before put.0)) is);
  spare = clear.1;
}

grows_by : (gone : List KName) (renewed : Renewed) (out : List ℕ) (behind : Option Behind) (old new : List File) → LeavesAs gone renewed behind → PutsLeft behind out old new → ClearsSpare behind out old new → GrowsBy gone renewed out old new
grows_by [] renewed out behind old new none put clear = record {
  left = subst (λ (b : Option Behind). PutsLeft b out old new) none put;
  spare = subst (λ (b : Option Behind). ClearsSpare b out old new) none clear;
}
grows_by (name ∷ names) renewed out behind old new is put clear =
    grows renewed out is.0 old new is.2 (subst (λ (b : Option Behind). PutsLeft b out old new) is.1 put) (subst (λ (b : Option Behind). ClearsSpare b out old new) is.1 clear)

-- ---- the lines of the old OUT

keeps_lines : (keeps : Bool) (was : Option (List ℕ)) (out : List ℕ) (old new : List File) → (keeps ≡ false → SparesLines (bytes_of was)) → KeepsOldIf keeps out was old new → KeepsLines was out old new
keeps_lines keeps None out old new spared kept = tt
keeps_lines false (Some bytes) out old new spared kept = inl (spared refl)
keeps_lines true (Some bytes) out old new spared kept = inr kept

-- ---- all of it

at_out : (out : List ℕ) (wanted : Wanted) (renewed : Renewed) (task : Task) (old new : List File) → task.out ≡ out → Fits wanted renewed task → Puts task old new → Renews task.out wanted old new
at_out out wanted renewed task old new e fits puts =
    let was = content_is old task.out task.old puts.was in
    let text : content_of new task.out ≡ task.text = content_is new task.out (Some task.text) puts.text in
    record {
      task = task;
      renewed = renewed;
      at = refl;
      fits = fits;
      puts = puts;
      renewal = subst (λ (l : List ℕ). IsRenewal l wanted renewed) (sym was) fits.renewal;
      text = puts.text ∙ ap Some fits.text;
      lost = subst (λ (l : List ℕ). NothingLost l (content_of new task.out) (content_of new (left_name task.out))) (sym was)
          (subst (λ (l : List ℕ). NothingLost (bytes_of task.old) l (content_of new (left_name task.out))) (sym text)
          (lost_left (bytes_of task.old) task.text task.out task.behind old new puts.left (lost_of task.behind (bytes_of task.old) task.text fits.sound)));
      had = had_so task.behind (bytes_of task.old) task.text task.out old new fits.sound puts.left;
      known = subst (λ (l : List ℕ). NothingLost (content_of new (left_name task.out)) (content_of old (left_name task.out)) l) (sym was) (known_so task.behind (bytes_of task.old) task.text task.out old new fits.sound puts.left);
      left = grows_by renewed.gone.items renewed task.out task.behind old new fits.left puts.left puts.spare;
      lines = subst (λ (o : Option (List ℕ)). KeepsLines o task.out old new) (sym puts.was) (keeps_lines task.keeps_old task.old task.out old new fits.lines puts.kept);
      fresh = puts.fresh;
    }

pub renews : (out : List ℕ) (wanted : Wanted) (renewed : Renewed) (task : Task) (old new : List File) → task.out ≡ out → Fits wanted renewed task → Puts task old new → Renews out wanted old new
renews out wanted renewed task old new e fits puts = subst (λ (o : List ℕ). Renews o wanted old new) e (at_out out wanted renewed task old new e fits puts)
