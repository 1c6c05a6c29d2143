-- What is planned, and why nothing is.
use Rattle.std.proofs.Common.{◌≡◌, ℕ, ◌≤◌, false, inr, List, Option, None, Some, is_some, length, sym, ap, subst, ◌∙◌, refl}
use Rattle.std.specs.Prelude.{IfSome}
use Rattle.std.specs.String.{string_bytes}
use Rattle.pb_io.specs.Files.{File, IsContent, content_of, file_of}
use Rattle.pb_core_language.specs.Plain.{Protocol}
use Rattle.pb_ctree.specs.declared.tree.CTree.{CTree}
use Rattle.pb_renew_text.specs.declared.wanted.Wanted.{Wanted}
use Rattle.pb_typed_types.specs.declared.types.Form.TheVariants.{Plain}
use Rattle.pb_cli_file.specs.Files.{most_bytes}
use Rattle.pabble_renew.specs.Wanted.{IsWantedOf}
use Rattle.pb_compile.specs.Compiled.{IsCompiled}
use Rattle.pb_renew.specs.Places.{Agrees, IsPlace}
use Rattle.pb_renew.specs.Plans.{IsFor, IsPlan, WasBefore, WasTold}
use Rattle.pb_renew.specs.Reasons.{IsRead, IsReasonWith}
use Rattle.pb_renew.specs.declared.losing.Losing.TheVariants as losing
use Rattle.pb_renew.specs.declared.place.Place.{Place}
use Rattle.pb_renew.specs.declared.plan.Plan.{Plan}
use Rattle.pb_renew.specs.declared.unrenewed.Unrenewed.{Unrenewed}
use Rattle.pb_renew.specs.declared.unrenewed.Unrenewed.TheVariants as why
use Rattle.pb_renew.proofs.Reasons.{read_sooner}
use Rattle.pb_renew_put.specs.Jobs.{Task, task_of}
use Rattle.pb_renew_put.specs.Names.{is_written, left_name}
use Rattle.pabble_renew.specs.Asked.{Asked}
use Rattle.pabble_renew.specs.Causes.{IsCause, IsOutCause, IsReasonAt, Scene, TellAlike}
use Rattle.pabble_renew.specs.Planned.{Compiles, IsAsTold, IsFolderCause, IsPlanned, IsPlannedAt, IsSource}
use Rattle.pabble_renew.specs.declared.fault.Fault.{Fault}
use Rattle.pabble_renew.specs.declared.fault.Fault.TheVariants as fault
use Rattle.pabble_renew.specs.declared.source.Source.{Source}

-- ---- FILE

pub wanted_of : (file : List ℕ) (folder : Option (List File)) (bytes : List ℕ) (wanted : Wanted) → IsContent folder file bytes → Compiles bytes wanted → IsWantedOf file folder wanted
wanted_of file folder bytes wanted content is = record { tree = record { bytes = bytes; protocol = is.protocol; content = content; short = is.short; compiled = is.compiled }; form = is.form }

pub compiles : (bytes : List ℕ) (p : Protocol) (tree : CTree) → length bytes ≤ most_bytes → IsCompiled bytes p tree → Compiles bytes (record { tree = tree; form = Plain })
compiles bytes p tree short is = record { protocol = p; short = short; compiled = is; form = refl }

-- ---- at a place

pub planned_at : (a : Asked) (place : Place) (folder mid : Option (List File)) (source : Source) (bytes : List ℕ) (plan : Plan) → mid ≡ folder → IsSource a.file folder source → bytes ≡ source.bytes.items → IsPlan source.wanted plan → IsFor a.file bytes place plan.job
    → IfSome mid (λ files. Agrees place files → WasTold (task_of plan.job) place files) → (a.losing ≡ losing.Refused → plan.job.keeps_old ≡ false) → IsPlannedAt a place folder source.wanted plan
planned_at a place folder mid source bytes plan same is e planned of told spared =
    let was : source.bytes.items ≡ (task_of plan.job).source = sym e ∙ sym of.bytes in
    record {
      content = subst (λ (l : List ℕ). IsContent folder a.file l) was is.content;
      compiles = subst (λ (l : List ℕ). Compiles l source.wanted) was is.compiles;
      tree = is.tree;
      fits = planned;
      file = of.name;
      out = of.out;
      told = subst (λ (h : Option (List File)). IfSome h (λ files. Agrees place files → WasTold (task_of plan.job) place files)) same told;
      spared = spared;
    }

pub unplanned : (a : Asked) (place : Place) (folder mid : Option (List File)) (source : Source) (reason : Unrenewed) (f0 f1 f2 : ℕ) → mid ≡ folder → f0 ≤ f1 → IsSource a.file folder source → IsRead reason f1 f2
    → IfSome mid (λ files. Agrees place files → IsReasonWith a.losing (content_of files (string_bytes place.out)) (content_of files (string_bytes place.left)) source.wanted reason)
    → IsFolderCause (fault.Out reason) a place folder f0 f2
unplanned a place folder mid source reason f0 f1 f2 same le is read refused = (
  read_sooner reason f0 f1 f2 le read,
  (
    source.wanted,
    wanted_of a.file folder source.bytes.items source.wanted is.content is.compiles,
    subst (λ (h : Option (List File)). IfSome h (λ files. Agrees place files → IsReasonWith a.losing (content_of files (string_bytes place.out)) (content_of files (string_bytes place.left)) source.wanted reason)) same refused,
  ),
)

-- ---- at the place of OUT

pub agrees : (out : List ℕ) (place : Place) (now files : List File) → IsPlace out place now → string_bytes place.left ≡ left_name (string_bytes place.out) → TellAlike out now files → Agrees place files
agrees out place now files at left alike =
    let name : string_bytes place.left ≡ left_name out = left ∙ ap left_name at.name in
    record {
      out = at.agrees.out ∙ ap (λ (n : List ℕ). is_some (file_of now n)) at.name ∙ alike.text ∙ ap (λ (n : List ℕ). is_some (file_of files n)) (sym at.name);
      left = at.agrees.left ∙ ap (λ (n : List ℕ). is_some (file_of now n)) name ∙ alike.left ∙ ap (λ (n : List ℕ). is_some (file_of files n)) (sym name);
    }

module _ (a : Asked) (place : Place) (left : string_bytes place.left ≡ left_name (string_bytes place.out)) where
  reason_with : (wanted : Wanted) (reason : Unrenewed) (now files : List File) → IsPlace a.out place now
      → IsReasonWith a.losing (content_of files (string_bytes place.out)) (content_of files (string_bytes place.left)) wanted reason → IsReasonWith a.losing (content_of files a.out) (content_of files (left_name a.out)) wanted reason
  reason_with wanted reason now files at is =
      subst (λ (n : List ℕ). IsReasonWith a.losing (content_of files a.out) (content_of files n) wanted reason) (left ∙ ap left_name at.name)
      (subst (λ (n : List ℕ). IsReasonWith a.losing (content_of files n) (content_of files (string_bytes place.left)) wanted reason) at.name is)

  reason_alike : (wanted : Wanted) (reason : Unrenewed) (store folder : Option (List File)) → IfSome store (IsPlace a.out place)
      → IfSome folder (λ files. Agrees place files → IsReasonWith a.losing (content_of files (string_bytes place.out)) (content_of files (string_bytes place.left)) wanted reason)
      → IfSome store (λ now. IfSome folder (λ files. TellAlike a.out now files → IsReasonWith a.losing (content_of files a.out) (content_of files (left_name a.out)) wanted reason))
  reason_alike wanted reason None folder at is = tt
  reason_alike wanted reason (Some now) None at is = tt
  reason_alike wanted reason (Some now) (Some files) at is = λ alike. reason_with wanted reason now files at (is (agrees a.out place now files at left alike))

  reason_at : (reason : Unrenewed) (s : Scene) (before after : ℕ) → IfSome s.store (IsPlace a.out place) → IsFolderCause (fault.Out reason) a place s.folder before after → IsReasonAt reason a s
  reason_at reason s before after at is = (is.1.0, is.1.1, reason_alike is.1.0 reason s.store s.folder at is.1.2)

  out_cause : (reason : Unrenewed) (s : Scene) → IfSome s.store (IsPlace a.out place) → IsFolderCause (fault.Out reason) a place s.folder s.unread s.unread_now → IsOutCause reason a s
  out_cause why.ReadFault s at is = inr is.0
  out_cause why.NoFile s at is = absurd is.0
  out_cause why.Shared s at is = absurd is.0
  out_cause why.TooLong s at is = reason_at why.TooLong s s.unread s.unread_now at is
  out_cause why.NoMemory s at is = tt
  out_cause (why.Indented line) s at is = reason_at (why.Indented line) s s.unread s.unread_now at is
  out_cause (why.Out kernel) s at is = reason_at (why.Out kernel) s s.unread s.unread_now at is
  out_cause (why.Outside line) s at is = reason_at (why.Outside line) s s.unread s.unread_now at is
  out_cause (why.LeftIndented line) s at is = reason_at (why.LeftIndented line) s s.unread s.unread_now at is
  out_cause (why.Left kernel) s at is = reason_at (why.Left kernel) s s.unread s.unread_now at is
  out_cause why.Busy s at is = absurd is.0
  out_cause why.Changed s at is = absurd is.0
  out_cause why.Olds s at is = absurd is.0
  out_cause why.WriteFault s at is = absurd is.0
  out_cause why.Halfway s at is = absurd is.0

  pub folder_cause : (it : Fault) (s : Scene) → IfSome s.store (IsPlace a.out place) → IsFolderCause it a place s.folder s.unread s.unread_now → IsCause it a s
  folder_cause fault.Usage s at is = absurd is
  folder_cause fault.Written s at is = absurd is
  folder_cause fault.NoMemory s at is = absurd is
  folder_cause fault.NoFile s at is = absurd is
  folder_cause (fault.File it) s at is = (is.0, λ e. inr (is.1 e))
  folder_cause (fault.Out reason) s at is = out_cause reason s at is

  as_told : (task : Task) (now files : List File) → IsPlace a.out place now → WasTold task place files → IsAsTold a task files
  as_told task now files at is = record {
    out = is.out ∙ ap (λ (n : List ℕ). file_of files n) at.name;
    left = subst (λ (n : List ℕ). WasBefore task.behind (file_of files n)) (left ∙ ap left_name at.name) is.left;
  }

  told_alike : (task : Task) (store folder : Option (List File)) → IfSome store (IsPlace a.out place) → IfSome folder (λ files. Agrees place files → WasTold task place files)
      → IfSome store (λ now. IfSome folder (λ files. TellAlike a.out now files → IsAsTold a task files))
  told_alike task None folder at is = tt
  told_alike task (Some now) None at is = tt
  told_alike task (Some now) (Some files) at is = λ alike. as_told task now files at (is (agrees a.out place now files at left alike))

  out_named : (o : List ℕ) (store : Option (List File)) → o ≡ string_bytes place.out → IfSome store (IsPlace a.out place) → IfSome store (λ now. o ≡ a.out)
  out_named o None e at = tt
  out_named o (Some now) e at = e ∙ at.name

  pub planned_for : (store folder : Option (List File)) (wanted : Wanted) (plan : Plan) → IfSome store (IsPlace a.out place) → is_written (string_bytes place.out) a.file ≡ false → IsPlannedAt a place folder wanted plan → IsPlanned a store folder wanted plan
  planned_for store folder wanted plan at apart is = record {
    content = is.content;
    compiles = is.compiles;
    tree = is.tree;
    fits = is.fits;
    file = is.file;
    out = out_named (task_of plan.job).out store is.out at;
    apart = subst (λ (o : List ℕ). is_written o a.file ≡ false) (sym is.out) apart;
    told = told_alike (task_of plan.job) store folder at is.told;
    spared = is.spared;
  }

pub folder_busy : (it : Fault) (a : Asked) (place : Place) (folder : Option (List File)) (before after : ℕ) → IsFolderCause it a place folder before after → it ≡ fault.Out why.Busy → ⊥
folder_busy it a place folder before after is e = absurd (subst (λ (f : Fault). IsFolderCause f a place folder before after) e is).0

pub folder_halfway : (it : Fault) (a : Asked) (place : Place) (folder : Option (List File)) (before after : ℕ) → IsFolderCause it a place folder before after → it ≡ fault.Out why.Halfway → ⊥
folder_halfway it a place folder before after is e = absurd (subst (λ (f : Fault). IsFolderCause f a place folder before after) e is).0
