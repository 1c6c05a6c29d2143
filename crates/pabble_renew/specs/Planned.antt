-- What is planned for FILE and OUT.
use Rattle.std.specs.Prelude.{◌≡◌, ℕ, ◌≤◌, false, List, Option, IfSome, length}
use Rattle.std.specs.String.{string_bytes}
use Rattle.pb_io.specs.Faults.{Rose}
use Rattle.pb_io.specs.Files.{File, IsContent, content_of, file_of}
use Rattle.pb_core_language.specs.Plain.{Protocol}
use Rattle.pb_ctree.specs.Trees.{IsTree}
use Rattle.pb_renew_text.specs.declared.wanted.Wanted.{Wanted}
use Rattle.pb_cli_file.specs.Files.{IsFileRefusal, most_bytes}
use Rattle.pabble_renew.specs.Wanted.{IsWantedOf}
use Rattle.pb_cli_status.specs.Lines as Lines
use Rattle.pb_cli_status.specs.declared.refusal.Refusal.TheVariants as refusal
use Rattle.pb_compile.specs.Compiled.{IsCompiled}
use Rattle.pb_renew.specs.Places.{Agrees}
use Rattle.pb_renew.specs.Plans.{IsPlan, WasBefore, WasTold}
use Rattle.pb_renew.specs.Reasons.{IsRead, IsReasonWith}
use Rattle.pb_renew.specs.declared.place.Place.{Place}
use Rattle.pb_renew.specs.declared.losing.Losing.TheVariants as losing
use Rattle.pb_renew.specs.declared.plan.Plan.{Plan}
use Rattle.pb_renew_put.specs.Jobs.{Task, task_of}
use Rattle.pb_typed_types.specs.declared.types.Form.TheVariants.{Plain}
use Rattle.pb_renew_put.specs.Names.{is_written, left_name}
use Rattle.pabble_renew.specs.Asked.{Asked}
use Rattle.pabble_renew.specs.Causes.{TellAlike}
use Rattle.pabble_renew.specs.declared.fault.Fault.{Fault}
use Rattle.pabble_renew.specs.declared.fault.Fault.TheVariants as fault
use Rattle.pabble_renew.specs.declared.source.Source.{Source}

-- a protocol with these bytes is accepted, and wanted is the plain text of one of the trees that may be printed for it
pub record Compiles (bytes : List ℕ) (wanted : Wanted) : Type 0 where
  pub protocol : Protocol
  pub short : length bytes ≤ most_bytes
  pub compiled : IsCompiled bytes protocol wanted.tree
  pub form : wanted.form ≡ Plain

-- these are the bytes of FILE, and its tree
pub record IsSource (file : List ℕ) (folder : Option (List File)) (source : Source) : Type 0 where
  pub content : IsContent folder file source.bytes.items
  pub compiles : Compiles source.bytes.items source.wanted
  pub tree : IsTree source.wanted.tree

-- what was read is what the folder tells
pub record IsAsTold (a : Asked) (task : Task) (files : List File) : Type 0 where
  pub out : task.old ≡ file_of files a.out
  pub left : WasBefore task.behind (file_of files (left_name a.out))

-- the same, at the place of OUT
pub record IsPlannedAt (a : Asked) (place : Place) (folder : Option (List File)) (wanted : Wanted) (plan : Plan) : Type 0 where
  pub content : IsContent folder a.file (task_of plan.job).source
  pub compiles : Compiles (task_of plan.job).source wanted
  pub tree : IsTree wanted.tree
  pub fits : IsPlan wanted plan
  pub file : (task_of plan.job).file ≡ a.file
  pub out : (task_of plan.job).out ≡ string_bytes place.out
  pub told : IfSome folder (λ files. Agrees place files → WasTold (task_of plan.job) place files)
  pub spared : a.losing ≡ losing.Refused → plan.job.keeps_old ≡ false

-- why nothing is planned at this place
abbrev pub IsFolderCause : Fault → Asked → Place → Option (List File) → ℕ → ℕ → Type 0
IsFolderCause (fault.File it) a place folder before now =
    IsFileRefusal a.file folder (Lines.status_of it) (Lines.line_of it) × (it ≡ refusal.ReadFault → Rose before now)
IsFolderCause (fault.Out reason) a place folder before now =
    IsRead reason before now
    × ((wanted : Wanted) × IsWantedOf a.file folder wanted
    × IfSome folder (λ files. Agrees place files → IsReasonWith a.losing (content_of files (string_bytes place.out)) (content_of files (string_bytes place.left)) wanted reason))
IsFolderCause other a place folder before now = ⊥

-- FILE is accepted, and this is planned with one of its trees: for OUT, or the file that it leads to
pub record IsPlanned (a : Asked) (store folder : Option (List File)) (wanted : Wanted) (plan : Plan) : Type 0 where
  pub content : IsContent folder a.file (task_of plan.job).source
  pub compiles : Compiles (task_of plan.job).source wanted
  pub tree : IsTree wanted.tree
  pub fits : IsPlan wanted plan
  pub file : (task_of plan.job).file ≡ a.file
  pub out : IfSome store (λ now. (task_of plan.job).out ≡ a.out)
  pub apart : is_written (task_of plan.job).out a.file ≡ false
  pub told : IfSome store (λ now. IfSome folder (λ files. TellAlike a.out now files → IsAsTold a (task_of plan.job) files))
  pub spared : a.losing ≡ losing.Refused → plan.job.keeps_old ≡ false
