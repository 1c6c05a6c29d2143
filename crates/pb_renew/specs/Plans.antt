-- What is to become of OUT and OUT.left.
use Rattle.std.specs.Prelude.{◌≡◌, ◌⊎◌, ℕ, false, List, [], ◌∷◌, Option, None, Some, unwrap_or, ⊤}
use Rattle.std.specs.String.{string_bytes}
use Rattle.pb_io.specs.Files.{File, file_of}
use Rattle.pb_ctree.specs.declared.body.Bodies.{Bodies}
use Rattle.pb_ctree.specs.declared.tree.CTree.{CTree}
use Rattle.pb_renew_text.specs.declared.wanted.Wanted.{Wanted}
use Rattle.pb_ctree.specs.declared.kernel.KName.{KName}
use Rattle.pb_ctree.specs.Texts.{Spells}
use Rattle.pb_renew_lines.specs.Lines.{first_indented}
use Rattle.pb_renew_lines.specs.Outside.{AreBlank}
use Rattle.pb_renew.specs.declared.made.Made.{Made}
use Rattle.pb_renew.specs.declared.place.Place.{Place}
use Rattle.pb_renew.specs.declared.plan.Plan.{Plan}
use Rattle.pb_renew_put.specs.declared.job.Job.{Job}
use Rattle.pb_renew_merge.specs.declared.renewed.Renewed.{Renewed}
use Rattle.pb_renew_laws.specs.Bodies.{Sound}
use Rattle.pb_renew_merge.specs.Renewed.{IsLeft, IsRenewal}
use Rattle.pb_renew_put.specs.Jobs.{Behind, Task, task_of}

-- no line of the bytes is lost where its bodies are kept: none looks like a marker that is indented, and those outside of bodies are the
-- compiler's, or blank
pub record SparesLines (bytes : List ℕ) : Type 0 where
  pub markers : first_indented bytes ≡ None
  pub outside : ((tree : CTree) × (bodies : Bodies) × Spells tree bodies bytes) ⊎ AreBlank bytes

abbrev pub bytes_of : Option (List ℕ) → List ℕ
bytes_of content = unwrap_or content []

-- where bodies are gone OUT.left gets them behind what it has; else it isn't touched
abbrev pub LeavesAs : List KName → Renewed → Option Behind → Type 0
LeavesAs [] renewed behind = behind ≡ None
LeavesAs (name ∷ names) renewed behind = (b : Behind) × (behind ≡ Some b) × IsLeft renewed (bytes_of b.before) b.bodies

-- what OUT.left has when it is put
abbrev pub left_bytes : Option Behind → List ℕ
left_bytes None = []
left_bytes (Some b) = b.bodies

-- the text of the tree, with each body that OUT had and that still has a function; the others go to OUT.left, which keeps what it had
-- and gets no more; and the old OUT is kept whole where a line of it would be lost
pub record Fits (wanted : Wanted) (renewed : Renewed) (task : Task) : Type 0 where
  pub renewal : IsRenewal (bytes_of task.old) wanted renewed
  pub text : task.text ≡ renewed.text.items
  pub left : LeavesAs renewed.gone.items renewed task.behind
  pub sound : Sound task
  pub lines : task.keeps_old ≡ false → SparesLines (bytes_of task.old)

abbrev pub renewed_of : Plan → Renewed
renewed_of plan = record { old = plan.old; text = plan.job.text; kept = plan.kept; gone = plan.gone }

abbrev pub IsPlan : Wanted → Plan → Type 0
IsPlan wanted plan = Fits wanted (renewed_of plan) (task_of plan.job)

-- what is put is for a protocol in this file with these bytes, and at this place
pub record IsFor (file source : List ℕ) (place : Place) (job : Job) : Type 0 where
  pub name : string_bytes job.file ≡ file
  pub bytes : job.source.items ≡ source
  pub out : string_bytes job.out ≡ string_bytes place.out

-- where OUT.left is to grow, it has what is told of it
abbrev pub WasBefore : Option Behind → Option (List ℕ) → Type 0
WasBefore None content = ⊤
WasBefore (Some b) content = b.before ≡ content

-- what was read is what the folder tells of OUT, and of OUT.left where that is to grow
pub record WasTold (task : Task) (place : Place) (files : List File) : Type 0 where
  pub out : task.old ≡ file_of files (string_bytes place.out)
  pub left : WasBefore task.behind (file_of files (string_bytes place.left))

-- the plan has what was read of OUT, what it gets, and what OUT.left gets
pub record IsPutTogether (old : Option (List ℕ)) (made : Made) (behind : Option Behind) (plan : Plan) : Type 0 where
  pub was : (task_of plan.job).old ≡ old
  pub renewed : renewed_of plan ≡ made.renewed
  pub left : (task_of plan.job).behind ≡ behind
  pub lines : plan.job.keeps_old ≡ made.is_losing
