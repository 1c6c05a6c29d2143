-- What is to be put.
use Rattle.std.specs.Prelude.{ℕ, Bool, List, Option}
use Rattle.std.specs.Option.{option_map}
use Rattle.std.specs.String.{string_bytes}
use Rattle.pb_renew_put.specs.declared.job.Job.{Job}
use Rattle.pb_renew_put.specs.declared.job.Leaving.{Leaving}

-- what OUT.left is to have, and what it had
pub record Behind : Type 0 where
  pub before : Option (List ℕ)
  pub bodies : List ℕ

pub record Task : Type 0 where
  -- the name of FILE, and what it has
  pub file : List ℕ
  pub source : List ℕ
  -- the name of OUT, what it has, and what it gets
  pub out : List ℕ
  pub old : Option (List ℕ)
  pub text : List ℕ
  -- where bodies go to OUT.left
  pub behind : Option Behind
  -- whether the old OUT is kept beside it
  pub keeps_old : Bool

abbrev pub behind_of : Leaving → Behind
behind_of leaving = record { before = option_map (λ b. b.items) leaving.before; bodies = leaving.bodies.items }

abbrev pub task_of : Job → Task
task_of job = record {
  file = string_bytes job.file;
  source = job.source.items;
  out = string_bytes job.out;
  old = option_map (λ b. b.items) job.old;
  text = job.text.items;
  behind = option_map behind_of job.leaving;
  keeps_old = job.keeps_old;
}
