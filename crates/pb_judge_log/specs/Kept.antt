-- What the tables of a core keep.
use Rattle.std.specs.Prelude.{◌≡◌, map}
use Rattle.pb_local.specs.Tree.{Program}
use Rattle.pb_judge_log.specs.Entries.{rows_of}
use Rattle.pb_judge_log.specs.declared.tables.Tables.{Tables}

abbrev pub rows_in : Tables → Program
rows_in t = rows_of t.labels.now t.kernels.now

-- the names are those of the rows, in order
pub record AreKept (t : Tables) : Type 0 where
  pub labels : t.label_names ≡ map (λ l. l.name) t.labels.now
  pub kernels : t.kernel_names ≡ map (λ k. k.name) t.kernels.now
