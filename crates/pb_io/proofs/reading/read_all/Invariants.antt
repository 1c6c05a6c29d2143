use Rattle.std.proofs.Common.{◌≡◌, ◌+◌, ◌-◌, ◌≤◌, length}
use Rattle.std.specs.Io.KnownBytes.{Consumes}
use Rattle.pb_io.specs.Passed.{count_after}
use Rattle.pb_io.proofs.reading.read_all.Given as goal

abbrev pub invariant-loop-piece : goal.invariant-loop-piece
invariant-loop-piece g l = record {
  size : length l.bytes.items ≤ l.limit + 1;
  read : Consumes (g.F.Folder.left l.initial.folder) (g.F.Folder.left l.folder) l.bytes.items;
  holds : g.F.Folder.holds l.folder ≡ g.F.Folder.holds l.initial.folder;
  steady : g.F.Folder.steady l.folder ≡ g.F.Folder.steady l.initial.folder;
  later : g.F.Folder.faults l.initial.folder ≤ g.F.Folder.faults l.folder;
  passed : g.F.Folder.passed l.folder ≡ count_after (g.F.Folder.passed l.initial.folder) (length l.bytes.items);
  reads : g.F.Folder.reads l.folder ≤ g.F.Folder.reads l.initial.folder + length l.bytes.items;
}

abbrev pub decreases-loop-piece : goal.decreases-loop-piece
decreases-loop-piece g l = l.limit + 1 - length l.bytes.items
